use Rattle.elf_image.proofs.LawProofs.{one_image, one_refusal, never_both, always_one, entry_present}
use Rattle.elf_image.proofs.KeptProofs.{loads_by_rules}
use Rattle.elf_image.proofs.laws.answers_are_one.Goals as goal

pub returns : goal.returns
returns c = record {
  one_image = one_image;
  one_refusal = one_refusal;
  never_both = never_both;
  always_one = always_one;
  enters_code = entry_present;
  by_rules = loads_by_rules;
}
