use Rattle.std.proofs.Common.{◌∙◌, ap}
use Rattle.byteorder.specs.Endian.{little_number}
use Rattle.elf_image.proofs.Numbers.{u64_read}
use Rattle.elf_image.proofs.fields.u64_at.Goals as goal

pub returns : goal.returns
returns c = c.read_u64.ensures ∙ ap (little_number 8) c.split_at.ensures.back ∙ u64_read c.args.file.now c.args.offset
