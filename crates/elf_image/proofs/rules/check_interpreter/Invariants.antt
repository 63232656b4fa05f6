use Rattle.std.proofs.Common.{◌≡◌, ◌-◌, find}
use Rattle.elf_image.specs.Fields.{e_phnum, headers, headers_from, is_interpreter}
use Rattle.elf_image.proofs.rules.check_interpreter.Given as goal

-- the first interpreter of those that are left is the first of all
abbrev pub invariant-loop-index : goal.invariant-loop-index
invariant-loop-index l = record {
  end : l.index-end ≡ e_phnum l.file;
  rest : find is_interpreter (headers_from l.file l.index (l.index-end - l.index)) ≡ find is_interpreter (headers l.file);
}
