use Rattle.std.proofs.Common.{◌≡◌, ◌-◌, ◌++◌, filter}
use Rattle.elf_image.specs.Fields.{e_phnum, headers_from, is_load, segments}
use Rattle.elf_image.proofs.headers.segments.Given as goal

-- the segments so far and the loadable ones that are left are all of them
abbrev pub invariant-loop-index : goal.invariant-loop-index
invariant-loop-index l = record {
  end : l.index-end ≡ e_phnum l.file;
  all : l.loads.items ++ filter is_load (headers_from l.file l.index (l.index-end - l.index)) ≡ segments l.file;
}
