use Rattle.std.proofs.Common.{◌≡◌, ◌+◌, ◌-◌, ◌≤◌, length, filter}
use Rattle.elf_image.specs.Fields.{e_phnum, headers_from, is_load, segments}
use Rattle.elf_image.proofs.headers.segment_count.Given as goal

-- the count so far and the loadable ones that are left are all of them
abbrev pub invariant-loop-index : goal.invariant-loop-index
invariant-loop-index l = record {
  end : l.index-end ≡ e_phnum l.file;
  total : l.count + length (filter is_load (headers_from l.file l.index (l.index-end - l.index))) ≡ length (segments l.file);
  small : l.count ≤ l.index;
}
