use Rattle.std.proofs.Common.{◌≡◌, map, filter, take, ltb}
use Rattle.elf_image.specs.Loads.{segment_of}
use Rattle.elf_image.proofs.loading.regions.Given as goal

abbrev pub invariant-loop-header : goal.invariant-loop-header
invariant-loop-header l = l.regions.items ≡ map (segment_of l.file) (filter (λ h. ltb 0 h.memory_size) (take l.header-index l.loads))
