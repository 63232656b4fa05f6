-- What of an event filters look at: its sort. Two events of one sort pass the same filters.
use Rattle.std.specs.Prelude.{◌≡◌, ◌<◌, ◌+◌, ◌*◌, ℕ, Bool, ◌&&◌, List, [], ◌∷◌, ◌++◌, flat_map, length}
use Rattle.flat_model.specs.declared.events.What.{What}
use Rattle.flat_model.specs.declared.events.What.TheVariants as what
use Rattle.flat_model.specs.declared.plugins.Filter.{Filter}
use Rattle.flat_model.specs.declared.limits.TheConstants.{KIND_INIT, KIND_BLOCK, KIND_INSN, KIND_MEM, KIND_SYS, KIND_SYSRET, KIND_EXIT}
use Rattle.block_finder.specs.declared.blocks.Site.{Site}
use Rattle.block_finder.specs.Block.{Stretch}
use Rattle.event_walk.specs.Matches.{meet, is_within, class_bit}
use Rattle.instr_lists.specs.declared.sorts.Sort.{Sort}
use Rattle.instr_lists.specs.declared.sorts.Sort.TheVariants.{Init, Block, Insn, Mem, Sys, SysRet, Exit}

-- whether a filter lets events of a sort through
unfoldable pub passes : Filter → Sort → Bool
passes filter Init = meet filter.kinds KIND_INIT
passes filter (Block pc) = meet filter.kinds KIND_BLOCK && is_within filter pc
passes filter (Insn pc class) = meet filter.kinds KIND_INSN && (is_within filter pc && meet filter.classes (class_bit class))
passes filter (Mem pc class rw) =
    meet filter.kinds KIND_MEM && (is_within filter pc && (meet filter.classes (class_bit class) && meet filter.rw rw))
passes filter Sys = meet filter.kinds KIND_SYS
passes filter SysRet = meet filter.kinds KIND_SYSRET
passes filter Exit = meet filter.kinds KIND_EXIT

-- the accesses that a word of a block can make
abbrev pub access_sorts : Site → List Sort
access_sorts s = Mem s.pc s.class 1 ∷ Mem s.pc s.class 2 ∷ Mem s.pc s.class 3 ∷ []

-- the sorts of event that a word of a block can give
abbrev pub site_sorts : Site → List Sort
site_sorts s = Block s.pc ∷ Insn s.pc s.class ∷ access_sorts s

-- those that any step can give
abbrev pub other_sorts : List Sort
other_sorts = Init ∷ Sys ∷ SysRet ∷ Exit ∷ []

abbrev pub sorts_of : List Site → List Sort
sorts_of sites = flat_map site_sorts sites ++ other_sorts

-- an address that is that of a word of the block
pub record IsInside (block : Stretch) (pc : ℕ) : Type 0 where
  pub word : ℕ
  pub within : word < length block.sites
  pub place : pc ≡ block.pc + 4 * word

-- the direction of an access: a load, a store, or both
pub record IsAccess (block : Stretch) (pc rw : ℕ) : Type 0 where
  pub inside : IsInside block pc
  pub least : 0 < rw
  pub most : rw < 4

-- an event that steps in a block can give: its pc, where it has one, is that of a word of the block
abbrev pub LiesIn : Stretch → What → Type 0
LiesIn block (what.Block pc n) = IsInside block pc
LiesIn block (what.Insn pc word) = IsInside block pc
LiesIn block (what.Mem pc addr shift signed rw read written) = IsAccess block pc rw
LiesIn block _ = Unit {0}
