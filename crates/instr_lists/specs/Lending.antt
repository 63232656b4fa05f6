-- What a cache is once the list that it lent is given back.
use Rattle.std.specs.Prelude.{⊤, List}
use Rattle.std.specs.Borrow.{follows_so, MutBor, Fml}
use mathlib.Core.Option.{none}
use Rattle.instr_lists.specs.declared.kept_lists.KeptList.{KeptList}
use Rattle.instr_lists.specs.contracts.caching.ListCache.{the_row}
use Rattle.instr_lists.specs.Caches.{AreFrom}

-- it keeps what it kept and what was asked for, or less
abbrev pub KeepsFromThen : MutBor (List KeptList) → KeptList → Fml
KeepsFromThen cache asked = follows_so the_row the_row cache.ghost_name none (λ _ _. ⊤) (λ last. AreFrom asked cache.now last)
