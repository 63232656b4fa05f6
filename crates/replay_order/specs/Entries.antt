-- What the entries of a journal make of a log.
use Rattle.std.specs.Prelude.{◌≡◌, ◌<◌, ◌+◌, ◌++◌, ◌∷◌, ℕ, false, List, [], None, length, take, slice_index_or}
use Rattle.flat_model.specs.declared.journals.Entry.{Entry}
use Rattle.flat_model.specs.declared.journals.Entry.TheVariants.{Turn}
use Rattle.flat_model.specs.declared.journals.Item.{Item}
use Rattle.flat_model.specs.declared.journals.Mode.{Mode}
use Rattle.flat_model.specs.Log.{log, steps, with_entry, journaled, IsJoined}
use Rattle.flat_model.specs.Plan.{Planned}
use Rattle.flat_model.specs.World.{Machine}
use Rattle.run_rules.specs.Guest.{Run, run_of}
use Rattle.run_rules.specs.Due.{turn_length, wanted}
use Rattle.run_rules.specs.Legal.{Legal, Rule, Whole, may_step}

-- one entry more
abbrev pub TakesOneMore : Type 0
TakesOneMore = (es : List Entry) (e : Entry) (k : ℕ) → k < length es → slice_index_or es k e ≡ e
    → log (take (k + 1) es) ≡ with_entry e (log (take k es))

-- where neighbouring Turns are joined, a Turn's hart made no step right before it
abbrev pub TurnsBeginAnew : Type 0
TurnsBeginAnew = (es : List Entry) (e : Entry) (h n k : ℕ) (past : List Item) → IsJoined es → k < length es → slice_index_or es k e ≡ e
    → e ≡ Turn h n
    → journaled past ≡ log (take k es) → (turn_length h past ≡ 0) × (0 < n)

-- an entry whose item breaks its rule behind the log makes no legal journal, and neither does a Turn that goes on past such a step
abbrev pub BrokenRulesBreakJournals : Type 0
BrokenRulesBreakJournals = (m : Machine) (mode : Mode) (plan : Planned) (x : Item) (now past : List Item) → journaled now ≡ past
    → (Rule (run_of m mode plan) x now → ⊥) → Legal (run_of m mode plan) (x ∷ past) → ⊥

abbrev pub BrokenStepsBreakTurns : Type 0
BrokenStepsBreakTurns = (m : Machine) (mode : Mode) (plan : Planned) (h k n : ℕ) (now past : List Item) → k < n
    → journaled now ≡ steps h k past → may_step (run_of m mode plan) h now ≡ false → Legal (run_of m mode plan) (steps h n past) → ⊥

-- a whole journal has a whole log
abbrev pub WholeJournalsHaveWholeLogs : Type 0
WholeJournalsHaveWholeLogs = (m : Machine) (mode : Mode) (plan : Planned) (past : List Item)
    → Legal (run_of m mode plan) past → Whole (run_of m mode plan) (journaled past) → Whole (run_of m mode plan) past

-- a plan without a script wants nothing more, once it wanted nothing
abbrev pub WantsNothingMore : Type 0
WantsNothingMore = (run : Run) (more past : List Item) → run.plan.script ≡ [] → wanted run past ≡ None → Legal run (more ++ past)
    → wanted run (more ++ past) ≡ None
