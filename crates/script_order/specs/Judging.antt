-- The lines of a plan's script as they are judged, one after the other, behind a Turn or behind the installs: each stands where the
-- registry allows its order, and is passed over where it doesn't.
use Rattle.std.specs.Prelude.{◌≡◌, ◌<◌, ◌≤◌, ◌+◌, ◌-◌, ℕ, true, false, List, [], ◌∷◌, length, slice_index_or, Some, None}
use Rattle.std.specs.List.Sorted.{IsNonDecreasingBy}
use Rattle.flat_model.specs.declared.journals.Item.{Item}
use Rattle.flat_model.specs.declared.journals.Item.TheVariants.{Step, Ordered, GaveBack, Left, Told, Got, Took}
use Rattle.flat_model.specs.declared.journals.Origin.TheVariants.{Start, Script, Asked, Control}
use Rattle.flat_model.specs.declared.journals.Timed.{Timed}
use Rattle.flat_model.specs.declared.limits.TheConstants.{NO_PARTY, BLOCK_WORDS}
use Rattle.flat_model.specs.Log.{steps, total_steps}
use Rattle.run_rules.specs.Guest.{Run, plugins}
use Rattle.run_rules.specs.Due.{turn_length, line_party, next_line, allowed, missing_install, wanted}
use Rattle.run_rules.specs.Legal.{Legal}

-- a line of a script, by its number
pub record IsLine (script : List Timed) (i : ℕ) (t : Timed) : Type 0 where
  pub within : i < length script
  pub there : slice_index_or script i t ≡ t

-- the lines whose moment is at most k are those before line c
pub record ComeBefore (script : List Timed) (k c : ℕ) : Type 0 where
  pub within : c ≤ length script
  pub come : (i : ℕ) (t : Timed) → i < c → IsLine script i t → t.when ≤ k
  pub later : (i : ℕ) (t : Timed) → c ≤ i → IsLine script i t → k < t.when

-- Behind a log line c is the next to be judged, for this party: of the lines that were to be judged there, those before c aren't allowed
-- now, and those from c on that are would stand in time.
pub record IsJudging (run : Run) (who c : ℕ) (past : List Item) : Type 0 where
  pub installed : missing_install run past ≡ None
  pub by : line_party past ≡ who
  pub next : next_line run past ≤ c
  pub refused : (i : ℕ) (t : Timed) → next_line run past ≤ i → i < c → IsLine run.plan.script i t
      → allowed (plugins run past) t.order ≡ false
  pub soon : (i : ℕ) (t : Timed) → c ≤ i → IsLine run.plan.script i t → allowed (plugins run past) t.order ≡ true
      → total_steps past < t.when + BLOCK_WORDS

-- Behind a Turn that has n steps so far the first to be judged is the first line whose moment hadn't come when the Turn began.
abbrev pub NextIsByTurn : Type 0
NextIsByTurn = (run : Run) (h c : ℕ) (past : List Item) → 0 < turn_length h past
    → ComeBefore run.plan.script (total_steps past - turn_length h past) c → next_line run past ≡ c

-- It is judged next once hart h has made up to 512 steps after a log behind which nothing was wanted.
abbrev pub JudgingBegins : Type 0
JudgingBegins = (run : Run) (h k c : ℕ) (before past : List Item) → IsNonDecreasingBy (λ t. t.when) run.plan.script
    → wanted run before ≡ None → 0 < k → k ≤ BLOCK_WORDS → past ≡ steps h k before
    → ComeBefore run.plan.script (total_steps past - turn_length h past) c → IsJudging run h c past

-- Before any step, behind the installs of the start, it is the first line of all.
abbrev pub IsStart : Item → Type 0
IsStart (Step hart) = ⊥
IsStart (Ordered Start order) = Unit {0}
IsStart (Ordered (Script line party) order) = ⊥
IsStart (Ordered (Asked hart plugin) order) = ⊥
IsStart (Ordered (Control party) order) = ⊥
IsStart (GaveBack hart plugin) = ⊥
IsStart (Left hart) = ⊥
IsStart (Told party plugin) = ⊥
IsStart (Got hart plugin) = ⊥
IsStart (Took party plugin) = ⊥

abbrev pub AreStarts : List Item → Type 0
AreStarts [] = Unit {0}
AreStarts (x ∷ xs) = IsStart x × AreStarts xs

abbrev pub JudgingOpens : Type 0
JudgingOpens = (run : Run) (past : List Item) → AreStarts past → missing_install run past ≡ None → IsJudging run NO_PARTY 0 past

-- A line that is judged next, whose moment has come and which the registry allows, is what the plan wants; it may stand, and the line
-- after it is judged next then.
pub record StandsNext (run : Run) (who c : ℕ) (t : Timed) (past : List Item) : Type 0 where
  pub wanted : wanted run past ≡ Some (Ordered (Script c who) t.order)
  pub legal : Legal run (Ordered (Script c who) t.order ∷ past)
  pub judging : IsJudging run who (c + 1) (Ordered (Script c who) t.order ∷ past)

abbrev pub AllowedLinesStand : Type 0
AllowedLinesStand = (run : Run) (who c : ℕ) (t : Timed) (past : List Item) → IsNonDecreasingBy (λ t. t.when) run.plan.script
    → Legal run past → IsJudging run who c past → IsLine run.plan.script c t → t.when ≤ total_steps past
    → allowed (plugins run past) t.order ≡ true → StandsNext run who c t past

-- One that the registry refuses is passed over.
abbrev pub RefusedLinesPass : Type 0
RefusedLinesPass = (run : Run) (who c : ℕ) (t : Timed) (past : List Item) → IsJudging run who c past → IsLine run.plan.script c t
    → allowed (plugins run past) t.order ≡ false → IsJudging run who (c + 1) past

-- Where the moment of the line that is judged next hasn't come, or there is none, the plan wants nothing.
abbrev pub JudgingEnds : Type 0
JudgingEnds = (run : Run) (who c : ℕ) (past : List Item) → IsNonDecreasingBy (λ t. t.when) run.plan.script → IsJudging run who c past
    → ((t : Timed) → IsLine run.plan.script c t → total_steps past < t.when) → wanted run past ≡ None
