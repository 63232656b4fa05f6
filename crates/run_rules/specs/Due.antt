-- What a run's plan wants next: the installs of the start, in order and before all else, and then each line of the script at its
-- place. A line belongs to the first Turn at whose end the total of steps is at least its moment, and its place is directly
-- behind that Turn and the earlier lines that stand there; lines of moment 0 have theirs directly behind the installs. At its
-- place a line is judged, once: it stands there where the registry allows its order, and else it stands nowhere.
use Rattle.std.specs.Prelude.{ℕ, ◌+◌, ◌==◌, ◌&&◌, not, nat_lt, nat_le, Bool, true, false, if◌then◌else◌, List, [], ◌∷◌, find}
use Rattle.std.specs.Prelude.{slice_get, Option, option_map, is_some}
use Rattle.std.specs.Option.{option_or, option_map_or}
use Rattle.std.specs.List.{count_by}
use Rattle.flat_model.specs.declared.journals.Item.{Item}
use Rattle.flat_model.specs.declared.journals.Item.TheVariants.{Step, Ordered, GaveBack, Left, Told, Got, Took}
use Rattle.flat_model.specs.declared.journals.Order.{Order}
use Rattle.flat_model.specs.declared.journals.Order.TheVariants.{Install}
use Rattle.flat_model.specs.declared.journals.Origin.{Origin}
use Rattle.flat_model.specs.declared.journals.Origin.TheVariants.{Start, Script, Asked, Control}
use Rattle.flat_model.specs.declared.journals.Timed.{Timed}
use Rattle.flat_model.specs.declared.limits.TheConstants.{NO_PARTY, BLOCK_WORDS}
use Rattle.flat_model.specs.Log.{total_steps}
use Rattle.flat_model.specs.Registry.{Plugins, refusal}
use Rattle.run_rules.specs.Guest.{Run, plugins}

-- how many steps of hart h a log ends with: the length of its Turn there
unfoldable pub turn_length : ℕ → List Item → ℕ
turn_length h [] = 0
turn_length h (Step hart ∷ past) = if hart == h then turn_length h past + 1 else 0
turn_length h (Ordered origin order ∷ past) = 0
turn_length h (GaveBack hart number ∷ past) = 0
turn_length h (Left hart ∷ past) = 0
turn_length h (Told party number ∷ past) = 0
turn_length h (Got hart number ∷ past) = turn_length h past
turn_length h (Took party number ∷ past) = turn_length h past

-- whether a log ends in a Turn of hart h, so that its next step goes on with that Turn
abbrev pub is_turning : ℕ → List Item → Bool
is_turning h past = nat_lt 0 (turn_length h past)

-- the party of a line: the hart of the Turn before it, and nobody where no step was made
unfoldable pub line_party : List Item → ℕ
line_party [] = NO_PARTY
line_party (Step hart ∷ past) = hart
line_party (Ordered origin order ∷ past) = line_party past
line_party (GaveBack hart number ∷ past) = line_party past
line_party (Left hart ∷ past) = line_party past
line_party (Told party number ∷ past) = line_party past
line_party (Got hart number ∷ past) = line_party past
line_party (Took party number ∷ past) = line_party past

abbrev pub allowed : Plugins → Order → Bool
allowed r order = not (is_some (refusal r order))

-- The installs of the start.

abbrev pub is_start : Origin → Bool
is_start Start = true
is_start (Script line party) = false
is_start (Asked hart plugin) = false
is_start (Control party) = false

-- how many start orders a log has
unfoldable pub start_orders : List Item → ℕ
start_orders [] = 0
start_orders (Step hart ∷ past) = start_orders past
start_orders (Ordered origin order ∷ past) = if is_start origin then start_orders past + 1 else start_orders past
start_orders (GaveBack hart number ∷ past) = start_orders past
start_orders (Left hart ∷ past) = start_orders past
start_orders (Told party number ∷ past) = start_orders past
start_orders (Got hart number ∷ past) = start_orders past
start_orders (Took party number ∷ past) = start_orders past

-- the install that is still missing, if one is
abbrev pub missing_install : Run → List Item → Option Item
missing_install run past = option_map (λ spec. Ordered Start (Install spec)) (slice_get run.plan.installs (start_orders past))

-- The lines of the script, which are numbered from 0.

-- how many lines have a moment that has come
abbrev pub come : Run → List Item → ℕ
come run past = count_by (λ t. nat_le t.when (total_steps past)) run.plan.script

-- the line to be judged next: all before it were judged, at places that the log has gone past or by the lines that stand at its end
unfoldable pub next_line : Run → List Item → ℕ
next_line run [] = 0
next_line run (Step hart ∷ past) = if is_turning hart past then next_line run past else come run past
next_line run (Ordered Start order ∷ past) = next_line run past
next_line run (Ordered (Script line party) order ∷ past) = line + 1
next_line run (Ordered (Asked hart plugin) order ∷ past) = come run past
next_line run (Ordered (Control party) order ∷ past) = come run past
next_line run (GaveBack hart number ∷ past) = come run past
next_line run (Left hart ∷ past) = come run past
next_line run (Told party number ∷ past) = come run past
next_line run (Got hart number ∷ past) = next_line run past
next_line run (Took party number ∷ past) = next_line run past

-- a line with its number
pub record Line : Type 0 where
  pub number : ℕ
  pub timed : Timed

unfoldable pub numbered : ℕ → List Timed → List Line
numbered n [] = []
numbered n (t ∷ ts) = record { number = n; timed = t } ∷ numbered (n + 1) ts

-- whether a line is judged at the log's end: its moment has come, and it wasn't judged before
abbrev pub is_due : Run → List Item → Line → Bool
is_due run past l = nat_le (next_line run past) l.number && nat_le l.timed.when (total_steps past)

-- and whether it stands there
abbrev pub must_stand : Run → List Item → Line → Bool
must_stand run past l = is_due run past l && allowed (plugins run past) l.timed.order

-- the line that must stand next, if one must
abbrev pub owed_line : Run → List Item → Option Line
owed_line run past = find (must_stand run past) (numbered 0 run.plan.script)

-- as an item of the log
abbrev pub line_item : List Item → Line → Item
line_item past l = Ordered (Script l.number (line_party past)) l.timed.order

-- what the plan wants next: nothing else may stand there
unfoldable pub wanted : Run → List Item → Option Item
wanted run past = option_or (missing_install run past) (option_map (line_item past) (owed_line run past))

-- a line stands fewer than 512 steps past its moment
abbrev pub in_time : Run → ℕ → List Item → Bool
in_time run line past = option_map_or (λ t. nat_lt (total_steps past) (t.when + BLOCK_WORDS)) (slice_get run.plan.script line) false
