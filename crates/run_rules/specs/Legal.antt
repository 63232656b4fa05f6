-- The rules of journals, over their logs, latest first: each item keeps its rule, and the rule looks at the log before it.
-- `docs/journal.md` has each of them as a sentence.
use Rattle.std.specs.Prelude.{ℕ, ◌+◌, ◌≡◌, ◌<◌, ◌≤◌, ◌&&◌, ◌||◌, not, nat_lt, Bool, true, false, List, [], ◌∷◌, length}
use Rattle.std.specs.Prelude.{take, Option, Some, None, is_some}
use Rattle.std.specs.List.{list_any, list_all, range_with_len}
use Rattle.flat_model.specs.declared.plugins.Ask.{Ask}
use Rattle.flat_model.specs.declared.plugins.Ask.TheVariants.{Stay, Reset, Uninstall}
use Rattle.flat_model.specs.declared.journals.Entry.{Entry}
use Rattle.flat_model.specs.declared.journals.Item.{Item}
use Rattle.flat_model.specs.declared.journals.Item.TheVariants.{Step, Ordered, GaveBack, Left, Told, Got, Took}
use Rattle.flat_model.specs.declared.journals.Order.{Order}
use Rattle.flat_model.specs.declared.journals.Order.TheVariants as orders
use Rattle.flat_model.specs.declared.journals.Origin.{Origin}
use Rattle.flat_model.specs.declared.journals.Origin.TheVariants.{Start, Script, Asked, Control}
use Rattle.flat_model.specs.declared.limits.TheConstants.{BLOCK_WORDS}
use Rattle.flat_model.specs.Asks.{stays}
use Rattle.flat_model.specs.Log.{log}
use Rattle.flat_model.specs.Registry.{Plugins, is_hart, has_left, owes, is_complete, is_closing}
use Rattle.run_rules.specs.Guest.{Run, plugins}
use Rattle.run_rules.specs.Heard.{waiting, steps_since}
use Rattle.run_rules.specs.Due.{turn_length, is_turning, allowed, wanted, in_time}

-- the numbers of the plug-ins that there are, from 1
abbrev pub numbers : Plugins → List ℕ
numbers r = range_with_len 1 (length r.plugins)

-- whether hart h still owes a Back
abbrev pub owes_any : Run → ℕ → List Item → Bool
owes_any run h past = list_any (λ plugin. owes (plugins run past) h plugin) (numbers (plugins run past))

-- whether no ask of hart h waits for its order
abbrev pub asks_nothing : Run → ℕ → List Item → Bool
asks_nothing run h past = list_all (λ plugin. stays (waiting run plugin h past)) (numbers (plugins run past))

-- nothing that the plan wants is passed by
abbrev pub passes_nothing_by : Run → List Item → Bool
passes_nothing_by run past = not (is_some (wanted run past))

-- a hart of the run that hasn't left
abbrev pub is_there : Run → ℕ → List Item → Bool
is_there run h past = is_hart (plugins run past) h && not (has_left (plugins run past) h)

-- a hart runs that isn't parked and hasn't ended, while the group hasn't
abbrev pub runs : Run → ℕ → List Item → Bool
runs run h past = not (run.guest.is_parked past h) && (not (run.guest.has_ended past h) && not (run.guest.is_over past))

-- Steps. A Turn goes on past what the plan wants and past its own asks: a line's place is behind the Turn, and fewer than
-- 512 steps of a Turn follow the one in which a box asked. A new Turn passes nothing by.
abbrev pub goes_on_in_time : Run → ℕ → List Item → ℕ → Bool
goes_on_in_time run h past plugin =
    stays (waiting run plugin h past)
    || (nat_lt (steps_since run plugin h past) (turn_length h past) && nat_lt (steps_since run plugin h past + 1) BLOCK_WORDS)

abbrev pub may_step : Run → ℕ → List Item → Bool
may_step run h past =
    is_there run h past
    && (runs run h past
    && (not (owes_any run h past)
    && ((is_turning h past || passes_nothing_by run past)
    && list_all (goes_on_in_time run h past) (numbers (plugins run past)))))

-- Orders. The registry allows each. Those of the plan are what it wants; a line stands in time; an asked order is the one that a
-- box asked for; and who gives a control order is no hart.
abbrev pub asked_order : ℕ → Ask → Option Order
asked_order plugin Stay = None
asked_order plugin Reset = Some (orders.Reset plugin)
asked_order plugin Uninstall = Some (orders.Uninstall plugin)

abbrev pub IsGiven : Run → Origin → Order → List Item → Type 0
IsGiven run Start order past = wanted run past ≡ Some (Ordered Start order)
IsGiven run (Script line party) order past =
    (wanted run past ≡ Some (Ordered (Script line party) order)) × (in_time run line past ≡ true)
IsGiven run (Asked h plugin) order past =
    (passes_nothing_by run past ≡ true) × (asked_order plugin (waiting run plugin h past) ≡ Some order)
IsGiven run (Control party) order past = (passes_nothing_by run past ≡ true) × (is_hart (plugins run past) party ≡ false)

pub record MayOrder (run : Run) (origin : Origin) (order : Order) (past : List Item) : Type 0 where
  pub allowed : allowed (plugins run past) order ≡ true
  pub given : IsGiven run origin order past

-- Backs: a hart gives a plug-in back once, while it is being withdrawn.
abbrev pub may_give_back : Run → ℕ → ℕ → List Item → Bool
may_give_back run h plugin past =
    owes (plugins run past) h plugin && (asks_nothing run h past && passes_nothing_by run past)

-- Leaves: a hart leaves once it or the group has ended, or where it is parked and nobody is left who could start it.
abbrev pub is_idle : Run → List Item → ℕ → Bool
is_idle run past h = run.guest.is_parked past h || run.guest.has_ended past h

abbrev pub is_finished : Run → ℕ → List Item → Bool
is_finished run h past =
    run.guest.has_ended past h
    || (run.guest.is_over past || (run.guest.is_parked past h && list_all (is_idle run past) (range_with_len 0 run.harts)))

abbrev pub may_leave : Run → ℕ → List Item → Bool
may_leave run h past =
    is_there run h past
    && (is_finished run h past && (not (owes_any run h past) && (asks_nothing run h past && passes_nothing_by run past)))

-- Dones: each hart has given the plug-in back or has left, and the party is a hart that hasn't left, or no hart.
abbrev pub may_tell : Run → ℕ → ℕ → List Item → Bool
may_tell run party plugin past =
    is_complete (plugins run past) plugin && (not (has_left (plugins run past) party) && passes_nothing_by run past)

-- the rule of an item, after a log
abbrev pub Rule : Run → Item → List Item → Type 0
Rule run (Step h) past = may_step run h past ≡ true
Rule run (Ordered origin order) past = MayOrder run origin order past
Rule run (GaveBack h plugin) past = may_give_back run h plugin past ≡ true
Rule run (Left h) past = may_leave run h past ≡ true
Rule run (Told party plugin) past = may_tell run party plugin past ≡ true
Rule run (Got h plugin) past = Unit {0}
Rule run (Took party plugin) past = Unit {0}

unfoldable pub Legal : Run → List Item → Type 0
Legal run [] = Unit {0}
Legal run (x ∷ past) = Legal run past × Rule run x past

-- a log is whole where it is legal, nothing that the plan wants is missing, every hart has left, and no plug-in is being withdrawn
pub record Whole (run : Run) (past : List Item) : Type 0 where
  pub legal : Legal run past
  pub nothing_missing : wanted run past ≡ None
  pub all_left : list_all (λ h. has_left (plugins run past) h) (range_with_len 0 run.harts) ≡ true
  pub all_closed : list_any (λ p. is_closing p.state) (plugins run past).plugins ≡ false

-- a journal isn't whole, and this is its place: the first entry that breaks a rule, or the number of entries where none does
pub record IsBrokenAt (run : Run) (es : List Entry) (place : ℕ) : Type 0 where
  pub legal : Legal run (log (take place es))
  pub broken : place < length es → Legal run (log (take (place + 1) es)) → ⊥
  pub within : place ≤ length es
  pub unfinished : place ≡ length es → Whole run (log es) → ⊥
