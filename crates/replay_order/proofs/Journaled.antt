-- Got and Took change nothing of what the rules see of a log, so a journal is judged as the log of its state is.
use Rattle.std.proofs.Common.{◌≡◌, ◌==◌, ◌&&◌, ◌||◌, ◌+◌, ◌∷◌, [], ◌∙◌, ℕ, Bool, false, not, List, Option}
use Rattle.std.proofs.Common.{refl, sym, ap, nat_lt, nat_le}
use Rattle.std.specs.Prelude.{if◌then◌else◌, option_map, is_some, slice_get, slice_index_or, find}
use Rattle.std.specs.Option.{option_or, option_map_or}
use Rattle.std.specs.List.{list_all, list_any, range_with_len, count_by}
use mathlib.Core.Path.{fun_ext}
use Rattle.flat_model.specs.declared.events.Event.{Event}
use Rattle.flat_model.specs.declared.plugins.Ask.{Ask}
use Rattle.flat_model.specs.declared.plugins.SetSpec.{SetSpec}
use Rattle.flat_model.specs.declared.journals.Item.{Item}
use Rattle.flat_model.specs.declared.journals.Item.TheVariants.{Step, Ordered, GaveBack, Left, Told, Got, Took}
use Rattle.flat_model.specs.declared.journals.Mode.{Mode}
use Rattle.flat_model.specs.declared.journals.Order.{Order}
use Rattle.flat_model.specs.declared.journals.Origin.{Origin}
use Rattle.flat_model.specs.declared.journals.Origin.TheVariants.{Start, Script, Asked, Control}
use Rattle.flat_model.specs.Log.{journaled, total_steps}
use Rattle.flat_model.specs.Plan.{Planned}
use Rattle.flat_model.specs.Registry.{is_hart, has_left, owes, sets_of, is_installed, plugin_of, is_complete, is_closing}
use Rattle.flat_model.specs.Asks.{stays}
use Rattle.flat_model.specs.declared.plugins.Ask.TheVariants.{Stay}
use Rattle.flat_model.specs.declared.journals.Order.TheVariants.{Install}
use Rattle.flat_model.specs.declared.limits.TheConstants.{BLOCK_WORDS}
use Rattle.flat_model.specs.Registry.{Plugins, registry, after_order, after_back, after_leave, after_done}
use Rattle.flat_model.specs.World.{Machine, World}
use Rattle.flat_model.specs.Step.{step, step_of}
use Rattle.flat_model.specs.Worlds.{world, next_step}
use Rattle.run_rules.specs.Guest.{Run, run_of, plugins}
use Rattle.run_rules.specs.Heard.{Progress, progress, progressed, is_listening, waiting, steps_since, last_set, no_set, is_live}
use Rattle.run_rules.specs.Due.{turn_length, is_turning, line_party, start_orders, missing_install, is_start, come, next_line}
use Rattle.run_rules.specs.Due.{owed_line, line_item, wanted, Line, numbered, allowed, in_time}
use Rattle.run_rules.specs.Legal.{Legal, IsGiven, passes_nothing_by, is_there, owes_any, asks_nothing, goes_on_in_time}
use Rattle.run_rules.specs.Legal.{numbers, may_step}
use Rattle.run_rules.specs.Legal.{may_give_back, may_leave, may_tell, asked_order, Rule, Whole}

same_world : (m : Machine) (mode : Mode) (past : List Item) → world m mode (journaled past) ≡ world m mode past
unfolding world
same_world m mode [] = refl
same_world m mode (Step hart ∷ past) = ap (λ (w : World). step m w hart) (same_world m mode past)
same_world m mode (Ordered origin order ∷ past) = same_world m mode past
same_world m mode (GaveBack hart number ∷ past) = same_world m mode past
same_world m mode (Left hart ∷ past) = same_world m mode past
same_world m mode (Told party number ∷ past) = same_world m mode past
same_world m mode (Got hart number ∷ past) = same_world m mode past
same_world m mode (Took party number ∷ past) = same_world m mode past

same_plugins : (run : Run) (past : List Item) → plugins run (journaled past) ≡ plugins run past
unfolding registry
same_plugins run [] = refl
same_plugins run (Step hart ∷ past) = same_plugins run past
same_plugins run (Ordered origin order ∷ past) = ap (after_order order) (same_plugins run past)
same_plugins run (GaveBack hart number ∷ past) = ap (after_back hart number) (same_plugins run past)
same_plugins run (Left hart ∷ past) = ap (after_leave hart) (same_plugins run past)
same_plugins run (Told party number ∷ past) = ap (after_done number) (same_plugins run past)
same_plugins run (Got hart number ∷ past) = same_plugins run past
same_plugins run (Took party number ∷ past) = same_plugins run past

-- what a set makes of one step, by the plug-ins and the world before it
abbrev step_made : Run → SetSpec → ℕ → ℕ → ℕ → ℕ → Plugins → List Event → Progress → Progress
step_made run spec plugin set h hart r es before =
    if (hart == h) && is_listening r plugin set then progressed run.guest.classes spec.subs es before else before

same_progress : (m : Machine) (mode : Mode) (plan : Planned) (spec : SetSpec) (plugin set h : ℕ) (past : List Item)
    → progress (run_of m mode plan) spec plugin set h (journaled past) ≡ progress (run_of m mode plan) spec plugin set h past
unfolding progress
same_progress m mode plan spec plugin set h [] = refl
same_progress m mode plan spec plugin set h (Step hart ∷ past) =
    let run = run_of m mode plan in
    let made = step_made run spec plugin set h hart in
    let told : (next_step m mode (journaled past) h).events ≡ (next_step m mode past h).events =
    ap (λ (w : World). (step_of m h (w.harts h) w.shared).events) (same_world m mode past) in
    ap (λ (r : Plugins). made r (next_step m mode (journaled past) h).events (progress run spec plugin set h (journaled past)))
    (same_plugins run past)
    ∙ ap (λ (es : List Event). made (plugins run past) es (progress run spec plugin set h (journaled past))) told
    ∙ ap (λ (p : Progress). made (plugins run past) (next_step m mode past h).events p) (same_progress m mode plan spec plugin set h past)
same_progress m mode plan spec plugin set h (Ordered origin order ∷ past) = same_progress m mode plan spec plugin set h past
same_progress m mode plan spec plugin set h (GaveBack hart number ∷ past) = same_progress m mode plan spec plugin set h past
same_progress m mode plan spec plugin set h (Left hart ∷ past) = same_progress m mode plan spec plugin set h past
same_progress m mode plan spec plugin set h (Told party number ∷ past) = same_progress m mode plan spec plugin set h past
same_progress m mode plan spec plugin set h (Got hart number ∷ past) = same_progress m mode plan spec plugin set h past
same_progress m mode plan spec plugin set h (Took party number ∷ past) = same_progress m mode plan spec plugin set h past

pub same_turn : (h : ℕ) (past : List Item) → turn_length h (journaled past) ≡ turn_length h past
unfolding turn_length
same_turn h [] = refl
same_turn h (Step hart ∷ past) = ap (λ (n : ℕ). if hart == h then n + 1 else 0) (same_turn h past)
same_turn h (Ordered origin order ∷ past) = refl
same_turn h (GaveBack hart number ∷ past) = refl
same_turn h (Left hart ∷ past) = refl
same_turn h (Told party number ∷ past) = refl
same_turn h (Got hart number ∷ past) = same_turn h past
same_turn h (Took party number ∷ past) = same_turn h past

same_party : (past : List Item) → line_party (journaled past) ≡ line_party past
unfolding line_party
same_party [] = refl
same_party (Step hart ∷ past) = refl
same_party (Ordered origin order ∷ past) = same_party past
same_party (GaveBack hart number ∷ past) = same_party past
same_party (Left hart ∷ past) = same_party past
same_party (Told party number ∷ past) = same_party past
same_party (Got hart number ∷ past) = same_party past
same_party (Took party number ∷ past) = same_party past

same_starts : (past : List Item) → start_orders (journaled past) ≡ start_orders past
unfolding start_orders
same_starts [] = refl
same_starts (Step hart ∷ past) = same_starts past
same_starts (Ordered origin order ∷ past) = ap (λ (n : ℕ). if is_start origin then n + 1 else n) (same_starts past)
same_starts (GaveBack hart number ∷ past) = same_starts past
same_starts (Left hart ∷ past) = same_starts past
same_starts (Told party number ∷ past) = same_starts past
same_starts (Got hart number ∷ past) = same_starts past
same_starts (Took party number ∷ past) = same_starts past

same_total : (past : List Item) → total_steps (journaled past) ≡ total_steps past
same_total [] = refl
same_total (Step hart ∷ past) = ap (λ (n : ℕ). n + 1) (same_total past)
same_total (Ordered origin order ∷ past) = same_total past
same_total (GaveBack hart number ∷ past) = same_total past
same_total (Left hart ∷ past) = same_total past
same_total (Told party number ∷ past) = same_total past
same_total (Got hart number ∷ past) = same_total past
same_total (Took party number ∷ past) = same_total past

same_come : (run : Run) (past : List Item) → come run (journaled past) ≡ come run past
same_come run past = ap (λ (total : ℕ). count_by (λ t. nat_le t.when total) run.plan.script) (same_total past)

same_next : (run : Run) (past : List Item) → next_line run (journaled past) ≡ next_line run past
unfolding next_line
same_next run [] = refl
same_next run (Step hart ∷ past) =
    ap (λ (n : ℕ). if nat_lt 0 n then next_line run (journaled past) else come run (journaled past)) (same_turn hart past)
    ∙ ap (λ (n : ℕ). if is_turning hart past then n else come run (journaled past)) (same_next run past)
    ∙ ap (λ (n : ℕ). if is_turning hart past then next_line run past else n) (same_come run past)
same_next run (Ordered Start order ∷ past) = same_next run past
same_next run (Ordered (Script line party) order ∷ past) = refl
same_next run (Ordered (Asked hart plugin) order ∷ past) = same_come run past
same_next run (Ordered (Control party) order ∷ past) = same_come run past
same_next run (GaveBack hart number ∷ past) = same_come run past
same_next run (Left hart ∷ past) = same_come run past
same_next run (Told party number ∷ past) = same_come run past
same_next run (Got hart number ∷ past) = same_next run past
same_next run (Took party number ∷ past) = same_next run past

-- What the rules ask of a log.

same_missing : (run : Run) (past : List Item) → missing_install run (journaled past) ≡ missing_install run past
same_missing run past =
    ap (λ (n : ℕ). option_map (λ spec. Ordered Start (Install spec)) (slice_get run.plan.installs n)) (same_starts past)

-- a line is owed by the next to be judged, the total and the plug-ins
abbrev owed_by : Run → ℕ → ℕ → Plugins → Option Line
owed_by run next total r =
    find (λ l. (nat_le next l.number && nat_le l.timed.when total) && allowed r l.timed.order) (numbered 0 run.plan.script)

same_owed : (run : Run) (past : List Item) → owed_line run (journaled past) ≡ owed_line run past
same_owed run past =
    ap (λ (n : ℕ). owed_by run n (total_steps (journaled past)) (plugins run (journaled past))) (same_next run past)
    ∙ ap (λ (n : ℕ). owed_by run (next_line run past) n (plugins run (journaled past))) (same_total past)
    ∙ ap (λ (r : Plugins). owed_by run (next_line run past) (total_steps past) r) (same_plugins run past)

same_wanted : (run : Run) (past : List Item) → wanted run (journaled past) ≡ wanted run past
unfolding wanted
same_wanted run past =
    ap (λ (m : Option Item). option_or m (option_map (line_item (journaled past)) (owed_line run (journaled past)))) (same_missing run past)
    ∙ ap (λ (o : Option Line). option_or (missing_install run past) (option_map (line_item (journaled past)) o)) (same_owed run past)
    ∙ ap (λ (p : ℕ). option_or (missing_install run past) (option_map (λ l. Ordered (Script l.number p) l.timed.order)
    (owed_line run past)))
    (same_party past)

same_passes : (run : Run) (past : List Item) → passes_nothing_by run (journaled past) ≡ passes_nothing_by run past
same_passes run past = ap (λ (x : Option Item). not (is_some x)) (same_wanted run past)

same_there : (run : Run) (h : ℕ) (past : List Item) → is_there run h (journaled past) ≡ is_there run h past
same_there run h past = ap (λ (r : Plugins). is_hart r h && not (has_left r h)) (same_plugins run past)

same_owes : (run : Run) (h : ℕ) (past : List Item) → owes_any run h (journaled past) ≡ owes_any run h past
same_owes run h past = ap (λ (r : Plugins). list_any (λ plugin. owes r h plugin) (numbers r)) (same_plugins run past)

abbrev last_of : Run → ℕ → ℕ → List Item → Plugins → Progress
last_of run plugin h past r =
    progress run (slice_index_or (sets_of r plugin) (last_set r plugin) no_set) plugin (last_set r plugin) h past

same_last : (m : Machine) (mode : Mode) (plan : Planned) (plugin h : ℕ) (past : List Item)
    → last_of (run_of m mode plan) plugin h (journaled past) (plugins (run_of m mode plan) (journaled past))
    ≡ last_of (run_of m mode plan) plugin h past (plugins (run_of m mode plan) past)
same_last m mode plan plugin h past =
    let run = run_of m mode plan in
    let r = plugins run past in
    ap (last_of run plugin h (journaled past)) (same_plugins run past)
    ∙ same_progress m mode plan (slice_index_or (sets_of r plugin) (last_set r plugin) no_set) plugin (last_set r plugin) h past

abbrev waits_by : ℕ → Plugins → Progress → Ask
waits_by plugin r p = if is_installed r plugin && is_live (plugin_of r plugin).state then p.walk.asked else Stay

same_waiting : (m : Machine) (mode : Mode) (plan : Planned) (plugin h : ℕ) (past : List Item)
    → waiting (run_of m mode plan) plugin h (journaled past) ≡ waiting (run_of m mode plan) plugin h past
same_waiting m mode plan plugin h past =
    let run = run_of m mode plan in
    let r = plugins run (journaled past) in
    ap (waits_by plugin r) (same_last m mode plan plugin h past)
    ∙ ap (λ (q : Plugins). waits_by plugin q (last_of run plugin h past (plugins run past))) (same_plugins run past)

same_asks : (m : Machine) (mode : Mode) (plan : Planned) (h : ℕ) (past : List Item)
    → asks_nothing (run_of m mode plan) h (journaled past) ≡ asks_nothing (run_of m mode plan) h past
same_asks m mode plan h past =
    let run = run_of m mode plan in
    ap (λ (f : ℕ → Bool). list_all f (numbers (plugins run (journaled past)))) (fun_ext (λ plugin. ap stays
    (same_waiting m mode plan plugin h past)))
    ∙ ap (λ (r : Plugins). list_all (λ plugin. stays (waiting run plugin h past)) (numbers r)) (same_plugins run past)

abbrev goes_by : Ask → ℕ → ℕ → Bool
goes_by ask since turn = stays ask || (nat_lt since turn && nat_lt (since + 1) BLOCK_WORDS)

same_goes_on : (m : Machine) (mode : Mode) (plan : Planned) (h plugin : ℕ) (past : List Item)
    → goes_on_in_time (run_of m mode plan) h (journaled past) plugin ≡ goes_on_in_time (run_of m mode plan) h past plugin
same_goes_on m mode plan h plugin past =
    let run = run_of m mode plan in
    ap (λ (a : Ask). goes_by a (steps_since run plugin h (journaled past)) (turn_length h (journaled past)))
    (same_waiting m mode plan plugin h past)
    ∙ ap (λ (p : Progress). goes_by (waiting run plugin h past) p.since (turn_length h (journaled past)))
    (same_last m mode plan plugin h past)
    ∙ ap (λ (n : ℕ). goes_by (waiting run plugin h past) (steps_since run plugin h past) n) (same_turn h past)

same_all_go_on : (m : Machine) (mode : Mode) (plan : Planned) (h : ℕ) (past : List Item)
    → list_all (goes_on_in_time (run_of m mode plan) h (journaled past)) (numbers (plugins (run_of m mode plan) (journaled past)))
    ≡ list_all (goes_on_in_time (run_of m mode plan) h past) (numbers (plugins (run_of m mode plan) past))
same_all_go_on m mode plan h past =
    let run = run_of m mode plan in
    ap (λ (f : ℕ → Bool). list_all f (numbers (plugins run (journaled past)))) (fun_ext (λ plugin. same_goes_on m mode plan h plugin past))
    ∙ ap (λ (r : Plugins). list_all (goes_on_in_time run h past) (numbers r)) (same_plugins run past)

-- what the rules ask of the world
abbrev runs_in : World → ℕ → Bool
runs_in w h = not (w.harts h).parked && (not (is_some (w.harts h).ending) && not (is_some w.shared.group))

abbrev finished_in : ℕ → World → ℕ → Bool
finished_in harts w h =
    is_some (w.harts h).ending
    || (is_some w.shared.group
    || ((w.harts h).parked && list_all (λ k. (w.harts k).parked || is_some (w.harts k).ending) (range_with_len 0 harts)))

-- Booleans that agree one by one
both_same : {a b c d : Bool} → a ≡ b → c ≡ d → (a && c) ≡ (b && d)
both_same {b = b} {c = c} e f = ap (λ x. x && c) e ∙ ap (λ y. b && y) f

one_same : {a b c d : Bool} → a ≡ b → c ≡ d → (a || c) ≡ (b || d)
one_same {b = b} {c = c} e f = ap (λ x. x || c) e ∙ ap (λ y. b || y) f

same_step : (m : Machine) (mode : Mode) (plan : Planned) (h : ℕ) (past : List Item)
    → may_step (run_of m mode plan) h (journaled past) ≡ may_step (run_of m mode plan) h past
same_step m mode plan h past =
    let run = run_of m mode plan in
    both_same (same_there run h past)
    (both_same (ap (λ (w : World). runs_in w h) (same_world m mode past))
    (both_same (ap not (same_owes run h past))
    (both_same (one_same (ap (λ (n : ℕ). nat_lt 0 n) (same_turn h past)) (same_passes run past)) (same_all_go_on m mode plan h past))))

same_give_back : (m : Machine) (mode : Mode) (plan : Planned) (h plugin : ℕ) (past : List Item)
    → may_give_back (run_of m mode plan) h plugin (journaled past) ≡ may_give_back (run_of m mode plan) h plugin past
same_give_back m mode plan h plugin past =
    let run = run_of m mode plan in
    both_same (ap (λ (r : Plugins). owes r h plugin) (same_plugins run past))
    (both_same (same_asks m mode plan h past) (same_passes run past))

same_leave : (m : Machine) (mode : Mode) (plan : Planned) (h : ℕ) (past : List Item)
    → may_leave (run_of m mode plan) h (journaled past) ≡ may_leave (run_of m mode plan) h past
same_leave m mode plan h past =
    let run = run_of m mode plan in
    both_same (same_there run h past)
    (both_same (ap (λ (w : World). finished_in m.harts w h) (same_world m mode past))
    (both_same (ap not (same_owes run h past)) (both_same (same_asks m mode plan h past) (same_passes run past))))

same_tell : (run : Run) (party plugin : ℕ) (past : List Item) → may_tell run party plugin (journaled past) ≡ may_tell run party plugin past
same_tell run party plugin past =
    both_same (ap (λ (r : Plugins). is_complete r plugin) (same_plugins run past))
    (both_same (ap (λ (r : Plugins). not (has_left r party)) (same_plugins run past)) (same_passes run past))

same_in_time : (run : Run) (line : ℕ) (past : List Item) → in_time run line (journaled past) ≡ in_time run line past
same_in_time run line past =
    ap (λ (total : ℕ). option_map_or (λ t. nat_lt total (t.when + BLOCK_WORDS)) (slice_get run.plan.script line) false) (same_total past)

-- The other way round.

given_then : (m : Machine) (mode : Mode) (plan : Planned) (origin : Origin) (order : Order) (past : List Item)
    → IsGiven (run_of m mode plan) origin order (journaled past) → IsGiven (run_of m mode plan) origin order past
given_then m mode plan Start order past given = sym (same_wanted (run_of m mode plan) past) ∙ given
given_then m mode plan (Script line party) order past given =
    (sym (same_wanted (run_of m mode plan) past) ∙ given.0, sym (same_in_time (run_of m mode plan) line past) ∙ given.1)
given_then m mode plan (Asked h plugin) order past given = (
  sym (same_passes (run_of m mode plan) past) ∙ given.0,
  ap (asked_order plugin) (sym (same_waiting m mode plan plugin h past))
      ∙ given.1,
)
given_then m mode plan (Control party) order past given = (
  sym (same_passes (run_of m mode plan) past) ∙ given.0,
  ap (λ (r : Plugins). is_hart r party) (sym (same_plugins (run_of m mode plan) past)) ∙ given.1,
)

-- what keeps its rule behind the journal keeps it behind the log
pub journals_judge_logs : (m : Machine) (mode : Mode) (plan : Planned) (x : Item) (past : List Item)
    → Rule (run_of m mode plan) x (journaled past) → Rule (run_of m mode plan) x past
journals_judge_logs m mode plan (Step hart) past rule = sym (same_step m mode plan hart past) ∙ rule
journals_judge_logs m mode plan (Ordered origin order) past rule = record {
  allowed = ap (λ (r : Plugins). allowed r order) (sym (same_plugins (run_of m mode plan) past)) ∙ rule.allowed;
  given = given_then m mode plan origin order past rule.given;
}
journals_judge_logs m mode plan (GaveBack hart plugin) past rule = sym (same_give_back m mode plan hart plugin past) ∙ rule
journals_judge_logs m mode plan (Left hart) past rule = sym (same_leave m mode plan hart past) ∙ rule
journals_judge_logs m mode plan (Told party plugin) past rule = sym (same_tell (run_of m mode plan) party plugin past) ∙ rule
journals_judge_logs m mode plan (Got hart plugin) past rule = tt
journals_judge_logs m mode plan (Took party plugin) past rule = tt

-- and a whole journal has a whole log
pub whole_journals_have_whole_logs : (m : Machine) (mode : Mode) (plan : Planned) (past : List Item)
    → Legal (run_of m mode plan) past → Whole (run_of m mode plan) (journaled past) → Whole (run_of m mode plan) past
whole_journals_have_whole_logs m mode plan past legal whole =
    let run = run_of m mode plan in
    record {
      legal = legal;
      nothing_missing = sym (same_wanted run past) ∙ whole.nothing_missing;
      all_left = ap (λ (r : Plugins). list_all (λ h. has_left r h) (range_with_len 0 run.harts)) (sym (same_plugins run past))
          ∙ whole.all_left;
      all_closed = ap (λ (r : Plugins). list_any (λ p. is_closing p.state) r.plugins) (sym (same_plugins run past)) ∙ whole.all_closed;
    }
