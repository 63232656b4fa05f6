-- The lines of the plan's script that are placed behind a hart's Turn, one after the other.
use Rattle.std.proofs.Common.{◌≡◌, ◌+◌, ◌-◌, ◌<◌, ◌≤◌, ◌∷◌, [], ◌∙◌, ℕ, true, false, not, List, None, length}
use Rattle.std.proofs.Common.{refl, sym, ap, subst, arith, nat_le}
use Rattle.std.specs.Prelude.{is_some, slice_index_or, slice_get, option_map, map, Result, Ok, Err, OnOk, OnErr}
use Rattle.std.specs.List.Sorted.{IsNonDecreasingBy, IsPartitionPoint}
use Rattle.std.proofs.lemmas.Bool.{leb-true, leb-false}
use Rattle.std.proofs.lemmas.Option.{slice_get_past}
use Rattle.flat_model.specs.declared.journals.Item.{Item}
use Rattle.flat_model.specs.declared.journals.Item.TheVariants.{Step, Ordered, GaveBack, Left, Told, Got, Took}
use Rattle.flat_model.specs.declared.journals.Order.{Order}
use Rattle.flat_model.specs.declared.journals.Order.TheVariants.{Install}
use Rattle.flat_model.specs.declared.journals.Origin.TheVariants.{Start, Script, Asked, Control}
use Rattle.flat_model.specs.declared.limits.TheConstants.{NO_PARTY}
use Rattle.flat_model.specs.declared.plugins.SetSpec.{SetSpec}
use Rattle.flat_model.specs.declared.journals.Timed.{Timed}
use Rattle.flat_model.specs.Log.{log, log_from, total_steps, IsJoined}
use Rattle.flat_model.specs.Registry.{Plugins, refusal}
use Rattle.baton_gate.specs.Logs.{GoesOn}
use Rattle.baton_gate.proofs.LogLemmas.{goes_once, goes_on, goes_nowhere}
use Rattle.run_rules.specs.Guest.{plugins}
use Rattle.plug_registry.specs.Installs.{start_order}
use Rattle.run_rules.specs.Due.{allowed, wanted, turn_length, start_orders}
use Rattle.run_rules.specs.Legal.{Legal}
use Rattle.run_rules.specs.Places.{IsStateLog}
use Rattle.run_rules.proofs.Turns.{turn_grows}
use Rattle.run_order.specs.InOrder.{Task, task_run}
use Rattle.script_order.specs.Judging.{IsLine, ComeBefore, IsJudging, AreStarts}
use Rattle.script_order.specs.Totals.{IsToldBy, last_steps}
use Rattle.script_order.proofs.Beginning.{judging_begins, judging_opens}
use Rattle.script_order.proofs.Passing.{allowed_lines_stand, judging_ends}
use Rattle.script_order.proofs.Letting.{lets_be, lets_twice, orders_let_harts_be}
use Rattle.script_order.proofs.Totals.{same_total, journals_tell_totals}
use Rattle.host_state.proofs.Starting.{start_orders_of}
use Rattle.host_state.specs.Ordering.{IsAsBefore, ChangesByOrder}
use Rattle.host_state.specs.Scripting.{IsLineOf, LetsAllBe, HasTurned, PlacesLines, HasJudged}
use Rattle.host_state.specs.State.{StateValue, IsSound}

-- Which lines have come.

pub partition_come : (ts : List Timed) (k c : ℕ) → c ≤ length ts
    → IsPartitionPoint (λ t. nat_le t.when k ≡ true) (λ t. nat_le t.when k ≡ false) ts c → ComeBefore ts k c
partition_come ts k c low point = record {
  within = low;
  come = λ i t below is. leb-true t.when k
      (ap (λ (x : Timed). nat_le x.when k) (sym is.there) ∙ point.0 i t (omega arith) below);
  later = λ i t from is. leb-false t.when k
      (ap (λ (x : Timed). nat_le x.when k) (sym is.there) ∙ point.1 i t from is.within);
}

-- The state, seen from its log.

pub record IsOfLog (s : StateValue) : Type 0 where
  pub legal : Legal (task_run s.task) s.past
  pub state_log : IsStateLog (task_run s.task) s.past
  pub plugins : s.registry.table ≡ plugins (task_run s.task) s.past

pub of_log : (was s : StateValue) → s ≡ was → IsSound s → IsOfLog was
of_log was s is sound =
    subst IsOfLog is (record { legal = sound.order.legal; state_log = sound.order.state_log; plugins = sound.order.plugins })

pub told_by : (was s : StateValue) → s ≡ was → IsSound s → IsJoined s.journal.entries → IsToldBy s.journal.entries was.past
told_by was s is sound joined =
    subst (λ (v : StateValue). IsToldBy s.journal.entries v.past) is
    (journals_tell_totals s.journal.entries s.past joined sound.order.journal)

pub total_of : (was s : StateValue) (n : ℕ) → s ≡ was → IsSound s → n ≡ total_steps (log s.journal.entries) → n ≡ total_steps was.past
total_of was s n is sound total =
    total ∙ ap total_steps sound.order.journal ∙ same_total s.past ∙ ap (λ (v : StateValue). total_steps v.past) is

pub before_turn : (was s : StateValue) (total turn n : ℕ) → s ≡ was → IsSound s → IsJoined s.journal.entries
    → total ≡ total_steps (log s.journal.entries) → turn ≡ last_steps s.journal.entries → n ≡ total - turn
    → (h : ℕ) → 0 < turn_length h was.past → n ≡ total_steps was.past - turn_length h was.past
before_turn was s total turn n is sound joined all last left h turns =
    let told = told_by was s is sound joined in
    omega (arith, left, all, last, told.total, told.turn h turns)

-- One line.

pub line_is : (was s : StateValue) (c : ℕ) (t : Timed) → s ≡ was → c < length was.task.plan.script
    → t ≡ slice_index_or s.task.plan.script c t → IsLine was.task.plan.script c t
line_is was s c t is within there = record {
  within = within;
  there = sym (there ∙ ap (λ (v : StateValue). slice_index_or v.task.plan.script c t) is);
}

-- behind a line that is judged next, has come and is allowed
pub record LineStands (was : StateValue) (h c : ℕ) (order : Order) : Type 0 where
  pub legal : Legal (task_run was.task) (Ordered (Script c h) order ∷ was.past)
  pub judging : IsJudging (task_run was.task) h (c + 1) (Ordered (Script c h) order ∷ was.past)

pub line_stands : (was s : StateValue) (h c : ℕ) (t : Timed) (order : Order) → s ≡ was → IsSound s
    → IsNonDecreasingBy (λ t. t.when) s.task.plan.script → IsJudging (task_run was.task) h c was.past
    → c < length was.task.plan.script → t ≡ slice_index_or s.task.plan.script c t
    → ((t : Timed) → IsLine was.task.plan.script c t → t.when ≤ total_steps was.past)
    → None ≡ refusal s.registry.table t.order → order ≡ t.order → LineStands was h c order
line_stands was s h c t order is sound rising judging within there come free copied =
    let o = of_log was s is sound in
    let at = line_is was s c t is within there in
    let risen : IsNonDecreasingBy (λ t. t.when) was.task.plan.script =
    subst (λ (v : StateValue). IsNonDecreasingBy (λ t. t.when) v.task.plan.script) is rising in
    let may : allowed (plugins (task_run was.task) was.past) t.order ≡ true =
    ap (λ (r : Plugins). allowed r t.order) (sym o.plugins)
    ∙ ap (λ (v : StateValue). allowed v.registry.table t.order) (sym is) ∙ ap (λ o. not (is_some o)) (sym free) in
    let stands = allowed_lines_stand (task_run was.task) h c t was.past risen o.legal judging at (come t at) may in
    subst (LineStands was h c) (sym copied) (record { legal = stands.legal; judging = stands.judging })

-- nothing was placed, and nothing changed but room
nowhere : (h : ℕ) (past : List Item) → GoesOn (IsLineOf h) past past
nowhere h past = goes_nowhere (IsLineOf h) past

lets_all_be : (t : Task) (past : List Item) → LetsAllBe t past past
lets_all_be t past h low = lets_be t h past

pub places_none : (h : ℕ) (old new : StateValue) → ChangesByOrder old new → new.past ≡ old.past → PlacesLines h old new
places_none h old new rest same = record {
  placed = subst (GoesOn (IsLineOf h) old.past) (sym same) (nowhere h old.past);
  rest = rest;
  lets_be = subst (LetsAllBe old.task old.past) (sym same) (lets_all_be old.task old.past);
  total = ap total_steps same;
}

-- the line was placed
pub places_one : (was s new : StateValue) (h c : ℕ) (order : Order) → s ≡ was → IsSound s
    → Legal (task_run was.task) (Ordered (Script c h) order ∷ was.past)
    → ChangesByOrder was new → new.past ≡ Ordered (Script c h) order ∷ was.past → PlacesLines h was new
places_one was s new h c order is sound legal rest items =
    let o = of_log was s is sound in
    let item = Ordered (Script c h) order in
    record {
      placed = subst (GoesOn (IsLineOf h) was.past) (sym items) (goes_once (IsLineOf h) was.past item refl);
      rest = rest;
      lets_be = subst (LetsAllBe was.task was.past) (sym items)
          (λ j low. orders_let_harts_be was.task j (Script c h) order was.past low legal o.state_log);
      total = ap total_steps items;
    }

-- the call was answered, or there was no memory
pub places_by : {T E : Type 0} (r : Result T E) (was s new : StateValue) (h c : ℕ) (order : Order) → s ≡ was → IsSound s
    → LineStands was h c order → OnOk r (new.past ≡ Ordered (Script c h) order ∷ was.past) → OnErr r (IsAsBefore was new)
    → ChangesByOrder was new → PlacesLines h was new
places_by (Ok x) was s new h c order is sound stands items before rest = places_one was s new h c order is sound stands.legal rest items
places_by (Err e) was s new h c order is sound stands items before rest =
    places_none h was new rest (ap (λ (v : StateValue). v.past) before.rest)

pub judged_by : {T E : Type 0} (r : Result T E) (was new : StateValue) (h c : ℕ) (order : Order) → LineStands was h c order
    → OnOk r (new.past ≡ Ordered (Script c h) order ∷ was.past) → ChangesByOrder was new
    → OnOk r (IsJudging (task_run new.task) h (c + 1) new.past)
judged_by (Ok x) was new h c order stands items rest =
    let task : new.task ≡ was.task = ap (λ (v : StateValue). v.task) rest in
    subst (λ (t : Task). IsJudging (task_run t) h (c + 1) new.past) (sym task)
    (subst (IsJudging (task_run was.task) h (c + 1)) (sym items) stands.judging)
judged_by (Err e) was new h c order stands items rest = tt

-- One after the other.

pub come_at : (was s : StateValue) (k c : ℕ) → s ≡ was → ComeBefore s.task.plan.script k c → ComeBefore was.task.plan.script k c
come_at was s k c is come = subst (λ (v : StateValue). ComeBefore v.task.plan.script k c) is come

pub rising_at : (was s : StateValue) → s ≡ was → IsNonDecreasingBy (λ t. t.when) s.task.plan.script
    → IsNonDecreasingBy (λ t. t.when) was.task.plan.script
rising_at was s is rising = subst (λ (v : StateValue). IsNonDecreasingBy (λ t. t.when) v.task.plan.script) is rising

pub begins : (s : StateValue) (h k c : ℕ) → IsNonDecreasingBy (λ t. t.when) s.task.plan.script → HasTurned (task_run s.task) h s.past
    → ((j : ℕ) → 0 < turn_length j s.past → k ≡ total_steps s.past - turn_length j s.past) → ComeBefore s.task.plan.script k c
    → HasJudged h c s s
begins s h k c rising turned is come =
    let long : 0 < turn_length h s.past =
    subst (λ (xs : List Item). 0 < turn_length h xs) (sym turned.is)
    (omega (arith, turned.some, turn_grows h turned.made turned.before)) in
    record {
      places = places_none h s s refl refl;
      judging = judging_begins (task_run s.task) h turned.made c turned.before s.past rising turned.caught_up turned.some turned.most
          turned.is (subst (λ (n : ℕ). ComeBefore s.task.plan.script n c) (is h long) come);
    }

-- the start orders of the plan stand, and nothing else
starts_from : (past : List Item) (specs : List SetSpec) → AreStarts past → AreStarts (log_from past (map start_order specs))
starts_from past [] starts = starts
starts_from past (spec ∷ specs) starts = starts_from (Ordered Start (Install spec) ∷ past) specs (tt, starts)

no_steps : (past : List Item) → AreStarts past → total_steps past ≡ 0
no_steps [] starts = refl
no_steps (Step hart ∷ past) starts = absurd starts.0
no_steps (Ordered Start order ∷ past) starts = no_steps past starts.1
no_steps (Ordered (Script number who) order ∷ past) starts = absurd starts.0
no_steps (Ordered (Asked hart plugin) order ∷ past) starts = absurd starts.0
no_steps (Ordered (Control who) order ∷ past) starts = absurd starts.0
no_steps (GaveBack hart plugin ∷ past) starts = absurd starts.0
no_steps (Left hart ∷ past) starts = absurd starts.0
no_steps (Told who plugin ∷ past) starts = absurd starts.0
no_steps (Got hart plugin ∷ past) starts = absurd starts.0
no_steps (Took who plugin ∷ past) starts = absurd starts.0

pub opens : (s : StateValue) → s.past ≡ log (map start_order s.task.plan.installs) → HasJudged NO_PARTY 0 s s
opens s is =
    let installs = s.task.plan.installs in
    let starts : AreStarts s.past = subst AreStarts (sym is) (starts_from [] installs tt) in
    let count : start_orders s.past ≡ length installs = ap start_orders is ∙ start_orders_of installs in
    let none : slice_get installs (start_orders s.past) ≡ None =
    ap (slice_get installs) count ∙ slice_get_past installs (length installs) (omega arith) in
    record {
      places = places_none NO_PARTY s s refl refl;
      judging = judging_opens (task_run s.task) s.past starts (ap (option_map (λ spec. Ordered Start (Install spec))) none);
    }

pub opens_at_none : (s : StateValue) → s.past ≡ log (map start_order s.task.plan.installs) → 0 ≡ total_steps s.past
opens_at_none s is =
    sym (ap total_steps is ∙ no_steps (log (map start_order s.task.plan.installs)) (starts_from [] s.task.plan.installs tt))

pub places_twice : (h : ℕ) (old mid new : StateValue) → PlacesLines h old mid → PlacesLines h mid new → PlacesLines h old new
places_twice h old mid new first second =
    let same : mid.task ≡ old.task = ap (λ (s : StateValue). s.task) first.rest in
    record {
      placed = goes_on (IsLineOf h) (IsLineOf h) (IsLineOf h) old.past mid.past new.past first.placed second.placed (λ i is. is) (λ i is. is);
      rest = second.rest ∙ ap (λ (s : StateValue). record s {
        past = new.past;
        journal = new.journal;
        registry = new.registry;
        waiting = new.waiting;
        arriving = new.arriving;
        parked = new.parked;
        closers = new.closers;
        rooms = new.rooms;
        boxes = new.boxes;
        spare_closers = new.spare_closers;
      }) first.rest;
      lets_be = λ j low. lets_twice old.task j old.past mid.past new.past (first.lets_be j low)
          (subst (λ (t : Task). LetsAllBe t mid.past new.past) same second.lets_be j low);
      total = second.total ∙ first.total;
    }

-- a line that is judged next has come where it is before the end
pub comes : (h : ℕ) (old now : StateValue) (c k end : ℕ) (t : Timed) → PlacesLines h old now → k ≡ total_steps old.past
    → ComeBefore old.task.plan.script k end → c < end → IsLine now.task.plan.script c t → t.when ≤ total_steps now.past
comes h old now c k end t places is come below at =
    let same : now.task ≡ old.task = ap (λ (s : StateValue). s.task) places.rest in
    let here : IsLine old.task.plan.script c t = subst (λ (x : Task). IsLine x.plan.script c t) same at in
    omega (arith, come.come c t below here, is, places.total)

pub is_there : (h : ℕ) (old now : StateValue) (c k end : ℕ) → PlacesLines h old now → ComeBefore old.task.plan.script k end → c < end
    → c < length now.task.plan.script
is_there h old now c k end places come below =
    let long : length now.task.plan.script ≡ length old.task.plan.script =
    ap (λ (s : StateValue). length s.task.plan.script) places.rest in
    omega (arith, come.within, below, long)

pub ends : (h c k end : ℕ) (old now : StateValue) → HasJudged h c old now → k ≡ total_steps old.past
    → IsNonDecreasingBy (λ t. t.when) old.task.plan.script → ComeBefore old.task.plan.script k end → end ≤ c
    → wanted (task_run now.task) now.past ≡ None
ends h c k end old now done is rising come from =
    let same : now.task ≡ old.task = ap (λ (s : StateValue). s.task) done.places.rest in
    judging_ends (task_run now.task) h c now.past
    (subst (λ (x : Task). IsNonDecreasingBy (λ t. t.when) x.plan.script) (sym same) rising) done.judging (λ t at.
    let here : IsLine old.task.plan.script c t = subst (λ (x : Task). IsLine x.plan.script c t) same at in
    omega (arith, come.later c t from here, is, done.places.total))
