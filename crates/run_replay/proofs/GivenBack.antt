-- Sets that harts give back, and those that they may not.
use Rattle.std.proofs.Common.{◌≡◌, ◌==◌, ◌&&◌, ◌+◌, ◌-◌, ◌<◌, ◌≤◌, ◌++◌, ◌∷◌, [], ◌∙◌, ℕ, zero, suc, Bool, true, false, not, List}
use Rattle.std.proofs.Common.{Option, Some, None, refl, sym, ap, subst, arith, inl, inr, length, nat_lt, map}
use Rattle.std.specs.Prelude.{is_some, min, slice_index_or, slice_set, replicate, if◌then◌else◌}
use Rattle.std.specs.List.Sorted.{IsNonDecreasingBy}
use Rattle.std.proofs.lemmas.Bool.{cases_Bool, false≢true, lt-ltb}
use Rattle.std.proofs.lemmas.Bool.Decides.{nat_tests}
use Rattle.std.proofs.lemmas.List.{get_or-set_other}
use Rattle.flat_model.specs.declared.plugins.Ask.{Ask}
use Rattle.flat_model.specs.declared.plugins.Ask.TheVariants.{Stay}
use Rattle.flat_model.specs.declared.plugins.SetSpec.{SetSpec}
use Rattle.flat_model.specs.declared.journals.Entry.TheVariants as entries
use Rattle.flat_model.specs.declared.journals.How.TheVariants as how
use Rattle.flat_model.specs.declared.journals.Item.{Item}
use Rattle.flat_model.specs.declared.journals.Item.TheVariants.{Step, Ordered, GaveBack, Left, Told, Got, Took}
use Rattle.flat_model.specs.declared.journals.Order.{Order}
use Rattle.flat_model.specs.declared.journals.Order.TheVariants.{Install, Register, Reset, Uninstall}
use Rattle.flat_model.specs.declared.journals.PlugState.{PlugState}
use Rattle.flat_model.specs.declared.journals.PlugState.TheVariants.{Resetting, Leaving}
use Rattle.flat_model.specs.declared.limits.TheConstants.{BLOCK_WORDS}
use Rattle.flat_model.specs.Image.{Program}
use Rattle.flat_model.specs.Log.{journaled}
use Rattle.flat_model.specs.Asks.{stays}
use Rattle.flat_model.specs.Registry.{Plugins, Plugin, no_plugin, registry, plugin_of, sets_of, has_left, is_closing, is_installed, owes}
use Rattle.flat_model.specs.Registry.{after_order, after_leave, with_set, withdrawn, done_state}
use Rattle.flat_model.specs.World.{HartState, World}
use Rattle.flat_model.specs.Worlds.{world}
use Rattle.watcher_api.specs.Acting.{ask_of}
use Rattle.run_rules.specs.Guest.{Run, plugins}
use Rattle.run_rules.specs.Due.{wanted}
use Rattle.run_rules.specs.Heard.{progress, is_live, no_set, waiting, steps_since}
use Rattle.run_rules.specs.Legal.{Legal, is_there, asks_nothing, may_give_back}
use Rattle.run_rules.specs.Places.{Place, Nowhere, Waiting, WithHart, Parked, Out, place_of, given_back, is_with_hart, owed_by, taker}
use Rattle.run_rules.proofs.Fitting.{left_at, number_is}
use Rattle.run_rules.proofs.Growing.{fresh}
use Rattle.run_rules.proofs.Turns.{same}
use Rattle.run_order.specs.Sets.{sets_for, is_closing_out}
use Rattle.run_order.specs.InOrder.{Task, InOrder, task_run}
use Rattle.kept_order.specs.Hearing.{specs_for}
use Rattle.kept_order.specs.Returning.{HasGivenBack}
use Rattle.kept_order.proofs.Backs.{Owes, gives_owed, same_sets, state_keeps}
use Rattle.kept_order.proofs.BackChanges.{backs_change_little}
use Rattle.kept_order.proofs.Leaves.{knows_harts}
use Rattle.host_state.specs.State.{StateValue, stored_of}
use Rattle.replay_order.specs.Seats.{Seating, Sits, woken}
use Rattle.replay_order.proofs.Entries.{broken_rules_break_journals}
use Rattle.run_replay.specs.declared.berths.Berth.{Berth}
use Rattle.run_replay.specs.declared.replays.Followed.TheVariants.{Went}
use Rattle.run_replay.specs.Following.{seating_of, IsBerth, IsPlaced, IsFollowing, IsFollowed, IsNext, IsBreaking}
use Rattle.run_replay.specs.Lists.{AreLists}
use Rattle.run_replay.proofs.Going.{GoesBy, goes_on, next_alone, none_behind_back}

-- A hart that has left owes nothing.

-- at each place of a list of plug-ins hart h owes no Back
abbrev NoneOwe : ℕ → List Plugin → Type 0
NoneOwe h ps = (i : ℕ) → slice_index_or (slice_index_or ps i no_plugin).owing h false ≡ false

set_none : (h : ℕ) (ps : List Plugin) (k : ℕ) (x : Plugin) → slice_index_or x.owing h false ≡ false → NoneOwe h ps
    → NoneOwe h (slice_set ps k x)
set_none h [] k x none each i = each i
set_none h (p ∷ ps) zero x none each zero = none
set_none h (p ∷ ps) zero x none each (suc i) = each (suc i)
set_none h (p ∷ ps) (suc k) x none each zero = each zero
set_none h (p ∷ ps) (suc k) x none each (suc i) = set_none h ps k x none (λ j. each (suc j)) i

append_none : (h : ℕ) (ps : List Plugin) (x : Plugin) → slice_index_or x.owing h false ≡ false → NoneOwe h ps → NoneOwe h (ps ++ x ∷ [])
append_none h [] x none each zero = none
append_none h [] x none each (suc i) = refl
append_none h (p ∷ ps) x none each zero = each zero
append_none h (p ∷ ps) x none each (suc i) = append_none h ps x none (λ j. each (suc j)) i

false_at : (n h : ℕ) → slice_index_or (replicate n false) h false ≡ false
false_at zero h = refl
false_at (suc n) zero = refl
false_at (suc n) (suc h) = false_at n h

not_gone : (gone : List Bool) (h : ℕ) → slice_index_or gone h false ≡ true → slice_index_or (map not gone) h false ≡ false
not_gone [] h is = refl
not_gone (b ∷ gone) zero is = ap not is
not_gone (b ∷ gone) (suc h) is = not_gone gone h is

set_false : (bs : List Bool) (k h : ℕ) → slice_index_or bs h false ≡ false → slice_index_or (slice_set bs k false) h false ≡ false
set_false [] k h none = none
set_false (b ∷ bs) zero zero none = refl
set_false (b ∷ bs) zero (suc h) none = none
set_false (b ∷ bs) (suc k) zero none = none
set_false (b ∷ bs) (suc k) (suc h) none = set_false bs k h none

own_false : (bs : List Bool) (h : ℕ) → slice_index_or (slice_set bs h false) h false ≡ false
own_false [] h = refl
own_false (b ∷ bs) zero = refl
own_false (b ∷ bs) (suc h) = own_false bs h

order_none : (h : ℕ) (r : Plugins) (order : Order) → has_left r h ≡ true → NoneOwe h r.plugins → NoneOwe h (after_order order r).plugins
order_none h r (Install spec) gone each = append_none h r.plugins (fresh r spec) (false_at r.harts h) each
order_none h r (Register number spec) gone each =
    set_none h r.plugins (number - 1) (with_set (plugin_of r number) spec) (each (number - 1)) each
order_none h r (Reset number) gone each =
    set_none h r.plugins (number - 1) (withdrawn (plugin_of r number) Resetting how.Reset r.gone) (not_gone r.gone h gone) each
order_none h r (Uninstall number) gone each =
    set_none h r.plugins (number - 1) (withdrawn (plugin_of r number) Leaving how.Uninstall r.gone) (not_gone r.gone h gone) each

order_gone : (r : Plugins) (order : Order) (h : ℕ) → has_left (after_order order r) h ≡ has_left r h
order_gone r (Install spec) h = refl
order_gone r (Register number spec) h = refl
order_gone r (Reset number) h = refl
order_gone r (Uninstall number) h = refl

left_before : (gone : List Bool) (k h : ℕ) → (k == h) ≡ false → slice_index_or (slice_set gone k true) h false ≡ true
    → slice_index_or gone h false ≡ true
left_before gone k h off is = sym (get_or-set_other gone k h true false (λ e. false≢true (sym off ∙ ap (λ (x : ℕ). k == x) e ∙ same
    k))) ∙ is

left_none : (h k : ℕ) (r : Plugins) → has_left (after_leave k r) h ≡ true
    → (has_left r h ≡ true → NoneOwe h r.plugins) → NoneOwe h (after_leave k r).plugins
left_none h k r gone each i =
    ap (λ (q : Plugin). slice_index_or q.owing h false) (left_at k r.plugins i)
    ∙ elim (cases_Bool (k == h)) [
      | inl at ↦
          let e : k ≡ h = grind (arith, nat_tests, at) in
          ap (λ (j : ℕ). slice_index_or (slice_set (slice_index_or r.plugins i no_plugin).owing j false) h false) e
          ∙ own_false (slice_index_or r.plugins i no_plugin).owing h
      | inr off ↦ set_false (slice_index_or r.plugins i no_plugin).owing k h (each (left_before r.gone k h off gone) i)
    ]

gone_owe_nothing : (run : Run) (h : ℕ) (past : List Item) → has_left (plugins run past) h ≡ true → NoneOwe h (plugins run past).plugins
unfolding registry
gone_owe_nothing run h [] gone i = refl
gone_owe_nothing run h (Step hart ∷ past) gone i = gone_owe_nothing run h past gone i
gone_owe_nothing run h (Ordered origin order ∷ past) gone i =
    let was : has_left (plugins run past) h ≡ true = sym (order_gone (plugins run past) order h) ∙ gone in
    order_none h (plugins run past) order was (gone_owe_nothing run h past was) i
gone_owe_nothing run h (GaveBack hart number ∷ past) gone i =
    let p = plugin_of (plugins run past) number in
    set_none h (plugins run past).plugins (number - 1) (record p { owing = slice_set p.owing hart false })
    (set_false p.owing hart h (gone_owe_nothing run h past gone (number - 1))) (gone_owe_nothing run h past gone) i
gone_owe_nothing run h (Left hart ∷ past) gone i = left_none h hart (plugins run past) gone (gone_owe_nothing run h past) i
gone_owe_nothing run h (Told party number ∷ past) gone i =
    let p = plugin_of (plugins run past) number in
    set_none h (plugins run past).plugins (number - 1) (record p { state = done_state p.state })
    (gone_owe_nothing run h past gone (number - 1)) (gone_owe_nothing run h past gone) i
gone_owe_nothing run h (Got hart number ∷ past) gone i = gone_owe_nothing run h past gone i
gone_owe_nothing run h (Took party number ∷ past) gone i = gone_owe_nothing run h past gone i

-- so who owes is there
pub owes_there : (run : Run) (h plugin : ℕ) (past : List Item) → is_there run h past ≡ false → may_give_back run h plugin past ≡ false
owes_there run h plugin past off = elim (cases_Bool (may_give_back run h plugin past)) [
  | inr may_not ↦ may_not
  | inl may ↦
      let r = plugins run past in
      let is : Owes run h plugin past = gives_owed run h plugin past may in
      elim (cases_Bool (has_left r h)) [
        | inl gone ↦ absurd (false≢true (sym (gone_owe_nothing run h past gone (plugin - 1)) ∙ is.owed))
        | inr stays ↦
            let here : nat_lt h r.harts ≡ true = lt-ltb h r.harts (omega (arith, is.hart, (knows_harts run past).harts)) in
            absurd (false≢true (sym off ∙ (ap (λ (b : Bool). b && not (has_left r h)) here ∙ ap not stays)))
      ]
]

-- The rule of Backs.

and_true : (b : Bool) → (b && true) ≡ b
and_true true = refl
and_true false = refl

and_none : (b : Bool) → (b && false) ≡ false
and_none true = refl
and_none false = refl

pub unowed_stays : (run : Run) (h plugin : ℕ) (past : List Item) → owes (plugins run past) h plugin ≡ false
    → false ≡ may_give_back run h plugin past
unowed_stays run h plugin past none =
    sym (ap (λ (b : Bool). b && (asks_nothing run h past && not (is_some (wanted run past)))) none)

pub owed_by_asks : (run : Run) (h plugin : ℕ) (past : List Item) → wanted run past ≡ None → owes (plugins run past) h plugin ≡ true
    → asks_nothing run h past ≡ may_give_back run h plugin past
owed_by_asks run h plugin past none owed =
    sym (ap (λ (b : Bool). b && (asks_nothing run h past && not (is_some (wanted run past)))) owed
    ∙ ap (λ (o : Option Item). asks_nothing run h past && not (is_some o)) none ∙ and_true (asks_nothing run h past))

pub both : (run : Run) (h plugin : ℕ) (past : List Item) → Legal run past → may_give_back run h plugin past ≡ true
    → Legal run (GaveBack h plugin ∷ past)
unfolding Legal
both run h plugin past legal may = (legal, may)

pub least : (run : Run) (h plugin : ℕ) (past : List Item) → may_give_back run h plugin past ≡ true → 1 ≤ plugin
least run h plugin past may = (gives_owed run h plugin past may).one

pub most : (run : Run) (h plugin : ℕ) (past : List Item) → may_give_back run h plugin past ≡ true
    → plugin ≤ length (plugins run past).plugins
most run h plugin past may = omega (arith, (gives_owed run h plugin past may).most)

pub back_breaks : (s : StateValue) (h plugin : ℕ) → may_give_back (task_run s.task) h plugin s.past ≡ false
    → IsBreaking (entries.Back h plugin) s
back_breaks s h plugin off legal =
    broken_rules_break_journals s.task.machine s.task.mode s.task.plan (GaveBack h plugin) s.past (journaled s.past) refl
    (λ rule. false≢true (sym off ∙ rule)) legal

-- The hart's seat.

stay_at : (asks : List Ask) (i : ℕ) → slice_index_or (slice_set asks i Stay) i Stay ≡ Stay
stay_at [] i = refl
stay_at (a ∷ asks) zero = refl
stay_at (a ∷ asks) (suc i) = stay_at asks i

with_no_hart : (place : Place) → is_with_hart (given_back place) ≡ false
with_no_hart Nowhere = refl
with_no_hart Waiting = refl
with_no_hart WithHart = refl
with_no_hart Parked = refl
with_no_hart Out = refl

off_place : (run : Run) (h number p : ℕ) (past : List Item) → (number == p) ≡ false
    → place_of run p h (GaveBack h number ∷ past) ≡ place_of run p h past
unfolding place_of
off_place run h number p past off =
    let none : ((h == h) && (number == p)) ≡ false = ap (λ (b : Bool). (h == h) && b) off ∙ and_none (h == h) in
    ap (λ (b : Bool). if b then given_back (place_of run p h past) else place_of run p h past) none

own_place : (run : Run) (h number p : ℕ) (past : List Item) → (number == p) ≡ true
    → is_with_hart (place_of run p h (GaveBack h number ∷ past)) ≡ false
unfolding place_of
own_place run h number p past at =
    let both' : ((h == h) && (number == p)) ≡ true = ap (λ (b : Bool). (h == h) && b) at ∙ and_true (h == h) ∙ same h in
    ap (λ (b : Bool). is_with_hart (if b then given_back (place_of run p h past) else place_of run p h past)) both'
    ∙ with_no_hart (place_of run p h past)

abbrev since_by : Run → ℕ → ℕ → List Item → List SetSpec → ℕ
since_by run p h log sets = (progress run (slice_index_or sets (length sets - 1) no_set) p (length sets - 1) h log).since

same_since : (run : Run) (h number p : ℕ) (past : List Item)
    → steps_since run p h (GaveBack h number ∷ past) ≡ steps_since run p h past
unfolding registry progress
same_since run h number p past = ap (since_by run p h past) (same_sets (plugins run past) h number p)

same_live : (run : Run) (h number p : ℕ) (past : List Item)
    → (plugin_of (plugins run (GaveBack h number ∷ past)) p).state ≡ (plugin_of (plugins run past) p).state
unfolding registry
same_live run h number p past =
    let r = plugins run past in
    let x = plugin_of r number in
    state_keeps r.plugins (number - 1) (record x { owing = slice_set x.owing h false }) (p - 1) refl

same_world : (t : Task) (h number : ℕ) (past : List Item) → world t.machine t.mode (GaveBack h number ∷ past) ≡ world t.machine t.mode past
unfolding world
same_world t h number past = refl

-- what a Back leaves of a seat
pub record IsGivenBack (t : Task) (h plugin : ℕ) (now : List Item) (old new : Seating) : Type 0 where
  pub hart : new.hart ≡ old.hart
  pub sets : new.sets ≡ sets_for is_with_hart (task_run t) h now
  pub filters : new.filters ≡ specs_for (task_run t) h now
  pub asks : new.asks ≡ slice_set old.asks (plugin - 1) Stay
  pub since : new.since ≡ old.since

pub sits_back : (t : Task) (h plugin : ℕ) (past : List Item) (old new : Seating) → 1 ≤ plugin
    → IsNonDecreasingBy (λ l. l.when) t.plan.script → Legal (task_run t) (GaveBack h plugin ∷ past)
    → Sits t h past old → IsGivenBack t h plugin (GaveBack h plugin ∷ past) old new → Sits t h (GaveBack h plugin ∷ past) new
sits_back t h plugin past old new number rising legal sits is =
    let run = task_run t in
    let now = GaveBack h plugin ∷ past in
    let little : HasGivenBack t h plugin past now = backs_change_little t h plugin past rising legal in
    let same_ask : (p : ℕ) → 1 ≤ p → (plugin == p) ≡ false → ask_of p new.asks ≡ ask_of p old.asks =
    λ p one off. ap (ask_of p) is.asks
    ∙ get_or-set_other old.asks (plugin - 1) (p - 1) Stay Stay (λ e. let q : p ≡ plugin = omega (arith, e, one, number) in false≢true
    (sym off ∙ ap (λ (x : ℕ). plugin == x) q ∙ same plugin)) in
    let own_ask : (p : ℕ) → (plugin == p) ≡ true → ask_of p new.asks ≡ Stay =
    λ p at. let e : p ≡ plugin = sym (number_is plugin p at) in
    ap (ask_of p) is.asks ∙ ap (λ (k : ℕ). slice_index_or (slice_set old.asks (plugin - 1) Stay) (k - 1) Stay) e ∙ stay_at old.asks
    (plugin - 1) in
    let was_live : (p : ℕ) → is_live (plugin_of (plugins run now) p).state ≡ true → is_live (plugin_of (plugins run past) p).state ≡ true =
    λ p live. ap is_live (sym (same_live run h plugin p past)) ∙ live in
    record {
      there = little.there ∙ sits.there;
      hart = ap (λ (w : World). w.harts h) (same_world t h plugin past) ∙ sits.hart
          ∙ ap (λ (x : HartState). woken h t.machine.harts x ((world t.machine t.mode past).shared.starts h)) (sym is.hart)
          ∙ ap (λ (w : World). woken h t.machine.harts new.hart (w.shared.starts h)) (sym (same_world t h plugin past));
      below = subst (λ (x : HartState). x.ending ≡ None → x.steps < t.machine.limit) (sym is.hart) sits.below;
      sets = is.sets;
      filters = is.filters;
      quiet = λ p one few off. elim (cases_Bool (plugin == p)) [
        | inl at ↦ own_ask p at
        | inr apart ↦
            same_ask p one apart ∙ sits.quiet p one few (ap is_with_hart (sym (off_place run h plugin p past apart)) ∙ off)
      ];
      asks = λ p one few with live. elim (cases_Bool (plugin == p)) [
        | inl at ↦ absurd (false≢true (sym (own_place run h plugin p past at) ∙ with))
        | inr apart ↦
            same_ask p one apart
            ∙ sits.asks p one few (ap is_with_hart (sym (off_place run h plugin p past apart)) ∙ with) (was_live p live)
            ∙ sym (little.asks p)
      ];
      since = λ p one few with live some. elim (cases_Bool (plugin == p)) [
        | inl at ↦ absurd (false≢true (sym (own_place run h plugin p past at) ∙ with))
        | inr apart ↦
            ap (λ (ns : List ℕ). slice_index_or ns (p - 1) 0) is.since
            ∙ sits.since p one few (ap is_with_hart (sym (off_place run h plugin p past apart)) ∙ with) (was_live p live)
            (ap stays (sym (little.asks p)) ∙ some)
            ∙ ap (λ (n : ℕ). min n BLOCK_WORDS) (sym (same_since run h plugin p past))
      ];
    }

-- and of a berth
pub back_berth : {W : Type 0} (h plugin : ℕ) (old new : StateValue) (b d : Berth W) → IsBerth old.task h old.past b → 1 ≤ plugin
    → IsNonDecreasingBy (λ l. l.when) old.task.plan.script → Legal (task_run old.task) (GaveBack h plugin ∷ old.past)
    → new.task ≡ old.task → new.past ≡ GaveBack h plugin ∷ old.past → d.hart ≡ b.hart
    → d.attached ≡ sets_for is_with_hart (task_run new.task) h new.past → d.specs ≡ specs_for (task_run new.task) h new.past
    → d.asks.first ≡ slice_set b.asks.first (plugin - 1) Stay → d.since ≡ b.since → d.raw.kept ≡ b.raw.kept
    → AreLists old.task.machine.image d.generation d.specs d.lists → IsBerth new.task h new.past d
back_berth h plugin old new b d berth number rising legal task past hart sets filters asks since kept cached =
    let t = old.task in
    let now = GaveBack h plugin ∷ old.past in
    let is : IsGivenBack t h plugin now (seating_of b) (seating_of d) = record {
      hart = hart;
      sets = sets ∙ ap (λ (x : Task). sets_for is_with_hart (task_run x) h new.past) task
          ∙ ap (λ (xs : List Item). sets_for is_with_hart (task_run t) h xs) past;
      filters = filters ∙ ap (λ (x : Task). specs_for (task_run x) h new.past) task
          ∙ ap (λ (xs : List Item). specs_for (task_run t) h xs) past;
      asks = asks;
      since = since;
    } in
    let then' : IsBerth t h now d = record {
      sits = sits_back t h plugin old.past (seating_of b) (seating_of d) number rising legal berth.sits is;
      kept = kept ∙ berth.kept;
      cached = cached;
    } in
    subst (λ (x : Task). IsBerth x h new.past d) (sym task) (subst (λ (xs : List Item). IsBerth t h xs d) (sym past) then')

-- What a Back makes of a replay.

same_out : (run : Run) (h number p : ℕ) (past : List Item) → is_closing_out run p (GaveBack h number ∷ past) ≡ is_closing_out run p past
unfolding taker
same_out run h number p past = ap (λ (s : PlugState). is_closing s && is_some (taker p past)) (same_live run h number p past)

pub back_follows : {W : Type 0} (h plugin : ℕ) (old new : StateValue) (berths : List (Option (Berth W))) (b : Berth W)
    (blocks : Option Program) → IsFollowing old berths blocks → InOrder new.task (stored_of new) → new.task ≡ old.task
    → new.short ≡ false → new.past ≡ GaveBack h plugin ∷ old.past → IsBerth new.task h new.past b
    → IsFollowed Went (entries.Back h plugin) old new (slice_set berths h (Some b)) blocks
back_follows h plugin old new berths b blocks following order task open_now past berth =
    let more = GaveBack h plugin ∷ [] in
    let goes : GoesBy more old new = record { task = task; open_now = open_now; past = past; order = order } in
    let next : IsNext (entries.Back h plugin) old new = next_alone (entries.Back h plugin) old new task (ap journaled past) in
    let own : IsPlaced old.task h (more ++ old.past) (Some b) =
    subst (λ (xs : List Item). IsBerth old.task h xs b) past (subst (λ (x : Task). IsBerth x h new.past b) task berth) in (
      next,
      goes_on h more old new berths (Some b) blocks blocks following goes
          (none_behind_back (task_run old.task) old.past following.rising following.caught_up h plugin) (λ g off. (off, tt))
          (λ p. same_out (task_run old.task) h plugin p old.past ∙ following.none_out p) following.serves own,
    )
