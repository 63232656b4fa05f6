-- Seats while others add to the log.
use Rattle.std.proofs.Common.{◌≡◌, ◌-◌, ◌<◌, ◌≤◌, ◌∷◌, [], ◌++◌, ◌∙◌, ℕ, Bool, true, false, List}
use Rattle.std.proofs.Common.{Option, Some, None, refl, sym, ap, arith, nat_le, inl, inr, length}
use Rattle.std.specs.Prelude.{if◌then◌else◌, min, slice_index_or}
use Rattle.std.proofs.lemmas.Bool.{cases_Bool, false≢true, leb-true, leb-false}
use Rattle.flat_model.specs.declared.plugins.SetSpec.{SetSpec}
use Rattle.flat_model.specs.declared.journals.Item.{Item}
use Rattle.flat_model.specs.declared.limits.TheConstants.{BLOCK_WORDS}
use Rattle.flat_model.specs.Asks.{stays}
use Rattle.flat_model.specs.Registry.{Plugin, Plugins, no_plugin, plugin_of, sets_of}
use Rattle.flat_model.specs.World.{HartState, Start, started_hart}
use Rattle.flat_model.specs.Worlds.{world, hart_of}
use Rattle.run_rules.specs.Guest.{Run, plugins}
use Rattle.run_rules.specs.Heard.{Progress, progress, is_live, no_set, steps_since}
use Rattle.run_rules.specs.Legal.{Legal}
use Rattle.run_rules.specs.Laws.{AreOfOthers, NoneSteps, KeepsSet, IsUntouched}
use Rattle.run_rules.specs.Places.{place_of, is_with_hart}
use Rattle.run_rules.proofs.Fitting.{beyond}
use Rattle.run_rules.proofs.Harts.{harts_move_by_their_steps}
use Rattle.run_rules.proofs.Keeping.{no_step, others_leave_sets_alone}
use Rattle.run_order.specs.InOrder.{Task, task_run}
use Rattle.kept_order.specs.Going.{StaysSeated}
use Rattle.kept_order.specs.Waking.{MayWake}
use Rattle.kept_order.proofs.Asked.{none_waits}
use Rattle.kept_order.proofs.Gone.{unstarted}
use Rattle.kept_order.proofs.Seats.{others_leave_runners_alone}
use Rattle.kept_order.proofs.Wakings.{parked_harts_wake}
use Rattle.kept_order.proofs.Withdrawals.{plugins_are_few}
use Rattle.watcher_api.specs.Acting.{ask_of}
use Rattle.replay_order.proofs.Before.{live_before}
use Rattle.replay_order.specs.Seats.{Seating, woken, AsksAreNoted, OthersLeaveSeats, LooksAgain}

-- a plug-in that is Live is installed
pub live_low : (r : Plugins) (p : ℕ) → 1 ≤ p → is_live (plugin_of r p).state ≡ true → p ≤ length r.plugins
live_low r p one live =
    elim (cases_Bool (nat_le p (length r.plugins))) [
      | inl near ↦ leb-true p (length r.plugins) near
      | inr far ↦
          let none : plugin_of r p ≡ no_plugin = beyond r.plugins (p - 1) (omega (arith, leb-false p (length r.plugins) far)) in
          absurd (false≢true (ap (λ (q : Plugin). is_live q.state) (sym none) ∙ live))
    ]

pub live_few : (run : Run) (p : ℕ) (past : List Item) → 1 ≤ p → Legal run past → is_live (plugin_of (plugins run past) p).state ≡ true
    → p ≤ 8
live_few run p past one legal live =
    let low = live_low (plugins run past) p one live in
    let few : length (plugins run past).plugins ≤ 8 = plugins_are_few run past legal in
    omega (arith, low, few)

pub asks_are_noted : AsksAreNoted
asks_are_noted t h p past s one low legal state sits live =
    let run = task_run t in
    let few = live_few run p past one legal live in
    elim (cases_Bool (is_with_hart (place_of run p h past))) [
      | inl with ↦ (sits.asks p one few with live, λ some. sits.since p one few with live some)
      | inr off ↦
          let none = none_waits run p h past one low legal state off in
          (sits.quiet p one few off ∙ sym none, λ some. absurd (false≢true (sym some ∙ ap stays none)))
    ]

no_steps : (h : ℕ) (more : List Item) → AreOfOthers h more → NoneSteps h more
no_steps h [] others = tt
no_steps h (x ∷ more) others = (no_step h x others.0, no_steps h more others.1)

-- the hart, once it is looked at again

wakes : (t : Task) (h : ℕ) (past now : List Item) (hart : HartState) (start : Option Start)
    → hart_of t.machine t.mode past h ≡ hart → (hart_of t.machine t.mode past h).parked ≡ true → MayWake t h past now
    → (world t.machine t.mode now).shared.starts h ≡ start → hart_of t.machine t.mode now h ≡ woken h t.machine.harts hart start
wakes t h past now hart None is asleep wake has = wake.asleep has ∙ is
wakes t h past now hart (Some start) is asleep wake has =
    wake.woken start has
    ∙ sym (ap (λ (b : Bool). if b then started_hart h t.machine.harts start else hart) (ap (λ (x : HartState). x.parked) (sym is) ∙ asleep))

hart_goes : (t : Task) (h : ℕ) (more past : List Item) (hart : HartState) (start : Option Start) → h < t.machine.harts → AreOfOthers h more
    → (world t.machine t.mode past).shared.starts h ≡ start → hart_of t.machine t.mode past h ≡ woken h t.machine.harts hart start
    → hart_of t.machine t.mode (more ++ past) h
    ≡ woken h t.machine.harts hart ((world t.machine t.mode (more ++ past)).shared.starts h)
hart_goes t h more past hart (Some start) low others has is =
    let still : IsUntouched t.machine t.mode h more past = harts_move_by_their_steps t.machine t.mode h more past start
    (no_steps h more others) has in
    still.hart ∙ is ∙ ap (woken h t.machine.harts hart) (sym (still.start ∙ has))
hart_goes t h more past hart None low others has is =
    let asleep = (unstarted t.machine t.mode h past low has).parked in
    wakes t h past (more ++ past) hart ((world t.machine t.mode (more ++ past)).shared.starts h) is asleep
    (parked_harts_wake t h more past low others asleep) refl

-- how long ago a set asked

abbrev since_by : Run → ℕ → ℕ → List Item → List SetSpec → ℕ
since_by run p h log sets = (progress run (slice_index_or sets (length sets - 1) no_set) p (length sets - 1) h log).since

since_same : (run : Run) (p h : ℕ) (past now : List Item) → KeepsSet run p h past now → is_with_hart (place_of run p h past) ≡ true
    → steps_since run p h now ≡ steps_since run p h past
since_same run p h past now keeps with =
    let sets = sets_of (plugins run past) p in
    ap (since_by run p h now) (keeps.sets with)
    ∙ ap (λ (q : Progress). q.since) (keeps.heard (slice_index_or sets (length sets - 1) no_set) (length sets - 1))

pub others_leave_seats : OthersLeaveSeats
others_leave_seats t h more past s low others legal state sits =
    let run = task_run t in
    let now = more ++ past in
    let same : StaysSeated t h past now = others_leave_runners_alone t h more past low others legal state in
    let keeps : (p : ℕ) → 1 ≤ p
    → KeepsSet run p h past now = λ p one. others_leave_sets_alone run p h more past one low others legal state in
    record {
      there = same.there ∙ sits.there;
      hart = hart_goes t h more past s.hart ((world t.machine t.mode past).shared.starts h) low others refl sits.hart;
      below = sits.below;
      sets = sits.sets ∙ sym same.sets;
      filters = sits.filters ∙ sym same.specs;
      quiet = λ p one few off. sits.quiet p one few (sym (keeps p one).there ∙ off);
      asks = λ p one few with live.
          let had = sym (keeps p one).there ∙ with in
          sits.asks p one few had (live_before run p h more past one low others legal state had live) ∙ sym (same.asks p one live);
      since = λ p one few with live some.
          let had = sym (keeps p one).there ∙ with in
          sits.since p one few had (live_before run p h more past one low others legal state had live)
          (ap stays (sym (same.asks p one live)) ∙ some)
          ∙ ap (λ (n : ℕ). min n BLOCK_WORDS) (sym (since_same run p h past now (keeps p one) had));
    }

-- a hart that is looked at again

awake_or : (h harts : ℕ) (hart : HartState) (start : Start) (b : Bool) → hart.parked ≡ b
    → woken h harts (if b then started_hart h harts start else hart) (Some start) ≡ (if b then started_hart h harts start else hart)
awake_or h harts hart start true is = refl
awake_or h harts hart start false is = ap (λ (c : Bool). if c then started_hart h harts start else hart) is

woken_twice : (h harts : ℕ) (hart : HartState) (start : Option Start)
    → woken h harts (woken h harts hart start) start ≡ woken h harts hart start
woken_twice h harts hart None = refl
woken_twice h harts hart (Some start) = awake_or h harts hart start hart.parked refl

pub looks_again : LooksAgain
looks_again t h past old new sits same is below =
    let harts = t.machine.harts in
    let start = (world t.machine t.mode past).shared.starts h in
    let asks = ap (λ (s : Seating). s.asks) same in
    let since = ap (λ (s : Seating). s.since) same in
    record {
      there = sits.there;
      hart = sits.hart ∙ sym (woken_twice h harts old.hart start)
          ∙ ap (λ (x : HartState). woken h harts x start) (sym (is ∙ sits.hart));
      below = below;
      sets = ap (λ (s : Seating). s.sets) same ∙ sits.sets;
      filters = ap (λ (s : Seating). s.filters) same ∙ sits.filters;
      quiet = λ p one few off. ap (ask_of p) asks ∙ sits.quiet p one few off;
      asks = λ p one few with live. ap (ask_of p) asks ∙ sits.asks p one few with live;
      since = λ p one few with live some. ap (λ (ns : List ℕ). slice_index_or ns (p - 1) 0) since ∙ sits.since p one few with live some;
    }
