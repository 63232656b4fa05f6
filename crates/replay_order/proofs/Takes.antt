-- Seats of harts that take sets.
use Rattle.std.proofs.Common.{◌≡◌, ◌==◌, ◌&&◌, ◌-◌, ◌<◌, ◌≤◌, ◌∷◌, [], ◌++◌, ◌∙◌, ℕ, Bool, true, false, List, refl, sym, ap, subst, inl}
use Rattle.std.proofs.Common.{inr}
use Rattle.std.specs.Prelude.{None, if◌then◌else◌, min, slice_index_or}
use Rattle.std.proofs.lemmas.Bool.{cases_Bool, false≢true}
use Rattle.flat_model.specs.declared.plugins.Ask.TheVariants.{Stay}
use Rattle.flat_model.specs.declared.journals.Item.{Item}
use Rattle.flat_model.specs.declared.journals.Item.TheVariants.{Step, Ordered, GaveBack, Left, Told, Got, Took}
use Rattle.flat_model.specs.declared.limits.TheConstants.{BLOCK_WORDS}
use Rattle.flat_model.specs.Asks.{stays}
use Rattle.flat_model.specs.Registry.{Plugins, plugin_of, sets_of}
use Rattle.flat_model.specs.World.{HartState, World}
use Rattle.flat_model.specs.Worlds.{world}
use Rattle.watcher_api.specs.Acting.{ask_of}
use Rattle.run_rules.specs.Guest.{Run, plugins}
use Rattle.run_rules.specs.Heard.{Progress, progress, is_live, last_set, no_set, waiting, steps_since}
use Rattle.run_rules.specs.Laws.{NoneSteps}
use Rattle.run_rules.specs.Places.{Place, Nowhere, Waiting, WithHart, Parked, Out, place_of, is_with_hart, got}
use Rattle.run_rules.proofs.Tails.{hears_by_steps_alone}
use Rattle.run_order.specs.InOrder.{Task, task_run}
use Rattle.kept_order.specs.Taking.{AreGots, LittleIsChanged}
use Rattle.kept_order.proofs.Asked.{none_waits}
use Rattle.kept_order.proofs.Gots.{gots_change_little}
use Rattle.replay_order.proofs.Before.{legal_before, state_before}
use Rattle.replay_order.specs.Seats.{woken}
use Rattle.replay_order.specs.Takes.{TakesKeepSeats}

-- a set that a hart has stays with it
got_with : (place : Place) → is_with_hart place ≡ true → is_with_hart (got place) ≡ true
got_with Nowhere with = with
got_with Waiting with = refl
got_with WithHart with = refl
got_with Parked with = with
got_with Out with = with

either_with : (b : Bool) (place : Place) → is_with_hart place ≡ true → is_with_hart (if b then got place else place) ≡ true
either_with true place with = got_with place with
either_with false place with = with

with_still : (run : Run) (p h : ℕ) (more past : List Item) → AreGots more → is_with_hart (place_of run p h past) ≡ true
    → is_with_hart (place_of run p h (more ++ past)) ≡ true
unfolding place_of
with_still run p h [] past gots with = with
with_still run p h (Got hart number ∷ more) past gots with =
    either_with ((hart == h) && (number == p)) (place_of run p h (more ++ past)) (with_still run p h more past gots.1 with)
with_still run p h (Step hart ∷ more) past gots with = absurd gots.0
with_still run p h (Ordered origin order ∷ more) past gots with = absurd gots.0
with_still run p h (GaveBack hart number ∷ more) past gots with = absurd gots.0
with_still run p h (Left hart ∷ more) past gots with = absurd gots.0
with_still run p h (Told party number ∷ more) past gots with = absurd gots.0
with_still run p h (Took party number ∷ more) past gots with = absurd gots.0

without_before : (run : Run) (p h : ℕ) (more past : List Item) → AreGots more → is_with_hart (place_of run p h (more ++ past)) ≡ false
    → is_with_hart (place_of run p h past) ≡ false
without_before run p h more past gots off =
    elim (cases_Bool (is_with_hart (place_of run p h past))) [
      | inr was ↦ was
      | inl was ↦ absurd (false≢true (sym off ∙ with_still run p h more past gots was))
    ]

no_steps : (h : ℕ) (more : List Item) → AreGots more → NoneSteps h more
no_steps h [] gots = tt
no_steps h (Got hart number ∷ more) gots = (refl, no_steps h more gots.1)
no_steps h (Step hart ∷ more) gots = absurd gots.0
no_steps h (Ordered origin order ∷ more) gots = absurd gots.0
no_steps h (GaveBack hart number ∷ more) gots = absurd gots.0
no_steps h (Left hart ∷ more) gots = absurd gots.0
no_steps h (Told party number ∷ more) gots = absurd gots.0
no_steps h (Took party number ∷ more) gots = absurd gots.0

abbrev since_by : Run → ℕ → ℕ → List Item → Plugins → ℕ
since_by run p h log r = (progress run (slice_index_or (sets_of r p) (last_set r p) no_set) p (last_set r p) h log).since

since_same : (t : Task) (p h : ℕ) (more past : List Item) → AreGots more → LittleIsChanged t past (more ++ past)
    → steps_since (task_run t) p h (more ++ past) ≡ steps_since (task_run t) p h past
since_same t p h more past gots little =
    let run = task_run t in
    let r = plugins run past in
    ap (since_by run p h (more ++ past)) little.plugins
    ∙ ap (λ (q : Progress). q.since)
    (hears_by_steps_alone run (slice_index_or (sets_of r p) (last_set r p) no_set) p (last_set r p) h more past (no_steps h more gots))

pub takes_keep_seats : TakesKeepSeats
takes_keep_seats t h more past old new low gots legal state sits taken =
    let run = task_run t in
    let m = t.machine in
    let now = more ++ past in
    let little : LittleIsChanged t past now = gots_change_little t more past gots in
    let was_live : (p : ℕ) → is_live (plugin_of (plugins run now) p).state ≡ true → is_live (plugin_of (plugins run past) p).state ≡ true =
    λ p live. ap (λ (r : Plugins). is_live (plugin_of r p).state) (sym little.plugins) ∙ live in
    let none : (p : ℕ) → 1 ≤ p → is_with_hart (place_of run p h past) ≡ false → waiting run p h now ≡ Stay =
    λ p one off. little.asks p h ∙ none_waits run p h past one low (legal_before run more past legal)
    (state_before run more past state) off in
    record {
      there = little.there h ∙ sits.there;
      hart = ap (λ (w : World). w.harts h) little.world ∙ sits.hart
          ∙ ap (λ (x : HartState). woken h m.harts x ((world m t.mode past).shared.starts h)) (sym taken.hart)
          ∙ ap (λ (w : World). woken h m.harts new.hart (w.shared.starts h)) (sym little.world);
      below = subst (λ (x : HartState). x.ending ≡ None → x.steps < m.limit) (sym taken.hart) sits.below;
      sets = taken.sets;
      filters = taken.filters;
      quiet = λ p one few off. ap (ask_of p) taken.asks ∙ sits.quiet p one few (without_before run p h more past gots off);
      asks = λ p one few with live.
          elim (cases_Bool (is_with_hart (place_of run p h past))) [
            | inl was ↦ ap (ask_of p) taken.asks ∙ sits.asks p one few was (was_live p live) ∙ sym (little.asks p h)
            | inr off ↦ ap (ask_of p) taken.asks ∙ sits.quiet p one few off ∙ sym (none p one off)
          ];
      since = λ p one few with live some.
          elim (cases_Bool (is_with_hart (place_of run p h past))) [
            | inl was ↦
                ap (λ (ns : List ℕ). slice_index_or ns (p - 1) 0) taken.since
                ∙ sits.since p one few was (was_live p live) (ap stays (sym (little.asks p h)) ∙ some)
                ∙ ap (λ (n : ℕ). min n BLOCK_WORDS) (sym (since_same t p h more past gots little))
            | inr off ↦ absurd (false≢true (sym some ∙ ap stays (none p one off)))
          ];
    }
