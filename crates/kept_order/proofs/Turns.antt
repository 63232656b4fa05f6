-- Steps keep the state in order.
use Rattle.std.proofs.Common.{◌≡◌, ◌<◌, ◌∷◌, ◌∙◌, ℕ, zero, suc, Bool, true, false, List, Some, None}
use Rattle.std.proofs.Common.{refl, sym, ap, subst, arith, map}
use Rattle.std.specs.Prelude.{if◌then◌else◌}
use Rattle.flat_model.specs.declared.journals.Item.{Item}
use Rattle.flat_model.specs.declared.journals.Item.TheVariants.{Step}
use Rattle.flat_model.specs.Log.{steps, journaled}
use Rattle.flat_model.specs.Registry.{registry, has_left}
use Rattle.flat_model.specs.World.{HartState}
use Rattle.flat_model.specs.Worlds.{world, hart_of}
use Rattle.run_rules.specs.Guest.{Run, plugins}
use Rattle.run_rules.specs.Legal.{Legal}
use Rattle.run_rules.specs.Places.{IsStateLog, place_of, taker, takes_all, is_waiting, is_parked}
use Rattle.run_rules.proofs.Turns.{plugins_keep}
use Rattle.run_order.specs.Sets.{shelf, harts_of, notices_of, closers_of}
use Rattle.run_order.specs.InOrder.{Task, task_run, hart_kept}
use Rattle.run_order.proofs.Shelves.{map_same, turns_keep_shelves}
use Rattle.kept_order.specs.Turning.{TurnsKeepOrder}
use Rattle.kept_order.proofs.Gone.{left_stays}

-- steps move no set
places_keep : (run : Run) (h n : ℕ) (past : List Item) → takes_all run h past ≡ true → takes_all run h (steps h n past) ≡ true
unfolding place_of registry
places_keep run h zero past takes = takes
places_keep run h (suc n) past takes = places_keep run h n past takes

-- so each of them is one that the state's log allows
state_log_keeps : (run : Run) (h n : ℕ) (past : List Item) → takes_all run h past ≡ true → IsStateLog run past
    → IsStateLog run (steps h n past)
unfolding IsStateLog
state_log_keeps run h zero past takes state = state
state_log_keeps run h (suc n) past takes state = (state_log_keeps run h n past takes state, places_keep run h n past takes)

journal_keeps : (h n : ℕ) (past : List Item) → journaled (steps h n past) ≡ steps h n (journaled past)
journal_keeps h zero past = refl
journal_keeps h (suc n) past = ap (λ (xs : List Item). Step h ∷ xs) (journal_keeps h n past)

-- they tell no closer
closers_keep : (run : Run) (h n : ℕ) (past : List Item) → closers_of run (steps h n past) ≡ closers_of run past
unfolding notices_of taker registry
closers_keep run h zero past = refl
closers_keep run h (suc n) past = closers_keep run h n past

-- and they change no hart that has left
kept_if : (gone : Bool) (x y : HartState) → (gone ≡ true → x ≡ y) → (if gone then Some x else None) ≡ (if gone then Some y else None)
kept_if true x y same = ap (λ (z : HartState). Some z) (same refl)
kept_if false x y same = refl

kept_at : (t : Task) (h j : ℕ) (past : List Item) → j < t.machine.harts → Legal (task_run t) (Step h ∷ past)
    → hart_kept t (Step h ∷ past) j ≡ hart_kept t past j
unfolding registry
kept_at t h j past low legal =
    kept_if (has_left (plugins (task_run t) past) j) (hart_of t.machine t.mode (Step h ∷ past) j) (hart_of t.machine t.mode past j)
    (left_stays t h j past low legal)

harts_keep : (t : Task) (h n : ℕ) (past : List Item) → Legal (task_run t) (steps h n past)
    → map (hart_kept t (steps h n past)) (harts_of (task_run t)) ≡ map (hart_kept t past) (harts_of (task_run t))
unfolding Legal
harts_keep t h zero past legal = refl
harts_keep t h (suc n) past legal =
    map_same (hart_kept t (steps h (suc n) past)) (hart_kept t (steps h n past)) 0 t.machine.harts
    (λ j least low. kept_at t h j (steps h n past) (omega (arith, low)) legal)
    ∙ harts_keep t h n past legal.0

pub turns_keep_order : TurnsKeepOrder
turns_keep_order t h n old new o legal takes d =
    let run = task_run t in
    let past = steps h n old.past in
    let state : IsStateLog run past = state_log_keeps run h n old.past takes o.state_log in
    let shelves = turns_keep_shelves run h n old.past legal state in
    let at = sym d.past in
    record {
      legal = subst (Legal run) at legal;
      state_log = subst (IsStateLog run) at state;
      journal = d.journal ∙ ap (steps h n) o.journal ∙ sym (journal_keeps h n old.past) ∙ ap journaled at;
      shared = d.shared ∙ ap (λ (xs : List Item). (world t.machine t.mode xs).shared) at;
      plugins = d.plugins ∙ o.plugins ∙ sym (plugins_keep run h n old.past) ∙ ap (plugins run) at;
      waiting = d.waiting ∙ o.waiting ∙ sym shelves.0 ∙ ap (shelf is_waiting run) at;
      parked = d.parked ∙ o.parked ∙ sym shelves.1 ∙ ap (shelf is_parked run) at;
      harts = d.harts ∙ o.harts ∙ sym (harts_keep t h n old.past legal)
          ∙ ap (λ (xs : List Item). map (hart_kept t xs) (harts_of run)) at;
      closers = d.closers ∙ o.closers ∙ sym (closers_keep run h n old.past) ∙ ap (closers_of run) at;
    }
