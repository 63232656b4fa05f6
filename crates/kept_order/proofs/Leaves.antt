-- The stored state after a hart has left.
use Rattle.std.proofs.Common.{◌≡◌, ◌+◌, ◌-◌, ◌<◌, ◌∷◌, [], ◌∙◌, ℕ, Bool, true, false, List}
use Rattle.std.proofs.Common.{Option, Some, None, refl, sym, ap, subst, arith, length, map}
use Rattle.std.specs.Prelude.{if◌then◌else◌, slice_set}
use Rattle.std.specs.List.{range_with_len}
use Rattle.std.proofs.lemmas.Bool.{ltb-true}
use Rattle.std.proofs.lemmas.List.{length-set, length-map, length-replicate, get_or-set_same, get_or-set_other}
use Rattle.flat_model.specs.declared.journals.Item.{Item}
use Rattle.flat_model.specs.declared.journals.Item.TheVariants.{Step, Ordered, GaveBack, Left, Told, Got, Took}
use Rattle.flat_model.specs.declared.journals.Order.{Order}
use Rattle.flat_model.specs.declared.journals.Order.TheVariants.{Install, Register, Reset, Uninstall}
use Rattle.flat_model.specs.Log.{journaled}
use Rattle.flat_model.specs.Registry.{Plugins, registry, after_order, after_leave, without_hart, has_left}
use Rattle.flat_model.specs.World.{HartState}
use Rattle.flat_model.specs.Worlds.{world, hart_of}
use Rattle.run_rules.specs.Guest.{Run, plugins}
use Rattle.run_rules.specs.Legal.{Legal, is_there, may_leave}
use Rattle.run_rules.specs.Places.{IsStateLog, is_waiting, is_parked, is_with_hart, taker}
use Rattle.run_rules.proofs.Fitting.{left_at}
use Rattle.run_rules.proofs.Turns.{first_true}
use Rattle.run_order.specs.Sets.{shelf, sets_for, harts_of, notices_of, closers_of}
use Rattle.run_order.specs.Laws.{park_all}
use Rattle.run_order.specs.InOrder.{Task, task_run, hart_kept}
use Rattle.run_order.proofs.Leaving.{leaves_park_sets}
use Rattle.run_order.proofs.Shelves.{map_same}
use Rattle.run_order.proofs.Taking.{map_set}
use Rattle.kept_order.specs.Leaving.{LeavesKeepOrder}
use Rattle.kept_order.proofs.Openings.{closer_when, closer}

-- The registry knows the harts of the run, and of each whether it has left.

pub record KnowsHarts (run : Run) (r : Plugins) : Type 0 where
  pub harts : r.harts ≡ run.harts
  pub gone : length r.gone ≡ run.harts

same_harts : (run : Run) (r q : Plugins) → q.harts ≡ r.harts → length q.gone ≡ length r.gone → KnowsHarts run r → KnowsHarts run q
same_harts run r q harts gone knows = record { harts = harts ∙ knows.harts; gone = gone ∙ knows.gone }

order_harts : (run : Run) (r : Plugins) (order : Order) → KnowsHarts run r → KnowsHarts run (after_order order r)
order_harts run r (Install spec) knows = same_harts run r _ refl refl knows
order_harts run r (Register number spec) knows = same_harts run r _ refl refl knows
order_harts run r (Reset number) knows = same_harts run r _ refl refl knows
order_harts run r (Uninstall number) knows = same_harts run r _ refl refl knows

pub knows_harts : (run : Run) (past : List Item) → KnowsHarts run (plugins run past)
unfolding registry
knows_harts run [] = record { harts = refl; gone = length-replicate run.harts false }
knows_harts run (Step hart ∷ past) = knows_harts run past
knows_harts run (Ordered origin order ∷ past) = order_harts run (plugins run past) order (knows_harts run past)
knows_harts run (GaveBack hart number ∷ past) = same_harts run (plugins run past) _ refl refl (knows_harts run past)
knows_harts run (Left hart ∷ past) =
    same_harts run (plugins run past) _ refl (length-set (plugins run past).gone hart true) (knows_harts run past)
knows_harts run (Told party number ∷ past) = same_harts run (plugins run past) _ refl refl (knows_harts run past)
knows_harts run (Got hart number ∷ past) = knows_harts run past
knows_harts run (Took party number ∷ past) = knows_harts run past

-- a hart that may leave is one of the run
hart_within : (run : Run) (h : ℕ) (past : List Item) → may_leave run h past ≡ true → h < run.harts
hart_within run h past may =
    let r = plugins run past in
    let there : is_there run h past ≡ true = first_true _ _ may in
    omega (arith, ltb-true h r.harts (first_true _ _ there), (knows_harts run past).harts)

-- The harts that have left.

kept_if : (b : Bool) (x : HartState) → b ≡ true → (if b then Some x else None) ≡ Some x
kept_if b x is = ap (λ (c : Bool). if c then Some x else None) is

harts_after : (t : Task) (h : ℕ) (past : List Item) → h < t.machine.harts
    → map (hart_kept t (Left h ∷ past)) (harts_of (task_run t))
    ≡ slice_set (map (hart_kept t past) (harts_of (task_run t))) h (Some (hart_of t.machine t.mode past h))
unfolding registry world
harts_after t h past low =
    let r = plugins (task_run t) past in
    let now = Left h ∷ past in
    let own : has_left (after_leave h r) h ≡ true =
    get_or-set_same r.gone h true false (omega (arith, low, (knows_harts (task_run t) past).gone)) in
    map_set (hart_kept t past) (hart_kept t now) 0 t.machine.harts h low
    (λ k off. ap (λ (b : Bool). if b then Some (hart_of t.machine t.mode past k) else None)
    (get_or-set_other r.gone h k true false (λ e. off (omega (arith, e)))))
    ∙ ap (λ (o : Option HartState). slice_set (map (hart_kept t past) (harts_of (task_run t))) h o)
    (ap (hart_kept t now) {x = 0 + h} {y = h} (omega arith) ∙ kept_if (has_left (after_leave h r) h) (hart_of t.machine t.mode past h) own)

-- The closers.

same_closer : (run : Run) (h : ℕ) (past : List Item) (plugin : ℕ) → closer run (Left h ∷ past) plugin ≡ closer run past plugin
unfolding registry taker notices_of
same_closer run h past plugin = ap (closer_when run past plugin) (left_at h (plugins run past).plugins (plugin - 1))

same_closers : (run : Run) (h : ℕ) (past : List Item) → closers_of run (Left h ∷ past) ≡ closers_of run past
unfolding registry
same_closers run h past =
    let ps = (plugins run past).plugins in
    let now = Left h ∷ past in
    ap (λ (n : ℕ). map (closer run now) (range_with_len 1 n)) (length-map ps (without_hart h))
    ∙ map_same (closer run now) (closer run past) 1 (length ps) (λ p one most. same_closer run h past p)

pub leaves_keep_order : LeavesKeepOrder
unfolding Legal IsStateLog world registry
leaves_keep_order t h old new o legal l =
    let run = task_run t in
    let low : h < t.machine.harts = hart_within run h old.past legal.1 in
    let sets = leaves_park_sets run h old.past low in
    let was = sym l.past in
    record {
      legal = subst (Legal run) was legal;
      state_log = subst (IsStateLog run) was (o.state_log, tt);
      journal = l.journal ∙ ap (λ (xs : List Item). Left h ∷ xs) o.journal ∙ ap journaled was;
      shared = l.shared ∙ o.shared ∙ ap (λ (xs : List Item). (world t.machine t.mode xs).shared) was;
      plugins = l.plugins ∙ ap (after_leave h) o.plugins ∙ ap (plugins run) was;
      waiting = l.waiting ∙ o.waiting ∙ sym sets.1 ∙ ap (shelf is_waiting run) was;
      parked = l.parked ∙ ap (park_all h (sets_for is_with_hart run h old.past)) o.parked ∙ sym sets.0 ∙ ap (shelf is_parked run) was;
      harts = l.harts ∙ ap (λ (hs : List (Option HartState)). slice_set hs h (Some (hart_of t.machine t.mode old.past h))) o.harts
          ∙ sym (harts_after t h old.past low) ∙ ap (λ (xs : List Item). map (hart_kept t xs) (harts_of run)) was;
      closers = l.closers ∙ o.closers ∙ sym (same_closers run h old.past) ∙ ap (closers_of run) was;
    }
