-- The harts of a state whose run is whole.
use Rattle.std.proofs.Common.{◌≡◌, ◌<◌, ◌≤◌, ◌+◌, ◌∙◌, ℕ, Bool, true, false, List, [], ◌∷◌, map, Option, Some, None, refl, sym, ap, subst, arith, length}
use Rattle.std.specs.Prelude.{slice_index_or, if◌then◌else◌, ℤ, ◌||◌}
use Rattle.std.specs.List.{list_any, range_with_len}
use Rattle.std.proofs.lemmas.List.FromFn.{get_or-map-range_with_len, map-range_with_len_more}
use Rattle.std.proofs.lemmas.List.Folds.{list_any-append}
use Rattle.flat_model.specs.declared.events.Ending.{Ending}
use Rattle.flat_model.specs.declared.limits.TheConstants.{SUBS_MOST}
use Rattle.flat_model.specs.Registry.{Plugins, has_left}
use Rattle.flat_model.specs.Texts.{is_fault, is_limit, is_failure, is_failed_group, status_of}
use Rattle.flat_model.specs.World.{HartState}
use Rattle.flat_model.specs.Worlds.{world, hart_of}
use Rattle.kept_order.proofs.Ranges.{all_at}
use Rattle.run_rules.specs.Guest.{plugins}
use Rattle.run_rules.specs.Legal.{Whole}
use Rattle.run_order.specs.InOrder.{InOrder, task_run, hart_kept}
use Rattle.host_state.specs.State.{StateValue, stored_of}
use Rattle.host_state.proofs.SmallSets.{set_is_small}
use Rattle.report_text.specs.Report.{set_in, status_by, status_after}

module _ (s : StateValue) (order : InOrder s.task (stored_of s)) where
  -- each hart is there, as its steps left it
  pub hart_is_left : Whole (task_run s.task) s.past → (h : ℕ) → h < s.task.machine.harts
      → slice_index_or s.harts h None ≡ Some (hart_of s.task.machine s.task.mode s.past h)
  hart_is_left whole h low =
      let left : has_left (plugins (task_run s.task) s.past) h ≡ true =
      all_at (λ k. has_left (plugins (task_run s.task) s.past) k) 0 s.task.machine.harts h whole.all_left (omega arith) (omega (arith, low)) in
      ap (λ (hs : List (Option HartState)). slice_index_or hs h None) order.harts
      ∙ (get_or-map-range_with_len (hart_kept s.task s.past) 0 s.task.machine.harts h h None low (omega arith)
      ∙ ap (λ b. if b then Some (hart_of s.task.machine s.task.mode s.past h) else None) left)

  pub group_is : s.services.group ≡ (world s.task.machine s.task.mode s.past).shared.group
  group_is = ap (λ x. x.group) order.shared

  -- the sets are few enough for a byte
  pub small_set : (plugin set : ℕ) → length (set_in s.registry.table plugin set).subs ≤ SUBS_MOST
  small_set plugin set =
      subst (λ (r : Plugins). length (set_in r plugin set).subs ≤ SUBS_MOST) (sym order.plugins)
      (set_is_small (task_run s.task) plugin set s.past order.legal).subs

  abbrev pub endings_to : ℕ → List (Option Ending)
  endings_to n = map (λ h. (hart_of s.task.machine s.task.mode s.past h).ending) (range_with_len 0 n)

  pub status_is : (fault limit failure failed : Bool) (n : ℕ) → n ≡ s.task.machine.harts → fault ≡ list_any is_fault (endings_to n)
      → limit ≡ list_any is_limit (endings_to n) → failure ≡ list_any is_failure (endings_to n) → failed ≡ is_failed_group s.services.group
      → status_by fault limit failure failed ≡ status_after s.task s.past
  unfolding status_after
  status_is fault limit failure failed n all f l x g =
      ap (λ b. status_by b limit failure failed) f
      ∙ (ap (λ b. status_by (list_any is_fault (endings_to n)) b failure failed) l
      ∙ (ap (λ b. status_by (list_any is_fault (endings_to n)) (list_any is_limit (endings_to n)) b failed) x
      ∙ (ap (λ b. status_by (list_any is_fault (endings_to n)) (list_any is_limit (endings_to n)) (list_any is_failure (endings_to n)) b) g
      ∙ (ap (λ k. status_of s.services.group (endings_to k)) all
      ∙ ap (λ code. status_of code (endings_to s.task.machine.harts)) group_is))))

-- whether one of the first harts passes a test, after one hart more
pub any_more : {X : Type 0} (p : X → Bool) (f : ℕ → X) (n : ℕ)
    → list_any p (map f (range_with_len 0 (n + 1))) ≡ (list_any p (map f (range_with_len 0 n)) || p (f n))
any_more {X} p f n =
    ap (list_any p) (map-range_with_len_more f 0 n n (omega arith))
    ∙ (list_any-append p (map f (range_with_len 0 n)) (f n ∷ [])
    ∙ ap (λ b. list_any p (map f (range_with_len 0 n)) || b) (one (p (f n))))
  where
    one : (b : Bool) → (b || false) ≡ b
    one true = refl
    one false = refl
