-- When no plug-in is being withdrawn, and when a run is whole.
use Rattle.std.proofs.Common.{◌≡◌, ◌<◌, ◌∙◌, ◌↔◌, inl, inr, ℕ, Bool, true, false, List, length, IsTrue}
use Rattle.std.proofs.Common.{sym, ap, subst, arith}
use Rattle.std.specs.Prelude.{slice_index_or}
use Rattle.std.specs.List.{list_any}
use Rattle.std.proofs.lemmas.Bool.{false≢true}
use Rattle.std.proofs.lemmas.List.{get_or_default}
use Rattle.std.proofs.lemmas.List.Folds.{list_any_none}
use Rattle.flat_model.specs.Registry.{Plugin, Plugins, no_plugin, is_closing, has_left}
use Rattle.run_rules.specs.Legal.{Whole}
use Rattle.run_rules.specs.Guest.{plugins}
use Rattle.run_order.specs.InOrder.{task_run}
use Rattle.kept_order.proofs.Ranges.{all_at, all_of}
use Rattle.host_state.specs.State.{StateValue, IsSound, IsCaughtUp}

pub none_closes : (xs : List Plugin) → ((k : ℕ) → k < length xs → is_closing (slice_index_or xs k no_plugin).state ≡ false)
    → list_any (λ p. is_closing p.state) xs ≡ false
none_closes xs none =
    list_any_none (λ (p : Plugin). is_closing p.state) xs (λ k d below.
    subst (λ (p : Plugin). is_closing p.state ≡ false) (get_or_default xs k no_plugin d below) (none k below))

-- every hart has left and no plug-in is being withdrawn
abbrev pub HasLeftAll : StateValue → Type 0
HasLeftAll s = (h : ℕ) → h < s.task.machine.harts → has_left s.registry.table h ≡ true

abbrev pub HasClosedAll : StateValue → Type 0
HasClosedAll s = list_any (λ p. is_closing p.state) s.registry.table.plugins ≡ false

pub whole_from : (s : StateValue) → IsSound s → IsCaughtUp s → s.short ≡ false → HasLeftAll s → HasClosedAll s
    → Whole (task_run s.task) s.past
whole_from s i caught long left closed = record {
  legal = i.order.legal;
  nothing_missing = elim caught [ inl short ↦ absurd (false≢true (sym long ∙ short)) | inr nothing ↦ nothing ];
  all_left = all_of (λ h. has_left (plugins (task_run s.task) s.past) h) 0 s.task.machine.harts
      (λ k least low. subst (λ (r : Plugins). has_left r k ≡ true) i.order.plugins (left k (omega (arith, low))));
  all_closed = subst (λ (r : Plugins). list_any (λ p. is_closing p.state) r.plugins ≡ false) i.order.plugins closed;
}

pub left_all : (s : StateValue) → IsSound s → Whole (task_run s.task) s.past → HasLeftAll s
left_all s i whole h low =
    subst (λ (r : Plugins). has_left r h ≡ true) (sym i.order.plugins)
    (all_at (λ k. has_left (plugins (task_run s.task) s.past) k) 0 s.task.machine.harts h whole.all_left (omega arith) (omega (arith, low)))

pub closed_all : (s : StateValue) → IsSound s → Whole (task_run s.task) s.past → HasClosedAll s
closed_all s i whole =
    subst (λ (r : Plugins). list_any (λ p. is_closing p.state) r.plugins ≡ false) (sym i.order.plugins) whole.all_closed

-- as the value that a state has
module _ (s v : StateValue) (is : v ≡ s) (i : IsSound v) (caught : IsCaughtUp s) (harts : ℕ) (many : harts ≡ v.task.machine.harts)
    (long : s.short ≡ false) where
  pub whole_where : ((h : ℕ) → h < harts → has_left v.registry.table h ≡ true) → (closed : Bool)
      → (IsTrue closed ↔ (list_any (λ p. is_closing p.state) v.registry.table.plugins ≡ false))
      → IsTrue closed ↔ Whole (task_run s.task) s.past
  whole_where left closed none =
      subst (λ (x : StateValue). IsTrue closed ↔ Whole (task_run x.task) x.past) is (
        (λ yes. whole_from v i (subst IsCaughtUp (sym is) caught) (ap (λ (x : StateValue). x.short) is ∙ long)
            (λ h low. left h (omega (arith, low, many))) (none.0 yes)),
        (λ whole. none.1 (closed_all v i whole)),
      )

  pub not_whole : (left : Bool) → left ≡ false
      → (IsTrue left ↔ ((h : ℕ) → h < harts → has_left v.registry.table h ≡ true))
      → IsTrue left ↔ Whole (task_run s.task) s.past
  not_whole left still all =
      subst (λ (x : StateValue). IsTrue left ↔ Whole (task_run x.task) x.past) is
      ((λ yes. absurd (false≢true (sym still ∙ yes))), (λ whole. all.1 (λ h low. left_all v i whole h (omega (arith, low, many)))))
