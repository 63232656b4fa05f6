-- The notices of sets that have ended, in a whole state.
use Rattle.std.proofs.Common.{◌≡◌, ◌-◌, ◌<◌, ◌≤◌, ◌&&◌, ◌∙◌, inl, inr, ℕ, Bool, true, false, List, Option, Some, None, length, map}
use Rattle.std.proofs.Common.{refl, sym, ap, subst, arith}
use Rattle.std.specs.Prelude.{if◌then◌else◌, slice_index_or, slice_get, option_map, is_some}
use Rattle.std.specs.List.{list_any}
use Rattle.std.proofs.lemmas.Bool.{cases_Bool, cases_lt, false≢true}
use Rattle.std.proofs.lemmas.List.{get_or_past, get_or-map, length-map}
use Rattle.std.proofs.lemmas.List.Folds.{list_any_at}
use Rattle.flat_model.specs.declared.journals.How.{How}
use Rattle.flat_model.specs.Registry.{Plugin, Plugins, no_plugin, plugin_of, is_closing, is_installed, ending_of}
use Rattle.watcher_api.specs.declared.closers.Returned.{Returned}
use Rattle.watcher_api.specs.Heard.{Heard}
use Rattle.run_rules.specs.Guest.{plugins}
use Rattle.run_rules.specs.Legal.{Whole}
use Rattle.run_rules.specs.Places.{taker}
use Rattle.run_order.specs.Sets.{Notice, as_notice, harts_of, notices_of}
use Rattle.run_order.specs.InOrder.{task_run}
use Rattle.kept_order.specs.Summing.{HasSet, IsTold, set_made}
use Rattle.kept_order.proofs.Tellings.{ended_sets_are_told}
use Rattle.host_state.specs.State.{StateValue, IsSound}
use Rattle.host_state.proofs.KeptClosers.{closer_there, there_if, closer_shown}

-- none of these plug-ins is being withdrawn
pub none_closing : (ps : List Plugin) (k : ℕ) → list_any (λ p. is_closing p.state) ps ≡ false
    → is_closing (slice_index_or ps k no_plugin).state ≡ false
none_closing ps k none =
    elim (cases_lt k (length ps)) [
      | inl within ↦
          elim (cases_Bool (is_closing (slice_index_or ps k no_plugin).state)) [
            | inl closes ↦ absurd (false≢true (sym none ∙ list_any_at (λ (p : Plugin). is_closing p.state) ps k no_plugin within closes))
            | inr still ↦ still
          ]
      | inr beyond ↦ ap (λ (p : Plugin). is_closing p.state) (get_or_past ps k no_plugin beyond)
    ]

ended_installed : (installed : Bool) (endings : List How) (set : ℕ)
    → is_some (if installed then slice_get endings set else None) ≡ true → installed ≡ true
ended_installed true endings set some = refl
ended_installed false endings set some = absurd (false≢true some)

-- `s` is the state's value, and `v` the value of its parts
module _ (s v : StateValue) (is : v ≡ s) (i : IsSound v) (whole : Whole (task_run s.task) s.past) (plugin set : ℕ) (one : 1 ≤ plugin)
    (ended : is_some (ending_of s.registry.table plugin set) ≡ true) where
  closed : is_closing (plugin_of (plugins (task_run s.task) s.past) plugin).state ≡ false
  closed = none_closing (plugins (task_run s.task) s.past).plugins (plugin - 1) whole.all_closed

  same : s.registry.table ≡ plugins (task_run s.task) s.past
  same = subst (λ (x : StateValue). x.registry.table ≡ plugins (task_run x.task) x.past) is i.order.plugins

  pub is_told : IsTold (task_run s.task) plugin set s.past
  is_told =
      ended_sets_are_told (task_run s.task) plugin set s.past one whole.legal closed
      (subst (λ (r : Plugins). is_some (ending_of r plugin set) ≡ true) same ended)

  stays : closer_there s plugin ≡ Some (notices_of (task_run s.task) plugin s.past)
  stays =
      let notices = notices_of (task_run s.task) plugin s.past in
      let took = is_some (taker plugin s.past) in
      let installed : is_installed s.registry.table plugin ≡ true =
      ended_installed (is_installed s.registry.table plugin) (plugin_of s.registry.table plugin).endings set ended in
      ap (λ (b : Bool). there_if b (is_closing (plugin_of (plugins (task_run s.task) s.past) plugin).state && took) notices) installed
      ∙ ap (λ (b : Bool). there_if true (b && took) notices) closed

  -- as the closers are kept
  module _ {C : Type 0} (notices : C → List (Returned Heard)) (closers : List (Option C))
      (shown : v.closers ≡ map (option_map (λ c. map as_notice (notices c))) closers) (row : ℕ) (at : row ≡ plugin - 1) where
    pub found_told : (found : Option C) → found ≡ slice_index_or closers row None
        → option_map (λ c. map as_notice (notices c)) found ≡ Some (notices_of (task_run s.task) plugin s.past)
    found_told found found_is =
        closer_shown (λ c. map as_notice (notices c)) s v is i closers shown plugin row (λ none. absurd (omega (arith, none, one))) at
        found found_is ∙ stays

    module _ (c : C) (there : Some c ≡ slice_index_or closers row None) where
      has : map as_notice (notices c) ≡ notices_of (task_run s.task) plugin s.past
      has = let found = found_told (Some c) there in cc found

      pub notice_below : set < length (notices c)
      notice_below = omega (arith, is_told.there, length-map (notices c) as_notice, ap (λ (ns : List Notice). length ns) has)

      pub notice_told : (n : Returned Heard) → n ≡ slice_index_or (notices c) set n
          → HasSet (harts_of (task_run s.task)) (λ h. set_made (task_run s.task) plugin set h s.past) (as_notice n)
      notice_told n at_place =
          subst (HasSet (harts_of (task_run s.task)) (λ h. set_made (task_run s.task) plugin set h s.past))
          (ap (λ (ns : List Notice). slice_index_or ns set (as_notice n)) (sym has)
          ∙ get_or-map as_notice (notices c) set n (as_notice n) notice_below ∙ ap as_notice (sym at_place))
          (is_told.notice (as_notice n))
