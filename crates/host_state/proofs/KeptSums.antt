-- Sums over the sets that a whole state has.
use Rattle.std.proofs.Common.{◌≡◌, ◌-◌, ◌+◌, ◌%◌, ◌^◌, ◌<◌, ◌≤◌, ◌∙◌, ℕ, zero, suc, Bool, true, false, List, [], ◌∷◌, None, inl, inr}
use Rattle.std.proofs.Common.{length, map, refl, sym, ap, subst, arith}
use Rattle.std.specs.Prelude.{if◌then◌else◌, slice_index, slice_index_or, slice_get, is_some, sum_by, All}
use Rattle.std.proofs.lemmas.Bool.{cases_Bool, false≢true}
use Rattle.std.proofs.lemmas.List.Elements.{All-nil, All-cons, All-same}
use Rattle.std.specs.List.{range_with_len}
use Rattle.std.proofs.lemmas.List.FromFn.{sum_by-map-range_with_len_more}
use Rattle.flat_model.specs.declared.plugins.SetSpec.{SetSpec}
use Rattle.flat_model.specs.declared.journals.Item.{Item}
use Rattle.flat_model.specs.Columns.{entry_sum}
use Rattle.flat_model.specs.Registry.{Plugin, Plugins, plugin_of, has_left, sets_of, is_installed, ending_of}
use Rattle.score_boards.specs.declared.ParkedColumn.{ParkedColumn}
use Rattle.run_rules.specs.Guest.{Run, plugins}
use Rattle.run_rules.specs.Heard.{no_set, set_at, last_set, column, is_live}
use Rattle.run_rules.specs.Laws.{EndingsFit}
use Rattle.run_rules.proofs.Fitting.{installed_from}
use Rattle.run_rules.proofs.Endings.{endings_go_with_states}
use Rattle.run_rules.specs.Legal.{Legal, Whole}
use Rattle.run_order.specs.Sets.{attachment_of, harts_of}
use Rattle.run_order.specs.InOrder.{task_run}
use Rattle.kept_order.specs.Summing.{set_made}
use Rattle.kept_order.proofs.Standing.{sets_keep_widths}
use Rattle.host_state.specs.State.{StateValue, IsSound}
use Rattle.host_state.specs.Registered.{registered, last_registered}
use Rattle.host_state.proofs.Finishing.{left_all}

-- one column more
pub total_next : (entry : ℕ) (columns : ℕ → List ℕ) (hart total x : ℕ)
    → total ≡ entry_sum entry (map columns (range_with_len 0 hart)) → x ≡ slice_index (columns hart) entry
    → (total + x) % 2 ^ 64 ≡ entry_sum entry (map columns (range_with_len 0 (hart + 1)))
total_next entry columns hart total x so_far more =
    let before = sum_by (λ column. slice_index column entry) (map columns (range_with_len 0 hart)) in
    let sum : sum_by (λ column. slice_index column entry) (map columns (range_with_len 0 (hart + 1)))
    ≡ before + slice_index (columns hart) entry =
    sum_by-map-range_with_len_more (λ column. slice_index column entry) columns 0 hart hart (omega arith) in
    omega (arith, so_far, more, sum)

all_columns : (entry : ℕ) (columns : ℕ → List ℕ) (harts : List ℕ) → ((h : ℕ) → entry < length (columns h))
    → All (λ (parked : ParkedColumn). entry < length parked.column) (map (λ h. record { hart = h; column = columns h }) harts)
all_columns entry columns [] below = All-nil (λ (parked : ParkedColumn). entry < length parked.column)
all_columns entry columns (h ∷ harts) below =
    All-cons (λ (parked : ParkedColumn). entry < length parked.column) (record { hart = h; column = columns h })
    (map (λ k. record { hart = k; column = columns k }) harts) (below h) (all_columns entry columns harts below)

-- the set that a plug-in registered last
abbrev last_spec : Run → ℕ → List Item → SetSpec
last_spec run plugin past = set_at run plugin (last_set (plugins run past) plugin) past

abbrev registered_in : Plugins → ℕ → ℕ → SetSpec
registered_in r plugin set = slice_index_or (sets_of r plugin) set no_set

-- `s` is the state's value, and `v` the value of its parts
module _ (s v : StateValue) (is : v ≡ s) (i : IsSound v) where
  pub left_at_end : Whole (task_run s.task) s.past → (harts h : ℕ) → harts ≡ v.task.machine.harts → h < harts
      → has_left s.registry.table h ≡ true
  left_at_end whole harts h many low =
      subst (λ (x : StateValue). has_left x.registry.table h ≡ true) is
      (left_all v i (subst (λ (x : StateValue). Whole (task_run x.task) x.past) (sym is) whole) h (omega (arith, low, many)))

  pub spec_is : (plugin set : ℕ) → registered s plugin set ≡ set_at (task_run s.task) plugin set s.past
  spec_is plugin set =
      subst (λ (x : StateValue). registered x plugin set ≡ set_at (task_run x.task) plugin set x.past) is
      (ap (λ (r : Plugins). registered_in r plugin set) i.order.plugins)

  pub entry_below : (plugin entry h : ℕ) → entry < (last_registered s plugin).entries
      → entry < length (attachment_of (task_run s.task) plugin h s.past).column
  entry_below plugin entry h below =
      let run = task_run s.task in
      let set = last_set (plugins run s.past) plugin in
      let last : last_registered s plugin ≡ set_at run plugin set s.past =
      subst (λ (x : StateValue). last_registered x plugin ≡ last_spec (task_run x.task) plugin x.past)
      is (ap (λ (r : Plugins). registered_in r plugin (length (sets_of r plugin) - 1)) i.order.plugins) in
      omega (
        arith,
        below,
        ap (λ (spec : SetSpec). spec.entries) last,
        (sets_keep_widths run (set_at run plugin set s.past) plugin set h s.past).entries,
      )

-- The sets of a plug-in: all have ended but the last one of a plug-in that is Live.

none_beyond : {A : Type 0} (xs : List A) (k : ℕ) → is_some (slice_get xs k) ≡ false → length xs ≤ k
none_beyond [] k none = omega arith
none_beyond (x ∷ xs) zero none = absurd (false≢true (sym none))
none_beyond (x ∷ xs) (suc k) none = omega (arith, none_beyond xs k none)

abbrev listed : Bool → List SetSpec → List SetSpec
listed installed sets = if installed then sets else []

listed_in : (installed : Bool) (sets : List SetSpec) (place : ℕ) → place < length (listed installed sets) → installed ≡ true
listed_in true sets place low = refl
listed_in false sets place low = absurd (omega (arith, low))

still_there : (p : Plugin) (installed : Bool) (place : ℕ) → EndingsFit p
    → is_some (if installed then slice_get p.endings place else None) ≡ false → place < length (listed installed p.sets)
    → (is_live p.state ≡ true) × (place ≡ length (listed installed p.sets) - 1)
still_there p false place fit none low = absurd (omega (arith, low))
still_there p true place fit none low =
    let past_all : length p.endings ≤ place = none_beyond p.endings place none in
    elim (cases_Bool (is_live p.state)) [
      | inl live ↦ (live, omega (arith, fit.0 live, past_all, low))
      | inr dead ↦ absurd (omega (arith, fit.1 dead, past_all, low))
    ]

-- `s` is the state's value, and `v` the value of its parts
module _ (s v : StateValue) (is : v ≡ s) (i : IsSound v) where
  same_table : s.registry.table ≡ plugins (task_run s.task) s.past
  same_table = subst (λ (x : StateValue). x.registry.table ≡ plugins (task_run x.task) x.past) is i.order.plugins

  module _ (plugin place : ℕ) (legal : Legal (task_run s.task) s.past) (low : place < length (sets_of s.registry.table plugin))
      (none : is_some (ending_of v.registry.table plugin place) ≡ false) where
    pub numbered : 1 ≤ plugin
    numbered =
        installed_from s.registry.table plugin
        (listed_in (is_installed s.registry.table plugin) (plugin_of s.registry.table plugin).sets place low)

    still : is_some (ending_of s.registry.table plugin place) ≡ false
    still = subst (λ (x : StateValue). is_some (ending_of x.registry.table plugin place) ≡ false) is none

    last_there : (is_live (plugin_of s.registry.table plugin).state ≡ true) × (place ≡ length (sets_of s.registry.table plugin) - 1)
    last_there =
        still_there (plugin_of s.registry.table plugin) (is_installed s.registry.table plugin) place
        (subst (λ (r : Plugins). EndingsFit (plugin_of r plugin)) (sym same_table)
        (endings_go_with_states (task_run s.task) plugin s.past numbered legal)) still low

    pub still_live : is_live (plugin_of s.registry.table plugin).state ≡ true
    still_live = last_there.0

    pub entry_of_last : (entry : ℕ) → entry < (registered s plugin place).entries → entry < (last_registered s plugin).entries
    entry_of_last entry below = subst (λ (k : ℕ). entry < (registered s plugin k).entries) last_there.1 below

    pub is_last : place ≡ last_set (plugins (task_run s.task) s.past) plugin
    is_last = subst (λ (r : Plugins). place ≡ last_set r plugin) same_table last_there.1

    pub sum_of_last : (entry sum : ℕ)
        → sum ≡ entry_sum entry (map (λ h. (attachment_of (task_run s.task) plugin h s.past).column) (harts_of (task_run s.task)))
        → sum ≡ entry_sum entry (map (λ h. column (task_run s.task) plugin place h s.past) (harts_of (task_run s.task)))
    sum_of_last entry sum so =
        so ∙ ap (λ (k : ℕ). entry_sum entry (map (λ h. column (task_run s.task) plugin k h s.past) (harts_of (task_run s.task))))
        (sym is_last)

  -- the columns of a set that has ended
  pub columns_wide : (plugin place entry : ℕ) (columns : List ParkedColumn) → entry < (registered s plugin place).entries
      → columns ≡ map (λ h. record { hart = h; column = (set_made (task_run s.task) plugin place h s.past).column })
      (harts_of (task_run s.task))
      → All (λ parked. entry < length parked.column) columns
  columns_wide plugin place entry columns below is_map =
      let run = task_run s.task in
      let spec = set_at run plugin place s.past in
      All-same (λ (parked : ParkedColumn). entry < length parked.column) columns _ is_map
      (all_columns entry (λ h. (set_made run plugin place h s.past).column) (harts_of run)
      (λ h. omega (
        arith,
        below,
        ap (λ (sp : SetSpec). sp.entries) (spec_is s v is i plugin place),
        (sets_keep_widths run spec plugin place h s.past).entries,
      )))
