-- The sets that a state has once every hart has left.
use Rattle.std.proofs.Common.{◌≡◌, ◌-◌, ◌<◌, ◌≤◌, ◌∙◌, ℕ, true, List, [], Option, Some, None, length, sym, ap, subst, arith}
use Rattle.std.specs.Prelude.{Vec, option_map, slice_index_or}
use Rattle.std.specs.Option.{option_or}
use Rattle.std.specs.Global.{Global}
use Rattle.std.proofs.lemmas.List.{length-map}
use Rattle.std.proofs.lemmas.List.Elements.{All-get_or}
use Rattle.flat_model.specs.Registry.{Plugins, plugin_of, has_left}
use Rattle.watcher_api.specs.Attachment.{Attachment}
use Rattle.run_rules.specs.Guest.{plugins}
use Rattle.run_rules.specs.Heard.{is_live}
use Rattle.run_order.specs.Sets.{attachment_of}
use Rattle.run_order.specs.InOrder.{task_run}
use Rattle.kept_order.proofs.Standing.{live_sets_are_there}
use Rattle.host_state.specs.State.{StateValue, IsSound, stored_of}
use Rattle.host_state.specs.Tables.{rows_of, row_at}
use Rattle.host_state.proofs.Shown.{shown, shown_at, shown_rows, shown_width}
use Rattle.host_state.proofs.Shelved.{waiting_long, waiting_wide, parked_long, parked_wide}

abbrev Rows : Type 0
Rows = List (List (Option Attachment))

-- what stands at a place of one table, or of another where nothing does
abbrev either_at : Rows → Rows → ℕ → ℕ → Option Attachment
either_at first second i j = option_or (slice_index_or (row_at first i) j None) (slice_index_or (row_at second i) j None)

-- `s` is the state's value, and `v` the value of its parts
module _ (s v : StateValue) (is : v ≡ s) (i : IsSound v) (plugin hart row place : ℕ) (one : 1 ≤ plugin)
    (most : plugin ≤ length s.registry.table.plugins) (low : hart < s.task.machine.harts)
    (at : row ≡ plugin - 1) (there : place ≡ hart) where
  long : plugin ≤ length v.registry.table.plugins
  long = subst (λ (x : StateValue). plugin ≤ length x.registry.table.plugins) (sym is) most

  below : hart < v.task.machine.harts
  below = subst (λ (x : StateValue). hart < x.task.machine.harts) (sym is) low

  many : length v.registry.table.plugins ≡ length (plugins (task_run v.task) v.past).plugins
  many = ap (λ (r : Plugins). length r.plugins) i.order.plugins

  waits_below : row < length v.waiting
  waits_below = omega (arith, at, one, long, many, waiting_long v.task (stored_of v) i.order)

  parks_below : row < length v.parked
  parks_below = omega (arith, at, one, long, many, parked_long v.task (stored_of v) i.order)

  -- as the tables are kept
  module _ {A : Type 0} (f : A → Attachment) (waiting : List (Vec (Option A) Global)) (waits : shown f waiting ≡ v.waiting)
      (parked : List (Vec (Option Attachment) Global)) (parks : rows_of parked ≡ v.parked) where
    pub waiting_row : row < length waiting
    waiting_row = omega (arith, waits_below, shown_rows f waiting, ap (λ (table : Rows). length table) waits)

    pub waiting_place : place < length (row_at (rows_of waiting) row)
    waiting_place =
        let wide : place < length (row_at (shown f waiting) row) =
        subst (λ (table : Rows). place < length (row_at table row)) (sym waits)
        (omega (
          arith,
          there,
          All-get_or (λ (r : List (Option Attachment)). hart < length r) v.waiting row [] waits_below
              (waiting_wide v.task (stored_of v) i.order hart below),
        )) in
        omega (arith, wide, shown_width f waiting row)

    pub parked_row : row < length parked
    parked_row =
        omega (
          arith,
          parks_below,
          length-map parked (λ (r : Vec (Option Attachment) Global). r.items),
          ap (λ (table : Rows). length table) parks,
        )

    pub parked_place : place < length (row_at (rows_of parked) row)
    parked_place =
        subst (λ (table : Rows). place < length (row_at table row)) (sym parks)
        (omega (
          arith,
          there,
          All-get_or (λ (r : List (Option Attachment)). hart < length r) v.parked row [] parks_below
              (parked_wide v.task (stored_of v) i.order hart below),
        ))

    pub set_there : has_left s.registry.table hart ≡ true → is_live (plugin_of s.registry.table plugin).state ≡ true
        → (found : Option Attachment)
        → found ≡ option_or (option_map f (slice_index_or (row_at (rows_of waiting) row) place None))
        (slice_index_or (row_at (rows_of parked) row) place None)
        → found ≡ Some (attachment_of (task_run s.task) plugin hart s.past)
    set_there left live found found_is =
        found_is
        ∙ ap (λ (o : Option Attachment). option_or o (slice_index_or (row_at (rows_of parked) row) place None))
        (sym (shown_at f waiting row place) ∙ ap (λ (table : Rows). slice_index_or (row_at table row) place None) waits)
        ∙ ap (λ (table : Rows). either_at v.waiting table row place) parks
        ∙ ap (λ (k : ℕ). either_at v.waiting v.parked k place) at
        ∙ ap (λ (k : ℕ). either_at v.waiting v.parked (plugin - 1) k) there
        ∙ live_sets_are_there v.task plugin hart (stored_of v) i.order one long below
        (subst (λ (x : StateValue). has_left x.registry.table hart ≡ true) (sym is) left)
        (subst (λ (x : StateValue). is_live (plugin_of x.registry.table plugin).state ≡ true) (sym is) live)
        ∙ ap (λ (x : StateValue). Some (attachment_of (task_run x.task) plugin hart x.past)) is
