-- The closers that a state in order has.
use Rattle.std.proofs.Common.{◌≡◌, ◌≢◌, ◌&&◌, ◌-◌, ◌+◌, ◌≤◌, ◌∙◌, inl, inr, ℕ, zero, suc, [], ◌∷◌, Bool, true}
use Rattle.std.proofs.Common.{false, not, List, Option, Some, None, length, map}
use Rattle.std.proofs.Common.{refl, sym, ap, arith}
use Rattle.std.specs.Prelude.{if◌then◌else◌, slice_index_or, option_map}
use Rattle.std.proofs.lemmas.Bool.{cases_lt}
use Rattle.std.proofs.lemmas.Bool.Decides.{nat_tests}
use Rattle.std.proofs.lemmas.List.{get_or_past}
use Rattle.std.proofs.lemmas.List.FromFn.{length-map-range_with_len}
use Rattle.flat_model.specs.declared.journals.Item.{Item}
use Rattle.flat_model.specs.Registry.{Plugins, is_installed}
use Rattle.run_rules.specs.Guest.{Run, plugins}
use Rattle.run_order.specs.Sets.{Notice, notices_of, is_closing_out, closers_of}
use Rattle.run_order.specs.InOrder.{task_run}
use Rattle.run_order.proofs.Taking.{map_at}
use Rattle.kept_order.proofs.Openings.{closer}
use Rattle.host_state.specs.State.{StateValue, IsSound}

-- what stands at a place of what is shown, also past the end
shown_at : {A B : Type 0} (f : A → B) (xs : List A) (i : ℕ) (d : A) → slice_index_or (map f xs) i (f d) ≡ f (slice_index_or xs i d)
shown_at f [] i d = refl
shown_at f (x ∷ xs) zero d = refl
shown_at f (x ∷ xs) (suc i) d = shown_at f xs i d

-- what is there of the closer of a plug-in
abbrev pub closer_there : StateValue → ℕ → Option (List Notice)
closer_there s plugin =
    if is_installed s.registry.table plugin && not (is_closing_out (task_run s.task) plugin s.past)
    then Some (notices_of (task_run s.task) plugin s.past) else None

abbrev pub there_if : Bool → Bool → List Notice → Option (List Notice)
there_if installed out notices = if installed && not out then Some notices else None

turned : (out : Bool) (notices : List Notice) → (if out then None else Some notices) ≡ there_if true out notices
turned true notices = refl
turned false notices = refl

pub closer_at : (run : Run) (past : List Item) (plugin : ℕ) → 1 ≤ plugin
    → slice_index_or (closers_of run past) (plugin - 1) None
    ≡ there_if (is_installed (plugins run past) plugin) (is_closing_out run plugin past) (notices_of run plugin past)
closer_at run past plugin one =
    let n = length (plugins run past).plugins in
    elim (cases_lt (plugin - 1) n) [
      | inl within ↦
          let installed : is_installed (plugins run past) plugin ≡ true = grind (arith, nat_tests, one, within) in
          map_at (closer run past) 1 n (plugin - 1) None within
          ∙ ap (closer run past) {x = 1 + (plugin - 1)} {y = plugin} (omega (arith, one))
          ∙ turned (is_closing_out run plugin past) (notices_of run plugin past)
          ∙ ap (λ (b : Bool). there_if b (is_closing_out run plugin past) (notices_of run plugin past)) (sym installed)
      | inr past_all ↦
          let absent : is_installed (plugins run past) plugin ≡ false = grind (arith, nat_tests, one, past_all) in
          get_or_past (closers_of run past) (plugin - 1) None
          (omega (arith, past_all, length-map-range_with_len (closer run past) 1 n))
          ∙ ap (λ (b : Bool). there_if b (is_closing_out run plugin past) (notices_of run plugin past)) (sym absent)
    ]

pub closer_shown : {C : Type 0} (f : C → List Notice) (s v : StateValue) → v ≡ s → IsSound v → (closers : List (Option C))
    → v.closers ≡ map (option_map f) closers → (plugin place : ℕ) → plugin ≢ 0 → place ≡ plugin - 1 → (found : Option C)
    → found ≡ slice_index_or closers place None → option_map f found ≡ closer_there s plugin
closer_shown f s v is i closers same plugin place some at found found_is =
    let run = task_run v.task in
    ap (option_map f) (found_is ∙ ap (λ (k : ℕ). slice_index_or closers k None) at)
    ∙ sym (shown_at (option_map f) closers (plugin - 1) None)
    ∙ ap (λ (rows : List (Option (List Notice))). slice_index_or rows (plugin - 1) None) (sym same ∙ i.order.closers)
    ∙ closer_at run v.past plugin (omega (arith, some))
    ∙ ap (λ (r : Plugins). there_if (is_installed r plugin) (is_closing_out run plugin v.past) (notices_of run plugin v.past))
    (sym i.order.plugins)
    ∙ ap (λ (x : StateValue). closer_there x plugin) is
