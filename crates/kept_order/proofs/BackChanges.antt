-- What a Back leaves as it was of what the rules see.
use Rattle.std.proofs.Common.{◌≡◌, ◌==◌, ◌&&◌, ◌-◌, ◌∷◌, [], ◌∙◌, ℕ, zero, suc, Bool, true, false, not, List}
use Rattle.std.proofs.Common.{refl, sym, ap, inl, inr, length, nat_lt, nat_le}
use Rattle.std.specs.Prelude.{if◌then◌else◌, slice_index_or, slice_set}
use Rattle.std.specs.List.{list_all, range_with_len}
use Rattle.std.proofs.lemmas.Bool.{cases_Bool}
use Rattle.flat_model.specs.declared.plugins.Ask.{Ask}
use Rattle.flat_model.specs.declared.plugins.Ask.TheVariants.{Stay}
use Rattle.flat_model.specs.declared.plugins.SetSpec.{SetSpec}
use Rattle.flat_model.specs.declared.journals.Item.{Item}
use Rattle.flat_model.specs.declared.journals.Item.TheVariants.{GaveBack}
use Rattle.flat_model.specs.declared.journals.PlugState.{PlugState}
use Rattle.flat_model.specs.Asks.{stays}
use Rattle.flat_model.specs.Registry.{Plugins, Plugin, registry, plugin_of, sets_of, is_installed, after_back, owes}
use Rattle.flat_model.specs.Worlds.{world}
use Rattle.run_rules.specs.Guest.{Run, plugins}
use Rattle.run_rules.specs.Due.{next_line, start_orders}
use Rattle.run_rules.specs.Heard.{progress, is_live, waiting}
use Rattle.run_rules.specs.Legal.{Legal, asks_nothing}
use Rattle.run_rules.proofs.Fitting.{installed_from, installed_within, number_is, other_place, same_place}
use Rattle.run_rules.proofs.Turns.{first_true}
use Rattle.run_order.specs.InOrder.{task_run}
use Rattle.kept_order.specs.Returning.{BacksChangeLittle}
use Rattle.kept_order.proofs.Arrivals.{last_spec}
use Rattle.kept_order.proofs.Backs.{same_sets, same_long, state_keeps}
use Rattle.kept_order.proofs.Unplanned.{wants_none}

-- a plug-in once hart h has given it back
abbrev without_back : Plugin → ℕ → Plugin
without_back p h = record p { owing = slice_set p.owing h false }

-- the ask that waits, by how many plug-ins there are, by the plug-in's state, and by its sets
abbrev waits_by : Run → ℕ → ℕ → List Item → ℕ → PlugState → List SetSpec → Ask
waits_by run p h past count state sets =
    if (nat_lt 0 p && nat_le p count) && is_live state
    then (progress run (last_spec sets) p (length sets - 1) h past).walk.asked else Stay

same_asks : (run : Run) (hart number p h : ℕ) (past : List Item)
    → waiting run p h (GaveBack hart number ∷ past) ≡ waiting run p h past
unfolding registry progress
same_asks run hart number p h past =
    let r = plugins run past in
    let now = after_back hart number r in
    let p_now = (plugin_of now p).state in
    ap (λ (n : ℕ). waits_by run p h past n p_now (sets_of now p)) (same_long r hart number)
    ∙ ap (λ (s : PlugState). waits_by run p h past (length r.plugins) s (sets_of now p))
    (state_keeps r.plugins (number - 1) (without_back (plugin_of r number) hart) (p - 1) refl)
    ∙ ap (waits_by run p h past (length r.plugins) (plugin_of r p).state) (same_sets r hart number p)

all_same : (f g : ℕ → Bool) (xs : List ℕ) → ((k : ℕ) → f k ≡ g k) → list_all f xs ≡ list_all g xs
all_same f g [] same = refl
all_same f g (x ∷ xs) same = ap (λ (b : Bool). b && list_all f xs) (same x) ∙ ap (λ (b : Bool). g x && b) (all_same f g xs same)

same_quiet : (run : Run) (hart number h : ℕ) (past : List Item)
    → asks_nothing run h (GaveBack hart number ∷ past) ≡ asks_nothing run h past
unfolding registry
same_quiet run hart number h past =
    let r = plugins run past in
    let now = GaveBack hart number ∷ past in
    ap (λ (n : ℕ). list_all (λ p. stays (waiting run p h now)) (range_with_len 1 n)) (same_long r hart number)
    ∙ all_same (λ p. stays (waiting run p h now)) (λ p. stays (waiting run p h past)) (range_with_len 1 (length r.plugins))
    (λ p. ap stays (same_asks run hart number p h past))

-- What the hart owes.

set_false : (bs : List Bool) (h : ℕ) → slice_index_or (slice_set bs h false) h false ≡ false
set_false [] h = refl
set_false (b ∷ bs) zero = refl
set_false (b ∷ bs) (suc h) = set_false bs h

and_none : (b : Bool) → (b && false) ≡ false
and_none true = refl
and_none false = refl

-- whether hart h owes a plug-in, by how many there are and by the plug-in
abbrev owes_by : ℕ → ℕ → ℕ → Plugin → Bool
owes_by h p count x = (nat_lt 0 p && nat_le p count) && slice_index_or x.owing h false

none_installed : (p count h : ℕ) (x y : Plugin) → (nat_lt 0 p && nat_le p count) ≡ false → owes_by h p count x ≡ owes_by h p count y
none_installed p count h x y none =
    ap (λ (b : Bool). b && slice_index_or x.owing h false) none ∙ sym (ap (λ (b : Bool). b && slice_index_or y.owing h false) none)

owes_others : (r : Plugins) (h number p : ℕ) → owes r h number ≡ true
    → owes (after_back h number r) h p ≡ (not (number == p) && owes r h p)
owes_others r h number p owed =
    let there : is_installed r number ≡ true = first_true _ _ owed in
    let now = after_back h number r in
    let left = without_back (plugin_of r number) h in
    ap (λ (n : ℕ). owes_by h p n (plugin_of now p)) (same_long r h number)
    ∙ elim (cases_Bool (number == p)) [
      | inl at ↦
          ap (λ (k : ℕ). owes_by h p (length r.plugins) (plugin_of now k)) (sym (number_is number p at))
          ∙ ap (owes_by h p (length r.plugins)) (same_place r number left (installed_within r number there))
          ∙ ap (λ (b : Bool). is_installed r p && b) (set_false (plugin_of r number).owing h)
          ∙ and_none (is_installed r p)
          ∙ sym (ap (λ (b : Bool). not b && owes r h p) at)
      | inr off ↦
          elim (cases_Bool (is_installed r p)) [
            | inl is ↦
                ap (owes_by h p (length r.plugins))
                (other_place r number p left (installed_from r number there) (installed_from r p is) off)
            | inr none ↦ none_installed p (length r.plugins) h (plugin_of now p) (plugin_of r p) none
          ] ∙ sym (ap (λ (b : Bool). not b && owes r h p) off)
    ]

pub backs_change_little : BacksChangeLittle
unfolding Legal registry world next_line start_orders
backs_change_little t h plugin past rising legal =
    let run = task_run t in
    let r = plugins run past in
    record {
      world = refl;
      there = refl;
      as_many = same_long r h plugin;
      asks = λ p. same_asks run h plugin p h past;
      quiet = same_quiet run h plugin h past;
      none = wants_none run past (GaveBack h plugin ∷ past) rising refl refl;
      owes = λ p. owes_others r h plugin p (first_true _ _ legal.1);
    }
