-- Harts that owe no Back.
use Rattle.std.proofs.Common.{◌≡◌, ◌||◌, ◌+◌, ◌-◌, ◌<◌, ◌≤◌, ◌∙◌, ℕ, zero, suc, Bool, false, refl, ap, subst, arith, length}
use Rattle.std.specs.List.{list_any, range_with_len}
use Rattle.flat_model.specs.Registry.{Plugins, owes}
use Rattle.run_rules.specs.Legal.{numbers}

none_of : (f : ℕ → Bool) (a n : ℕ) → ((k : ℕ) → a ≤ k → k < a + n → f k ≡ false) → list_any f (range_with_len a n) ≡ false
none_of f a zero none = refl
none_of f a (suc n) none =
    ap (λ (b : Bool). b || list_any f (range_with_len (a + 1) n)) (none a (omega arith) (omega arith))
    ∙ none_of f (a + 1) n (λ k low high. none k (omega (arith, low)) (omega (arith, high)))

pub owes_none : (r : Plugins) (h n : ℕ) → n ≡ length r.plugins → ((p : ℕ) → p < n → owes r h (p + 1) ≡ false)
    → list_any (λ plugin. owes r h plugin) (numbers r) ≡ false
owes_none r h n all none =
    none_of (λ plugin. owes r h plugin) 1 (length r.plugins)
    (λ k low high.
    let at : k - 1 + 1 ≡ k = omega (arith, low) in
    subst (λ (plugin : ℕ). owes r h plugin ≡ false) at (none (k - 1) (omega (arith, low, high, all))))
