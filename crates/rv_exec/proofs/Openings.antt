-- The starts of the harts from the first.
use Rattle.std.proofs.Common.{◌≡◌, ◌==◌, ℕ, zero, suc, ◌-◌, ◌<◌, ◌≤◌, ◌⊎◌, inl, inr, List, ◌∷◌}
use Rattle.std.proofs.Common.{length, get_or, Option, Some, None}
use Rattle.std.proofs.Common.{replicate, refl, ◌∙◌, ap, arith}
use Rattle.std.specs.Prelude.{nat_lt, true, false, if◌then◌else◌}
use Rattle.std.proofs.Math.Path.{fun_ext}
use Rattle.std.proofs.Math.ListN.{get_or-eq_default}
use Rattle.std.proofs.lemmas.List.{get_or-replicate, length-replicate}
use Rattle.std.proofs.lemmas.Bool.Decides.{nat_tests}
use Rattle.flat_model.specs.declared.journals.Mode.{Mode}
use Rattle.flat_model.specs.declared.journals.Mode.TheVariants.{All, First}
use Rattle.flat_model.specs.Image.{Program}
use Rattle.flat_model.specs.World.{Start, start_at, opening_start, opening_starts}
use Rattle.rv_exec.specs.Sharing.{AreStarts}

zeroth : (image : Program) (mode : Mode) → Some (start_at image) ≡ opening_start image mode 0
zeroth image All = refl
zeroth image First = refl

later : (image : Program) (mode : Mode) (k : ℕ) → opening_start image mode 1 ≡ opening_start image mode (suc k)
later image All k = refl
later image First k = let t : (suc k == 0) ≡ false = grind (arith, nat_tests) in rw t refl

split : (k n : ℕ) → (k < n) ⊎ (n ≤ k)
split k n = elim (nat_lt k n) as (λ b. nat_lt k n ≡ b → (k < n) ⊎ (n ≤ k)) [
  | true ↦ λ e. inl (let h : k < n = grind (arith, nat_tests) in h)
  | false ↦ λ e. inr (let h : n ≤ k = grind (arith, nat_tests) in h)
] refl

-- a number below the harts has its start, and another one has none
chosen : (k n : ℕ) (a b : Option Start) → (k < n → a ≡ b) → (n ≤ k → a ≡ None) → a ≡ (if nat_lt k n then b else None)
chosen k n a b below past = elim (split k n) [
  | inl less ↦ let t : nat_lt k n ≡ true = grind (arith, nat_tests) in rw t (below less)
  | inr more ↦ let t : nat_lt k n ≡ false = grind (arith, nat_tests) in rw t (past more)
]

at : (image : Program) (mode : Mode) (n k : ℕ) → 1 ≤ n
    → get_or (Some (start_at image) ∷ replicate (n - 1) (opening_start image mode 1)) k None ≡ opening_starts image mode n k
at image mode n zero some = chosen 0 n (Some (start_at image)) (opening_start image mode 0) (λ _. zeroth image mode)
    (λ more. absurd (omega arith))
at image mode n (suc k) some =
    let rest = replicate (n - 1) (opening_start image mode 1) in
    chosen (suc k) n (get_or (replicate (n - 1) (opening_start image mode 1)) k None) (opening_start image mode (suc k))
    (λ less. get_or-replicate (n - 1) k (opening_start image mode 1) None (omega arith) ∙ later image mode k)
    (λ more. get_or-eq_default (replicate (n - 1) (opening_start image mode 1)) None
    (omega (arith, length-replicate (n - 1) (opening_start image mode 1))))

pub starts_are : (image : Program) (mode : Mode) (n : ℕ) (starts : List (Option Start)) → 1 ≤ n
    → starts ≡ Some (start_at image) ∷ replicate (n - 1) (opening_start image mode 1) → AreStarts image mode n starts
starts_are image mode n starts some is = record {
  each = fun_ext (λ k. ap (λ l. get_or l k None) is ∙ at image mode n k some);
  count = ap length is ∙ (let r = length-replicate (n - 1) (opening_start image mode 1) in omega arith);
}
