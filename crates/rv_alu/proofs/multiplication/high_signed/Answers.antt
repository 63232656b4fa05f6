-- Both factors go into 128 bits as they are, and so does their product.
use Rattle.std.proofs.Common.{◌≡◌, ◌*ℤ◌, ◌^◌, ◌≤◌, ◌∙◌, ℤ, pos, negsuc, FitsSigned, ap, ap₂, arith, w64}
use Rattle.std.proofs.Common.{to_z, of_z}
use Rattle.std.specs.Int.{w128}
use Rattle.std.specs.Prelude.{unsigned_abs}
use Rattle.std.proofs.lemmas.Int.{to_z-of_z, fits_signed_mul}
use Rattle.flat_model.specs.Arithmetic.{high_half}
use Rattle.rv_alu.proofs.multiplication.high_signed.Goals as goal

size : (z : ℤ) → FitsSigned w64 z → unsigned_abs z ≤ 2 ^ 63
size (pos n) h = omega (arith, h.sfits)
size (negsuc n) h = omega (arith, h.sfits)

widened : (z x : ℤ) → FitsSigned w64 z → x ≡ to_z w64 (of_z w64 z) → to_z w128 (of_z w128 x) ≡ z
widened z x h e =
    ap (λ v. to_z w128 (of_z w128 v)) (e ∙ to_z-of_z w64 z h) ∙ to_z-of_z w128 z (record { sfits = omega (arith, h.sfits) })

product : (a b x y : ℤ) → FitsSigned w64 a → FitsSigned w64 b → x ≡ to_z w64 (of_z w64 a) → y ≡ to_z w64 (of_z w64 b)
    → to_z w128 (of_z w128 (to_z w128 (of_z w128 x) *ℤ to_z w128 (of_z w128 y))) ≡ a *ℤ b
product a b x y f g d e =
    ap (λ v. to_z w128 (of_z w128 v)) (ap₂ (λ v w. v *ℤ w) (widened a x f d) (widened b y g e))
    ∙ to_z-of_z w128 (a *ℤ b) (fits_signed_mul w128 a b (2 ^ 63) (2 ^ 63) (size a f) (size b g) (omega arith))

pub returns : goal.returns
returns c = record {
  high = c.high_half.ensures.high
      ∙ ap high_half (product _ _ _ _ c.ranges.a c.ranges.b c.from.ensures c.from-2.ensures);
}
