-- The lines of an access: one, or two that adjoin.
use Rattle.std.proofs.Common.{◌≡◌, ℕ, zero, suc, ◌+◌, ◌-◌, ◌*◌, ◌/◌, ◌%◌, ◌^◌, ◌<◌, ◌≤◌, ◌==◌, true, false, if◌then◌else◌}
use Rattle.std.proofs.Common.{[], ◌∷◌, IsTrue, refl, ap, lit≤, arith}
use Rattle.std.proofs.Math.Nat.{add-mul}
use Rattle.std.proofs.lemmas.Bool.Decides.{nat_tests}
use Rattle.std.proofs.lemmas.Nat.{div-add-mod', div_below, le-div, one_shl, mod_below}
use Rattle.cache_model.specs.Hits.{is_line_size}
use Rattle.cache_model.specs.Touches.{ascending, lines_of}

large : (line : ℕ) → IsTrue (is_line_size line) → 8 ≤ line
large line sized = grind (arith, nat_tests)

-- an access has 1 to 8 bytes
few : (shift : ℕ) → shift ≤ 3 → (1 ≤ 2 ^ shift) × (2 ^ shift ≤ 8)
few zero small = (lit≤ tt, lit≤ tt)
few (suc zero) small = (lit≤ tt, lit≤ tt)
few (suc (suc zero)) small = (lit≤ tt, lit≤ tt)
few (suc (suc (suc zero))) small = (lit≤ tt, lit≤ tt)
few (suc (suc (suc (suc shift)))) small = absurd (omega arith)

-- the line of a byte that lies fewer bytes behind than a line has is the same or the next
adjoining : (line addr more : ℕ) → 0 < line → more < line → (addr / line ≤ (addr + more) / line) × ((addr + more) / line < addr / line + 2)
adjoining line addr more some few_more =
    let whole : addr / line * line + addr % line ≡ addr = div-add-mod' addr line in
    let rest : addr % line < line = mod_below addr line some in
    let two : (addr / line + 2) * line ≡ addr / line * line + 2 * line = add-mul (addr / line) 2 line in
    let below : addr + more < (addr / line + 2) * line = omega arith in
    let from : addr / line * line ≤ addr + more = omega arith in
    (le-div (addr / line) (addr + more) line some from, div_below (addr + more) line (addr / line + 2) some below)

ends : (a b : ℕ) → a ≤ b → b < a + 2 → ascending a (b - a) ≡ (if a == b then a ∷ [] else a ∷ b ∷ [])
ends a b from to = (elim (a == b) as (λ y. (a == b) ≡ y → ascending a (b - a) ≡ (if y then a ∷ [] else a ∷ b ∷ [])) [
  | true ↦ λ is. let none : b - a ≡ 0 = grind (arith, nat_tests) in rw none refl
  | false ↦ λ isnt. let one : b - a ≡ 1 = grind (arith, nat_tests) in
      let next : a + 1 ≡ b = grind (arith, nat_tests) in rw one (ap (λ n. a ∷ n ∷ []) next)
]) refl

pub lines_are : (line addr shift : ℕ) → IsTrue (is_line_size line) → shift ≤ 3
    → lines_of line addr shift
    ≡ (if addr / line == (addr + (1 * 2 ^ shift % 2 ^ 64 - 1)) / line then addr / line ∷ []
    else addr / line ∷ (addr + (1 * 2 ^ shift % 2 ^ 64 - 1)) / line ∷ [])
lines_are line addr shift sized small =
    let bytes = few shift small in
    let wide = large line sized in
    let shl : 1 * 2 ^ shift % 2 ^ 64 ≡ 2 ^ shift = one_shl shift 64 (omega arith) in
    let last : addr + 2 ^ shift - 1 ≡ addr + (2 ^ shift - 1) = omega arith in
    let near = adjoining line addr (2 ^ shift - 1) (omega arith) (omega arith) in
    rw (shl, last) (ends (addr / line) ((addr + (2 ^ shift - 1)) / line) near.0 near.1)
