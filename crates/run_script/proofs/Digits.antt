-- Digits are read as the number that they stand for.
use Rattle.std.proofs.Common.{◌≡◌, ◌<◌, ◌≤◌, ◌+◌, ◌*◌, ◌^◌, ◌==◌, ◌&&◌, ◌∷◌, [], ◌∙◌, ℕ}
use Rattle.std.proofs.Common.{suc, Bool, true, false, List, Some, None, refl, sym, ap, subst, arith, length, cond, nat_lt, nat_le, inl, inr}
use Rattle.std.specs.Prelude.{option_and_then}
use Rattle.std.proofs.lemmas.Bool.{and_parts, and_from, or_right, or_left, ltb-true, lt-ltb, leb-true, le-leb, cond-true}
use Rattle.std.proofs.lemmas.Option.{option_and_then_some}
use Rattle.std.proofs.Math.Nat.{pow-succ', pow-zero, one-le-pow, mul_assoc, add-mul, mul-one, le-mul_of_pos_right}
use Rattle.run_script.specs.Numbers.{digit, with_digit, read_on, number, entry_number}
use Rattle.run_script.specs.Grammar.{IsValue, SpellsDigits, SpellsEntry}
use Rattle.run_script.proofs.Signs.{is_plain, IsPlain}
use Rattle.run_script.proofs.Tables.{chosen}

some_if : (test : Bool) (n m : ℕ) → cond test (Some n) None ≡ Some m → (test ≡ true) × (n ≡ m)
some_if true n m e = (refl, cc)
some_if false n m e = absurd cc

-- what digits add to a number in front of them
pub record Adds (base m : ℕ) (bs : List ℕ) (r : ℕ) : Type 0 where
  pub value : ℕ
  pub is_value : IsValue base bs value
  pub sum : r ≡ m * base ^ length bs + value
  pub fits : m < 2 ^ 64 → r < 2 ^ 64

shifted : (base m d n v : ℕ) → (m * base + d) * base ^ n + v ≡ m * base ^ suc n + (d * base ^ n + v)
shifted base m d n v =
    let p = base ^ n in
    let a : (m * base + d) * p ≡ m * base * p + d * p = add-mul (m * base) d p in
    let b : m * base * p ≡ m * (base * p) = mul_assoc m base p in
    let c : m * (base * p) ≡ m * base ^ suc n = ap (λ x. m * x) (sym (pow-succ' base n)) in
    omega (arith, a, b, c)

adds : (base m r : ℕ) (bs : List ℕ) → read_on base m bs ≡ Some r → Adds base m bs r
adds base m r [] e =
    let same : m ≡ r = cc in
    record {
      value = 0;
      is_value = refl;
      sum = sym same
          ∙ omega (arith, ap (λ p. m * p) (pow-zero base), mul-one m);
      fits = λ h. omega arith;
    }
adds base m r (b ∷ bs) e =
    option_and_then_some (λ n. read_on base n bs) (option_and_then (with_digit base m) (digit base b)) r e (λ n first more.
    option_and_then_some (with_digit base m) (digit base b) n first (λ d is_digit joined.
    let both = some_if (nat_lt (m * base + d) (2 ^ 64)) (m * base + d) n joined in
    let below = ltb-true (m * base + d) (2 ^ 64) both.0 in
    let rest = adds base n r bs more in
    record {
      value = d * base ^ length bs + rest.value;
      is_value = (d, rest.value, is_digit, rest.is_value, refl);
      sum = rest.sum ∙ (ap (λ x. x * base ^ length bs + rest.value) (sym both.1) ∙ shifted base m d (length bs) rest.value);
      fits = λ h. rest.fits (omega arith);
    }))

pub number_spelt : (base most n : ℕ) (text : List ℕ) → number base most text ≡ Some n → SpellsDigits base most n text
number_spelt base most n text e =
    elim (chosen (nat_lt 0 (length text) && nat_le (length text) most) (read_on base 0 text) None (Some n) e) [
      | inl read ↦
          let sizes = and_parts (nat_lt 0 (length text)) (nat_le (length text) most) read.0 in
          let a = adds base 0 n text read.1 in
          let same : n ≡ a.value = a.sum ∙ omega arith in
          record {
            some = ltb-true 0 (length text) sizes.0;
            few = leb-true (length text) most sizes.1;
            value = subst (λ v. IsValue base text v) (sym same) a.is_value;
            fits = a.fits (omega arith);
          }
      | inr not ↦ absurd cc
    ]

reads_on : (base m v : ℕ) (bs : List ℕ) → 0 < base → IsValue base bs v → m * base ^ length bs + v < 2 ^ 64
    → read_on base m bs ≡ Some (m * base ^ length bs + v)
reads_on base m v [] some h fits = ap (λ n. Some n) (omega (arith, h, ap (λ p. m * p) (pow-zero base), mul-one m))
reads_on base m v (b ∷ bs) some h fits =
    let d = h.0 in let rest = h.1 in let p = base ^ length bs in
    let sum : (m * base + d) * p + rest ≡ m * base ^ length (b ∷ bs) + v =
    shifted base m d (length bs) rest ∙ ap (λ x. m * base ^ suc (length bs) + x) (sym h.4) in
    let least : m * base + d ≤ (m * base + d) * p = le-mul_of_pos_right (m * base + d) (one-le-pow (length bs) base some) in
    let below : m * base + d < 2 ^ 64 = omega (arith, sum, least, fits) in
    let first : option_and_then (with_digit base m) (digit base b) ≡ Some (m * base + d) =
    ap (option_and_then (with_digit base m)) h.2 ∙ cond-true _ _ _ (lt-ltb _ _ below) in
    ap (option_and_then (λ n. read_on base n bs)) first
    ∙ (reads_on base (m * base + d) rest bs some h.3 (omega (arith, sum, fits)) ∙ ap (λ x. Some x) sum)

pub number_reads : (base most n : ℕ) (text : List ℕ) → 0 < base → SpellsDigits base most n text → number base most text ≡ Some n
number_reads base most n text some s =
    cond-true _ _ _ (and_from _ _ (lt-ltb 0 (length text) s.some) (le-leb (length text) most s.few))
    ∙ (reads_on base 0 n text some s.value (omega (arith, s.fits)) ∙ ap (λ x. Some x) (omega arith))

pub entry_spelt : (n : ℕ) (text : List ℕ) → entry_number text ≡ Some n → SpellsEntry n text
entry_spelt n text e =
    option_and_then_some (λ m. cond (nat_lt m 64) (Some m) None) (number 10 20 text) n e (λ m found small.
    let both = some_if (nat_lt m 64) m n small in
    record {
      num = number_spelt 10 20 n text (found ∙ ap (λ x. Some x) both.1);
      small = omega (arith, ltb-true m 64 both.0, both.1);
    })

pub entry_reads : (n : ℕ) (text : List ℕ) → SpellsEntry n text → entry_number text ≡ Some n
entry_reads n text s =
    ap (option_and_then (λ m. cond (nat_lt m 64) (Some m) None)) (number_reads 10 20 n text (omega arith) s.num)
    ∙ cond-true _ _ _ (lt-ltb n 64 s.small)

-- digits are no signs

letter_plain : (b : ℕ) → 65 ≤ b → b < 128 → is_plain b ≡ true
letter_plain b h small =
    and_from _ _ (and_from _ _ (le-leb 48 b (omega arith)) (or_right _ _ (le-leb 65 b h))) (lt-ltb b 128 small)

digit_plain : (base b d : ℕ) → digit base b ≡ Some d → is_plain b ≡ true
digit_plain base b d e =
    elim (chosen (nat_le 48 b && nat_le b 57) _ _ _ e) [
      | inl decimal ↦
          let sizes = and_parts (nat_le 48 b) (nat_le b 57) decimal.0 in
          let small : b < 128 = omega (arith, leb-true b 57 sizes.1) in
          and_from _ _ (and_from _ _ sizes.0 (or_left _ _ sizes.1)) (lt-ltb b 128 small)
      | inr more ↦
          elim (chosen (nat_le 97 b && nat_le b 102 && base == 16) _ _ _ more.1) [
            | inl small ↦
                let sizes = and_parts (nat_le 97 b) (nat_le b 102) (and_parts (nat_le 97 b && nat_le b 102) (base == 16) small.0).0 in
                letter_plain b (omega (arith, leb-true 97 b sizes.0)) (omega (arith, leb-true b 102 sizes.1))
            | inr rest ↦
                elim (chosen (nat_le 65 b && nat_le b 70 && base == 16) _ _ _ rest.1) [
                  | inl large ↦
                      let sizes = and_parts (nat_le 65 b) (nat_le b 70) (and_parts (nat_le 65 b && nat_le b 70) (base == 16) large.0).0 in
                      letter_plain b (leb-true 65 b sizes.0) (omega (arith, leb-true b 70 sizes.1))
                  | inr none ↦ absurd cc
                ]
          ]
    ]

value_plain : (base n : ℕ) (text : List ℕ) → IsValue base text n → IsPlain text
value_plain base n [] h = refl
value_plain base n (b ∷ bs) h = and_from _ _ (digit_plain base b h.0 h.2) (value_plain base h.1 bs h.3)

pub digits_plain : (base most n : ℕ) (text : List ℕ) → SpellsDigits base most n text → IsPlain text
digits_plain base most n text s = value_plain base n text s.value
