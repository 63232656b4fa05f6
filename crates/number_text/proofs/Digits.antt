-- Hexadecimal digits: the last ones of a number, and all of them without leading zeros.
use Rattle.std.proofs.Common.{◌≡◌, ℕ, zero, suc, ◌+◌, ◌-◌, ◌*◌, ◌/◌, ◌%◌, ◌^◌, ◌<◌, ◌≤◌, List, []}
use Rattle.std.proofs.Common.{◌∷◌, ◌++◌, take, take_all, drop}
use Rattle.std.proofs.Common.{length, Bool, true, false, cond, eqb, eq-eqb, ne_eqb, refl, ap, sym, ◌∙◌, arith, append_assoc}
use Rattle.std.proofs.Common.{append-nil}
use Rattle.std.proofs.Common.{div-one, pow-add, pow_pos, div-lt_iff_lt-mul}
use Rattle.std.proofs.Math.Nat.{div-div-eq-div-mul}
use Rattle.std.specs.Fmt.{digits_onto, digits}
use Rattle.flat_model.specs.Fields.{field}
use Rattle.flat_model.specs.Texts.{hex, hex_digit}
use Rattle.number_text.specs.ShortHex.{short_hex}

-- the last digits stand at the end of more of them
drop-hex : (k len n : ℕ) → drop k (hex (k + len) n) ≡ hex len n
unfolding hex
drop-hex zero len n = ap (λ l. hex l n) {x = 0 + len} {y = len} (omega arith)
drop-hex (suc k) len n = ap (λ l. drop (suc k) (hex l n)) {x = suc k + len} {y = suc (k + len)} (omega arith) ∙ drop-hex k len n

pub length-hex : (len n : ℕ) → length (hex len n) ≡ len
unfolding hex
length-hex zero n = refl
length-hex (suc len) n = ap suc (length-hex len n)

pub last_digits : (len n : ℕ) → len ≤ 16 → take (16 - (16 - len)) (drop (16 - len) (hex 16 n)) ≡ hex len n
last_digits len n few =
    let dropped : drop (16 - len) (hex 16 n) ≡ hex len n
    = ap (λ l. drop (16 - len) (hex l n)) {x = 16} {y = 16 - len + len} (omega arith) ∙ drop-hex (16 - len) len n in
    ap (λ xs. take (16 - (16 - len)) xs) dropped ∙ take_all _ (hex len n) (omega (arith, length-hex len n))

one-more : (len : ℕ) → 2 ^ (4 * suc len) ≡ 16 * 2 ^ (4 * len)
one-more len = ap (λ k. 2 ^ k) {x = 4 * suc len} {y = 4 + 4 * len} (omega arith) ∙ pow-add 2 4 (4 * len)

-- a digit is that of a sixteenth, one place further to the right
moved : (len n : ℕ) → field n (4 * suc len) 4 ≡ field (n / 16) (4 * len) 4
moved len n =
    ap (λ p. n / p % 16) (one-more len) ∙ ap (λ q. q % 16) (sym (div-div-eq-div-mul n 16 (2 ^ (4 * len))))

-- the last digit stands at the end
hex-last : (len n : ℕ) → hex (suc len) n ≡ hex len (n / 16) ++ hex_digit (n % 16) ∷ []
unfolding hex
hex-last zero n = ap (λ q. hex_digit (q % 16) ∷ []) (div-one n)
hex-last (suc len) n =
    ap (λ d. hex_digit d ∷ hex (suc len) n) (moved len n)
    ∙ ap (λ xs. hex_digit (field (n / 16) (4 * len) 4) ∷ xs) (hex-last len n)

no-digits : (n : ℕ) → hex zero n ≡ []
unfolding hex
no-digits n = refl

-- Rust's digits begin with the last one: there is nothing before it, or the digits of a sixteenth
step : (k n : ℕ) (acc : List ℕ) (none : Bool) → eqb (n / 16) 0 ≡ none
    → digits_onto (suc k) 16 false n acc
    ≡ cond none (hex_digit (n % 16) ∷ acc) (digits_onto k 16 false (n / 16) (hex_digit (n % 16) ∷ acc))
step k n acc none e =
    ap (λ (b : Bool). cond b (hex_digit (n % 16) ∷ acc) (digits_onto k 16 false (n / 16) (hex_digit (n % 16) ∷ acc))) e

-- Rust's digits of a number are those of its least length
onto : (len k n : ℕ) (acc : List ℕ) → len < k → n < 2 ^ (4 * suc len) → (0 < len → 2 ^ (4 * len) ≤ n)
    → digits_onto k 16 false n acc ≡ hex (suc len) n ++ acc
onto len zero n acc more fits least = absurd (omega arith)
onto zero (suc k) n acc more fits least =
    step k n acc true (eq-eqb (n / 16) 0 (omega arith))
    ∙ ap (λ xs. xs ++ acc) (sym (hex-last zero n ∙ ap (λ xs. xs ++ hex_digit (n % 16) ∷ []) (no-digits (n / 16))))
onto (suc len) (suc k) n acc more fits least =
    let power : 2 ^ (4 * suc len) ≡ 16 * 2 ^ (4 * len) = one-more len in
    let wider : 2 ^ (4 * suc (suc len)) ≡ 16 * 2 ^ (4 * suc len) = one-more (suc len) in
    let some = pow_pos (4 * len) in
    let lowest = least (omega arith) in
    step k n acc false (ne_eqb (n / 16) 0 (λ e. omega arith))
    ∙ onto len k (n / 16) (hex_digit (n % 16) ∷ acc) (omega arith) (omega arith) (λ _. omega arith)
    ∙ sym (append_assoc (hex (suc len) (n / 16)) (hex_digit (n % 16) ∷ []) acc)
    ∙ ap (λ xs. xs ++ acc) (sym (hex-last (suc len) n))

-- a number that loses all its digits has no more than are lost
pub all_lost : (p n : ℕ) → 0 < p → n / p ≤ 0 → n < p
all_lost p n some none = let h = (div-lt_iff_lt-mul some).0 (let l : n / p < 1 = omega arith in l) in omega arith

-- the least length that has room for a number gives its digits without leading zeros
pub short_by_length : (len n : ℕ) → 0 < len → len ≤ 16 → n < 2 ^ (4 * len) → (1 < len → 2 ^ (4 * (len - 1)) ≤ n)
    → hex len n ≡ short_hex n
unfolding short_hex digits
short_by_length zero n some few fits least = absurd (omega arith)
short_by_length (suc len) n some few fits least =
    let same : suc len - 1 ≡ len = omega arith in
    sym (onto len 64 n [] (omega arith) fits (λ p. rw (sym same) (least (omega arith))) ∙ append-nil _)
