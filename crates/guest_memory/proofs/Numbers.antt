-- Numbers and the bytes that hold them.
use Rattle.std.proofs.Common.{◌≡◌, ℕ, zero, suc, ◌+◌, ◌-◌, ◌<◌, ◌≤◌, ◌++◌, List, [], ◌∷◌, length, take}
use Rattle.std.proofs.Common.{drop, get_or, refl, ap, ◌∙◌}
use Rattle.std.proofs.Common.{arith, drop-cons, append_assoc}
use Rattle.std.proofs.lemmas.List.{get_or-drop, append-nil}
use Rattle.std.proofs.Math.Path.{fun_ext}
use Rattle.std.specs.Int.{sum_through, byte_worth, from_le_bytes, w64}
use Rattle.flat_model.specs.Access.{number_of, bytes_from}

-- a number is told by its bytes
pub number_same : (xs ys : List ℕ) → ((k : ℕ) → get_or xs k 0 ≡ get_or ys k 0) → number_of xs ≡ number_of ys
unfolding number_of
number_same xs ys e = ap (λ (f : ℕ → ℕ). sum_through (λ i. byte_worth i (f i)) 7) (fun_ext e)

pub number_is : (xs : List ℕ) (n : ℕ) → n ≡ from_le_bytes w64 xs → n ≡ number_of xs
unfolding number_of
number_is xs n e = e

-- the bytes depend on what the addresses hold
pub bytes_same : (b c : ℕ → ℕ) (addr n : ℕ) → ((k : ℕ) → k < n → b (addr + k) ≡ c (addr + k)) → bytes_from b addr n ≡ bytes_from c addr n
unfolding bytes_from
bytes_same b c addr zero e = refl
bytes_same b c addr (suc n) e =
    let here : addr + 0 ≡ addr = omega arith in
    let first : b addr ≡ c addr = rw here at (e 0 (omega arith)) in
    let rest = bytes_same b c (addr + 1) n (λ k below. let next : addr + suc k ≡ addr + 1 + k = omega arith in rw next at
    (e (suc k) (omega arith))) in
    rw (first, rest) refl

-- the bytes of a slice that begins at base
pub bytes_in : (bs : List ℕ) (base addr n : ℕ) → base ≤ addr → addr + n ≤ base + length bs
    → bytes_from (λ at. get_or bs (at - base) 0) addr n ≡ take n (drop (addr - base) bs)
unfolding bytes_from
bytes_in bs base addr zero low high = refl
bytes_in bs base addr (suc n) low high =
    let below : addr - base < length bs = omega arith in
    let next : suc (addr - base) ≡ addr + 1 - base = omega arith in
    rw (drop-cons bs (addr - base) 0, next, bytes_in bs base (addr + 1) n (omega arith) (omega arith)) refl

pub bytes_at : (b : ℕ → ℕ) (addr n k : ℕ) → k < n → get_or (bytes_from b addr n) k 0 ≡ b (addr + k)
unfolding bytes_from
bytes_at b addr zero k below = absurd (omega arith)
bytes_at b addr (suc n) zero below = let e : addr + 0 ≡ addr = omega arith in rw e refl
bytes_at b addr (suc n) (suc k) below = let e : addr + suc k ≡ addr + 1 + k = omega arith in rw e (bytes_at b (addr + 1) n k (omega arith))

pub bytes_length : (b : ℕ → ℕ) (addr n : ℕ) → length (bytes_from b addr n) ≡ n
unfolding bytes_from
bytes_length b addr zero = refl
bytes_length b addr (suc n) = ap suc (bytes_length b (addr + 1) n)

-- a run of bytes, and those behind it
pub bytes_joined : (b : ℕ → ℕ) (addr m k : ℕ) → bytes_from b addr (m + k) ≡ bytes_from b addr m ++ bytes_from b (addr + m) k
unfolding bytes_from
bytes_joined b addr zero k = let e : addr + 0 ≡ addr = omega arith in let f : 0 + k ≡ k = omega arith in rw (e, f) refl
bytes_joined b addr (suc m) k =
    let e : suc m + k ≡ suc (m + k) = omega arith in
    let f : addr + suc m ≡ addr + 1 + m = omega arith in
    rw (e, f) (ap (λ l. b addr ∷ l) (bytes_joined b (addr + 1) m k))

-- bytes with a run appended, and what is left to append
pub appended_more : (b : ℕ → ℕ) (before after : List ℕ) (addr m n : ℕ) → m ≤ n → after ≡ before ++ bytes_from b addr m
    → after ++ bytes_from b (addr + m) (n - m) ≡ before ++ bytes_from b addr n
appended_more b before after addr m n part e =
    let f : m + (n - m) ≡ n = omega arith in
    rw (e, append_assoc, ← bytes_joined, f) refl

pub bytes_nothing : (b : ℕ → ℕ) (before : List ℕ) (addr n : ℕ) → n ≡ 0 → before ++ bytes_from b addr n ≡ before
unfolding bytes_from
bytes_nothing b before addr n none = rw none (append-nil before)

abbrev pub zeros : List ℕ
zeros = 0 ∷ 0 ∷ 0 ∷ 0 ∷ 0 ∷ 0 ∷ 0 ∷ 0 ∷ []

each : (k : ℕ) → get_or zeros k 0 ≡ 0
each zero = refl
each (suc zero) = refl
each (suc (suc zero)) = refl
each (suc (suc (suc zero))) = refl
each (suc (suc (suc (suc zero)))) = refl
each (suc (suc (suc (suc (suc zero))))) = refl
each (suc (suc (suc (suc (suc (suc zero)))))) = refl
each (suc (suc (suc (suc (suc (suc (suc zero))))))) = refl
each (suc (suc (suc (suc (suc (suc (suc (suc k)))))))) = refl

no_zeros : (n k : ℕ) → get_or (drop n zeros) k 0 ≡ 0
no_zeros n k = get_or-drop n zeros k 0 ∙ each (n + k)

padded_at : (bs : List ℕ) (n k : ℕ) → get_or (bs ++ drop n zeros) k 0 ≡ get_or bs k 0
padded_at [] n k = no_zeros n k
padded_at (b ∷ bs) n zero = refl
padded_at (b ∷ bs) n (suc k) = padded_at bs n k

-- zeros behind the bytes change nothing
pub number_padded : (bs : List ℕ) (n : ℕ) → number_of (bs ++ drop n zeros) ≡ number_of bs
number_padded bs n = number_same (bs ++ drop n zeros) bs (padded_at bs n)
