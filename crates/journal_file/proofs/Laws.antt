-- A field that is read is the field that was written, and what was written is read again.
use Rattle.std.proofs.Common.{◌≡◌, ℕ, suc, ◌+◌, ◌^◌, ◌<◌, ◌≤◌, Bool, true, false, cond, ltb, List, [], ◌∷◌}
use Rattle.std.proofs.Common.{◌++◌, length, get_or, take, drop, Option, Some, None, Result, Ok, Err, refl, sym, ap, subst, ◌∙◌}
use Rattle.std.proofs.Common.{append_assoc, arith, inl, inr}
use Rattle.std.specs.Int.{Width, w16, w32, w64, byte_len, from_le_bytes, to_le_bytes}
use Rattle.std.proofs.lemmas.Bool.{cases_lt, ltb-false, le-ltb}
use Rattle.std.proofs.lemmas.List.{take_at, drop_at, take-append-drop, length-append, length-take, get_or-drop, get_or-take, get_or_past}
use Rattle.std.proofs.lemmas.Nat.{le_bytes_2, le_bytes_4, le_bytes_8, from_le_bytes-to_le_bytes_2, from_le_bytes-to_le_bytes_4}
use Rattle.std.proofs.lemmas.Nat.{from_le_bytes-to_le_bytes_8}
use Rattle.journal_file.specs.declared.refusal.Fault.{Fault}
use Rattle.journal_file.specs.declared.refusal.Fault.TheVariants as faults
use Rattle.journal_file.specs.Reading.{◌>>=◌, Field, byte_at, number_at, known}

abbrev pub IsBytes : List ℕ → Type 0
IsBytes bytes = (i : ℕ) → get_or bytes i 0 < 256

IsBytes-drop : (n : ℕ) (bytes : List ℕ) → IsBytes bytes → IsBytes (drop n bytes)
IsBytes-drop n bytes h i = rw get_or-drop (h (n + i))

IsBytes-take : (n : ℕ) (bytes : List ℕ) → IsBytes bytes → IsBytes (take n bytes)
IsBytes-take n bytes h i =
    elim (cases_lt i n) [
      | inl lt ↦ rw (get_or-take n bytes i 0 lt) (h i)
      | inr le ↦ rw (get_or_past (take n bytes) i 0 (omega (arith, length-take n bytes))) (omega arith)
    ]

pub IsBytes-rest : (b : ℕ) (bytes : List ℕ) → IsBytes (b ∷ bytes) → IsBytes bytes
IsBytes-rest b bytes h i = h (suc i)

-- the value of a step that did not fail
pub bind_ok : {A B E : Type 0} (r : Result A E) (f : A → Result B E) (y : B) → (r >>= f) ≡ Ok y → (x : A) × (r ≡ Ok x) × (f x ≡ Ok y)
bind_ok (Ok x) f y e = (x, refl, e)
bind_ok (Err d) f y e = absurd cc

-- a test that did not fail
pub guard_ok : {A E : Type 0} (b : Bool) (d : E) (x y : A) → cond b (Err d) (Ok x) ≡ Ok y → (b ≡ false) × (x ≡ y)
guard_ok true d x y e = absurd cc
guard_ok false d x y e = (refl, cc)

abbrev pub done : {A E : Type 0} → A → Result A E
done x = Ok x

pub ok_is : {A : Type 0} (x y : A) (E : Type 0) → done {E = E} x ≡ done y → x ≡ y
ok_is x y E e = cc

-- a value that was read, and the bytes after it
abbrev pub field : {A : Type 0} → A → List ℕ → Field A
field x rest = Ok (x, rest)

pub same_field : {A : Type 0} (x y : A) (r s : List ℕ) → field x r ≡ field y s → (x ≡ y) × (r ≡ s)
same_field {A} x y r s e =
    let p : A × List ℕ = (x, r) in
    let q : A × List ℕ = (y, s) in
    let same : p ≡ q = ok_is p q Fault e in
    (ap (λ (v : A × List ℕ). v.0) same, ap (λ (v : A × List ℕ). v.1) same)

-- what a reader took from the front
pub record Takes (bytes text rest : List ℕ) : Type 0 where
  pub parts : bytes ≡ text ++ rest
  pub rest_fits : IsBytes rest

pub Takes-then : (a x b y c : List ℕ) → Takes a x b → Takes b y c → Takes a (x ++ y) c
Takes-then a x b y c p q = record { parts = p.parts ∙ ap (λ (t : List ℕ). x ++ t) q.parts ∙ sym (append_assoc x y c); rest_fits = q.rest_fits }

pub Takes-byte : (b : ℕ) (bytes : List ℕ) → IsBytes (b ∷ bytes) → Takes (b ∷ bytes) (b ∷ []) bytes
Takes-byte b bytes fits = record { parts = refl; rest_fits = IsBytes-rest b bytes fits }

pub Takes-behind : (b : ℕ) (bytes x rest : List ℕ) → Takes bytes x rest → Takes (b ∷ bytes) (b ∷ x) rest
Takes-behind b bytes x rest p = record { parts = ap (λ (t : List ℕ). b ∷ t) p.parts; rest_fits = p.rest_fits }

-- a reader takes what a spelling has, and reads it again
pub record Law (A : Type 0) (read : List ℕ → Field A) (spell : A → List ℕ) (Fits : A → Type 0) : Type 0 where
  pub takes : (bytes : List ℕ) (x : A) (rest : List ℕ) → IsBytes bytes → read bytes ≡ Ok (x, rest) → Takes bytes (spell x) rest × Fits x
  pub again : (x : A) (rest : List ℕ) → Fits x → read (spell x ++ rest) ≡ Ok (x, rest)

-- a first field that was read, and what is read behind it
pub step : {A B : Type 0} {read : List ℕ → Field A} {spell : A → List ℕ} {Fits : A → Type 0} (law : Law A read spell Fits) (bytes : List ℕ) (f : A × List ℕ → Result B Fault) (y : B) → IsBytes bytes → (read bytes >>= f) ≡ Ok y
    → (x : A × List ℕ) × Takes bytes (spell x.0) x.1 × Fits x.0 × (f x ≡ Ok y)
step {read = read} law bytes f y fits e =
    let b = bind_ok (read bytes) f y e in
    let t = law.takes bytes b.0.0 b.0.1 fits b.1 in
    (b.0, t.0, t.1, b.2)

-- what was made of the fields is what was read
pub taken : {A : Type 0} (spell : A → List ℕ) (Fits : A → Type 0) (bytes : List ℕ) (made : A) (after : List ℕ) (x : A) (rest : List ℕ) → field made after ≡ field x rest → Takes bytes (spell made) after → Fits made → Takes bytes (spell x) rest × Fits x
taken {A} spell Fits bytes made after x rest e takes fits =
    let same = same_field made x after rest e in
    (subst (λ r. Takes bytes (spell x) r) same.1 (subst (λ v. Takes bytes (spell v) after) same.0 takes), subst Fits same.0 fits)

-- a first field is read again, and then what is behind it
pub again_then : {A B : Type 0} {read : List ℕ → Field A} {spell : A → List ℕ} {Fits : A → Type 0} (law : Law A read spell Fits) (x : A) (t rest : List ℕ) (f : A × List ℕ → Result B Fault) (y : Result B Fault) → Fits x → f (x, t ++ rest) ≡ y → (read ((spell x ++ t) ++ rest) >>= f) ≡ y
again_then {read = read} {spell = spell} law x t rest f y fits h =
    ap (λ r. r >>= f) (ap read (append_assoc (spell x) t rest) ∙ law.again x (t ++ rest) fits) ∙ h

pub again_last : {A B : Type 0} {read : List ℕ → Field A} {spell : A → List ℕ} {Fits : A → Type 0} (law : Law A read spell Fits) (x : A) (rest : List ℕ) (f : A × List ℕ → Result B Fault) (y : Result B Fault) → Fits x → f (x, rest) ≡ y → (read (spell x ++ rest) >>= f) ≡ y
again_last law x rest f y fits h = ap (λ r. r >>= f) (law.again x rest fits) ∙ h

-- ---- bytes

byte_takes : (bytes : List ℕ) (x : ℕ) (rest : List ℕ) → IsBytes bytes → byte_at bytes ≡ Ok (x, rest) → Takes bytes (x ∷ []) rest × (x < 256)
byte_takes [] x rest fits e = absurd cc
byte_takes (b ∷ bytes) x rest fits e = taken (λ v. v ∷ []) (λ v. v < 256) (b ∷ bytes) b bytes x rest e (Takes-byte b bytes fits) (fits 0)

pub byte_law : Law ℕ byte_at (λ b. b ∷ []) (λ b. b < 256)
byte_law = record { takes = byte_takes; again = λ x rest fits. refl }

known_is : {A : Type 0} (b : ℕ) (rest : List ℕ) (o : Option A) (x : A) (after : List ℕ) → known b rest o ≡ Ok (x, after) → (o ≡ Some x) × (rest ≡ after)
known_is b rest None x after e = absurd cc
known_is {A} b rest (Some y) x after e =
    let same = same_field y x rest after e in
    (ap (λ v. Some v) same.0, same.1)

abbrev pub coded_at : {A : Type 0} → (ℕ → Option A) → List ℕ → Field A
coded_at table bytes = byte_at bytes >>= λ b. known b.0 b.1 (table b.0)

coded_takes : {A : Type 0} (table : ℕ → Option A) (code : A → ℕ) → ((b : ℕ) (x : A) → table b ≡ Some x → code x ≡ b) → (bytes : List ℕ) (x : A) (rest : List ℕ) → IsBytes bytes → coded_at table bytes ≡ Ok (x, rest) → Takes bytes (code x ∷ []) rest × Unit {0}
coded_takes table code back [] x rest fits e = absurd cc
coded_takes table code back (b ∷ bytes) x rest fits e =
    let k = known_is b bytes (table b) x rest e in
    (rw (back b x k.0, ← k.1) (Takes-byte b bytes fits), tt)

pub coded_law : {A : Type 0} (table : ℕ → Option A) (code : A → ℕ) → ((b : ℕ) (x : A) → table b ≡ Some x → code x ≡ b) → ((x : A) → table (code x) ≡ Some x) → Law A (coded_at table) (λ x. code x ∷ []) (λ x. Unit {0})
coded_law table code back again = record { takes = coded_takes table code back; again = λ x rest fits. ap (known (code x) rest) (again x) }

-- ---- numbers

record IsWide (w : Width) (limit : ℕ) : Type 0 where
  len : (n : ℕ) → length (to_le_bytes w n) ≡ byte_len w
  back : (bytes : List ℕ) → length bytes ≡ byte_len w → IsBytes bytes → to_le_bytes w (from_le_bytes w bytes) ≡ bytes
  again : (n : ℕ) → n < limit → from_le_bytes w (to_le_bytes w n) ≡ n
  below : (bytes : List ℕ) → IsBytes bytes → from_le_bytes w bytes < limit

number_takes : (w : Width) (limit : ℕ) (wide : IsWide w limit) (bytes : List ℕ) (n : ℕ) (rest : List ℕ) → IsBytes bytes → number_at w bytes ≡ Ok (n, rest) → Takes bytes (to_le_bytes w n) rest × (n < limit)
number_takes w limit wide bytes n rest fits e =
    let g = guard_ok (ltb (length bytes) (byte_len w)) faults.Short (from_le_bytes w (take (byte_len w) bytes), drop (byte_len w) bytes) (n, rest) e in
    let long : byte_len w ≤ length bytes = ltb-false _ _ g.0 in
    let n-is : from_le_bytes w (take (byte_len w) bytes) ≡ n = ap (λ (p : ℕ × List ℕ). p.0) g.1 in
    let rest-is : drop (byte_len w) bytes ≡ rest = ap (λ (p : ℕ × List ℕ). p.1) g.1 in
    let front : to_le_bytes w n ≡ take (byte_len w) bytes = rw (← n-is) (wide.back (take (byte_len w) bytes) (omega (arith, length-take (byte_len w) bytes)) (IsBytes-take (byte_len w) bytes fits)) in
    (record { parts = rw (front, ← rest-is) (sym (take-append-drop (byte_len w) bytes)); rest_fits = rw (← rest-is) (IsBytes-drop (byte_len w) bytes fits) }, rw (← n-is) (wide.below (take (byte_len w) bytes) (IsBytes-take (byte_len w) bytes fits)))

number_again : (w : Width) (limit : ℕ) (wide : IsWide w limit) (n : ℕ) (rest : List ℕ) → n < limit → number_at w (to_le_bytes w n ++ rest) ≡ Ok (n, rest)
number_again w limit wide n rest lt =
    let len = wide.len n in
    let long : ltb (length (to_le_bytes w n ++ rest)) (byte_len w) ≡ false = le-ltb _ _ (omega (arith, length-append (to_le_bytes w n) rest)) in
    rw (long, take_at (to_le_bytes w n) rest (byte_len w) len, drop_at (to_le_bytes w n) rest (byte_len w) len, wide.again n lt) refl

number_law : (w : Width) (limit : ℕ) → IsWide w limit → Law ℕ (number_at w) (to_le_bytes w) (λ n. n < limit)
number_law w limit wide = record { takes = number_takes w limit wide; again = number_again w limit wide }

wide16 : IsWide w16 (2 ^ 16)
wide16 = record {
  len = λ n. refl;
  back = λ bytes len fits. le_bytes_2 bytes _ len fits refl;
  again = λ n lt. from_le_bytes-to_le_bytes_2 n lt;
  below = λ bytes fits. omega (arith, fits 0, fits 1);
}

wide32 : IsWide w32 (2 ^ 32)
wide32 = record {
  len = λ n. refl;
  back = λ bytes len fits. le_bytes_4 bytes _ len fits refl;
  again = λ n lt. from_le_bytes-to_le_bytes_4 n lt;
  below = λ bytes fits. omega (arith, fits 0, fits 1, fits 2, fits 3);
}

wide64 : IsWide w64 (2 ^ 64)
wide64 = record {
  len = λ n. refl;
  back = λ bytes len fits. le_bytes_8 bytes _ len fits refl;
  again = λ n lt. from_le_bytes-to_le_bytes_8 n lt;
  below = λ bytes fits. omega (arith, fits 0, fits 1, fits 2, fits 3, fits 4, fits 5, fits 6, fits 7);
}

pub law16 : Law ℕ (number_at w16) (to_le_bytes w16) (λ n. n < 2 ^ 16)
law16 = number_law w16 (2 ^ 16) wide16

pub law32 : Law ℕ (number_at w32) (to_le_bytes w32) (λ n. n < 2 ^ 32)
law32 = number_law w32 (2 ^ 32) wide32

pub law64 : Law ℕ (number_at w64) (to_le_bytes w64) (λ n. n < 2 ^ 64)
law64 = number_law w64 (2 ^ 64) wide64
