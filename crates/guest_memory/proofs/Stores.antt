-- What a store into one region leaves.
use Rattle.std.proofs.Common.{◌≡◌, ℕ, zero, suc, ◌+◌, ◌-◌, ◌<◌, ◌≤◌, ◌^◌, ◌&&◌, ◌++◌, leb, Bool, true}
use Rattle.std.proofs.Common.{false, cond, List, [], ◌∷◌, length}
use Rattle.std.proofs.Common.{map, take, drop, get_or, set, Some, refl, sym, ap, ◌∙◌, subst, arith, inl, inr, length-append}
use Rattle.std.proofs.Common.{length-drop}
use Rattle.std.proofs.Common.{length-set, length-take-le, unwrap_or, option_map, get_or-set_same}
use Rattle.std.proofs.Math.Path.{fun_ext}
use Rattle.std.specs.List.{find, list_any, slice_index}
use Rattle.std.proofs.lemmas.Bool.Decides.{nat_tests}
use Rattle.std.proofs.lemmas.List.{length-map, get_or-take, get_or-drop}
use Rattle.std.proofs.Math.ListN.{get_or-map, get_or-append}
use Rattle.std.proofs.Math.Seq.{get_or-append_right}
use Rattle.flat_model.specs.Image.{Segment, holds}
use Rattle.flat_model.specs.Permission.{Span, Writable, span_of, may, may_byte}
use Rattle.flat_model.specs.World.{opening_bytes}
use Rattle.flat_model.specs.Access.{stored, is_within, bytes_of_number}
use Rattle.guest_memory.specs.Memory.{IsLaidOut, IsWritten, IsPlace, admits}
use Rattle.guest_memory.specs.declared.regions.Access.TheVariants.{Write}
use Rattle.guest_memory.proofs.Places.{may_all, may_at, may_each, may_none, past_end, nothing, any_default, byte_of_region, held, lt_or_le}

map_set_same : {X Y : Type 0} (f : X → Y) (xs : List X) (i : ℕ) (y d : X) → f y ≡ f (get_or xs i d) → map f (set xs i y) ≡ map f xs
map_set_same f [] i y d e = refl
map_set_same f (x ∷ xs) zero y d e = rw e refl
map_set_same f (x ∷ xs) (suc i) y d e = ap (λ l. f x ∷ l) (map_set_same f xs i y d e)

find_skip : {X : Type 0} (p : X → Bool) (xs : List X) (i : ℕ) (y d : X) → p y ≡ false → p (get_or xs i d) ≡ false
    → find p (set xs i y) ≡ find p xs
find_skip p [] i y d e f = refl
find_skip p (x ∷ xs) zero y d e f = rw (e, f) refl
find_skip p (x ∷ xs) (suc i) y d e f = ap (λ o. cond (p x) (Some x) o) (find_skip p xs i y d e f)

span_at : (old new : List Segment) (k : ℕ) (d : Segment) → map span_of new ≡ map span_of old
    → span_of (get_or new k d) ≡ span_of (get_or old k d)
span_at old new k d e = sym (get_or-map span_of new k d) ∙ ap (λ l. get_or l k (span_of d)) e ∙ get_or-map span_of old k d

-- spans that stay as they are keep the regions apart and low
pub laid_along : (old new : List Segment) → map span_of new ≡ map span_of old → IsLaidOut old → IsLaidOut new
laid_along old new e laid =
    let count : length new ≡ length old = sym (length-map new span_of) ∙ ap length e ∙ length-map old span_of in
    let bases : (k : ℕ) (d : Segment) → (get_or new k d).base ≡ (get_or old k d).base = λ k d. ap (λ (s : Span). s.base)
    (span_at old new k d e) in
    let sizes : (k : ℕ) (d : Segment) → length (get_or new k d).bytes ≡ length (get_or old k d).bytes = λ k d. ap (λ (s : Span). s.size)
    (span_at old new k d e) in
    record {
      apart = λ i j d order below. elim (laid.apart i j d order (omega (arith, count, below))) [
        | inl a ↦ inl (omega (arith, a, bases i d, bases j d, sizes i d, sizes j d))
        | inr a ↦ inr (omega (arith, a, bases i d, bases j d, sizes i d, sizes j d))
      ];
      low = λ k d below. let l = laid.low k d (omega (arith, count, below)) in omega (arith, l, bases k d, sizes k d);
    }

-- n bytes of a source in place of those from i on
abbrev pub put_bytes : List ℕ → ℕ → ℕ → List ℕ → List ℕ
put_bytes bs i n raw = take i bs ++ (take n raw ++ drop (i + n) bs)

abbrev pub put_segment : Segment → ℕ → ℕ → ℕ → Segment
put_segment s addr n value = record s { bytes = put_bytes s.bytes (addr - s.base) n (bytes_of_number value) }

take_len : (n : ℕ) (xs : List ℕ) → n ≤ length xs → length (take n xs) ≡ n
take_len n xs h = length-take-le n xs h

put_length : (bs raw : List ℕ) (i n : ℕ) → n ≤ length raw → i + n ≤ length bs → length (put_bytes bs i n raw) ≡ length bs
put_length bs raw i n fits inside =
    let a = take_len i bs (omega arith) in
    let b = take_len n raw fits in
    omega (
      arith,
      a,
      b,
      length-append (take i bs) (take n raw ++ drop (i + n) bs),
      length-append (take n raw)
          (drop (i + n) bs),
      length-drop (i + n) bs,
    )

put_before : (bs raw : List ℕ) (i n k : ℕ) → n ≤ length raw → i + n ≤ length bs → k < i → get_or (put_bytes bs i n raw) k 0 ≡ get_or bs k 0
put_before bs raw i n k fits inside below =
    let a = take_len i bs (omega arith) in
    get_or-append (take i bs) (take n raw ++ drop (i + n) bs) 0 k (omega (arith, a)) ∙ get_or-take i bs k 0 below

put_inside : (bs raw : List ℕ) (i n k j : ℕ) → n ≤ length raw → i + n ≤ length bs → k ≡ i + j → j < n
    → get_or (put_bytes bs i n raw) k 0 ≡ get_or raw j 0
put_inside bs raw i n k j fits inside is below =
    let a = take_len i bs (omega arith) in
    let b = take_len n raw fits in
    let e : k - length (take i bs) ≡ j = omega (arith, a, is) in
    get_or-append_right (take i bs) (take n raw ++ drop (i + n) bs) k 0 (omega (arith, a, is))
    ∙ ap (λ m. get_or (take n raw ++ drop (i + n) bs) m 0) e ∙ get_or-append (take n raw) (drop (i + n) bs) 0 j (omega (arith, b))
    ∙ get_or-take n raw j 0 below

put_after : (bs raw : List ℕ) (i n k : ℕ) → n ≤ length raw → i + n ≤ length bs → i + n ≤ k
    → get_or (put_bytes bs i n raw) k 0 ≡ get_or bs k 0
put_after bs raw i n k fits inside past =
    let a = take_len i bs (omega arith) in
    let b = take_len n raw fits in
    let e : k - length (take i bs) - length (take n raw) ≡ k - (i + n) = omega (arith, a, b) in
    let f : i + n + (k - (i + n)) ≡ k = omega arith in
    get_or-append_right (take i bs) (take n raw ++ drop (i + n) bs) k 0 (omega (arith, a))
    ∙ get_or-append_right (take n raw) (drop (i + n) bs) (k - length (take i bs)) 0 (omega (arith, a, b))
    ∙ ap (λ m. get_or (drop (i + n) bs) m 0) e ∙ get_or-drop (i + n) bs (k - (i + n)) 0 ∙ ap (λ m. get_or bs m 0) f

number_long : (value : ℕ) → length (bytes_of_number value) ≡ 8
unfolding bytes_of_number
number_long value = refl

-- a byte of the region that was written
put_at : (s : Segment) (addr n value a : ℕ) → n ≤ 8 → holds addr n s ≡ true → holds a 1 s ≡ true
    → get_or (put_bytes s.bytes (addr - s.base) n (bytes_of_number value)) (a - s.base) 0 ≡ cond (is_within addr n a)
    (get_or (bytes_of_number value) (a - addr) 0) (get_or s.bytes (a - s.base) 0)
put_at s addr n value a small h here =
    let f = held addr n s h in
    let g = held a 1 s here in
    let l = number_long value in
    let raw = bytes_of_number value in
    let fits : n ≤ length (bytes_of_number value) = omega (arith, l) in
    let room : addr - s.base + n ≤ length s.bytes = omega (arith, f.0, f.1) in
    elim (lt_or_le a addr) [
      | inl below ↦
          let t : is_within addr n a ≡ false = grind (arith, nat_tests) in
          rw t (put_before s.bytes (bytes_of_number value) (addr - s.base) n (a - s.base) fits room (omega (arith, f.0, g.0, below)))
      | inr above ↦ elim (lt_or_le a (addr + n)) [
        | inl below ↦
            let t : is_within addr n a ≡ true = grind (arith, nat_tests) in
            rw t (put_inside s.bytes (bytes_of_number value) (addr - s.base) n (a - s.base) (a - addr) fits room
            (omega (arith, f.0, g.0, above)) (omega (arith, above, below)))
        | inr past ↦
            let t : is_within addr n a ≡ false = grind (arith, nat_tests) in
            rw t (put_after s.bytes (bytes_of_number value) (addr - s.base) n (a - s.base) fits room (omega (arith, f.0, g.0, past)))
      ]
    ]

within_holds : (s : Segment) (addr n a : ℕ) → s.base ≤ addr → addr + n ≤ s.base + length s.bytes → is_within addr n a ≡ true
    → holds a 1 s ≡ true
within_holds s addr n a low high e = grind (arith, nat_tests)

outside : (s : Segment) (addr n a : ℕ) → holds addr n s ≡ true → holds a 1 s ≡ false → is_within addr n a ≡ false
outside s addr n a h out =
    let f = held addr n s h in
    elim (is_within addr n a) as (λ b. is_within addr n a ≡ b → b ≡ false) [
      | false ↦ λ e. refl
      | true ↦ λ e. absurd (let w : holds a 1 s ≡ true = within_holds s addr n a f.0 f.1 e in cc)
    ] refl

put_span : (s : Segment) (addr n value : ℕ) → n ≤ 8 → holds addr n s ≡ true → length (put_segment s addr n value).bytes ≡ length s.bytes
put_span s addr n value small h =
    let f = held addr n s h in
    let l = number_long value in
    put_length s.bytes (bytes_of_number value) (addr - s.base) n (omega (arith, l)) (omega (arith, f.0, f.1))

abbrev span_sized : Segment → ℕ → Span
span_sized s m = record { base = s.base; size = m; r = s.r; w = s.w; x = s.x }

written_here : (regions new : List Segment) (i addr n value a : ℕ) → IsLaidOut regions → IsLaidOut new → i < length regions
    → i < length new → get_or new i nothing ≡ put_segment (get_or regions i nothing) addr n value
    → holds addr n (get_or regions i nothing) ≡ true → holds a 1 (get_or regions i nothing) ≡ true
    → holds a 1 (put_segment (get_or regions i nothing) addr n value) ≡ true → n ≤ 8
    → opening_bytes new a ≡ cond (is_within addr n a) (get_or (bytes_of_number value) (a - addr) 0) (opening_bytes regions a)
written_here regions new i addr n value a laid after below below2 same h e e2 small =
    let old = byte_of_region regions i a laid.apart below e in
    let now = byte_of_region new i a after.apart below2 (ap (λ (u : Segment). holds a 1 u) same ∙ e2) in
    let read : slice_index (get_or new i nothing).bytes (a - (get_or new i nothing).base) ≡ get_or
    (put_bytes (get_or regions i nothing).bytes (addr - (get_or regions i nothing).base) n (bytes_of_number value))
    (a - (get_or regions i nothing).base) 0 = ap (λ (u : Segment). slice_index u.bytes (a - u.base)) same in
    now ∙ read ∙ put_at (get_or regions i nothing) addr n value a small h e
    ∙ ap (λ (m : ℕ). cond (is_within addr n a) (get_or (bytes_of_number value) (a - addr) 0) m) (sym old)

-- a store into the region at a place is a store of the memory
pub written : (regions : List Segment) (i addr n value : ℕ) → IsLaidOut regions → i < length regions
    → holds addr n (get_or regions i nothing) ≡ true → n ≤ 8
    → IsWritten regions (set regions i (put_segment (get_or regions i nothing) addr n value)) addr n value
unfolding stored
written regions i addr n value laid below h small =
    let s = get_or regions i nothing in
    let t = put_segment (get_or regions i nothing) addr n value in
    let len : length (put_segment (get_or regions i nothing) addr n value).bytes ≡ length (get_or regions i nothing).bytes = put_span
    (get_or regions i nothing) addr n value small h in
    let spans : map span_of (set regions i (put_segment (get_or regions i nothing) addr n value))
    ≡ map span_of regions = map_set_same span_of regions i t nothing (ap (λ (m : ℕ). span_sized (get_or regions i nothing) m) len) in
    let after : IsLaidOut (set regions i (put_segment (get_or regions i nothing) addr n value)) = laid_along regions
    (set regions i t) spans laid in
    let count : length (set regions i (put_segment (get_or regions i nothing) addr n value)) ≡ length regions = length-set regions i t in
    let same : get_or (set regions i (put_segment (get_or regions i nothing) addr n value)) i nothing ≡ put_segment
    (get_or regions i nothing) addr n value = get_or-set_same regions i t nothing below in
    record {
      spans = spans;
      bytes = fun_ext (λ a. elim (holds a 1 (get_or regions i nothing)) as
          (λ b. holds a 1 (get_or regions i nothing) ≡ b
          → opening_bytes (set regions i (put_segment (get_or regions i nothing) addr n value)) a ≡ cond (is_within addr n a)
          (get_or (bytes_of_number value) (a - addr) 0) (opening_bytes regions a)) [
            | true ↦ λ e. written_here regions (set regions i t) i addr n value a laid after below (omega (arith, count, below)) same h e
                (ap (λ (m : ℕ). leb s.base a && leb (a + 1) (s.base + m)) len ∙ e) small
            | false ↦ λ e. rw (outside (get_or regions i nothing) addr n a h e)
                (ap (λ o. unwrap_or (option_map (λ (u : Segment). slice_index u.bytes (a - u.base)) o) 0)
                (find_skip (holds a 1) regions i t nothing (ap (λ (m : ℕ). leb s.base a && leb (a + 1) (s.base + m)) len ∙ e) e))
          ] refl);
    }

pub stored_there : (regions : List Segment) (i addr m n value : ℕ) (s t : Segment) → IsLaidOut regions → IsPlace Write addr m regions i
    → m ≡ n → n ≤ 8 → s ≡ get_or regions i s → t ≡ put_segment (get_or regions i s) addr n value
    → IsWritten regions (set regions i t) addr n value
stored_there regions i addr m n value s t laid place size small is put =
    let h : holds addr n (get_or regions i nothing) ≡ true = ap (λ (k : ℕ). holds addr k (get_or regions i nothing)) (sym size)
    ∙ place.inside nothing in
    let w = written regions i addr n value laid place.below h small in
    let f : put_segment (get_or regions i nothing) addr n value ≡ t = ap (λ (u : Segment). put_segment u addr n value)
    (any_default regions i nothing s place.below) ∙ sym put in
    subst (λ (u : Segment). IsWritten regions (set regions i u) addr n value) f w

pub permitted_there : (regions : List Segment) (i addr m n : ℕ) → IsLaidOut regions → IsPlace Write addr m regions i → m ≡ n
    → may (map span_of regions) Writable addr n ≡ true
permitted_there regions i addr m n laid place size =
    let p = may_all (map span_of regions) Writable addr m (λ j below. may_at Write addr m regions i j laid place below) in
    ap (λ (k : ℕ). may (map span_of regions) Writable addr k) (sym size) ∙ p

stored_none : (b : ℕ → ℕ) (addr value a : ℕ) → b a ≡ stored b addr 0 value a
unfolding stored
stored_none b addr value a =
    let t : is_within addr 0 a ≡ false = grind (arith, nat_tests) in
    rw t refl

pub written_none : (regions : List Segment) (addr value : ℕ) → IsWritten regions regions addr 0 value
written_none regions addr value = record { spans = refl; bytes = fun_ext (λ a. stored_none (opening_bytes regions) addr value a) }

low_byte : (b : ℕ) → b < 256 → get_or (bytes_of_number b) 0 0 ≡ b
unfolding bytes_of_number
low_byte b small = grind arith

stored_more : (b : ℕ → ℕ) (addr k value v a : ℕ) → v < 256 → v ≡ get_or (bytes_of_number value) k 0
    → stored (stored b addr k value) (addr + k) 1 v a ≡ stored b addr (k + 1) value a
unfolding stored
stored_more b addr k value v a small is =
    elim (lt_or_le a (addr + k)) [
      | inl below ↦
          let t : is_within (addr + k) 1 a ≡ false = grind (arith, nat_tests) in
          let u : is_within addr (k + 1) a ≡ is_within addr k a = grind (arith, nat_tests) in
          rw (t, u) refl
      | inr above ↦ elim (lt_or_le a (addr + k + 1)) [
        | inl below ↦
            let t : is_within (addr + k) 1 a ≡ true = grind (arith, nat_tests) in
            let u : is_within addr (k + 1) a ≡ true = grind (arith, nat_tests) in
            let d : a - (addr + k) ≡ 0 = omega arith in
            let f : a - addr ≡ k = omega arith in
            rw (t, u, d, f) (low_byte v small ∙ is)
        | inr past ↦
            let t : is_within (addr + k) 1 a ≡ false = grind (arith, nat_tests) in
            let u : is_within addr (k + 1) a ≡ is_within addr k a = grind (arith, nat_tests) in
            rw (t, u) refl
      ]
    ]

pub written_more : (first old new : List Segment) (addr k value v : ℕ) → IsWritten first old addr k value
    → IsWritten old new (addr + k) 1 v → v < 256 → v ≡ get_or (bytes_of_number value) k 0 → IsWritten first new addr (k + 1) value
written_more first old new addr k value v one two small is = record {
  spans = two.spans ∙ one.spans;
  bytes = two.bytes ∙ ap (λ (b : ℕ → ℕ). stored b (addr + k) 1 v) one.bytes
      ∙ fun_ext (λ a. stored_more (opening_bytes first) addr k value v a small is);
}

byte_small : (value k : ℕ) → get_or (bytes_of_number value) k 0 < 256
unfolding bytes_of_number
byte_small value zero = omega arith
byte_small value (suc zero) = omega arith
byte_small value (suc (suc zero)) = omega arith
byte_small value (suc (suc (suc zero))) = omega arith
byte_small value (suc (suc (suc (suc zero)))) = omega arith
byte_small value (suc (suc (suc (suc (suc zero))))) = omega arith
byte_small value (suc (suc (suc (suc (suc (suc zero)))))) = omega arith
byte_small value (suc (suc (suc (suc (suc (suc (suc zero))))))) = omega arith
byte_small value (suc (suc (suc (suc (suc (suc (suc (suc k)))))))) = omega arith

-- the byte after k of a permitted store is stored
pub step_written : (first old new : List Segment) (addr n k value v : ℕ) (done : Bool) → k < n
    → may (map span_of first) Writable addr n ≡ true → IsWritten first old addr k value → (done ≡ true → IsWritten old new (addr + k) 1 v)
    → (done ≡ false → list_any (admits Write (addr + k) 1) old ≡ false) → v ≡ get_or (bytes_of_number value) k 0
    → IsWritten first new addr (k + 1) value
step_written first old new addr n k value v true below permitted one two none is = written_more first old new addr k value v one
    (two refl) (let b = byte_small value k in omega arith) is
step_written first old new addr n k value v false below permitted one two none is =
    absurd (let h : may_byte (map span_of first) Writable (addr + k) ≡ true = may_each
    (map span_of first) Writable addr n k below permitted in
    let g : may_byte (map span_of old) Writable (addr + k) ≡ false = may_none Write (addr + k) old (none refl) in
    let e : may_byte (map span_of old) Writable (addr + k) ≡ may_byte (map span_of first) Writable (addr + k) = ap
    (λ l. may_byte l Writable (addr + k)) one.spans in
    cc)

fits_of : (spans : List Span) (a : ℕ) → may_byte spans Writable a ≡ true → a < 2 ^ 64
fits_of spans a h = elim (lt_or_le a (2 ^ 64)) [
  | inl below ↦ below
  | inr past ↦ absurd (let e = past_end spans Writable a past in cc)
]

pub step_fits : (spans : List Span) (addr n k : ℕ) → k < n → may spans Writable addr n ≡ true → addr + k < 2 ^ 64
step_fits spans addr n k below permitted = let h = may_each spans Writable addr n k below permitted in fits_of spans (addr + k) h
