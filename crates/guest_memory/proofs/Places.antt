-- Places among the regions, and what is permitted there.
use Rattle.std.proofs.Common.{◌≡◌, ℕ, zero, suc, ◌+◌, ◌-◌, ◌<◌, ◌≤◌, ◌^◌, ◌&&◌, ◌||◌, ltb, leb, Bool}
use Rattle.std.proofs.Common.{true, false, cond, List, [], ◌∷◌}
use Rattle.std.proofs.Common.{length, map, take, drop, get_or, Option, Some, None, MatchOption, refl, sym, ap, ◌∙◌, subst, arith, inl}
use Rattle.std.proofs.Common.{inr, ◌⊎◌, length-take-le}
use Rattle.std.specs.List.{list_any, find, position, position_or_len, AllPairs, slice_index, slice_get}
use Rattle.std.proofs.lemmas.List.Folds.{list_any_at, list_any_none, find_at}
use Rattle.std.proofs.lemmas.List.Sums.{passes_at_first, fails_before_first, position_or_len_is}
use Rattle.std.proofs.lemmas.Bool.Decides.{nat_tests}
use Rattle.std.proofs.Math.ListN.{get_or-map, get_or-eq_default}
use Rattle.flat_model.specs.Image.{Segment, AreApart, end_of, holds}
use Rattle.flat_model.specs.Permission.{Span, Permission, Readable, grants, covers, span_of, may, may_byte}
use Rattle.guest_memory.specs.declared.regions.Access.{Access}
use Rattle.guest_memory.specs.declared.regions.Access.TheVariants.{Read}
use Rattle.flat_model.specs.Access.{loaded, number_of, bytes_from}
use Rattle.guest_memory.specs.Memory.{IsLaidOut, IsPlace, IsLoad, admits, permission_of}
use Rattle.guest_memory.proofs.Numbers.{bytes_same, bytes_in, bytes_at, bytes_length, number_same}
use Rattle.flat_model.specs.World.{opening_bytes}
use Rattle.std.proofs.lemmas.List.{length-map, get_or-take}

-- a segment with nothing in it
abbrev pub nothing : Segment
nothing = record { base = 0; bytes = []; r = false; w = false; x = false }

both_left : (a b : Bool) → (a && b) ≡ true → a ≡ true
both_left true b e = refl
both_left false b e = e

both_right : (a b : Bool) → (a && b) ≡ true → b ≡ true
both_right true b e = e
both_right false b e = absurd (cc)

split : (access : Access) (addr n : ℕ) (regions : List Segment) (b : Bool)
    → b ≡ ltb (position_or_len (admits access addr n) regions) (length regions)
    → MatchOption (cond b (Some (position_or_len (admits access addr n) regions)) None) (list_any (admits access addr n) regions ≡ false)
    (λ i. IsPlace access addr n regions i)
split access addr n regions true e =
    let p = admits access addr n in
    let below : position_or_len (admits access addr n) regions < length regions = grind (arith, nat_tests) in
    record {
      below = below;
      granted = λ d. both_left _ _ (passes_at_first p regions d below);
      inside = λ d. both_right _ _ (passes_at_first p regions d below);
    }
split access addr n regions false e =
    let past : length regions ≤ position_or_len (admits access addr n) regions = grind (arith, nat_tests) in
    list_any_none (admits access addr n) regions (λ k d below. fails_before_first (admits access addr n) regions k d (omega arith))

-- a search by position finds a place, or there is none
pub place_is : (access : Access) (addr n : ℕ) (regions : List Segment) (r : Option ℕ) → r ≡ position (admits access addr n) regions
    → MatchOption r (list_any (admits access addr n) regions ≡ false) (λ i. IsPlace access addr n regions i)
place_is access addr n regions r e = rw e (split access addr n regions _ refl)

-- the numbers of a held range
pub held : (addr n : ℕ) (s : Segment) → holds addr n s ≡ true → (s.base ≤ addr) × (addr + n ≤ s.base + length s.bytes)
held addr n s h = (grind (arith, nat_tests), grind (arith, nat_tests))

pub covers_is : (addr k n : ℕ) (s : Segment) → holds addr n s ≡ true → k < n → covers (addr + k) (span_of s) ≡ true
covers_is addr k n s h below = let f = held addr n s h in grind (arith, nat_tests)

byte_granted : (spans : List Span) (p : Permission) (a i : ℕ) (d : Span) → i < length spans → grants p (get_or spans i d) ≡ true
    → covers a (get_or spans i d) ≡ true → list_any (λ s. grants p s && covers a s) spans ≡ true
byte_granted spans p a i d below g h = list_any_at (λ s. grants p s && covers a s) spans i d below (rw (g, h) refl)

-- each byte of a place is permitted
pub may_at : (access : Access) (addr n : ℕ) (regions : List Segment) (i k : ℕ) → IsLaidOut regions → IsPlace access addr n regions i
    → k < n → may_byte (map span_of regions) (permission_of access) (addr + k) ≡ true
may_at access addr n regions i k laid place below =
    let s = get_or regions i nothing in
    let at : get_or (map span_of regions) i (span_of nothing) ≡ span_of (get_or regions i nothing) = get_or-map span_of regions i nothing in
    let f = held addr n (get_or regions i nothing) (place.inside nothing) in
    let low : end_of (get_or regions i nothing) ≤ 0x4000000000 = laid.low i nothing place.below in
    let small : addr + k < 2 ^ 64 = omega (arith, f.0, f.1, low) in
    let count : length (map span_of regions) ≡ length regions = length-map regions span_of in
    let g : grants (permission_of access) (get_or (map span_of regions) i (span_of nothing)) ≡ true = rw at (place.granted nothing) in
    let c : covers (addr + k) (get_or (map span_of regions) i (span_of nothing)) ≡ true = rw at
    (covers_is addr k n (get_or regions i nothing) (place.inside nothing) below) in
    let any = byte_granted (map span_of regions) (permission_of access) (addr + k) i (span_of nothing) (rw count place.below) g c in
    let test : ltb (addr + k) (2 ^ 64) ≡ true = grind (arith, nat_tests) in
    rw (test, any) refl

-- what is left to permit behind a run of permitted bytes
pub may_run : (spans : List Span) (p : Permission) (addr m k : ℕ) → ((j : ℕ) → j < m → may_byte spans p (addr + j) ≡ true)
    → may spans p addr (m + k) ≡ may spans p (addr + m) k
unfolding may
may_run spans p addr zero k all = let e : addr + 0 ≡ addr = omega arith in let f : 0 + k ≡ k = omega arith in rw (e, f) refl
may_run spans p addr (suc m) k all =
    let here : addr + 0 ≡ addr = omega arith in
    let first : may_byte spans p addr ≡ true = rw here at (all 0 (omega arith)) in
    let e : suc m + k ≡ suc (m + k) = omega arith in
    let f : addr + suc m ≡ addr + 1 + m = omega arith in
    let rest = may_run spans p (addr + 1) m k (λ j below. let next : addr + suc j ≡ addr + 1 + j = omega arith in rw next at
    (all (suc j) (omega arith))) in
    rw (e, f, first, rest) refl

pub may_all : (spans : List Span) (p : Permission) (addr n : ℕ) → ((j : ℕ) → j < n → may_byte spans p (addr + j) ≡ true)
    → may spans p addr n ≡ true
unfolding may
may_all spans p addr n all = let e : n + 0 ≡ n = omega arith in rw e at (may_run spans p addr n 0 all)

-- a byte that is not permitted settles the access
pub may_not : (spans : List Span) (p : Permission) (addr n j : ℕ) → j < n → may_byte spans p (addr + j) ≡ false → may spans p addr n ≡ false
unfolding may
may_not spans p addr zero j below no_byte = absurd (omega arith)
may_not spans p addr (suc n) zero below no_byte =
    let e : addr + 0 ≡ addr = omega arith in
    let first : may_byte spans p addr ≡ false = rw e at no_byte in
    rw first refl
may_not spans p addr (suc n) (suc j) below no_byte =
    let e : addr + suc j ≡ addr + 1 + j = omega arith in
    let rest = may_not spans p (addr + 1) n j (omega arith) (rw e at no_byte) in
    rw rest (grind arith)

-- each byte of a permitted access
pub may_each : (spans : List Span) (p : Permission) (addr n j : ℕ) → j < n → may spans p addr n ≡ true → may_byte spans p (addr + j) ≡ true
may_each spans p addr n j below all =
    elim (may_byte spans p (addr + j)) as (λ b. may_byte spans p (addr + j) ≡ b → b ≡ true) [
      | true ↦ λ e. refl
      | false ↦ λ e. absurd (let h = may_not spans p addr n j below e in cc)
    ] refl

serves_is : (access : Access) (addr : ℕ) (s : Segment)
    → (grants (permission_of access) (span_of s) && covers addr (span_of s)) ≡ admits access addr 1 s
serves_is access addr s = ap (λ b. grants (permission_of access) (span_of s) && (leb s.base addr && b))
    (let e : ltb addr (s.base + length s.bytes) ≡ leb (addr + 1) (s.base + length s.bytes) = grind (arith, nat_tests) in e)

any_is : (access : Access) (addr : ℕ) (regions : List Segment)
    → list_any (λ s. grants (permission_of access) s && covers addr s) (map span_of regions) ≡ list_any (admits access addr 1) regions
any_is access addr [] = refl
any_is access addr (s ∷ regions) = let e = serves_is access addr s in let f = any_is access addr regions in ap
    (λ b. b || list_any (λ s. grants (permission_of access) s && covers addr s) (map span_of regions)) e
    ∙ ap (λ b. admits access addr 1 s || b) f

-- no place for one byte: it is not permitted
pub may_none : (access : Access) (addr : ℕ) (regions : List Segment) → list_any (admits access addr 1) regions ≡ false
    → may_byte (map span_of regions) (permission_of access) addr ≡ false
may_none access addr regions none =
    let e : list_any (λ s. grants (permission_of access) s && covers addr s) (map span_of regions) ≡ false = any_is access addr regions
    ∙ none in
    rw e (elim (ltb addr (2 ^ 64)) as (λ b. (b && false) ≡ false) [ true ↦ refl | false ↦ refl ])

got_at : {X : Type 0} (xs : List X) (i : ℕ) (d : X) → i < length xs → slice_get xs i ≡ Some (get_or xs i d)
got_at [] i d below = absurd (omega arith)
got_at (x ∷ xs) zero d below = refl
got_at (x ∷ xs) (suc i) d below = got_at xs i d (omega arith)

-- within the list the default is not read
pub any_default : {X : Type 0} (xs : List X) (i : ℕ) (d e : X) → i < length xs → get_or xs i d ≡ get_or xs i e
any_default [] i d e below = absurd (omega arith)
any_default (x ∷ xs) zero d e below = refl
any_default (x ∷ xs) (suc i) d e below = any_default xs i d e (omega arith)

-- at most one region has a byte
pub alone : (regions : List Segment) (i j addr : ℕ) → AllPairs AreApart regions → i < length regions
    → holds addr 1 (get_or regions i nothing) ≡ true → j < i → holds addr 1 (get_or regions j nothing) ≡ false
alone regions i j addr apart below h order =
    let f = held addr 1 (get_or regions i nothing) h in
    elim (holds addr 1 (get_or regions j nothing)) as (λ b. holds addr 1 (get_or regions j nothing) ≡ b → b ≡ false) [
      | true ↦ λ e.
          let g = held addr 1 (get_or regions j nothing) e in
          elim (apart j i nothing order below) [
            | inl a ↦ absurd (omega (arith, a, f.0, f.1, g.0, g.1))
            | inr a ↦ absurd (omega (arith, a, f.0, f.1, g.0, g.1))
          ]
      | false ↦ λ e. refl
    ] refl

-- the byte of the region that holds an address is the byte there
pub byte_of_region : (regions : List Segment) (i addr : ℕ) → AllPairs AreApart regions → i < length regions
    → holds addr 1 (get_or regions i nothing) ≡ true
    → opening_bytes regions addr ≡ slice_index (get_or regions i nothing).bytes (addr - (get_or regions i nothing).base)
byte_of_region regions i addr apart below h =
    let first : position_or_len (holds addr 1) regions ≡ i = position_or_len_is (holds addr 1) regions i nothing (omega arith)
    (λ j order. alone regions i j addr apart below h order) (λ _. h) in
    let found : find (holds addr 1) regions ≡ slice_get regions i = rw first at (find_at (holds addr 1) regions) in
    let got : slice_get regions i ≡ Some (get_or regions i nothing) = got_at regions i nothing below in
    rw (found, got) refl

pub holds_one : (addr n k : ℕ) (s : Segment) → holds addr n s ≡ true → k < n → holds (addr + k) 1 s ≡ true
holds_one addr n k s h below = let f = held addr n s h in grind (arith, nat_tests)

-- a load in one region
pub load_is : (regions : List Segment) (i addr n : ℕ) → IsLaidOut regions → IsPlace Read addr n regions i
    → IsLoad (map span_of regions) (opening_bytes regions) addr n
    (loaded (λ at. slice_index (get_or regions i nothing).bytes (at - (get_or regions i nothing).base)) addr n)
load_is regions i addr n laid place =
    record {
      permitted = may_all (map span_of regions) Readable addr n (λ j below. may_at Read addr n regions i j laid place below);
      gives = ap number_of (bytes_same (λ at. slice_index (get_or regions i nothing).bytes (at - (get_or regions i nothing).base))
          (opening_bytes regions) addr n (λ k below. sym (byte_of_region regions i (addr + k) laid.apart place.below
          (holds_one addr n k (get_or regions i nothing) (place.inside nothing) below))));
    }

pub load_found : (regions : List Segment) (i addr m n v : ℕ) (s : Segment) → IsLaidOut regions → IsPlace Read addr m regions i → m ≡ n
    → s ≡ get_or regions i s → v ≡ loaded (λ at. slice_index s.bytes (at - s.base)) addr n
    → IsLoad (map span_of regions) (opening_bytes regions) addr n v
load_found regions i addr m n v s laid place size is value =
    let e : get_or regions i nothing ≡ s = any_default regions i nothing s place.below ∙ sym is in
    let p : IsPlace Read addr n regions i = subst (λ k. IsPlace Read addr k regions i) size place in
    let l = load_is regions i addr n laid p in
    record { permitted = l.permitted; gives = value ∙ (rw e at l.gives) }

pub number_found : (s : Segment) (bs : List ℕ) (base addr n r : ℕ) → bs ≡ s.bytes → base ≡ s.base → holds addr n s ≡ true
    → r ≡ number_of (take n (drop (addr - base) bs)) → r ≡ loaded (λ at. slice_index s.bytes (at - s.base)) addr n
number_found s bs base addr n r same begins h e =
    let f = held addr n s h in
    e ∙ ap (λ b. number_of (take n (drop (addr - b) bs))) begins ∙ ap (λ l. number_of (take n (drop (addr - s.base) l))) same
    ∙ ap number_of (sym (bytes_in s.bytes s.base addr n f.0 f.1))

pub byte_found : (regions : List Segment) (i addr : ℕ) (s : Segment) → IsLaidOut regions → IsPlace Read addr 1 regions i
    → s ≡ get_or regions i s → slice_index s.bytes (addr - s.base) ≡ opening_bytes regions addr
byte_found regions i addr s laid place is =
    let e : get_or regions i nothing ≡ s = any_default regions i nothing s place.below ∙ sym is in
    rw e at (sym (byte_of_region regions i addr laid.apart place.below (place.inside nothing)))

pub held_there : (access : Access) (regions : List Segment) (i addr n : ℕ) (s : Segment) → IsPlace access addr n regions i
    → s ≡ get_or regions i s → (s.base ≤ addr) × (addr + n ≤ s.base + length s.bytes)
held_there access regions i addr n s place is = held addr n s (ap (λ (t : Segment). holds addr n t) is ∙ place.inside s)

pub inside_there : (access : Access) (regions : List Segment) (i addr n : ℕ) (s : Segment) → IsPlace access addr n regions i
    → s ≡ get_or regions i s → holds addr n s ≡ true
inside_there access regions i addr n s place is = ap (λ (t : Segment). holds addr n t) is ∙ place.inside s

pub may_first : (access : Access) (regions : List Segment) (i addr : ℕ) → IsLaidOut regions → IsPlace access addr 1 regions i
    → may_byte (map span_of regions) (permission_of access) addr ≡ true
may_first access regions i addr laid place = let e : addr + 0 ≡ addr = omega arith in rw e at
    (may_at access addr 1 regions i 0 laid place (omega arith))

pub past_end : (spans : List Span) (p : Permission) (a : ℕ) → 2 ^ 64 ≤ a → may_byte spans p a ≡ false
past_end spans p a past = let test : ltb a (2 ^ 64) ≡ false = grind (arith, nat_tests) in rw test refl

-- the bytes from addr to the end of the region that has the first are permitted
pub run_permitted : (access : Access) (regions : List Segment) (i addr run k : ℕ) (s : Segment) → IsLaidOut regions
    → IsPlace access addr 1 regions i → s ≡ get_or regions i s → addr + run ≡ end_of s → k < run
    → may_byte (map span_of regions) (permission_of access) (addr + k) ≡ true
run_permitted access regions i addr run k s laid place is ends below =
    let e : get_or regions i nothing ≡ s = any_default regions i nothing s place.below ∙ sym is in
    let f = held_there access regions i addr 1 s place is in
    let h : holds addr run s ≡ true = grind (arith, nat_tests) in
    let g : (d : Segment) → holds addr run (get_or regions i d) ≡ true = λ d. ap (λ (t : Segment). holds addr run t)
    (any_default regions i d nothing place.below ∙ e) ∙ h in
    may_at access addr run regions i k laid (record { below = place.below; granted = place.granted; inside = g }) below

pub lt_or_le : (k n : ℕ) → (k < n) ⊎ (n ≤ k)
lt_or_le k n = elim (ltb k n) as (λ b. ltb k n ≡ b → (k < n) ⊎ (n ≤ k)) [
  | true ↦ λ e. inl (let h : k < n = grind (arith, nat_tests) in h)
  | false ↦ λ e. inr (let h : n ≤ k = grind (arith, nat_tests) in h)
] refl

-- what was read byte by byte is what a load gives
pub gathered : (bytes : ℕ → ℕ) (raw : List ℕ) (addr n : ℕ) → n ≤ length raw → ((j : ℕ) → j < n → get_or raw j 0 ≡ bytes (addr + j))
    → number_of (take n raw) ≡ loaded bytes addr n
gathered bytes raw addr n fits each =
    number_same (take n raw) (bytes_from bytes addr n) (λ k. elim (lt_or_le k n) [
      | inl below ↦ get_or-take n raw k 0 below ∙ each k below ∙ sym (bytes_at bytes addr n k below)
      | inr past ↦ get_or-eq_default (take n raw) 0 (omega (arith, length-take-le n raw fits))
          ∙ sym (get_or-eq_default (bytes_from bytes addr n) 0 (omega (arith, bytes_length bytes addr n)))
    ])

pub may_nothing : (spans : List Span) (p : Permission) (addr n : ℕ) → n ≡ 0 → may spans p addr n ≡ true
unfolding may
may_nothing spans p addr n none = rw none refl

pub not_at_first : (access : Access) (regions : List Segment) (addr n : ℕ) → 0 < n → list_any (admits access addr 1) regions ≡ false
    → may (map span_of regions) (permission_of access) addr n ≡ false
not_at_first access regions addr n some none = let e : addr + 0 ≡ addr = omega arith in may_not (map span_of regions)
    (permission_of access) addr n 0 some (rw e (may_none access addr regions none))

pub run_whole : (access : Access) (regions : List Segment) (i addr run n : ℕ) (s : Segment) → IsLaidOut regions
    → IsPlace access addr 1 regions i → s ≡ get_or regions i s → addr + run ≡ end_of s → n ≤ run
    → may (map span_of regions) (permission_of access) addr n ≡ true
run_whole access regions i addr run n s laid place is ends short = may_all (map span_of regions) (permission_of access) addr n
    (λ j below. run_permitted access regions i addr run j s laid place is ends (omega arith))

pub run_more : (access : Access) (regions : List Segment) (i addr run n : ℕ) (s : Segment) → IsLaidOut regions
    → IsPlace access addr 1 regions i → s ≡ get_or regions i s → addr + run ≡ end_of s → run < n
    → may (map span_of regions) (permission_of access) addr n ≡ may (map span_of regions) (permission_of access) (addr + run) (n - run)
run_more access regions i addr run n s laid place is ends long =
    let e : run + (n - run) ≡ n = omega arith in
    rw e at (may_run (map span_of regions) (permission_of access) addr run (n - run)
    (λ j below. run_permitted access regions i addr run j s laid place is ends below))

pub some_run : (access : Access) (regions : List Segment) (i addr run : ℕ) (s : Segment) → IsPlace access addr 1 regions i
    → s ≡ get_or regions i s → addr + run ≡ end_of s → 0 < run
some_run access regions i addr run s place is ends = let f = held_there access regions i addr 1 s place is in omega (arith, f.0, f.1, ends)

-- the bytes of a region from an address on, as a slice of them
pub bytes_held : (s : Segment) (bs : List ℕ) (base addr n : ℕ) → bs ≡ s.bytes → base ≡ s.base → holds addr n s ≡ true
    → bytes_from (λ at. slice_index s.bytes (at - s.base)) addr n ≡ take n (drop (addr - base) bs)
bytes_held s bs base addr n same begins h =
    let f = held addr n s h in
    bytes_in s.bytes s.base addr n f.0 f.1 ∙ ap (λ b. take n (drop (addr - b) s.bytes)) (sym begins)
    ∙ ap (λ l. take n (drop (addr - base) l)) (sym same)

-- the region that has the first byte has all up to its end
pub run_held : (access : Access) (regions : List Segment) (i addr run n : ℕ) (s : Segment) → IsPlace access addr 1 regions i
    → s ≡ get_or regions i s → addr + run ≡ end_of s → n ≤ run → holds addr n s ≡ true
run_held access regions i addr run n s place is ends short =
    let f = held_there access regions i addr 1 s place is in
    grind (arith, nat_tests)

-- what is left to permit behind a part of a run
pub run_part : (access : Access) (regions : List Segment) (i addr run m n : ℕ) (s : Segment) → IsLaidOut regions
    → IsPlace access addr 1 regions i → s ≡ get_or regions i s → addr + run ≡ end_of s → m ≤ run → m ≤ n
    → may (map span_of regions) (permission_of access) addr n ≡ may (map span_of regions) (permission_of access) (addr + m) (n - m)
run_part access regions i addr run m n s laid place is ends short part =
    let e : m + (n - m) ≡ n = omega arith in
    rw e at (may_run (map span_of regions) (permission_of access) addr m (n - m)
    (λ j below. run_permitted access regions i addr run j s laid place is ends (omega arith)))

-- the bytes of a region are those of the memory
pub bytes_there : (access : Access) (regions : List Segment) (i addr n : ℕ) (s : Segment) → IsLaidOut regions → i < length regions
    → s ≡ get_or regions i s → holds addr n s ≡ true
    → bytes_from (λ at. slice_index s.bytes (at - s.base)) addr n ≡ bytes_from (opening_bytes regions) addr n
bytes_there access regions i addr n s laid below is h =
    let e : get_or regions i nothing ≡ s = any_default regions i nothing s below ∙ sym is in
    bytes_same (λ at. slice_index s.bytes (at - s.base)) (opening_bytes regions) addr n (λ k less.
    let here : holds (addr + k) 1 (get_or regions i nothing) ≡ true = ap (λ (t : Segment). holds (addr + k) 1 t) e
    ∙ holds_one addr n k s h less in
    rw e at (sym (byte_of_region regions i (addr + k) laid.apart below here)))
