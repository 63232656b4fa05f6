-- A file loads exactly where it keeps each rule.
use Rattle.std.proofs.Common.{◌≡◌, ◌≢◌, ℕ, zero, suc, ◌+◌, ◌*◌, ◌%◌, ◌<◌, ◌≤◌, min, max, Bool, true}
use Rattle.std.proofs.Common.{false, not, ◌&&◌, ◌||◌, ltb, leb}
use Rattle.std.proofs.Common.{eqb, List, [], ◌∷◌, ◌++◌, length, find, Option, None, sym, ap, subst, ⊎_elim, refl, arith, eq-eqb}
use Rattle.std.specs.List.{AllByRecursion, All, AllPairs, Any, list_any}
use Rattle.std.proofs.lemmas.Bool.{eqb-true, eqb-false, ne_eqb, leb-true, le-leb, ltb-true, ltb-false, le-ltb}
use Rattle.std.proofs.lemmas.List.Elements.{All-from_recursion, recursion_from_All}
use Rattle.elf_image.specs.declared.format.TheConstants.{ELF_HEADER_BYTES, PROGRAM_HEADER_BYTES, PT_INTERP}
use Rattle.flat_model.specs.declared.limits.TheConstants.{SEGMENTS_MOST, SEGMENTS_END}
use Rattle.flat_model.specs.Fields.{flag}
use Rattle.elf_image.specs.declared.headers.ProgramHeader.{ProgramHeader}
use Rattle.elf_image.specs.declared.refusals.ImageRefusal.{ImageRefusal}
use Rattle.elf_image.specs.Checks.{place_rules, table_rules, header_rules, segment_rules}
use Rattle.elf_image.specs.Fields.{e_entry, e_phoff, e_flags, e_phentsize, e_phnum, headers, segments, is_interpreter}
use Rattle.elf_image.specs.Kept.{IsCode, AreDisjoint, KeepsRules}
use Rattle.elf_image.specs.Laws.{LoadsByRules}
use Rattle.elf_image.specs.Rules.{unless, unless_any, first_of, verdict, memory_end, overlaps, is_writable, is_executable, has_code}
use Rattle.elf_image.specs.Rules.{overlap_after, long_enough, has_magic, is_rv64, is_static, not_compressed, header_size, headers_inside}
use Rattle.elf_image.specs.Rules.{no_interpreter, few_segments, inside_file, sizes_in_order, in_range, code_not_writable, apart}
use Rattle.elf_image.specs.Rules.{small_enough, enters_code}
use Rattle.elf_image.proofs.ImageLaws.{IsGood, sound, unless_none, first_none, none_breaks, and_left, and_right, both, paired}
use Rattle.elf_image.proofs.LawProofs.{late_none, none_before, or_false, tells}
use Rattle.elf_image.proofs.Pairs.{Pairwise, each-weaker, pairs-at}

not_true : (b : Bool) → not b ≡ true → b ≡ false
not_true true e = sym e
not_true false e = refl

-- a rule for a table that isn't empty
where_any : (n : ℕ) (b : Bool) → (eqb n 0 || b) ≡ true → 0 < n → b ≡ true
where_any n b e some = or_false (eqb n 0) b (ne_eqb n 0 (omega arith)) e

weaken : {X : Type 0} (P Q : X → Type 0) → ((x : X) → P x → Q x) → (xs : List X) → AllByRecursion P xs → All Q xs
weaken P Q f xs all = All-from_recursion Q xs (each-weaker P Q f xs all)

disjoint : (s t : ProgramHeader) → overlaps s t ≡ false → AreDisjoint s t
disjoint s t e addr in-s in-t =
    let far = ltb-false (max s.address t.address) (min (memory_end s) (memory_end t)) e in
    let a = in-s.from in
    let b = in-s.below in
    let c = in-t.from in
    let d = in-t.below in
    omega arith

not_both : (w x : Bool) → (w && x) ≡ false → w ≡ true → x ≡ false
not_both true x e is = e
not_both false x e is = cc

has_is : (addr : ℕ) (h : ProgramHeader) → has_code addr h ≡ true → IsCode addr h
has_is addr h code =
    let inside = and_right (is_executable h) (leb h.address addr && leb (addr + 4) (memory_end h)) code in
    record {
      executable = and_left (is_executable h) (leb h.address addr && leb (addr + 4) (memory_end h)) code;
      from = leb-true h.address addr (and_left (leb h.address addr) (leb (addr + 4) (memory_end h)) inside);
      to = leb-true (addr + 4) (memory_end h) (and_right (leb h.address addr) (leb (addr + 4) (memory_end h)) inside);
    }

some_is : (addr : ℕ) (xs : List ProgramHeader) → list_any (has_code addr) xs ≡ true → Any (IsCode addr) xs
some_is addr [] e = cc
some_is addr (x ∷ xs) e =
    ⊎_elim
    (λ yes. (0, x, omega arith, refl, has_is addr x yes))
    (λ fails. further (some_is addr xs (or_false (has_code addr x) (list_any (has_code addr) xs) fails e)))
    (tells (has_code addr x))
  where
    further : Any (IsCode addr) xs → Any (IsCode addr) (x ∷ xs)
    further (k, y, below, at, is) = (suc k, y, omega arith, at, is)

pub keeps : (file : List ℕ) → verdict file ≡ None → KeepsRules file
unfolding verdict long_enough has_magic is_rv64 is_static not_compressed header_size headers_inside no_interpreter few_segments small_enough enters_code
keeps file e =
    let late = late_none file e in
    let early = none_before (header_rules file) (segment_rules file) e in
    let (r1, e1) = first_none (long_enough file) (has_magic file ∷ is_rv64 file ∷ is_static file ∷ not_compressed file ∷ place_rules file ++ table_rules file) early in
    let (r2, e2) = first_none (has_magic file) (is_rv64 file ∷ is_static file ∷ not_compressed file ∷ place_rules file ++ table_rules file) e1 in
    let (r3, e3) = first_none (is_rv64 file) (is_static file ∷ not_compressed file ∷ place_rules file ++ table_rules file) e2 in
    let (r4, e4) = first_none (is_static file) (not_compressed file ∷ place_rules file ++ table_rules file) e3 in
    let (r5, e5) = first_none (not_compressed file) (place_rules file ++ table_rules file) e4 in
    let (r6, e6) = first_none (header_size file) (headers_inside file ∷ table_rules file) e5 in
    let (r7, e7) = first_none (headers_inside file) (table_rules file) e6 in
    let (r8, e8) = first_none (no_interpreter file) (few_segments file ∷ []) e7 in
    let (r9, e9) = first_none (few_segments file) [] e8 in
    let good = sound file late in
    let b3 = unless_none _ _ r3 in
    let b4 = and_left _ _ b3 in
    let b5 = and_left _ _ b4 in
    let need = e_phoff file + PROGRAM_HEADER_BYTES * e_phnum file in
    let enters = unless_none (eqb (e_entry file % 4) 0 && list_any (has_code (e_entry file)) (segments file)) _ good.entry in
    record {
      long_enough = leb-true ELF_HEADER_BYTES (length file) (unless_none _ _ r1);
      magic = eqb-true _ _ (unless_none _ _ r2);
      class = eqb-true _ _ (and_left _ _ b5);
      little_endian = eqb-true _ _ (and_right _ _ b5);
      version = eqb-true _ _ (and_right _ _ b4);
      machine = eqb-true _ _ (and_right _ _ b3);
      static = eqb-true _ _ (unless_none _ _ r4);
      not_compressed = not_true (flag (e_flags file) 0) (unless_none _ _ r5);
      header_size = λ some. eqb-true _ _ (where_any (e_phnum file) (eqb (e_phentsize file) PROGRAM_HEADER_BYTES) (unless_none _ _ r6) some);
      headers_inside = λ some. leb-true need (length file) (where_any (e_phnum file) (leb need (length file)) (unless_none _ _ r7) some);
      no_interpreter = weaken (λ h. eqb h.kind PT_INTERP ≡ false) (λ h. h.kind ≢ PT_INTERP) (λ h p. eqb-false h.kind PT_INTERP p) (headers file) (none_breaks is_interpreter _ (headers file) r8);
      few_segments = leb-true (length (segments file)) SEGMENTS_MOST (unless_none _ _ r9);
      inside_file = weaken (IsGood file) (λ h. h.offset + h.file_size ≤ length file) (λ h p. p.inside) (segments file) good.each;
      sizes_in_order = weaken (IsGood file) (λ h. h.file_size ≤ h.memory_size) (λ h p. p.sizes) (segments file) good.each;
      in_range = weaken (IsGood file) (λ h. memory_end h ≤ SEGMENTS_END) (λ h p. p.low) (segments file) good.each;
      code_not_writable = weaken (IsGood file) (λ h. is_writable h ≡ true → is_executable h ≡ false) (λ h p. not_both (is_writable h) (is_executable h) p.code) (segments file) good.each;
      apart = pairs-at AreDisjoint (segments file) (paired (λ h. Unit {0}) (λ f s. overlaps f s ≡ false) AreDisjoint (λ f s p q none. disjoint f s none) (segments file) (each-weaker (IsGood file) (λ h. Unit {0}) (λ h p. tt) (segments file) good.each) good.pairs);
      small_enough = leb-true _ _ (unless_none _ _ good.small);
      aligned = eqb-true (e_entry file % 4) 0 (and_left (eqb (e_entry file % 4) 0) (list_any (has_code (e_entry file)) (segments file)) enters);
      enters_code = some_is (e_entry file) (segments file) (and_right (eqb (e_entry file % 4) 0) (list_any (has_code (e_entry file)) (segments file)) enters);
    }

-- The other way.

unless_holds : (holds : Bool) (refusal : ImageRefusal) → holds ≡ true → unless holds refusal ≡ None
unless_holds holds refusal e = rw e refl

nothing_found : {X : Type 0} (test : X → Bool) (xs : List X) → AllByRecursion (λ x. test x ≡ false) xs → find test xs ≡ None
nothing_found test [] all = refl
nothing_found test (x ∷ xs) (here, rest) = rw (here, nothing_found test xs rest) refl

breaks_none : (breaks : ProgramHeader → Bool) (refusal : ℕ → ImageRefusal) (P : ProgramHeader → Type 0)
    → ((h : ProgramHeader) → P h → breaks h ≡ false) → (xs : List ProgramHeader) → All P xs → unless_any breaks refusal xs ≡ None
breaks_none breaks refusal P f xs all =
    let none = nothing_found breaks xs (each-weaker P (λ h. breaks h ≡ false) f xs (recursion_from_All P xs all)) in
    rw none refl

or_true : (a b : Bool) → b ≡ true → (a || b) ≡ true
or_true true b e = refl
or_true false b e = e

where_some : (n : ℕ) (b : Bool) → (0 < n → b ≡ true) → (eqb n 0 || b) ≡ true
where_some n b f =
    ⊎_elim
    (λ yes. rw yes refl)
    (λ fails. let other = eqb-false n 0 fails in or_true (eqb n 0) b (f (pos_of n other)))
    (tells (eqb n 0))
  where
    pos_of : (n : ℕ) → n ≢ 0 → 0 < n
    pos_of n other = omega arith

pairwise-from : {X : Type 0} (R : X → X → Type 0) (xs : List X) → AllPairs R xs → Pairwise R xs
pairwise-from R [] all = tt
pairwise-from R (x ∷ xs) all = (
  recursion_from_All (R x) xs (λ k d below. all 0 (suc k) d (omega arith) (omega arith)),
  pairwise-from R xs (λ i j d order below. all (suc i) (suc j) d (omega arith) (omega arith)),
)

overlaps_not : (s t : ProgramHeader) → AreDisjoint s t → overlaps s t ≡ false
overlaps_not s t disjoint =
    ⊎_elim
    (λ yes. let at = ltb-true (max s.address t.address) (min (memory_end s) (memory_end t)) yes in absurd (disjoint (max s.address t.address) (record { from = omega arith; below = omega arith }) (record { from = omega arith; below = omega arith })))
    (λ fails. fails)
    (tells (overlaps s t))

each-push : (P : ProgramHeader → Type 0) (before : List ProgramHeader) (s : ProgramHeader) → AllByRecursion P before → P s
    → AllByRecursion P (before ++ s ∷ [])
each-push P [] s all p = (p, tt)
each-push P (x ∷ before) s (here, rest) p = (here, each-push P before s rest p)

none_overlap : (before rest : List ProgramHeader) → AllByRecursion (λ s. AllByRecursion (λ f. overlaps f s ≡ false) before) rest
    → Pairwise (λ f s. overlaps f s ≡ false) rest → overlap_after before rest ≡ None
unfolding overlap_after
none_overlap before [] crossed pairs = refl
none_overlap before (s ∷ rest) (here, front) (last, pairs) =
    let found : find (λ f. overlaps f s) before ≡ None = nothing_found (λ f. overlaps f s) before here in
    let joined = both (λ t. AllByRecursion (λ f. overlaps f t ≡ false) before) (λ t. overlaps s t ≡ false) (λ t. AllByRecursion (λ f. overlaps f t ≡ false) (before ++ s ∷ [])) (λ t p q. each-push (λ f. overlaps f t ≡ false) before s p q) rest front last in
    let later = none_overlap (before ++ s ∷ []) rest joined pairs in
    rw (found, later) refl

crossed_none : (xs : List ProgramHeader) → AllByRecursion (λ s. AllByRecursion (λ f. overlaps f s ≡ false) []) xs
crossed_none [] = tt
crossed_none (x ∷ xs) = (tt, crossed_none xs)

code_has : (addr : ℕ) (h : ProgramHeader) → IsCode addr h → has_code addr h ≡ true
code_has addr h is = rw (is.executable, le-leb h.address addr is.from, le-leb (addr + 4) (memory_end h) is.to) refl

any_from : (addr : ℕ) (xs : List ProgramHeader) → Any (IsCode addr) xs → list_any (has_code addr) xs ≡ true
any_from addr [] (k, x, below, at, is) = absurd (omega arith)
any_from addr (y ∷ ys) (zero, x, below, at, is) = rw (code_has addr y (subst (IsCode addr) (sym at) is)) refl
any_from addr (y ∷ ys) (suc k, x, below, at, is) = or_true (has_code addr y) (list_any (has_code addr) ys) (any_from addr ys (k, x, omega arith, at, is))

next : (rule : Option ImageRefusal) (rest : List (Option ImageRefusal)) → rule ≡ None → first_of rest ≡ None → first_of (rule ∷ rest) ≡ None
next rule rest e more = rw e more

kept1 : (file : List ℕ) → KeepsRules file → long_enough file ≡ None
unfolding long_enough
kept1 file k = unless_holds _ _ (le-leb ELF_HEADER_BYTES (length file) k.long_enough)

kept2 : (file : List ℕ) → KeepsRules file → has_magic file ≡ None
unfolding has_magic
kept2 file k = unless_holds _ _ (eq-eqb _ _ k.magic)

kept3 : (file : List ℕ) → KeepsRules file → is_rv64 file ≡ None
unfolding is_rv64
kept3 file k = unless_holds _ _ (rw (eq-eqb _ _ k.class, eq-eqb _ _ k.little_endian, eq-eqb _ _ k.version, eq-eqb _ _ k.machine) refl)

kept4 : (file : List ℕ) → KeepsRules file → is_static file ≡ None
unfolding is_static
kept4 file k = unless_holds _ _ (eq-eqb _ _ k.static)

kept5 : (file : List ℕ) → KeepsRules file → not_compressed file ≡ None
unfolding not_compressed
kept5 file k = unless_holds _ _ (ap not k.not_compressed)

kept6 : (file : List ℕ) → KeepsRules file → header_size file ≡ None
unfolding header_size
kept6 file k = unless_holds _ _ (where_some (e_phnum file) (eqb (e_phentsize file) PROGRAM_HEADER_BYTES) (λ some. eq-eqb _ _ (k.header_size some)))

kept7 : (file : List ℕ) → KeepsRules file → headers_inside file ≡ None
unfolding headers_inside
kept7 file k = unless_holds _ _ (where_some (e_phnum file) (leb (e_phoff file + PROGRAM_HEADER_BYTES * e_phnum file) (length file)) (λ some. le-leb _ _ (k.headers_inside some)))

kept8 : (file : List ℕ) → KeepsRules file → no_interpreter file ≡ None
unfolding no_interpreter
kept8 file k = breaks_none is_interpreter _ (λ h. h.kind ≢ PT_INTERP) (λ h p. ne_eqb h.kind PT_INTERP p) (headers file) k.no_interpreter

kept9 : (file : List ℕ) → KeepsRules file → few_segments file ≡ None
unfolding few_segments
kept9 file k = unless_holds _ _ (le-leb _ _ k.few_segments)

kept10 : (file : List ℕ) → KeepsRules file → inside_file file ≡ None
unfolding inside_file
kept10 file k = breaks_none (λ h. ltb (length file) (h.offset + h.file_size)) _ (λ h. h.offset + h.file_size ≤ length file) (λ h p. le-ltb _ _ p) (segments file) k.inside_file

kept11 : (file : List ℕ) → KeepsRules file → sizes_in_order file ≡ None
unfolding sizes_in_order
kept11 file k = breaks_none (λ h. ltb h.memory_size h.file_size) _ (λ h. h.file_size ≤ h.memory_size) (λ h p. le-ltb _ _ p) (segments file) k.sizes_in_order

kept12 : (file : List ℕ) → KeepsRules file → in_range file ≡ None
unfolding in_range
kept12 file k = breaks_none (λ h. ltb SEGMENTS_END (memory_end h)) _ (λ h. memory_end h ≤ SEGMENTS_END) (λ h p. le-ltb _ _ p) (segments file) k.in_range

not_and : (w x : Bool) → (w ≡ true → x ≡ false) → (w && x) ≡ false
not_and true x f = f refl
not_and false x f = refl

kept13 : (file : List ℕ) → KeepsRules file → code_not_writable file ≡ None
unfolding code_not_writable
kept13 file k = breaks_none (λ h. is_writable h && is_executable h) _ (λ h. is_writable h ≡ true → is_executable h ≡ false) (λ h p. not_and (is_writable h) (is_executable h) p) (segments file) k.code_not_writable

unit_each : (xs : List ProgramHeader) → AllByRecursion (λ h. Unit {0}) xs
unit_each [] = tt
unit_each (x ∷ xs) = (tt, unit_each xs)

kept14 : (file : List ℕ) → KeepsRules file → apart file ≡ None
unfolding apart
kept14 file k = none_overlap [] (segments file) (crossed_none (segments file)) (paired (λ h. Unit {0}) AreDisjoint (λ f s. overlaps f s ≡ false) (λ f s p q is. overlaps_not f s is) (segments file) (unit_each (segments file)) (pairwise-from AreDisjoint (segments file) k.apart))

kept15 : (file : List ℕ) → KeepsRules file → small_enough file ≡ None
unfolding small_enough
kept15 file k = unless_holds _ _ (le-leb _ _ k.small_enough)

kept16 : (file : List ℕ) → KeepsRules file → enters_code file ≡ None
unfolding enters_code
kept16 file k = unless_holds _ _ (rw (eq-eqb _ _ k.aligned, any_from (e_entry file) (segments file) k.enters_code) refl)

pub by_rules : (file : List ℕ) → KeepsRules file → verdict file ≡ None
unfolding verdict
by_rules file k =
    next _ _ (kept1 file k) (next _ _ (kept2 file k) (next _ _ (kept3 file k) (next _ _ (kept4 file k)
    (next _ _ (kept5 file k) (next _ _ (kept6 file k) (next _ _ (kept7 file k) (next _ _ (kept8 file k)
    (next _ _ (kept9 file k) (next _ _ (kept10 file k) (next _ _ (kept11 file k) (next _ _ (kept12 file k)
    (next _ _ (kept13 file k) (next _ _ (kept14 file k) (next _ _ (kept15 file k) (next _ _ (kept16 file k) refl)))))))))))))))

pub loads_by_rules : LoadsByRules
loads_by_rules file = ((λ loads. keeps file loads.no_rule_fails), (λ kept. record { no_rule_fails = by_rules file kept; is_its_image = refl }))
