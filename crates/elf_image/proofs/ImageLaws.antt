-- An accepted file's image keeps what every image keeps.
use Rattle.std.proofs.Common.{◌≡◌, ℕ, ◌+◌, ◌%◌, ◌<◌, ◌≤◌, ◌⊎◌, min, max, Bool, true, false, ◌&&◌, ltb}
use Rattle.std.proofs.Common.{eqb, cond, List, [], ◌∷◌, ◌++◌}
use Rattle.std.proofs.Common.{length, map, filter, find, Option, Some, None, option_map, inl, inr, ⊎_elim, refl, arith, length-append}
use Rattle.std.proofs.Common.{length-drop}
use Rattle.std.specs.List.{AllByRecursion, list_any}
use Rattle.std.proofs.lemmas.Bool.{ltb-false, ltb-true, eqb-true, cases_lt}
use Rattle.std.proofs.lemmas.List.{length-take, length-replicate}
use Rattle.std.proofs.lemmas.List.Elements.{All-from_recursion}
use Rattle.flat_model.specs.declared.limits.TheConstants.{SEGMENTS_END}
use Rattle.flat_model.specs.Image.{AreApart, IsImage}
use Rattle.elf_image.specs.declared.headers.ProgramHeader.{ProgramHeader}
use Rattle.elf_image.specs.declared.refusals.ImageRefusal.{ImageRefusal}
use Rattle.elf_image.specs.declared.refusals.ImageRefusal.TheVariants.{EntryNotCode}
use Rattle.elf_image.specs.Checks.{segment_rules}
use Rattle.elf_image.specs.Fields.{segments, e_entry}
use Rattle.elf_image.specs.Loads.{segment_of, image_of}
use Rattle.elf_image.specs.Rules.{unless, unless_any, first_of, memory_end, overlaps, is_writable, is_executable, inside_file}
use Rattle.elf_image.specs.Rules.{sizes_in_order, in_range, code_not_writable, overlap_of, overlap_after, apart, small_enough}
use Rattle.elf_image.specs.Rules.{enters_code, has_code}
use Rattle.elf_image.proofs.Pairs.{Pairwise, each-weaker, each-filter, each-map, pairwise-filter, pairwise-map, pairs-at}

-- Where there is no refusal, no rule fails.

pub first_none : (rule : Option ImageRefusal) (rest : List (Option ImageRefusal)) → first_of (rule ∷ rest) ≡ None
    → (rule ≡ None) × (first_of rest ≡ None)
first_none None rest e = (refl, e)
first_none (Some refusal) rest e = cc

map_none : {X Y : Type 0} (f : X → Y) (o : Option X) → option_map f o ≡ None → o ≡ None
map_none f None e = refl
map_none f (Some x) e = cc

cond_none : {X : Type 0} (b : Bool) (x : X) (o : Option X) → cond b (Some x) o ≡ None → (b ≡ false) × (o ≡ None)
cond_none true x o e = cc
cond_none false x o e = (refl, e)

pub unless_none : (holds : Bool) (refusal : ImageRefusal) → unless holds refusal ≡ None → holds ≡ true
unless_none true refusal e = refl
unless_none false refusal e = cc

pub none_found : {X : Type 0} (test : X → Bool) (xs : List X) → find test xs ≡ None → AllByRecursion (λ x. test x ≡ false) xs
none_found test [] e = tt
none_found test (x ∷ xs) e =
    let (here, rest) = cond_none (test x) x (find test xs) e in
    (here, none_found test xs rest)

pub none_breaks : (breaks : ProgramHeader → Bool) (refusal : ℕ → ImageRefusal) (xs : List ProgramHeader)
    → unless_any breaks refusal xs ≡ None → AllByRecursion (λ h. breaks h ≡ false) xs
none_breaks breaks refusal xs e = none_found breaks xs (map_none (λ h. refusal h.index) (find breaks xs) e)

pub and_left : (a b : Bool) → (a && b) ≡ true → a ≡ true
and_left true b e = refl
and_left false b e = e

pub and_right : (a b : Bool) → (a && b) ≡ true → b ≡ true
and_right true b e = e
and_right false b e = cc

-- Segments that lie apart.

split_each : (before : List ProgramHeader) (s : ProgramHeader) (P : ProgramHeader → Type 0) → AllByRecursion P (before ++ s ∷ [])
    → AllByRecursion P before × P s
split_each [] s P (here, rest) = (tt, here)
split_each (x ∷ before) s P (here, rest) =
    let (front, last) = split_each before s P rest in
    ((here, front), last)

all_apart : (before rest : List ProgramHeader) → overlap_after before rest ≡ None
    → AllByRecursion (λ s. AllByRecursion (λ f. overlaps f s ≡ false) before) rest × Pairwise (λ f s. overlaps f s ≡ false) rest
unfolding overlap_after
all_apart before [] e = (tt, tt)
all_apart before (s ∷ rest) e =
    let (now, more) = first_none (overlap_of before s) (overlap_after (before ++ s ∷ []) rest ∷ []) e in
    let (later, end) = first_none (overlap_after (before ++ s ∷ []) rest) [] more in
    let here = none_found (λ f. overlaps f s) before (map_none _ (find (λ f. overlaps f s) before) now) in
    let (crossed, pairs) = all_apart (before ++ s ∷ []) rest later in
    let front = each-weaker (λ t. AllByRecursion (λ f. overlaps f t ≡ false) (before ++ s ∷ [])) (λ t. AllByRecursion (λ f. overlaps f t ≡ false) before) (λ t all. (split_each before s (λ f. overlaps f t ≡ false) all).0) rest crossed in
    let last = each-weaker (λ t. AllByRecursion (λ f. overlaps f t ≡ false) (before ++ s ∷ [])) (λ t. overlaps s t ≡ false) (λ t all. (split_each before s (λ f. overlaps f t ≡ false) all).1) rest crossed in
    ((here, front), (last, pairs))

-- What the rules say of the segments.

-- what each segment keeps
pub record IsGood (file : List ℕ) (h : ProgramHeader) : Type 0 where
  pub inside : h.offset + h.file_size ≤ length file
  pub sizes : h.file_size ≤ h.memory_size
  pub low : memory_end h ≤ SEGMENTS_END
  pub code : (is_writable h && is_executable h) ≡ false

pub record IsSound (file : List ℕ) : Type 0 where
  pub each : AllByRecursion (IsGood file) (segments file)
  pub pairs : Pairwise (λ f s. overlaps f s ≡ false) (segments file)
  pub small : small_enough file ≡ None
  pub entry : enters_code file ≡ None

pub both : {X : Type 0} (P Q R : X → Type 0) → ((x : X) → P x → Q x → R x) → (xs : List X) → AllByRecursion P xs → AllByRecursion Q xs
    → AllByRecursion R xs
both P Q R f [] p q = tt
both P Q R f (x ∷ xs) (p, ps) (q, qs) = (f x p q, both P Q R f xs ps qs)

pub sound : (file : List ℕ) → first_of (segment_rules file) ≡ None → IsSound file
unfolding inside_file sizes_in_order in_range code_not_writable apart
sound file e =
    let (inside, e1) = first_none (inside_file file) _ e in
    let (sizes, e2) = first_none (sizes_in_order file) _ e1 in
    let (low, e3) = first_none (in_range file) _ e2 in
    let (code, e4) = first_none (code_not_writable file) _ e3 in
    let (pairs, e5) = first_none (apart file) _ e4 in
    let (small, e6) = first_none (small_enough file) _ e5 in
    let (entry, e7) = first_none (enters_code file) _ e6 in
    let xs = segments file in
    let a = none_breaks (λ h. ltb (length file) (h.offset + h.file_size)) _ xs inside in
    let b = none_breaks (λ h. ltb h.memory_size h.file_size) _ xs sizes in
    let c = none_breaks (λ h. ltb SEGMENTS_END (memory_end h)) _ xs low in
    let d = none_breaks (λ h. is_writable h && is_executable h) _ xs code in
    let ab = both (λ h. ltb (length file) (h.offset + h.file_size) ≡ false) (λ h. ltb h.memory_size h.file_size ≡ false) (λ h. (h.offset + h.file_size ≤ length file) × (h.file_size ≤ h.memory_size)) (λ h p q. (ltb-false (length file) (h.offset + h.file_size) p, ltb-false h.memory_size h.file_size q)) xs a b in
    let cd = both (λ h. ltb SEGMENTS_END (memory_end h) ≡ false) (λ h. (is_writable h && is_executable h) ≡ false) (λ h. (memory_end h ≤ SEGMENTS_END) × ((is_writable h && is_executable h) ≡ false)) (λ h p q. (ltb-false SEGMENTS_END (memory_end h) p, q)) xs c d in
    let each = both (λ h. (h.offset + h.file_size ≤ length file) × (h.file_size ≤ h.memory_size)) (λ h. (memory_end h ≤ SEGMENTS_END) × ((is_writable h && is_executable h) ≡ false)) (IsGood file) (λ h p q. record { inside = p.0; sizes = p.1; low = q.0; code = q.1 }) xs ab cd in
    record { each = each; pairs = (all_apart [] xs pairs).1; small = small; entry = entry }

-- The image.

pub segment_length : (file : List ℕ) (h : ProgramHeader) → IsGood file h → length (segment_of file h).bytes ≡ h.memory_size
segment_length file h good =
    let inside = good.inside in
    let sizes = good.sizes in
    simp (length-append, length-take, length-drop, length-replicate) (omega arith)

-- the headers that pass a test do
passes : {X : Type 0} (test : X → Bool) (xs : List X) → AllByRecursion (λ x. test x ≡ true) (filter test xs)
passes test [] = tt
passes test (x ∷ xs) =
    ⊎_elim (λ yes. rw yes (yes, passes test xs)) (λ fails. rw fails (passes test xs)) (tells (test x))
  where
    tells : (b : Bool) → (b ≡ true) ⊎ (b ≡ false)
    tells true = inl refl
    tells false = inr refl

-- two segments that aren't empty and share no address lie one behind the other
segments_apart : (file : List ℕ) (f s : ProgramHeader) → IsGood file f → IsGood file s → 0 < f.memory_size → 0 < s.memory_size
    → overlaps f s ≡ false → AreApart (segment_of file f) (segment_of file s)
segments_apart file f s good-f good-s some-f some-s none =
    let lf = segment_length file f good-f in
    let ls = segment_length file s good-s in
    let far = ltb-false (max f.address s.address) (min (memory_end f) (memory_end s)) none in
    ⊎_elim
    (λ before. inl (omega (arith, lf, ls, far)))
    (λ after. inr (omega (arith, lf, ls, far)))
    (cases_lt f.address s.address)

pub paired : {X : Type 0} (P : X → Type 0) (R S : X → X → Type 0) → ((x y : X) → P x → P y → R x y → S x y) → (xs : List X)
    → AllByRecursion P xs → Pairwise R xs → Pairwise S xs
paired P R S f [] ps rs = tt
paired P R S f (x ∷ xs) (p, ps) (r, rs) = (both P (R x) (S x) (λ y q. f x y p q) xs ps r, paired P R S f xs ps rs)

pub image_sound : (file : List ℕ) → IsSound file → IsImage (image_of file)
unfolding enters_code
image_sound file sound =
    let xs = filter (λ h. ltb 0 h.memory_size) (segments file) in
    let good = each-filter (IsGood file) (λ h. ltb 0 h.memory_size) (segments file) sound.each in
    let filled = both (IsGood file) (λ h. ltb 0 h.memory_size ≡ true) (λ h. IsGood file h × (0 < h.memory_size)) (λ h p q. (p, ltb-true 0 h.memory_size q)) xs good (passes (λ h. ltb 0 h.memory_size) (segments file)) in
    let pairs = pairwise-filter (λ f s. overlaps f s ≡ false) (λ h. ltb 0 h.memory_size) (segments file) sound.pairs in
    let laid = paired (λ h. IsGood file h × (0 < h.memory_size)) (λ f s. overlaps f s ≡ false) (λ f s. AreApart (segment_of file f) (segment_of file s)) (λ f s p q none. segments_apart file f s p.0 q.0 p.1 q.1 none) xs filled pairs in
    let low = each-map (λ s. s.base + length s.bytes ≤ SEGMENTS_END) (segment_of file) xs (each-weaker (IsGood file) (λ h. h.address + length (segment_of file h).bytes ≤ SEGMENTS_END) (λ h p. let l = segment_length file h p in let e = p.low in omega arith) xs good) in
    let code = each-map (λ s. (s.w && s.x) ≡ false) (segment_of file) xs (each-weaker (IsGood file) (λ h. (is_writable h && is_executable h) ≡ false) (λ h p. p.code) xs good) in
    let enters = unless_none (eqb (e_entry file % 4) 0 && list_any (has_code (e_entry file)) (segments file)) (EntryNotCode (e_entry file)) sound.entry in
    record {
      apart = pairs-at AreApart (map (segment_of file) xs) (pairwise-map AreApart (segment_of file) xs laid);
      low = All-from_recursion (λ s. s.base + length s.bytes ≤ SEGMENTS_END) (map (segment_of file) xs) low;
      no_writable_code = All-from_recursion (λ s. (s.w && s.x) ≡ false) (map (segment_of file) xs) code;
      aligned = eqb-true (e_entry file % 4) 0 (and_left (eqb (e_entry file % 4) 0) (list_any (has_code (e_entry file)) (segments file)) enters);
    }
