-- Proofs of the laws in specs/Laws.
use Rattle.std.proofs.Common.{◌≡◌, ℕ, ◌+◌, ◌%◌, ◌⊎◌, Bool, true, false, ◌&&◌, ◌||◌, cond, ltb, leb, eqb, List}
use Rattle.std.proofs.Common.{[], ◌∷◌, ◌++◌, map, filter}
use Rattle.std.proofs.Common.{find, Option, Some, None, option_map, is_some, sym, ◌∙◌, subst, inl, inr, ⊎_elim, refl, arith}
use Rattle.std.specs.List.{AllByRecursion, list_any}
use Rattle.std.proofs.lemmas.Bool.{leb-true, lt-ltb}
use Rattle.flat_model.specs.Image.{Program, Segment, code_at, holds, word_at, word_of}
use Rattle.elf_image.specs.declared.headers.ProgramHeader.{ProgramHeader}
use Rattle.elf_image.specs.declared.refusals.ImageRefusal.{ImageRefusal}
use Rattle.elf_image.specs.declared.refusals.ImageRefusal.TheVariants.{EntryNotCode}
use Rattle.elf_image.specs.Checks.{header_rules, segment_rules}
use Rattle.elf_image.specs.Fields.{segments, e_entry}
use Rattle.elf_image.specs.Laws.{OneImage, OneRefusal, NeverBoth, AlwaysOne, EntersCode}
use Rattle.elf_image.specs.Loads.{Loads, Refuses, segment_of, image_of}
use Rattle.elf_image.specs.Rules.{first_of, verdict, enters_code, memory_end, has_code, is_executable}
use Rattle.elf_image.proofs.ImageLaws.{IsGood, sound, segment_length, unless_none, and_left, and_right}
use Rattle.elf_image.proofs.RuleLaws.{goes_on}

pub one_image : OneImage
one_image file image other loads also = loads.is_its_image ∙ sym also.is_its_image

pub one_refusal : OneRefusal
one_refusal file refusal other is also = let e : Some refusal ≡ Some other = sym is ∙ also in cc

pub never_both : NeverBoth
never_both file image refusal loads refuses = let e : None ≡ Some refusal = sym loads.no_rule_fails ∙ refuses in cc

pub always_one : AlwaysOne
always_one file =
    decided (verdict file) refl
  where
    decided : (answer : Option ImageRefusal) → verdict file ≡ answer → Loads file (image_of file) ⊎ ((refusal : ImageRefusal) × Refuses file refusal)
    decided None e = inl (record { no_rule_fails = e; is_its_image = refl })
    decided (Some refusal) e = inr (refusal, e)

pub none_before : (front back : List (Option ImageRefusal)) → first_of (front ++ back) ≡ None → first_of front ≡ None
none_before [] back e = refl
none_before (None ∷ front) back e = none_before front back e
none_before (Some refusal ∷ front) back e = e

-- where no rule fails, none of the segments' does
pub late_none : (file : List ℕ) → verdict file ≡ None → first_of (segment_rules file) ≡ None
unfolding verdict
late_none file e =
    let front = header_rules file in
    let back = segment_rules file in
    sym (goes_on front back (none_before front back e)) ∙ e

pub tells : (b : Bool) → (b ≡ true) ⊎ (b ≡ false)
tells true = inl refl
tells false = inr refl

pub or_false : (a b : Bool) → a ≡ false → (a || b) ≡ true → b ≡ true
or_false true b fails e = cc
or_false false b fails e = e

has_same : (file : List ℕ) (addr : ℕ) (h : ProgramHeader) → IsGood file h → has_code addr h ≡ true
    → ((segment_of file h).x && holds addr 4 (segment_of file h)) ≡ true
has_same file addr h good code = rw (segment_length file h good) code

not_empty : (file : List ℕ) (addr : ℕ) (h : ProgramHeader) → has_code addr h ≡ true → ltb 0 h.memory_size ≡ true
not_empty file addr h code =
    let inside = and_right (is_executable h) (leb h.address addr && leb (addr + 4) (memory_end h)) code in
    let low = leb-true h.address addr (and_left (leb h.address addr) (leb (addr + 4) (memory_end h)) inside) in
    let high = leb-true (addr + 4) (memory_end h) (and_right (leb h.address addr) (leb (addr + 4) (memory_end h)) inside) in
    lt-ltb 0 h.memory_size (omega arith)

some_either : {X : Type 0} (b : Bool) (x : X) (o : Option X) → is_some o ≡ true → is_some (cond b (Some x) o) ≡ true
some_either true x o e = refl
some_either false x o e = e

-- one more in front hides nothing
still_found : (p : Segment → Bool) (f : ProgramHeader → Segment) (b : Bool) (h : ProgramHeader) (xs : List ProgramHeader)
    → is_some (find p (map f xs)) ≡ true → is_some (find p (map f (cond b (h ∷ xs) xs))) ≡ true
still_found p f true h xs e = some_either (p (f h)) (f h) (find p (map f xs)) e
still_found p f false h xs e = e

found_in : (file : List ℕ) (addr : ℕ) (xs : List ProgramHeader) → AllByRecursion (IsGood file) xs → list_any (has_code addr) xs ≡ true
    → is_some (find (λ s. s.x && holds addr 4 s) (map (segment_of file) (filter (λ h. ltb 0 h.memory_size) xs))) ≡ true
found_in file addr [] good any = cc
found_in file addr (h ∷ xs) (good, rest) any =
    ⊎_elim
    (λ yes. rw (not_empty file addr h yes, has_same file addr h good yes) refl)
    (λ fails. still_found (λ s. s.x && holds addr 4 s) (segment_of file) (ltb 0 h.memory_size) h (filter (λ h. ltb 0 h.memory_size) xs) (found_in file addr xs rest (or_false (has_code addr h) (list_any (has_code addr) xs) fails any)))
    (tells (has_code addr h))

some_map : {X Y : Type 0} (f : X → Y) (o : Option X) → is_some o ≡ true → is_some (option_map f o) ≡ true
some_map f None e = e
some_map f (Some x) e = refl

present : (file : List ℕ) → verdict file ≡ None → is_some (word_at (image_of file) (e_entry file)) ≡ true
unfolding enters_code word_at
present file e =
    let late = late_none file e in
    let good = sound file late in
    let enters = unless_none (eqb (e_entry file % 4) 0 && list_any (has_code (e_entry file)) (segments file)) (EntryNotCode (e_entry file)) good.entry in
    let aligned = and_left (eqb (e_entry file % 4) 0) (list_any (has_code (e_entry file)) (segments file)) enters in
    let any = and_right (eqb (e_entry file % 4) 0) (list_any (has_code (e_entry file)) (segments file)) enters in
    rw aligned (some_map (word_of (e_entry file)) (code_at (image_of file).regions (e_entry file)) (found_in file (e_entry file) (segments file) good.each any))

pub entry_present : EntersCode
entry_present file image loads =
    let at : Program → Type 0 = λ p. is_some (word_at p p.entry) ≡ true in
    subst at (sym loads.is_its_image) (present file loads.no_rule_fails)
