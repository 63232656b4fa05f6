-- A word is read as what its text spells, where its parts keep the rules.
use Rattle.std.proofs.Common.{◌≡◌, ◌≤◌, ◌+◌, ◌∷◌, [], ◌++◌, ◌∙◌, ℕ, max, Bool, codes, List, Ok, refl, sym, ap}
use Rattle.std.proofs.Common.{subst, arith, cond, length, map, append_assoc, length-append, inl, inr}
use Rattle.std.specs.List.{AllZip, AllByRecursion}
use Rattle.std.proofs.lemmas.Bool.{cases_Bool}
use Rattle.std.proofs.lemmas.List.{append-nil}
use Rattle.std.proofs.lemmas.List.Sums.{sum_by-cons, sum_by_push}
use Rattle.flat_model.specs.declared.plugins.SetSpec.{SetSpec}
use Rattle.flat_model.specs.declared.plugins.Sub.{Sub}
use Rattle.flat_model.specs.Acts.{calls, calling}
use Rattle.run_script.specs.declared.heads.Head.{Head}
use Rattle.run_script.specs.declared.heads.Head.TheVariants.{Boxed, Inline, When}
use Rattle.run_script.specs.declared.items.Items.{Items}
use Rattle.run_script.specs.Bytes.{plus, comma, pieces}
use Rattle.run_script.specs.Heads.{act_of, does_call, entries_of}
use Rattle.run_script.specs.Words.{next, with_part, parts_from, spelt}
use Rattle.run_script.specs.Grammar.{Part, SpellsItem, SpellsPart, SpellsWord}
use Rattle.run_script.specs.Parts.{items_of, part_sub, entries_in, set_of, KeepsItemRules, KeepsRules}
use Rattle.run_script.proofs.Signs.{Free, Each, other, Takes, differs, each_texts, each_cons, each_joined}
use Rattle.run_script.proofs.Tables.{list_spelt, list_pieces}
use Rattle.run_script.proofs.ItemTexts.{item_each}
use Rattle.run_script.proofs.HeadTexts.{head_each}
use Rattle.run_script.proofs.PartTexts.{next_ok, HasRoom, with_one, part_reads, part_spelt}

-- a set with more parts
abbrev pub with_more : SetSpec → List Part → SetSpec
with_more set parts = record { entries = max set.entries (entries_in parts); subs = set.subs ++ map part_sub parts }

abbrev set_with : ℕ → List Sub → SetSpec
set_with entries subs = record { entries = entries; subs = subs }

made_set : (e f : ℕ) (s t : List Sub) → e ≡ f → s ≡ t → set_with e s ≡ set_with f t
made_set e f s t same_entries same_subs =
    ap (λ (n : ℕ). set_with n s) same_entries ∙ ap (λ (l : List Sub). set_with f l) same_subs

with_none : (set : SetSpec) → with_more set [] ≡ set
with_none set = made_set (max set.entries 0) set.entries (set.subs ++ []) set.subs (omega arith) (append-nil set.subs)

with_next : (set : SetSpec) (part : Part) (parts : List Part) → with_more (with_one set part) parts ≡ with_more set (part ∷ parts)
with_next set part parts =
    made_set (max (max set.entries (entries_of part.head)) (entries_in parts)) (max set.entries (entries_in (part ∷ parts)))
    ((set.subs ++ part_sub part ∷ []) ++ map part_sub parts) (set.subs ++ map part_sub (part ∷ parts))
    (omega arith) (append_assoc set.subs (part_sub part ∷ []) (map part_sub parts))

abbrev one_if : Bool → ℕ
one_if b = cond b 1 0

head_weighs : (head : Head) (items : Items) → calls (act_of head items) ≡ does_call head
head_weighs (Boxed kind) items = refl
head_weighs (Inline op entry imm) items = refl
head_weighs (When cond entry imm kind) items = refl

-- how many call, one part at a time
calling_more : (part : Part) (parts : List Part)
    → calling (map part_sub (part ∷ parts)) ≡ cond (does_call part.head) 1 0 + calling (map part_sub parts)
calling_more part parts =
    sum_by-cons (λ s. cond (calls s.act) 1 0) (part_sub part) (map part_sub parts)
    ∙ ap (λ b. cond b 1 0 + calling (map part_sub parts)) (head_weighs part.head (items_of part.items))

calling_one : (set : SetSpec) (part : Part) → calling (with_one set part).subs ≡ calling set.subs + cond (does_call part.head) 1 0
calling_one set part =
    sum_by_push (λ s. cond (calls s.act) 1 0) set.subs (part_sub part)
    ∙ ap (λ b. calling set.subs + cond b 1 0) (head_weighs part.head (items_of part.items))

length_one : (set : SetSpec) (part : Part) → length (with_one set part).subs ≡ length set.subs + 1
length_one set part = length-append set.subs (part_sub part ∷ [])

-- a set and parts that together keep the rules of numbers
record Fits (set : SetSpec) (parts : List Part) : Type 0 where
  subs : length set.subs + length parts ≤ 16
  boxes : calling set.subs + calling (map part_sub parts) ≤ 2

has_room : (set : SetSpec) (part : Part) (parts : List Part) → Fits set (part ∷ parts) → HasRoom set part.head
has_room set part parts fits = record {
  subs = omega (arith, fits.subs);
  boxes = λ is. omega (arith, fits.boxes, calling_more part parts, ap one_if is);
}

fits_next : (set : SetSpec) (part : Part) (parts : List Part) → Fits set (part ∷ parts) → Fits (with_one set part) parts
fits_next set part parts fits = record {
  subs = omega (arith, fits.subs, length_one set part);
  boxes = omega (arith, fits.boxes, calling_more part parts, calling_one set part);
}

parts_read : (column : ℕ) (set : SetSpec) (parts : List Part) (texts : List (List ℕ)) → AllZip SpellsPart parts texts
    → AllByRecursion KeepsItemRules parts → Fits set parts → parts_from column set texts ≡ Ok (with_more set parts)
parts_read column set [] [] each rules fits = ap (λ s. Ok s) (sym (with_none set))
parts_read column set [] (t ∷ ts) each rules fits = absurd each
parts_read column set (p ∷ ps) [] each rules fits = absurd each
parts_read column set (p ∷ ps) (t ∷ ts) each rules fits =
    ap (λ r. next r (λ now. parts_from (column + length t + 1) now ts))
    (part_reads column set p t each.0 rules.0 (has_room set p ps fits))
    ∙ (parts_read (column + length t + 1) (with_one set p) ps ts each.1 rules.1 (fits_next set p ps fits)
    ∙ ap (λ s. Ok s) (with_next set p ps))

next_is : (set now : SetSpec) (part : Part) (parts : List Part) → now ≡ with_more (with_one set part) parts
    → now ≡ with_more set (part ∷ parts)
next_is set now part parts e = e ∙ with_next set part parts

reads_next : (column : ℕ) (set mid now : SetSpec) (texts : List (List ℕ)) → set ≡ mid → parts_from column mid texts ≡ Ok now
    → parts_from column set texts ≡ Ok now
reads_next column set mid now texts same e = ap (λ s. parts_from column s texts) same ∙ e

-- what was read from the texts of parts
record PartsSpelt (set now : SetSpec) (texts : List (List ℕ)) : Type 0 where
  parts : List Part
  each : AllZip SpellsPart parts texts
  rules : AllByRecursion KeepsItemRules parts
  fits : Fits set parts
  value : now ≡ with_more set parts

fits_more : (set : SetSpec) (part : Part) (parts : List Part) → HasRoom set part.head → Fits (with_one set part) parts
    → Fits set (part ∷ parts)
fits_more set part parts room fits = record {
  subs = omega (arith, fits.subs, length_one set part);
  boxes = omega (arith, fits.boxes, calling_more part parts, calling_one set part);
}

calling_fits : (set : SetSpec) (part : Part) → calling set.subs ≤ 2 → HasRoom set part.head → calling (with_one set part).subs ≤ 2
calling_fits set part low room =
    elim (cases_Bool (does_call part.head)) [
      | inl is ↦ omega (arith, calling_one set part, ap one_if is, room.boxes is)
      | inr none ↦ omega (arith, calling_one set part, ap one_if none)
    ]

parts_spelt : (column : ℕ) (set now : SetSpec) (texts : List (List ℕ)) → length set.subs ≤ 16 → calling set.subs ≤ 2
    → parts_from column set texts ≡ Ok now → PartsSpelt set now texts
parts_spelt column set now [] few low e =
    let same : set ≡ now = cc in
    record {
      parts = [];
      each = tt;
      rules = tt;
      fits = record { subs = omega (arith, few); boxes = omega (arith, low) };
      value = sym same ∙ sym (with_none set);
    }
parts_spelt column set now (t ∷ ts) few low e =
    let step = next_ok (with_part column set t) (λ s. parts_from (column + length t + 1) s ts) now e in
    let one = part_spelt column set step.0 t step.1 in
    let p = one.part in
    let again : parts_from (column + length t + 1) (with_one set p) ts ≡ Ok now =
    reads_next (column + length t + 1) (with_one set p) step.0 now ts one.value step.2 in
    let low' : calling (with_one set p).subs ≤ 2 = calling_fits set p low one.room in
    let rest = parts_spelt (column + length t + 1) (with_one set p) now ts (omega (arith, length_one set p, one.room.subs)) low' again in
    record {
      parts = p ∷ rest.parts;
      each = (one.spelt, rest.each);
      rules = (one.rules, rest.rules);
      fits = fits_more set p rest.parts one.room rest.fits;
      value = next_is set now p rest.parts rest.value;
    }

-- ---- the word

abbrev no_parts : SetSpec
no_parts = record { entries = 0; subs = [] }

all_of : (parts : List Part) → with_more no_parts parts ≡ set_of parts
all_of parts = made_set (max 0 (entries_in parts)) (entries_in parts) (map part_sub parts) (map part_sub parts) (omega arith) refl

-- what plain bytes and the signs in parts pass, parts do
part_each : (p : ℕ → Bool) → Takes p → Each p (codes ",") → Each p (codes ":") → Each p (codes "=") → Each p (codes "/") → Each p (codes "-")
    → (part : Part) (text : List ℕ) → SpellsPart part text → Each p text
part_each p takes commas colons equal slashes dashes part text s =
    let items = each_texts p SpellsItem (λ x t h. item_each p takes slashes dashes equal x t h) part.items s.items s.items_spelt in
    let head = head_each p takes colons part.head s.head s.head_spelt in
    subst (λ t. Each p t) (sym s.joined) (each_joined p comma commas (s.head ∷ s.items) (each_cons p s.head s.items head items))

pub part_free : (part : Part) (text : List ℕ) → SpellsPart part text → Free plus text
part_free part text s = part_each (other plus) (differs plus refl) refl refl refl refl refl part text s

-- what plain bytes and all signs of words pass, words do
pub word_each : (p : ℕ → Bool) → Takes p → Each p (codes "+") → Each p (codes ",") → Each p (codes ":") → Each p (codes "=")
    → Each p (codes "/") → Each p (codes "-") → (parts : List Part) (text : List ℕ) → SpellsWord parts text → Each p text
word_each p takes pluses commas colons equal slashes dashes parts text s =
    let each = each_texts p SpellsPart (λ x t h. part_each p takes commas colons equal slashes dashes x t h) parts s.texts s.each in
    subst (λ t. Each p t) (sym s.joined) (each_joined p plus pluses s.texts each)

-- each word of the grammar that keeps the rules is read as its parts
pub word_reads : (parts : List Part) (text : List ℕ) → SpellsWord parts text → KeepsRules parts → spelt text ≡ Ok (set_of parts)
word_reads parts text s rules =
    let fits : Fits no_parts parts = record { subs = omega (arith, rules.subs); boxes = omega (arith, rules.boxes) } in
    ap (parts_from 1 no_parts) (list_pieces plus SpellsPart part_free parts text s)
    ∙ (parts_read 1 no_parts parts s.texts s.each rules.items fits ∙ ap (λ x. Ok x) (all_of parts))

-- what was read from a word
pub record WordSpelt (set : SetSpec) (text : List ℕ) : Type 0 where
  pub parts : List Part
  pub word : SpellsWord parts text
  pub rules : KeepsRules parts
  pub value : set ≡ set_of parts

-- a word that is read is one of the grammar, and keeps the rules
pub word_spelt : (set : SetSpec) (text : List ℕ) → spelt text ≡ Ok set → WordSpelt set text
word_spelt set text e =
    let s = parts_spelt 1 no_parts set (pieces plus text) (omega arith) (omega arith) e in
    record {
      parts = s.parts;
      word = list_spelt plus SpellsPart s.parts text s.each;
      rules = record { subs = omega (arith, s.fits.subs); boxes = omega (arith, s.fits.boxes); items = s.rules };
      value = s.value ∙ all_of s.parts;
    }
