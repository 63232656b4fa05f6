-- A text is spelt by one list of parts at most.
use Rattle.std.proofs.Common.{◌≡◌, ◌∷◌, [], ◌∙◌, ℕ, List, Option, Some, None, Result, Ok, refl, sym, ap, subst, arith}
use Rattle.std.proofs.Common.{cond}
use Rattle.std.specs.Prelude.{bytes_eq, codes, option_map}
use Rattle.std.specs.List.{AllZip}
use Rattle.run_script.specs.declared.names.Names.TheVariants.{Events, Classes}
use Rattle.run_script.specs.declared.refusals.SpecRule.{SpecRule}
use Rattle.run_script.specs.declared.heads.Head.{Head}
use Rattle.run_script.specs.declared.items.Item.{Item}
use Rattle.run_script.specs.declared.items.Item.TheVariants.{Kinds, Pc, Class, Rw, Quota, Asks, Then}
use Rattle.run_script.specs.Bytes.{before, after, pieces, minus, equals, comma, plus}
use Rattle.run_script.specs.Names.{rw_names, ask_names, named, mask}
use Rattle.run_script.specs.Numbers.{number}
use Rattle.run_script.specs.Grammar.{Part, SpellsItem, SpellsValue, SpellsHead, SpellsPart, SpellsWord, item_name}
use Rattle.run_script.proofs.Signs.{free_plain, free_cons, before_at, after_at, pieces_joined}
use Rattle.run_script.proofs.Tables.{rws_read, asks_read, mask_reads, list_pieces}
use Rattle.run_script.proofs.Digits.{number_reads, digits_plain}
use Rattle.run_script.proofs.ItemTexts.{name_free}
use Rattle.run_script.proofs.HeadTexts.{head_free, head_reads}
use Rattle.run_script.proofs.PartTexts.{comma_free}
use Rattle.run_script.proofs.WordTexts.{part_free}

-- an item by its text alone, whichever of its addresses is above

abbrev span_by : Option ℕ → Option ℕ → Option Item
span_by None hi = None
span_by (Some lo) None = None
span_by (Some lo) (Some hi) = Some (Pc (record { lo = lo; hi = hi }))

abbrev between : List ℕ → Option (List ℕ) → Option Item
between lo None = None
between lo (Some hi) = span_by (number 16 16 lo) (number 16 16 hi)

abbrev by_name : List ℕ → List ℕ → Option Item
by_name name value =
    cond (bytes_eq name (codes "kinds")) (option_map (λ bits. Kinds bits) (mask Events value))
    (cond (bytes_eq name (codes "class")) (option_map (λ bits. Class bits) (mask Classes value))
    (cond (bytes_eq name (codes "rw")) (option_map (λ rw. Rw rw) (named rw_names value))
    (cond (bytes_eq name (codes "pc")) (between (before minus value) (after minus value))
    (cond (bytes_eq name (codes "quota")) (option_map (λ n. Quota n) (number 10 20 value))
    (cond (bytes_eq name (codes "ask")) (option_map (λ ask. Asks ask) (named ask_names value))
    (option_map (λ n. Then n) (number 10 20 value)))))))

abbrev by_value : List ℕ → Option (List ℕ) → Option Item
by_value name None = None
by_value name (Some value) = by_name name value

abbrev by_text : List ℕ → Option Item
by_text text = by_value (before equals text) (after equals text)

value_tells : (item : Item) (value : List ℕ) → SpellsValue item value → by_name (item_name item) value ≡ Some item
value_tells (Kinds bits) value s = ap (option_map (λ n. Kinds n)) (mask_reads Events bits value s)
value_tells (Class bits) value s = ap (option_map (λ n. Class n)) (mask_reads Classes bits value s)
value_tells (Rw rw) value s = ap (option_map (λ n. Rw n)) (rws_read.reads rw value s)
value_tells (Quota n) value s = ap (option_map (λ m. Quota m)) (number_reads 10 20 n value (omega arith) s)
value_tells (Asks ask) value s = ap (option_map (λ a. Asks a)) (asks_read.reads ask value s)
value_tells (Then n) value s = ap (option_map (λ m. Then m)) (number_reads 10 20 n value (omega arith) s)
value_tells (Pc span) value s =
    let lo = s.0 in let hi = s.1 in
    let free = free_plain minus lo refl (digits_plain 16 16 span.lo lo s.2) in
    let front : before minus value ≡ lo = ap (before minus) s.4 ∙ before_at minus lo hi free in
    let back : after minus value ≡ Some hi = ap (after minus) s.4 ∙ after_at minus lo hi free in
    ap (λ l. between l (after minus value)) front
    ∙ (ap (λ h. between lo h) back
    ∙ (ap (λ l. span_by l (number 16 16 hi)) (number_reads 16 16 span.lo lo (omega arith) s.2)
    ∙ ap (λ h. span_by (Some span.lo) h) (number_reads 16 16 span.hi hi (omega arith) s.3)))

text_tells : (item : Item) (text : List ℕ) → SpellsItem item text → by_text text ≡ Some item
text_tells item text s =
    let value = s.0 in
    let free = name_free equals item refl in
    let front : before equals text ≡ item_name item = ap (before equals) s.2 ∙ before_at equals (item_name item) value free in
    let back : after equals text ≡ Some value = ap (after equals) s.2 ∙ after_at equals (item_name item) value free in
    ap (λ n. by_value n (after equals text)) front
    ∙ (ap (λ v. by_value (item_name item) v) back ∙ value_tells item value s.1)

abbrev some_item : Item → Option Item
some_item item = Some item

one_item : (x y : Item) → some_item x ≡ some_item y → x ≡ y
one_item x y e = cc

abbrev ok_head : Head → Result Head SpecRule
ok_head head = Ok head

one_head : (x y : Head) → ok_head x ≡ ok_head y → x ≡ y
one_head x y e = cc

head_one : (x y : Head) (text : List ℕ) → SpellsHead x text → SpellsHead y text → x ≡ y
head_one x y text s t = one_head x y (sym (head_reads x text s) ∙ head_reads y text t)

item_one : (x y : Item) (text : List ℕ) → SpellsItem x text → SpellsItem y text → x ≡ y
item_one x y text s t = one_item x y (sym (text_tells x text s) ∙ text_tells y text t)

-- where each text is that of one, texts are those of one list
each_one : {A : Type 0} (Spells : A → List ℕ → Type 0) → ((x y : A) (t : List ℕ) → Spells x t → Spells y t → x ≡ y)
    → (xs ys : List A) (texts : List (List ℕ)) → AllZip Spells xs texts → AllZip Spells ys texts → xs ≡ ys
each_one Spells one [] [] texts s t = refl
each_one Spells one [] (y ∷ ys) [] s t = absurd t
each_one Spells one [] (y ∷ ys) (u ∷ us) s t = absurd s
each_one Spells one (x ∷ xs) [] [] s t = absurd s
each_one Spells one (x ∷ xs) [] (u ∷ us) s t = absurd t
each_one Spells one (x ∷ xs) (y ∷ ys) [] s t = absurd s
each_one {A} Spells one (x ∷ xs) (y ∷ ys) (u ∷ us) s t =
    ap (λ (z : A). z ∷ xs) (one x y u s.0 t.0) ∙ ap (λ (zs : List A). y ∷ zs) (each_one Spells one xs ys us s.1 t.1)

same_first : (a b : List ℕ) (xs ys : List (List ℕ)) → a ∷ xs ≡ b ∷ ys → (a ≡ b) × (xs ≡ ys)
same_first a b xs ys e = (cc, cc)

part_pieces : (part : Part) (text : List ℕ) → (s : SpellsPart part text) → pieces comma text ≡ s.head ∷ s.items
part_pieces part text s =
    ap (pieces comma) s.joined
    ∙ pieces_joined comma s.head s.items
    (free_cons comma s.head s.items (head_free comma refl refl part.head s.head s.head_spelt) (comma_free part.items s.items s.items_spelt))

abbrev part : Head → List Item → Part
part head items = record { head = head; items = items }

part_one : (p q : Part) (text : List ℕ) → SpellsPart p text → SpellsPart q text → p ≡ q
part_one p q text s t =
    let same = same_first s.head t.head s.items t.items (sym (part_pieces p text s) ∙ part_pieces q text t) in
    let head = head_one p.head q.head t.head (subst (λ h. SpellsHead p.head h) same.0 s.head_spelt) t.head_spelt in
    let items = each_one SpellsItem item_one p.items q.items t.items
    (subst (λ i. AllZip SpellsItem p.items i) same.1 s.items_spelt) t.items_spelt in
    ap (λ h. part h p.items) head ∙ ap (λ i. part q.head i) items

pub word_one : (ps qs : List Part) (text : List ℕ) → SpellsWord ps text → SpellsWord qs text → ps ≡ qs
word_one ps qs text s t =
    let same : s.texts ≡ t.texts =
    sym (list_pieces plus SpellsPart part_free ps text s) ∙ list_pieces plus SpellsPart part_free qs text t in
    each_one SpellsPart part_one ps qs t.texts (subst (λ u. AllZip SpellsPart ps u) same s.each) t.each
