-- A part is read as what its text spells, where its items keep their rules.
use Rattle.std.proofs.Common.{◌≡◌, ◌<◌, ◌+◌, ◌&&◌, ◌||◌, ◌∷◌, [], ◌++◌, ◌∙◌, ℕ, true, false}
use Rattle.std.proofs.Common.{List, Option, Some, None, Result, Ok, Err, refl, sym, ap, subst, arith, cond, length, map, nat_le, inl, inr}
use Rattle.std.specs.Prelude.{bytes_eq, is_some}
use Rattle.std.specs.List.{AllZip, AllByRecursion, IsDistinct, join_with_byte}
use Rattle.std.specs.Option.{option_or}
use Rattle.std.proofs.lemmas.Bool.{or_from, or_parts, and_cases, and_left, and_right, cond-true, cond-false, lt-leb, leb-false, false≢true}
use Rattle.std.proofs.lemmas.Bool.{cases_Bool}
use Rattle.std.proofs.lemmas.List.Splits.{join_with_byte-slice_split}
use Rattle.flat_model.specs.declared.plugins.SetSpec.{SetSpec}
use Rattle.flat_model.specs.Acts.{calls, calling}
use Rattle.run_script.specs.declared.refusals.SpecRule.{SpecRule}
use Rattle.run_script.specs.declared.refusals.SpecRule.TheVariants.{Pair}
use Rattle.run_script.specs.declared.refusals.SpecRefusal.{SpecRefusal}
use Rattle.run_script.specs.declared.heads.Head.{Head}
use Rattle.run_script.specs.declared.items.Item.{Item}
use Rattle.run_script.specs.declared.items.Item.TheVariants.{Kinds, Pc, Class, Rw, Quota, Asks, Then}
use Rattle.run_script.specs.declared.items.Items.{Items}
use Rattle.run_script.specs.Bytes.{before, after, pieces, comma}
use Rattle.run_script.specs.Items.{item_of, with_item, has, add, goes_with, is_paired, no_items}
use Rattle.run_script.specs.Heads.{calls_a_box, does_call}
use Rattle.run_script.specs.Words.{next, placed, with_text, items_from, items_after, with_sub, with_head, with_room, with_part}
use Rattle.run_script.specs.Grammar.{Part, SpellsItem, SpellsHead, SpellsPart, item_name}
use Rattle.run_script.specs.Parts.{kinds_in, pc_in, classes_in, rw_in, quota_in, ask_in, stored_in, given, items_of}
use Rattle.run_script.specs.Parts.{IsInRange, KeepsItemRules}
use Rattle.run_script.proofs.Signs.{Free, AllFree, free_texts, pieces_joined, before_at, after_at, before_whole, after_none, before_none}
use Rattle.run_script.proofs.Signs.{cut_joins}
use Rattle.run_script.proofs.Tables.{chosen, pieces_some}
use Rattle.run_script.proofs.ItemTexts.{item_spelt, item_reads, item_free}
use Rattle.run_script.proofs.HeadTexts.{head_spelt, head_reads, head_free, head_calls}

-- the value of a step that did not fail
pub next_ok : {A B E : Type 0} (r : Result A E) (f : A → Result B E) (y : B) → next r f ≡ Ok y → (x : A) × (r ≡ Ok x) × (f x ≡ Ok y)
next_ok (Ok x) f y e = (x, refl, e)
next_ok (Err why) f y e = absurd cc

placed_ok : {A : Type 0} (column : ℕ) (r : Result A SpecRule) (x : A) → placed column r ≡ Ok x → r ≡ Ok x
placed_ok column (Ok y) x e = cc
placed_ok column (Err why) x e = absurd cc

-- an item that may stand behind a head
abbrev IsPlaced : Head → Item → Type 0
IsPlaced head x = goes_with head x ≡ true

added : (head : Head) (s now : Items) (x : Item) → with_item head s x ≡ Ok now
    → (has s x ≡ false) × (add s x ≡ now) × IsPlaced head x
added head s now x e =
    elim (chosen (has s x) _ _ _ e) [
      | inl stood ↦ absurd cc
      | inr fresh ↦ elim (chosen (goes_with head x) _ _ _ fresh.1) [
        | inl placed' ↦ (fresh.0, cc, placed'.0)
        | inr other ↦ absurd cc
      ]
    ]

adds : (head : Head) (s : Items) (x : Item) → has s x ≡ false → IsPlaced head x → with_item head s x ≡ Ok (add s x)
adds head s x fresh placed' = cond-false _ _ _ fresh ∙ cond-true _ _ _ placed'

has_added : (s : Items) (x y : Item) → has (add s x) y ≡ (bytes_eq (item_name x) (item_name y) || has s y)
has_added s (Kinds a) (Kinds b) = refl
has_added s (Pc a) (Pc b) = refl
has_added s (Class a) (Class b) = refl
has_added s (Rw a) (Rw b) = refl
has_added s (Quota a) (Quota b) = refl
has_added s (Asks a) (Asks b) = refl
has_added s (Then a) (Then b) = refl
has_added s x y = refl

abbrev Fresh : Items → List Item → Type 0
Fresh s xs = AllByRecursion (λ x. has s x ≡ false) xs

abbrev Other : Item → List Item → Type 0
Other x xs = AllByRecursion (λ n. bytes_eq (item_name x) n ≡ false) (map item_name xs)

fresh_added : (s : Items) (x : Item) (xs : List Item) → Other x xs → Fresh s xs → Fresh (add s x) xs
fresh_added s x [] other fresh = tt
fresh_added s x (y ∷ ys) other fresh = (has_added s x y ∙ or_from _ _ other.0 fresh.0, fresh_added s x ys other.1 fresh.1)

added_fresh : (s : Items) (x : Item) (xs : List Item) → Fresh (add s x) xs → Other x xs × Fresh s xs
added_fresh s x [] fresh = (tt, tt)
added_fresh s x (y ∷ ys) fresh =
    let here = or_parts (bytes_eq (item_name x) (item_name y)) (has s y) (sym (has_added s x y) ∙ fresh.0) in
    let rest = added_fresh s x ys fresh.1 in
    ((here.0, rest.0), (here.1, rest.1))

-- the items with more, each under its name
abbrev pub merged : Items → List Item → Items
merged s xs = record {
  kinds = option_or s.kinds (given kinds_in xs);
  pc = option_or s.pc (given pc_in xs);
  classes = option_or s.classes (given classes_in xs);
  rw = option_or s.rw (given rw_in xs);
  quota = option_or s.quota (given quota_in xs);
  ask = option_or s.ask (given ask_in xs);
  then_store = option_or s.then_store (given stored_in xs);
}

or_none : {A : Type 0} (o : Option A) → option_or o None ≡ o
or_none None = refl
or_none (Some x) = refl

none_or : {A : Type 0} (o : Option A) (x : A) → is_some o ≡ false → Some x ≡ option_or o (Some x)
none_or None x none = refl
none_or (Some y) x none = absurd (false≢true (sym none))

merged_none : (s : Items) → merged s [] ≡ s
merged_none s =
    ap (λ k. record (merged s []) { kinds = k }) (or_none s.kinds)
    ∙ (ap (λ p. record (merged s []) { kinds = s.kinds; pc = p }) (or_none s.pc)
    ∙ (ap (λ c. record (merged s []) { kinds = s.kinds; pc = s.pc; classes = c }) (or_none s.classes)
    ∙ (ap (λ r. record (merged s []) { kinds = s.kinds; pc = s.pc; classes = s.classes; rw = r }) (or_none s.rw)
    ∙ (ap (λ q. record s { quota = q; ask = option_or s.ask None; then_store = option_or s.then_store None }) (or_none s.quota)
    ∙ (ap (λ a. record s { ask = a; then_store = option_or s.then_store None }) (or_none s.ask)
    ∙ ap (λ t. record s { then_store = t }) (or_none s.then_store))))))

merged_more : (s : Items) (x : Item) (xs : List Item) → has s x ≡ false → merged (add s x) xs ≡ merged s (x ∷ xs)
merged_more s (Kinds bits) xs fresh = ap (λ k. record (merged s xs) { kinds = k }) (none_or s.kinds bits fresh)
merged_more s (Pc span) xs fresh = ap (λ p. record (merged s xs) { pc = p }) (none_or s.pc span fresh)
merged_more s (Class bits) xs fresh = ap (λ c. record (merged s xs) { classes = c }) (none_or s.classes bits fresh)
merged_more s (Rw rw) xs fresh = ap (λ r. record (merged s xs) { rw = r }) (none_or s.rw rw fresh)
merged_more s (Quota n) xs fresh = ap (λ q. record (merged s xs) { quota = q }) (none_or s.quota n fresh)
merged_more s (Asks ask) xs fresh = ap (λ a. record (merged s xs) { ask = a }) (none_or s.ask ask fresh)
merged_more s (Then n) xs fresh = ap (λ t. record (merged s xs) { then_store = t }) (none_or s.then_store n fresh)

text_reads : (head : Head) (s : Items) (x : Item) (text : List ℕ) → SpellsItem x text → IsInRange x → has s x ≡ false → IsPlaced head x
    → with_text head s text ≡ Ok (add s x)
unfolding with_text
text_reads head s x text spelt ordered fresh placed =
    ap (λ r. next r (with_item head s)) (item_reads x text spelt ordered) ∙ adds head s x fresh placed

-- items that keep the rules are read
items_read : (head : Head) (column : ℕ) (s : Items) (xs : List Item) (texts : List (List ℕ)) → AllZip SpellsItem xs texts
    → AllByRecursion IsInRange xs → IsDistinct bytes_eq (map item_name xs) → AllByRecursion (IsPlaced head) xs → Fresh s xs
    → items_from head column s texts ≡ Ok (merged s xs)
unfolding IsDistinct
items_read head column s [] [] each ordered distinct placed fresh = ap (λ r. Ok r) (sym (merged_none s))
items_read head column s [] (t ∷ ts) each ordered distinct placed fresh = absurd each
items_read head column s (x ∷ xs) [] each ordered distinct placed fresh = absurd each
items_read head column s (x ∷ xs) (t ∷ ts) each ordered distinct placed' fresh =
    ap (λ r. next (placed column r) (λ now. items_from head (column + length t + 1) now ts))
    (text_reads head s x t each.0 ordered.0 fresh.0 placed'.0)
    ∙ (items_read head (column + length t + 1) (add s x) xs ts each.1 ordered.1 distinct.1 placed'.1 (fresh_added s x xs distinct.0 fresh.1)
    ∙ ap (λ r. Ok r) (merged_more s x xs fresh.0))

-- what was read from texts of items
record ItemsSpelt (head : Head) (s now : Items) (texts : List (List ℕ)) : Type 0 where
  items : List Item
  each : AllZip SpellsItem items texts
  range : AllByRecursion IsInRange items
  repeat : IsDistinct bytes_eq (map item_name items)
  place : AllByRecursion (IsPlaced head) items
  fresh : Fresh s items
  value : now ≡ merged s items

text_spelt : (head : Head) (s now : Items) (text : List ℕ) → with_text head s text ≡ Ok now
    → (x : Item) × SpellsItem x text × IsInRange x × (has s x ≡ false) × (add s x ≡ now) × IsPlaced head x
unfolding with_text
text_spelt head s now text e =
    let step = next_ok (item_of text) (with_item head s) now e in
    let spelt = item_spelt text step.0 step.1 in
    let a = added head s now step.0 step.2 in
    (step.0, spelt.0, spelt.1, a.0, a.1, a.2)

items_spelt : (head : Head) (column : ℕ) (s now : Items) (texts : List (List ℕ)) → items_from head column s texts ≡ Ok now
    → ItemsSpelt head s now texts
unfolding IsDistinct
items_spelt head column s now [] e =
    let same : s ≡ now = cc in
    record { items = []; each = tt; range = tt; repeat = tt; place = tt; fresh = tt; value = sym same ∙ sym (merged_none s) }
items_spelt head column s now (t ∷ ts) e =
    let step = next_ok (placed column (with_text head s t)) (λ x. items_from head (column + length t + 1) x ts) now e in
    let one = text_spelt head s step.0 t (placed_ok column (with_text head s t) step.0 step.1) in
    let x = one.0 in
    let rest = items_spelt head (column + length t + 1) step.0 now ts step.2 in
    let after' : Fresh (add s x) rest.items = subst (λ i. Fresh i rest.items) (sym one.4) rest.fresh in
    let both = added_fresh s x rest.items after' in
    record {
      items = x ∷ rest.items;
      each = (one.1, rest.each);
      range = (one.2, rest.range);
      repeat = (both.0, rest.repeat);
      place = (one.5, rest.place);
      fresh = (one.3, both.1);
      value = rest.value ∙ (ap (λ i. merged i rest.items) (sym one.4) ∙ merged_more s x rest.items one.3);
    }

none_has : (x : Item) → has no_items x ≡ false
none_has (Kinds bits) = refl
none_has (Pc span) = refl
none_has (Class bits) = refl
none_has (Rw rw) = refl
none_has (Quota n) = refl
none_has (Asks ask) = refl
none_has (Then n) = refl

all_fresh : (xs : List Item) → Fresh no_items xs
all_fresh [] = tt
all_fresh (x ∷ xs) = (none_has x, all_fresh xs)

-- ---- the part

-- the room that a set has for a part
pub record HasRoom (set : SetSpec) (head : Head) : Type 0 where
  pub subs : length set.subs < 16
  pub boxes : does_call head ≡ true → calling set.subs < 2

boxes_fit : (set : SetSpec) (head : Head) (text : List ℕ) → SpellsHead head text → HasRoom set head
    → (calls_a_box text && nat_le 2 (calling set.subs)) ≡ false
boxes_fit set head text spelt room =
    elim (cases_Bool (does_call head)) [
      | inl calls ↦ and_right _ _ (lt-leb 2 (calling set.subs) (room.boxes calls))
      | inr none ↦ and_left _ _ (head_calls head text spelt ∙ none)
    ]

room_reads : (set : SetSpec) (head : Head) (text : List ℕ) → SpellsHead head text → HasRoom set head → with_room set text ≡ Ok head
unfolding with_room
room_reads set head text spelt room =
    cond-false _ _ _ (lt-leb 16 (length set.subs) room.subs)
    ∙ (cond-false _ _ _ (boxes_fit set head text spelt room) ∙ head_reads head text spelt)

room_spelt : (set : SetSpec) (head : Head) (text : List ℕ) → with_room set text ≡ Ok head → SpellsHead head text × HasRoom set head
unfolding with_room
room_spelt set head text e =
    elim (chosen (nat_le 16 (length set.subs)) _ _ _ e) [
      | inl full ↦ absurd cc
      | inr few ↦ elim (chosen (calls_a_box text && nat_le 2 (calling set.subs)) _ _ _ few.1) [
        | inl full ↦ absurd cc
        | inr fits ↦
            let spelt = head_spelt text head fits.1 in (
              spelt,
              record {
                subs = leb-false 16 (length set.subs) few.0;
                boxes = λ calls. elim (and_cases (calls_a_box text) (nat_le 2 (calling set.subs)) fits.0) [
                  | inl none ↦ absurd (false≢true (sym none ∙ (head_calls head text spelt ∙ calls)))
                  | inr low ↦ leb-false 2 (calling set.subs) low
                ];
              },
            )
      ]
    ]

-- a set with one more part
abbrev pub with_one : SetSpec → Part → SetSpec
with_one set part = with_sub set part.head (items_of part.items)

pub comma_free : (items : List Item) (texts : List (List ℕ)) → AllZip SpellsItem items texts → AllFree comma texts
comma_free items texts each = free_texts comma SpellsItem (λ x t s. item_free comma refl refl refl refl x t s) items texts each

rest_reads : (head : Head) (column : ℕ) (items : List Item) (h : List ℕ) (texts : List (List ℕ)) → Free comma h
    → AllZip SpellsItem items texts
    → KeepsItemRules (record { head = head; items = items })
    → items_after head column (after comma (join_with_byte comma (h ∷ texts))) ≡ Ok (items_of items)
rest_reads head column [] h [] free each rules = ap (items_after head column) (after_none comma h free)
rest_reads head column [] h (t ∷ ts) free each rules = absurd each
rest_reads head column (x ∷ xs) h [] free each rules = absurd each
rest_reads head column (x ∷ xs) h (t ∷ ts) free each rules =
    ap (items_after head column) (after_at comma h (join_with_byte comma (t ∷ ts)) free)
    ∙ (ap (items_from head column no_items) (pieces_joined comma t ts (comma_free (x ∷ xs) (t ∷ ts) each))
    ∙ items_read head column no_items (x ∷ xs) (t ∷ ts) each rules.range rules.repeat rules.place (all_fresh (x ∷ xs)))

first_reads : (h : List ℕ) (texts : List (List ℕ)) → Free comma h → before comma (join_with_byte comma (h ∷ texts)) ≡ h
first_reads h [] free = before_whole comma h free
first_reads h (t ∷ ts) free = before_at comma h (join_with_byte comma (t ∷ ts)) free

-- a set with the part of a head and items, which are paired
abbrev with_items : ℕ → SetSpec → Head → Items → Result SetSpec SpecRefusal
with_items column set head items =
    cond (is_paired items) (Ok (with_sub set head items)) (Err (record { column = column; rule = Pair }))

-- a part that keeps its rules is read
pub part_reads : (column : ℕ) (set : SetSpec) (part : Part) (text : List ℕ) → SpellsPart part text → KeepsItemRules part
    → HasRoom set part.head
    → with_part column set text ≡ Ok (with_one set part)
unfolding with_part
part_reads column set part text s rules room =
    let h = s.head in
    let free = head_free comma refl refl part.head h s.head_spelt in
    let front : before comma text ≡ h = ap (before comma) s.joined ∙ first_reads h s.items free in
    let items : items_after part.head (column + length h + 1) (after comma text) ≡ Ok (items_of part.items) =
    ap (λ t. items_after part.head (column + length h + 1) (after comma t)) s.joined
    ∙ rest_reads part.head (column + length h + 1) part.items h s.items free s.items_spelt rules in
    ap (λ b. next (placed column (with_room set b)) (with_head column set (length b) (after comma text))) front
    ∙ (ap (λ r. next (placed column r) (with_head column set (length h) (after comma text))) (room_reads set part.head h s.head_spelt room)
    ∙ (ap (λ r. next r (with_items column set part.head)) items ∙ cond-true _ _ _ rules.pair))

-- what was read from the text of a part
pub record PartSpelt (set now : SetSpec) (text : List ℕ) : Type 0 where
  pub part : Part
  pub spelt : SpellsPart part text
  pub rules : KeepsItemRules part
  pub room : HasRoom set part.head
  pub value : with_one set part ≡ now

-- what was read behind a head
record RestSpelt (head : Head) (now : Items) (text : List ℕ) : Type 0 where
  items : List Item
  texts : List (List ℕ)
  each : AllZip SpellsItem items texts
  joined : text ≡ join_with_byte comma (before comma text ∷ texts)
  range : AllByRecursion IsInRange items
  repeat : IsDistinct bytes_eq (map item_name items)
  place : AllByRecursion (IsPlaced head) items
  value : now ≡ items_of items

joins : (h rest : List ℕ) (texts : List (List ℕ)) → 0 < length texts → join_with_byte comma texts ≡ rest
    → h ++ comma ∷ rest ≡ join_with_byte comma (h ∷ texts)
joins h rest [] some e = absurd (omega arith)
joins h rest (t ∷ ts) some e = ap (λ r. h ++ comma ∷ r) (sym e)

rest_spelt : (head : Head) (column : ℕ) (now : Items) (text : List ℕ) (rest : Option (List ℕ)) → after comma text ≡ rest
    → items_after head column rest ≡ Ok now → RestSpelt head now text
unfolding IsDistinct
rest_spelt head column now text None cut e =
    let same : no_items ≡ now = cc in
    record {
      items = [];
      texts = [];
      each = tt;
      joined = before_none comma text cut;
      range = tt;
      repeat = tt;
      place = tt;
      value = sym same;
    }
rest_spelt head column now text (Some rest) cut e =
    let i = items_spelt head column no_items now (pieces comma rest) e in
    record {
      items = i.items;
      texts = pieces comma rest;
      each = i.each;
      joined = cut_joins comma text rest cut
          ∙ joins (before comma text) rest (pieces comma rest) (pieces_some comma rest) (join_with_byte-slice_split comma rest);
      range = i.range;
      repeat = i.repeat;
      place = i.place;
      value = i.value;
    }

abbrev done : SetSpec → Result SetSpec SpecRefusal
done set = Ok set

set_is : (set now : SetSpec) (head : Head) (items : Items) (given' : Items) → given' ≡ items → done (with_sub set head given') ≡ done now
    → with_sub set head items ≡ now
set_is set now head items given' same e =
    let made : with_sub set head given' ≡ now = cc in
    ap (λ i. with_sub set head i) (sym same) ∙ made

items_paired : (column : ℕ) (set now : SetSpec) (head : Head) (items : Items) → with_items column set head items ≡ Ok now
    → (is_paired items ≡ true) × (done (with_sub set head items) ≡ done now)
items_paired column set now head items e =
    elim (chosen (is_paired items) _ _ _ e) [
      | inl pair ↦ pair
      | inr alone ↦ absurd cc
    ]

-- what is read as a part spells it
pub part_spelt : (column : ℕ) (set now : SetSpec) (text : List ℕ) → with_part column set text ≡ Ok now → PartSpelt set now text
unfolding with_part
part_spelt column set now text e =
    let h = before comma text in
    let step = next_ok (placed column (with_room set h)) (with_head column set (length h) (after comma text)) now e in
    let room = room_spelt set step.0 h (placed_ok column (with_room set h) step.0 step.1) in
    let more = next_ok (items_after step.0 (column + length h + 1) (after comma text)) (with_items column set step.0) now step.2 in
    let rest = rest_spelt step.0 (column + length h + 1) more.0 text (after comma text) refl more.1 in
    let both = items_paired column set now step.0 more.0 more.2 in
    record {
      part = record { head = step.0; items = rest.items };
      spelt = record { head = h; items = rest.texts; head_spelt = room.0; items_spelt = rest.each; joined = rest.joined };
      rules = record {
        range = rest.range;
        repeat = rest.repeat;
        place = rest.place;
        pair = ap is_paired (sym rest.value) ∙ both.0;
      };
      room = room.1;
      value = set_is set now step.0 (items_of rest.items) more.0 rest.value both.1;
    }
