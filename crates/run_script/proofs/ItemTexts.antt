-- An item is read as what its text spells.
use Rattle.std.proofs.Common.{◌≡◌, ◌<◌, ◌≤◌, ◌∷◌, ◌++◌, ◌∙◌, ℕ, Bool, true, false, List, Option, Some, None, Result, Ok}
use Rattle.std.proofs.Common.{refl, sym, ap, subst, arith, nat_lt, inl, inr, codes}
use Rattle.std.specs.Prelude.{bytes_eq}
use Rattle.std.proofs.lemmas.Bool.{ltb-true, ltb-false, lt-ltb, le-ltb, cond-true, cond-false}
use Rattle.std.proofs.lemmas.Slice.Eq.{bytes_eq-Decides}
use Rattle.flat_model.specs.declared.plugins.Ask.{Ask}
use Rattle.run_script.specs.declared.names.Names.TheVariants.{Events, Classes}
use Rattle.run_script.specs.declared.refusals.SpecRule.{SpecRule}
use Rattle.run_script.specs.declared.items.Item.{Item}
use Rattle.run_script.specs.declared.items.Item.TheVariants.{Kinds, Pc, Class, Rw, Quota, Asks, Then}
use Rattle.run_script.specs.declared.items.Span.{Span}
use Rattle.run_script.specs.Bytes.{before, after, minus, equals}
use Rattle.run_script.specs.Names.{rw_names, ask_names, named, mask}
use Rattle.run_script.specs.Numbers.{number}
use Rattle.run_script.specs.Items.{of_bits, bits_item, of_direction, rw_item, of_calls, quota_item, of_ask, ask_item, of_stored, then_item}
use Rattle.run_script.specs.Items.{address, span_item, between, pc_item, named_item, with_value, item_of}
use Rattle.run_script.specs.Grammar.{SpellsItem, SpellsValue, item_name}
use Rattle.run_script.specs.Parts.{IsInRange}
use Rattle.run_script.proofs.Signs.{Free, is_plain, free_plain, before_at, after_at, cut_joins}
use Rattle.run_script.proofs.Signs.{Each, other, Takes, differs, each_plain, each_append}
use Rattle.run_script.proofs.Tables.{chosen, named_in, rws_read, asks_read, mask_spelt, mask_reads, bits_each}
use Rattle.run_script.proofs.Digits.{number_spelt, number_reads, digits_plain}

-- an item that was read from a name and a value
record Spelt (name value : List ℕ) (item : Item) : Type 0 where
  called : name ≡ item_name item
  valued : SpellsValue item value
  ordered : IsInRange item

abbrev ok : Item → Result Item SpecRule
ok item = Ok item

same_item : (made item : Item) → ok made ≡ ok item → made ≡ item
same_item made item e = cc

-- the item that was made is the one that was read
made_is : (name value : List ℕ) (made item : Item) → ok made ≡ ok item → Spelt name value made → Spelt name value item
made_is name value made item e s = subst (λ i. Spelt name value i) (same_item made item e) s

events_made : (o : Option ℕ) (item : Item) → of_bits Events o ≡ Ok item → (bits : ℕ) × (o ≡ Some bits) × (ok (Kinds bits) ≡ ok item)
events_made None item e = absurd cc
events_made (Some bits) item e = (bits, refl, e)

classes_made : (o : Option ℕ) (item : Item) → of_bits Classes o ≡ Ok item → (bits : ℕ) × (o ≡ Some bits) × (ok (Class bits) ≡ ok item)
classes_made None item e = absurd cc
classes_made (Some bits) item e = (bits, refl, e)

rw_made : (o : Option ℕ) (item : Item) → of_direction o ≡ Ok item → (rw : ℕ) × (o ≡ Some rw) × (ok (Rw rw) ≡ ok item)
rw_made None item e = absurd cc
rw_made (Some rw) item e = (rw, refl, e)

calls_made : (o : Option ℕ) (item : Item) → of_calls o ≡ Ok item → (n : ℕ) × (o ≡ Some n) × (0 < n) × (ok (Quota n) ≡ ok item)
calls_made None item e = absurd cc
calls_made (Some n) item e =
    elim (chosen (nat_lt 0 n) _ _ _ e) [
      | inl some ↦ (n, refl, ltb-true 0 n some.0, some.1)
      | inr none ↦ absurd cc
    ]

ask_made : (o : Option Ask) (item : Item) → of_ask o ≡ Ok item → (ask : Ask) × (o ≡ Some ask) × (ok (Asks ask) ≡ ok item)
ask_made None item e = absurd cc
ask_made (Some ask) item e = (ask, refl, e)

stored_made : (o : Option ℕ) (item : Item) → of_stored o ≡ Ok item → (n : ℕ) × (o ≡ Some n) × (ok (Then n) ≡ ok item)
stored_made None item e = absurd cc
stored_made (Some n) item e = (n, refl, e)

abbrev span : ℕ → ℕ → Span
span lo hi = record { lo = lo; hi = hi }

span_made : (l h : Option ℕ) (item : Item) → span_item l h ≡ Ok item
    → (lo hi : ℕ) × (l ≡ Some lo) × (h ≡ Some hi) × (lo ≤ hi) × (ok (Pc (span lo hi)) ≡ ok item)
span_made None h item e = absurd cc
span_made (Some lo) None item e = absurd cc
span_made (Some lo) (Some hi) item e =
    elim (chosen (nat_lt hi lo) _ _ _ e) [
      | inl above ↦ absurd cc
      | inr below ↦ (lo, hi, refl, refl, ltb-false hi lo below.0, below.1)
    ]

kinds_spelt : (name value : List ℕ) (item : Item) → name ≡ codes "kinds" → bits_item Events value ≡ Ok item → Spelt name value item
unfolding bits_item
kinds_spelt name value item called e =
    let m = events_made (mask Events value) item e in
    made_is name value (Kinds m.0) item m.2 (record { called = called; valued = mask_spelt Events m.0 value m.1; ordered = tt })

class_spelt : (name value : List ℕ) (item : Item) → name ≡ codes "class" → bits_item Classes value ≡ Ok item → Spelt name value item
unfolding bits_item
class_spelt name value item called e =
    let m = classes_made (mask Classes value) item e in
    made_is name value (Class m.0) item m.2 (record { called = called; valued = mask_spelt Classes m.0 value m.1; ordered = tt })

rw_spelt : (name value : List ℕ) (item : Item) → name ≡ codes "rw" → rw_item value ≡ Ok item → Spelt name value item
unfolding rw_item
rw_spelt name value item called e =
    let m = rw_made (named rw_names value) item e in
    made_is name value (Rw m.0) item m.2 (record { called = called; valued = named_in rw_names value m.0 m.1; ordered = tt })

quota_spelt : (name value : List ℕ) (item : Item) → name ≡ codes "quota" → quota_item value ≡ Ok item → Spelt name value item
unfolding quota_item
quota_spelt name value item called e =
    let m = calls_made (number 10 20 value) item e in
    made_is name value (Quota m.0) item m.3 (record { called = called; valued = number_spelt 10 20 m.0 value m.1; ordered = m.2 })

ask_spelt : (name value : List ℕ) (item : Item) → name ≡ codes "ask" → ask_item value ≡ Ok item → Spelt name value item
unfolding ask_item
ask_spelt name value item called e =
    let m = ask_made (named ask_names value) item e in
    made_is name value (Asks m.0) item m.2 (record { called = called; valued = named_in ask_names value m.0 m.1; ordered = tt })

then_spelt : (name value : List ℕ) (item : Item) → name ≡ codes "then" → then_item value ≡ Ok item → Spelt name value item
unfolding then_item
then_spelt name value item called e =
    let m = stored_made (number 10 20 value) item e in
    made_is name value (Then m.0) item m.2 (record { called = called; valued = number_spelt 10 20 m.0 value m.1; ordered = tt })

between_spelt : (name value : List ℕ) (hi : Option (List ℕ)) (item : Item) → name ≡ codes "pc" → after minus value ≡ hi
    → between (before minus value) hi ≡ Ok item → Spelt name value item
unfolding address
between_spelt name value None item called cut e = absurd cc
between_spelt name value (Some hi) item called cut e =
    let lo = before minus value in
    let m = span_made (number 16 16 lo) (number 16 16 hi) item e in
    made_is name value (Pc (span m.0 m.1)) item m.5 (record {
      called = called;
      valued = (lo, hi, number_spelt 16 16 m.0 lo m.2, number_spelt 16 16 m.1 hi m.3, cut_joins minus value hi cut);
      ordered = m.4;
    })

pc_spelt : (name value : List ℕ) (item : Item) → name ≡ codes "pc" → pc_item value ≡ Ok item → Spelt name value item
unfolding pc_item
pc_spelt name value item called e = between_spelt name value (after minus value) item called refl e

named_spelt : (name value : List ℕ) (item : Item) → named_item name value ≡ Ok item → Spelt name value item
unfolding named_item
named_spelt name value item e =
    let is = λ (word : List ℕ) (h : bytes_eq name word ≡ true). (bytes_eq-Decides name word).0 h in
    elim (chosen (bytes_eq name (codes "kinds")) _ _ _ e) [
      | inl a ↦ kinds_spelt name value item (is (codes "kinds") a.0) a.1
      | inr no_kinds ↦ elim (chosen (bytes_eq name (codes "class")) _ _ _ no_kinds.1) [
        | inl a ↦ class_spelt name value item (is (codes "class") a.0) a.1
        | inr no_class ↦ elim (chosen (bytes_eq name (codes "rw")) _ _ _ no_class.1) [
          | inl a ↦ rw_spelt name value item (is (codes "rw") a.0) a.1
          | inr no_rw ↦ elim (chosen (bytes_eq name (codes "pc")) _ _ _ no_rw.1) [
            | inl a ↦ pc_spelt name value item (is (codes "pc") a.0) a.1
            | inr no_pc ↦ elim (chosen (bytes_eq name (codes "quota")) _ _ _ no_pc.1) [
              | inl a ↦ quota_spelt name value item (is (codes "quota") a.0) a.1
              | inr no_quota ↦ elim (chosen (bytes_eq name (codes "ask")) _ _ _ no_quota.1) [
                | inl a ↦ ask_spelt name value item (is (codes "ask") a.0) a.1
                | inr no_ask ↦ elim (chosen (bytes_eq name (codes "then")) _ _ _ no_ask.1) [
                  | inl a ↦ then_spelt name value item (is (codes "then") a.0) a.1
                  | inr none ↦ absurd cc
                ]
              ]
            ]
          ]
        ]
      ]
    ]

valued_spelt : (text : List ℕ) (value : Option (List ℕ)) (item : Item) → after equals text ≡ value
    → with_value (before equals text) value ≡ Ok item → SpellsItem item text × IsInRange item
valued_spelt text None item cut e = absurd cc
valued_spelt text (Some value) item cut e =
    let s = named_spelt (before equals text) value item e in
    ((value, s.valued, cut_joins equals text value cut ∙ ap (λ n. n ++ equals ∷ value) s.called), s.ordered)

-- what is read as an item spells it
pub item_spelt : (text : List ℕ) (item : Item) → item_of text ≡ Ok item → SpellsItem item text × IsInRange item
unfolding item_of
item_spelt text item e = valued_spelt text (after equals text) item refl e

name_each : (p : ℕ → Bool) (item : Item) → Takes p → Each p (item_name item)
name_each p (Kinds bits) takes = each_plain p (codes "kinds") takes refl
name_each p (Pc span) takes = each_plain p (codes "pc") takes refl
name_each p (Class bits) takes = each_plain p (codes "class") takes refl
name_each p (Rw rw) takes = each_plain p (codes "rw") takes refl
name_each p (Quota n) takes = each_plain p (codes "quota") takes refl
name_each p (Asks ask) takes = each_plain p (codes "ask") takes refl
name_each p (Then n) takes = each_plain p (codes "then") takes refl

pub name_free : (c : ℕ) (item : Item) → is_plain c ≡ false → Free c (item_name item)
name_free c item sign = name_each (other c) item (differs c sign)

value_reads : (item : Item) (value : List ℕ) → SpellsValue item value → IsInRange item → named_item (item_name item) value ≡ Ok item
unfolding named_item bits_item rw_item quota_item ask_item then_item pc_item address
value_reads (Kinds bits) value s ordered = ap (of_bits Events) (mask_reads Events bits value s)
value_reads (Class bits) value s ordered = ap (of_bits Classes) (mask_reads Classes bits value s)
value_reads (Rw rw) value s ordered = ap of_direction (rws_read.reads rw value s)
value_reads (Quota n) value s ordered =
    ap of_calls (number_reads 10 20 n value (omega arith) s) ∙ cond-true _ _ _ (lt-ltb 0 n ordered)
value_reads (Asks ask) value s ordered = ap of_ask (asks_read.reads ask value s)
value_reads (Then n) value s ordered = ap of_stored (number_reads 10 20 n value (omega arith) s)
value_reads (Pc span) value s ordered =
    let lo = s.0 in let hi = s.1 in
    let free = free_plain minus lo refl (digits_plain 16 16 span.lo lo s.2) in
    let front : before minus value ≡ lo = ap (before minus) s.4 ∙ before_at minus lo hi free in
    let back : after minus value ≡ Some hi = ap (after minus) s.4 ∙ after_at minus lo hi free in
    ap (λ l. between l (after minus value)) front
    ∙ (ap (λ h. between lo h) back
    ∙ (ap (λ l. span_item l (number 16 16 hi)) (number_reads 16 16 span.lo lo (omega arith) s.2)
    ∙ (ap (λ h. span_item (Some span.lo) h) (number_reads 16 16 span.hi hi (omega arith) s.3)
    ∙ cond-false _ _ _ (le-ltb span.hi span.lo ordered))))

-- what spells an item is read as it
pub item_reads : (item : Item) (text : List ℕ) → SpellsItem item text → IsInRange item → item_of text ≡ Ok item
unfolding item_of
item_reads item text s ordered =
    let value = s.0 in
    let free = name_free equals item refl in
    let front : before equals text ≡ item_name item = ap (before equals) s.2 ∙ before_at equals (item_name item) value free in
    let back : after equals text ≡ Some value = ap (after equals) s.2 ∙ after_at equals (item_name item) value free in
    ap (λ n. with_value n (after equals text)) front
    ∙ (ap (λ v. with_value (item_name item) v) back ∙ value_reads item value s.1 ordered)

-- what plain bytes and the signs in items pass, items do

value_each : (p : ℕ → Bool) → Takes p → Each p (codes "/") → Each p (codes "-") → (item : Item) (value : List ℕ)
    → SpellsValue item value → Each p value
value_each p takes slashes dashes (Kinds bits) value s = bits_each p slashes takes Events bits value s
value_each p takes slashes dashes (Class bits) value s = bits_each p slashes takes Classes bits value s
value_each p takes slashes dashes (Rw rw) value s = each_plain p value takes (rws_read.plain rw value s)
value_each p takes slashes dashes (Quota n) value s = each_plain p value takes (digits_plain 10 20 n value s)
value_each p takes slashes dashes (Asks ask) value s = each_plain p value takes (asks_read.plain ask value s)
value_each p takes slashes dashes (Then n) value s = each_plain p value takes (digits_plain 10 20 n value s)
value_each p takes slashes dashes (Pc span) value s =
    let lo = s.0 in let hi = s.1 in
    subst (λ t. Each p t) (sym s.4)
    (each_append p lo (minus ∷ hi) (each_plain p lo takes (digits_plain 16 16 span.lo lo s.2))
    (each_append p (codes "-") hi dashes (each_plain p hi takes (digits_plain 16 16 span.hi hi s.3))))

pub item_each : (p : ℕ → Bool) → Takes p → Each p (codes "/") → Each p (codes "-") → Each p (codes "=") → (item : Item) (text : List ℕ)
    → SpellsItem item text → Each p text
item_each p takes slashes dashes equal item text s =
    subst (λ t. Each p t) (sym s.2)
    (each_append p (item_name item) (equals ∷ s.0) (name_each p item takes)
    (each_append p (codes "=") s.0 equal (value_each p takes slashes dashes item s.0 s.1)))

-- an item has no sign that stands between items or parts
pub item_free : (c : ℕ) → is_plain c ≡ false → Free c (codes "/") → Free c (codes "-") → Free c (codes "=") → (item : Item) (text : List ℕ)
    → SpellsItem item text → Free c text
item_free c sign slashes dashes equal item text s = item_each (other c) (differs c sign) slashes dashes equal item text s
