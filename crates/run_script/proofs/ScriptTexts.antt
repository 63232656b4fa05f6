-- A line is read as the order that its text spells, and a script as the orders of its lines.
use Rattle.std.proofs.Common.{◌≡◌, ◌<◌, ◌≤◌, ◌+◌, ◌∷◌, [], ◌++◌, ◌∙◌, ℕ, zero, suc, Bool, true, false, not, List, Option, Some, None}
use Rattle.std.proofs.Common.{Result, Ok, Err, refl, sym, ap, subst, arith, cond, length, codes, slice_get, nat_lt, nat_le, inl, inr, ◌&&◌, ◌||◌}
use Rattle.std.specs.Prelude.{bytes_eq, filter, slice_index_or}
use Rattle.std.specs.Char.{is_ascii}
use Rattle.std.specs.List.{AllZip, list_all, join_with_byte, cons_option}
use Rattle.std.specs.List.Sorted.{IsNonDecreasingBy}
use Rattle.std.specs.Str.Lines.{lines}
use Rattle.std.proofs.lemmas.Bool.{and_parts, le-ltb, leb-true, le-leb, cond-true, cond-false}
use Rattle.std.proofs.lemmas.List.Splits.{join_with_byte-slice_split}
use Rattle.std.proofs.lemmas.Slice.Eq.{bytes_eq-Decides}
use Rattle.flat_model.specs.declared.plugins.SetSpec.{SetSpec}
use Rattle.flat_model.specs.declared.journals.Order.{Order}
use Rattle.flat_model.specs.declared.journals.Order.TheVariants as orders
use Rattle.flat_model.specs.declared.journals.Timed.{Timed}
use Rattle.run_script.specs.declared.refusals.SpecRefusal.{SpecRefusal}
use Rattle.run_script.specs.declared.refusals.ScriptRule.{ScriptRule}
use Rattle.run_script.specs.declared.refusals.ScriptRefusal.{ScriptRefusal}
use Rattle.run_script.specs.declared.fields.Fault.{Fault}
use Rattle.run_script.specs.declared.fields.OrderName.{OrderName}
use Rattle.run_script.specs.declared.fields.OrderName.TheVariants.{Install, Register, Reset, Uninstall}
use Rattle.run_script.specs.Bytes.{space, pieces}
use Rattle.run_script.specs.Numbers.{number}
use Rattle.run_script.specs.Names.{named}
use Rattle.run_script.specs.Words.{next, spelt}
use Rattle.run_script.specs.Grammar.{SpellsNum}
use Rattle.run_script.specs.Fields.{placed_from, field_at, ascii_field, wanted_field, judged, read, opening, not_before, moment}
use Rattle.run_script.specs.Fields.{order_names, of_name, order_name, of_plug, plug, of_word, word, surplus, end, last_plug, last_word}
use Rattle.run_script.specs.Scripts.{order, named_order, timed, is_passed_over, in_line, entry, moment_after, entries, script}
use Rattle.run_script.specs.ScriptGrammar.{SpellsPlug, SpellsSet, SpellsOrder, SpellsLine, SpellsScript}
use Rattle.run_script.proofs.Signs.{Free, AllFree, Each, IsPlain, Takes, other, differs, each_plain, each_cons, pieces_joined}
use Rattle.run_script.proofs.Tables.{chosen, named_in, row_holds}
use Rattle.run_script.proofs.Digits.{number_spelt, number_reads, digits_plain}
use Rattle.run_script.proofs.PartTexts.{next_ok}
use Rattle.run_script.proofs.WordTexts.{word_each, word_reads, word_spelt}
use Rattle.run_script.proofs.Entries.{judged_ok, in_line_ok, Rises, entries_rise, never_falls}

-- ---- what is read from a field is what it spells

text_at : (column k : ℕ) (texts : List (List ℕ)) (f : ℕ × List ℕ) → slice_get (placed_from column texts) k ≡ Some f
    → slice_get texts k ≡ Some f.1
text_at column k [] f e = absurd cc
text_at column zero (t ∷ ts) f e = cc
text_at column (suc k) (t ∷ ts) f e = text_at (column + length t + 1) k ts f e

no_text_at : (column k : ℕ) (texts : List (List ℕ)) → slice_get (placed_from column texts) k ≡ None → slice_get texts k ≡ None
no_text_at column k [] e = refl
no_text_at column zero (t ∷ ts) e = absurd cc
no_text_at column (suc k) (t ∷ ts) e = no_text_at (column + length t + 1) k ts e

ascii_ok : (line : List ℕ) (o : Option (ℕ × List ℕ)) (f : ℕ × List ℕ) → ascii_field line o ≡ Ok f → o ≡ Some f
ascii_ok line None f e = absurd cc
ascii_ok line (Some g) f e =
    elim (chosen (list_all is_ascii g.1) _ _ _ e) [
      | inl plain ↦ let same : g ≡ f = cc in ap (λ h. Some h) same
      | inr other' ↦ absurd cc
    ]

-- a text that a line has as its field of a number
abbrev Has : ℕ → List ℕ → List ℕ → Type 0
Has k line text = slice_get (pieces space line) k ≡ Some text

wanted_ok : (k : ℕ) (line : List ℕ) (f : ℕ × List ℕ) → wanted_field k line ≡ Ok f → Has k line f.1
unfolding wanted_field
wanted_ok k line f e = text_at 1 k (pieces space line) f (ascii_ok line (field_at k line) f e)

read_ok : {A : Type 0} (k : ℕ) (line : List ℕ) (reading : List ℕ → Result A ScriptRule) (x : A) → read k line reading ≡ Ok x
    → (text : List ℕ) × Has k line text × (reading text ≡ Ok x)
read_ok k line reading x e =
    let step = next_ok (wanted_field k line) (λ f. judged f.0 (reading f.1)) x e in
    (step.0.1, wanted_ok k line step.0 step.1, judged_ok step.0.0 (reading step.0.1) x step.2)

surplus_ok : (o : Option (ℕ × List ℕ)) (u : Unit {0}) → surplus o ≡ Ok u → o ≡ None
surplus_ok None u e = refl
surplus_ok (Some f) u e = absurd cc

end_ok : (k : ℕ) (line : List ℕ) (u : Unit {0}) → end k line ≡ Ok u → slice_get (pieces space line) k ≡ None
end_ok k line u e = no_text_at 1 k (pieces space line) (surplus_ok (field_at k line) u e)

opening_is : (text : List ℕ) (u : Unit {0}) → opening text ≡ Ok u → text ≡ codes "at"
opening_is text u e =
    elim (chosen (bytes_eq text (codes "at")) _ _ _ e) [
      | inl is ↦ (bytes_eq-Decides text (codes "at")).0 is.0
      | inr none ↦ absurd cc
    ]

late_number : (least when : ℕ) (n : Option ℕ) → not_before least n ≡ Ok when → n ≡ Some when
late_number least when None e = absurd cc
late_number least when (Some n) e =
    elim (chosen (nat_lt n least) _ _ _ e) [
      | inl early ↦ absurd cc
      | inr late ↦ let same : n ≡ when = cc in ap (λ m. Some m) same
    ]

moment_spelt : (least when : ℕ) (text : List ℕ) → moment least text ≡ Ok when → SpellsNum when text
moment_spelt least when text e = number_spelt 10 20 when text (late_number least when (number 10 20 text) e)

plug_number : (n : ℕ) (o : Option ℕ) → of_plug o ≡ Ok n → (o ≡ Some n) × (n ≤ 255)
plug_number n None e = absurd cc
plug_number n (Some m) e =
    elim (chosen (nat_le m 255) _ _ _ e) [
      | inl small ↦ let same : m ≡ n = cc in (ap (λ x. Some x) same, omega (arith, leb-true m 255 small.0, same))
      | inr large ↦ absurd cc
    ]

plug_spelt : (n : ℕ) (text : List ℕ) → plug text ≡ Ok n → SpellsPlug n text
plug_spelt n text e =
    let both = plug_number n (number 10 20 text) e in
    record { num = number_spelt 10 20 n text both.0; small = both.1 }

abbrev order_word : OrderName → List ℕ
order_word Install = codes "install"
order_word Register = codes "register"
order_word Reset = codes "reset"
order_word Uninstall = codes "uninstall"

named_ok : (name : OrderName) (o : Option OrderName) → of_name o ≡ Ok name → o ≡ Some name
named_ok name None e = absurd cc
named_ok name (Some other') e = let same : other' ≡ name = cc in ap (λ n. Some n) same

name_is : (name : OrderName) (text : List ℕ) → order_name text ≡ Ok name → text ≡ order_word name
name_is name text e =
    row_holds (λ row. row.1 ≡ order_word row.0) order_names (refl, (refl, (refl, (refl, tt)))) name text
    (named_in order_names text name (named_ok name (named order_names text) e))

word_ok : (column : ℕ) (set : SetSpec) (r : Result SetSpec SpecRefusal) → of_word column r ≡ Ok set → r ≡ Ok set
word_ok column set (Ok s) e = cc
word_ok column set (Err why) e = absurd cc

set_spelt : (k : ℕ) (line : List ℕ) (set : SetSpec) → word k line ≡ Ok set → (text : List ℕ) × Has k line text × SpellsSet set text
set_spelt k line set e =
    let step = next_ok (wanted_field k line) (λ f. of_word f.0 (spelt f.1)) set e in
    let f = step.0 in
    let w = word_spelt set f.1 (word_ok f.0 set (spelt f.1) step.2) in
    (f.1, wanted_ok k line f step.1, record { parts = w.parts; word = w.word; rules = w.rules; value = w.value })

-- ---- a line is its fields

four : (texts : List (List ℕ)) (a b c d : List ℕ) → slice_get texts 0 ≡ Some a → slice_get texts 1 ≡ Some b → slice_get texts 2 ≡ Some c
    → slice_get texts 3 ≡ Some d → slice_get texts 4 ≡ None → texts ≡ a ∷ b ∷ c ∷ d ∷ []
four [] a b c d ha hb hc hd none = absurd cc
four (x ∷ []) a b c d ha hb hc hd none = absurd cc
four (x ∷ y ∷ []) a b c d ha hb hc hd none = absurd cc
four (x ∷ y ∷ z ∷ []) a b c d ha hb hc hd none = absurd cc
four (x ∷ y ∷ z ∷ w ∷ []) a b c d ha hb hc hd none = cc
four (x ∷ y ∷ z ∷ w ∷ v ∷ vs) a b c d ha hb hc hd none = absurd cc

five : (texts : List (List ℕ)) (a b c d f : List ℕ) → slice_get texts 0 ≡ Some a → slice_get texts 1 ≡ Some b → slice_get texts 2 ≡ Some c
    → slice_get texts 3 ≡ Some d → slice_get texts 4 ≡ Some f → slice_get texts 5 ≡ None → texts ≡ a ∷ b ∷ c ∷ d ∷ f ∷ []
five [] a b c d f ha hb hc hd hf none = absurd cc
five (x ∷ []) a b c d f ha hb hc hd hf none = absurd cc
five (x ∷ y ∷ []) a b c d f ha hb hc hd hf none = absurd cc
five (x ∷ y ∷ z ∷ []) a b c d f ha hb hc hd hf none = absurd cc
five (x ∷ y ∷ z ∷ w ∷ []) a b c d f ha hb hc hd hf none = absurd cc
five (x ∷ y ∷ z ∷ w ∷ v ∷ []) a b c d f ha hb hc hd hf none = cc
five (x ∷ y ∷ z ∷ w ∷ v ∷ u ∷ us) a b c d f ha hb hc hd hf none = absurd cc

-- a line that begins with `at` and a number
record Begins (line num : List ℕ) (name : OrderName) : Type 0 where
  opens : Has 0 line (codes "at")
  num_is : Has 1 line num
  name_at : Has 2 line (order_word name)

abbrev line_text : List ℕ → List ℕ → List ℕ
line_text num order = codes "at" ++ space ∷ (num ++ space ∷ order)

line_of : (line : List ℕ) (texts : List (List ℕ)) → pieces space line ≡ texts → line ≡ join_with_byte space texts
line_of line texts e = sym (join_with_byte-slice_split space line) ∙ ap (join_with_byte space) e

-- an order that was read from a line
abbrev OrderSpelt : List ℕ → List ℕ → Order → Type 0
OrderSpelt line num order = (o : List ℕ) × SpellsOrder order o × (line ≡ line_text num o)

abbrev ok : Order → Result Order Fault
ok order = Ok order

same_order : (made order : Order) → ok made ≡ ok order → made ≡ order
same_order made order e = cc

made_is : (line num : List ℕ) (made order : Order) → ok made ≡ ok order → OrderSpelt line num made → OrderSpelt line num order
made_is line num made order e s = subst (λ o. OrderSpelt line num o) (same_order made order e) s

last_plug_spelt : (line : List ℕ) (n : ℕ) → last_plug line ≡ Ok n
    → (text : List ℕ) × Has 3 line text × (slice_get (pieces space line) 4 ≡ None) × SpellsPlug n text
unfolding last_plug
last_plug_spelt line n e =
    let step = next_ok (read 3 line plug) (λ m. next (end 4 line) (λ _. Ok m)) n e in
    let last = next_ok (end 4 line) (λ _. Ok step.0) n step.2 in
    let same : step.0 ≡ n = cc in
    let field = read_ok 3 line plug step.0 step.1 in
    (field.0, field.1, end_ok 4 line last.0 last.1, subst (λ m. SpellsPlug m field.0) same (plug_spelt step.0 field.0 field.2))

last_word_spelt : (k : ℕ) (line : List ℕ) (set : SetSpec) → last_word k line ≡ Ok set
    → (text : List ℕ) × Has k line text × (slice_get (pieces space line) (k + 1) ≡ None) × SpellsSet set text
unfolding last_word
last_word_spelt k line set e =
    let step = next_ok (word k line) (λ s. next (end (k + 1) line) (λ _. Ok s)) set e in
    let last = next_ok (end (k + 1) line) (λ _. Ok step.0) set step.2 in
    let same : step.0 ≡ set = cc in
    let field = set_spelt k line step.0 step.1 in
    (field.0, field.1, end_ok (k + 1) line last.0 last.1, subst (λ s. SpellsSet s field.0) same field.2)

order_spelt : (name : OrderName) (line num : List ℕ) (o : Order) → Begins line num name → order name line ≡ Ok o → OrderSpelt line num o
unfolding order
order_spelt Install line num o begins e =
    let step = next_ok (last_word 3 line) (λ set. Ok (orders.Install set)) o e in
    let w = last_word_spelt 3 line step.0 step.1 in
    let texts = four (pieces space line) (codes "at") num (codes "install") w.0 begins.opens begins.num_is begins.name_at w.1 w.2 in
    made_is line num (orders.Install step.0) o step.2 (codes "install" ++ space ∷ w.0, (w.0, w.3, refl), line_of line _ texts)
order_spelt Register line num o begins e =
    let first = next_ok (read 3 line plug) (λ n. next (last_word 4 line) (λ set. Ok (orders.Register n set))) o e in
    let step = next_ok (last_word 4 line) (λ set. Ok (orders.Register first.0 set)) o first.2 in
    let p = read_ok 3 line plug first.0 first.1 in
    let w = last_word_spelt 4 line step.0 step.1 in
    let texts = five (pieces space line) (codes "at") num (codes "register") p.0 w.0 begins.opens begins.num_is begins.name_at p.1 w.1 w.2 in
    made_is line num (orders.Register first.0 step.0) o step.2
    (codes "register" ++ space ∷ (p.0 ++ space ∷ w.0), (p.0, w.0, plug_spelt first.0 p.0 p.2, w.3, refl), line_of line _ texts)
order_spelt Reset line num o begins e =
    let step = next_ok (last_plug line) (λ n. Ok (orders.Reset n)) o e in
    let p = last_plug_spelt line step.0 step.1 in
    let texts = four (pieces space line) (codes "at") num (codes "reset") p.0 begins.opens begins.num_is begins.name_at p.1 p.2 in
    made_is line num (orders.Reset step.0) o step.2 (codes "reset" ++ space ∷ p.0, (p.0, p.3, refl), line_of line _ texts)
order_spelt Uninstall line num o begins e =
    let step = next_ok (last_plug line) (λ n. Ok (orders.Uninstall n)) o e in
    let p = last_plug_spelt line step.0 step.1 in
    let texts = four (pieces space line) (codes "at") num (codes "uninstall") p.0 begins.opens begins.num_is begins.name_at p.1 p.2 in
    made_is line num (orders.Uninstall step.0) o step.2 (codes "uninstall" ++ space ∷ p.0, (p.0, p.3, refl), line_of line _ texts)

abbrev made : ℕ → Order → Result Timed Fault
made when order = Ok (record { when = when; order = order })

parts_are : (when : ℕ) (order : Order) (t : Timed) → made when order ≡ Ok t → (when ≡ t.when) × (order ≡ t.order)
parts_are when order t e = (cc, cc)

-- what is read as a line spells it
pub line_spelt : (least : ℕ) (line : List ℕ) (t : Timed) → timed least line ≡ Ok t → SpellsLine t line
unfolding timed named_order
line_spelt least line t e =
    let opens = next_ok (read 0 line opening) _ t e in
    let when = next_ok (read 1 line (moment least)) _ t opens.2 in
    let order' = next_ok (named_order line) _ t when.2 in
    let named' = next_ok (read 2 line order_name) (λ name. order name line) order'.0 order'.1 in
    let first = read_ok 0 line opening opens.0 opens.1 in
    let num = read_ok 1 line (moment least) when.0 when.1 in
    let name = read_ok 2 line order_name named'.0 named'.1 in
    let begins : Begins line num.0 named'.0 = record {
      opens = subst (λ text. Has 0 line text) (opening_is first.0 opens.0 first.2) first.1;
      num_is = num.1;
      name_at = subst (λ text. Has 2 line text) (name_is named'.0 name.0 name.2) name.1;
    } in
    let o = order_spelt named'.0 line num.0 order'.0 begins named'.2 in
    let same = parts_are when.0 order'.0 t order'.2 in
    record {
      num = num.0;
      order = o.0;
      moment = subst (λ n. SpellsNum n num.0) same.0 (moment_spelt least when.0 num.0 num.2);
      order_spelt = subst (λ x. SpellsOrder x o.0) same.1 o.1;
      joined = o.2;
    }

-- ---- what spells a line is read as it

takes_ascii : Takes is_ascii
takes_ascii b plain = (and_parts (nat_le 48 b && (nat_le b 57 || nat_le 65 b)) (nat_lt b 128) plain).1

-- a field that may stand between spaces
record IsField (text : List ℕ) : Type 0 where
  free : Free space text
  ascii : Each is_ascii text

plain_field : (text : List ℕ) → IsPlain text → IsField text
plain_field text plain = record {
  free = each_plain (other space) text (differs space refl) plain;
  ascii = each_plain is_ascii text takes_ascii plain;
}

num_field : (n : ℕ) (text : List ℕ) → SpellsNum n text → IsField text
num_field n text s = plain_field text (digits_plain 10 20 n text s)

set_field : (set : SetSpec) (text : List ℕ) → SpellsSet set text → IsField text
set_field set text s = record {
  free = word_each (other space) (differs space refl) refl refl refl refl refl refl s.parts text s.word;
  ascii = word_each is_ascii takes_ascii refl refl refl refl refl refl s.parts text s.word;
}

-- a field of a line whose fields are known is read
wanted : (k : ℕ) (line : List ℕ) (texts : List (List ℕ)) (f : ℕ × List ℕ) → pieces space line ≡ texts
    → slice_get (placed_from 1 texts) k ≡ Some f → IsField f.1 → wanted_field k line ≡ Ok f
unfolding wanted_field
wanted k line texts f cut at field =
    ap (λ ts. ascii_field line (slice_get (placed_from 1 ts) k)) cut
    ∙ (ap (ascii_field line) at ∙ cond-true _ _ _ field.ascii)

reads : {A : Type 0} (k : ℕ) (line : List ℕ) (texts : List (List ℕ)) (f : ℕ × List ℕ) (reading : List ℕ → Result A ScriptRule) (x : A)
    → pieces space line ≡ texts → slice_get (placed_from 1 texts) k ≡ Some f → IsField f.1 → reading f.1 ≡ Ok x
    → read k line reading ≡ Ok x
reads k line texts f reading x cut at field is =
    ap (λ r. next r (λ g. judged g.0 (reading g.1))) (wanted k line texts f cut at field)
    ∙ ap (judged f.0) is

ends : (k : ℕ) (line : List ℕ) (texts : List (List ℕ)) → pieces space line ≡ texts → slice_get (placed_from 1 texts) k ≡ None
    → end k line ≡ Ok tt
ends k line texts cut none = ap (λ ts. surplus (slice_get (placed_from 1 ts) k)) cut ∙ ap surplus none

moment_reads : (least when : ℕ) (text : List ℕ) → SpellsNum when text → least ≤ when → moment least text ≡ Ok when
moment_reads least when text s late =
    ap (not_before least) (number_reads 10 20 when text (omega arith) s) ∙ cond-false _ _ _ (le-ltb when least late)

plug_reads : (n : ℕ) (text : List ℕ) → SpellsPlug n text → plug text ≡ Ok n
plug_reads n text s = ap of_plug (number_reads 10 20 n text (omega arith) s.num) ∙ cond-true _ _ _ (le-leb n 255 s.small)

set_reads : (k : ℕ) (line : List ℕ) (texts : List (List ℕ)) (f : ℕ × List ℕ) (set : SetSpec) → pieces space line ≡ texts
    → slice_get (placed_from 1 texts) k ≡ Some f → SpellsSet set f.1 → word k line ≡ Ok set
set_reads k line texts f set cut at s =
    ap (λ r. next r (λ g. of_word g.0 (spelt g.1))) (wanted k line texts f cut at (set_field set f.1 s))
    ∙ (ap (of_word f.0) (word_reads s.parts f.1 s.word s.rules) ∙ ap (λ x. Ok x) (sym s.value))

last_plug_reads : (line : List ℕ) (texts : List (List ℕ)) (f : ℕ × List ℕ) (n : ℕ) → pieces space line ≡ texts
    → slice_get (placed_from 1 texts) 3 ≡ Some f → slice_get (placed_from 1 texts) 4 ≡ None → SpellsPlug n f.1 → last_plug line ≡ Ok n
unfolding last_plug
last_plug_reads line texts f n cut at none s =
    ap (λ r. next r (λ m. next (end 4 line) (λ _. Ok m)))
    (reads 3 line texts f plug n cut at (num_field n f.1 s.num) (plug_reads n f.1 s))
    ∙ ap (λ r. next r (λ _. Ok n)) (ends 4 line texts cut none)

last_word_reads : (k : ℕ) (line : List ℕ) (texts : List (List ℕ)) (f : ℕ × List ℕ) (set : SetSpec) → pieces space line ≡ texts
    → slice_get (placed_from 1 texts) k ≡ Some f → slice_get (placed_from 1 texts) (k + 1) ≡ None → SpellsSet set f.1
    → last_word k line ≡ Ok set
unfolding last_word
last_word_reads k line texts f set cut at none s =
    ap (λ r. next r (λ x. next (end (k + 1) line) (λ _. Ok x))) (set_reads k line texts f set cut at s)
    ∙ ap (λ r. next r (λ _. Ok set)) (ends (k + 1) line texts cut none)

-- a line is cut into its fields
cut_line : (line num o : List ℕ) (t : List ℕ) (ts : List (List ℕ)) → line ≡ line_text num o → o ≡ join_with_byte space (t ∷ ts)
    → IsField num → AllFree space (t ∷ ts) → pieces space line ≡ codes "at" ∷ num ∷ t ∷ ts
cut_line line num o t ts joined fields is_num free =
    let first : IsField (codes "at") = plain_field (codes "at") refl in
    ap (pieces space) (joined ∙ ap (λ x. line_text num x) fields)
    ∙ pieces_joined space (codes "at") (num ∷ t ∷ ts)
    (each_cons (other space) (codes "at") (num ∷ t ∷ ts) first.free (each_cons (other space) num (t ∷ ts) is_num.free free))

-- a line with a number and an order of some fields
record Cut (line num name : List ℕ) (more : List (List ℕ)) : Type 0 where
  fields : pieces space line ≡ codes "at" ∷ num ∷ name ∷ more
  is_num : IsField num

name_reads : (line num : List ℕ) (name : OrderName) (more : List (List ℕ)) → Cut line num (order_word name) more
    → order_name (order_word name) ≡ Ok name → IsPlain (order_word name) → read 2 line order_name ≡ Ok name
name_reads line num name more cut is plain =
    reads 2 line _ (_, order_word name) order_name name cut.fields refl (plain_field (order_word name) plain) is

named_reads : (line num : List ℕ) (name : OrderName) (more : List (List ℕ)) (o : Order) → Cut line num (order_word name) more
    → order_name (order_word name) ≡ Ok name → IsPlain (order_word name) → order name line ≡ Ok o → named_order line ≡ Ok o
unfolding named_order
named_reads line num name more o cut is plain read' =
    ap (λ r. next r (λ n. order n line)) (name_reads line num name more cut is plain) ∙ read'

order_reads : (line num text : List ℕ) (o : Order) → line ≡ line_text num text → IsField num → SpellsOrder o text → named_order line ≡ Ok o
unfolding order
order_reads line num text (orders.Install set) joined is_num s =
    let w = s.0 in
    let name = plain_field (codes "install") refl in
    let field = set_field set w s.1 in
    let cut = cut_line line num text (codes "install") (w ∷ []) joined s.2 is_num (name.free, (field.free, tt)) in
    named_reads line num Install (w ∷ []) (orders.Install set) (record { fields = cut; is_num = is_num }) refl refl
    (ap (λ r. next r (λ x. Ok (orders.Install x))) (last_word_reads 3 line _ (_, w) set cut refl refl s.1))
order_reads line num text (orders.Register n set) joined is_num s =
    let p = s.0 in let w = s.1 in
    let name = plain_field (codes "register") refl in
    let field = set_field set w s.3 in
    let number' = num_field n p s.2.num in
    let cut = cut_line line num text (codes "register") (p ∷ w ∷ []) joined s.4 is_num (name.free, (number'.free, (field.free, tt))) in
    named_reads line num Register (p ∷ w ∷ []) (orders.Register n set) (record { fields = cut; is_num = is_num }) refl refl
    (ap (λ r. next r (λ m. next (last_word 4 line) (λ x. Ok (orders.Register m x))))
    (reads 3 line _ (_, p) plug n cut refl number' (plug_reads n p s.2))
    ∙ ap (λ r. next r (λ x. Ok (orders.Register n x))) (last_word_reads 4 line _ (_, w) set cut refl refl s.3))
order_reads line num text (orders.Reset n) joined is_num s =
    let p = s.0 in
    let name = plain_field (codes "reset") refl in
    let field = num_field n p s.1.num in
    let cut = cut_line line num text (codes "reset") (p ∷ []) joined s.2 is_num (name.free, (field.free, tt)) in
    named_reads line num Reset (p ∷ []) (orders.Reset n) (record { fields = cut; is_num = is_num }) refl refl
    (ap (λ r. next r (λ m. Ok (orders.Reset m))) (last_plug_reads line _ (_, p) n cut refl refl s.1))
order_reads line num text (orders.Uninstall n) joined is_num s =
    let p = s.0 in
    let name = plain_field (codes "uninstall") refl in
    let field = num_field n p s.1.num in
    let cut = cut_line line num text (codes "uninstall") (p ∷ []) joined s.2 is_num (name.free, (field.free, tt)) in
    named_reads line num Uninstall (p ∷ []) (orders.Uninstall n) (record { fields = cut; is_num = is_num }) refl refl
    (ap (λ r. next r (λ m. Ok (orders.Uninstall m))) (last_plug_reads line _ (_, p) n cut refl refl s.1))

-- the first fields of a line, whatever its order is
order_cut : (line num text : List ℕ) (o : Order) → line ≡ line_text num text → IsField num → SpellsOrder o text
    → (t : List ℕ) × (ts : List (List ℕ)) × (pieces space line ≡ codes "at" ∷ num ∷ t ∷ ts)
order_cut line num text (orders.Install set) joined is_num s =
    let name = plain_field (codes "install") refl in
    let field = set_field set s.0 s.1 in
    (codes "install", s.0 ∷ [], cut_line line num text (codes "install") (s.0 ∷ []) joined s.2 is_num (name.free, (field.free, tt)))
order_cut line num text (orders.Register n set) joined is_num s =
    let name = plain_field (codes "register") refl in
    let field = set_field set s.1 s.3 in
    let number' = num_field n s.0 s.2.num in (
      codes "register",
      s.0 ∷ s.1 ∷ [],
      cut_line line num text (codes "register") (s.0 ∷ s.1 ∷ []) joined s.4 is_num
          (name.free, (number'.free, (field.free, tt))),
    )
order_cut line num text (orders.Reset n) joined is_num s =
    let name = plain_field (codes "reset") refl in
    let field = num_field n s.0 s.1.num in
    (codes "reset", s.0 ∷ [], cut_line line num text (codes "reset") (s.0 ∷ []) joined s.2 is_num (name.free, (field.free, tt)))
order_cut line num text (orders.Uninstall n) joined is_num s =
    let name = plain_field (codes "uninstall") refl in
    let field = num_field n s.0 s.1.num in
    (codes "uninstall", s.0 ∷ [], cut_line line num text (codes "uninstall") (s.0 ∷ []) joined s.2 is_num (name.free, (field.free, tt)))

-- what spells a line is read as it
pub line_reads : (least : ℕ) (line : List ℕ) (t : Timed) → SpellsLine t line → least ≤ t.when → timed least line ≡ Ok t
unfolding timed
line_reads least line t s late =
    let is_num = num_field t.when s.num s.moment in
    let cut = order_cut line s.num s.order t.order s.joined is_num s.order_spelt in
    ap (λ r. next r (λ _. next (read 1 line (moment least)) (λ when. next (named_order line) (λ o. made when o))))
    (reads 0 line _ (1, codes "at") opening tt cut.2 refl (plain_field (codes "at") refl) refl)
    ∙ (ap (λ r. next r (λ when. next (named_order line) (λ o. made when o)))
    (reads 1 line _ (_, s.num) (moment least) t.when cut.2 refl is_num (moment_reads least t.when s.num s.moment late))
    ∙ ap (λ r. next r (λ o. made t.when o)) (order_reads line s.num s.order t.order s.joined is_num s.order_spelt))

-- ---- the script

abbrev kept : List ℕ → Bool
kept line = not (is_passed_over line)

abbrev SpellsLines : List Timed → List (List ℕ) → Type 0
SpellsLines list texts = AllZip SpellsLine list (filter kept texts)

abbrev ok_one : Option Timed → Result (Option Timed) ScriptRefusal
ok_one one = Ok one

one_is : (x y : Option Timed) → ok_one x ≡ ok_one y → x ≡ y
one_is x y e = cc

with_line : (one : Option Timed) (line : List ℕ) (list : List Timed) (texts : List (List ℕ)) (n least : ℕ) → entry n least line ≡ Ok one
    → SpellsLines list texts → SpellsLines (cons_option one list) (line ∷ texts)
unfolding entry
with_line one line list texts n least e each =
    elim (chosen (is_passed_over line) _ _ _ e) [
      | inl over ↦
          let none : None ≡ one = one_is None one over.1 in
          let drops : filter kept (line ∷ texts) ≡ filter kept texts = cond-false _ _ _ (ap not over.0) in
          subst (λ o. AllZip SpellsLine (cons_option o list) (filter kept (line ∷ texts))) none
          (subst (λ ts. AllZip SpellsLine list ts) (sym drops) each)
      | inr read' ↦
          let step = next_ok (in_line n (timed least line)) (λ t. Ok (Some t)) one read'.1 in
          let spelt = line_spelt least line step.0 (in_line_ok n (timed least line) step.0 step.1) in
          let some : Some step.0 ≡ one = one_is (Some step.0) one step.2 in
          let keeps : filter kept (line ∷ texts) ≡ line ∷ filter kept texts = cond-true _ _ _ (ap not read'.0) in
          subst (λ o. AllZip SpellsLine (cons_option o list) (filter kept (line ∷ texts))) some
          (subst (λ ts. AllZip SpellsLine (step.0 ∷ list) ts) (sym keeps) (spelt, each))
    ]

lines_spelt : (n least : ℕ) (texts : List (List ℕ)) (list : List Timed) → entries n least texts ≡ Ok list → SpellsLines list texts
lines_spelt n least [] [] e = tt
lines_spelt n least [] (t ∷ ts) e = absurd cc
lines_spelt n least (text ∷ texts) list e =
    let one = next_ok (entry n least text) (λ o. next (entries (n + 1) (moment_after least o) texts) (λ ts. Ok (cons_option o ts))) list e in
    let others = next_ok (entries (n + 1) (moment_after least one.0) texts) (λ ts. Ok (cons_option one.0 ts)) list one.2 in
    let rest = lines_spelt (n + 1) (moment_after least one.0) texts others.0 others.1 in
    let whole : cons_option one.0 others.0 ≡ list = cc in
    subst (λ l. SpellsLines l (text ∷ texts)) whole (with_line one.0 text others.0 texts n least one.1 rest)

-- what is read as a script spells it
pub script_spelt : (list : List Timed) (bytes : List ℕ) → script bytes ≡ Ok list → SpellsScript list bytes
script_spelt list bytes e = record {
  each = lines_spelt 1 0 (lines bytes) list e;
  rising = never_falls 0 list (entries_rise 1 0 (lines bytes) list e).0;
}

rises_from : (least : ℕ) (ts : List Timed) → ((d : Timed) → 0 < length ts → least ≤ (slice_index_or ts 0 d).when)
    → IsNonDecreasingBy (λ t. t.when) ts → Rises least ts
rises_from least [] low rising = tt
rises_from least (t ∷ ts) low rising = (
  low t (omega arith),
  rises_from t.when ts (λ d some. rising 0 1 d (omega arith) (omega (arith, some)))
      (λ i j d before' within. rising (suc i) (suc j) d (omega (arith, before')) (omega (arith, within))),
)

-- a line and what is read of the others
line_then : (n least : ℕ) (text : List ℕ) (texts : List (List ℕ)) (list : List Timed) (passed : Bool) → is_passed_over text ≡ passed
    → AllZip SpellsLine list (cond (not passed) (text ∷ filter kept texts) (filter kept texts)) → Rises least list
    → ((m : ℕ) (l : List Timed) → SpellsLines l texts → Rises m l → entries (n + 1) m texts ≡ Ok l) → entries n least (text ∷ texts) ≡ Ok list
unfolding entry
line_then n least text texts list true is each rises others =
    ap (λ r. next r (λ o. next (entries (n + 1) (moment_after least o) texts) (λ ts. Ok (cons_option o ts)))) (cond-true _ _ _ is)
    ∙ ap (λ r. next r (λ ts. Ok ts)) (others least list each rises)
line_then n least text texts [] false is each rises others = absurd each
line_then n least text texts (t ∷ ts) false is each rises others =
    let one : entry n least text ≡ Ok (Some t) =
    cond-false _ _ _ is ∙ ap (λ r. next (in_line n r) (λ u. Ok (Some u))) (line_reads least text t each.0 rises.0) in
    ap (λ r. next r (λ o. next (entries (n + 1) (moment_after least o) texts) (λ us. Ok (cons_option o us)))) one
    ∙ ap (λ r. next r (λ us. Ok (t ∷ us))) (others t.when ts each.1 rises.1)

lines_read : (n least : ℕ) (texts : List (List ℕ)) (list : List Timed) → SpellsLines list texts → Rises least list
    → entries n least texts ≡ Ok list
lines_read n least [] [] each rises = refl
lines_read n least [] (t ∷ ts) each rises = absurd each
lines_read n least (text ∷ texts) list each rises = line_then n least text texts list (is_passed_over text) refl each rises
    (λ m l h r. lines_read (n + 1) m texts l h r)

-- what spells a script is read as it
pub script_reads : (list : List Timed) (bytes : List ℕ) → SpellsScript list bytes → script bytes ≡ Ok list
script_reads list bytes s = lines_read 1 0 (lines bytes) list s.each (rises_from 0 list (λ d some. omega arith) s.rising)
