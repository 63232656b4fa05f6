-- Entries are read line by line, and their moments never fall.
use Rattle.std.proofs.Common.{◌≡◌, ◌<◌, ◌≤◌, ◌+◌, ◌==◌, ◌∷◌, [], ◌++◌, ◌∙◌, ℕ, zero, suc, List, Option, Some, None, Result, Ok, Err}
use Rattle.std.proofs.Common.{refl, sym, ap, subst, arith, length, append_assoc, nat_lt, inl, inr}
use Rattle.std.specs.Prelude.{slice_index_or}
use Rattle.std.specs.List.{cons_option}
use Rattle.std.specs.List.Sorted.{IsNonDecreasingBy}
use Rattle.std.specs.Str.Lines.{lines, lines_of_parts}
use Rattle.std.proofs.lemmas.Bool.{ltb-false}
use Rattle.std.proofs.lemmas.List.{append-nil}
use Rattle.std.proofs.lemmas.List.Sums.{count_by-le-length}
use Rattle.std.proofs.lemmas.List.Splits.{length-slice_split}
use Rattle.flat_model.specs.declared.journals.Order.{Order}
use Rattle.flat_model.specs.declared.journals.Timed.{Timed}
use Rattle.flat_model.specs.Plan.{IsPlan}
use Rattle.run_script.specs.declared.refusals.ScriptRule.{ScriptRule}
use Rattle.run_script.specs.declared.refusals.ScriptRefusal.{ScriptRefusal}
use Rattle.run_script.specs.declared.fields.Fault.{Fault}
use Rattle.run_script.specs.Bytes.{pieces}
use Rattle.run_script.specs.Numbers.{number}
use Rattle.run_script.specs.Words.{next}
use Rattle.run_script.specs.Fields.{wanted_field, judged, read, opening, not_before, moment}
use Rattle.run_script.specs.Scripts.{named_order, timed, is_passed_over, in_line, entry, moment_after, entries, script}
use Rattle.run_script.proofs.Tables.{chosen}
use Rattle.run_script.proofs.PartTexts.{next_ok}

-- ---- one line after the other

joined : (list : List Timed) (one : Option Timed) (others : Result (List Timed) ScriptRefusal)
    → next (next others (λ ts. Ok (cons_option one ts))) (λ ts. Ok (list ++ ts))
    ≡ next others (λ ts. Ok ((list ++ cons_option one []) ++ ts))
joined list one (Err why) = refl
joined list None (Ok ts) = ap (λ l. Ok (l ++ ts)) (sym (append-nil list))
joined list (Some t) (Ok ts) = ap (λ l. Ok l) (sym (append_assoc list (t ∷ []) ts))

-- the entries after some that were read
abbrev pub from_here : List Timed → ℕ → ℕ → List (List ℕ) → Result (List Timed) ScriptRefusal
from_here list n least texts = next (entries n least texts) (λ ts. Ok (list ++ ts))

pub goes_on : (list : List Timed) (n least : ℕ) (line : List ℕ) (more : List (List ℕ)) (one : Option Timed)
    → entry n least line ≡ Ok one
    → from_here list n least (line ∷ more) ≡ from_here (list ++ cons_option one []) (n + 1) (moment_after least one) more
goes_on list n least line more one e =
    ap (λ r. next (next r (λ o. next (entries (n + 1) (moment_after least o) more) (λ ts. Ok (cons_option o ts)))) (λ ts. Ok (list ++ ts))) e
    ∙ joined list one (entries (n + 1) (moment_after least one) more)

pub stops_at : (list : List Timed) (n least : ℕ) (line : List ℕ) (more : List (List ℕ)) (why : ScriptRefusal)
    → entry n least line ≡ Err why → from_here list n least (line ∷ more) ≡ Err why
stops_at list n least line more why e =
    ap (λ r. next (next r (λ o. next (entries (n + 1) (moment_after least o) more) (λ ts. Ok (cons_option o ts)))) (λ ts. Ok (list ++ ts))) e

-- ---- moments

pub judged_ok : {A : Type 0} (column : ℕ) (r : Result A ScriptRule) (x : A) → judged column r ≡ Ok x → r ≡ Ok x
judged_ok column (Ok y) x e = cc
judged_ok column (Err rule) x e = absurd cc

pub in_line_ok : {A : Type 0} (n : ℕ) (r : Result A Fault) (x : A) → in_line n r ≡ Ok x → r ≡ Ok x
in_line_ok n (Ok y) x e = cc
in_line_ok n (Err fault) x e = absurd cc

at_least : (least when : ℕ) (n : Option ℕ) → not_before least n ≡ Ok when → least ≤ when
at_least least when None e = absurd cc
at_least least when (Some n) e =
    elim (chosen (nat_lt n least) _ _ _ e) [
      | inl early ↦ absurd cc
      | inr late ↦ let same : n ≡ when = cc in omega (arith, ltb-false n least late.0, same)
    ]

abbrev made : ℕ → Order → Result Timed Fault
made when order = Ok (record { when = when; order = order })

when_is : (when : ℕ) (order : Order) (t : Timed) → made when order ≡ Ok t → when ≡ t.when
when_is when order t e = cc

pub timed_late : (least : ℕ) (line : List ℕ) (t : Timed) → timed least line ≡ Ok t → least ≤ t.when
unfolding timed
timed_late least line t e =
    let opens = next_ok (read 0 line opening) _ t e in
    let when = next_ok (read 1 line (moment least)) _ t opens.2 in
    let order = next_ok (named_order line) _ t when.2 in
    let field = next_ok (wanted_field 1 line) (λ f. judged f.0 (moment least f.1)) when.0 when.1 in
    let late = at_least least when.0 (number 10 20 field.0.1) (judged_ok field.0.0 (moment least field.0.1) when.0 field.2) in
    let same : when.0 ≡ t.when = when_is when.0 order.0 t order.2 in
    omega (arith, late, same)

abbrev Late : ℕ → Option Timed → Type 0
Late least None = Unit {0}
Late least (Some t) = least ≤ t.when

some_late : (least : ℕ) (t : Timed) (one : Option Timed) → least ≤ t.when → Some t ≡ one → Late least one
some_late least t None late e = absurd cc
some_late least t (Some u) late e = let same : t.when ≡ u.when = cc in omega (arith, late, same)

none_late : (least : ℕ) (one : Option Timed) → None ≡ one → Late least one
none_late least None e = tt
none_late least (Some u) e = absurd cc

abbrev done : Option Timed → Result (Option Timed) ScriptRefusal
done one = Ok one

ok_option : (x y : Option Timed) → done x ≡ done y → x ≡ y
ok_option x y e = cc

entry_late : (n least : ℕ) (line : List ℕ) (one : Option Timed) → entry n least line ≡ Ok one → Late least one
unfolding entry
entry_late n least line one e =
    elim (chosen (is_passed_over line) _ _ _ e) [
      | inl over ↦ none_late least one (ok_option None one over.1)
      | inr read' ↦
          let step = next_ok (in_line n (timed least line)) (λ t. Ok (Some t)) one read'.1 in
          let late = timed_late least line step.0 (in_line_ok n (timed least line) step.0 step.1) in
          some_late least step.0 one late (ok_option (Some step.0) one step.2)
    ]

-- moments that never fall, from one on
abbrev pub Rises : ℕ → List Timed → Type 0
Rises least [] = Unit {0}
Rises least (t ∷ ts) = (least ≤ t.when) × Rises t.when ts

rises_with : (least : ℕ) (one : Option Timed) (ts : List Timed) → Late least one → Rises (moment_after least one) ts
    → Rises least (cons_option one ts)
rises_with least None ts late rises = rises
rises_with least (Some t) ts late rises = (late, rises)

length_with : (one : Option Timed) (ts : List Timed) → length (cons_option one ts) ≤ length ts + 1
length_with None ts = omega arith
length_with (Some t) ts = omega arith

pub entries_rise : (n least : ℕ) (texts : List (List ℕ)) (list : List Timed) → entries n least texts ≡ Ok list
    → Rises least list × (length list ≤ length texts)
entries_rise n least [] [] e = (tt, omega arith)
entries_rise n least [] (t ∷ ts) e = absurd cc
entries_rise n least (text ∷ texts) list e =
    let one = next_ok (entry n least text) (λ o. next (entries (n + 1) (moment_after least o) texts) (λ ts. Ok (cons_option o ts))) list e in
    let others = next_ok (entries (n + 1) (moment_after least one.0) texts) (λ ts. Ok (cons_option one.0 ts)) list one.2 in
    let rest = entries_rise (n + 1) (moment_after least one.0) texts others.0 others.1 in
    let whole : cons_option one.0 others.0 ≡ list = cc in
    let rises : Rises least (cons_option one.0 others.0) =
    rises_with least one.0 others.0 (entry_late n least text one.0 one.1) rest.0 in
    let few : length list ≤ length (text ∷ texts) = omega (arith, ap length whole, length_with one.0 others.0, rest.1) in
    (subst (λ l. Rises least l) whole rises, few)

reaches : (least : ℕ) (ts : List Timed) (j : ℕ) (d : Timed) → Rises least ts → j < length ts → least ≤ (slice_index_or ts j d).when
reaches least [] j d rises within = absurd (omega arith)
reaches least (t ∷ ts) zero d rises within = rises.0
reaches least (t ∷ ts) (suc j) d rises within = omega (arith, rises.0, reaches t.when ts j d rises.1 (omega arith))

pub never_falls : (least : ℕ) (ts : List Timed) → Rises least ts → IsNonDecreasingBy (λ t. t.when) ts
never_falls least [] rises i j d before' within = absurd (omega arith)
never_falls least (t ∷ ts) rises zero zero d before' within = omega arith
never_falls least (t ∷ ts) rises zero (suc j) d before' within = reaches t.when ts j d rises.1 (omega arith)
never_falls least (t ∷ ts) rises (suc i) zero d before' within = absurd (omega arith)
never_falls least (t ∷ ts) rises (suc i) (suc j) d before' within = never_falls t.when ts rises.1 i j d (omega arith) (omega arith)

few_lines : (parts : List (List ℕ)) → length (lines_of_parts parts) ≤ length parts
few_lines [] = omega arith
few_lines (x ∷ []) = grind arith
few_lines (x ∷ y ∷ more) = omega (arith, few_lines (y ∷ more))

-- the entries of a script are those of a plan
pub plan_of : (bytes : List ℕ) (list : List Timed) → length bytes ≤ 65536 → script bytes ≡ Ok list → IsPlan list
plan_of bytes list small e =
    let both = entries_rise 1 0 (lines bytes) list e in
    let parts = pieces 10 bytes in
    record {
      rising = never_falls 0 list both.0;
      lines = omega (
        arith,
        both.1,
        few_lines parts,
        length-slice_split (λ b. b == 10) bytes,
        count_by-le-length (λ b. b == 10) bytes,
        small,
      );
    }

-- where no line is left, all are read
pub all_read : (list : List Timed) (n least : ℕ) (rest : List ℕ) (whole : Result (List Timed) ScriptRefusal) → length rest ≡ 0
    → from_here list n least (lines rest) ≡ whole → whole ≡ Ok list
all_read list n least [] whole none e = sym e ∙ ap (λ l. Ok l) (append-nil list)
all_read list n least (b ∷ bs) whole none e = absurd (omega (arith, none))
