-- Behind an order that isn't the plan's the plan wants nothing, where it wanted nothing before: each line whose moment has come is judged.
use Rattle.std.proofs.Common.{◌≡◌, ◌+◌, ◌<◌, ◌≤◌, ◌∷◌, [], ◌∙◌, ℕ, suc, Bool, true, false, List, Option, Some, None}
use Rattle.std.proofs.Common.{refl, ap, arith, nat_le, inl, inr, cond}
use Rattle.std.specs.Prelude.{length, slice_index_or, slice_get, find, option_map}
use Rattle.std.specs.List.{count_by}
use Rattle.std.specs.List.Sorted.{IsNonDecreasingBy}
use Rattle.std.specs.Option.{option_or}
use Rattle.std.proofs.lemmas.Bool.{cases_Bool, leb-true, leb-false}
use Rattle.std.proofs.lemmas.List.Sums.{sum_by-cons}
use Rattle.flat_model.specs.declared.journals.Item.{Item}
use Rattle.flat_model.specs.declared.journals.Item.TheVariants.{Ordered}
use Rattle.flat_model.specs.declared.journals.Order.TheVariants.{Install}
use Rattle.flat_model.specs.declared.journals.Origin.TheVariants.{Start, Script, Asked, Control}
use Rattle.flat_model.specs.declared.journals.Timed.{Timed}
use Rattle.flat_model.specs.Log.{total_steps}
use Rattle.run_rules.specs.Guest.{Run}
use Rattle.run_rules.specs.Due.{Line, numbered, is_due, must_stand, owed_line}
use Rattle.run_rules.specs.Due.{come, next_line, start_orders, missing_install, line_item, wanted}
use Rattle.run_rules.proofs.Turns.{first_true, rest_true}
use Rattle.kept_order.specs.Withdrawing.{UnplannedOrdersPassNothingBy}

fails : (b : Bool) → (b ≡ true → ⊥) → b ≡ false
fails true off = absurd (off refl)
fails false off = refl

-- no line is found whose moment hasn't come
none_late : (test : Line → Bool) (total k : ℕ) (xs : List Timed) → ((l : Line) → test l ≡ true → l.timed.when ≤ total)
    → ((i : ℕ) (d : Timed) → i < length xs → total < (slice_index_or xs i d).when) → find test (numbered k xs) ≡ None
unfolding numbered
none_late test total k [] low far = refl
none_late test total k (x ∷ xs) low far =
    let l : Line = record { number = k; timed = x } in
    let off : test l ≡ false = fails (test l) (λ is. omega (arith, low l is, far 0 x (omega arith))) in
    ap (λ (b : Bool). cond b (Some l) (find test (numbered (k + 1) xs))) off
    ∙ none_late test total (k + 1) xs low (λ i d within. far (suc i) d (omega (arith, within)))

abbrev one : Bool → ℕ
one b = cond b 1 0

-- and none among those that have been judged
none_due : (test : Line → Bool) (total k next : ℕ) (xs : List Timed) → IsNonDecreasingBy (λ t. t.when) xs
    → k + count_by (λ t. nat_le t.when total) xs ≤ next → ((l : Line) → test l ≡ true → (next ≤ l.number) × (l.timed.when ≤ total))
    → find test (numbered k xs) ≡ None
unfolding numbered
none_due test total k next [] rising judged low = refl
none_due test total k next (x ∷ xs) rising judged low =
    let l : Line = record { number = k; timed = x } in
    let count = sum_by-cons (λ (t : Timed). one (nat_le t.when total)) x xs in
    elim (cases_Bool (nat_le x.when total)) [
      | inl come ↦
          let first : one (nat_le x.when total) ≡ 1 = ap one come in
          let off : test l ≡ false = fails (test l) (λ is. omega (arith, (low l is).0, judged, first, count)) in
          ap (λ (b : Bool). cond b (Some l) (find test (numbered (k + 1) xs))) off
          ∙ none_due test total (k + 1) next xs (λ i j d le within. rising (suc i) (suc j) d (omega (arith, le)) (omega (arith, within)))
          (omega (arith, judged, first, count)) low
      | inr later ↦
          none_late test total k (x ∷ xs) (λ l is. (low l is).1)
          (λ i d within. omega (arith, leb-false x.when total later, rising 0 i d (omega arith) within))
    ]

none_first : {A : Type 0} (a b : Option A) → option_or a b ≡ None → a ≡ None
none_first None b none = refl
none_first (Some x) b none = absurd cc

-- where all lines that have come are judged, none is owed
pub wants_none : (run : Run) (past now : List Item) → IsNonDecreasingBy (λ t. t.when) run.plan.script → start_orders now ≡ start_orders past
    → next_line run now ≡ come run now → wanted run past ≡ None → wanted run now ≡ None
unfolding wanted
wants_none run past now rising starts next none =
    let missing : missing_install run now ≡ None =
    ap (λ (n : ℕ). option_map (λ spec. Ordered Start (Install spec)) (slice_get run.plan.installs n)) starts
    ∙ none_first (missing_install run past) (option_map (line_item past) (owed_line run past)) none in
    let owed : owed_line run now ≡ None =
    none_due (must_stand run now) (total_steps now) 0 (come run now) run.plan.script rising (omega arith)
    (λ l is.
    let due : is_due run now l ≡ true = first_true _ _ is in
    let behind : next_line run now ≤ l.number = leb-true (next_line run now) l.number (first_true _ _ due) in
    (omega (arith, behind, next), leb-true l.timed.when (total_steps now) (rest_true (nat_le (next_line run now) l.number) _ due))) in
    ap (λ (m : Option Item). option_or m (option_map (line_item now) (owed_line run now))) missing ∙ ap (option_map (line_item now)) owed

pub unplanned_orders_pass_nothing_by : UnplannedOrdersPassNothingBy
unfolding next_line start_orders
unplanned_orders_pass_nothing_by run Start order past rising is none = absurd is
unplanned_orders_pass_nothing_by run (Script line party) order past rising is none = absurd is
unplanned_orders_pass_nothing_by run (Asked hart plugin) order past rising is none =
    wants_none run past (Ordered (Asked hart plugin) order ∷ past) rising refl refl none
unplanned_orders_pass_nothing_by run (Control party) order past rising is none =
    wants_none run past (Ordered (Control party) order ∷ past) rising refl refl none
