-- Lines that are judged, one after the other.
use Rattle.std.proofs.Common.{◌≡◌, ◌+◌, ◌<◌, ◌≤◌, ◌∷◌, ◌∙◌, ℕ, true, false, List, Option, Some, None}
use Rattle.std.proofs.Common.{sym, ap, arith, nat_le, nat_lt, inl, inr}
use Rattle.std.specs.Prelude.{slice_index_or, option_map}
use Rattle.std.specs.List.Sorted.{IsNonDecreasingBy}
use Rattle.std.specs.Option.{option_or, option_map_or}
use Rattle.std.specs.Cmp.Derive.{both_true}
use Rattle.std.proofs.lemmas.Bool.{cases_Bool, lt-ltb, ltb-true, ltb-false, le-leb, leb-true, false≢true}
use Rattle.flat_model.specs.declared.journals.Item.{Item}
use Rattle.flat_model.specs.declared.journals.Item.TheVariants.{Ordered}
use Rattle.flat_model.specs.declared.journals.Origin.TheVariants.{Script}
use Rattle.flat_model.specs.declared.journals.Timed.{Timed}
use Rattle.flat_model.specs.declared.limits.TheConstants.{BLOCK_WORDS}
use Rattle.flat_model.specs.Log.{total_steps}
use Rattle.run_rules.specs.Guest.{Run, plugins}
use Rattle.run_rules.specs.Due.{Line, is_due, must_stand, owed_line, line_item, next_line, line_party, in_time}
use Rattle.run_rules.specs.Due.{allowed, start_orders, missing_install, wanted}
use Rattle.run_rules.specs.Legal.{Legal, MayOrder}
use Rattle.run_rules.proofs.Turns.{first_true, rest_true}
use Rattle.script_order.specs.Judging.{IsLine, IsJudging, AllowedLinesStand, RefusedLinesPass, JudgingEnds}
use Rattle.script_order.proofs.Lines.{line, fails, same_line, line_at, earlier, line_got, first_passes, none_passes}

-- a line before the one that is judged next isn't to stand
passed : (run : Run) (who c i : ℕ) (t : Timed) (past : List Item) → IsJudging run who c past → i < c → IsLine run.plan.script i t
    → must_stand run past (line (0 + i) t) ≡ false
passed run who c i t past j low is =
    fails (must_stand run past (line (0 + i) t)) (λ on.
    let due : is_due run past (line (0 + i) t) ≡ true = first_true _ _ on in
    let from : next_line run past ≤ 0 + i = leb-true (next_line run past) (0 + i) (first_true _ _ due) in
    false≢true (sym (j.refused i t (omega (arith, from)) low is) ∙ rest_true (is_due run past (line (0 + i) t)) _ on))

-- what the plan wants, where no install is missing and this line is owed
wants : (run : Run) (past : List Item) (l : Option Line) → missing_install run past ≡ None → owed_line run past ≡ l
    → wanted run past ≡ option_map (line_item past) l
unfolding wanted
wants run past l none owed =
    ap (λ (m : Option Item). option_or m (option_map (line_item past) (owed_line run past))) none
    ∙ ap (option_map (line_item past)) owed

pub refused_lines_pass : RefusedLinesPass
refused_lines_pass run who c t past j is off = record {
  installed = j.installed;
  by = j.by;
  next = omega (arith, j.next);
  refused = λ i s from low at. elim (cases_Bool (nat_lt i c)) [
    | inl below ↦ j.refused i s from (ltb-true i c below) at
    | inr above ↦
        let here : i ≡ c = omega (arith, low, ltb-false i c above) in
        let same : s ≡ t = sym (same_line run.plan.script i s t at) ∙ ap (λ (k : ℕ). slice_index_or run.plan.script k t) here ∙ is.there in
        ap (λ (x : Timed). allowed (plugins run past) x.order) same ∙ off
  ];
  soon = λ i s from at may. j.soon i s (omega (arith, from)) at may;
}

judged_next : (run : Run) (who c : ℕ) (t : Timed) (past : List Item) → IsNonDecreasingBy (λ t. t.when) run.plan.script
    → IsJudging run who c past → IsLine run.plan.script c t → allowed (plugins run past) t.order ≡ true
    → IsJudging run who (c + 1) (Ordered (Script c who) t.order ∷ past)
unfolding next_line line_party start_orders
judged_next run who c t past rising j is may = record {
  installed = j.installed;
  by = j.by;
  next = omega arith;
  refused = λ i s from low at. absurd (omega (arith, from, low));
  soon = λ i s from at allows.
      omega (arith, j.soon c t (omega arith) is may, earlier run.plan.script rising c i t s (omega (arith, from)) is at);
}

pub allowed_lines_stand : AllowedLinesStand
unfolding Legal
allowed_lines_stand run who c t past rising legal j is low may =
    let item = Ordered (Script c who) t.order in
    let due : is_due run past (line (0 + c) t) ≡ true =
    both_true (le-leb (next_line run past) (0 + c) (omega (arith, j.next))) (le-leb t.when (total_steps past) low) in
    let owed : owed_line run past ≡ Some (line (0 + c) t) =
    first_passes (must_stand run past) 0 c run.plan.script t is (λ i s below at. passed run who c i s past j below at)
    (both_true due may) in
    let is_wanted : wanted run past ≡ Some item =
    wants run past (Some (line (0 + c) t)) j.installed owed
    ∙ ap (λ (k : ℕ). Some (Ordered (Script k (line_party past)) t.order)) (omega arith)
    ∙ ap (λ (p : ℕ). Some (Ordered (Script c p) t.order)) j.by in
    let timely : in_time run c past ≡ true =
    ap (λ (o : Option Timed). option_map_or (λ t. nat_lt (total_steps past) (t.when + BLOCK_WORDS)) o false)
    (line_got run.plan.script c t is)
    ∙ lt-ltb (total_steps past) (t.when + BLOCK_WORDS) (j.soon c t (omega arith) is may) in
    let rule : MayOrder run (Script c who) t.order past = record { allowed = may; given = (is_wanted, timely) } in
    record { wanted = is_wanted; legal = (legal, rule); judging = judged_next run who c t past rising j is may }

pub judging_ends : JudgingEnds
judging_ends run who c past rising j later =
    wants run past None j.installed (none_passes (must_stand run past) 0 run.plan.script (λ i t at.
    elim (cases_Bool (nat_lt i c)) [
      | inl below ↦ passed run who c i t past j (ltb-true i c below) at
      | inr above ↦
          let from : c ≤ i = ltb-false i c above in
          let first : IsLine run.plan.script c (slice_index_or run.plan.script c t) =
          line_at run.plan.script c t (omega (arith, from, at.within)) in
          fails (must_stand run past (line (0 + i) t)) (λ on.
          let due : is_due run past (line (0 + i) t) ≡ true = first_true _ _ on in
          let come : t.when ≤ total_steps past =
          leb-true t.when (total_steps past) (rest_true (nat_le (next_line run past) (0 + i)) _ due) in
          absurd (omega (
            arith,
            come,
            later (slice_index_or run.plan.script c t) first,
            earlier run.plan.script rising c i (slice_index_or run.plan.script c t) t from first at,
          )))
    ]))
