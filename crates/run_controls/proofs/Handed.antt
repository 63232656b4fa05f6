-- What a party has in hand, as the log goes on by whole holds.
use Rattle.std.proofs.Common.{◌≡◌, ◌≢◌, ◌==◌, ◌∷◌, [], ◌++◌, ◌∙◌, ℕ, Bool, true, false, not, List, Option, Some, None}
use Rattle.std.proofs.Common.{refl, sym, ap, subst, arith}
use Rattle.std.specs.Prelude.{MatchOption, option_map, is_some, if◌then◌else◌}
use Rattle.std.specs.List.{cons_option}
use Rattle.std.specs.Cmp.Derive.{both_true}
use Rattle.std.proofs.lemmas.Bool.Decides.{nat_tests}
use Rattle.flat_model.specs.declared.journals.Item.{Item}
use Rattle.flat_model.specs.declared.journals.Item.TheVariants.{Step, Ordered, GaveBack, Left, Told, Got, Took}
use Rattle.flat_model.specs.declared.journals.Order.{Order}
use Rattle.flat_model.specs.declared.journals.Origin.TheVariants.{Control}
use Rattle.flat_model.specs.Log.{party}
use Rattle.flat_model.specs.Registry.{registry, is_complete, has_left}
use Rattle.baton_gate.specs.Logs.{GoesOn, Ahead}
use Rattle.baton_gate.proofs.LogLemmas.{goes_on, goes_once, goes_weaker}
use Rattle.run_rules.specs.Guest.{plugins}
use Rattle.run_rules.specs.Due.{wanted}
use Rattle.run_rules.specs.Heard.{progress}
use Rattle.run_rules.specs.Legal.{Legal}
use Rattle.run_rules.specs.Places.{IsStateLog, taker}
use Rattle.run_rules.proofs.Fitting.{complete}
use Rattle.run_rules.proofs.Turns.{first_true}
use Rattle.run_order.specs.Sets.{Notice, notice_of, notices_of}
use Rattle.run_order.specs.InOrder.{Task, InHand, task_run}
use Rattle.kept_order.specs.Closing.{is_due}
use Rattle.run_controls.specs.Hands.{HasOnItsWay, IsNoDoneOf, IsOnItsWay, told, ReplaysNone}
use Rattle.run_controls.proofs.Staying.{closings_stay_in_hand}
use Rattle.std.proofs.lemmas.List.{append-nil}

-- As the log goes on.

no_done : (who : ℕ) (i : Item) → party i ≢ who → IsNoDoneOf who i
no_done who (Step hart) off = tt
no_done who (Ordered origin order) off = tt
no_done who (GaveBack hart plugin) off = tt
no_done who (Left hart) off = tt
no_done who (Told by plugin) off = off
no_done who (Got hart plugin) off = tt
no_done who (Took by plugin) off = tt

pub none_done : (who : ℕ) (seen now : List Item) → Ahead party now who seen → GoesOn (IsNoDoneOf who) seen now
none_done who seen now ahead = goes_weaker (λ i. party i ≢ who) (IsNoDoneOf who) seen now ahead (no_done who)

-- and then by an order of the party
pub none_done_by_order : (who by : ℕ) (order : Order) (seen taken now : List Item) → Ahead party taken who seen
    → now ≡ Ordered (Control by) order ∷ taken → GoesOn (IsNoDoneOf who) seen now
none_done_by_order who by order seen taken now ahead is =
    subst (λ (xs : List Item). GoesOn (IsNoDoneOf who) seen xs) (sym is)
    (goes_on (IsNoDoneOf who) (IsNoDoneOf who) (IsNoDoneOf who) seen taken (Ordered (Control by) order ∷ taken)
    (none_done who seen taken ahead) (goes_once (IsNoDoneOf who) taken (Ordered (Control by) order) tt) (λ i is. is) (λ i is. is))

pub still_in_hand : (t : Task) (who : ℕ) (seen now : List Item) (hand : Option InHand) → ReplaysNone who → Legal (task_run t) now
    → IsStateLog (task_run t) now → GoesOn (IsNoDoneOf who) seen now → HasOnItsWay t who seen hand → HasOnItsWay t who now hand
still_in_hand t who seen now None apart legal state goes has = tt
still_in_hand t who seen now (Some c) apart legal state goes has = closings_stay_in_hand t who seen now c apart legal state goes has

-- As it is taken.

own : (q : ℕ) → (q == q) ≡ true
own q = grind (arith, nat_tests)

-- what a closing in hand says of its plug-in, by a log
abbrev Says : Task → ℕ → List Item → List Notice → Option Notice → Type 0
Says t p past notices back = MatchOption back
    (notices ≡ notices_of (task_run t) p past ++ notice_of (task_run t) p past ∷ [])
    (λ n. (notices ≡ notices_of (task_run t) p past) × (n ≡ notice_of (task_run t) p past))

pub taken_in_hand : (t : Task) (who : ℕ) (past : List Item) (c : InHand) → is_due (task_run t) c.plugin past ≡ true
    → c.notices ≡ notices_of (task_run t) c.plugin past → c.back ≡ Some (notice_of (task_run t) c.plugin past)
    → IsOnItsWay t who (Took who c.plugin ∷ past) c
unfolding registry taker notices_of progress
taken_in_hand t who past c due notices back =
    let r = plugins (task_run t) past in
    let there = first_true (is_complete r c.plugin) _ due in
    record {
      complete = there;
      in_hand = record {
        taken = ap (λ (b : Bool). if b then Some who else taker c.plugin past) (own c.plugin);
        undone = (complete r c.plugin 0 there).1;
        notices = subst (Says t c.plugin past c.notices) (sym back) (notices, refl);
      };
    }

-- As its closer is told.

told_says : (t : Task) (p : ℕ) (past : List Item) (notices : List Notice) (back : Option Notice)
    → Says t p past notices back
    → notices ++ cons_option back [] ≡ notices_of (task_run t) p past ++ notice_of (task_run t) p past ∷ []
told_says t p past notices None is = append-nil notices ∙ is
told_says t p past notices (Some n) is = λ i. is.0 i ++ is.1 i ∷ []

pub told_in_hand : (t : Task) (who : ℕ) (seen : List Item) (hand : Option InHand) → HasOnItsWay t who seen hand
    → HasOnItsWay t who seen (option_map told hand)
told_in_hand t who seen None has = tt
told_in_hand t who seen (Some c) has =
    let is = has.in_hand in
    record {
      complete = has.complete;
      in_hand = record { taken = is.taken; undone = is.undone; notices = told_says t c.plugin seen c.notices c.back is.notices };
    }

-- Its Done.

pub done_legal : (t : Task) (who : ℕ) (past : List Item) (c : InHand) → Legal (task_run t) past → IsOnItsWay t who past c
    → has_left (plugins (task_run t) past) who ≡ false → wanted (task_run t) past ≡ None → Legal (task_run t) (Told who c.plugin ∷ past)
unfolding Legal
done_legal t who past c legal has there none = (
  legal,
  both_true has.complete (both_true (ap not there) (ap (λ (o : Option Item). not (is_some o)) none)),
)
