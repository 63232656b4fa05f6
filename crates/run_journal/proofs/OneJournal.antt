-- A log gives back the journal that it is the log of, where its Turns are joined.
use Rattle.std.proofs.Common.{◌≡◌, ℕ, zero, suc, ◌+◌, false, cond, List, [], ◌∷◌, ◌++◌, Some, None, refl, sym, ap}
use Rattle.std.proofs.Common.{subst, ◌∙◌, arith, append-nil, append_assoc, eq-eqb}
use Rattle.flat_model.specs.declared.journals.Entry.{Entry}
use Rattle.flat_model.specs.declared.journals.Entry.TheVariants.{Turn, Order, Back, Leave, Done}
use Rattle.flat_model.specs.declared.journals.Item.{Item}
use Rattle.flat_model.specs.declared.journals.Item.TheVariants.{Step, Ordered, GaveBack, Left, Told, Got, Took}
use Rattle.flat_model.specs.Log.{steps, with_entry, log_from, log, turning, are_one, HasSteps, IsJoinedAfter, IsJoined, last_turn}
use Rattle.flat_model.specs.Log.{JournalIsOne}
use Rattle.run_journal.specs.Journal.{recorded, replacing}
use Rattle.run_journal.proofs.Recorded.{recorded-cons, alone-recorded, last_turn-push}

-- the journal of a log, one item after the other
rebuilt : List Item → List Entry
rebuilt [] = []
rebuilt (Step hart ∷ past) = recorded (rebuilt past) (Turn hart 1)
rebuilt (Ordered origin order ∷ past) = rebuilt past ++ Order origin order ∷ []
rebuilt (GaveBack hart plugin ∷ past) = rebuilt past ++ Back hart plugin ∷ []
rebuilt (Left hart ∷ past) = rebuilt past ++ Leave hart ∷ []
rebuilt (Told who plugin ∷ past) = rebuilt past ++ Done who plugin ∷ []
rebuilt (Got hart plugin ∷ past) = rebuilt past
rebuilt (Took who plugin ∷ past) = rebuilt past

-- a Turn that follows a Turn of its hart
longer : (xs : List Entry) (hart n m : ℕ) → recorded (xs ++ Turn hart n ∷ []) (Turn hart m) ≡ xs ++ Turn hart (n + m) ∷ []
longer [] hart n m =
    ap (λ b. replacing (Turn hart n ∷ []) (Turn hart m) (cond b (Some (Turn hart (n + m))) None)) (eq-eqb hart hart refl)
longer (x ∷ []) hart n m = recorded-cons x (Turn hart n) [] (Turn hart m) ∙ ap (λ es. x ∷ es) (longer [] hart n m)
longer (x ∷ y ∷ ys) hart n m =
    recorded-cons x y (ys ++ Turn hart n ∷ []) (Turn hart m) ∙ ap (λ es. x ∷ es) (longer (y ∷ ys) hart n m)

-- steps of a hart that had not the last Turn
rebuilt-steps : (hart n : ℕ) (past : List Item) → are_one (last_turn None (rebuilt past)) (Some hart) ≡ false
    → rebuilt (steps hart (suc n) past) ≡ rebuilt past ++ Turn hart (suc n) ∷ []
unfolding rebuilt
rebuilt-steps hart zero past other = alone-recorded (rebuilt past) (Turn hart 1) other
rebuilt-steps hart (suc n) past other =
    let more : suc n + 1 ≡ suc (suc n) = omega arith in
    ap (λ es. recorded es (Turn hart 1)) (rebuilt-steps hart n past other)
    ∙ longer (rebuilt past) hart (suc n) 1
    ∙ ap (λ k. rebuilt past ++ Turn hart k ∷ []) more

rebuilt-entry : (e : Entry) (past : List Item) → HasSteps e → are_one (last_turn None (rebuilt past)) (turning e) ≡ false
    → rebuilt (with_entry e past) ≡ rebuilt past ++ e ∷ []
unfolding rebuilt
rebuilt-entry (Turn hart zero) past some other = absurd (omega arith)
rebuilt-entry (Turn hart (suc n)) past some other = rebuilt-steps hart n past other
rebuilt-entry (Order origin order) past some other = refl
rebuilt-entry (Back hart plugin) past some other = refl
rebuilt-entry (Leave hart) past some other = refl
rebuilt-entry (Done party plugin) past some other = refl

rebuilt-log : (es : List Entry) (past : List Item) → IsJoinedAfter (last_turn None (rebuilt past)) es
    → rebuilt (log_from past es) ≡ rebuilt past ++ es
rebuilt-log [] past joined = sym (append-nil (rebuilt past))
rebuilt-log (e ∷ es) past joined =
    let one = rebuilt-entry e past joined.0 joined.1 in
    let last : last_turn None (rebuilt (with_entry e past)) ≡ turning e = ap (last_turn None) one ∙ last_turn-push None (rebuilt past) e in
    rebuilt-log es (with_entry e past) (subst (λ t. IsJoinedAfter t es) (sym last) joined.2)
    ∙ ap (λ xs. xs ++ es) one
    ∙ append_assoc (rebuilt past) (e ∷ []) es

rebuilt-whole : (es : List Entry) → IsJoined es → rebuilt (log es) ≡ es
unfolding rebuilt
rebuilt-whole es joined = rebuilt-log es [] joined

pub journal_is_one : JournalIsOne
journal_is_one es fs first second same = sym (rebuilt-whole es first) ∙ ap rebuilt same ∙ rebuilt-whole fs second
