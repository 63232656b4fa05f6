-- What one hold does to a shelf.
use Rattle.std.proofs.Common.{◌≡◌, ℕ, List, [], ◌∷◌, ◌++◌, Contains, Result, Ok, Err, OnOk, OnErr, sym, refl, ap}
use Rattle.std.proofs.Common.{◌∙◌, subst}
use Rattle.std.proofs.lemmas.List.Elements.{Contains-push}
use Rattle.flat_model.specs.declared.refusals.NoMemory.{NoMemory}
use Rattle.baton_gate.specs.declared.passes.Pass.{Pass}
use Rattle.baton_gate.specs.declared.views.View.{View}
use Rattle.baton_gate.specs.Course.{taken, given}
use Rattle.baton_gate.specs.Passes.{known, seen}
use Rattle.baton_tests.specs.Turns.{IsOfTwo}
use Rattle.baton_gate.specs.Logs.{Ahead, Adds}
use Rattle.baton_gate.proofs.LogLemmas.{goes_nowhere, goes_once}
use Rattle.baton_tests.specs.declared.entries.Entry.{Entry}
use Rattle.baton_tests.specs.declared.entries.Entry.TheVariants.{Step, Parked as Put}
use Rattle.baton_tests.specs.Shelf.{hart_of, heard_by, parked_in, HasBox, Contents, IsTold}
use Rattle.baton_tests.proofs.ShelfLemmas.{heard_step, heard_ahead, has_ahead}

pub record AfterNote (r : Result (Unit {0}) NoMemory) (old new : Contents) (hart number : ℕ) : Type 0 where
  pub adds : Adds hart_of new.log hart old.log
  pub told : IsTold old → IsTold new
  pub own : HasBox hart old.log → HasBox hart new.log
  pub heard : OnOk r (heard_by hart new.log ≡ heard_by hart old.log ++ number ∷ [])

noted : (old : Contents) (hart number : ℕ) → AfterNote (Ok tt) old (record old { log = Step hart number ∷ old.log }) hart number
noted old hart number = record {
  adds = goes_once (λ e. hart_of e ≡ hart) old.log (Step hart number) refl;
  told = λ t. t;
  own = λ h. h;
  heard = heard_step hart number old.log;
}

pub after_note : (r : Result (Unit {0}) NoMemory) (old new : Contents) (hart number : ℕ) → OnOk r (new ≡ record old { log = Step hart number ∷ old.log })
    → OnErr r (new ≡ old) → AfterNote r old new hart number
after_note (Ok u) old new hart number e _ = subst (λ (s : Contents). AfterNote (Ok tt) old s hart number) (sym e) (noted old hart number)
after_note (Err e) old new hart number _ same = subst (λ (s : Contents). AfterNote (Err e) old s hart number) (sym same)
    (record { adds = goes_nowhere (λ e. hart_of e ≡ hart) old.log; told = λ t. t; own = λ h. h; heard = tt })

pub record AfterPark (r : Result (Unit {0}) NoMemory) (old new : Contents) (hart : ℕ) : Type 0 where
  pub adds : Adds hart_of new.log hart old.log
  pub told : IsTold old → IsTold new
  pub heard : heard_by hart new.log ≡ heard_by hart old.log
  pub parked : OnOk r (Contains (parked_in new.log) hart)

put : (old : Contents) (hart : ℕ) → AfterPark (Ok tt) old (record old { log = Put hart ∷ old.log; told = old.told ++ hart ∷ [] }) hart
put old hart = record {
  adds = goes_once (λ e. hart_of e ≡ hart) old.log (Put hart) refl;
  told = λ t. ap (λ l. l ++ hart ∷ []) t;
  heard = refl;
  parked = Contains-push (parked_in old.log) hart;
}

pub after_park : (r : Result (Unit {0}) NoMemory) (old new : Contents) (hart : ℕ) → OnOk r (new ≡ record old { log = Put hart ∷ old.log; told = old.told ++ hart ∷ [] })
    → OnErr r (new ≡ old) → AfterPark r old new hart
after_park (Ok u) old new hart e _ = subst (λ (s : Contents). AfterPark (Ok tt) old s hart) (sym e) (put old hart)
after_park (Err e) old new hart _ same = subst (λ (s : Contents). AfterPark (Err e) old s hart) (sym same)
    (record { adds = goes_nowhere (λ e. hart_of e ≡ hart) old.log; told = λ t. t; heard = refl; parked = tt })

pub on_ok : {A B : Type 0} (r : Result (Unit {0}) NoMemory) → OnOk r A → (A → B) → OnOk r B
on_ok (Ok u) a f = f a
on_ok (Err e) a f = tt

module _ {S F : Type 0} where
  -- a hart's pass holds a shelf, which it took with a pass that had seen less
  pub record AtHold (before held : Pass S Entry F) (hart : ℕ) (shelf : Contents) : Type 0 where
    pub hart_is : hart ≡ before.party
    pub holder : hart ≡ held.party
    pub seen_is : seen held ≡ shelf.log
    pub own : HasBox before.party (seen before) → HasBox hart shelf.log
    pub heard : heard_by hart shelf.log ≡ heard_by before.party (seen before)

  pub at_hold : (before held : Pass S Entry F) (hart : ℕ) (value shelf : Contents) → hart ≡ held.party → held.party ≡ before.party → known held ≡ taken (known before) value.log
      → shelf ≡ value → Ahead hart_of value.log before.party (seen before) → AtHold before held hart shelf
  at_hold before held hart value shelf e f knows same ahead =
      let hart_is : hart ≡ before.party = e ∙ f in
      let ahead' : Ahead hart_of shelf.log hart (seen before) = subst (λ (y : ℕ × Contents). Ahead hart_of y.1.log y.0 (seen before)) (λ i. (sym hart_is i, sym same i)) ahead in
      record {
        hart_is = hart_is;
        holder = e;
        seen_is = ap (λ (v : View Entry F). v.seen) knows ∙ ap (λ (s : Contents). s.log) (sym same);
        own = λ has. has_ahead hart (seen before) shelf.log ahead' (subst (λ (k : ℕ). HasBox k (seen before)) (sym hart_is) has);
        heard = heard_ahead hart (seen before) shelf.log ahead' ∙ ap (λ (k : ℕ). heard_by k (seen before)) hart_is;
      }

  -- what a give asks of the log
  pub may_give : (before held : Pass S Entry F) (hart : ℕ) (shelf : Contents) (log : List Entry) → AtHold before held hart shelf → Adds hart_of log hart shelf.log
      → Adds hart_of log held.party (seen held)
  may_give before held hart shelf log at adds = subst (λ (y : ℕ × List Entry). Adds hart_of log y.0 y.1) (λ i. (at.holder i, sym at.seen_is i)) adds

  -- a hold leaves the gate's opening and its number of parties as they were
  pub still_of_two : (p q r : Pass S Entry F) (log log' : List Entry) → IsOfTwo p → known q ≡ taken (known p) log → known r ≡ given (known q) log' → IsOfTwo r
  still_of_two p q r log log' two e f = record {
    began = ap (λ (v : View Entry F). v.opening) f ∙ ap (λ (v : View Entry F). v.opening) e ∙ two.began;
    count_is = ap (λ (v : View Entry F). v.parties) f ∙ ap (λ (v : View Entry F). v.parties) e ∙ two.count_is;
  }
