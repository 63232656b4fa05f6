-- A walk that goes on to the next entry.
use Rattle.std.proofs.Common.{◌≡◌, ◌+◌, ◌∙◌, ℕ, List, take, Option, Some, refl, sym, ap, subst, arith}
use Rattle.std.specs.Prelude.{slice_get}
use Rattle.std.proofs.lemmas.Option.{slice_get_within}
use Rattle.flat_model.specs.declared.journals.Entry.{Entry}
use Rattle.flat_model.specs.declared.journals.Entry.TheVariants.{Turn, Order, Back, Leave, Done}
use Rattle.flat_model.specs.declared.journals.Item.{Item}
use Rattle.flat_model.specs.Log.{log, with_entry, steps}
use Rattle.lock_step.specs.Positions.{steps_alone, with_made, so_far, HasMade, IsMade, IsPlace}
use Rattle.lock_step.proofs.Extending.{at_start, before_start, log_more}

pub goes_on : (es : List Entry) (place made : ℕ) (e : Entry) → slice_get es place ≡ Some e → IsPlace es (place + 1) 0
goes_on es place made e is = record {
  within = let below = slice_get_within es place e is in omega (arith, below);
  steps = at_start (slice_get es (place + 1));
}

made_all : (e : Entry) (made : ℕ) (past : List Item) → HasMade (Some e) made → IsMade e made
    → steps_alone (with_entry e past) ≡ steps_alone (with_made (Some e) made past)
made_all (Turn h n) made past has all =
    let same : n ≡ made = omega arith in
    ap (λ (k : ℕ). steps_alone (steps h k past)) same
made_all (Order origin order) made past has all = refl
made_all (Back h plugin) made past has all = refl
made_all (Leave h) made past has all = refl
made_all (Done party plugin) made past has all = refl

pub goes_same : (es : List Entry) (place made : ℕ) (e : Entry) → slice_get es place ≡ Some e → IsPlace es place made → IsMade e made
    → steps_alone (so_far es (place + 1) 0) ≡ steps_alone (so_far es place made)
goes_same es place made e is at all =
    ap steps_alone (before_start (slice_get es (place + 1)) (log (take (place + 1) es)) ∙ log_more es place e is)
    ∙ made_all e made (log (take place es)) (subst (λ (o : Option Entry). HasMade o made) is at.steps) all
    ∙ ap (λ (o : Option Entry). steps_alone (with_made o made (log (take place es)))) (sym is)
