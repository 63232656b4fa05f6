-- Logs that go on.
use Rattle.std.proofs.Common.{◌≡◌, ◌+◌, ◌-◌, ◌≤◌, ◌∙◌, ℕ, zero, suc, List, [], ◌∷◌, ◌++◌, take}
use Rattle.std.proofs.Common.{Option, Some, None, refl, sym, ap, subst, append_assoc, append-nil, add-one, arith, true}
use Rattle.std.specs.Prelude.{slice_get}
use Rattle.flat_model.specs.declared.events.Event.{Event}
use Rattle.flat_model.specs.declared.journals.Entry.{Entry}
use Rattle.flat_model.specs.declared.journals.Entry.TheVariants.{Turn, Order, Back, Leave, Done}
use Rattle.flat_model.specs.declared.journals.Item.{Item}
use Rattle.flat_model.specs.declared.journals.Item.TheVariants.{Step, Ordered, GaveBack, Left, Told, Got, Took}
use Rattle.flat_model.specs.declared.journals.Mode.{Mode}
use Rattle.flat_model.specs.Log.{log, log_from, with_entry, steps}
use Rattle.flat_model.specs.World.{Machine}
use Rattle.flat_model.specs.Worlds.{next_step}
use Rattle.lock_step.specs.Runs.{can_step, IsRun}
use Rattle.lock_step.specs.Tellings.{all_told}
use Rattle.lock_step.specs.Positions.{with_made, so_far, HasMade}

-- a log goes on behind another
pub record Extends (past now : List Item) : Type 0 where
  pub more : List Item
  pub is : now ≡ more ++ past

pub same : (past : List Item) → Extends past past
same past = record { more = []; is = refl }

pub one : (x : Item) (past now : List Item) → Extends past now → Extends past (x ∷ now)
one x past now e = record { more = x ∷ e.more; is = ap (λ (l : List Item). x ∷ l) e.is }

pub both : (first second third : List Item) → Extends first second → Extends second third → Extends first third
both first second third a b = record {
  more = b.more ++ a.more;
  is = b.is ∙ ap (λ (l : List Item). b.more ++ l) a.is ∙ sym (append_assoc b.more a.more first);
}

few_steps : (h j made n : ℕ) (past : List Item) → j + made ≡ n → Extends (steps h made past) (steps h n past)
few_steps h zero made n past is =
    let e : made ≡ n = omega arith in
    subst (λ (k : ℕ). Extends (steps h made past) (steps h k past)) e (same (steps h made past))
few_steps h (suc j) made zero past is = absurd (omega arith)
few_steps h (suc j) made (suc n) past is =
    one (Step h) (steps h made past) (steps h n past) (few_steps h j made n past (omega arith))

pub steps_extend : (h made n : ℕ) (past : List Item) → made ≤ n → Extends (steps h made past) (steps h n past)
steps_extend h made n past low = few_steps h (n - made) made n past (omega arith)

entry_extends : (e : Entry) (made : ℕ) (past : List Item) → HasMade (Some e) made
    → Extends (with_made (Some e) made past) (with_entry e past)
entry_extends (Turn h n) made past has = steps_extend h made n past has
entry_extends (Order origin order) made past has = one (Ordered origin order) past past (same past)
entry_extends (Back h plugin) made past has = one (GaveBack h plugin) past past (same past)
entry_extends (Leave h) made past has = one (Left h) past past (same past)
entry_extends (Done party plugin) made past has = one (Told party plugin) past past (same past)

none_made : (o : Option Entry) (past : List Item) → with_made o zero past ≡ past
none_made None past = refl
none_made (Some (Turn h n)) past = refl
none_made (Some (Order origin order)) past = refl
none_made (Some (Back h plugin)) past = refl
none_made (Some (Leave h)) past = refl
none_made (Some (Done party plugin)) past = refl

has_none : (o : Option Entry) → HasMade o zero
has_none None = tt
has_none (Some (Turn h n)) = omega arith
has_none (Some (Order origin order)) = tt
has_none (Some (Back h plugin)) = tt
has_none (Some (Leave h)) = tt
has_none (Some (Done party plugin)) = tt

pub at_start : (o : Option Entry) → HasMade o 0
at_start o = has_none o

pub before_start : (o : Option Entry) (past : List Item) → with_made o 0 past ≡ past
before_start o past = none_made o past

entries_extend : (es : List Entry) (past : List Item) → Extends past (log_from past es)
entries_extend [] past = same past
entries_extend (e ∷ es) past =
    both past (with_entry e past) (log_from (with_entry e past) es)
    (subst (λ (l : List Item). Extends l (with_entry e past)) (none_made (Some e) past) (entry_extends e zero past (has_none (Some e))))
    (entries_extend es (with_entry e past))

-- the steps so far are a beginning of the whole log
extends_from : (es : List Entry) (place made : ℕ) (past : List Item) → HasMade (slice_get es place) made
    → Extends (with_made (slice_get es place) made (log_from past (take place es))) (log_from past es)
extends_from [] zero made past has = same past
extends_from [] (suc place) made past has = same past
extends_from (e ∷ es) zero made past has =
    both (with_made (Some e) made past) (with_entry e past) (log_from (with_entry e past) es)
    (entry_extends e made past has) (entries_extend es (with_entry e past))
extends_from (e ∷ es) (suc place) made past has = extends_from es place made (with_entry e past) has

pub log_extends : (es : List Entry) (place made : ℕ) → HasMade (slice_get es place) made → Extends (so_far es place made) (log es)
log_extends es place made has = extends_from es place made [] has

-- the log of one entry more
more_from : (es : List Entry) (place : ℕ) (e : Entry) (past : List Item) → slice_get es place ≡ Some e
    → log_from past (take (suc place) es) ≡ with_entry e (log_from past (take place es))
more_from [] zero e past is = absurd cc
more_from [] (suc place) e past is = absurd cc
more_from (x ∷ es) zero e past is = let same : x ≡ e = cc in ap (λ (y : Entry). with_entry y past) same
more_from (x ∷ es) (suc place) e past is = more_from es place e (with_entry x past) is

pub log_more : (es : List Entry) (place : ℕ) (e : Entry) → slice_get es place ≡ Some e
    → log (take (place + 1) es) ≡ with_entry e (log (take place es))
log_more es place e is = rw add-one (more_from es place e [] is)

-- what is told goes on too
pub record TellsOn (m : Machine) (mode : Mode) (past now : List Item) : Type 0 where
  pub left : List Event
  pub is : all_told m mode now ≡ all_told m mode past ++ left

told_before : (m : Machine) (mode : Mode) (more past : List Item) → TellsOn m mode past (more ++ past)
unfolding all_told
told_before m mode [] past = record { left = []; is = sym (append-nil (all_told m mode past)) }
told_before m mode (Step h ∷ more) past =
    let before = told_before m mode more past in
    let events = (next_step m mode (more ++ past) h).events in
    record {
      left = before.left ++ events;
      is = ap (λ (l : List Event). l ++ events) before.is ∙ append_assoc (all_told m mode past) before.left events;
    }
told_before m mode (Ordered origin order ∷ more) past = let b = told_before m mode more past in record { left = b.left; is = b.is }
told_before m mode (GaveBack h plugin ∷ more) past = let b = told_before m mode more past in record { left = b.left; is = b.is }
told_before m mode (Left h ∷ more) past = let b = told_before m mode more past in record { left = b.left; is = b.is }
told_before m mode (Told party plugin ∷ more) past = let b = told_before m mode more past in record { left = b.left; is = b.is }
told_before m mode (Got h plugin ∷ more) past = let b = told_before m mode more past in record { left = b.left; is = b.is }
told_before m mode (Took party plugin ∷ more) past = let b = told_before m mode more past in record { left = b.left; is = b.is }

pub tells_on : (m : Machine) (mode : Mode) (past now : List Item) → Extends past now → TellsOn m mode past now
tells_on m mode past now e = subst (TellsOn m mode past) (sym e.is) (told_before m mode e.more past)

-- and a run was one before
run_before : (m : Machine) (mode : Mode) (more past : List Item) → IsRun m mode (more ++ past) → IsRun m mode past
unfolding IsRun
run_before m mode [] past runs = runs
run_before m mode (Step h ∷ more) past runs = run_before m mode more past runs.0
run_before m mode (Ordered origin order ∷ more) past runs = run_before m mode more past runs
run_before m mode (GaveBack h plugin ∷ more) past runs = run_before m mode more past runs
run_before m mode (Left h ∷ more) past runs = run_before m mode more past runs
run_before m mode (Told party plugin ∷ more) past runs = run_before m mode more past runs
run_before m mode (Got h plugin ∷ more) past runs = run_before m mode more past runs
run_before m mode (Took party plugin ∷ more) past runs = run_before m mode more past runs

pub was_run : (m : Machine) (mode : Mode) (past now : List Item) → Extends past now → IsRun m mode now → IsRun m mode past
was_run m mode past now e runs = run_before m mode e.more past (subst (IsRun m mode) e.is runs)

pub could_step : (m : Machine) (mode : Mode) (h : ℕ) (past : List Item) → IsRun m mode (Step h ∷ past) → can_step m mode past h ≡ true
unfolding IsRun
could_step m mode h past runs = runs.1

pub steps_run : (m : Machine) (mode : Mode) (h : ℕ) (past : List Item) → IsRun m mode past → can_step m mode past h ≡ true
    → IsRun m mode (Step h ∷ past)
unfolding IsRun
steps_run m mode h past runs can = (runs, can)

pub opening_run : (m : Machine) (mode : Mode) → IsRun m mode []
unfolding IsRun
opening_run m mode = tt
