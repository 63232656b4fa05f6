-- The lengths of Turns: a hart that hasn't ended has made fewer steps than the limit, and each step of a Turn is one that it made.
use Rattle.std.proofs.Common.{◌≡◌, ◌==◌, ◌&&◌, ◌||◌, ◌+◌, ◌<◌, ◌≤◌, ◌^◌, ◌∷◌, [], ◌∙◌, ℕ, zero, suc, Bool, true, false, not, List}
use Rattle.std.proofs.Common.{Option, Some, None, refl, sym, ap, subst, arith, inl, inr}
use Rattle.std.specs.Prelude.{if◌then◌else◌, is_some, IfSome}
use Rattle.std.proofs.lemmas.Bool.{cases_Bool, false≢true, or_parts}
use Rattle.std.proofs.lemmas.Bool.Decides.{nat_tests}
use Rattle.flat_model.specs.declared.effects.Done.{Done}
use Rattle.flat_model.specs.declared.effects.Done.TheVariants.{Goes, Fails, Leaves}
use Rattle.flat_model.specs.declared.events.Ending.{Ending}
use Rattle.flat_model.specs.declared.events.Ending.TheVariants.{Limit}
use Rattle.flat_model.specs.declared.journals.Entry.{Entry}
use Rattle.flat_model.specs.declared.journals.Entry.TheVariants as entries
use Rattle.flat_model.specs.declared.journals.Item.{Item}
use Rattle.flat_model.specs.declared.journals.Item.TheVariants.{Step, Ordered, GaveBack, Left, Told, Got, Took}
use Rattle.flat_model.specs.declared.journals.Mode.{Mode}
use Rattle.flat_model.specs.Image.{Program}
use Rattle.flat_model.specs.Log.{steps, with_entry, log_from, journaled}
use Rattle.flat_model.specs.Step.{step_of, step, is_over, ending_at, after_done, awoken}
use Rattle.flat_model.specs.World.{Machine, Start, HartState, Shared, opening_start, hart_by}
use Rattle.flat_model.specs.Worlds.{world, hart_of}
use Rattle.run_journal.specs.Journal.{joined_turn, IsSmall}
use Rattle.run_journal.proofs.Recorded.{steps-add, joined_turn-cons}
use Rattle.run_rules.specs.Legal.{Legal, is_there, runs}
use Rattle.run_rules.proofs.Journals.{logs_are_of_their_journals}
use Rattle.run_rules.proofs.Turns.{same, first_true, rest_true}
use Rattle.run_order.specs.InOrder.{Task, task_run}
use Rattle.kept_order.specs.Fitting.{TurnsFit}

-- Harts that haven't ended.

abbrev IsBelow : ℕ → HartState → Type 0
IsBelow limit hart = hart.ending ≡ None → hart.steps < limit

goes_below : (limit n : ℕ) → n < limit → ending_at limit (n + 1) ≡ None → n + 1 < limit
goes_below limit n low none =
    elim (cases_Bool (n + 1 == limit)) [
      | inr off ↦ grind (arith, nat_tests, off, low)
      | inl at ↦
          let ends : ending_at limit (n + 1) ≡ Some Limit = rw at refl in
          absurd cc
    ]

-- a step counts one
one_made : (limit : ℕ) (hart : HartState) (present ends : Bool) (d : Done) → (after_done limit hart present ends d).steps ≡ hart.steps + 1
one_made limit hart present ends (Goes rd value target) = refl
one_made limit hart present ends (Fails kind) = refl
one_made limit hart present ends (Leaves ending) = refl

done_below : (limit : ℕ) (hart : HartState) (present ends : Bool) (d : Done) → hart.steps < limit
    → IsBelow limit (after_done limit hart present ends d)
done_below limit hart present ends (Goes rd value target) low = λ none. goes_below limit hart.steps low none
done_below limit hart present ends (Fails kind) low = λ none. absurd cc
done_below limit hart present ends (Leaves ending) low = λ none. absurd cc

none_is : (o : Option Ending) → is_some o ≡ false → o ≡ None
none_is None is = refl
none_is (Some ending) is = absurd (false≢true (sym is))

step_made : (m : Machine) (h : ℕ) (hart : HartState) (shared : Shared) → is_over hart shared ≡ false
    → (step_of m h hart shared).hart.steps ≡ hart.steps + 1
unfolding step_of
step_made m h hart shared goes = rw goes (one_made m.limit hart _ _ _)

step_below : (m : Machine) (h : ℕ) (hart : HartState) (shared : Shared) → IsBelow m.limit hart
    → IsBelow m.limit (step_of m h hart shared).hart
unfolding step_of
step_below m h hart shared below =
    elim (cases_Bool (is_over hart shared)) [
      | inl over ↦ rw over below
      | inr goes ↦
          let none : hart.ending ≡ None =
          none_is hart.ending (or_parts hart.parked (is_some hart.ending)
          (or_parts (hart.parked || is_some hart.ending) (is_some shared.group) goes).0).1 in
          rw goes (done_below m.limit hart _ _ _ (below none))
    ]

awoken_below : (limit k harts : ℕ) (before after : Option Start) (hart : HartState) → 1 ≤ limit → IsBelow limit hart
    → IsBelow limit (awoken k harts before after hart)
awoken_below limit k harts None None hart some below = below
awoken_below limit k harts None (Some start) hart some below = λ none. some
awoken_below limit k harts (Some start) after hart some below = below

opening_below : (limit h harts : ℕ) (image : Program) (o : Option Start) → 1 ≤ limit → IsBelow limit (hart_by image h harts o)
opening_below limit h harts image None some = λ none. some
opening_below limit h harts image (Some start) some = λ none. some

either_below : (limit : ℕ) (first : Bool) (x y : HartState) → IsBelow limit x → IsBelow limit y → IsBelow limit (if first then x else y)
either_below limit true x y a b = a
either_below limit false x y a b = b

below : (m : Machine) (mode : Mode) (past : List Item) (h : ℕ) → 1 ≤ m.limit → IsBelow m.limit (hart_of m mode past h)
unfolding world step
below m mode [] h some = opening_below m.limit h m.harts m.image (opening_start m.image mode h) some
below m mode (Step hart ∷ past) h some =
    let w = world m mode past in
    let s = step_of m hart (w.harts hart) w.shared in
    either_below m.limit (h == hart) s.hart (awoken h m.harts (w.shared.starts h) (s.shared.starts h) (w.harts h))
    (step_below m hart (w.harts hart) w.shared (below m mode past hart some))
    (awoken_below m.limit h m.harts (w.shared.starts h) (s.shared.starts h) (w.harts h) some (below m mode past h some))
below m mode (Ordered origin order ∷ past) h some = below m mode past h some
below m mode (GaveBack hart plugin ∷ past) h some = below m mode past h some
below m mode (Left hart ∷ past) h some = below m mode past h some
below m mode (Told party plugin ∷ past) h some = below m mode past h some
below m mode (Got hart plugin ∷ past) h some = below m mode past h some
below m mode (Took party plugin ∷ past) h some = below m mode past h some

-- The steps of a Turn.

own_step : (m : Machine) (mode : Mode) (h : ℕ) (past : List Item)
    → hart_of m mode (Step h ∷ past) h ≡ (step_of m h (hart_of m mode past h) (world m mode past).shared).hart
unfolding world step
own_step m mode h past = rw (same h) refl

-- a hart that runs
goes_on : (parked ended group : Bool) → (not parked && (not ended && not group)) ≡ true → ((parked || ended) || group) ≡ false
goes_on false false false is = refl
goes_on true ended group is = absurd (false≢true is)
goes_on false true group is = absurd (false≢true is)
goes_on false false true is = absurd (false≢true is)

running : (t : Task) (h : ℕ) (past : List Item) → Legal (task_run t) (Step h ∷ past)
    → is_over (hart_of t.machine t.mode past h) (world t.machine t.mode past).shared ≡ false
unfolding Legal
running t h past legal =
    let hart = hart_of t.machine t.mode past h in
    goes_on hart.parked (is_some hart.ending) (is_some (world t.machine t.mode past).shared.group)
    (first_true (runs (task_run t) h past) _ (rest_true (is_there (task_run t) h past) _ legal.1))

steps_made : (t : Task) (h n : ℕ) (past : List Item) → Legal (task_run t) (steps h n past)
    → n ≤ (hart_of t.machine t.mode (steps h n past) h).steps
unfolding Legal
steps_made t h zero past legal = omega arith
steps_made t h (suc n) past legal =
    let before = steps h n past in
    let one : (hart_of t.machine t.mode (Step h ∷ before) h).steps ≡ (hart_of t.machine t.mode before h).steps + 1 =
    ap (λ (k : HartState). k.steps) (own_step t.machine t.mode h before)
    ∙ step_made t.machine h (hart_of t.machine t.mode before h) (world t.machine t.mode before).shared (running t h before legal) in
    omega (arith, one, steps_made t h n past legal.0)

within_limit : (t : Task) (h n : ℕ) (past : List Item) → 1 ≤ t.machine.limit → Legal (task_run t) (steps h n past) → n ≤ t.machine.limit
unfolding Legal
within_limit t h zero past some legal = omega arith
within_limit t h (suc n) past some legal =
    let before = steps h n past in
    let hart = hart_of t.machine t.mode before h in
    let goes = running t h before legal in
    let none : hart.ending ≡ None =
    none_is hart.ending (or_parts hart.parked (is_some hart.ending) (or_parts (hart.parked || is_some hart.ending) _ goes).0).1 in
    omega (arith, steps_made t h n past legal.0, below t.machine t.mode before h some none)

-- The last entry.

journaled_steps : (h n : ℕ) (past : List Item) → journaled (steps h n past) ≡ steps h n (journaled past)
journaled_steps h zero past = refl
journaled_steps h (suc n) past = ap (λ (xs : List Item). Step h ∷ xs) (journaled_steps h n past)

last_fits : (t : Task) (h n : ℕ) (before : List Item) (last : Entry) → 1 ≤ t.machine.limit → t.machine.limit < 2 ^ 32
    → Legal (task_run t) (steps h n (with_entry last before)) → IfSome (joined_turn (last ∷ []) (entries.Turn h n)) IsSmall
last_fits t h n before (entries.Turn hart k) some most legal =
    elim (cases_Bool (hart == h)) [
      | inr off ↦ rw off tt
      | inl own ↦
          let e : hart ≡ h = grind (arith, nat_tests, own) in
          let joined : Legal (task_run t) (steps h (k + n) before) =
          subst (Legal (task_run t)) (ap (λ (j : ℕ). steps h n (steps j k before)) e ∙ sym (steps-add h k n before)) legal in
          rw own (omega (arith, within_limit t h (k + n) before some joined))
    ]
last_fits t h n before (entries.Order origin order) some most legal = tt
last_fits t h n before (entries.Back hart plugin) some most legal = tt
last_fits t h n before (entries.Leave hart) some most legal = tt
last_fits t h n before (entries.Done party plugin) some most legal = tt

entries_fit : (t : Task) (h n : ℕ) (before : List Item) (es : List Entry) → 1 ≤ t.machine.limit → t.machine.limit < 2 ^ 32
    → Legal (task_run t) (steps h n (log_from before es)) → IfSome (joined_turn es (entries.Turn h n)) IsSmall
entries_fit t h n before [] some most legal = tt
entries_fit t h n before (e ∷ []) some most legal = last_fits t h n before e some most legal
entries_fit t h n before (x ∷ y ∷ es) some most legal =
    subst (λ (turn : Option Entry). IfSome turn IsSmall) (sym (joined_turn-cons x y es (entries.Turn h n)))
    (entries_fit t h n (with_entry x before) (y ∷ es) some most legal)

pub turns_fit : TurnsFit
turns_fit t h n s some most o legal =
    let of_journal : Legal (task_run t) (journaled (steps h n s.past)) =
    (logs_are_of_their_journals t.machine t.mode t.plan (steps h n s.past)).legal legal in
    entries_fit t h n [] s.entries some most
    (subst (Legal (task_run t)) (journaled_steps h n s.past ∙ ap (steps h n) (sym o.journal)) of_journal)
