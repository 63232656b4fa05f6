-- What one more entry does to the log, to the joined Turns and to the number of steps.
use Rattle.std.proofs.Common.{◌≡◌, ℕ, zero, suc, ◌+◌, ◌-◌, ◌*◌, ◌<◌, ◌≤◌, ◌^◌, eqb, Bool, true, false}
use Rattle.std.proofs.Common.{cond, List, [], ◌∷◌, ◌++◌, length, Option, Some, None, refl, sym, ap, subst, ◌∙◌, arith}
use Rattle.std.specs.Prelude.{IfSome, slice_get, slice_set}
use Rattle.std.specs.List.{AllByRecursion}
use Rattle.std.proofs.lemmas.Bool.{eqb-true}
use Rattle.flat_model.specs.declared.journals.Entry.{Entry}
use Rattle.flat_model.specs.declared.journals.Entry.TheVariants.{Turn, Order, Back, Leave, Done}
use Rattle.flat_model.specs.declared.journals.Item.{Item}
use Rattle.flat_model.specs.declared.journals.Item.TheVariants.{Step}
use Rattle.flat_model.specs.Log.{steps, with_entry, log_from, log, total_steps, turning, are_one, HasSteps, IsJoinedAfter, IsJoined}
use Rattle.flat_model.specs.Log.{last_turn}
use Rattle.run_journal.specs.Journal.{IsSmall, joined, joined_turn, replacing, recorded, steps_in}

pub steps-add : (hart n m : ℕ) (past : List Item) → steps hart (n + m) past ≡ steps hart m (steps hart n past)
steps-add hart n zero past = ap (λ k. steps hart k past) (omega arith)
steps-add hart n (suc m) past =
    let e : n + suc m ≡ suc (n + m) = omega arith in
    ap (λ k. steps hart k past) e ∙ ap (λ items. Step hart ∷ items) (steps-add hart n m past)

pub total_steps-steps : (hart n : ℕ) (past : List Item) → total_steps (steps hart n past) ≡ total_steps past + n
total_steps-steps hart zero past = omega arith
total_steps-steps hart (suc n) past = omega (arith, total_steps-steps hart n past)

pub total_steps-with_entry : (e : Entry) (past : List Item) → total_steps (with_entry e past) ≡ total_steps past + steps_in e
total_steps-with_entry (Turn hart n) past = total_steps-steps hart n past
total_steps-with_entry (Order origin order) past = omega arith
total_steps-with_entry (Back hart plugin) past = omega arith
total_steps-with_entry (Leave hart) past = omega arith
total_steps-with_entry (Done party plugin) past = omega arith

steps_in-small : (e : Entry) → IsSmall e → steps_in e < 2 ^ 32
steps_in-small (Turn hart n) small = small
steps_in-small (Order origin order) small = omega arith
steps_in-small (Back hart plugin) small = omega arith
steps_in-small (Leave hart) small = omega arith
steps_in-small (Done party plugin) small = omega arith

total_steps-bound : (past : List Item) (es : List Entry) → AllByRecursion IsSmall es → total_steps (log_from past es) ≤ total_steps past + length es * 2 ^ 32
total_steps-bound past [] small = omega arith
total_steps-bound past (e ∷ es) small =
    omega (arith, total_steps-bound (with_entry e past) es small.1, total_steps-with_entry e past, steps_in-small e small.0)

pub steps-bound : (es : List Entry) → AllByRecursion IsSmall es → total_steps (log es) ≤ length es * 2 ^ 32
steps-bound es small = omega (arith, total_steps-bound [] es small)

-- ---- one more entry, at the last of many

last_is : (x y : Entry) (ys : List Entry) → slice_get (x ∷ y ∷ ys) (length (x ∷ y ∷ ys) - 1) ≡ slice_get (y ∷ ys) (length (y ∷ ys) - 1)
last_is x y ys =
    let far : length (x ∷ y ∷ ys) - 1 ≡ suc (length ys) = omega arith in
    let near : length (y ∷ ys) - 1 ≡ length ys = omega arith in
    ap (slice_get (x ∷ y ∷ ys)) far ∙ ap (slice_get (y ∷ ys)) (sym near)

pub joined_turn-cons : (x y : Entry) (ys : List Entry) (e : Entry) → joined_turn (x ∷ y ∷ ys) e ≡ joined_turn (y ∷ ys) e
joined_turn-cons x y ys e = ap (λ last. joined last e) (last_is x y ys)

replacing-cons : (x y : Entry) (ys : List Entry) (e : Entry) (turn : Option Entry) → replacing (x ∷ y ∷ ys) e turn ≡ x ∷ replacing (y ∷ ys) e turn
replacing-cons x y ys e (Some turn) =
    let far : length (x ∷ y ∷ ys) - 1 ≡ suc (length ys) = omega arith in
    let near : length (y ∷ ys) - 1 ≡ length ys = omega arith in
    ap (λ i. slice_set (x ∷ y ∷ ys) i turn) far ∙ ap (λ i. x ∷ slice_set (y ∷ ys) i turn) (sym near)
replacing-cons x y ys e None = refl

pub recorded-cons : (x y : Entry) (ys : List Entry) (e : Entry) → recorded (x ∷ y ∷ ys) e ≡ x ∷ recorded (y ∷ ys) e
recorded-cons x y ys e = ap (replacing (x ∷ y ∷ ys) e) (joined_turn-cons x y ys e) ∙ replacing-cons x y ys e (joined_turn (y ∷ ys) e)

-- ---- the log

log-one_turn : (past : List Item) (last n hart more : ℕ) (b : Bool) → eqb last hart ≡ b → log_from past (replacing (Turn last n ∷ []) (Turn hart more) (cond b (Some (Turn hart (n + more))) None)) ≡ steps hart more (steps last n past)
log-one_turn past last n hart more true e = rw (eqb-true last hart e) (steps-add hart n more past)
log-one_turn past last n hart more false e = refl

log-one : (past : List Item) (x e : Entry) → log_from past (recorded (x ∷ []) e) ≡ with_entry e (with_entry x past)
log-one past (Turn last n) (Turn hart more) = log-one_turn past last n hart more (eqb last hart) refl
log-one past x e = refl

log-more : (past : List Item) (x : Entry) (xs : List Entry) (e : Entry) → log_from past (recorded (x ∷ xs) e) ≡ with_entry e (log_from past (x ∷ xs))
log-more past x [] e = log-one past x e
log-more past x (y ∷ ys) e = ap (log_from past) (recorded-cons x y ys e) ∙ log-more (with_entry x past) y ys e

pub log-recorded : (es : List Entry) (e : Entry) → log (recorded es e) ≡ with_entry e (log es)
log-recorded [] e = refl
log-recorded (x ∷ xs) e = log-more [] x xs e

-- ---- joined Turns

IsJoined-one_turn : (before : Option ℕ) (last n hart more : ℕ) (b : Bool) → eqb last hart ≡ b → IsJoinedAfter before (Turn last n ∷ []) → 0 < more → IsJoinedAfter before (replacing (Turn last n ∷ []) (Turn hart more) (cond b (Some (Turn hart (n + more))) None))
IsJoined-one_turn before last n hart more true e was steps =
    let of_one : last ≡ hart = eqb-true last hart e in
    (omega arith, rw (← of_one) was.1, tt)
IsJoined-one_turn before last n hart more false e was steps = (was.0, was.1, (steps, e, tt))

IsJoined-one : (before : Option ℕ) (x e : Entry) → IsJoinedAfter before (x ∷ []) → HasSteps e → IsJoinedAfter before (recorded (x ∷ []) e)
IsJoined-one before (Turn last n) (Turn hart more) was steps = IsJoined-one_turn before last n hart more (eqb last hart) refl was steps
IsJoined-one before x e was steps = (was.0, was.1, (steps, refl, tt))

IsJoined-more : (before : Option ℕ) (x : Entry) (xs : List Entry) (e : Entry) → IsJoinedAfter before (x ∷ xs) → HasSteps e → IsJoinedAfter before (recorded (x ∷ xs) e)
IsJoined-more before x [] e was steps = IsJoined-one before x e was steps
IsJoined-more before x (y ∷ ys) e was steps = rw recorded-cons (was.0, was.1, IsJoined-more (turning x) y ys e was.2 steps)

pub IsJoined-recorded : (es : List Entry) (e : Entry) → IsJoined es → HasSteps e → IsJoined (recorded es e)
IsJoined-recorded [] e was steps = (steps, refl, tt)
IsJoined-recorded (x ∷ xs) e was steps = IsJoined-more None x xs e was steps

-- ---- Turns that fit

small-replacing : (x e : Entry) (turn : Option Entry) → IsSmall x → IsSmall e → IfSome turn IsSmall → AllByRecursion IsSmall (replacing (x ∷ []) e turn)
small-replacing x e (Some turn) first next fits = (fits, tt)
small-replacing x e None first next fits = (first, (next, tt))

small-more : (x : Entry) (xs : List Entry) (e : Entry) → AllByRecursion IsSmall (x ∷ xs) → IsSmall e → IfSome (joined_turn (x ∷ xs) e) IsSmall → AllByRecursion IsSmall (recorded (x ∷ xs) e)
small-more x [] e was next fits = small-replacing x e (joined_turn (x ∷ []) e) was.0 next fits
small-more x (y ∷ ys) e was next fits =
    rw recorded-cons (was.0, small-more y ys e was.1 next (subst (λ turn. IfSome turn IsSmall) (joined_turn-cons x y ys e) fits))

pub small-recorded : (es : List Entry) (e : Entry) → AllByRecursion IsSmall es → IsSmall e → IfSome (joined_turn es e) IsSmall → AllByRecursion IsSmall (recorded es e)
small-recorded [] e was next fits = (next, tt)
small-recorded (x ∷ xs) e was next fits = small-more x xs e was next fits

pub is_small : (e : Entry) → steps_in e < 2 ^ 32 → IsSmall e
is_small (Turn hart n) small = small
is_small (Order origin order) small = tt
is_small (Back hart plugin) small = tt
is_small (Leave hart) small = tt
is_small (Done party plugin) small = tt

-- ---- an entry that joins nothing

alone-one : (x e : Entry) → are_one (turning x) (turning e) ≡ false → recorded (x ∷ []) e ≡ x ∷ e ∷ []
alone-one (Turn last n) (Turn hart more) other = ap (λ b. replacing (Turn last n ∷ []) (Turn hart more) (cond b (Some (Turn hart (n + more))) None)) other
alone-one x e other = refl

alone-more : (x : Entry) (xs : List Entry) (e : Entry) → are_one (last_turn (turning x) xs) (turning e) ≡ false → recorded (x ∷ xs) e ≡ (x ∷ xs) ++ e ∷ []
alone-more x [] e other = alone-one x e other
alone-more x (y ∷ ys) e other = recorded-cons x y ys e ∙ ap (λ es. x ∷ es) (alone-more y ys e other)

pub alone-recorded : (es : List Entry) (e : Entry) → are_one (last_turn None es) (turning e) ≡ false → recorded es e ≡ es ++ e ∷ []
alone-recorded [] e other = refl
alone-recorded (x ∷ xs) e other = alone-more x xs e other

alone-none : (x e : Entry) → are_one (turning x) (turning e) ≡ false → joined (Some x) e ≡ None
alone-none (Turn last n) (Turn hart more) other = ap (λ b. cond b (Some (Turn hart (n + more))) None) other
alone-none x e other = refl

none-more : (x : Entry) (xs : List Entry) (e : Entry) → are_one (last_turn (turning x) xs) (turning e) ≡ false → joined_turn (x ∷ xs) e ≡ None
none-more x [] e other = alone-none x e other
none-more x (y ∷ ys) e other = joined_turn-cons x y ys e ∙ none-more y ys e other

-- an entry that joins nothing joins nothing
pub joined_turn-alone : (es : List Entry) (e : Entry) → are_one (last_turn None es) (turning e) ≡ false → joined_turn es e ≡ None
joined_turn-alone [] e other = refl
joined_turn-alone (x ∷ xs) e other = none-more x xs e other

pub last_turn-push : (last : Option ℕ) (es : List Entry) (e : Entry) → last_turn last (es ++ e ∷ []) ≡ turning e
last_turn-push last [] e = refl
last_turn-push last (x ∷ xs) e = last_turn-push (turning x) xs e
