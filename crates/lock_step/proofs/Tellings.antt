-- What each hart tells of what all tell.
use Rattle.std.proofs.Common.{◌≡◌, ◌+◌, ◌<◌, ◌≤◌, ◌==◌, ◌∙◌, ℕ, zero, suc, Bool, true, false, List, [], ◌∷◌, ◌++◌, length, inl, inr}
use Rattle.std.proofs.Common.{Option, Some, None, refl, sym, ap, subst, append-nil, length-append, arith, All, if◌then◌else◌, cond}
use Rattle.std.proofs.lemmas.Bool.{cases_Bool}
use Rattle.std.proofs.lemmas.Bool.Decides.{nat_tests}
use Rattle.std.proofs.lemmas.List.{length-map}
use Rattle.std.proofs.lemmas.List.Elements.{filter-append}
use Rattle.flat_model.specs.declared.events.Event.{Event}
use Rattle.flat_model.specs.declared.events.What.{What}
use Rattle.flat_model.specs.declared.journals.Item.{Item}
use Rattle.flat_model.specs.declared.journals.Item.TheVariants.{Step, Ordered, GaveBack, Left, Told, Got, Took}
use Rattle.flat_model.specs.declared.journals.Mode.{Mode}
use Rattle.flat_model.specs.Image.{word_at}
use Rattle.flat_model.specs.Permission.{spans_of}
use Rattle.flat_model.specs.Blocks.{length_of}
use Rattle.flat_model.specs.Effect.{effect_of_word}
use Rattle.flat_model.specs.Outcome.{outcome}
use Rattle.flat_model.specs.Step.{step_of, step_at, is_over, start_told, first_told, block_told, word_told, exit_told, as_events, hart_after}
use Rattle.flat_model.specs.World.{Machine, HartState, Shared}
use Rattle.flat_model.specs.Worlds.{world, hart_of, next_step, events, unplaced}
use Rattle.flat_model.proofs.Worlds.{tells_its_steps, tells_by_steps_alone}
use Rattle.rv_exec.specs.Laws.{IsOfStep}
use Rattle.rv_exec.proofs.Whose.{events_are_of_their_step}
use Rattle.lock_step.specs.Tellings.{all_told, of_hart, HartsTellTheirOwn}

same : (h : ℕ) → (h == h) ≡ true
same h = grind (arith, nat_tests)

-- events of one hart's step are all of that hart's, or none of another's
own : (h step pc : ℕ) (es : List Event) → All (IsOfStep h step pc) es → of_hart h es ≡ es
own h step pc [] all = refl
own h step pc (e ∷ es) all =
    let first : IsOfStep h step pc e = all zero e (omega arith) in
    let is : (e.hart == h) ≡ true = ap (λ (n : ℕ). n == h) first.hart ∙ same h in
    ap (λ (b : Bool). cond b (e ∷ of_hart h es) (of_hart h es)) is
    ∙ ap (λ (l : List Event). e ∷ l) (own h step pc es (λ k d below. all (suc k) d (omega (arith, below))))

none : (k h step pc : ℕ) (es : List Event) → (h == k) ≡ false → All (IsOfStep h step pc) es → of_hart k es ≡ []
none k h step pc [] other all = refl
none k h step pc (e ∷ es) other all =
    let first : IsOfStep h step pc e = all zero e (omega arith) in
    let is : (e.hart == k) ≡ false = ap (λ (n : ℕ). n == k) first.hart ∙ other in
    ap (λ (b : Bool). cond b (e ∷ of_hart k es) (of_hart k es)) is
    ∙ none k h step pc es other (λ j d below. all (suc j) d (omega (arith, below)))

-- a step of the hart adds all its events, and one of another hart none
pub own_step : (m : Machine) (mode : Mode) (h : ℕ) (past : List Item)
    → of_hart h (all_told m mode (Step h ∷ past)) ≡ of_hart h (all_told m mode past) ++ (next_step m mode past h).events
unfolding all_told
own_step m mode h past =
    let es = (next_step m mode past h).events in
    filter-append (λ (e : Event). e.hart == h) (all_told m mode past) es
    ∙ ap (λ (l : List Event). of_hart h (all_told m mode past) ++ l)
    (own h _ _ es (events_are_of_their_step m h (hart_of m mode past h) (world m mode past).shared))

pub other_step : (m : Machine) (mode : Mode) (k h : ℕ) (past : List Item) → (h == k) ≡ false
    → of_hart k (all_told m mode (Step h ∷ past)) ≡ of_hart k (all_told m mode past)
unfolding all_told
other_step m mode k h past other =
    let es = (next_step m mode past h).events in
    filter-append (λ (e : Event). e.hart == k) (all_told m mode past) es
    ∙ ap (λ (l : List Event). of_hart k (all_told m mode past) ++ l)
    (none k h _ _ es other (events_are_of_their_step m h (hart_of m mode past h) (world m mode past).shared))
    ∙ append-nil (of_hart k (all_told m mode past))

pub harts_tell_their_own : HartsTellTheirOwn
unfolding all_told events
harts_tell_their_own m mode h [] = refl
harts_tell_their_own m mode h (Step k ∷ past) = elim (cases_Bool (k == h)) [
  | inl at ↦
      let e : k ≡ h = grind (arith, nat_tests, at) in
      subst (λ (j : ℕ). of_hart h (all_told m mode (Step j ∷ past)) ≡ unplaced (events m mode h (Step j ∷ past))) (sym e)
      (own_step m mode h past
      ∙ ap (λ (l : List Event). l ++ (next_step m mode past h).events) (harts_tell_their_own m mode h past)
      ∙ sym (tells_its_steps m mode h past))
  | inr off ↦
      other_step m mode h k past off ∙ harts_tell_their_own m mode h past ∙ sym (tells_by_steps_alone m mode h k past off)
]
harts_tell_their_own m mode h (Ordered origin order ∷ past) = harts_tell_their_own m mode h past
harts_tell_their_own m mode h (GaveBack k plugin ∷ past) = harts_tell_their_own m mode h past
harts_tell_their_own m mode h (Left k ∷ past) = harts_tell_their_own m mode h past
harts_tell_their_own m mode h (Told party plugin ∷ past) = harts_tell_their_own m mode h past
harts_tell_their_own m mode h (Got k plugin ∷ past) = harts_tell_their_own m mode h past
harts_tell_their_own m mode h (Took party plugin ∷ past) = harts_tell_their_own m mode h past

-- A step of a hart that runs tells something.

counted : (h step : ℕ) (a b c : List What) → length (as_events h step (a ++ (b ++ c))) ≡ length a + (length b + length c)
counted h step a b c =
    let made : What → Event = λ what. record { hart = h; step = step; what = what } in
    length-map (a ++ (b ++ c)) made ∙ length-append a (b ++ c)
    ∙ ap (λ (n : ℕ). length a + n) (length-append b c)

tells_word : (hart : HartState) (word n : ℕ) → 0 < length (start_told hart (Some word) n)
tells_word hart word n =
    let outer = length-append (first_told hart) (block_told hart (Some word) n ++ word_told hart.pc (Some word)) in
    let inner = length-append (block_told hart (Some word) n) (word_told hart.pc (Some word)) in
    omega (arith, outer, inner)

tells_at : (m : Machine) (h : ℕ) (hart : HartState) (shared : Shared) (word : Option ℕ)
    → 0 < length (step_at m h hart shared word).events
tells_at m h hart shared None =
    let o = outcome (spans_of m.image m.harts) m.harts h hart shared (effect_of_word hart None) in
    let all = counted h (hart.steps + 1) (start_told hart None (length_of m.image hart.pc)) o.told
    (exit_told (hart_after m.limit hart None o.done).ending) in
    omega (arith, all)
tells_at m h hart shared (Some word) =
    let o = outcome (spans_of m.image m.harts) m.harts h hart shared (effect_of_word hart (Some word)) in
    let n = length_of m.image hart.pc in
    let all = counted h (hart.steps + 1) (start_told hart (Some word) n) o.told
    (exit_told (hart_after m.limit hart (Some word) o.done).ending) in
    let some = tells_word hart word n in
    omega (arith, all, some)

pub tells_some : (m : Machine) (h : ℕ) (hart : HartState) (shared : Shared) → is_over hart shared ≡ false
    → 0 < length (step_of m h hart shared).events
unfolding step_of
tells_some m h hart shared goes =
    subst (λ (b : Bool). 0 < length (if b then (record { hart = hart; shared = shared; events = [] })
    else step_at m h hart shared (word_at m.image hart.pc)).events) (sym goes) (tells_at m h hart shared (word_at m.image hart.pc))

-- those of a hart are no more than all
pub no_more : (h : ℕ) (es : List Event) → length (of_hart h es) ≤ length es
no_more h [] = omega arith
no_more h (e ∷ es) =
    let rest = no_more h es in
    elim (e.hart == h) as (λ (b : Bool). length (cond b (e ∷ of_hart h es) (of_hart h es)) ≤ length (e ∷ es)) [
      | true ↦ omega (arith, rest)
      | false ↦ omega (arith, rest)
    ]
