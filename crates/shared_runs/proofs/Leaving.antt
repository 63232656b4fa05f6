-- Where a hart is behind the words of a block.
use Rattle.std.proofs.Common.{◌≡◌, ℕ, ◌+◌, ◌*◌, ◌%◌, ◌<◌, ◌≤◌, inl, inr, Bool, true, false}
use Rattle.std.proofs.Common.{Option, Some, None, IsSome, refl, sym, ◌∙◌, ap, subst, arith, List}
use Rattle.std.specs.Option.{option_map_or}
use Rattle.std.proofs.lemmas.Bool.Decides.{nat_tests}
use Rattle.flat_model.specs.declared.effects.Done.{Done}
use Rattle.flat_model.specs.declared.effects.Done.TheVariants.{Goes, Fails, Leaves}
use Rattle.flat_model.specs.declared.events.Event.{Event}
use Rattle.flat_model.specs.Image.{Program, word_at}
use Rattle.flat_model.specs.Permission.{spans_of}
use Rattle.flat_model.specs.Blocks.{StopsAfter, word_ends}
use Rattle.flat_model.specs.World.{Machine, HartState, Shared}
use Rattle.flat_model.specs.Effect.{effect_of_word}
use Rattle.flat_model.specs.Outcome.{outcome}
use Rattle.flat_model.specs.Step.{Stepped, hart_after, ends_with, since_after, step_at, IsSharedStep}
use Rattle.rv_exec.proofs.Stepping.{running_at}

-- the hart that a step leaves of one that runs
hart_of_step : (m : Machine) (h : ℕ) (old new : HartState) (shared left : Shared) (before after : List Event)
    → old.parked ≡ false → old.ending ≡ None → shared.group ≡ None → IsSharedStep m h old new shared left before after
    → (step_at m h old shared (word_at m.image old.pc)).hart ≡ new
hart_of_step m h old new shared left before after awake running quiet step =
    ap (λ (s : Stepped). s.hart) (sym (running_at m h old shared (word_at m.image old.pc) awake running quiet refl) ∙ step.step)

-- its steps since the last block start, by where it is
since_done : (limit : ℕ) (hart : HartState) (word : Option ℕ) (done : Done) → (hart_after limit hart word done).ending ≡ None
    → (hart_after limit hart word done).since ≡ since_after hart.since (ends_with word) (hart_after limit hart word done).pc
since_done limit hart word (Goes rd value target) goes = refl
since_done limit hart word (Fails kind) goes = cc
since_done limit hart word (Leaves ending) goes = cc

since_of_step : (m : Machine) (h : ℕ) (old new : HartState) (shared left : Shared) (before after : List Event)
    → old.parked ≡ false → old.ending ≡ None → shared.group ≡ None → IsSharedStep m h old new shared left before after
    → new.ending ≡ None → new.since ≡ since_after old.since (ends_with (word_at m.image old.pc)) new.pc
since_of_step m h old new shared left before after awake running quiet step goes =
    let word : Option ℕ = word_at m.image old.pc in
    let done : Done = (outcome (spans_of m.image m.harts) m.harts h old shared (effect_of_word old word)).done in
    let P : HartState → Type 0 = λ s. s.ending ≡ None → s.since ≡ since_after old.since (ends_with word) s.pc in
    subst P (hart_of_step m h old new shared left before after awake running quiet step) (since_done m.limit old word done) goes

-- a step that starts no block led to no page's start, and its word ended no block
no_page : (since pc : ℕ) (ends : Bool) → 0 < since_after since ends pc → pc % 4096 ≡ 0 → ⊥
no_page since pc true on page = omega arith
no_page since pc false on page = grind (arith, nat_tests)

no_end : (since pc : ℕ) (ends : Bool) → 0 < since_after since ends pc → ends ≡ true → ⊥
no_end since pc true on is = omega arith
no_end since pc false on is = cc

ended : (word : Option ℕ) → option_map_or word_ends word false ≡ true → ends_with word ≡ true
ended None ends = refl
ended (Some word) ends = ends

-- why the block has no more words
stopped : (image : Program) (start n k : ℕ) (old new : HartState)
    → old.pc ≡ start + 4 * k → new.pc ≡ start + 4 * n → n ≡ k + 1
    → new.since ≡ since_after old.since (ends_with (word_at image old.pc)) new.pc → 0 < new.since → n < 512
    → start % 4096 + 4 * n ≤ 4096 → StopsAfter image start n
    → word_at image new.pc ≡ None
stopped image start n k old new here next last is on small page (inl full) = absurd (omega arith)
stopped image start n k old new here next last is on small page (inr (inl end)) =
    let at : new.pc % 4096 ≡ 0 = omega arith in
    absurd (no_page old.since new.pc (ends_with (word_at image old.pc)) (rw is at on) at)
stopped image start n k old new here next last is on small page (inr (inr (inl absent))) = rw next absent
stopped image start n k old new here next last is on small page (inr (inr (inr (l, is_last, ends)))) =
    let same : start + 4 * l ≡ old.pc = omega arith in
    absurd (no_end old.since new.pc (ends_with (word_at image old.pc)) (rw is at on) (ended (word_at image old.pc) (rw same at ends)))

-- a hart that is inside a block behind its last word is at an absent one
pub absent_behind : (m : Machine) (h start n k : ℕ) (old new : HartState) (shared left : Shared) (before after : List Event)
    → old.parked ≡ false → old.ending ≡ None → shared.group ≡ None → IsSharedStep m h old new shared left before after
    → new.ending ≡ None → 0 < new.since → n < 512
    → old.pc ≡ start + 4 * k → new.pc ≡ start + 4 * n → n ≡ k + 1
    → start % 4096 + 4 * n ≤ 4096 → StopsAfter m.image start n
    → word_at m.image new.pc ≡ None
absent_behind m h start n k old new shared left before after awake running quiet step goes on small here next last page stops =
    stopped m.image start n k old new here next last
    (since_of_step m h old new shared left before after awake running quiet step goes) on small page stops

-- a step at an absent word ends its hart
pub ends_absent : (m : Machine) (h : ℕ) (old new : HartState) (shared left : Shared) (before after : List Event)
    → old.parked ≡ false → old.ending ≡ None → shared.group ≡ None → IsSharedStep m h old new shared left before after
    → word_at m.image old.pc ≡ None → IsSome new.ending
ends_absent m h old new shared left before after awake running quiet step absent =
    let is : (step_at m h old shared None).hart ≡ new =
    ap (λ (w : Option ℕ). (step_at m h old shared w).hart) (sym absent)
    ∙ hart_of_step m h old new shared left before after awake running quiet step in
    let P : HartState → Type 0 = λ s. IsSome s.ending in
    subst P is refl
