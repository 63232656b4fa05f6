-- How the parts of a step's code make one step of the flat machine.
use Rattle.std.proofs.Common.{◌≡◌, ℕ, ◌+◌, ◌&&◌, Bool, true, false, if◌then◌else◌, List, ◌++◌, ◌∷◌}
use Rattle.std.proofs.Common.{[], Option, Some, None}
use Rattle.std.proofs.Common.{is_some, refl, sym, ◌∙◌, ap, append_assoc, append-nil}
use Rattle.std.specs.Option.{option_map_or}
use Rattle.flat_model.specs.declared.instructions.Ins.{Ins}
use Rattle.flat_model.specs.declared.instructions.Ins.TheVariants.{Lui, Auipc, Jal, Jalr, Branch, Load, Store, Imm, Reg, Atomic, Fence}
use Rattle.flat_model.specs.declared.instructions.Ins.TheVariants.{FenceI, Ecall, Ebreak}
use Rattle.flat_model.specs.declared.events.What.{What}
use Rattle.flat_model.specs.declared.events.What.TheVariants.{Block}
use Rattle.flat_model.specs.declared.events.Event.{Event}
use Rattle.flat_model.specs.declared.events.Ending.TheVariants.{Fault}
use Rattle.flat_model.specs.declared.events.FaultKind.TheVariants.{Fetch, Illegal}
use Rattle.flat_model.specs.declared.effects.Done.{Done}
use Rattle.flat_model.specs.declared.effects.Done.TheVariants.{Goes, Fails, Leaves}
use Rattle.flat_model.specs.declared.effects.Effect.{Effect}
use Rattle.flat_model.specs.declared.effects.Effect.TheVariants.{Does, Loads, Stores, Operates, Calls}
use Rattle.flat_model.specs.Image.{Program, word_at}
use Rattle.flat_model.specs.Permission.{Span, spans_of}
use Rattle.flat_model.specs.Instruction.{decoded, ends_block}
use Rattle.flat_model.specs.Blocks.{length_of}
use Rattle.flat_model.specs.World.{Machine, HartState, Shared}
use Rattle.flat_model.specs.Effect.{effect_of, effect_of_word}
use Rattle.flat_model.specs.Outcome.{Outcome, outcome}
use Rattle.flat_model.specs.Step.{starts_block, begun, after_done, ends_with, as_events, first_told, word_told, start_told}
use Rattle.flat_model.specs.Step.{exit_told, stepped, step_at, step_of, IsPrivateStep, IsSharedStep}
use Rattle.guest_memory.specs.Memory.{MemoryState, spans_in, harts_of}
use Rattle.rv_exec.specs.Logged.{LogState, Logs}
use Rattle.rv_exec.specs.Sharing.{ServicesState, shared_of}
use Rattle.rv_exec.specs.Going.{finished, done_alone, EndsAlone, Ends}

-- A hart whose step is counted decides and ends as it would have before.

finished_begun : (limit : ℕ) (hart : HartState) (present ends : Bool) (done : Done)
    → finished limit (begun hart present) ends done ≡ after_done limit hart present ends done
finished_begun limit hart present ends (Goes rd value target) = refl
finished_begun limit hart present ends (Fails kind) = refl
finished_begun limit hart present ends (Leaves ending) = refl

effect_begun : (hart : HartState) (present : Bool) (ins : Ins) → effect_of (begun hart present) ins ≡ effect_of hart ins
effect_begun hart present (Lui rd top) = refl
effect_begun hart present (Auipc rd top) = refl
effect_begun hart present (Jal rd off) = refl
effect_begun hart present (Jalr rd rs1 off) = refl
effect_begun hart present (Branch op rs1 rs2 off) = refl
effect_begun hart present (Load op rd rs1 off) = refl
effect_begun hart present (Store op rs1 rs2 off) = refl
effect_begun hart present (Imm op rd rs1 imm) = refl
effect_begun hart present (Reg op rd rs1 rs2) = refl
effect_begun hart present (Atomic op wide aq rl rd rs1 rs2) = refl
effect_begun hart present (Fence fm pred succ rs1 rd) = refl
effect_begun hart present (FenceI imm rs1 rd) = refl
effect_begun hart present Ecall = refl
effect_begun hart present Ebreak = refl

mapped_begun : (hart : HartState) (present : Bool) (ins : Option Ins) (other : Effect)
    → option_map_or (effect_of (begun hart present)) ins other ≡ option_map_or (effect_of hart) ins other
mapped_begun hart present None other = refl
mapped_begun hart present (Some ins) other = effect_begun hart present ins

word_begun : (hart : HartState) (present : Bool) (word : Option ℕ)
    → effect_of_word (begun hart present) word ≡ effect_of_word hart word
word_begun hart present None = refl
word_begun hart present (Some word) = mapped_begun hart present (decoded word) (Does (Fails Illegal))

outcome_begun : (spans : List Span) (harts h : ℕ) (hart : HartState) (present : Bool) (shared : Shared) (e : Effect)
    → outcome spans harts h (begun hart present) shared e ≡ outcome spans harts h hart shared e
outcome_begun spans harts h hart present shared (Does done) = refl
outcome_begun spans harts h hart present shared (Loads op rd addr) = refl
outcome_begun spans harts h hart present shared (Stores op addr value) = refl
outcome_begun spans harts h hart present shared (Operates op wide rd addr value) = refl
outcome_begun spans harts h hart present shared Calls = refl

-- The events of a step, logged one part after the other.

as_events-append : (h step : ℕ) (xs ys : List What) → as_events h step (xs ++ ys) ≡ as_events h step xs ++ as_events h step ys
as_events-append h step [] ys = refl
as_events-append h step (x ∷ xs) ys = ap (λ es. (record { hart = h; step = step; what = x }) ∷ es) (as_events-append h step xs ys)

in_two : (h step : ℕ) (before started after : List Event) (xs ys : List What)
    → started ≡ before ++ as_events h step xs → after ≡ started ++ as_events h step ys
    → after ≡ before ++ as_events h step (xs ++ ys)
in_two h step before started after xs ys first second =
    second
    ∙ ap (λ es. es ++ as_events h step ys) first
    ∙ append_assoc before (as_events h step xs) (as_events h step ys)
    ∙ ap (λ es. before ++ es) (sym (as_events-append h step xs ys))

-- a block's length is told only where a block starts
block_told_same : (starts present : Bool) (pc n m : ℕ) → (starts ≡ true → n ≡ m)
    → (if starts && present then Block pc n ∷ [] else []) ≡ (if starts && present then Block pc m ∷ [] else [])
block_told_same false present pc n m same = refl
block_told_same true present pc n m same = ap (λ k. if present then Block pc k ∷ [] else []) (same refl)

start_told_same : (hart : HartState) (word : Option ℕ) (n m : ℕ) → (starts_block hart ≡ true → n ≡ m)
    → start_told hart word n ≡ start_told hart word m
start_told_same hart word n m same =
    ap (λ told. first_told hart ++ (told ++ word_told hart.pc word)) (block_told_same (starts_block hart) (is_some word) hart.pc n m same)

-- a step of a hart that runs is that at the word at its pc
pub running_at : (m : Machine) (h : ℕ) (hart : HartState) (shared : Shared) (word : Option ℕ)
    → hart.parked ≡ false → hart.ending ≡ None → shared.group ≡ None → word ≡ word_at m.image hart.pc
    → step_of m h hart shared ≡ step_at m h hart shared word
unfolding step_of
running_at m h hart shared word awake running quiet word_is = rw (awake, running, quiet, word_is) refl

-- a step by its outcome, once all its parts are at its end
step_by : (m : Machine) (h : ℕ) (old new : HartState) (left : Shared) (before started after : List Event) (word : Option ℕ) (n : ℕ)
    (o : Outcome)
    → (starts_block old ≡ true → n ≡ length_of m.image old.pc)
    → started ≡ before ++ as_events h (old.steps + 1) (start_told old word n)
    → new ≡ finished m.limit (begun old (is_some word)) (ends_with word) o.done
    → left ≡ o.shared
    → after ≡ started ++ as_events h (old.steps + 1) (o.told ++ exit_told new.ending)
    → (given : List Event)
    × (after ≡ before ++ given)
    × (stepped m.limit h old word (length_of m.image old.pc) o ≡ record { hart = new; shared = left; events = given })
step_by m h old new left before started after word n o long started_is new_is left_is after_is =
    let told = start_told old word (length_of m.image old.pc) in
    let first : started ≡ before ++ as_events h (old.steps + 1) (start_told old word (length_of m.image old.pc)) =
    started_is ∙ ap (λ told. before ++ as_events h (old.steps + 1) told) (start_told_same old word n (length_of m.image old.pc) long) in
    let ended : new ≡ after_done m.limit old (is_some word) (ends_with word) o.done =
    new_is ∙ finished_begun m.limit old (is_some word) (ends_with word) o.done in (
      as_events h (old.steps + 1) (start_told old word (length_of m.image old.pc) ++ (o.told ++ exit_told new.ending)),
      in_two h (old.steps + 1) before started after (start_told old word (length_of m.image old.pc))
          (o.told ++ exit_told new.ending) first after_is,
      rw (ended, left_is) refl,
    )

-- a step of a hart that runs, once all its parts are at its end
pub shared_step : (m : Machine) (h : ℕ) (old new : HartState) (shared : Shared) (memory : MemoryState) (services : ServicesState)
    (before started after : LogState) (word : Option ℕ) (n : ℕ)
    → old.parked ≡ false → old.ending ≡ None → shared.group ≡ None
    → word ≡ word_at m.image old.pc
    → (starts_block old ≡ true → n ≡ length_of m.image old.pc)
    → Logs before (as_events h (old.steps + 1) (start_told old word n)) started
    → Ends (outcome (spans_of m.image m.harts) m.harts h (begun old (is_some word)) shared (effect_of_word (begun old (is_some word)) word))
    m.limit h (ends_with word) (begun old (is_some word)) new memory services started after
    → IsSharedStep m h old new shared (shared_of memory services) before.events after.events
shared_step m h old new shared memory services before started after word n awake running quiet word_is long begins ends =
    let same : outcome (spans_of m.image m.harts) m.harts h (begun old (is_some word)) shared
    (effect_of_word (begun old (is_some word)) word)
    ≡ outcome (spans_of m.image m.harts) m.harts h old shared (effect_of_word old word) =
    outcome_begun (spans_of m.image m.harts) m.harts h old (is_some word) shared (effect_of_word (begun old (is_some word)) word)
    ∙ ap (outcome (spans_of m.image m.harts) m.harts h old shared) (word_begun old (is_some word) word) in
    let o = outcome (spans_of m.image m.harts) m.harts h old shared (effect_of_word old word) in
    let by = step_by m h old new (shared_of memory services) before.events started.events after.events word n o long begins.events
    (ends.hart ∙ ap (λ (p : Outcome). finished m.limit (begun old (is_some word)) (ends_with word) p.done) same)
    (ends.shared ∙ ap (λ (p : Outcome). p.shared) same)
    (ends.logs.events ∙ ap (λ (p : Outcome). started.events ++ as_events h (old.steps + 1) (p.told ++ exit_told new.ending)) same) in
    record {
      given = by.0;
      appended = by.1;
      step = running_at m h old shared word awake running quiet word_is ∙ by.2;
    }

-- the same at a word that was decoded
pub coded_step : (image : Program) (limit h : ℕ) (old new : HartState) (shared : Shared) (here memory : MemoryState)
    (services : ServicesState) (before started after : LogState) (word : ℕ) (ins : Ins) (n : ℕ)
    → old.parked ≡ false → old.ending ≡ None → shared.group ≡ None
    → spans_in here ≡ spans_of image (harts_of here)
    → word_at image old.pc ≡ Some word → decoded word ≡ Some ins
    → (starts_block old ≡ true → n ≡ length_of image old.pc)
    → Logs before (as_events h (old.steps + 1) (start_told old (Some word) n)) started
    → Ends (outcome (spans_in here) (harts_of here) h (begun old true) shared (effect_of (begun old true) ins))
    limit h (ends_block ins) (begun old true) new memory services started after
    → IsSharedStep (record { image = image; harts = harts_of here; limit = limit }) h old new shared
    (shared_of memory services) before.events after.events
coded_step image limit h old new shared here memory services before started after word ins n awake running quiet spans word_is ins_is long
    begins ends =
    let effect_is : effect_of_word (begun old true) (Some word) ≡ effect_of (begun old true) ins =
    ap (λ i. option_map_or (effect_of (begun old true)) i (Does (Fails Illegal))) ins_is in
    let ends_is : ends_with (Some word) ≡ ends_block ins = ap (λ i. option_map_or ends_block i true) ins_is in
    shared_step (record { image = image; harts = harts_of here; limit = limit }) h old new shared memory services before started after
    (Some word) n
    awake running quiet (sym word_is) long begins
    (rw (effect_is, ends_is) (rw spans at ends))

-- a step that touches nothing shared, at a word whose effect is on the hart alone
pub private_step : (image : Program) (limit h : ℕ) (old new : HartState) (before started after : LogState) (word : Option ℕ) (n : ℕ)
    (done : Done)
    → old.parked ≡ false → old.ending ≡ None
    → word ≡ word_at image old.pc
    → (starts_block old ≡ true → n ≡ length_of image old.pc)
    → Logs before (as_events h (old.steps + 1) (start_told old word n)) started
    → effect_of_word (begun old (is_some word)) word ≡ Does done
    → new ≡ finished limit (begun old (is_some word)) (ends_with word) done
    → Logs started (as_events h (old.steps + 1) (exit_told new.ending)) after
    → IsPrivateStep image limit h old new before.events after.events
private_step image limit h old new before started after word n done awake running word_is long begins does new_is ends =
    let m : Machine = record { image = image; harts = 0; limit = limit } in
    record {
      given = as_events h (old.steps + 1) (start_told old word (length_of image old.pc) ++ ([] ++ exit_told new.ending));
      appended = in_two h (old.steps + 1) before.events started.events after.events (start_told old word (length_of image old.pc))
          ([] ++ exit_told new.ending)
          (begins.events ∙ ap (λ told. before.events ++ as_events h (old.steps + 1) told)
          (start_told_same old word n (length_of image old.pc) long))
          ends.events;
      in_every_world = λ harts shared quiet.
          let effect_is : effect_of_word old word ≡ Does done = sym (word_begun old (is_some word) word) ∙ does in
          let ended : new ≡ after_done limit old (is_some word) (ends_with word) done =
          new_is ∙ finished_begun limit old (is_some word) (ends_with word) done in
          running_at (record { image = image; harts = harts; limit = limit }) h old shared word awake running quiet word_is
          ∙ ap (λ e. stepped limit h old word (length_of image old.pc) (outcome (spans_of image harts) harts h old shared e)) effect_is
          ∙ rw ended refl;
    }

-- the same in one world
pub private_is_shared : (m : Machine) (h : ℕ) (old new : HartState) (shared : Shared) (before after : List Event)
    → shared.group ≡ None → IsPrivateStep m.image m.limit h old new before after → IsSharedStep m h old new shared shared before after
private_is_shared m h old new shared before after quiet is =
    record { given = is.given; appended = is.appended; step = is.in_every_world m.harts shared quiet }

absent_told : (hart : HartState) (n : ℕ) → start_told hart None n ≡ first_told hart
absent_told hart n = elim (starts_block hart) as (λ b. first_told hart ++ ((if b && false then Block hart.pc n ∷ [] else []) ++ [])
    ≡ first_told hart) [
      | true ↦ append-nil (first_told hart)
      | false ↦ append-nil (first_told hart)
    ]

-- at an absent word
pub absent_step : (image : Program) (limit h : ℕ) (old mid new : HartState) (before started after : LogState)
    → old.parked ≡ false → old.ending ≡ None
    → word_at image old.pc ≡ None
    → mid ≡ begun old false
    → Logs before (as_events h (old.steps + 1) (first_told old)) started
    → new ≡ record mid { ending = Some (Fault Fetch mid.pc) }
    → Logs started (as_events h mid.steps (exit_told new.ending)) after
    → IsPrivateStep image limit h old new before.events after.events
absent_step image limit h old mid new before started after awake running absent begun_is begins failed ends =
    private_step image limit h old new before started after None (length_of image old.pc) (Fails Fetch) awake running (sym absent)
    (λ _. refl)
    (rw (absent_told old (length_of image old.pc)) begins)
    refl
    (failed ∙ ap (λ (m : HartState). record m { ending = Some (Fault Fetch m.pc) }) begun_is)
    (rw begun_is at ends)

-- at an illegal word
pub illegal_step : (image : Program) (limit h : ℕ) (old mid new : HartState) (before started after : LogState) (word n : ℕ)
    → old.parked ≡ false → old.ending ≡ None
    → word_at image old.pc ≡ Some word → decoded word ≡ None
    → (starts_block old ≡ true → n ≡ length_of image old.pc)
    → mid ≡ begun old true
    → Logs before (as_events h (old.steps + 1) (start_told old (Some word) n)) started
    → new ≡ record mid { ending = Some (Fault Illegal mid.pc) }
    → Logs started (as_events h mid.steps (exit_told new.ending)) after
    → IsPrivateStep image limit h old new before.events after.events
illegal_step image limit h old mid new before started after word n awake running word_is illegal long begun_is begins failed ends =
    private_step image limit h old new before started after (Some word) n (Fails Illegal) awake running (sym word_is) long begins
    (ap (λ i. option_map_or (effect_of (begun old true)) i (Does (Fails Illegal))) illegal)
    (failed ∙ ap (λ (m : HartState). record m { ending = Some (Fault Illegal m.pc) }) begun_is)
    (rw begun_is at ends)

-- at a word that was decoded
pub lone_step : (image : Program) (limit h : ℕ) (old mid new : HartState) (before started after : LogState) (word : ℕ) (ins : Ins) (n : ℕ)
    → old.parked ≡ false → old.ending ≡ None
    → word_at image old.pc ≡ Some word → decoded word ≡ Some ins
    → (starts_block old ≡ true → n ≡ length_of image old.pc)
    → mid ≡ begun old true
    → Logs before (as_events h (old.steps + 1) (start_told old (Some word) n)) started
    → EndsAlone (effect_of mid ins) limit h (ends_block ins) mid new started after
    → IsPrivateStep image limit h old new before.events after.events
lone_step image limit h old mid new before started after word ins n awake running word_is ins_is long begun_is begins ends =
    let done = done_alone (effect_of (begun old true) ins) in
    let here : EndsAlone (effect_of (begun old true) ins) limit h (ends_block ins)
    (begun old true) new started after = rw begun_is at ends in
    let ends_is : ends_with (Some word) ≡ ends_block ins = ap (λ i. option_map_or ends_block i true) ins_is in
    private_step image limit h old new before started after (Some word) n (done_alone (effect_of (begun old true) ins)) awake running
    (sym word_is) long begins
    (ap (λ i. option_map_or (effect_of (begun old true)) i (Does (Fails Illegal))) ins_is ∙ here.alone)
    (rw ends_is here.hart)
    here.logs
