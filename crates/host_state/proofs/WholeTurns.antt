-- Turns of which a hart makes the first steps by itself and the others with what is shared.
use Rattle.std.proofs.Common.{◌≡◌, ◌+◌, ◌-◌, ◌*◌, ◌^◌, ◌<◌, ◌≤◌, ◌∙◌, ℕ, zero, suc, List, [], true, false, Option, Some, None}
use Rattle.std.proofs.Common.{refl, sym, ap, subst, inl, inr, arith}
use Rattle.std.specs.Prelude.{IsSome}
use Rattle.std.proofs.lemmas.Bool.{cases_order, false≢true}
use Rattle.std.proofs.lemmas.Bool.Decides.{nat_tests}
use Rattle.flat_model.specs.declared.events.Ending.{Ending}
use Rattle.flat_model.specs.declared.events.Event.{Event}
use Rattle.flat_model.specs.declared.journals.Item.{Item}
use Rattle.flat_model.specs.Effect.{word_touches_shared}
use Rattle.flat_model.specs.Image.{Program, word_at}
use Rattle.flat_model.specs.Log.{log, steps}
use Rattle.flat_model.specs.Step.{Stepped, starts_block, steps_of}
use Rattle.flat_model.specs.World.{Machine, HartState, Shared, IsHart}
use Rattle.flat_model.specs.Worlds.{world, hart_of, IsRunOf}
use Rattle.flat_model.proofs.Worlds.{runs_alone}
use Rattle.block_finder.specs.Block.{Stretch, IsBlock}
use Rattle.private_runs.specs.Runs.{ArePrivateSteps, GoesOn, Stops}
use Rattle.shared_runs.specs.Runs.{AreSharedSteps, RunsOn}
use Rattle.guest_memory.specs.Memory.{MemoryState, harts_of}
use Rattle.rv_exec.specs.Sharing.{ServicesState, shared_of, machine_on, KeepsLayout, KeepsPlaces}
use Rattle.run_journal.specs.Journal.{JournalState}
use Rattle.run_rules.specs.Laws.{MayTurn}
use Rattle.run_rules.specs.Legal.{Legal, runs, is_there}
use Rattle.run_rules.specs.Places.{takes_all}
use Rattle.run_rules.proofs.Turns.{turns_are_legal}
use Rattle.run_order.specs.InOrder.{task_run}
use Rattle.kept_order.specs.Lying.{GoesInside}
use Rattle.kept_order.proofs.Gone.{there_low}
use Rattle.kept_order.proofs.InBlocks.{AllInside, among_words}
use Rattle.kept_order.proofs.Rows.{private_turns_go_on, harts_run}
use Rattle.host_state.specs.Moving.{IsPrivateTurn, StaysInside, IsAtWord, IsRest}
use Rattle.host_state.specs.State.{StateValue, IsSound}
use Rattle.host_state.proofs.Commits.{group_of, of_run, committed, memory_stays}
use Rattle.host_state.proofs.Rows.{and_then, in_a_row}

-- The steps that the hart makes by itself.

abbrev pub stepped : HartState → Shared → List Event → Stepped
stepped hart shared events = record { hart = hart; shared = shared; events = events }

private_steps : (m : Machine) (h k : ℕ) (old mid : HartState) (shared : Shared) (events : List Event) → shared.group ≡ None
    → ArePrivateSteps m.image m.limit h k old mid [] events → steps_of m h k old shared ≡ stepped mid shared events
private_steps m h k old mid shared events quiet are =
    are.in_every_world m.harts shared quiet ∙ ap (λ (es : List Event). stepped mid shared es) (sym are.appended)

-- each goes on inside the block
private_inside : (m : Machine) (h k : ℕ) (old mid : HartState) (shared : Shared) (events : List Event) → shared.group ≡ None
    → IsPrivateTurn m.image m.limit h k old mid events → AllInside m h k old shared
private_inside m h k old mid shared events quiet turn j below =
    let goes : GoesOn m.image j (steps_of m h j old shared).hart = turn.each m.harts shared quiet j below in
    record { running = goes.running; inside = goes.inside }

not_start : (hart : HartState) → 0 < hart.since → starts_block hart ≡ false
not_start hart inside = grind (arith, nat_tests)

-- and so does the step behind them, where the hart stays inside
stays_inside : (m : Machine) (h k : ℕ) (old mid : HartState) (shared : Shared) (events : List Event) → shared.group ≡ None
    → IsPrivateTurn m.image m.limit h k old mid events → StaysInside k mid → AllInside m h (suc k) old shared
stays_inside m h k old mid shared events quiet turn stays j below =
    elim (cases_order j k) [
      | inl at ↦
          let there : mid ≡ (steps_of m h j old shared).hart =
          sym (ap (λ (i : ℕ). (steps_of m h i old shared).hart) at
          ∙ ap (λ (s : Stepped). s.hart) (private_steps m h k old mid shared events quiet turn.steps)) in
          subst (GoesInside j) there
          (record { running = stays.running; inside = λ some. not_start mid (stays.inside (omega (arith, some, at))) })
      | inr (inl less) ↦ private_inside m h k old mid shared events quiet turn j less
      | inr (inr more) ↦ absurd (omega (arith, more, below))
    ]

-- The word at which the hart is then.

at_place : (image : Program) (limit h k : ℕ) (old mid : HartState) (events : List Event) (block : Stretch) → IsBlock image old.pc block
    → IsPrivateTurn image limit h k old mid events → StaysInside k mid → mid.pc ≡ block.pc + 4 * k
at_place image limit h zero old mid events block is turn stays =
    ap (λ (x : HartState). x.pc) (turn.unchanged refl) ∙ (let place = is.place in omega arith)
at_place image limit h (suc k) old mid events block is turn stays =
    turn.straight.next stays.running (stays.inside (omega arith)) ∙ ap (λ (pc : ℕ). pc + 4 * suc k) (sym is.place)

counts : (image : Program) (limit h k : ℕ) (old mid : HartState) (events : List Event) → old.since ≡ 0
    → IsPrivateTurn image limit h k old mid events → StaysInside k mid → mid.since ≡ k
counts image limit h zero old mid events starts turn stays = ap (λ (x : HartState). x.since) (turn.unchanged refl) ∙ starts
counts image limit h (suc k) old mid events starts turn stays =
    turn.straight.counted stays.running (stays.inside (omega arith)) ∙ (let s = starts in omega arith)

-- a word is there
touched_word : (word : Option ℕ) → word_touches_shared word ≡ true → (w : ℕ) × (word ≡ Some w)
touched_word None touches = absurd (false≢true touches)
touched_word (Some w) touches = (w, refl)

stopped_word : (image : Program) (k : ℕ) (hart : HartState) → Stops image 512 k hart → hart.since ≡ k → hart.since < 512
    → StaysInside k hart → (w : ℕ) × (word_at image hart.pc ≡ Some w)
stopped_word image k hart (inl full) since small stays = absurd (omega (arith, full, since, small))
stopped_word image k hart (inr (inl ended)) since small stays =
    absurd (false≢true (subst (λ (e : Option Ending). IsSome e) stays.running ended))
stopped_word image k hart (inr (inr (inl left))) since small stays =
    absurd (false≢true (sym (not_start hart (stays.inside left.0)) ∙ left.1))
stopped_word image k hart (inr (inr (inr touches))) since small stays = touched_word (word_at image hart.pc) touches

pub at_word : (m : Machine) (h k : ℕ) (old mid : HartState) (shared : Shared) (events : List Event) (block : Stretch)
    → IsHart old → IsHart mid → old.pc < 2 ^ 64 → old.parked ≡ false → old.since ≡ 0 → shared.group ≡ None → IsBlock m.image old.pc block
    → IsPrivateTurn m.image m.limit h k old mid events → StaysInside k mid → IsAtWord k block mid
at_word m h k old mid shared events block old_is mid_is small awake starts quiet is turn stays =
    let since = counts m.image m.limit h k old mid events starts turn stays in
    let there = stopped_word m.image k mid turn.stops since mid_is.since_small stays in
    let same : (steps_of m h k old shared).hart ≡ mid =
    ap (λ (s : Stepped). s.hart) (private_steps m h k old mid shared events quiet turn.steps) in
    let below : k < block.n =
    among_words m h k old shared block
    (record { is = is; since = starts; aligned = old_is.aligned; small = small; awake = awake; quiet = quiet })
    (stays_inside m h k old mid shared events quiet turn stays) there.0 (ap (λ (x : HartState). word_at m.image x.pc) same ∙ there.1) in
    record {
      within = subst (λ (n : ℕ). k < n) (sym is.all) below;
      place = at_place m.image m.limit h k old mid events block is turn stays;
      since = since;
    }

-- With the steps that it makes with what is shared.

later : (m : Machine) (h k i : ℕ) (old mid : HartState) (shared : Shared) (events : List Event)
    → steps_of m h k old shared ≡ stepped mid shared events
    → steps_of m h (k + i) old shared ≡ and_then (stepped mid shared events) (steps_of m h i mid shared)
later m h k i old mid shared events made =
    in_a_row m h k i old shared ∙ ap (λ (s : Stepped). and_then s (steps_of m h i s.hart s.shared)) made

all_steps : (m : Machine) (h k r : ℕ) (old mid new : HartState) (shared left : Shared) (events after : List Event)
    → steps_of m h k old shared ≡ stepped mid shared events → AreSharedSteps m h r mid new shared left events after
    → steps_of m h (k + r) old shared ≡ stepped new left after
all_steps m h k r old mid new shared left events after made rest =
    later m h k r old mid shared events made
    ∙ (ap (λ (s : Stepped). and_then (stepped mid shared events) s) rest.steps
    ∙ ap (λ (es : List Event). stepped new left es) (sym rest.appended))

pub rest_inside : (m : Machine) (h k r i : ℕ) (mid new : HartState) (shared left : Shared) (events after : List Event)
    → IsRest m h k r mid new shared left events after → i < r → GoesInside (k + i) (steps_of m h i mid shared).hart
unfolding steps_of
rest_inside m h k r zero mid new shared left events after rest below =
    let stays = rest.stays below in
    record { running = stays.running; inside = λ some. not_start mid (stays.inside (omega (arith, some))) }
rest_inside m h k r (suc i) mid new shared left events after rest below = record {
  running = (rest.each (suc i) below).running;
  inside = λ _. rest.inside (suc i) (omega arith) below;
}

all_inside : (m : Machine) (h k r : ℕ) (old mid new : HartState) (shared left : Shared) (events after : List Event)
    → shared.group ≡ None → IsPrivateTurn m.image m.limit h k old mid events → IsRest m h k r mid new shared left events after
    → AllInside m h (k + r) old shared
all_inside m h k r old mid new shared left events after quiet turn rest j below =
    let made = private_steps m h k old mid shared events quiet turn.steps in
    let behind : k ≤ j → GoesInside j (steps_of m h j old shared).hart = λ low.
    let e : k + (j - k) ≡ j = omega (arith, low) in
    subst (λ (i : ℕ). GoesInside i (steps_of m h i old shared).hart) e
    (subst (GoesInside (k + (j - k))) (sym (ap (λ (s : Stepped). s.hart) (later m h k (j - k) old mid shared events made)))
    (rest_inside m h k r (j - k) mid new shared left events after rest (omega (arith, low, below)))) in
    elim (cases_order j k) [
      | inl at ↦ behind (omega (arith, at))
      | inr (inl less) ↦ private_inside m h k old mid shared events quiet turn j less
      | inr (inr more) ↦ behind (omega (arith, more))
    ]

-- The Turn of a state.

-- what a Turn of hart h needs: k steps of its block that it has made by itself
record Begins (s : StateValue) (h k : ℕ) (old mid : HartState) (events : List Event) : Type 0 where
  may : MayTurn (task_run s.task) h 0 s.past
  hart : old ≡ hart_of s.task.machine s.task.mode s.past h
  awake : old.parked ≡ false
  quiet : s.services.group ≡ None
  turn : IsPrivateTurn s.task.machine.image s.task.machine.limit h k old mid events

may_all : (s : StateValue) (h k r : ℕ) (old mid new : HartState) (left : Shared) (events after : List Event)
    → IsSound s → Begins s h k old mid events
    → IsRest s.task.machine h k r mid new (world s.task.machine s.task.mode s.past).shared left events after
    → MayTurn (task_run s.task) h (k + r) s.past
may_all s h k r old mid new left events after sound b rest =
    let m = s.task.machine in
    let around = (world m s.task.mode s.past).shared in
    let quiet = group_of s sound b.quiet in
    let made = private_steps m h k old mid around events quiet b.turn.steps in
    let first = private_turns_go_on s.task h k s.past b.turn.most b.may (ap (λ (x : HartState). x.parked) (sym b.hart) ∙ b.awake) quiet
    (rw (sym b.hart) b.turn.each) in
    let behind : (i : ℕ) → i < r → runs (task_run s.task) h (steps h (k + i) s.past) ≡ true = λ i below.
    let now = steps_of m h i mid around in
    let on : RunsOn now = rest.each i below in
    let alone : IsRunOf m s.task.mode h (k + i) s.past (and_then (stepped mid around events) now) =
    subst (IsRunOf m s.task.mode h (k + i) s.past) (later m h k i old mid around events made)
    (subst (λ (x : HartState). IsRunOf m s.task.mode h (k + i) s.past (steps_of m h (k + i) x around)) (sym b.hart)
    (runs_alone m s.task.mode h (k + i) s.past)) in
    harts_run s.task h (steps h (k + i) s.past) (ap (λ (x : HartState). x.parked) alone.hart ∙ on.awake)
    (ap (λ (x : HartState). x.ending) alone.hart ∙ on.running) (ap (λ (x : Shared). x.group) alone.shared ∙ on.going_on) in
    record {
      legal = b.may.legal;
      is_there = b.may.is_there;
      owes_none = b.may.owes_none;
      asks_nothing = b.may.asks_nothing;
      passes_nothing_by = b.may.passes_nothing_by;
      runs = λ j below. elim (cases_order j k) [
        | inl at ↦
            subst (λ (i : ℕ). runs (task_run s.task) h (steps h i s.past) ≡ true) (let e : k + 0 ≡ j = omega (arith, at) in e)
            (behind 0 (omega (arith, at, below)))
        | inr (inl less) ↦ first.runs j less
        | inr (inr more) ↦
            subst (λ (i : ℕ). runs (task_run s.task) h (steps h i s.past) ≡ true)
            (let e : k + (j - k) ≡ j = omega (arith, more) in e) (behind (j - k) (omega (arith, more, below)))
      ];
    }

-- what the whole Turn makes of the hart and of what is shared
pub record IsTurn (s : StateValue) (h n : ℕ) (old new : HartState) (left : Shared) (events : List Event) : Type 0 where
  pub hart : hart_of s.task.machine s.task.mode (steps h n s.past) h ≡ new
  pub shared : (world s.task.machine s.task.mode (steps h n s.past)).shared ≡ left
  pub told : (steps_of s.task.machine h n old (world s.task.machine s.task.mode s.past).shared).events ≡ events
  pub inside : AllInside s.task.machine h n old (world s.task.machine s.task.mode s.past).shared
  pub legal : Legal (task_run s.task) (steps h n s.past)

turned : (s : StateValue) (h k r : ℕ) (old mid new : HartState) (left : Shared) (events after : List Event)
    → IsSound s → k + r ≤ 512 → Begins s h k old mid events
    → IsRest s.task.machine h k r mid new (world s.task.machine s.task.mode s.past).shared left events after
    → IsTurn s h (k + r) old new left after
turned s h k r old mid new left events after sound most b rest =
    let m = s.task.machine in
    let around = (world m s.task.mode s.past).shared in
    let quiet = group_of s sound b.quiet in
    let all : steps_of m h (k + r) old around ≡ stepped new left after =
    all_steps m h k r old mid new around left events after (private_steps m h k old mid around events quiet b.turn.steps) rest.steps in
    let alone : IsRunOf m s.task.mode h (k + r) s.past (stepped new left after) =
    subst (IsRunOf m s.task.mode h (k + r) s.past) all
    (subst (λ (x : HartState). IsRunOf m s.task.mode h (k + r) s.past (steps_of m h (k + r) x around)) (sym b.hart)
    (runs_alone m s.task.mode h (k + r) s.past)) in
    record {
      hart = alone.hart;
      shared = alone.shared;
      told = ap (λ (s : Stepped). s.events) all;
      inside = all_inside m h k r old mid new around left events after quiet b.turn rest;
      legal = turns_are_legal (task_run s.task) h (k + r) s.past most (may_all s h k r old mid new left events after sound b rest);
    }

-- the same of the state as its fields give it
pub turn_of : (s now : StateValue) → s ≡ now → IsSound s → (image : Program) (limit h k r : ℕ) (old mid new : HartState) (left : Shared)
    (events after : List Event)
    → image ≡ s.task.machine.image → limit ≡ s.task.machine.limit
    → MayTurn (task_run now.task) h 0 now.past → old ≡ hart_of now.task.machine now.task.mode now.past h → old.parked ≡ false
    → now.services.group ≡ None
    → IsPrivateTurn now.task.machine.image now.task.machine.limit h k old mid events → k + r ≤ 512
    → IsRest (machine_on image s.memory limit) h k r mid new (shared_of s.memory s.services) left events after
    → IsTurn now h (k + r) old new left after
turn_of s now view sound image limit h k r old mid new left events after same within may hart awake quiet turn most rest =
    let begins : Begins now h k old mid events = record { may = may; hart = hart; awake = awake; quiet = quiet; turn = turn } in
    subst (λ (x : StateValue). IsTurn x h (k + r) old new left after) view
    (turned s h k r old mid new left events after sound most (subst (λ (x : StateValue). Begins x h k old mid events) (sym view) begins)
    (subst (λ (x : Shared). IsRest s.task.machine h k r mid new x left events after) sound.order.shared
    (subst (λ (x : Machine). IsRest x h k r mid new (shared_of s.memory s.services) left events after)
    (of_run s limit image sound same within) rest)))

-- the state behind the Turn, and that the hart has its place in it
pub turn_sound : (s now : StateValue) → s ≡ now → IsSound s → (h n : ℕ) (old new : HartState) (events : List Event) (past : List Item)
    (journal : JournalState) (memory : MemoryState) (services : ServicesState)
    → takes_all (task_run now.task) h now.past ≡ true → IsTurn now h n old new (shared_of memory services) events
    → past ≡ steps h n s.past → log journal.entries ≡ steps h n (log s.journal.entries)
    → KeepsLayout s.memory memory → KeepsPlaces s.services services
    → IsSound (record s { past = past; journal = journal; memory = memory; services = services })
turn_sound s now view sound h n old new events past journal memory services takes turn added told layout places =
    let here = subst (λ (x : StateValue). IsTurn x h n old new (shared_of memory services) events) (sym view) turn in
    committed s h n past journal memory services sound here.legal
    (subst (λ (x : StateValue). takes_all (task_run x.task) h x.past ≡ true) (sym view) takes)
    (record {
      past = added;
      journal = told;
      shared = sym here.shared;
      memory = memory_stays s.task.machine.image s.memory memory layout sound.memory;
      places = layout.harts ∙ sound.places;
      starts = places.starts ∙ sound.starts;
    })

pub has_place : (s now : StateValue) → s ≡ now → IsSound s → (h : ℕ) → is_there (task_run now.task) h now.past ≡ true
    → h < harts_of s.memory
has_place s now view sound h there =
    subst (λ (n : ℕ). h < n) (sym sound.places)
    (there_low (task_run s.task) h s.past
    (subst (λ (x : StateValue). is_there (task_run x.task) h x.past ≡ true) (sym view) there))
