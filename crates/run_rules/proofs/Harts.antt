-- Harts that have their starts.
use Rattle.std.proofs.Common.{◌≡◌, ◌==◌, ◌&&◌, ◌%◌, ◌^◌, ◌∷◌, [], ◌++◌, ◌∙◌, ℕ, Bool, true, false, not, List, Option, Some, None}
use Rattle.std.proofs.Common.{refl, sym, ap, arith, nat_lt, inl, inr}
use Rattle.std.specs.Prelude.{if◌then◌else◌, is_some}
use Rattle.std.proofs.lemmas.Bool.{cases_Bool}
use Rattle.std.proofs.lemmas.Bool.Decides.{nat_tests}
use Rattle.flat_model.specs.declared.effects.Effect.{Effect}
use Rattle.flat_model.specs.declared.effects.Effect.TheVariants.{Does, Loads, Stores, Operates, Calls}
use Rattle.flat_model.specs.declared.instructions.AtomicOp.{AtomicOp}
use Rattle.flat_model.specs.declared.instructions.AtomicOp.TheVariants as atomic
use Rattle.flat_model.specs.declared.journals.Mode.{Mode}
use Rattle.flat_model.specs.declared.journals.Item.{Item}
use Rattle.flat_model.specs.declared.journals.Item.TheVariants.{Step, Ordered, GaveBack, Left, Told, Got, Took}
use Rattle.flat_model.specs.declared.limits.TheConstants.{EINVAL, EBUSY}
use Rattle.flat_model.specs.Access.{is_reserved}
use Rattle.flat_model.specs.Image.{word_at}
use Rattle.flat_model.specs.Effect.{effect_of_word}
use Rattle.flat_model.specs.Outcome.{Outcome, outcome, operates_aligned, concludes, serves, starts_by, a0_of, a1_of, a7_of, asked_start}
use Rattle.flat_model.specs.Outcome.{may_start, starts, answers, negative, writes, exits, exits_group, modifies, swaps, quietly, reserves, atomic_size}
use Rattle.flat_model.specs.Outcome.{finds, keeps, store_shift}
use Rattle.flat_model.specs.Access.{loaded}
use Rattle.flat_model.specs.Arithmetic.{load_shift, amo_result}
use Rattle.flat_model.specs.declared.effects.Done.TheVariants.{Fails}
use Rattle.flat_model.specs.declared.events.FaultKind.TheVariants as fault
use Rattle.flat_model.specs.Permission.{Readable, Writable, may}
use Rattle.flat_model.specs.Permission.{Span, spans_of}
use Rattle.flat_model.specs.World.{Machine, Start, HartState, Shared}
use Rattle.flat_model.specs.Step.{Stepped, step_of, step_at, step, is_over, awoken}
use Rattle.flat_model.specs.Worlds.{world}
use Rattle.run_rules.specs.Laws.{steps_by, IsUntouched, HartsMoveByTheirSteps}

-- what is shared keeps each start that there is
abbrev Keeps : Shared → Shared → Type 0
Keeps old new = (h : ℕ) (start : Start) → old.starts h ≡ Some start → new.starts h ≡ Some start

same : (old : Shared) → Keeps old old
same old h start has = has

picks : (test : Bool) (old : Shared) (first second : Outcome)
    → Keeps old first.shared → Keeps old second.shared → Keeps old (if test then first else second).shared
picks true old first second f s = f
picks false old first second f s = s

refused_start : Bool → Option Start → Option ℕ
refused_start b o = if b then Some EINVAL else if is_some o then Some EBUSY else None

may_none : (b : Bool) (o : Option Start) → refused_start b o ≡ None → o ≡ None
unfolding refused_start
may_none true o none = absurd cc
may_none false None none = refl
may_none false (Some start) none = absurd cc

same_hart : (j k : ℕ) → (j == k) ≡ true → j ≡ k
same_hart j k is = grind (arith, nat_tests, is)

starts_keep : (harts : ℕ) (hart : HartState) (shared : Shared) (refusal : Option ℕ)
    → may_start harts shared.starts (a0_of hart) (a1_of hart) ≡ refusal → Keeps shared (starts_by hart shared refusal).shared
unfolding refused_start
starts_keep harts hart shared (Some n) is = same shared
starts_keep harts hart shared None is = λ j start has.
    elim (cases_Bool (j == a0_of hart)) [
      | inl at ↦
          let free : shared.starts (a0_of hart) ≡ None =
          may_none (not (nat_lt (a0_of hart) harts && (a1_of hart % 4 == 0))) (shared.starts (a0_of hart)) is in
          let taken : shared.starts (a0_of hart) ≡ Some start = ap shared.starts (sym (same_hart j (a0_of hart) at)) ∙ has in
          absurd cc
      | inr off ↦ ap (λ (b : Bool). if b then Some (asked_start hart) else shared.starts j) off ∙ has
    ]

serves_keeps : (spans : List Span) (harts : ℕ) (hart : HartState) (shared : Shared) (number : ℕ)
    → Keeps shared (serves spans harts hart shared number).shared
serves_keeps spans harts hart shared number =
    let other = answers hart shared (negative 38) in
    let third = if number == 4096 then starts harts hart shared else other in
    let second = if number == 94 then exits_group hart shared else third in
    let first = if number == 93 then exits hart shared else second in
    picks (number == 64) shared (writes spans hart shared) first (same shared)
    (picks (number == 93) shared (exits hart shared) second (same shared)
    (picks (number == 94) shared (exits_group hart shared) third (same shared)
    (picks (number == 4096) shared (starts harts hart shared) other
    (starts_keep harts hart shared (may_start harts shared.starts (a0_of hart) (a1_of hart)) refl) (same shared))))

concludes_keeps : (h : ℕ) (hart : HartState) (shared : Shared) (wide : Bool) (rd addr value : ℕ) (stored : Bool)
    → Keeps shared (concludes h hart shared wide rd addr value stored).shared
concludes_keeps h hart shared wide rd addr value true = same shared
concludes_keeps h hart shared wide rd addr value false = same shared

modifies_keeps : (spans : List Span) (h : ℕ) (hart : HartState) (shared : Shared) (op : AtomicOp) (wide : Bool) (rd addr value : ℕ)
    → Keeps shared (modifies spans h hart shared op wide rd addr value).shared
modifies_keeps spans h hart shared op wide rd addr value =
    let raw = loaded shared.bytes addr (atomic_size wide) in
    picks (may spans Readable addr (atomic_size wide) && may spans Writable addr (atomic_size wide)) shared
    (swaps h hart shared wide rd addr raw (amo_result op wide raw value)) (quietly shared (Fails fault.Store)) (same shared) (same shared)

aligned_keeps : (spans : List Span) (h : ℕ) (hart : HartState) (shared : Shared) (op : AtomicOp) (wide : Bool) (rd addr value : ℕ)
    → Keeps shared (operates_aligned spans h hart shared op wide rd addr value).shared
aligned_keeps spans h hart shared atomic.Lr wide rd addr value =
    picks (may spans Readable addr (atomic_size wide)) shared
    (reserves h hart shared wide rd addr (loaded shared.bytes addr (atomic_size wide))) (quietly shared (Fails fault.Load)) (same shared) (same shared)
aligned_keeps spans h hart shared atomic.Sc wide rd addr value =
    picks (may spans Writable addr (atomic_size wide)) shared
    (concludes h hart shared wide rd addr value (is_reserved addr (atomic_size wide) (shared.reserved h))) (quietly shared (Fails fault.Store))
    (concludes_keeps h hart shared wide rd addr value (is_reserved addr (atomic_size wide) (shared.reserved h))) (same shared)
aligned_keeps spans h hart shared atomic.Swap wide rd addr value = modifies_keeps spans h hart shared atomic.Swap wide rd addr value
aligned_keeps spans h hart shared atomic.Add wide rd addr value = modifies_keeps spans h hart shared atomic.Add wide rd addr value
aligned_keeps spans h hart shared atomic.Xor wide rd addr value = modifies_keeps spans h hart shared atomic.Xor wide rd addr value
aligned_keeps spans h hart shared atomic.And wide rd addr value = modifies_keeps spans h hart shared atomic.And wide rd addr value
aligned_keeps spans h hart shared atomic.Or wide rd addr value = modifies_keeps spans h hart shared atomic.Or wide rd addr value
aligned_keeps spans h hart shared atomic.Min wide rd addr value = modifies_keeps spans h hart shared atomic.Min wide rd addr value
aligned_keeps spans h hart shared atomic.Max wide rd addr value = modifies_keeps spans h hart shared atomic.Max wide rd addr value
aligned_keeps spans h hart shared atomic.Minu wide rd addr value = modifies_keeps spans h hart shared atomic.Minu wide rd addr value
aligned_keeps spans h hart shared atomic.Maxu wide rd addr value = modifies_keeps spans h hart shared atomic.Maxu wide rd addr value

pub outcome_keeps : (spans : List Span) (harts h : ℕ) (hart : HartState) (shared : Shared) (e : Effect)
    → Keeps shared (outcome spans harts h hart shared e).shared
outcome_keeps spans harts h hart shared (Does done) = same shared
outcome_keeps spans harts h hart shared (Loads op rd addr) =
    picks (may spans Readable addr (2 ^ load_shift op)) shared
    (finds hart shared op rd addr (loaded shared.bytes addr (2 ^ load_shift op))) (quietly shared (Fails fault.Load)) (same shared) (same shared)
outcome_keeps spans harts h hart shared (Stores op addr value) =
    picks (may spans Writable addr (2 ^ store_shift op)) shared
    (keeps h hart shared op addr value) (quietly shared (Fails fault.Store)) (same shared) (same shared)
outcome_keeps spans harts h hart shared (Operates op wide rd addr value) =
    picks (addr % atomic_size wide == 0) shared (operates_aligned spans h hart shared op wide rd addr value)
    (quietly shared (Fails fault.MisalignedAtomic)) (aligned_keeps spans h hart shared op wide rd addr value) (same shared)
outcome_keeps spans harts h hart shared Calls = serves_keeps spans harts hart shared (a7_of hart)

steps_pick : (test : Bool) (old : Shared) (first second : Stepped)
    → Keeps old first.shared → Keeps old second.shared → Keeps old (if test then first else second).shared
steps_pick true old first second f s = f
steps_pick false old first second f s = s

pub step_keeps : (m : Machine) (h : ℕ) (hart : HartState) (shared : Shared) → Keeps shared (step_of m h hart shared).shared
unfolding step_of
step_keeps m h hart shared =
    steps_pick (is_over hart shared) shared (record { hart = hart; shared = shared; events = [] }) (step_at m h hart shared (word_at m.image hart.pc))
    (same shared) (outcome_keeps (spans_of m.image m.harts) m.harts h hart shared (effect_of_word hart (word_at m.image hart.pc)))

-- a hart with a start is not awoken again
awake : (k harts : ℕ) (before after : Option Start) (start : Start) (hart : HartState) → before ≡ Some start → awoken k harts before after hart ≡ hart
awake k harts None after start hart has = absurd cc
awake k harts (Some first) after start hart has = refl

untouched_step : (m : Machine) (mode : Mode) (h hart : ℕ) (past : List Item) (start : Start)
    → (hart == h) ≡ false → (world m mode past).shared.starts h ≡ Some start → IsUntouched m mode h (Step hart ∷ []) past
unfolding world step
untouched_step m mode h hart past start other has =
    let w = world m mode past in
    let s = step_of m hart (w.harts hart) w.shared in
    let off : (h == hart) ≡ false = grind (arith, nat_tests, other) in
    record {
      hart = ap (λ (b : Bool). if b then s.hart else awoken h m.harts (w.shared.starts h) (s.shared.starts h) (w.harts h)) off
          ∙ awake h m.harts (w.shared.starts h) (s.shared.starts h) start (w.harts h) has;
      start = step_keeps m hart (w.harts hart) w.shared h start has ∙ sym has;
    }

untouched_by : (m : Machine) (mode : Mode) (h : ℕ) (x : Item) (past : List Item) (start : Start)
    → steps_by h x ≡ false → (world m mode past).shared.starts h ≡ Some start → IsUntouched m mode h (x ∷ []) past
unfolding world
untouched_by m mode h (Step hart) past start other has = untouched_step m mode h hart past start other has
untouched_by m mode h (Ordered origin order) past start other has = record { hart = refl; start = refl }
untouched_by m mode h (GaveBack hart number) past start other has = record { hart = refl; start = refl }
untouched_by m mode h (Left hart) past start other has = record { hart = refl; start = refl }
untouched_by m mode h (Told party number) past start other has = record { hart = refl; start = refl }
untouched_by m mode h (Got hart number) past start other has = record { hart = refl; start = refl }
untouched_by m mode h (Took party number) past start other has = record { hart = refl; start = refl }

pub harts_move_by_their_steps : HartsMoveByTheirSteps
harts_move_by_their_steps m mode h [] past start none has = record { hart = refl; start = refl }
harts_move_by_their_steps m mode h (x ∷ more) past start none has =
    let rest : IsUntouched m mode h more past = harts_move_by_their_steps m mode h more past start none.1 has in
    let first : IsUntouched m mode h (x ∷ []) (more ++ past) = untouched_by m mode h x (more ++ past) start none.0 (rest.start ∙ has) in
    record { hart = first.hart ∙ rest.hart; start = first.start ∙ rest.start }
