-- What one step of a hart at a word of a block tells lies in the block.
use Rattle.std.proofs.Common.{◌≡◌, ℕ, zero, suc, ◌+◌, ◌%◌, ◌^◌, ◌&&◌, ◌==◌, Bool, true, false, if◌then◌else◌}
use Rattle.std.proofs.Common.{List, ◌∷◌, ◌++◌, [], Option, Some, None, is_some, refl, arith, All}
use Rattle.flat_model.specs.declared.instructions.AtomicOp.{AtomicOp}
use Rattle.flat_model.specs.declared.instructions.AtomicOp.TheVariants.{Lr, Sc, Swap, Add, Xor, And, Or, Min, Max, Minu, Maxu}
use Rattle.flat_model.specs.declared.instructions.LoadOp.{LoadOp}
use Rattle.flat_model.specs.declared.instructions.StoreOp.{StoreOp}
use Rattle.flat_model.specs.declared.events.What.{What}
use Rattle.flat_model.specs.declared.events.What.TheVariants.{Init, Block}
use Rattle.flat_model.specs.declared.events.Ending.{Ending}
use Rattle.flat_model.specs.declared.events.FaultKind.TheVariants as fault
use Rattle.flat_model.specs.declared.effects.Done.TheVariants.{Fails}
use Rattle.flat_model.specs.declared.effects.Effect.{Effect}
use Rattle.flat_model.specs.declared.effects.Effect.TheVariants.{Does, Loads, Stores, Operates, Calls}
use Rattle.flat_model.specs.Access.{loaded, is_reserved}
use Rattle.flat_model.specs.Arithmetic.{amo_result, load_shift}
use Rattle.flat_model.specs.Blocks.{length_of}
use Rattle.flat_model.specs.Effect.{effect_of_word}
use Rattle.flat_model.specs.Image.{word_at}
use Rattle.flat_model.specs.Outcome.{Outcome, outcome, quietly, loads, finds, stores, keeps, store_shift, reserves, concludes, swaps}
use Rattle.flat_model.specs.Outcome.{modifies, operates_aligned, operates, atomic_size, serves, writes, exits, exits_group, starts}
use Rattle.flat_model.specs.Outcome.{starts_by, may_start, answers, negative, a0_of, a1_of, a7_of}
use Rattle.flat_model.specs.Permission.{Span, Readable, Writable, may, spans_of}
use Rattle.flat_model.specs.Step.{starts_block, first_told, block_told, word_told, start_told, exit_told, as_events, hart_after}
use Rattle.flat_model.specs.Step.{step_at, is_over, step_of}
use Rattle.flat_model.specs.World.{Machine, HartState, Shared}
use Rattle.block_finder.specs.Block.{Stretch}
use Rattle.instr_lists.specs.Sorts.{IsInside, IsAccess, LiesIn}

-- each of them lies in the block
abbrev EachLies : Stretch → List What → Type 0
EachLies block [] = Unit {0}
EachLies block (what ∷ whats) = LiesIn block what × EachLies block whats

joined : (block : Stretch) (xs ys : List What) → EachLies block xs → EachLies block ys → EachLies block (xs ++ ys)
joined block [] ys first second = second
joined block (x ∷ xs) ys first second = (first.0, joined block xs ys first.1 second)

either : (block : Stretch) (b : Bool) (x y : Outcome) → EachLies block x.told → EachLies block y.told
    → EachLies block (if b then x else y).told
either block true x y first second = first
either block false x y first second = second

-- An access is a load, a store, or both.

reads : (block : Stretch) (pc : ℕ) → IsInside block pc → IsAccess block pc 1
reads block pc inside = record { inside = inside; least = omega arith; most = omega arith }

writes_there : (block : Stretch) (pc : ℕ) → IsInside block pc → IsAccess block pc 2
writes_there block pc inside = record { inside = inside; least = omega arith; most = omega arith }

reads_and_writes : (block : Stretch) (pc : ℕ) → IsInside block pc → IsAccess block pc 3
reads_and_writes block pc inside = record { inside = inside; least = omega arith; most = omega arith }

loads_lie : (block : Stretch) (spans : List Span) (hart : HartState) (shared : Shared) (op : LoadOp) (rd addr : ℕ)
    → IsInside block hart.pc → EachLies block (loads spans hart shared op rd addr).told
loads_lie block spans hart shared op rd addr inside =
    either block (may spans Readable addr (2 ^ load_shift op))
    (finds hart shared op rd addr (loaded shared.bytes addr (2 ^ load_shift op))) (quietly shared (Fails fault.Load))
    (reads block hart.pc inside, tt) tt

stores_lie : (block : Stretch) (spans : List Span) (h : ℕ) (hart : HartState) (shared : Shared) (op : StoreOp) (addr value : ℕ)
    → IsInside block hart.pc → EachLies block (stores spans h hart shared op addr value).told
stores_lie block spans h hart shared op addr value inside =
    either block (may spans Writable addr (2 ^ store_shift op)) (keeps h hart shared op addr value)
    (quietly shared (Fails fault.Store)) (writes_there block hart.pc inside, tt) tt

concludes_lie : (block : Stretch) (h : ℕ) (hart : HartState) (shared : Shared) (wide : Bool) (rd addr value : ℕ) (b : Bool)
    → IsInside block hart.pc → EachLies block (concludes h hart shared wide rd addr value b).told
concludes_lie block h hart shared wide rd addr value true inside = (writes_there block hart.pc inside, tt)
concludes_lie block h hart shared wide rd addr value false inside = tt

modifies_lie : (block : Stretch) (spans : List Span) (h : ℕ) (hart : HartState) (shared : Shared) (op : AtomicOp) (wide : Bool)
    (rd addr value : ℕ) → IsInside block hart.pc → EachLies block (modifies spans h hart shared op wide rd addr value).told
modifies_lie block spans h hart shared op wide rd addr value inside =
    let raw = loaded shared.bytes addr (atomic_size wide) in
    either block (may spans Readable addr (atomic_size wide) && may spans Writable addr (atomic_size wide))
    (swaps h hart shared wide rd addr raw (amo_result op wide raw value)) (quietly shared (Fails fault.Store))
    (reads_and_writes block hart.pc inside, tt) tt

aligned_lie : (block : Stretch) (spans : List Span) (h : ℕ) (hart : HartState) (shared : Shared) (op : AtomicOp) (wide : Bool)
    (rd addr value : ℕ) → IsInside block hart.pc → EachLies block (operates_aligned spans h hart shared op wide rd addr value).told
aligned_lie block spans h hart shared Lr wide rd addr value inside =
    either block (may spans Readable addr (atomic_size wide))
    (reserves h hart shared wide rd addr (loaded shared.bytes addr (atomic_size wide))) (quietly shared (Fails fault.Load))
    (reads block hart.pc inside, tt) tt
aligned_lie block spans h hart shared Sc wide rd addr value inside =
    either block (may spans Writable addr (atomic_size wide))
    (concludes h hart shared wide rd addr value (is_reserved addr (atomic_size wide) (shared.reserved h)))
    (quietly shared (Fails fault.Store))
    (concludes_lie block h hart shared wide rd addr value (is_reserved addr (atomic_size wide) (shared.reserved h)) inside) tt
aligned_lie block spans h hart shared Swap wide rd addr value inside = modifies_lie block spans h hart shared Swap wide rd addr value inside
aligned_lie block spans h hart shared Add wide rd addr value inside = modifies_lie block spans h hart shared Add wide rd addr value inside
aligned_lie block spans h hart shared Xor wide rd addr value inside = modifies_lie block spans h hart shared Xor wide rd addr value inside
aligned_lie block spans h hart shared And wide rd addr value inside = modifies_lie block spans h hart shared And wide rd addr value inside
aligned_lie block spans h hart shared Or wide rd addr value inside = modifies_lie block spans h hart shared Or wide rd addr value inside
aligned_lie block spans h hart shared Min wide rd addr value inside = modifies_lie block spans h hart shared Min wide rd addr value inside
aligned_lie block spans h hart shared Max wide rd addr value inside = modifies_lie block spans h hart shared Max wide rd addr value inside
aligned_lie block spans h hart shared Minu wide rd addr value inside = modifies_lie block spans h hart shared Minu wide rd addr value inside
aligned_lie block spans h hart shared Maxu wide rd addr value inside = modifies_lie block spans h hart shared Maxu wide rd addr value inside

operates_lie : (block : Stretch) (spans : List Span) (h : ℕ) (hart : HartState) (shared : Shared) (op : AtomicOp) (wide : Bool)
    (rd addr value : ℕ) → IsInside block hart.pc → EachLies block (operates spans h hart shared op wide rd addr value).told
operates_lie block spans h hart shared op wide rd addr value inside =
    either block (addr % atomic_size wide == 0) (operates_aligned spans h hart shared op wide rd addr value)
    (quietly shared (Fails fault.MisalignedAtomic)) (aligned_lie block spans h hart shared op wide rd addr value inside) tt

-- Services tell no pc.

starts_lie : (block : Stretch) (hart : HartState) (shared : Shared) (refusal : Option ℕ)
    → EachLies block (starts_by hart shared refusal).told
starts_lie block hart shared None = (tt, (tt, tt))
starts_lie block hart shared (Some n) = (tt, (tt, tt))

serves_lie : (block : Stretch) (spans : List Span) (harts : ℕ) (hart : HartState) (shared : Shared) (number : ℕ)
    → EachLies block (serves spans harts hart shared number).told
serves_lie block spans harts hart shared number =
    let other = answers hart shared (negative 38) in
    let third = if number == 4096 then starts harts hart shared else other in
    let second = if number == 94 then exits_group hart shared else third in
    let first = if number == 93 then exits hart shared else second in
    either block (number == 64) (writes spans hart shared) first (tt, (tt, tt))
    (either block (number == 93) (exits hart shared) second (tt, tt)
    (either block (number == 94) (exits_group hart shared) third (tt, tt)
    (either block (number == 4096) (starts harts hart shared) other
    (starts_lie block hart shared (may_start harts shared.starts (a0_of hart) (a1_of hart)))
    (tt, (tt, tt)))))

outcome_lies : (block : Stretch) (spans : List Span) (harts h : ℕ) (hart : HartState) (shared : Shared) (e : Effect)
    → IsInside block hart.pc → EachLies block (outcome spans harts h hart shared e).told
outcome_lies block spans harts h hart shared (Does done) inside = tt
outcome_lies block spans harts h hart shared (Loads op rd addr) inside = loads_lie block spans hart shared op rd addr inside
outcome_lies block spans harts h hart shared (Stores op addr value) inside = stores_lie block spans h hart shared op addr value inside
outcome_lies block spans harts h hart shared (Operates op wide rd addr value) inside =
    operates_lie block spans h hart shared op wide rd addr value inside
outcome_lies block spans harts h hart shared Calls inside = serves_lie block spans harts hart shared (a7_of hart)

-- Where a word is, it is one of the block.

abbrev IsPlaced : Stretch → ℕ → Option ℕ → Type 0
IsPlaced block pc word = (w : ℕ) → word ≡ Some w → IsInside block pc

first_lies : (block : Stretch) (b : Bool) → EachLies block (if b then Init ∷ [] else [])
first_lies block true = (tt, tt)
first_lies block false = tt

block_lies : (block : Stretch) (pc n : ℕ) (starts_there : Bool) (word : Option ℕ) → IsPlaced block pc word
    → EachLies block (if starts_there && is_some word then Block pc n ∷ [] else [])
block_lies block pc n false word placed = tt
block_lies block pc n true None placed = tt
block_lies block pc n true (Some w) placed = (placed w refl, tt)

word_lies : (block : Stretch) (pc : ℕ) (word : Option ℕ) → IsPlaced block pc word → EachLies block (word_told pc word)
word_lies block pc None placed = tt
word_lies block pc (Some w) placed = (placed w refl, tt)

done_lies : (block : Stretch) (spans : List Span) (harts h : ℕ) (hart : HartState) (shared : Shared) (word : Option ℕ)
    → IsPlaced block hart.pc word → EachLies block (outcome spans harts h hart shared (effect_of_word hart word)).told
done_lies block spans harts h hart shared None placed = tt
done_lies block spans harts h hart shared (Some w) placed =
    outcome_lies block spans harts h hart shared (effect_of_word hart (Some w)) (placed w refl)

exit_lies : (block : Stretch) (ending : Option Ending) → EachLies block (exit_told ending)
exit_lies block None = tt
exit_lies block (Some ending) = (tt, tt)

all_lie : (block : Stretch) (h step : ℕ) (whats : List What) → EachLies block whats
    → All (λ e. LiesIn block e.what) (as_events h step whats)
all_lie block h step [] each k d below = absurd (omega (arith, below))
all_lie block h step (what ∷ whats) each zero d below = each.0
all_lie block h step (what ∷ whats) each (suc k) d below = all_lie block h step whats each.1 k d (omega (arith, below))

at_word : (block : Stretch) (m : Machine) (h : ℕ) (hart : HartState) (shared : Shared) (word : Option ℕ) → IsPlaced block hart.pc word
    → All (λ e. LiesIn block e.what) (step_at m h hart shared word).events
at_word block m h hart shared word placed =
    let o = outcome (spans_of m.image m.harts) m.harts h hart shared (effect_of_word hart word) in
    let n = length_of m.image hart.pc in
    let exit = exit_told (hart_after m.limit hart word o.done).ending in
    all_lie block h (hart.steps + 1) (start_told hart word n ++ (o.told ++ exit))
    (joined block (start_told hart word n) (o.told ++ exit)
    (joined block (first_told hart) (block_told hart word n ++ word_told hart.pc word) (first_lies block (hart.steps == 0))
    (joined block (block_told hart word n) (word_told hart.pc word) (block_lies block hart.pc n (starts_block hart) word placed)
    (word_lies block hart.pc word placed)))
    (joined block o.told exit (done_lies block (spans_of m.image m.harts) m.harts h hart shared word placed)
    (exit_lies block (hart_after m.limit hart word o.done).ending)))

pub step_lies : (block : Stretch) (m : Machine) (h : ℕ) (hart : HartState) (shared : Shared)
    → ((w : ℕ) → word_at m.image hart.pc ≡ Some w → IsInside block hart.pc)
    → All (λ e. LiesIn block e.what) (step_of m h hart shared).events
unfolding step_of
step_lies block m h hart shared placed =
    elim (is_over hart shared) as (λ b. All (λ e. LiesIn block e.what)
    (if b then (record { hart = hart; shared = shared; events = [] }) else step_at m h hart shared (word_at m.image hart.pc)).events) [
      | true ↦ λ k d below. absurd (omega (arith, below))
      | false ↦ at_word block m h hart shared (word_at m.image hart.pc) placed
    ]
