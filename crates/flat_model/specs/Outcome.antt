-- What an instruction leaves of its hart and of what the harts share, and what is told of it: RISC-V Unprivileged
-- ISA 20191213, sections 2.6, 5.3 and 8.2 to 8.4; the services are this project's own, in `docs/guest-machine.md`.
use Rattle.std.specs.Prelude.{ℕ, ◌+◌, ◌-◌, ◌%◌, ◌^◌, ◌==◌, ◌&&◌, ◌||◌, not, nat_lt, min, Bool, true, false}
use Rattle.std.specs.Prelude.{if◌then◌else◌, List, []}
use Rattle.std.specs.Prelude.{◌∷◌, ◌++◌, length, Option, Some, None, is_some, Result, Ok, Err, ℤ}
use Rattle.std.specs.Int.{w32, cast_signed}
use Rattle.flat_model.specs.declared.instructions.LoadOp.{LoadOp}
use Rattle.flat_model.specs.declared.instructions.StoreOp.{StoreOp}
use Rattle.flat_model.specs.declared.instructions.StoreOp.TheVariants.{Sb, Sh, Sw, Sd}
use Rattle.flat_model.specs.declared.instructions.AtomicOp.{AtomicOp}
use Rattle.flat_model.specs.declared.instructions.AtomicOp.TheVariants as atomic
use Rattle.flat_model.specs.declared.events.Ending.{Ending}
use Rattle.flat_model.specs.declared.events.Ending.TheVariants.{Exited, Group}
use Rattle.flat_model.specs.declared.events.FaultKind.TheVariants as fault
use Rattle.flat_model.specs.declared.events.What.{What}
use Rattle.flat_model.specs.declared.events.What.TheVariants.{Mem, Sys, SysRet}
use Rattle.flat_model.specs.declared.effects.Done.{Done}
use Rattle.flat_model.specs.declared.effects.Done.TheVariants.{Fails, Leaves}
use Rattle.flat_model.specs.declared.effects.Effect.{Effect}
use Rattle.flat_model.specs.declared.effects.Effect.TheVariants.{Does, Loads, Stores, Operates, Calls}
use Rattle.flat_model.specs.declared.limits.TheConstants.{READS, WRITES, READS_AND_WRITES, WRITE_MOST, OUTPUT_MOST, SERVICE_WRITE}
use Rattle.flat_model.specs.declared.limits.TheConstants.{SERVICE_EXIT, SERVICE_EXIT_GROUP, SERVICE_START, EBADF, EFAULT, EBUSY, EINVAL}
use Rattle.flat_model.specs.declared.limits.TheConstants.{ENOSPC, ENOSYS}
use Rattle.flat_model.specs.Permission.{Span, Readable, Writable, may}
use Rattle.flat_model.specs.Access.{bytes_from, loaded, stored, ended, with_reservation, is_reserved}
use Rattle.flat_model.specs.Arithmetic.{minus, low_word, low_bytes, load_shift, load_signed, load_result, atomic_shift, atomic_result}
use Rattle.flat_model.specs.Arithmetic.{amo_result}
use Rattle.flat_model.specs.Effect.{register, gives, passes}
use Rattle.flat_model.specs.World.{Start, HartState, Shared}

-- what becomes of the hart, what is left of what is shared, and the Sys, Mem and SysRet events, in order
pub record Outcome : Type 0 where
  pub done : Done
  pub shared : Shared
  pub told : List What

-- changes nothing that is shared, and tells nothing
abbrev pub quietly : Shared → Done → Outcome
quietly shared done = record { done = done; shared = shared; told = [] }

-- Loads and stores, aligned or not.

-- an access of a store has 2^shift bytes
abbrev pub store_shift : StoreOp → ℕ
store_shift Sb = 0
store_shift Sh = 1
store_shift Sw = 2
store_shift Sd = 3

-- the event of a load that finds these bits, and of a store that writes some
abbrev pub load_event : HartState → LoadOp → ℕ → ℕ → What
load_event hart op addr raw = Mem hart.pc addr (load_shift op) (load_signed op) READS raw 0

abbrev pub store_event : HartState → StoreOp → ℕ → ℕ → What
store_event hart op addr bits = Mem hart.pc addr (store_shift op) false WRITES 0 bits

-- a load that is permitted and finds these bits
abbrev pub finds : HartState → Shared → LoadOp → ℕ → ℕ → ℕ → Outcome
finds hart shared op rd addr raw = record {
  done = gives hart rd (load_result op raw);
  shared = shared;
  told = load_event hart op addr raw ∷ [];
}

abbrev pub loads : List Span → HartState → Shared → LoadOp → ℕ → ℕ → Outcome
loads spans hart shared op rd addr =
    if may spans Readable addr (2 ^ load_shift op) then finds hart shared op rd addr (loaded shared.bytes addr (2 ^ load_shift op))
    else quietly shared (Fails fault.Load)

-- hart h stores the n low bytes of value at addr, which ends reservations of other harts
abbrev pub with_stored : Shared → ℕ → ℕ → ℕ → ℕ → Shared
with_stored shared h addr n value = record shared {
  bytes = stored shared.bytes addr n value;
  reserved = ended shared.reserved h addr n;
}

-- a store that is permitted
abbrev pub keeps : ℕ → HartState → Shared → StoreOp → ℕ → ℕ → Outcome
keeps h hart shared op addr value = record {
  done = passes hart;
  shared = with_stored shared h addr (2 ^ store_shift op) value;
  told = store_event hart op addr (low_bytes (store_shift op) value) ∷ [];
}

abbrev pub stores : List Span → ℕ → HartState → Shared → StoreOp → ℕ → ℕ → Outcome
stores spans h hart shared op addr value =
    if may spans Writable addr (2 ^ store_shift op) then keeps h hart shared op addr value
    else quietly shared (Fails fault.Store)

-- LR, SC and AMO, on 8 bytes where wide and else on 4.

-- the bytes of an access
abbrev pub atomic_size : Bool → ℕ
atomic_size wide = 2 ^ atomic_shift wide

-- the event of LR that finds these bits, of SC that writes some, and of an AMO that finds some and writes others
abbrev pub reserve_event : HartState → Bool → ℕ → ℕ → What
reserve_event hart wide addr raw = Mem hart.pc addr (atomic_shift wide) (not wide) READS raw 0

abbrev pub conditional_event : HartState → Bool → ℕ → ℕ → What
conditional_event hart wide addr bits = Mem hart.pc addr (atomic_shift wide) false WRITES 0 bits

abbrev pub modify_event : HartState → Bool → ℕ → ℕ → ℕ → What
modify_event hart wide addr raw new = Mem hart.pc addr (atomic_shift wide) (not wide) READS_AND_WRITES raw new

-- hart h's reservation becomes r
abbrev pub reserving : Shared → ℕ → Option ℕ → Shared
reserving shared h r = record shared { reserved = with_reservation shared.reserved h r }

-- LR that is permitted and finds these bits: the hart reserves the aligned 8 bytes that hold the address
abbrev pub reserves : ℕ → HartState → Shared → Bool → ℕ → ℕ → ℕ → Outcome
reserves h hart shared wide rd addr raw = record {
  done = gives hart rd (atomic_result wide raw);
  shared = reserving shared h (Some (addr - addr % 8));
  told = reserve_event hart wide addr raw ∷ [];
}

abbrev pub loads_reserved : List Span → ℕ → HartState → Shared → Bool → ℕ → ℕ → Outcome
loads_reserved spans h hart shared wide rd addr =
    if may spans Readable addr (atomic_size wide) then reserves h hart shared wide rd addr (loaded shared.bytes addr (atomic_size wide))
    else quietly shared (Fails fault.Load)

-- SC that is permitted, and whether the hart has reserved all its bytes; either way the reservation ends
abbrev pub concludes : ℕ → HartState → Shared → Bool → ℕ → ℕ → ℕ → Bool → Outcome
concludes h hart shared wide rd addr value true = record {
  done = gives hart rd 0;
  shared = reserving (with_stored shared h addr (atomic_size wide) value) h None;
  told = conditional_event hart wide addr (low_bytes (atomic_shift wide) value) ∷ [];
}
concludes h hart shared wide rd addr value false = record { done = gives hart rd 1; shared = reserving shared h None; told = [] }

abbrev pub stores_conditional : List Span → ℕ → HartState → Shared → Bool → ℕ → ℕ → ℕ → Outcome
stores_conditional spans h hart shared wide rd addr value =
    if may spans Writable addr (atomic_size wide)
    then concludes h hart shared wide rd addr value (is_reserved addr (atomic_size wide) (shared.reserved h))
    else quietly shared (Fails fault.Store)

-- an AMO that is permitted, which finds some bits and writes others
abbrev pub swaps : ℕ → HartState → Shared → Bool → ℕ → ℕ → ℕ → ℕ → Outcome
swaps h hart shared wide rd addr raw new = record {
  done = gives hart rd (atomic_result wide raw);
  shared = with_stored shared h addr (atomic_size wide) new;
  told = modify_event hart wide addr raw new ∷ [];
}

abbrev pub modifies : List Span → ℕ → HartState → Shared → AtomicOp → Bool → ℕ → ℕ → ℕ → Outcome
modifies spans h hart shared op wide rd addr value =
    if may spans Readable addr (atomic_size wide) && may spans Writable addr (atomic_size wide) then
    (let raw = loaded shared.bytes addr (atomic_size wide) in swaps h hart shared wide rd addr raw (amo_result op wide raw value))
    else quietly shared (Fails fault.Store)

abbrev pub operates_aligned : List Span → ℕ → HartState → Shared → AtomicOp → Bool → ℕ → ℕ → ℕ → Outcome
operates_aligned spans h hart shared atomic.Lr wide rd addr value = loads_reserved spans h hart shared wide rd addr
operates_aligned spans h hart shared atomic.Sc wide rd addr value = stores_conditional spans h hart shared wide rd addr value
operates_aligned spans h hart shared op wide rd addr value = modifies spans h hart shared op wide rd addr value

-- an address that isn't naturally aligned is a fault, whatever is permitted there
abbrev pub operates : List Span → ℕ → HartState → Shared → AtomicOp → Bool → ℕ → ℕ → ℕ → Outcome
operates spans h hart shared op wide rd addr value =
    if addr % atomic_size wide == 0 then operates_aligned spans h hart shared op wide rd addr value
    else quietly shared (Fails fault.MisalignedAtomic)

-- Services: ECALL with the service's number in a7 and its arguments in a0, a1 and a2.

abbrev pub a0_of : HartState → ℕ
a0_of hart = register hart.x 10

abbrev pub a1_of : HartState → ℕ
a1_of hart = register hart.x 11

abbrev pub a2_of : HartState → ℕ
a2_of hart = register hart.x 12

abbrev pub a7_of : HartState → ℕ
a7_of hart = register hart.x 17

-- what the service is called with
abbrev pub called : HartState → What
called hart = Sys (a7_of hart) (a0_of hart) (a1_of hart) (a2_of hart)

-- -n, as a register holds it
abbrev pub negative : ℕ → ℕ
negative n = minus 0 n

-- the service answers in a0
abbrev pub answers : HartState → Shared → ℕ → Outcome
answers hart shared result = record {
  done = gives hart 10 result;
  shared = shared;
  told = called hart ∷ SysRet (a7_of hart) result ∷ [];
}

-- how many bytes `write` appends, or the number n of its answer -n: EFAULT for bytes that may not be read, ENOSPC where
-- the output would become too long, EBADF for another file than 1 and 2
abbrev pub may_write : List Span → List ℕ → ℕ → ℕ → Result ℕ ℕ
may_write spans output addr n =
    if n == 0 then Ok 0 else
    if not (may spans Readable addr n) then Err EFAULT else
    if nat_lt OUTPUT_MOST (length output + n) then Err ENOSPC else Ok n

abbrev pub written : List Span → HartState → List ℕ → Result ℕ ℕ
written spans hart output =
    if (a0_of hart == 1) || (a0_of hart == 2) then may_write spans output (a1_of hart) (min (a2_of hart) WRITE_MOST)
    else Err EBADF

abbrev pub answer_of : Result ℕ ℕ → ℕ
answer_of (Ok n) = n
answer_of (Err n) = negative n

abbrev pub appended : List ℕ → (ℕ → ℕ) → ℕ → Result ℕ ℕ → List ℕ
appended output bytes addr (Ok n) = output ++ bytes_from bytes addr n
appended output bytes addr (Err n) = output

abbrev pub writes : List Span → HartState → Shared → Outcome
writes spans hart shared =
    let w = written spans hart shared.output in
    answers hart (record shared { output = appended shared.output shared.bytes (a1_of hart) w }) (answer_of w)

-- `exit` and `exit_group` end with the low 32 bits of a0, and answer nothing
abbrev pub leaves : HartState → Shared → Ending → Outcome
leaves hart shared ending = record { done = Leaves ending; shared = shared; told = called hart ∷ [] }

-- the code that a hart or its group ends with
abbrev pub exit_code : HartState → ℤ
exit_code hart = cast_signed w32 (low_word (a0_of hart))

abbrev pub exits : HartState → Shared → Outcome
exits hart shared = leaves hart shared (Exited (exit_code hart))

abbrev pub exits_group : HartState → Shared → Outcome
exits_group hart shared = leaves hart (record shared { group = Some (exit_code hart) }) Group

-- hart k gets a start
abbrev pub with_start : (ℕ → Option Start) → ℕ → Start → ℕ → Option Start
with_start starts k start j = if j == k then Some start else starts j

-- whether hart k of so many can be given a start at this pc, and if not, the number n of the answer -n: EINVAL where there
-- is no such hart or no instruction can stand at the pc, EBUSY where the hart has its start
abbrev pub may_start : ℕ → (ℕ → Option Start) → ℕ → ℕ → Option ℕ
may_start harts starts k pc =
    if not (nat_lt k harts && (pc % 4 == 0)) then Some EINVAL else
    if is_some (starts k) then Some EBUSY else None

-- the start that `start` gives: the pc in a1 and the argument in a2
abbrev pub asked_start : HartState → Start
asked_start hart = record { pc = a1_of hart; arg = a2_of hart }

-- `start` of the hart in a0
abbrev pub starts_by : HartState → Shared → Option ℕ → Outcome
starts_by hart shared None = answers hart (record shared { starts = with_start shared.starts (a0_of hart) (asked_start hart) }) 0
starts_by hart shared (Some n) = answers hart shared (negative n)

abbrev pub starts : ℕ → HartState → Shared → Outcome
starts harts hart shared = starts_by hart shared (may_start harts shared.starts (a0_of hart) (a1_of hart))

-- what a service does by its number
abbrev pub serves : List Span → ℕ → HartState → Shared → ℕ → Outcome
serves spans harts hart shared number =
    if number == SERVICE_WRITE then writes spans hart shared else
    if number == SERVICE_EXIT then exits hart shared else
    if number == SERVICE_EXIT_GROUP then exits_group hart shared else
    if number == SERVICE_START then starts harts hart shared else
    answers hart shared (negative ENOSYS)

-- the outcome of an effect of hart h of so many
abbrev pub outcome : List Span → ℕ → ℕ → HartState → Shared → Effect → Outcome
outcome spans harts h hart shared (Does done) = quietly shared done
outcome spans harts h hart shared (Loads op rd addr) = loads spans hart shared op rd addr
outcome spans harts h hart shared (Stores op addr value) = stores spans h hart shared op addr value
outcome spans harts h hart shared (Operates op wide rd addr value) = operates spans h hart shared op wide rd addr value
outcome spans harts h hart shared Calls = serves spans harts hart shared (a7_of hart)
