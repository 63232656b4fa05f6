-- How a step goes on once it has begun: its steps and its block are counted then.
use Rattle.std.specs.Prelude.{◌≡◌, ◌<◌, ◌≤◌, ◌+◌, ℕ, Bool, true, false, List, ◌++◌, length, Option, Some, None}
use Rattle.std.specs.Prelude.{ℤ}
use Rattle.std.specs.Option.{option_map_or}
use Rattle.flat_model.specs.declared.instructions.Ins.{Ins}
use Rattle.flat_model.specs.declared.instructions.Ins.TheVariants.{Lui, Auipc, Jal, Jalr, Branch, Load, Store, Imm, Reg, Atomic, Fence}
use Rattle.flat_model.specs.declared.instructions.Ins.TheVariants.{FenceI, Ecall, Ebreak}
use Rattle.flat_model.specs.declared.events.Event.{Event}
use Rattle.flat_model.specs.declared.events.Ending.TheVariants.{Fault}
use Rattle.flat_model.specs.declared.events.FaultKind.TheVariants.{Break}
use Rattle.flat_model.specs.declared.effects.Done.{Done}
use Rattle.flat_model.specs.declared.effects.Done.TheVariants.{Goes, Fails, Leaves}
use Rattle.flat_model.specs.declared.effects.Effect.{Effect}
use Rattle.flat_model.specs.declared.effects.Effect.TheVariants.{Does}
use Rattle.flat_model.specs.Instruction.{decoded}
use Rattle.flat_model.specs.World.{HartState}
use Rattle.flat_model.specs.Effect.{following, with_register}
use Rattle.flat_model.specs.Outcome.{Outcome}
use Rattle.flat_model.specs.Step.{starts_block, since_after, ending_at, as_events, exit_told}
use Rattle.guest_memory.specs.Memory.{MemoryState}
use Rattle.rv_exec.specs.Logged.{LogState, Logs}
use Rattle.rv_exec.specs.Sharing.{ServicesState, shared_of}

-- the registers of the instruction, which are below 32
abbrev pub HasRegisters : Ins → Type 0
HasRegisters (Lui rd top) = rd < 32
HasRegisters (Auipc rd top) = rd < 32
HasRegisters (Jal rd off) = rd < 32
HasRegisters (Jalr rd rs1 off) = (rd < 32) × (rs1 < 32)
HasRegisters (Branch op rs1 rs2 off) = (rs1 < 32) × (rs2 < 32)
HasRegisters (Load op rd rs1 off) = (rd < 32) × (rs1 < 32)
HasRegisters (Store op rs1 rs2 off) = (rs1 < 32) × (rs2 < 32)
HasRegisters (Imm op rd rs1 imm) = (rd < 32) × (rs1 < 32)
HasRegisters (Reg op rd rs1 rs2) = (rd < 32) × (rs1 < 32) × (rs2 < 32)
HasRegisters (Atomic op wide aq rl rd rs1 rs2) = (rd < 32) × (rs1 < 32) × (rs2 < 32)
HasRegisters (Fence fm pred succ rs1 rd) = Unit {0}
HasRegisters (FenceI imm rs1 rd) = Unit {0}
HasRegisters Ecall = Unit {0}
HasRegisters Ebreak = Unit {0}

-- a hart whose step has begun, as what was done leaves it; the flag tells whether a block ends with the word
abbrev pub finished : ℕ → HartState → Bool → Done → HartState
finished limit hart ends (Goes rd value target) = record hart {
  pc = target;
  x = with_register hart.x rd value;
  since = since_after hart.since ends target;
  ending = ending_at limit hart.steps;
}
finished limit hart ends (Fails kind) = record hart { ending = Some (Fault kind hart.pc) }
finished limit hart ends (Leaves ending) = record hart { pc = following hart; since = 0; ending = Some ending }

-- only a hart that ends by a service changes what the group ends with
abbrev pub KeepsGroup : Done → Option ℤ → Option ℤ → Type 0
KeepsGroup (Goes rd value target) old new = new ≡ old
KeepsGroup (Fails kind) old new = new ≡ old
KeepsGroup (Leaves ending) old new = Unit {0}

-- a hart that may go on: it runs, and its step is counted
pub record HasBegun (hart : HartState) : Type 0 where
  pub running : hart.ending ≡ None
  pub counted : hart.since < hart.steps

-- what is done by an effect on the hart alone; an effect on what is shared is none
abbrev pub done_alone : Effect → Done
done_alone (Does done) = done
done_alone _ = Fails Break

-- hart h's instruction was carried out by the hart alone, and its step is at its end
pub record EndsAlone (e : Effect) (limit h : ℕ) (ends : Bool) (old new : HartState) (before after : LogState) : Type 0 where
  pub alone : e ≡ Does (done_alone e)
  pub hart : new ≡ finished limit old ends (done_alone e)
  pub logs : Logs before (as_events h old.steps (exit_told new.ending)) after

-- hart h's instruction was carried out, and its step is at its end: what is left of the hart and of what is shared,
-- and the events
pub record Ends (o : Outcome) (limit h : ℕ) (ends : Bool) (old new : HartState) (memory : MemoryState) (services : ServicesState)
    (before after : LogState) : Type 0 where
  pub hart : new ≡ finished limit old ends o.done
  pub shared : shared_of memory services ≡ o.shared
  pub logs : Logs before (as_events h old.steps (o.told ++ exit_told new.ending)) after

-- the same where the instruction touches the memory alone, whatever the services keep
pub record EndsAccess (o : ServicesState → Outcome) (limit h : ℕ) (old new : HartState) (memory : MemoryState)
    (before after : LogState) : Type 0 where
  pub each : (services : ServicesState) → Ends (o services) limit h false old new memory services before after

-- What a step leaves for the next one.

-- where the next step starts no block, the hart went on to the next word
pub record GoesStraight (old new : HartState) : Type 0 where
  pub next : new.ending ≡ None → 0 < new.since → new.pc ≡ old.pc + 4
  pub counted : new.ending ≡ None → 0 < new.since → new.since ≡ old.since + 1

-- a step tells at most 6 events where it starts a block, else 4, and one less where the hart goes on
pub record TellsFew (old new : HartState) (before after : List Event) : Type 0 where
  pub most : length after ≤ length before + 6
  pub inside : starts_block old ≡ false → length after ≤ length before + 4
  pub going_on : new.ending ≡ None → length after ≤ length before + 5
  pub going_on_inside : new.ending ≡ None → starts_block old ≡ false → length after ≤ length before + 3

-- ECALL alone changes what the services keep
abbrev pub calls : Ins → Bool
calls Ecall = true
calls _ = false

abbrev pub word_calls : Option ℕ → Bool
word_calls None = false
word_calls (Some word) = option_map_or calls (decoded word) false
