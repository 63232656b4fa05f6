-- What an act with its box does at an event that its filter lets through.
use Rattle.std.specs.Prelude.{◌+◌, ℕ, if◌then◌else◌, List, [], length, slice_index, Option, Some, None}
use Rattle.flat_model.specs.declared.events.Event.{Event}
use Rattle.flat_model.specs.declared.plugins.Act.{Act}
use Rattle.flat_model.specs.declared.plugins.Act.TheVariants as act
use Rattle.flat_model.specs.declared.plugins.Ask.{Ask}
use Rattle.flat_model.specs.declared.plugins.Ask.TheVariants.{Stay}
use Rattle.flat_model.specs.declared.plugins.Op.TheVariants as op
use Rattle.flat_model.specs.Columns.{after_act, holds}
use Rattle.flat_model.specs.Kinds.{ask_at}
use Rattle.watcher_api.specs.declared.held_acts.HeldAct.{HeldAct}
use Rattle.watcher_api.specs.declared.held_acts.HeldAct.TheVariants.{Call, Inline, Cond}
use Rattle.watcher_api.specs.Heard.{Heard, with_event}

-- the act, and what its box has heard
abbrev pub act_of : HeldAct Heard → Act
act_of (Call watcher) = act.Call watcher.kind
act_of (Inline op entry imm) = act.Inline op entry imm
act_of (Cond cond entry imm then_store watcher) = act.Cond cond entry imm then_store watcher.kind

abbrev pub heard_of : HeldAct Heard → List Event
heard_of (Call watcher) = watcher.events
heard_of (Inline op entry imm) = []
heard_of (Cond cond entry imm then_store watcher) = watcher.events

-- what is left once the act was carried out: the act with its box, the entries and what the box asks for
pub record CarriedOut : Type 0 where
  pub held : HeldAct Heard
  pub column : List ℕ
  pub ask : Ask

-- what the box asks for at its next call
abbrev pub next_ask : Heard → Ask
next_ask watcher = ask_at watcher.kind (length watcher.events + 1)

-- the entries after a conditional call
abbrev pub stored : Option ℕ → ℕ → List ℕ → List ℕ
stored None entry column = column
stored (Some value) entry column = after_act op.Store entry value column

unfoldable pub carried_out : Event → HeldAct Heard → List ℕ → CarriedOut
carried_out e (Call watcher) column =
    record { held = Call (with_event watcher e); column = column; ask = next_ask watcher }
carried_out e (Inline op entry imm) column =
    record { held = Inline op entry imm; column = after_act op entry imm column; ask = Stay }
carried_out e (Cond cond entry imm then_store watcher) column =
    if holds cond (slice_index column entry) imm
    then record {
      held = Cond cond entry imm then_store (with_event watcher e);
      column = stored then_store entry column;
      ask = next_ask watcher;
    }
    else record { held = Cond cond entry imm then_store watcher; column = column; ask = Stay }
