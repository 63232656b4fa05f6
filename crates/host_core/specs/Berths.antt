-- Runners and their passes.
use Rattle.std.specs.Prelude.{◌≡◌, ℕ}
use Rattle.std.specs.declared.boxed.Box.{Box}
use Rattle.std.specs.declared.alloc.Global.{Global}
use Rattle.flat_model.specs.declared.journals.Item.{Item}
use Rattle.run_order.specs.InOrder.{Task}
use Rattle.baton_gate.specs.declared.gate.Gate.{Gate}
use Rattle.host_state.specs.declared.states.HostState.{HostState}
use Rattle.hart_runner.specs.declared.runners.Runner.{Runner}
use Rattle.host_core.specs.Stages.{IsOver}

module _ {W C : Type 0} where
  -- a runner of this gate, as above
  abbrev pub IsOverAt : Gate (Box (HostState W C) Global) Item Task → Runner W C → Type 0
  IsOverAt gate r = IsOver gate r.pass

  abbrev pub party_at : Runner W C → ℕ
  party_at r = r.pass.party
