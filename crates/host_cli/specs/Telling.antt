-- A refusal that was told.
use Rattle.std.specs.Prelude.{◌≡◌, ◌⊎◌, ℕ, List, []}
use Rattle.call_inputs.specs.declared.refusals.Refusal.{Refusal}
use Rattle.call_inputs.specs.declared.refusals.Refusal.TheVariants.{OutOfMemory}
use Rattle.call_inputs.specs.Lines.{refusal_status, refusal_line}
use Rattle.host_cli.specs.Sinks.{Around, WasTold}

-- its line was put and its status is answered, or those of want of memory
abbrev pub IsTold : List ℕ → Refusal → Around → ℕ → Type 0
IsTold name refusal report status =
    ((status ≡ refusal_status refusal) × WasTold report (refusal_line name refusal))
    ⊎ ((status ≡ 7) × WasTold report (refusal_line [] OutOfMemory))
