use Rattle.std.proofs.Common.{true, refl}
use Rattle.std.specs.Prelude.{codes}
use Rattle.outer_io.specs.Memory.{file_bytes}
use Rattle.host_cli.specs.Generated.{starved}
use Rattle.host_cli.proofs.Programs.{cause_is}
use Rattle.host_cli.proofs.generated.generated_inputs.Goals as goal

pub returns-in_default : goal.returns-in_default
returns-in_default c = record { cases = starved }

pub returns : goal.returns
returns c = record {
  cases = rw c.in_memory.ensures.refusal
      (cause_is c.args.n (record { told = true; contents = file_bytes c.in-Ok.files }) (codes "program") refl c.in-Ok.ensures.holds _ _
      c.in-Err.refusal (rw c.generated_options-harts.ensures.options at c.in-Err.ensures.cases));
}
