use Rattle.std.proofs.Common.{refl, [], Some, inl}
use Rattle.call_inputs.specs.declared.refusals.Refusal.TheVariants.{OutOfMemory}
use Rattle.command_words.specs.Commands.{Generated}
use Rattle.host_cli.specs.Refusals.{input_of}
use Rattle.host_cli.specs.Answers.{refused, ran}
use Rattle.host_cli.specs.Generated.{starved}
use Rattle.host_cli.proofs.Programs.{generated_names}
use Rattle.host_cli.proofs.Told.{refuses}
use Rattle.host_cli.proofs.generated.run_generated.Goals as goal

pub returns-in-Err : goal.returns-in-Err
returns-in-Err g c = record {
  answers = rw (c.without_state.ensures.status, c.without_state.ensures.none)
      (λ files read kept. refused c.in-Err.refusal c.refuse.result c.in-Err.ensures.cases read
      (refuses (Some (Generated c.args.n)) [] c.in-Err.refusal files _ _ c.refuse.result (generated_names c.args.n (input_of c.in-Err.refusal))
      c.refuse.ensures.told (record { same = refl; faultless = refl }) kept));
}

pub returns-in_default : goal.returns-in_default
returns-in_default g c = record {
  answers = rw (c.without_state-in_default.ensures.status, c.without_state-in_default.ensures.none)
      (λ files read kept. refused OutOfMemory c.refuse_for_memory.result starved read
      (refuses (Some (Generated c.args.n)) [] OutOfMemory files _ _ c.refuse_for_memory.result refl
      (inl (c.refuse_for_memory.ensures.status, c.refuse_for_memory.ensures.told)) (record { same = refl; faultless = refl }) kept));
}

pub returns : goal.returns
returns g c = record {
  answers = λ files read kept. ran c.in-Ok.inputs.image c.in-Ok.inputs.plan c.in-Ok-whole_state.state c.sum_up-status.result
      c.in-Ok.ensures.cases.0 c.in-Ok.ensures.cases.1 read kept
      (rw c.generated_options.ensures.options at c.in-Ok-whole_state.ensures.run) c.sum_up-status.ensures.ends;
}
