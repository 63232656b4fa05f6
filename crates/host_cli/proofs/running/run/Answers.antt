use Rattle.std.proofs.Common.{◌∙◌, refl, [], Some, inl, map}
use Rattle.std.specs.Prelude.{option_map}
use Rattle.call_inputs.specs.declared.refusals.Refusal.TheVariants.{OutOfMemory}
use Rattle.call_inputs.specs.Causes.{by_words}
use Rattle.command_words.specs.Commands.{Run}
use Rattle.host_cli.specs.Refusals.{input_of}
use Rattle.host_cli.specs.Answers.{refused, ran}
use Rattle.host_cli.proofs.Earlier.{from_earlier}
use Rattle.host_cli.proofs.Told.{refuses, run_names}
use Rattle.host_cli.proofs.running.run.Goals as goal

pub returns-in-Err-clause-answers : goal.returns-in-Err-clause-answers
returns-in-Err-clause-answers g c =
    rw (c.without_state.ensures.status, c.without_state.ensures.none)
    (refused c.in-Err.refusal c.refuse.result c.in-Err.ensures.cases
    (refuses (Some (Run c.args.options (option_map (λ n. n.now) c.args.script) (option_map (λ n. n.now) c.args.journal) c.args.file.now
    (map (λ w. w.now) c.args.plugins.now)))
    c.name_of-name.result.now c.in-Err.refusal _ _ _ c.refuse.result
    (c.name_of-name.ensures.name
    ∙ run_names c.args.options (option_map (λ n. n.now) c.args.script) (option_map (λ n. n.now) c.args.journal) c.args.file.now
    (map (λ w. w.now) c.args.plugins.now) (input_of c.in-Err.refusal))
    c.refuse.ensures.told
    (record { same = refl; faultless = refl }) (record { same = c.in-Err.ensures.unchanged; faultless = c.in-Err.ensures.writes })))

pub returns-in_default-clause-answers : goal.returns-in_default-clause-answers
returns-in_default-clause-answers g c =
    rw (c.without_state-in_default.ensures.status, c.without_state-in_default.ensures.none)
    (refused OutOfMemory c.refuse_for_memory.result
    (by_words (c.in-Ok.inputs.image, c.in-Ok.ensures.cases.0.0) tt c.in-Ok.ensures.cases.1)
    (refuses (Some (Run c.args.options (option_map (λ n. n.now) c.args.script) (option_map (λ n. n.now) c.args.journal) c.args.file.now
    (map (λ w. w.now) c.args.plugins.now)))
    [] OutOfMemory _ _ _ c.refuse_for_memory.result refl
    (inl (c.refuse_for_memory.ensures.status, c.refuse_for_memory.ensures.told))
    (record { same = refl; faultless = refl }) (record { same = c.in-Ok.ensures.unchanged; faultless = c.in-Ok.ensures.writes })))

pub returns-clause-answers : goal.returns-clause-answers
returns-clause-answers g c =
    ran c.in-Ok.inputs.image c.in-Ok.inputs.plan c.in-Ok-whole_state.state c.end-status.result
    c.in-Ok.ensures.cases.0.0 c.in-Ok.ensures.cases.0.1 (c.end-status.ensures.reads ∙ c.in-Ok.ensures.cases.1)
    c.in-Ok-whole_state.ensures.run
    (from_earlier c.in-Ok-whole_state.state _ _ _ c.end-status.result _ _ _ _ _ _ _ _ _ _ _
    c.in-Ok.ensures.still_told c.in-Ok.ensures.unchanged c.in-Ok.ensures.cases.1 c.in-Ok.ensures.writes c.end-status.ensures.ends)
