use Rattle.std.proofs.Common.{◌∙◌, refl, [], Some, None, map}
use Rattle.std.specs.Prelude.{option_map}
use Rattle.command_words.specs.Commands.{Replay}
use Rattle.journal_file.specs.File.{held}
use Rattle.host_cli.specs.Answers.{refused, unreplayed, replayed}
use Rattle.host_cli.specs.Refusals.{input_of, task_for}
use Rattle.host_cli.proofs.Earlier.{from_earlier}
use Rattle.host_cli.proofs.Told.{refuses, replay_names, unnamed}
use Rattle.host_cli.proofs.replaying.replay.Goals as goal

pub returns-in-Err-clause-answers : goal.returns-in-Err-clause-answers
returns-in-Err-clause-answers g c =
    rw (c.without_state.ensures.status, c.without_state.ensures.none)
    (refused c.in-Err.refusal c.refuse.result (rw c.head_for-head.ensures.head at c.in-Err.ensures.cases)
    (refuses (Some (Replay c.args.options (option_map (λ n. n.now) c.args.script) c.args.file.now c.args.journal.now (map (λ w. w.now) c.args.plugins.now)))
    c.name_of-name.result.now c.in-Err.refusal _ _ _ c.refuse.result
    (c.name_of-name.ensures.name
    ∙ replay_names c.args.options (option_map (λ n. n.now) c.args.script) c.args.file.now c.args.journal.now (map (λ w. w.now) c.args.plugins.now) (input_of c.in-Err.refusal))
    c.refuse.ensures.told
    (record { same = refl; faultless = refl }) (record { same = c.in-Err.ensures.unchanged; faultless = c.in-Err.ensures.writes })))

pub returns-in-Err-replayed_state-clause-answers : goal.returns-in-Err-replayed_state-clause-answers
returns-in-Err-replayed_state-clause-answers g c =
    rw (c.without_state-in-Err-replayed_state.ensures.status, c.without_state-in-Err-replayed_state.ensures.none)
    (unreplayed c.in-Ok.inputs.image c.in-Ok.inputs.plan (held c.in-Ok.inputs.file) c.in-Err-replayed_state.refusal
    c.refuse-in-Err-replayed_state.result
    (record {
      image_is = c.in-Ok.ensures.cases.0.0;
      plan_is = rw c.head_for-head.ensures.head at c.in-Ok.ensures.cases.0.1;
      journal_is = c.in-Ok.ensures.cases.0.2;
      of_this_run = rw c.head_for-head.ensures.head at c.in-Ok.ensures.cases.0.3;
    }) c.in-Ok.ensures.cases.1
    c.in-Err-replayed_state.ensures.refused
    (refuses (Some (Replay c.args.options (option_map (λ n. n.now) c.args.script) c.args.file.now c.args.journal.now (map (λ w. w.now) c.args.plugins.now)))
    [] c.in-Err-replayed_state.refusal _ _ _ c.refuse-in-Err-replayed_state.result
    (unnamed (task_for c.args.options c.in-Ok.inputs.image c.in-Ok.inputs.plan) c.in-Ok.inputs.file.journal.entries
    (Replay c.args.options (option_map (λ n. n.now) c.args.script) c.args.file.now c.args.journal.now (map (λ w. w.now) c.args.plugins.now))
    c.in-Err-replayed_state.refusal c.in-Err-replayed_state.ensures.refused)
    c.refuse-in-Err-replayed_state.ensures.told
    (record { same = refl; faultless = refl }) (record { same = c.in-Ok.ensures.unchanged; faultless = c.in-Ok.ensures.writes })))

pub returns-clause-answers : goal.returns-clause-answers
returns-clause-answers g c =
    replayed c.in-Ok.inputs.image c.in-Ok.inputs.plan (held c.in-Ok.inputs.file) c.in-Ok-replayed_state.state c.end-status.result
    (record {
      image_is = c.in-Ok.ensures.cases.0.0;
      plan_is = rw c.head_for-head.ensures.head at c.in-Ok.ensures.cases.0.1;
      journal_is = c.in-Ok.ensures.cases.0.2;
      of_this_run = rw c.head_for-head.ensures.head at c.in-Ok.ensures.cases.0.3;
    })
    (c.end-status.ensures.reads ∙ c.in-Ok.ensures.cases.1)
    c.in-Ok-replayed_state.ensures.replayed
    (from_earlier c.in-Ok-replayed_state.state _ _ _ c.end-status.result _ _ _ _ _ _ _ _ _ _ _
    c.in-Ok.ensures.still_told c.in-Ok.ensures.unchanged c.in-Ok.ensures.cases.1 c.in-Ok.ensures.writes c.end-status.ensures.ends)
