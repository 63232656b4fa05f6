use Rattle.std.proofs.Common.{◌∙◌, refl, sym, ap, [], None}
use Rattle.call_inputs.specs.declared.refusals.Refusal.TheVariants.{Usage}
use Rattle.command_words.specs.Commands.{command_seen}
use Rattle.host_cli.specs.Plain.{starved, unasked}
use Rattle.host_cli.proofs.Passed.{as_plain, none_plain}
use Rattle.host_cli.proofs.Told.{refuses}
use Rattle.host_cli.proofs.plain_calls.host_plain.Goals as goal

pub returns-in-Err-clause-answers : goal.returns-in-Err-clause-answers
returns-in-Err-clause-answers g c =
    rw (c.without_state.ensures.status, c.without_state.ensures.none, c.refuse_for_memory.ensures.status)
    (starved refl c.refuse_for_memory.ensures.told (record { same = refl; faultless = refl }) (record { same = refl; faultless = refl }))

pub returns-in_default-clause-answers : goal.returns-in_default-clause-answers
returns-in_default-clause-answers g c =
    rw (c.without_state-in_default.ensures.status, c.without_state-in_default.ensures.none)
    (unasked c.refuse.result (none_plain _ (sym c.in-Ok.ensures.value ∙ ap command_seen c.in_default.is)) refl
    (refuses None [] Usage _ _ _ c.refuse.result refl c.refuse.ensures.told (record { same = refl; faultless = refl })
    (record { same = refl; faultless = refl })))

pub returns-clause-answers : goal.returns-clause-answers
returns-clause-answers g c =
    as_plain _ _ _ _ _ c.carry_out.result.status c.carry_out.result.state
    (sym c.in-Ok.ensures.value ∙ ap command_seen c.in-Some.is) c.carry_out.ensures.ends
