use Rattle.std.proofs.Common.{refl, [], None}
use Rattle.call_inputs.specs.declared.refusals.Refusal.TheVariants.{Usage}
use Rattle.command_words.specs.Parts as parts
use Rattle.host_cli.specs.Plain.{refused, replays, lists_blocks, lists_instructions}
use Rattle.host_cli.proofs.Told.{refuses}
use Rattle.host_cli.proofs.plain_calls.carry_out.Goals as goal

pub returns-in-Blocks-clause-ends : goal.returns-in-Blocks-clause-ends
returns-in-Blocks-clause-ends g c =
    rw (c.in-Blocks.is, c.without_state.ensures.status, c.without_state.ensures.none)
    (lists_blocks c.in-Blocks.file.now c.list.result c.list.ensures.answers)

pub returns-in-Disas-clause-ends : goal.returns-in-Disas-clause-ends
returns-in-Disas-clause-ends g c =
    rw (c.in-Disas.is, c.without_state-in-Disas.ensures.status, c.without_state-in-Disas.ensures.none)
    (lists_instructions c.in-Disas.file.now c.list-in-Disas.result c.list-in-Disas.ensures.answers)

pub returns-in-Replay-clause-ends : goal.returns-in-Replay-clause-ends
returns-in-Replay-clause-ends g c =
    rw (c.in-Replay.is)
    (replays c.in-Replay.options (parts.text_seen c.in-Replay.script) c.in-Replay.file.now c.in-Replay.journal.now
    (parts.texts_seen c.in-Replay.plugins.items) c.replay.result.status c.replay.result.state
    (rw c.deref.ensures.value at c.replay.ensures.answers))

pub returns-in-Run-clause-ends : goal.returns-in-Run-clause-ends
returns-in-Run-clause-ends g c =
    rw (c.in-Run.is, c.without_state-in-Run.ensures.status, c.without_state-in-Run.ensures.none)
    (refused _ c.refuse.result tt refl (refuses None [] Usage _ _ _ c.refuse.result refl c.refuse.ensures.told
    (record { same = refl; faultless = refl }) (record { same = refl; faultless = refl })))

pub returns-clause-ends : goal.returns-clause-ends
returns-clause-ends g c =
    rw (c.in-Generated.is, c.without_state-in-Generated.ensures.status, c.without_state-in-Generated.ensures.none)
    (refused _ c.refuse-in-Generated.result tt refl (refuses None [] Usage _ _ _ c.refuse-in-Generated.result refl
    c.refuse-in-Generated.ensures.told (record { same = refl; faultless = refl }) (record { same = refl; faultless = refl })))
