use Rattle.std.proofs.Common.{◌≡◌, ◌∙◌, refl, sym, ap, ℕ, List, [], Option, Some, None}
use Rattle.call_inputs.specs.declared.refusals.Refusal.TheVariants.{Usage}
use Rattle.command_words.specs.declared.commands.Command.{Command}
use Rattle.command_words.specs.Commands.{command_of, command_text, command_seen}
use Rattle.command_words.specs.Parts as parts
use Rattle.host_cli.specs.Answers.{starved, unasked, runs, sums_up}
use Rattle.host_cli.proofs.Passed.{as_host}
use Rattle.host_cli.proofs.Told.{refuses}
use Rattle.host_cli.proofs.outcomes.host.Goals as goal

-- the command that was read is the one that the words ask for
read_as : (words : List (List ℕ)) (r : Option Command) (a b : Command)
    → command_seen r ≡ command_of words → r ≡ Some a → a ≡ b → command_of words ≡ Some (command_text b)
read_as words r a b value is same = sym value ∙ ap command_seen is ∙ ap (λ (x : Command). command_seen (Some x)) same

pub returns-in-Err-clause-answers : goal.returns-in-Err-clause-answers
returns-in-Err-clause-answers g c =
    rw (c.without_state.ensures.status, c.without_state.ensures.none, c.refuse_for_memory.ensures.status)
    (starved refl c.refuse_for_memory.ensures.told (record { same = refl; faultless = refl }) (record { same = refl; faultless = refl }))

pub returns-in_default-clause-answers : goal.returns-in_default-clause-answers
returns-in_default-clause-answers g c =
    rw (c.without_state-in_default.ensures.status, c.without_state-in_default.ensures.none)
    (unasked c.refuse.result (sym c.in-Ok.ensures.value ∙ ap command_seen c.in_default.is) refl
    (refuses None [] Usage _ _ _ c.refuse.result refl c.refuse.ensures.told (record { same = refl; faultless = refl })
    (record { same = refl; faultless = refl })))

pub returns-in-Run-clause-answers : goal.returns-in-Run-clause-answers
returns-in-Run-clause-answers g c =
    runs c.in-Run.options (parts.text_seen c.in-Run.script) (parts.text_seen c.in-Run.journal) c.in-Run.file.now
    (parts.texts_seen c.in-Run.plugins.items) c.run.result.status c.run.result.state
    (read_as _ _ _ _ c.in-Ok.ensures.value c.in-Some.is c.in-Run.is)
    (rw (c.deref.ensures.value) at c.run.ensures.answers)

pub returns-in-Generated-clause-answers : goal.returns-in-Generated-clause-answers
returns-in-Generated-clause-answers g c =
    sums_up c.in-Generated.n c.run_generated.result.status c.run_generated.result.state
    (read_as _ _ _ _ c.in-Ok.ensures.value c.in-Some.is c.in-Generated.is)
    (c.run_generated.ensures.answers _ refl (record { same = refl; faultless = refl }))

pub returns-in-Blocks-clause-answers : goal.returns-in-Blocks-clause-answers
returns-in-Blocks-clause-answers g c =
    as_host _ _ _ _ _ c.carry_out.result.status c.carry_out.result.state
    (read_as _ _ _ _ c.in-Ok.ensures.value c.in-Some.is c.in-Blocks.is) tt c.carry_out.ensures.ends

pub returns-in-Disas-clause-answers : goal.returns-in-Disas-clause-answers
returns-in-Disas-clause-answers g c =
    as_host _ _ _ _ _ c.carry_out-in-Disas.result.status c.carry_out-in-Disas.result.state
    (read_as _ _ _ _ c.in-Ok.ensures.value c.in-Some.is c.in-Disas.is) tt c.carry_out-in-Disas.ensures.ends

pub returns-in-Replay-clause-answers : goal.returns-in-Replay-clause-answers
returns-in-Replay-clause-answers g c =
    as_host _ _ _ _ _ c.carry_out-in-Replay.result.status c.carry_out-in-Replay.result.state
    (read_as _ _ _ _ c.in-Ok.ensures.value c.in-Some.is c.in-Replay.is) tt c.carry_out-in-Replay.ensures.ends
