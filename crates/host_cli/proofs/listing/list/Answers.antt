use Rattle.std.proofs.Common.{◌∙◌, refl, [], Some, inl}
use Rattle.call_inputs.specs.declared.refusals.Refusal.TheVariants.{OutOfMemory}
use Rattle.host_cli.specs.Commands.{list_command}
use Rattle.host_cli.specs.Refusals.{input_of}
use Rattle.host_cli.specs.Answers.{refused, listed, cut}
use Rattle.host_cli.proofs.Printed.{says_as, stops_as}
use Rattle.host_cli.proofs.Told.{refuses, list_names}
use Rattle.host_cli.proofs.listing.list.Goals as goal

pub returns-in-Err-clause-answers : goal.returns-in-Err-clause-answers
returns-in-Err-clause-answers g c =
    refused c.in-Err.refusal c.refuse.result c.in-Err.ensures.cases
    (refuses (Some (list_command c.args.what c.args.file.now)) c.name_of-name.result.now c.in-Err.refusal _ _ _ c.refuse.result
    (c.name_of-name.ensures.name ∙ list_names c.args.what c.args.file.now (input_of c.in-Err.refusal)) c.refuse.ensures.told
    (record { same = refl; faultless = refl }) (record { same = c.in-Err.ensures.unchanged; faultless = c.in-Err.ensures.writes }))

pub returns-in_default-clause-answers : goal.returns-in_default-clause-answers
returns-in_default-clause-answers g c =
    refused OutOfMemory c.refuse_for_memory.result c.in-Ok.ensures.cases.1
    (refuses (Some (list_command c.args.what c.args.file.now)) [] OutOfMemory _ _ _ c.refuse_for_memory.result refl
    (inl (c.refuse_for_memory.ensures.status, c.refuse_for_memory.ensures.told))
    (record { same = refl; faultless = refl }) (record { same = c.in-Ok.ensures.unchanged; faultless = c.in-Ok.ensures.writes }))

pub returns-in-Ok-put_text_pieces-clause-answers : goal.returns-in-Ok-put_text_pieces-clause-answers
returns-in-Ok-put_text_pieces-clause-answers g c =
    listed c.in-Ok.image c.in-Ok-listing.text.items c.in-Ok.ensures.cases.0 c.in-Ok.ensures.cases.1 c.in-Ok-listing.ensures.text
    (says_as _ c.as_slice.result.now _ c.as_slice.ensures.value c.in-Ok-put_text_pieces.ensures.put)
    (record { same = refl; faultless = refl }) (record { same = c.in-Ok.ensures.unchanged; faultless = c.in-Ok.ensures.writes })

pub returns-clause-answers : goal.returns-clause-answers
returns-clause-answers g c =
    cut c.in-Ok.image c.in-Ok-listing.text.items c.in-Ok.ensures.cases.0 c.in-Ok.ensures.cases.1 c.in-Ok-listing.ensures.text
    (stops_as _ c.as_slice.result.now _ c.as_slice.ensures.value c.in-Err-put_text_pieces.ensures.put)
    (record { same = refl; faultless = refl }) (record { same = c.in-Ok.ensures.unchanged; faultless = c.in-Ok.ensures.writes })
