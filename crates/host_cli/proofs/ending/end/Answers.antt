use Rattle.std.proofs.Common.{◌∙◌, refl}
use Rattle.host_cli.specs.Ends.{reported, cut_short, stopped, unreported}
use Rattle.host_cli.proofs.Printed.{says_output, stops_output, says_as, stops_as}
use Rattle.host_cli.proofs.ending.end.Goals as goal

pub returns-in_default-clause-ends : goal.returns-in_default-clause-ends
returns-in_default-clause-ends g c =
    cut_short (stops_output c.args.state.now _ c.output.result.now c.task.ensures.order c.output.ensures.output c.in_default.ensures.put)
    (record { same = refl; faultless = refl }) (record { same = refl; faultless = refl })

pub returns-in_default-whole_report-clause-ends : goal.returns-in_default-whole_report-clause-ends
returns-in_default-whole_report-clause-ends g c =
    rw c.refuse_for_memory.ensures.status
    (unreported (says_output c.args.state.now _ c.output.result.now c.task.ensures.order c.output.ensures.output c.in-Ok.ensures.put)
    c.refuse_for_memory.ensures.told (record { same = refl; faultless = refl }))

pub returns-in_default-put_text_pieces-clause-ends : goal.returns-in_default-put_text_pieces-clause-ends
returns-in_default-put_text_pieces-clause-ends g c =
    stopped (says_output c.args.state.now _ c.output.result.now c.task.ensures.order c.output.ensures.output c.in-Ok.ensures.put)
    (stops_as _ c.as_slice.result.now _ (c.as_slice.ensures.value ∙ c.in-Ok-whole_report.ensures.text) c.in_default-put_text_pieces.ensures.put)
    (record { same = refl; faultless = refl })

pub returns-clause-ends : goal.returns-clause-ends
returns-clause-ends g c =
    reported c.end_journal.result
    (says_output c.args.state.now _ c.output.result.now c.task.ensures.order c.output.ensures.output c.in-Ok.ensures.put)
    (record {
      between = g.E.Sink.pieces c.put_text_pieces-2.new.sink;
      faults_between = g.E.Sink.faults c.put_text_pieces-2.new.sink;
      first =
          says_as _ c.as_slice.result.now _ (c.as_slice.ensures.value ∙ c.in-Ok-whole_report.ensures.text) c.in-Ok-put_text_pieces.ensures.put;
      second = c.end_journal.ensures.ends;
    })
