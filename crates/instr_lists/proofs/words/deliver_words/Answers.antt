use Rattle.std.proofs.Common.{◌∙◌, ap}
use Rattle.flat_model.specs.Step.{as_events}
use Rattle.event_walk.specs.Matches.{classes_of}
use Rattle.watcher_api.specs.Acting.{walks_of}
use Rattle.instr_lists.specs.Delivery.{each_walks}
use Rattle.instr_lists.specs.Silence.{code_of}
use Rattle.instr_lists.proofs.Events.{has_classes}
use Rattle.instr_lists.proofs.Told.{all_told}
use Rattle.instr_lists.proofs.words.deliver_words.Goals as goal

pub returns-clause-delivered : goal.returns-clause-delivered
returns-clause-delivered g c = λ image is raw lie told.
    let listed = c.args.list.now in
    let has = has_classes image listed.block is in
    all_told listed c.requires.adds (classes_of image) has raw lie c.args.words told c.args.attached.now c.add_code.new.attached
    c.add_code.new.asks.first c.add_code.ensures.same
    (c.add_code.ensures.heard (classes_of image) has
    ∙ ap (λ asks. each_walks (classes_of image) listed.sets (as_events 0 0 (code_of listed.block c.args.words))
    (walks_of asks c.args.attached.now)) c.none-asks.ensures.none)
