use Rattle.std.proofs.lemmas.Result.{IfOk-weaker}
use Rattle.flat_model.specs.declared.journals.Entry.TheVariants as entries
use Rattle.flat_model.specs.declared.journals.Item.TheVariants.{Ordered}
use Rattle.flat_model.specs.declared.journals.Origin.TheVariants.{Control}
use Rattle.run_replay.specs.Following.{IsFollowed}
use Rattle.run_replay.specs.Recording.{IsJudged}
use Rattle.run_replay.proofs.Follows.{order_followed}
use Rattle.run_replay.proofs.replays.Replay.control.Goals as goal

pub returns : goal.returns
returns g c = record {
  followed = IfOk-weaker c.order_by.result
      (λ f. IsJudged f (Ordered (Control c.args.party) c.args.order.now) c.args.self.now.state c.order_by.new.state)
      (λ f. IsFollowed f (entries.Order (Control c.args.party) c.args.order.now) c.args.self.now.state c.order_by.new.state
      c.args.self.now.berths.items c.args.self.now.blocks)
      (λ f judged. order_followed f (Control c.args.party) c.args.order.now c.args.self.now.state c.order_by.new.state
      c.args.self.now.berths.items c.args.self.now.blocks tt c.requires.following judged) c.order_by.ensures.judged;
}
