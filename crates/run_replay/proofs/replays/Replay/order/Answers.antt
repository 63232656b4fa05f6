use Rattle.std.proofs.Common.{sym, subst}
use Rattle.std.specs.Prelude.{IfOk}
use Rattle.flat_model.specs.declared.journals.Entry.TheVariants as entries
use Rattle.flat_model.specs.declared.journals.Item.TheVariants.{Ordered}
use Rattle.flat_model.specs.declared.journals.Origin.{Origin}
use Rattle.run_replay.specs.Following.{IsFollowed}
use Rattle.run_replay.proofs.Follows.{breaks}
use Rattle.run_replay.proofs.Orders.{IsPlanned, planned_breaks}
use Rattle.run_replay.proofs.replays.Replay.order.Goals as goal

pub returns-in-Start : goal.returns-in-Start
returns-in-Start g c =
    let s = c.args.self.now.state in
    record {
      followed = breaks s (Ordered c.args.origin c.args.order.now) (planned_breaks s c.args.origin c.args.order.now
          c.requires.following.caught_up (subst IsPlanned (sym c.in-Start.is) tt));
    }

pub returns-in-Script : goal.returns-in-Script
returns-in-Script g c =
    let s = c.args.self.now.state in
    record {
      followed = breaks s (Ordered c.args.origin c.args.order.now) (planned_breaks s c.args.origin c.args.order.now
          c.requires.following.caught_up (subst IsPlanned (sym c.in-Script.is) tt));
    }

pub returns-in-Asked : goal.returns-in-Asked
returns-in-Asked g c = record {
  followed = subst (λ (o : Origin). IfOk c.asked.result (λ f. IsFollowed f (entries.Order o c.args.order.now) c.args.self.now.state
      c.asked.new.self.state c.asked.new.self.berths.items c.asked.new.self.blocks)) (sym c.in-Asked.is) c.asked.ensures.followed;
}

pub returns-in-Control : goal.returns-in-Control
returns-in-Control g c = record {
  followed = subst (λ (o : Origin). IfOk c.control.result (λ f. IsFollowed f (entries.Order o c.args.order.now) c.args.self.now.state
      c.control.new.self.state c.control.new.self.berths.items c.control.new.self.blocks)) (sym c.in-Control.is) c.control.ensures.followed;
}
