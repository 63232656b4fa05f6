use Rattle.std.proofs.Common.{◌≡◌, ◌∙◌, ℕ, false, None, [], ap, sym, subst}
use Rattle.std.proofs.lemmas.Result.{IfOk-weaker}
use Rattle.run_rules.specs.Due.{wanted}
use Rattle.run_order.specs.Sets.{is_closing_out}
use Rattle.run_order.specs.InOrder.{task_run}
use Rattle.host_state.specs.State.{StateValue}
use Rattle.run_replay.specs.Following.{IsFollowed}
use Rattle.run_replay.specs.Recording.{IsTold}
use Rattle.flat_model.specs.declared.journals.Entry.TheVariants as entries
use Rattle.run_replay.proofs.Follows.{told_followed}
use Rattle.run_replay.proofs.replays.Replay.done.Goals as goal

pub tell_by-requires-clause-open : goal.tell_by-requires-clause-open
tell_by-requires-clause-open g c = ap (λ s. s.short) c.reserve_hold.ensures.rest ∙ c.requires.following.open_now

pub tell_by-requires-clause-caught_up : goal.tell_by-requires-clause-caught_up
tell_by-requires-clause-caught_up g c =
    subst (λ (s : StateValue). wanted (task_run s.task) s.past ≡ None) (sym c.reserve_hold.ensures.rest) c.requires.following.caught_up

pub tell_by-requires-clause-none_out : goal.tell_by-requires-clause-none_out
tell_by-requires-clause-none_out g c =
    subst (λ (s : StateValue). (p : ℕ) → is_closing_out (task_run s.task) p s.past ≡ false) (sym c.reserve_hold.ensures.rest)
    c.requires.following.none_out

pub returns : goal.returns
returns g c = record {
  followed = IfOk-weaker c.tell_by.result (λ f. IsTold f c.args.party c.args.plugin c.reserve_hold.new.self c.tell_by.new.state)
      (λ f. IsFollowed f (entries.Done c.args.party c.args.plugin) c.args.self.now.state c.tell_by.new.state c.args.self.now.berths.items
      c.args.self.now.blocks)
      (λ f told. told_followed f c.args.party c.args.plugin c.args.self.now.state c.reserve_hold.new.self c.tell_by.new.state
      c.args.self.now.berths.items c.args.self.now.blocks c.requires.following (ap (λ s. s.task) c.reserve_hold.ensures.rest)
      (ap (λ s. s.short) c.reserve_hold.ensures.rest) (ap (λ s. s.past) c.reserve_hold.ensures.rest) told)
      c.tell_by.ensures.told;
}
