use Rattle.std.proofs.Common.{length, ap, subst, arith}
use Rattle.host_state.specs.State.{StateValue, IsSound}
use Rattle.host_state.proofs.Gathering.{there_still, owes_still, same_count, more_attached, none_more, no_more, all_taken}
use Rattle.host_state.proofs.states.HostState.attach.Goals as goal

pub attach_one-came-requires-clause-there : goal.attach_one-came-requires-clause-there
attach_one-came-requires-clause-there g c = there_still c.args.no _ _ _ _ c.loop-number.invariant.attached c.requires.there

pub loop-number-preserved : goal.loop-number-preserved
loop-number-preserved g c = record {
  attached = more_attached c.args.no _ _ _ _ _ _ _ c.loop-number.invariant.attached c.attach_one-came.ensures.attached;
  nothing = no_more _ _ _ _ _ _ _ _ c.loop-number.invariant.nothing c.attach_one-came.ensures.nothing;
  none = none_more c.loop-number.self c.attach_one-came.new.self c.args.no c.loop-number.number
      c.attach_one-came.ensures.others c.loop-number.invariant.none c.attach_one-came.ensures.none;
}

pub returns-clause-all : goal.returns-clause-all
returns-clause-all g c =
    let has = c.loop-number.invariant.attached in
    let count = ap (λ (s : StateValue). length s.registry.table.plugins) c.self.view_is in
    let same = same_count c.args.no _ _ _ _ has in
    all_taken c.loop-number.self c.args.no (subst IsSound c.self-2.view_is c.self-2.invariant)
    (there_still c.args.no _ _ _ _ has c.requires.there) (owes_still c.args.no _ _ _ _ has c.requires.owes_none)
    (λ p one most. c.loop-number.invariant.none p one (omega (arith, most, same, count, c.count-count.ensures)))
