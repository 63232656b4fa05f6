use Rattle.std.proofs.Common.{◌∙◌, None, Some, ap, sym}
use Rattle.std.specs.Prelude.{option_copied}
use Rattle.host_state.specs.Tables.{rows_of}
use Rattle.host_state.proofs.Shown.{shown}
use Rattle.host_state.proofs.KeptSets.{waiting_row, waiting_place, parked_row, parked_place, set_there}
use Rattle.host_state.proofs.states.HostState.live_set.Goals as goal

pub set_at-requires-clause-waiting_row : goal.set_at-requires-clause-waiting_row
set_at-requires-clause-waiting_row g c =
    waiting_row c.args.self.now _ c.self.view_is c.self.invariant c.args.plugin c.args.hart c.from-row.result c.from-place.result
    c.requires.least c.requires.most c.requires.hart c.from-row.ensures c.from-place.ensures
    (λ a. a.set) c.deref.result.now (ap (shown (λ a. a.set)) c.deref.ensures.value)
    c.deref-2.result.now (ap rows_of c.deref-2.ensures.value)

pub set_at-requires-clause-waiting_place : goal.set_at-requires-clause-waiting_place
set_at-requires-clause-waiting_place g c =
    waiting_place c.args.self.now _ c.self.view_is c.self.invariant c.args.plugin c.args.hart c.from-row.result c.from-place.result
    c.requires.least c.requires.most c.requires.hart c.from-row.ensures c.from-place.ensures
    (λ a. a.set) c.deref.result.now (ap (shown (λ a. a.set)) c.deref.ensures.value)
    c.deref-2.result.now (ap rows_of c.deref-2.ensures.value)

pub set_at-requires-clause-parked_row : goal.set_at-requires-clause-parked_row
set_at-requires-clause-parked_row g c =
    parked_row c.args.self.now _ c.self.view_is c.self.invariant c.args.plugin c.args.hart c.from-row.result c.from-place.result
    c.requires.least c.requires.most c.requires.hart c.from-row.ensures c.from-place.ensures
    (λ a. a.set) c.deref.result.now (ap (shown (λ a. a.set)) c.deref.ensures.value)
    c.deref-2.result.now (ap rows_of c.deref-2.ensures.value)

pub set_at-requires-clause-parked_place : goal.set_at-requires-clause-parked_place
set_at-requires-clause-parked_place g c =
    parked_place c.args.self.now _ c.self.view_is c.self.invariant c.args.plugin c.args.hart c.from-row.result c.from-place.result
    c.requires.least c.requires.most c.requires.hart c.from-row.ensures c.from-place.ensures
    (λ a. a.set) c.deref.result.now (ap (shown (λ a. a.set)) c.deref.ensures.value)
    c.deref-2.result.now (ap rows_of c.deref-2.ensures.value)

pub unreachable-requires : goal.unreachable-requires
unreachable-requires g c =
    let there = set_there c.args.self.now _ c.self.view_is c.self.invariant c.args.plugin c.args.hart c.from-row.result c.from-place.result
    c.requires.least c.requires.most c.requires.hart c.from-row.ensures c.from-place.ensures
    (λ a. a.set) c.deref.result.now (ap (shown (λ a. a.set)) c.deref.ensures.value)
    c.deref-2.result.now (ap rows_of c.deref-2.ensures.value)
    c.requires.left c.requires.live None (sym (ap option_copied c.in_default.is) ∙ c.set_at.ensures.set) in
    cc there

pub returns : goal.returns
returns g c =
    let there = set_there c.args.self.now _ c.self.view_is c.self.invariant c.args.plugin c.args.hart c.from-row.result c.from-place.result
    c.requires.least c.requires.most c.requires.hart c.from-row.ensures c.from-place.ensures
    (λ a. a.set) c.deref.result.now (ap (shown (λ a. a.set)) c.deref.ensures.value)
    c.deref-2.result.now (ap rows_of c.deref-2.ensures.value)
    c.requires.left c.requires.live (Some c.in-Some.set.now) c.in-Some.ensures.set in
    record { set = cc there }
