use Rattle.std.proofs.Common.{◌∙◌, None, refl, ap}
use Rattle.std.specs.Prelude.{slice_index_or}
use Rattle.host_state.proofs.KeptNotices.{found_told, notice_below, notice_told}
use Rattle.host_state.proofs.states.HostState.told.Goals as goal

pub unreachable-requires : goal.unreachable-requires
unreachable-requires g c =
    let found = found_told c.args.self.now _ c.self.view_is c.self.invariant c.requires.whole c.args.plugin c.args.set c.requires.least
    c.requires.ended g.C.Closer.notices c.self.inside.closers.items refl c.from-row.result c.from-row.ensures None
    (c.in_default.ensures.closer ∙ ap (λ xs. slice_index_or xs c.from-row.result None) c.as_slice.ensures.value) in
    cc found

pub notice-requires : goal.notice-requires
notice-requires g c = record {
  there = notice_below c.args.self.now _ c.self.view_is c.self.invariant c.requires.whole c.args.plugin c.args.set c.requires.least
      c.requires.ended g.C.Closer.notices c.self.inside.closers.items refl c.from-row.result c.from-row.ensures
      c.in-Some.closer.now
      (c.in-Some.ensures.closer ∙ ap (λ xs. slice_index_or xs c.from-row.result None) c.as_slice.ensures.value);
}

pub returns : goal.returns
returns g c = record {
  told = notice_told c.args.self.now _ c.self.view_is c.self.invariant c.requires.whole c.args.plugin c.args.set c.requires.least
      c.requires.ended g.C.Closer.notices c.self.inside.closers.items refl c.from-row.result c.from-row.ensures
      c.in-Some.closer.now
      (c.in-Some.ensures.closer ∙ ap (λ xs. slice_index_or xs c.from-row.result None) c.as_slice.ensures.value)
      c.notice.result.now c.notice.ensures.notice;
}
