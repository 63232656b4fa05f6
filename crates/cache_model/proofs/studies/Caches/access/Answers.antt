use Rattle.std.proofs.Common.{◌≡◌, length, take, slice_index_or, slice_set}
use Rattle.std.proofs.lemmas.Result.{on_ok_weaker, on_err_weaker}
use Rattle.cache_model.specs.Studies.{Studied, TouchesSome, TouchesFirst}
use Rattle.cache_model.specs.Touches.{lines_of}
use Rattle.cache_model.proofs.Gains.{shown, accessed, untouched, in_full, on_err}
use Rattle.cache_model.proofs.studies.Caches.access.Goals as goal

pub returns-in_err-access-clause-refused : goal.returns-in_err-access-clause-refused
returns-in_err-access-clause-refused c =
    let all = c.self.inside.harts.items in
    let shared = c.self.inside.shared in
    let own = c.index_mut.result.now in
    let same_hart : c.from.result ≡ c.args.hart = cc in
    let read : own ≡ slice_index_or all c.args.hart own = cc in
    let earlier = c.in_err-access.ensures.earlier in
    rw same_hart
    (on_err c.from_residual.result (
      earlier.0,
      0,
      accessed all shared c.args.self.now c.args.hart own c.access.new.self shared
          (λ line. take earlier.0 (lines_of line c.args.addr c.args.shift)) (λ line. take 0 (lines_of line c.args.addr c.args.shift))
          c.self.view_is c.self.invariant c.requires.hart read earlier.1
          (untouched shared (lines_of shared.shape.line c.args.addr c.args.shift)),
    ))

pub returns-clause-touched : goal.returns-clause-touched
returns-clause-touched c =
    let all = c.self.inside.harts.items in
    let shared = c.self.inside.shared in
    let own = c.index_mut.result.now in
    let same_hart : c.from.result ≡ c.args.hart = cc in
    let read : own ≡ slice_index_or all c.args.hart own = cc in
    rw same_hart
    (on_ok_weaker c.access-2.result
    (accessed all shared c.args.self.now c.args.hart own c.access.new.self c.access-2.new.self
    (λ line. lines_of line c.args.addr c.args.shift) (λ line. lines_of line c.args.addr c.args.shift)
    c.self.view_is c.self.invariant c.requires.hart read c.in_ok-access.ensures.touched)
    c.access-2.ensures.touched)

pub returns-clause-refused : goal.returns-clause-refused
returns-clause-refused c =
    let all = c.self.inside.harts.items in
    let shared = c.self.inside.shared in
    let now : Studied = c.args.self.now in
    let own = c.index_mut.result.now in
    let same_hart : c.from.result ≡ c.args.hart = cc in
    let read : own ≡ slice_index_or all c.args.hart own = cc in
    let lines = lines_of now.shape.line c.args.addr c.args.shift in
    let some = λ (earlier : TouchesSome shared c.access-2.new.self (lines_of shared.shape.line c.args.addr c.args.shift)).
    let first : TouchesFirst now (shown (slice_set all c.args.hart c.access.new.self) c.access-2.new.self) c.args.hart lines = (
      length lines,
      earlier.0,
      accessed all shared now c.args.hart own c.access.new.self c.access-2.new.self
          (λ line. take (length (lines_of line c.args.addr c.args.shift)) (lines_of line c.args.addr c.args.shift))
          (λ line. take earlier.0 (lines_of line c.args.addr c.args.shift))
          c.self.view_is c.self.invariant c.requires.hart read
          (in_full own c.access.new.self (lines_of own.shape.line c.args.addr c.args.shift) c.in_ok-access.ensures.touched) earlier.1,
    ) in
    first in
    rw same_hart (on_err_weaker c.access-2.result some c.access-2.ensures.earlier)
