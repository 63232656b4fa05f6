use Rattle.std.proofs.Common.{◌≡◌, ◌∙◌, List, subst, sym, ap, slice_index_or}
use Rattle.std.specs.Prelude.{option_copied}
use Rattle.watcher_api.specs.Attachment.{Attachment}
use Rattle.watcher_api.specs.Acting.{AreInOrder}
use Rattle.watcher_api.proofs.Order.{absent_set, found}
use Rattle.watcher_api.proofs.attached.Attached.set.Goals as goal

pub returns-in_err-place : goal.returns-in_err-place
returns-in_err-place g c =
    record { set = ap option_copied c.from_residual.ensures ∙ sym (absent_set c.args.plugin c.args.self.now c.in_err-place.ensures.place) }

pub returns : goal.returns
returns g c =
    let now = c.args.self.now in
    let i = c.in_ok-place.place in
    let x = c.index.result.now in
    let order = subst AreInOrder c.self.view_is c.self.invariant.1 in
    let is : x ≡ slice_index_or now i x = c.index.ensures ∙ ap (λ (s : List Attachment). slice_index_or s i x) c.self.view_is in
    record { set = sym (found c.args.plugin now i x c.in_ok-place.ensures.place order is) }
