use Rattle.std.proofs.Common.{◌≡◌, ◌<◌, true, length, MatchResult, subst, slice_set, arith}
use Rattle.std.proofs.lemmas.List.{length-set}
use Rattle.watcher_api.specs.Attachment.{Attachment, calls_at}
use Rattle.watcher_api.specs.Acting.{act_in, HasActed}
use Rattle.watcher_api.proofs.Acting.{viewed, is_there, hears_as, same_act, same_length, all_within}
use Rattle.watcher_api.proofs.attached_sets.AttachedSet.hear.Goals as goal

pub invariant_of-self : goal.invariant_of-self
invariant_of-self g c =
    let in' = c.self.inside in
    let xs = in'.held.items in
    let i = c.args.sub in
    let old = c.index_mut.result.now in
    let new = c.carry_out.new.held in
    let e = c.args.e.now in
    let after = c.carry_out.new.column in
    let below : i < length xs = is_there in'.plugin xs i in'.column c.args.self.now c.self.view_is c.requires.there in
    let same = same_act in'.plugin xs i old new e in'.column after below c.index_mut.ensures.value c.carry_out.result c.carry_out.ensures.refused in
    let long = same_length in'.plugin xs i old new e in'.column after below c.index_mut.ensures.value c.carry_out.result
    c.carry_out.ensures.done c.carry_out.ensures.refused in (
      c.self.invariant.0,
      c.self.invariant.1,
      omega (arith, c.self.invariant.2, length-set xs i new),
      all_within in'.plugin xs i old new e in'.column after below c.index_mut.ensures.value same long c.self.invariant.3,
    )

pub returns : goal.returns
returns g c =
    let in' = c.self.inside in
    let xs = in'.held.items in
    let i = c.args.sub in
    let old = c.index_mut.result.now in
    let new = c.carry_out.new.held in
    let e = c.args.e.now in
    let after = c.carry_out.new.column in
    let below : i < length xs = is_there in'.plugin xs i in'.column c.args.self.now c.self.view_is c.requires.there in
    let now : Attachment = viewed in'.plugin xs in'.column in
    record {
      done = subst (λ (a : Attachment). MatchResult c.carry_out.result
          (λ ask. HasActed i e a (viewed in'.plugin (slice_set xs i new) after) ask)
          (λ _. (viewed in'.plugin (slice_set xs i new) after ≡ a) × (calls_at (act_in a.acts i) a.column ≡ true)))
          c.self.view_is
          (hears_as in'.plugin xs i old new e in'.column after below c.index_mut.ensures.value c.carry_out.result
          c.carry_out.ensures.done c.carry_out.ensures.refused);
    }
