use Rattle.std.proofs.Common.{◌≡◌, ◌∙◌, length, vec_len, ap, subst, arith}
use Rattle.std.specs.Prelude.{◌==◌}
use Rattle.instr_lists.specs.Lists.{Resolved}
use Rattle.instr_lists.specs.Silence.{is_deaf, at_all}
use Rattle.instr_lists.proofs.Deaf.{empty_is_deaf}
use Rattle.instr_lists.proofs.lists.Lists.is_silent.Goals as goal

pub returns : goal.returns
returns c =
    let in' = c.self.inside in
    let long : vec_len in'.slots ≡ length in'.slots.items = omega (arith, in'.slots.ok.0) in
    record {
      silent = subst (λ (v : Resolved). c.is_empty.result ≡ at_all is_deaf v.sets v.sorts) c.self.view_is
          (c.is_empty.ensures
          ∙ (ap (λ n. n == 0) long
          ∙ (ap (λ l. length l == 0) c.self.invariant.0.all ∙ empty_is_deaf in'.sets.items in'.sorts.items)));
    }
