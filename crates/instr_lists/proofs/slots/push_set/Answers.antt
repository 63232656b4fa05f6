use Rattle.std.proofs.Common.{◌≡◌, ◌∙◌, ◌+◌, ◌++◌, ◌∷◌, [], drop, sym, ap, subst}
use Rattle.instr_lists.specs.Slots.{slots_in}
use Rattle.instr_lists.proofs.Resolving.{slot_more, slot_none, slots_done}
use Rattle.instr_lists.proofs.slots.push_set.Goals as goal
use Rattle.instr_lists.proofs.slots.push_set.Goals.{then-passes+in_ok-push, else-passes}

pub loop-i-preserved : goal.loop-i-preserved
loop-i-preserved c =
    let k = c.args.k in
    let i = c.loop-i.i in
    let sort = c.args.sort.now in
    let subs = c.args.subs.now in
    let s = c.index-subs-i.result in
    let before = c.loop-i.slots.items in
    let all = c.args.slots.now.items ++ slots_in k 0 sort subs in
    elim c.if-passes.branch [
      | then-passes+in_ok-push w ↦
          let grown : c.if-passes.slots.items ≡ before ++ record { set = k; sub = i } ∷ [] =
          ap (λ v. v.items) w.slots-is ∙ w.in_ok-push.ensures.items in
          subst (λ l. l ++ slots_in k (i + 1) sort (drop (i + 1) subs) ≡ all) (sym grown)
          (slot_more k i sort subs s before all c.loop-i-test.true c.index-subs-i.is c.loop-i.invariant
          (sym c.passes.ensures.passes ∙ w.if-passes.true))
      | else-passes w ↦
          let same : c.if-passes.slots.items ≡ before = ap (λ v. v.items) w.slots-is in
          subst (λ l. l ++ slots_in k (i + 1) sort (drop (i + 1) subs) ≡ all) (sym same)
          (slot_none k i sort subs s before all c.loop-i-test.true c.index-subs-i.is c.loop-i.invariant
          (sym c.passes.ensures.passes ∙ w.if-passes.false))
    ]

pub returns : goal.returns
returns c =
    let subs = c.args.subs.now in
    let all = c.args.slots.now.items ++ slots_in c.args.k 0 c.args.sort.now subs in
    record { slots = slots_done c.args.k c.loop-i.i c.args.sort.now subs c.loop-i.slots.items all c.loop-i-test.false c.loop-i.invariant }
