use Rattle.std.proofs.Common.{◌≡◌, ◌∙◌, ◌+◌, ◌++◌, drop, sym, ap, subst}
use Rattle.instr_lists.specs.Slots.{slots_in, slots_from}
use Rattle.instr_lists.proofs.Resolving.{set_more, sets_done}
use Rattle.instr_lists.proofs.slots.push_slots.Goals as goal

pub loop-k-preserved : goal.loop-k-preserved
loop-k-preserved c =
    let k = c.loop-k.k in
    let sort = c.args.sort.now in
    let sets = c.args.sets.now in
    let s = c.index-sets-k.result in
    let before = c.loop-k.slots.items in
    let all = c.args.slots.now.items ++ slots_from 0 sort sets in
    let grown : c.push_set.new.slots.items ≡ before ++ slots_in k 0 sort s.1.subs =
    c.in_ok-push_set.ensures.slots ∙ ap (λ subs. before ++ slots_in k 0 sort subs) c.as_slice.ensures.subscriptions in
    subst (λ l. l ++ slots_from (k + 1) sort (drop (k + 1) sets) ≡ all) (sym grown)
    (set_more k sort sets s before all c.loop-k-test.true c.index-sets-k.is c.loop-k.invariant)

pub returns : goal.returns
returns c =
    let sets = c.args.sets.now in
    let all = c.args.slots.now.items ++ slots_from 0 c.args.sort.now sets in
    record { slots = sets_done c.loop-k.k c.args.sort.now sets c.loop-k.slots.items all c.loop-k-test.false c.loop-k.invariant }
