use Rattle.std.proofs.Common.{◌≡◌, ◌∷◌, [], ◌++◌, ◌∙◌, ℕ, ap, map, subst, sym}
use Rattle.std.specs.List.Sorted.{IsNonDecreasingBy}
use Rattle.flat_model.specs.declared.journals.Item.TheVariants.{Told, Took}
use Rattle.run_rules.specs.Legal.{Legal}
use Rattle.run_rules.specs.Places.{StateRule}
use Rattle.run_order.specs.InOrder.{Task, task_run}
use Rattle.run_order.specs.Sets.{as_notice, notice_of, notices_of}
use Rattle.host_core.proofs.SettledStates.{closer_told, is_taker, may_again, may_be_told, may_kept}
use Rattle.host_core.proofs.settling.settle.Goals as goal

pub returns-in_default-clause-may : goal.returns-in_default-clause-may
returns-in_default-clause-may g c =
    let room = c.reserve_hold.ensures.rest in
    let out = c.in_default.ensures.rest in
    may_kept c.args.party c.args.state.now c.take_closing.new.self (ap (λ s. s.short) out ∙ ap (λ s. s.short) room)
    (ap (λ s. s.task) out ∙ ap (λ s. s.task) room) (ap (λ s. s.past) c.in_default.ensures.taken.0 ∙ ap (λ s. s.past) room)
    c.requires.may

pub done-requires-clause-legal : goal.done-requires-clause-legal
done-requires-clause-legal g c =
    let room = c.reserve_hold.ensures.rest in
    let out = c.take_closing.new.self in
    let is = c.in-Some.ensures.taken in
    subst (λ (n : ℕ). Legal (task_run out.task) (Told c.args.party n ∷ out.past)) (sym c.in_ok-plugin.ensures.plugin)
    (may_be_told c.args.party c.in-Some.closing.plugin c.reserve_hold.new.self out is.past
    (ap (λ s. s.task) c.in-Some.ensures.rest) c.task.ensures.order.legal is.due
    (may_kept c.args.party c.args.state.now c.reserve_hold.new.self (ap (λ s. s.short) room) (ap (λ s. s.task) room)
    (ap (λ s. s.past) room) c.requires.may))

pub done-requires-clause-rule : goal.done-requires-clause-rule
done-requires-clause-rule g c =
    let out = c.take_closing.new.self in
    subst (λ (n : ℕ). StateRule (task_run out.task) (Told c.args.party n) out.past) (sym c.in_ok-plugin.ensures.plugin)
    (is_taker c.args.party c.in-Some.closing.plugin c.reserve_hold.new.self out c.in-Some.ensures.taken.past
    (ap (λ s. s.task) c.in-Some.ensures.rest))

pub done-requires-clause-told : goal.done-requires-clause-told
done-requires-clause-told g c =
    let out = c.take_closing.new.self in
    let is = c.in-Some.ensures.taken in
    subst (λ (n : ℕ). map as_notice (g.C.Closer.notices c.in_ok-plugin.closer)
    ≡ notices_of (task_run out.task) n out.past ++ notice_of (task_run out.task) n out.past ∷ []) (sym c.in_ok-plugin.ensures.plugin)
    (closer_told c.args.party c.in-Some.closing.plugin c.reserve_hold.new.self out is.past (ap (λ s. s.task) c.in-Some.ensures.rest)
    (g.C.Closer.notices c.in-Some.closing.closer) (g.C.Closer.notices c.in_ok-plugin.closer) c.in-Some.closing.back
    c.in_ok-plugin.ensures.told is.notices is.back)

pub returns-clause-may : goal.returns-clause-may
returns-clause-may g c =
    let room = c.reserve_hold.ensures.rest in
    let was = c.reserve_hold.new.self in
    let took = ap (λ (n : ℕ). Took c.args.party n ∷ was.past) (sym c.in_ok-plugin.ensures.plugin) in
    let rising = subst (λ (t : Task). IsNonDecreasingBy (λ x. x.when) t.plan.script) c.task.ensures.task c.script.ensures.rising in
    may_again c.args.party c.in_ok-plugin.plugin was c.take_closing.new.self (c.in-Some.ensures.taken.past ∙ took)
    (ap (λ s. s.task) c.in-Some.ensures.rest) rising
    (may_kept c.args.party c.args.state.now was (ap (λ s. s.short) room) (ap (λ s. s.task) room) (ap (λ s. s.past) room) c.requires.may)
    c.done.new.self c.done.ensures.done (ap (λ s. s.task) c.done.ensures.rest)
    (ap (λ s. s.short) c.done.ensures.rest ∙ ap (λ s. s.short) c.in-Some.ensures.rest)
