use Rattle.std.proofs.Common.{refl}
use Rattle.host_core.proofs.SettledStates.{left_kept}
use Rattle.host_core.proofs.WholeLogs.{is_whole}
use Rattle.host_core.proofs.settling.settled.Goals as goal

pub returns-clause-whole : goal.returns-clause-whole
returns-clause-whole g c =
    let last = c.settle_all.new.state in
    let done = c.in_ok-settle_all.ensures in
    is_whole last c.args.party c.task.ensures.order done.may
    (left_kept c.args.state last c.args.party done.task done.goes_on c.requires.left)
    done.none (c.if-not-have_closers.ensures.there refl)
