use Rattle.std.proofs.Common.{sym, subst}
use Rattle.baton_gate.specs.Passes.{carries, seen}
use Rattle.hart_runner.specs.declared.runners.Turned.{Turned}
use Rattle.hart_runner.specs.Turns.{IsDone}
use Rattle.hart_runner.proofs.Between.{done_by, lists_by}
use Rattle.hart_runner.proofs.turns.turn_still.Goals as goal

pub returns-clause-done : goal.returns-clause-done
returns-clause-done g c = λ t e.
    subst (λ (x : Turned). IsDone x t c.args.pass.now.party (seen c.args.pass.now) (seen c.hold_still_once.new.pass)
    c.hold_still_once.new.place)
    (sym c.turned_by.ensures.turned)
    (done_by c.args.place.now c.hold_still_once.new.place c.hold_still_once.result c.in-Ok.hold t c.args.pass.now.party
    (seen c.args.pass.now) (seen c.hold_still_once.new.pass) c.in-Ok.is (c.requires.sits t e) (c.hold_still_once.ensures.gone t e))

pub returns-clause-lists : goal.returns-clause-lists
returns-clause-lists g c =
    lists_by c.args.place.now c.hold_still_once.new.place c.hold_still_once.result c.in-Ok.hold (carries c.args.pass.now)
    (seen c.args.pass.now) (seen c.hold_still_once.new.pass) c.in-Ok.is c.requires.gate.open_now c.hold_still_once.ensures.gone
