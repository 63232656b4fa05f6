use Rattle.std.proofs.Common.{Bool, sym, ap, subst}
use Rattle.run_order.specs.InOrder.{task_run}
use Rattle.host_state.specs.State.{StateValue}
use Rattle.run_replay.specs.Turns.{HasMade, HasStepped}
use Rattle.run_replay.proofs.Judged.{owes_first}
use Rattle.run_replay.proofs.Turned.{breaks_first, begins, breaks_behind, is_turn, caught_up_ok}
use Rattle.run_replay.proofs.turning.turn_berth.Goals as goal

pub returns-then-owes_any : goal.returns-then-owes_any
returns-then-owes_any g c =
    let s = c.args.state.now in
    let may = c.requires.may in
    record {
      turned = breaks_first s c.args.no c.args.n c.requires.some
          (owes_first (task_run s.task) c.args.no 0 s.past may.berth.sits.there may.anew (λ e. may.caught_up) (sym c.if-owes_any.ensures.owes));
    }

pub make_steps-requires-clause-turning : goal.make_steps-requires-clause-turning
make_steps-requires-clause-turning g c =
    let may = c.requires.may in
    let took = c.in_ok-take_sets.ensures in
    begins c.args.no c.args.state.now c.take_sets.new.state c.look.new.berth c.take_sets.new.berth c.args.blocks.now
    (record {
      open_now = may.open_now;
      caught_up = may.caught_up;
      berth = c.look.ensures.berth;
      anew = may.anew;
      serves = may.serves;
    })
    (ap (λ (s : StateValue). s.task) took.rest) took.gots took.berth (sym took.hart) c.look.ensures.is took.all

pub place_due-requires-clause-open : goal.place_due-requires-clause-open
place_due-requires-clause-open g c =
    let made : HasStepped c.args.no c.args.n c.take_sets.new.state c.make_steps.new.state c.make_steps.new.berth c.make_steps.new.blocks =
    subst (λ (b : Bool). HasMade b c.args.no c.args.n c.take_sets.new.state c.make_steps.new.state c.make_steps.new.berth
    c.make_steps.new.blocks) c.if-all.true c.in_ok-all.ensures.made in
    made.open_now

pub place_due-requires-clause-turn : goal.place_due-requires-clause-turn
place_due-requires-clause-turn g c =
    let may = c.requires.may in
    let took = c.in_ok-take_sets.ensures in
    let turning = begins c.args.no c.args.state.now c.take_sets.new.state c.look.new.berth c.take_sets.new.berth c.args.blocks.now
    (record { open_now = may.open_now; caught_up = may.caught_up; berth = c.look.ensures.berth; anew = may.anew; serves = may.serves })
    (ap (λ (s : StateValue). s.task) took.rest) took.gots took.berth (sym took.hart) c.look.ensures.is took.all in
    is_turn c.args.no c.args.n c.take_sets.new.state c.make_steps.new.state c.take_sets.new.berth c.make_steps.new.berth
    c.args.blocks.now c.make_steps.new.blocks turning c.requires.some
    (subst (λ (b : Bool). HasMade b c.args.no c.args.n c.take_sets.new.state c.make_steps.new.state c.make_steps.new.berth
    c.make_steps.new.blocks) c.if-all.true c.in_ok-all.ensures.made)

pub returns-then-all : goal.returns-then-all
returns-then-all g c =
    let took = c.in_ok-take_sets.ensures in
    let made = subst (λ (b : Bool). HasMade b c.args.no c.args.n c.take_sets.new.state c.make_steps.new.state c.make_steps.new.berth
    c.make_steps.new.blocks) c.if-all.true c.in_ok-all.ensures.made in
    record {
      turned = caught_up_ok c.place_due.result c.args.no c.args.n c.args.state.now c.take_sets.new.state c.make_steps.new.state
          c.place_due.new.state c.make_steps.new.berth c.make_steps.new.blocks (ap (λ (s : StateValue). s.task) took.rest) took.gots
          made c.place_due.ensures.placed;
    }

pub returns : goal.returns
returns g c =
    let took = c.in_ok-take_sets.ensures in
    record {
      turned = breaks_behind c.args.no c.args.n c.args.state.now c.take_sets.new.state (ap (λ (s : StateValue). s.task) took.rest) took.gots
          (subst (λ (b : Bool). HasMade b c.args.no c.args.n c.take_sets.new.state c.make_steps.new.state c.make_steps.new.berth
          c.make_steps.new.blocks) c.if-all.false c.in_ok-all.ensures.made);
    }
