use Rattle.std.proofs.Common.{◌≡◌, ◌+◌, ◌*◌, ◌<◌, ◌≤◌, None, length, min, refl, sym, ◌∙◌, ap, rules, arith}
use Rattle.flat_model.specs.Permission.{spans_of}
use Rattle.flat_model.specs.World.{HartState}
use Rattle.rv_exec.specs.Sharing.{shared_of, machine_on}
use Rattle.shared_runs.proofs.Extending.{no_steps, one_more, none_run, more_run, none_inside, more_inside, tells_few}
use Rattle.shared_runs.proofs.Leaving.{absent_behind}
use Rattle.shared_runs.proofs.runs.shared_run.Goals as goal

pub loop-site-init : goal.loop-site-init
loop-site-init c =
    let image = c.args.image.now in
    let shared = shared_of c.args.memory.now c.args.services.now in
    let machine = machine_on image c.args.memory.now c.args.limit in
    let few = c.requires.few in
    let most = c.requires.block.long.most in
    let all = c.requires.block.all in
    let within = c.requires.within in
    record {
      steps = no_steps machine c.args.no c.args.hart.now shared c.args.raw.now.events;
      each = none_run machine c.args.no c.args.hart.now shared;
      inside = none_inside machine c.args.no c.args.hart.now shared;
      made = refl;
      may = record {
        awake = c.requires.awake;
        running = c.requires.running;
        below = c.requires.below_limit;
        going_on = c.requires.going_on;
        no = c.requires.no;
        places = c.requires.starts;
        spans = c.requires.memory;
        output = c.requires.output;
        room = omega arith;
      };
      place = omega arith;
      since = omega arith;
      small = omega arith;
      behind = λ last. absurd (omega arith);
      few = omega arith;
      kept = refl;
      counted = omega arith;
      layout = record { spans = refl; harts = refl };
      places = record { starts = refl; room = omega arith };
    }

pub returns-then-is_some-clause-steps : goal.returns-then-is_some-clause-steps
returns-then-is_some-clause-steps c =
    let first = c.args in
    let at = c.loop-site in
    let now = c.step_at.new in
    one_more first.image.now first.memory.now at.memory first.limit first.no at.made first.hart.now at.hart now.hart
    (shared_of first.memory.now first.services.now) (shared_of at.memory at.services) (shared_of now.memory now.services)
    first.raw.now.events at.raw.events now.raw.events at.invariant.layout.harts at.invariant.steps c.step_at.ensures.step

pub returns-clause-steps : goal.returns-clause-steps
returns-clause-steps c =
    let first = c.args in
    let at = c.loop-site in
    let now = c.step_behind.new in
    one_more first.image.now first.memory.now at.memory first.limit first.no at.made first.hart.now at.hart now.hart
    (shared_of first.memory.now first.services.now) (shared_of at.memory at.services) (shared_of now.memory now.services)
    first.raw.now.events at.raw.events now.raw.events at.invariant.layout.harts at.invariant.steps c.step_behind.ensures.step

pub loop-site-preserved : goal.loop-site-preserved
loop-site-preserved c =
    let first = c.args in
    let image = c.args.image.now in
    let at = c.loop-site in
    let was = c.loop-site.invariant in
    let now = c.step_at.new in
    let e = c.step_at.ensures in
    let ran : now.hart.ending ≡ None = search rules in
    let inside : 0 < now.hart.since = search rules in
    let small : now.hart.since < 512 =
    let fits = c.hart.invariant.since_small in
    let same = ap (λ (h : HartState). h.since) c.hart.view_is in
    omega (arith, fits, same) in
    let next : now.hart.pc ≡ at.hart.pc + 4 = e.straight.next ran inside in
    let counted : now.hart.since ≡ at.hart.since + 1 = e.straight.counted ran inside in
    let place : now.hart.pc ≡ first.block.now.pc + 4 * (first.first + (at.made + 1)) =
    let before = was.place in omega (arith, next, before) in
    let since : now.hart.since ≡ first.first + (at.made + 1) = let before = was.since in omega (arith, counted, before) in
    let few : length now.raw.events ≤ 3 * (first.first + (at.made + 1)) + 2 * min (first.first + (at.made + 1)) 1 =
    tells_few at.hart now.hart at.raw.events now.raw.events (first.first + at.made) (first.first + (at.made + 1)) e.few ran was.since
    (omega arith) was.few in
    record {
      steps = one_more image first.memory.now at.memory first.limit first.no at.made first.hart.now at.hart now.hart
          (shared_of first.memory.now first.services.now) (shared_of at.memory at.services) (shared_of now.memory now.services)
          first.raw.now.events at.raw.events now.raw.events was.layout.harts was.steps e.step;
      each = more_run (machine_on image first.memory.now first.limit) first.no at.made first.hart.now at.hart
          (shared_of first.memory.now first.services.now) (shared_of at.memory at.services) first.raw.now.events at.raw.events
          was.each was.steps was.may.awake was.may.running was.may.going_on;
      inside = more_inside (machine_on image first.memory.now first.limit) first.no at.made first.first first.hart.now at.hart
          (shared_of first.memory.now first.services.now) (shared_of at.memory at.services) first.raw.now.events at.raw.events
          was.inside was.steps was.since;
      made = let before = was.made in omega (arith, before);
      may = record {
        awake = e.awake;
        running = ran;
        below = e.within_limit ran;
        going_on = e.going_on ran;
        no = rw e.layout.harts was.may.no;
        places = e.places.starts ∙ was.may.places ∙ sym e.layout.harts;
        spans = e.layout.spans ∙ was.may.spans ∙ ap (spans_of image) (sym e.layout.harts);
        output = e.output ran inside;
        room = omega (arith, few, since, small);
      };
      place = place;
      since = since;
      small = small;
      behind = λ last.
          let block = c.requires.block in
          let all : first.first + (at.made + 1) ≡ first.block.now.n = last ∙ block.all in
          absent_behind (machine_on image at.memory first.limit) first.no first.block.now.pc first.block.now.n (first.first + at.made)
          at.hart now.hart (shared_of at.memory at.services) (shared_of now.memory now.services) at.raw.events now.raw.events
          was.may.awake was.may.running was.may.going_on e.step ran inside (omega (arith, all, since, small)) was.place
          (place ∙ ap (λ n. first.block.now.pc + 4 * n) all) (omega (arith, all)) block.long.in_page block.long.stops;
      few = few;
      kept = e.kept ∙ was.kept;
      counted = let n = e.counted in let before = was.counted in omega (arith, n, before);
      layout = record { spans = e.layout.spans ∙ was.layout.spans; harts = e.layout.harts ∙ was.layout.harts };
      places = record {
        starts = e.places.starts ∙ was.places.starts;
        room = let n = e.places.room in let before = was.places.room in omega (arith, n, before);
      };
    }
