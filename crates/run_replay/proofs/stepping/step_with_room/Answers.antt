use Rattle.std.proofs.Common.{◌≡◌, ◌++◌, ◌∙◌, ap, sym, subst, refl, List, Option}
use Rattle.std.specs.Prelude.{All}
use Rattle.flat_model.specs.declared.events.Event.{Event}
use Rattle.flat_model.specs.Image.{Program}
use Rattle.flat_model.specs.World.{HartState}
use Rattle.flat_model.specs.Worlds.{next_step}
use Rattle.block_finder.specs.Block.{IsBlock}
use Rattle.block_finder.specs.Caches.{MayServe}
use Rattle.event_walk.specs.Matches.{classes_of}
use Rattle.instr_lists.specs.Delivery.{each_walks, no_asks}
use Rattle.instr_lists.specs.Sorts.{LiesIn}
use Rattle.rv_exec.specs.Logged.{LogState}
use Rattle.watcher_api.specs.Acting.{walks_of}
use Rattle.run_order.specs.InOrder.{Task, task_run}
use Rattle.host_state.specs.State.{StateValue}
use Rattle.replay_order.proofs.Lying.{steps_lie}
use Rattle.run_replay.specs.Following.{seating_of}
use Rattle.run_replay.specs.Lists.{AreLists}
use Rattle.run_replay.proofs.Turned.{may_make, acts_fit, steps_on}
use Rattle.run_replay.proofs.stepping.step_with_room.Goals as goal

pub commit_shared-requires-clause-legal : goal.commit_shared-requires-clause-legal
commit_shared-requires-clause-legal g c =
    may_make (task_run c.args.state.now.task) c.args.no c.args.state.now.past c.task.ensures.order.legal c.requires.may

pub deliver_step-requires-clause-lies : goal.deliver_step-requires-clause-lies
deliver_step-requires-clause-lies g c =
    let t = c.args.state.now.task in
    let next = (next_step t.machine t.mode c.args.state.now.past c.args.no).events in
    let image = c.image.ensures.image ∙ ap (λ (x : Task). x.machine.image) c.task.ensures.task in
    let at_pc : IsBlock t.machine.image c.args.berth.now.hart.pc c.in_ok-block.block.now =
    subst (λ pc. IsBlock t.machine.image pc c.in_ok-block.block.now) c.pc_of-pc.ensures.pc
    (subst (λ (i : Program). IsBlock i c.pc_of-pc.result c.in_ok-block.block.now) image c.in_ok-block.ensures.block) in
    let told : c.commit_shared.new.raw.events ≡ next =
    c.commit_shared.ensures.told ∙ ap (λ (r : LogState). r.events ++ next) c.clear.ensures.empty in
    subst (λ (es : List Event). All (λ e. LiesIn c.in_ok-block.block.now e.what) es) (sym told)
    (steps_lie t c.args.no c.args.state.now.past c.in_ok-block.block.now
    (subst (λ (x : HartState). IsBlock t.machine.image x.pc c.in_ok-block.block.now) c.requires.turning.is at_pc))

pub deliver_step-requires-clause-lists : goal.deliver_step-requires-clause-lists
deliver_step-requires-clause-lists g c =
    let image = c.image-2.ensures.image ∙ ap (λ (x : Task). x.machine.image)
    (c.task-2.ensures.task ∙ ap (λ (s : StateValue). s.task) c.commit_shared.ensures.rest) in
    subst (λ (i : Program). AreLists i c.args.berth.now.generation c.args.berth.now.specs c.args.berth.now.lists) (sym image)
    c.requires.turning.berth.cached

pub deliver_step-requires-clause-acts : goal.deliver_step-requires-clause-acts
deliver_step-requires-clause-acts g c =
    acts_fit c.args.state.now.task c.args.no c.args.state.now.past (seating_of c.args.berth.now) c.requires.turning.berth.sits

pub returns-clause-turning : goal.returns-clause-turning
returns-clause-turning g c =
    let t = c.args.state.now.task in
    let did = c.commit_shared.ensures in
    let next = (next_step t.machine t.mode c.args.state.now.past c.args.no).events in
    let one = c.image.ensures.image ∙ ap (λ (x : Task). x.machine.image) c.task.ensures.task in
    let two = c.image-2.ensures.image ∙ ap (λ (x : Task). x.machine.image)
    (c.task-2.ensures.task ∙ ap (λ (s : StateValue). s.task) did.rest) in
    let told : c.commit_shared.new.raw.events ≡ next = did.told ∙ ap (λ (r : LogState). r.events ++ next) c.clear.ensures.empty in
    let heard = c.in_ok-asked.ensures in
    let before = walks_of no_asks c.args.berth.now.attached in
    steps_on c.args.no c.args.made c.args.state.now c.commit_shared.new.self c.args.berth.now _ c.args.blocks.now _
    c.in_ok-asked.asked.first
    c.requires.turning c.task.ensures.order c.requires.may
    (record {
      task = ap (λ (s : StateValue). s.task) did.rest;
      past = did.steps;
      hart = did.hart;
      awake = did.awake;
      below = did.within_limit;
      acts = heard.acts;
      walks = heard.delivered
          ∙ ap (λ (i : Program). each_walks (classes_of i) c.args.berth.now.specs c.commit_shared.new.raw.events before) two
          ∙ ap (λ (es : List Event). each_walks (classes_of t.machine.image) c.args.berth.now.specs es before) told;
      others = heard.others;
      noted = record { filters = refl; first = c.note.ensures.first; since = c.note.ensures.since };
      kept = did.kept ∙ ap (λ (r : LogState). r.kept) c.clear.ensures.empty ∙ c.requires.turning.berth.kept;
      cached = subst (λ (i : Program). AreLists i c.args.berth.now.generation c.args.berth.now.specs c.deliver_step.new.lists) two
          heard.lists;
      serves = subst (λ (o : Option Program). MayServe o t.machine.image) (sym c.lookup.follows.holds-at-none) one;
    })
