use Rattle.std.proofs.Common.{◌≡◌, ◌∙◌, ℕ, List, Option, Some, None, sym, ap, subst}
use Rattle.std.specs.Prelude.{slice_index_or, slice_set}
use Rattle.std.proofs.lemmas.List.{take_at}
use Rattle.flat_model.specs.declared.journals.Entry.TheVariants as entries
use Rattle.run_order.specs.InOrder.{task_run}
use Rattle.run_replay.specs.declared.berths.Berth.{Berth}
use Rattle.run_replay.specs.Following.{IsFollowed}
use Rattle.run_replay.proofs.Going.{absent, present, found}
use Rattle.run_replay.proofs.Putting.{set_twice}
use Rattle.run_replay.proofs.Turned.{breaks_without, follows}
use Rattle.run_replay.proofs.replays.Replay.turn.Goals as goal

pub returns-in_default : goal.returns-in_default
returns-in_default g c =
    let s = c.args.self.now.state in
    record {
      followed = breaks_without s c.args.no c.args.n c.requires.some
          (absent s c.args.self.now.berths.items c.args.self.now.blocks c.args.no c.requires.following
          (c.in_default.ensures.taken
          ∙ ap (λ (xs : List (Option (Berth g.row.W.Denot))). slice_index_or xs c.args.no None) c.deref_mut.ensures.value));
    }

pub turn_berth-requires-clause-may : goal.turn_berth-requires-clause-may
turn_berth-requires-clause-may g c =
    let f = c.requires.following in
    record {
      open_now = f.open_now;
      caught_up = f.caught_up;
      berth = present c.args.self.now.state c.args.self.now.berths.items c.args.self.now.blocks c.args.no c.in-Some.berth f
          (c.in-Some.ensures.taken
          ∙ ap (λ (xs : List (Option (Berth g.row.W.Denot))). slice_index_or xs c.args.no None) c.deref_mut.ensures.value);
      anew = c.requires.anew;
      serves = f.serves;
    }

pub returns : goal.returns
returns g c =
    let s = c.args.self.now.state in
    let put : _ ≡ slice_set c.args.self.now.berths.items c.args.no (Some c.turn_berth.new.berth) =
    take_at c.put_back.new.berths _ c.args.self.now.berths.len (c.put_back.auto.berths ∙ c.deref_mut-2.ensures.len)
    ∙ c.put_back.ensures.put
    ∙ ap (λ (xs : List (Option (Berth g.row.W.Denot))). slice_set xs c.args.no (Some c.turn_berth.new.berth))
    (c.deref_mut-2.ensures.value
    ∙ take_at c.take_out.new.berths _ c.args.self.now.berths.len (c.take_out.auto.berths ∙ c.deref_mut.ensures.len)
    ∙ c.in-Some.ensures.left
    ∙ ap (λ (xs : List (Option (Berth g.row.W.Denot))). slice_set xs c.args.no None) c.deref_mut.ensures.value)
    ∙ set_twice c.args.self.now.berths.items c.args.no None (Some c.turn_berth.new.berth) in
    record {
      followed = subst (λ (bs : List (Option (Berth g.row.W.Denot))). IsFollowed c.in_ok-followed.followed (entries.Turn c.args.no
          c.args.n) s
          c.turn_berth.new.state bs c.turn_berth.new.blocks) (sym put)
          (follows c.in_ok-followed.followed c.args.no c.args.n s c.turn_berth.new.state c.args.self.now.berths.items c.turn_berth.new.berth
          c.args.self.now.blocks c.turn_berth.new.blocks c.requires.following c.task.ensures.order c.in_ok-followed.ensures.turned);
    }
