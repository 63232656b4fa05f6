use Rattle.std.proofs.Common.{◌≡◌, ◌∙◌, ℕ, List, Option, Some, None, sym, ap, subst}
use Rattle.std.specs.Prelude.{slice_index_or, slice_set}
use Rattle.std.proofs.lemmas.List.{take_at}
use Rattle.flat_model.specs.declared.journals.Entry.TheVariants as entries
use Rattle.run_order.specs.InOrder.{task_run}
use Rattle.run_replay.specs.declared.berths.Berth.{Berth}
use Rattle.run_replay.specs.Following.{IsFollowed}
use Rattle.run_replay.proofs.Going.{absent, present, found}
use Rattle.run_replay.proofs.Putting.{set_twice}
use Rattle.run_replay.specs.declared.replays.Followed.TheVariants.{Went}
use Rattle.run_replay.proofs.GivenBack.{owes_there, back_breaks, back_follows}
use Rattle.run_replay.proofs.replays.Replay.back.Goals as goal

pub returns-in_default : goal.returns-in_default
returns-in_default g c =
    let s = c.args.self.now.state in
    record {
      followed = back_breaks s c.args.no c.args.plugin (owes_there (task_run s.task) c.args.no c.args.plugin s.past
          (absent s c.args.self.now.berths.items c.args.self.now.blocks c.args.no c.requires.following
          (c.in_default.ensures.taken
          ∙ ap (λ (xs : List (Option (Berth g.row.W.Denot))). slice_index_or xs c.args.no None) c.deref_mut.ensures.value)));
    }

pub may_give_back-requires-clause-berth : goal.may_give_back-requires-clause-berth
may_give_back-requires-clause-berth g c =
    present c.args.self.now.state c.args.self.now.berths.items c.args.self.now.blocks c.args.no c.in-Some.berth c.requires.following
    (c.in-Some.ensures.taken
    ∙ ap (λ (xs : List (Option (Berth g.row.W.Denot))). slice_index_or xs c.args.no None) c.deref_mut.ensures.value)

pub returns-then-not-may_give_back : goal.returns-then-not-may_give_back
returns-then-not-may_give_back g c = record {
  followed = back_breaks c.args.self.now.state c.args.no c.args.plugin (sym c.if-not-may_give_back.ensures.may);
}

pub give_back-requires-clause-berth : goal.give_back-requires-clause-berth
give_back-requires-clause-berth g c =
    present c.args.self.now.state c.args.self.now.berths.items c.args.self.now.blocks c.args.no c.in-Some.berth c.requires.following
    (c.in-Some.ensures.taken
    ∙ ap (λ (xs : List (Option (Berth g.row.W.Denot))). slice_index_or xs c.args.no None) c.deref_mut.ensures.value)

pub give_back-requires-clause-may : goal.give_back-requires-clause-may
give_back-requires-clause-may g c = sym c.if-not-may_give_back.ensures.may

pub returns : goal.returns
returns g c =
    let s = c.args.self.now.state in
    let did = c.in_ok-give_back.ensures in
    let put : _ ≡ slice_set c.args.self.now.berths.items c.args.no (Some c.give_back.new.berth) =
    take_at c.put_back.new.berths _ c.args.self.now.berths.len (c.put_back.auto.berths ∙ c.deref_mut-2.ensures.len)
    ∙ c.put_back.ensures.put
    ∙ ap (λ (xs : List (Option (Berth g.row.W.Denot))). slice_set xs c.args.no (Some c.give_back.new.berth))
    (c.deref_mut-2.ensures.value
    ∙ take_at c.take_out.new.berths _ c.args.self.now.berths.len (c.take_out.auto.berths ∙ c.deref_mut.ensures.len)
    ∙ c.in-Some.ensures.left
    ∙ ap (λ (xs : List (Option (Berth g.row.W.Denot))). slice_set xs c.args.no None) c.deref_mut.ensures.value)
    ∙ set_twice c.args.self.now.berths.items c.args.no None (Some c.give_back.new.berth) in
    record {
      followed = subst (λ (bs : List (Option (Berth g.row.W.Denot))). IsFollowed Went (entries.Back c.args.no c.args.plugin) s
          c.give_back.new.state bs c.args.self.now.blocks) (sym put)
          (back_follows c.args.no c.args.plugin s c.give_back.new.state c.args.self.now.berths.items c.give_back.new.berth
          c.args.self.now.blocks c.requires.following c.task-2.ensures.order did.task did.open did.back did.berth);
    }
