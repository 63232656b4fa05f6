use Rattle.std.proofs.Common.{◌≡◌, ◌∙◌, ℕ, List, Option, Some, None, sym, ap, subst}
use Rattle.std.specs.Prelude.{slice_index_or, slice_set}
use Rattle.std.proofs.lemmas.List.{take_at}
use Rattle.flat_model.specs.declared.journals.Entry.TheVariants as entries
use Rattle.run_replay.specs.declared.berths.Berth.{Berth}
use Rattle.run_replay.specs.declared.replays.Followed.TheVariants.{Went}
use Rattle.run_replay.specs.Following.{IsFollowed}
use Rattle.run_replay.proofs.Going.{absent, present, found}
use Rattle.run_replay.proofs.Leaves.{leave_breaks, leave_breaks_without, leave_follows}
use Rattle.run_replay.proofs.replays.Replay.leave.Goals as goal

pub returns-in_default : goal.returns-in_default
returns-in_default g c =
    let s = c.args.self.now.state in
    record {
      followed = leave_breaks_without s c.args.no (absent s c.args.self.now.berths.items c.args.self.now.blocks c.args.no
          c.requires.following
          (c.in_default.ensures.berth
          ∙ ap (λ (xs : List (Option (Berth g.row.W.Denot))). slice_index_or xs c.args.no None) c.deref.ensures.value));
    }

pub may_leave-requires-clause-berth : goal.may_leave-requires-clause-berth
may_leave-requires-clause-berth g c =
    present c.args.self.now.state c.args.self.now.berths.items c.args.self.now.blocks c.args.no c.in-Some.berth.now c.requires.following
    (c.in-Some.ensures.berth
    ∙ ap (λ (xs : List (Option (Berth g.row.W.Denot))). slice_index_or xs c.args.no None) c.deref.ensures.value)

pub returns-then-not-may_leave : goal.returns-then-not-may_leave
returns-then-not-may_leave g c = record {
  followed = leave_breaks c.args.self.now.state c.args.no (sym c.if-not-may_leave.ensures.may);
}

pub leave_berth-requires-clause-berth : goal.leave_berth-requires-clause-berth
leave_berth-requires-clause-berth g c =
    present c.args.self.now.state c.args.self.now.berths.items c.args.self.now.blocks c.args.no c.in-Some-take_out.berth
    c.requires.following
    (c.in-Some-take_out.ensures.taken
    ∙ ap (λ (xs : List (Option (Berth g.row.W.Denot))). slice_index_or xs c.args.no None) c.deref_mut.ensures.value)

pub leave_berth-requires-clause-may : goal.leave_berth-requires-clause-may
leave_berth-requires-clause-may g c = sym c.if-not-may_leave.ensures.may

pub returns : goal.returns
returns g c =
    let s = c.args.self.now.state in
    let did = c.in_ok-leave_berth.ensures in
    let put : _ ≡ slice_set c.args.self.now.berths.items c.args.no None =
    take_at c.take_out.new.berths _ c.args.self.now.berths.len (c.take_out.auto.berths ∙ c.deref_mut.ensures.len)
    ∙ c.in-Some-take_out.ensures.left
    ∙ ap (λ (xs : List (Option (Berth g.row.W.Denot))). slice_set xs c.args.no None) c.deref_mut.ensures.value in
    let low = found s c.args.self.now.berths.items c.args.self.now.blocks c.args.no c.in-Some-take_out.berth c.requires.following
    (c.in-Some-take_out.ensures.taken
    ∙ ap (λ (xs : List (Option (Berth g.row.W.Denot))). slice_index_or xs c.args.no None) c.deref_mut.ensures.value) in
    record {
      followed = subst (λ (xs : List (Option (Berth g.row.W.Denot))). IsFollowed Went (entries.Leave c.args.no) s c.leave_berth.new.state xs
          c.args.self.now.blocks) (sym put)
          (leave_follows c.args.no s c.leave_berth.new.state c.args.self.now.berths.items c.args.self.now.blocks low c.requires.following
          c.task.ensures.order did.task did.open did.left);
    }
