use Rattle.std.proofs.Common.{◌≡◌, ◌+◌, refl, sym, ap, subst, ◌∙◌, arith}
use Rattle.std.specs.Prelude.{IfSome}
use Rattle.flat_model.specs.Log.{log, total_steps}
use Rattle.run_journal.specs.Journal.{IsSmall, joined_turn, recorded}
use Rattle.run_journal.proofs.Recorded.{steps-bound, total_steps-with_entry, log-recorded, IsJoined-recorded, small-recorded, is_small}
use Rattle.run_journal.proofs.Recorded.{alone-recorded}
use Rattle.run_journal.proofs.journal.Journal.push.Goals as goal

pub overflow_add-self : goal.overflow_add-self
overflow_add-self c = let bound = steps-bound c.self.inside.entries.items c.self.invariant.small in omega (arith, c.self.invariant.counted, c.steps_in.ensures.small)

pub invariant_of-self : goal.invariant_of-self
invariant_of-self c =
    let before = c.self.inside.entries.items in
    let fits = subst (λ es. IfSome (joined_turn es c.args.entry) IsSmall) (sym (ap (λ v. v.entries) c.self.view_is)) c.requires.fits in
    let small = is_small c.args.entry (rw (← c.steps_in.ensures.steps) c.steps_in.ensures.small) in
    let total : total_steps (log (recorded before c.args.entry)) ≡ total_steps (log before) + c.steps_in.result =
    ap total_steps (log-recorded before c.args.entry) ∙ rw c.steps_in.ensures.steps (total_steps-with_entry c.args.entry (log before)) in
    rw c.record.ensures.entries (record {
      joined = IsJoined-recorded before c.args.entry c.self.invariant.joined c.requires.steps;
      small = small-recorded before c.args.entry c.self.invariant.small small fits;
      counted = rw total (ap (λ n. n + c.steps_in.result) c.self.invariant.counted);
    })

pub returns-clause-appends : goal.returns-clause-appends
returns-clause-appends c = rw (c.record.ensures.entries, ← ap (λ v. v.entries) c.self.view_is) (log-recorded c.self.inside.entries.items c.args.entry)

pub returns-clause-joined : goal.returns-clause-joined
returns-clause-joined c = rw c.record.ensures.entries (IsJoined-recorded c.self.inside.entries.items c.args.entry c.self.invariant.joined c.requires.steps)

pub returns-clause-alone : goal.returns-clause-alone
returns-clause-alone c = rw (c.record.ensures.entries, ← ap (λ v. v.entries) c.self.view_is) (alone-recorded c.self.inside.entries.items c.args.entry)

pub returns-clause-recorded : goal.returns-clause-recorded
returns-clause-recorded c = rw (c.record.ensures.entries, ← ap (λ v. v.entries) c.self.view_is) refl
