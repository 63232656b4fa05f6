use Rattle.std.proofs.Common.{◌++◌, ◌∷◌, []}
use Rattle.std.specs.Int.{w16, w64, to_le_bytes}
use Rattle.journal_file.proofs.Put.{joins}
use Rattle.journal_file.proofs.writing.put_filter.Goals as goal

pub returns-clause-spelled : goal.returns-clause-spelled
returns-clause-spelled c =
    let what = c.args.what.now in
    let front = joins c.args.out.now.items _ (what.kinds ∷ []) _ (to_le_bytes w64 what.lo ++ to_le_bytes w64 what.hi) c.in_ok-push.ensures.items c.in_ok-put_range.ensures.spelled in
    joins c.args.out.now.items _ (what.kinds ∷ (to_le_bytes w64 what.lo ++ to_le_bytes w64 what.hi)) _ (to_le_bytes w16 what.classes ++ what.rw ∷ []) front c.in_ok-put_classes.ensures.spelled
