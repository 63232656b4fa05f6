use Rattle.std.proofs.Common.{◌≡◌, map}
use Rattle.std.specs.List.{list_any, range_with_len}
use Rattle.flat_model.specs.Texts.{is_fault, is_limit, is_failure}
use Rattle.flat_model.specs.Worlds.{hart_of}
use Rattle.report_text.proofs.statuses.status.Given as goal

-- whether one of the harts so far has such an ending
abbrev pub invariant-loop-no : goal.invariant-loop-no
invariant-loop-no g l =
    let s = l.fn.state in
    let endings = map (λ h. (hart_of s.task.machine s.task.mode s.past h).ending) (range_with_len 0 l.no) in
    (l.fault ≡ list_any is_fault endings) × (l.limit ≡ list_any is_limit endings) × (l.failure ≡ list_any is_failure endings)
