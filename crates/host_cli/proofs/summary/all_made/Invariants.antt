use Rattle.std.proofs.Common.{◌≡◌, ◌≤◌, ◌*◌, ◌^◌, map}
use Rattle.std.specs.Prelude.{sum_by}
use Rattle.std.specs.List.{range_with_len}
use Rattle.flat_model.specs.World.{HartState}
use Rattle.flat_model.specs.Worlds.{hart_of}
use Rattle.host_cli.proofs.summary.all_made.Given as goal

-- the sums over the harts so far, each of which has fewer than 2^64
abbrev pub invariant-loop-no : goal.invariant-loop-no
invariant-loop-no g l =
    let s = l.fn.state in
    let harts = map (hart_of s.task.machine s.task.mode s.past) (range_with_len 0 l.no) in
    (l.steps ≡ sum_by (λ (h : HartState). h.steps) harts) × (l.blocks ≡ sum_by (λ (h : HartState). h.blocks) harts)
    × (l.steps ≤ l.no * 2 ^ 64) × (l.blocks ≤ l.no * 2 ^ 64)
