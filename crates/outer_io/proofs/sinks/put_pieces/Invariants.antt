use Rattle.std.proofs.Common.{◌<◌, ◌≤◌, ◌-◌, length, take}
use Rattle.outer_io.proofs.Cutting.{IsWhole}
use Rattle.outer_io.specs.Counts.{IsFaultless}
use Rattle.outer_io.specs.Pieces.{cut}
use Rattle.outer_io.specs.Sinks.{Gained}
use Rattle.outer_io.proofs.sinks.put_pieces.Given as goal

abbrev pub invariant-loop-done : goal.invariant-loop-done
invariant-loop-done g l = record {
  within : l.done ≤ length l.text;
  gained : Gained (g.O.Sink.pieces l.initial.out) (g.O.Sink.pieces l.out) (cut l.size (take l.done l.text));
  whole : l.done < length l.text → IsWhole l.size (take l.done l.text);
  faultless : IsFaultless (g.O.Sink.faults l.initial.out) (g.O.Sink.faults l.out);
}

abbrev pub decreases-loop-done : goal.decreases-loop-done
decreases-loop-done g l = length l.text - l.done
