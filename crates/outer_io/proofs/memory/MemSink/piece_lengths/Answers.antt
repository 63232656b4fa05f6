-- The lengths that are kept are those of the pieces.
use Rattle.std.proofs.Common.{sym, ◌∙◌, ap, map, length}
use Rattle.outer_io.proofs.Splitting.{length-split}
use Rattle.outer_io.proofs.memory.MemSink.piece_lengths.Goals as goal

pub returns : goal.returns
returns c =
    c.as_slice.ensures.value
    ∙ (sym (length-split c.self.inside.piece_lengths.items c.self.inside.held.items c.self.invariant)
    ∙ ap (λ sink. map (λ piece. length piece) sink.pieces) c.self.view_is)
