-- The bytes are the pieces one after the other.
use Rattle.std.proofs.Common.{sym, ◌∙◌, ap}
use Rattle.std.specs.List.{concat}
use Rattle.outer_io.proofs.Splitting.{concat-split}
use Rattle.outer_io.proofs.memory.MemSink.bytes.Goals as goal

pub returns : goal.returns
returns c =
    c.as_slice.ensures.value
    ∙ (sym (concat-split c.self.inside.piece_lengths.items c.self.inside.held.items c.self.invariant)
    ∙ ap (λ sink. concat sink.pieces) c.self.view_is)
