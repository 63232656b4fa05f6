-- One more piece behind those that were there.
use Rattle.std.proofs.Common.{◌≡◌, ap, Some, ◌∙◌, ◌++◌, ◌∷◌, [], Result, Ok, Err, false, is_err, OnOk}
use Rattle.outer_io.proofs.Splitting.{split-append, fits-append}
use Rattle.outer_io.proofs.memory.MemSinkSink.put.Goals as goal

on_ok : {T E : Type 0} (P : Type 0) (r : Result T E) → is_err r ≡ false → OnOk r P → P
on_ok P (Ok x) whole p = p
on_ok P (Err e) whole p = cc

pub invariant_of-self : goal.invariant_of-self
invariant_of-self c =
    let whole : is_err c.append_piece.result ≡ false = cc in
    rw (on_ok _ _ whole c.append_piece.ensures.number, on_ok _ _ whole c.append_piece.ensures.bytes)
    (fits-append c.self.inside.piece_lengths.items c.self.inside.held.items c.args.bytes.now c.self.invariant)

pub returns-clause-cases : goal.returns-clause-cases
returns-clause-cases c =
    let whole : is_err c.append_piece.result ≡ false = cc in
    rw (on_ok _ _ whole c.append_piece.ensures.number, on_ok _ _ whole c.append_piece.ensures.bytes)
    (ap Some (split-append c.self.inside.piece_lengths.items c.self.inside.held.items c.args.bytes.now c.self.invariant
    ∙ ap (λ sink. sink.pieces ++ c.args.bytes.now ∷ []) c.self.view_is))
