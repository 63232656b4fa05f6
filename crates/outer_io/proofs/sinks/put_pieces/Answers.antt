use Rattle.std.specs.Option.{option_map}
use Rattle.std.proofs.Common.{Option, Some, None, [], ◌++◌, refl, Result, MatchResult, Ok, Err, ◌≡◌, ◌+◌, take, ℕ, List}
use Rattle.std.proofs.Common.{arith, sym, ap, ◌∙◌, subst, append-nil}
use Rattle.std.specs.Prelude.{IsErr}
use Rattle.std.proofs.lemmas.Bool.{false≢true}
use Rattle.std.proofs.lemmas.List.{take_all}
use Rattle.outer_io.specs.Pieces.{cut}
use Rattle.outer_io.proofs.Cutting.{IsWhole, whole-none, cut-nil, concat-cut}
use Rattle.outer_io.proofs.Gaining.{gained_piece, stopped_in_piece, whole_piece, gained_bytes}
use Rattle.outer_io.proofs.sinks.put_pieces.Goals as goal

at_err : {T E : Type 0} (P Q : Type 0) (r : Result T E) → IsErr r → Q → MatchResult r (λ _. P) (λ _. Q)
at_err P Q (Ok x) refused q = absurd (false≢true refused)
at_err P Q (Err e) refused q = q

gained_nothing : (held : Option (List (List ℕ))) → option_map (λ pieces. pieces ++ []) held ≡ held
gained_nothing None = refl
gained_nothing (Some pieces) = ap Some (append-nil pieces)

pub returns-in_err-put-clause-cases : goal.returns-in_err-put-clause-cases
returns-in_err-put-clause-cases g c =
    let end_is = c.min-end.ensures in
    let sum_is = c.saturating_add.ensures in
    let stops = stopped_in_piece (g.O.Sink.pieces c.args.out.now) (g.O.Sink.pieces c.loop-done.out) (g.O.Sink.pieces c.put.new.self) c.args.text.now c.args.size c.loop-done.done c.min-end.result
    (g.O.Sink.faults c.args.out.now) (g.O.Sink.faults c.loop-done.out) (g.O.Sink.faults c.put.new.self)
    c.requires.some (omega arith) (omega arith) (c.loop-done.invariant.whole (omega arith))
    c.loop-done.invariant.gained c.loop-done.invariant.faultless c.in_err-put.ensures.cases in
    at_err _ _ c.from_residual.result c.from_residual.ensures.0 stops

pub loop-done-preserved : goal.loop-done-preserved
loop-done-preserved g c =
    let end_is = c.min-end.ensures in
    let sum_is = c.saturating_add.ensures in
    record {
      within = omega arith;
      gained = gained_piece (g.O.Sink.pieces c.args.out.now) (g.O.Sink.pieces c.loop-done.out) (g.O.Sink.pieces c.put.new.self) c.args.text.now c.args.size c.loop-done.done c.min-end.result
          c.requires.some (omega arith) (omega arith) (omega arith) (c.loop-done.invariant.whole (omega arith))
          c.loop-done.invariant.gained c.in_ok-put.ensures.cases;
      whole = λ goes_on.
          let reaches : c.loop-done.done + c.args.size ≡ c.min-end.result = omega arith in
          subst (λ n. IsWhole c.args.size (take n c.args.text.now)) reaches (whole_piece c.args.text.now c.args.size c.loop-done.done c.requires.some (omega arith) (c.loop-done.invariant.whole (omega arith)));
      faultless = c.in_ok-put.ensures.faultless ∙ c.loop-done.invariant.faultless;
    }

pub loop-done-init : goal.loop-done-init
loop-done-init g c = record {
  within = omega arith;
  gained = rw (cut-nil c.args.size) (sym (gained_nothing (g.O.Sink.pieces c.args.out.now)));
  whole = λ _. whole-none c.args.size;
  faultless = refl;
}

pub returns-clause-cases : goal.returns-clause-cases
returns-clause-cases g c =
    let all : take c.loop-done.done c.args.text.now ≡ c.args.text.now = take_all c.loop-done.done c.args.text.now (omega arith) in
    c.loop-done.invariant.gained ∙ ap (λ text. option_map (λ held. held ++ cut c.args.size text) (g.O.Sink.pieces c.args.out.now)) all

pub returns-clause-bytes : goal.returns-clause-bytes
returns-clause-bytes g c =
    let all : take c.loop-done.done c.args.text.now ≡ c.args.text.now = take_all c.loop-done.done c.args.text.now (omega arith) in
    gained_bytes (g.O.Sink.pieces c.args.out.now) (g.O.Sink.pieces c.loop-done.out) (cut c.args.size (take c.loop-done.done c.args.text.now)) c.args.text.now
    c.loop-done.invariant.gained (concat-cut c.args.size (take c.loop-done.done c.args.text.now) c.requires.some ∙ all)
