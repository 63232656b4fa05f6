use Rattle.std.proofs.Common.{◌≡◌, ◌+◌, ◌<◌, ◌∷◌, [], ◌++◌, ◌∙◌, ℕ, List, Option, Some, None, ap, sym, subst, length, arith}
use Rattle.std.specs.Prelude.{MatchOption, slice_index_or}
use Rattle.std.proofs.lemmas.List.{length-append}
use Rattle.run_replay.specs.declared.berths.Berth.{Berth}
use Rattle.run_replay.specs.First.{IsFirstBerth}
use Rattle.run_replay.proofs.FirstBerths.{more_placed}
use Rattle.run_replay.proofs.opening.first_berths.Goals as goal

pub loop-no-preserved : goal.loop-no-preserved
loop-no-preserved g c =
    let was = c.loop-no.invariant in
    let xs = c.loop-no.berths.items in
    let b = c.in_ok-first_berth.field-0 in
    let P : ℕ → Berth g.row.W.Denot → Type 0 = IsFirstBerth c.args.image.now c.args.harts c.args.mode in
    let is : c.push.new.self.items ≡ xs ++ Some b ∷ [] = c.in_ok-push.ensures.items in
    record {
      count = ap length is ∙ length-append xs (Some b ∷ []) ∙ ap (λ (n : ℕ). n + 1) was.count;
      first = λ h low. subst (λ (ys : List (Option (Berth g.row.W.Denot))). MatchOption (slice_index_or ys h None) ⊥ (P h)) (sym is)
          (more_placed P xs b (λ k below. was.first k (omega (arith, below, was.count)))
          (subst (λ (n : ℕ). P n b) (sym was.count) c.in_ok-first_berth.ensures.first) h (omega (arith, low, was.count)));
    }
