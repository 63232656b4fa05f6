use Rattle.std.proofs.Common.{◌≡◌, ◌∷◌, ◌++◌, [], None, List, ap, arith, length}
use Rattle.std.specs.Prelude.{All, MatchOption}
use Rattle.std.specs.Vec.Iter.{into_iter_items}
use Rattle.host_core.specs.Stages.{IsFirstSeat}
use Rattle.host_core.proofs.Loops.{next_item, pushed}
use Rattle.host_core.proofs.starting.runners.Goals as goal

-- one more
grown : {A : Type 0} (xs now : List A) (x : A) → now ≡ xs ++ x ∷ [] → (P : A → Type 0) → All P xs → P x → All P now
grown xs now x is P all one = pushed P xs now x is all one

pub loop-pass-preserved : goal.loop-pass-preserved
loop-pass-preserved g c =
    let at = c.loop-pass in
    let is = c.in-Some.ensures.steps.0 in
    let short = ap (λ xs. length xs) is in
    let more = c.in_ok-push.ensures.items in
    let made = c.in_ok-runner.ensures in
    let grow = grown at.runners.items c.push.new.self.items c.in_ok-runner.field-0 more in
    record {
      count = omega arith;
      passes = next_item _ at.runners.items c.push.new.self.items (into_iter_items at.pass-iterator) (into_iter_items c.next.new.self) _
          c.in_ok-runner.field-0 c.in-Some.pass is more made.pass at.invariant.passes;
      seats = grow (λ r. MatchOption r.seat ⊥ (IsFirstSeat
          (record { image = c.args.image.now.value; harts = c.args.harts; limit = c.args.limit }) c.args.mode r.pass.party))
          at.invariant.seats made.seat;
      blocks = grow (λ r. r.blocks ≡ None) at.invariant.blocks made.blocks;
      lists = grow (λ r. r.lists ≡ []) at.invariant.lists made.lists;
    }
