use Rattle.cache_model.proofs.Pushed.{tallied-push}
use Rattle.cache_model.proofs.counting.Counted.touch.Goals as goal

pub invariant_of-self-2 : goal.invariant_of-self-2
invariant_of-self-2 c =
    let before = c.self.inside.cache in
    rw c.in_ok-hit.ensures.touched
    (tallied-push before.shape before.touches c.args.number c.in_ok-hit.hit c.self.inside.so_far c.with-self-inside.result
    c.self.invariant c.in_ok-hit.ensures.hit c.with-self-inside.ensures.touches c.with-self-inside.ensures.hits)
