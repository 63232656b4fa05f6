use Rattle.std.proofs.Common.{◌<◌, ◌≤◌, ◌*◌, ℕ, length, subst}
use Rattle.flat_model.specs.World.{parked_hart}
use Rattle.lock_step.specs.Kept.{LoneState}
use Rattle.lock_step.specs.Tellings.{all_told, of_hart}
use Rattle.lock_step.proofs.Keeping.{few_told}
use Rattle.lock_step.proofs.lone_runs.LoneRun.events.Goals as goal

pub returns-clause-few : goal.returns-clause-few
returns-clause-few c =
    let was = c.self.inside in
    subst (λ (s : LoneState). (h : ℕ) → h < s.machine.harts → length (of_hart h (all_told s.machine s.mode s.past)) ≤ 6 * s.machine.limit)
    c.self.view_is
    (few_told (record { image = was.image.now; harts = was.count; limit = was.limit }) was.mode was.past.items was.harts.items was.memory
    was.services was.cache was.raw (parked_hart was.image.now) c.self.invariant)
