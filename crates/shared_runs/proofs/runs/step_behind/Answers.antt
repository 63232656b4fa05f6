use Rattle.rv_exec.specs.Sharing.{shared_of, machine_on}
use Rattle.shared_runs.proofs.Leaving.{ends_absent}
use Rattle.shared_runs.proofs.runs.step_behind.Goals as goal

pub returns-clause-ended : goal.returns-clause-ended
returns-clause-ended c =
    let was = c.args in
    let now = c.shared_step.new in
    let may = c.requires.may in
    ends_absent (machine_on was.image.now was.memory.now was.limit) was.no was.hart.now now.hart
    (shared_of was.memory.now was.services.now) (shared_of now.memory now.services) was.raw.now.events now.raw.events
    may.awake may.running may.going_on c.shared_step.ensures.step c.requires.absent
