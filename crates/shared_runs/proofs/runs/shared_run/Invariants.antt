use Rattle.std.proofs.Common.{◌≡◌, ◌<◌, ◌≤◌, ◌+◌, ◌*◌, ℕ, false, None, length, min}
use Rattle.flat_model.specs.Image.{word_at}
use Rattle.flat_model.specs.Step.{starts_block, steps_of}
use Rattle.rv_exec.specs.Sharing.{shared_of, machine_on, KeepsLayout, KeepsPlaces}
use Rattle.shared_runs.specs.Runs.{AreSharedSteps, RunsOn, MayStep}
use Rattle.shared_runs.proofs.runs.shared_run.Given as goal

-- the steps so far led from word to word of the block, and the hart is inside it
abbrev pub invariant-loop-site : goal.invariant-loop-site
invariant-loop-site l = record {
  steps : AreSharedSteps (machine_on l.image l.initial.memory l.limit) l.no l.made l.initial.hart l.hart
      (shared_of l.initial.memory l.initial.services) (shared_of l.memory l.services) l.initial.raw.events l.raw.events;
  each : (j : ℕ) → j < l.made
      → RunsOn
      (steps_of (machine_on l.image l.initial.memory l.limit) l.no j l.initial.hart (shared_of l.initial.memory l.initial.services));
  inside : (j : ℕ) → 0 < j → j < l.made → starts_block
      (steps_of (machine_on l.image l.initial.memory l.limit) l.no j l.initial.hart (shared_of l.initial.memory l.initial.services)).hart
      ≡ false;
  made : l.made ≡ l.site-index;
  may : MayStep l.image l.no l.limit l.hart l.memory l.services l.raw;
  place : l.hart.pc ≡ l.block.pc + 4 * (l.first + l.made);
  since : l.hart.since ≡ l.first + l.made;
  small : l.hart.since < 512;
  behind : l.first + l.made ≡ length l.block.sites → word_at l.image l.hart.pc ≡ None;
  few : length l.raw.events ≤ 3 * (l.first + l.made) + 2 * min (l.first + l.made) 1;
  kept : l.raw.kept ≡ l.initial.raw.kept;
  counted : l.hart.steps ≡ l.initial.hart.steps + l.made;
  layout : KeepsLayout l.initial.memory l.memory;
  places : KeepsPlaces l.initial.services l.services;
}
