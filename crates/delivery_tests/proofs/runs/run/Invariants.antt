use Rattle.std.proofs.Common.{◌≡◌, true, length}
use Rattle.guest_memory.specs.Memory.{harts_of}
use Rattle.rv_exec.specs.Sharing.{IsMemoryOf}
use Rattle.block_finder.specs.Caches.{MayServe}
use Rattle.watcher_api.specs.Acting.{acts_of}
use Rattle.instr_lists.specs.Delivery.{acts_with}
use Rattle.delivery_tests.specs.Kept.{AreFor}
use Rattle.delivery_tests.proofs.runs.run.Given as goal

-- the memory and the services stay those of one hart, and the caches and the attached sets those of the run
abbrev pub invariant-loop : goal.invariant-loop
invariant-loop l = record {
  harts : harts_of l.memory ≡ 1;
  memory : IsMemoryOf l.image l.memory;
  starts : length l.services.starts ≡ 1;
  kept : l.raw.kept ≡ true;
  finds : MayServe l.blocks l.image;
  lists : AreFor l.image l.sets l.lists;
  these : acts_of l.attached ≡ acts_with l.sets;
}
