use Rattle.std.proofs.Common.{◌-◌, ◌%◌, Some}
use Rattle.guest_memory.proofs.Reserves.{reserved_view}
use Rattle.guest_memory.proofs.memory.Memory.reserve.Goals as goal

pub returns : goal.returns
returns c = record {
  reserved = reserved_view c.args.self.now c.self.inside.regions.items c.self.inside.reservations.items c.args.hart
      (Some (c.args.addr - c.args.addr % 8)) c.self.view_is c.requires.hart;
}
