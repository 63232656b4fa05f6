use Rattle.std.proofs.Common.{◌≡◌, ◌^◌, refl, sym, length, arith}
use Rattle.std.specs.Vec.{with_items}
use Rattle.std.proofs.lemmas.List.{with_items_is}
use Rattle.guest_memory.proofs.Reserves.{store_done, laid_after}
use Rattle.guest_memory.proofs.memory.Memory.write_near.Goals as goal

pub invariant_of-self-2 : goal.invariant_of-self-2
invariant_of-self-2 c =
    let count : length c.store.new.regions ≡ c.self.inside.regions.len = let a = c.store.auto.regions in let b = c.deref_mut.ensures.len
    in omega arith in
    laid_after c.self.inside.regions.items c.deref_mut.result.now c.store.new.regions
    (with_items c.self.inside.regions c.store.new.regions).items c.deref_mut.ensures.value
    (with_items_is c.self.inside.regions c.store.new.regions count) (c.if-not-store.ensures.written refl).spans c.self.invariant

pub returns : goal.returns
returns c =
    let count : length c.store.new.regions ≡ c.self.inside.regions.len = let a = c.store.auto.regions in let b = c.deref_mut.ensures.len
    in omega arith in
    let count2 : length c.end_others.new.reservations ≡ c.self.inside.reservations.len = let a = c.end_others.auto.reservations in let b =
    c.deref_mut-2.ensures.len in omega arith in
    record {
      cases = store_done c.args.self.now c.self.inside.regions.items c.deref_mut.result.now c.store.new.regions
          (with_items c.self.inside.regions c.store.new.regions).items c.self.inside.reservations.items c.deref_mut-2.result.now
          c.end_others.new.reservations (with_items c.self.inside.reservations c.end_others.new.reservations).items c.args.hart c.args.addr
          c.size.result (2 ^ c.args.shift) c.args.value c.self.view_is c.deref_mut.ensures.value
          (with_items_is c.self.inside.regions c.store.new.regions count) c.deref_mut-2.ensures.value
          (with_items_is c.self.inside.reservations c.end_others.new.reservations count2) c.end_others.auto.reservations
          (sym c.if-not-store.ensures.permitted) (c.if-not-store.ensures.written refl) c.size.ensures.size c.end_others.ensures.others;
    }
