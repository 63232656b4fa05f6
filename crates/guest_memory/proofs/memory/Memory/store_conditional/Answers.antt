use Rattle.std.proofs.Common.{◌≡◌, ◌<◌, ◌^◌, refl, sym, ◌∙◌, ap, length, arith, None}
use Rattle.std.specs.Vec.{with_items}
use Rattle.std.proofs.lemmas.List.{with_items_is}
use Rattle.guest_memory.proofs.Reserves.{conditional_done, laid_after, spans_either}
use Rattle.guest_memory.specs.Memory.{MemoryState}
use Rattle.guest_memory.proofs.Places.{any_default}
use Rattle.guest_memory.proofs.memory.Memory.store_conditional.Goals as goal

pub invariant_of-self-2 : goal.invariant_of-self-2
invariant_of-self-2 c =
    let count : length c.store_if.new.regions ≡ c.self.inside.regions.len = let a = c.store_if.auto.regions in let b =
    c.deref_mut.ensures.len in omega arith in
    laid_after c.self.inside.regions.items c.deref_mut.result.now c.store_if.new.regions
    (with_items c.self.inside.regions c.store_if.new.regions).items c.deref_mut.ensures.value
    (with_items_is c.self.inside.regions c.store_if.new.regions count)
    (spans_either c.is_reserved-reserved.result c.deref_mut.result.now c.store_if.new.regions c.args.addr
    (2 ^ c.args.shift) c.args.value (c.if-not-store_if.ensures.written refl) c.if-not-store_if.ensures.not_reserved) c.self.invariant

pub returns : goal.returns
returns c =
    let count : length c.store_if.new.regions ≡ c.self.inside.regions.len = let a = c.store_if.auto.regions in let b =
    c.deref_mut.ensures.len in omega arith in
    let count2 : length c.conclude.new.reservations ≡ c.self.inside.reservations.len = let a = c.conclude.auto.reservations in let b =
    c.deref_mut-2.ensures.len in omega arith in
    let same : length c.self.inside.reservations.items ≡ length c.args.self.now.reservations = ap
    (λ (m : MemoryState). length m.reservations) c.self.view_is in
    let below : c.args.hart < length c.self.inside.reservations.items = omega (arith, same, c.requires.hart) in
    record {
      cases = conditional_done c.args.self.now c.self.inside.regions.items c.deref_mut.result.now c.store_if.new.regions
          (with_items c.self.inside.regions c.store_if.new.regions).items c.self.inside.reservations.items c.deref_mut-2.result.now
          c.conclude.new.reservations (with_items c.self.inside.reservations c.conclude.new.reservations).items c.args.hart c.args.addr
          c.size.result (2 ^ c.args.shift) c.args.value c.is_reserved-reserved.result c.index.result.now c.self.view_is
          c.deref_mut.ensures.value (with_items_is c.self.inside.regions c.store_if.new.regions count) c.deref_mut-2.ensures.value
          (with_items_is c.self.inside.reservations c.conclude.new.reservations count2) c.conclude.auto.reservations
          (sym c.if-not-store_if.ensures.permitted) c.is_reserved-reserved.ensures
          (c.index.ensures ∙ any_default c.self.inside.reservations.items c.args.hart c.index.result.now None below)
          (c.if-not-store_if.ensures.written refl) c.if-not-store_if.ensures.not_reserved c.size.ensures.size
          (let e : c.size-2.result ≡ c.size.result = c.size-2.ensures.size
          ∙ sym c.size.ensures.size in rw e at c.conclude.ensures.concluded);
    }
