use Rattle.std.proofs.Common.{◌-◌, refl, ap, arith, map}
use Rattle.plug_registry.specs.State.{RegistryState}
use Rattle.run_order.specs.Sets.{as_notice}
use Rattle.host_state.proofs.Telling.{numbered, is_whole, closer_place, told_sound, put_back}
use Rattle.host_state.proofs.states.HostState.done.Goals as goal

pub overflow_sub-plugin : goal.overflow_sub-plugin
overflow_sub-plugin g c = numbered c.args.self.now _ c.self.view_is c.self.invariant c.args.party c.args.plugin c.requires.legal

pub index_mut-requires : goal.index_mut-requires
index_mut-requires g c =
    omega (
      arith,
      c.from.ensures,
      closer_place c.args.self.now _ c.self.view_is c.self.invariant c.args.party c.args.plugin c.requires.legal
          (λ a. map as_notice (g.C.Closer.notices a)) c.self.inside.closers.items refl,
    )

pub done-requires : goal.done-requires
done-requires g c = is_whole c.args.self.now _ c.self.view_is c.self.invariant c.args.party c.args.plugin c.requires.legal

pub invariant_of-self : goal.invariant_of-self
invariant_of-self g c =
    told_sound c.args.self.now _ c.self.view_is c.self.invariant c.args.party c.args.plugin c.requires.legal c.requires.rule
    c.done.new.self c.push.new.self c.with_item-self-inside.result.items _ (ap (λ (r : RegistryState). r.table) c.done.ensures)
    c.push.ensures.appends c.with_item-self-inside.ensures.item
    (put_back (λ a. map as_notice (g.C.Closer.notices a)) c.self.inside.closers.items c.from.result (c.args.plugin - 1) c.args.closer
    _ c.from.ensures c.requires.told)
