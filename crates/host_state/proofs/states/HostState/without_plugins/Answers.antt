use Rattle.std.proofs.Common.{◌∙◌, ℕ, false, replicate, sym, ap, subst}
use Rattle.run_order.specs.InOrder.{Task}
use Rattle.flat_model.specs.Image.{Program}
use Rattle.plug_registry.specs.State.{RegistryState}
use Rattle.host_state.specs.State.{IsWithinLimits}
use Rattle.guest_memory.specs.Memory.{IsOpening}
use Rattle.rv_exec.specs.Sharing.{AreOpening}
use Rattle.host_state.proofs.Starting.{map_none, untouched_is_sound}
use Rattle.host_state.proofs.states.HostState.without_plugins.Goals as goal

pub invariant_of-result-4 : goal.invariant_of-result-4
invariant_of-result-4 g c =
    let image = c.task.inside.image.value in
    let harts = c.task.inside.harts in
    let mode = c.task.inside.mode in
    untouched_is_sound _ (record {
      limits = subst (λ (t : Task). IsWithinLimits t.machine) (sym c.task.view_is) c.requires.limits;
      memory = subst (IsOpening image harts) (sym c.memory.view_is)
          (subst (λ (i : Program). IsOpening i harts c.in_ok-memory.memory) c.deref.ensures c.in_ok-memory.ensures.opening);
      services = subst (AreOpening image mode harts) (sym c.services.view_is)
          (subst (λ (i : Program). AreOpening i mode harts c.in_ok-services.services) c.deref-2.ensures c.in_ok-services.ensures.opening);
      table = ap (λ (r : RegistryState). r.table) c.registry.view_is ∙ c.in_ok-registry.ensures;
      entries = c.in_ok-new.ensures;
      past = c.new-5.ensures;
      waiting = map_none _ _ c.new-6.ensures.items;
      arriving = map_none _ _ c.new-6.ensures.items;
      parked = map_none _ _ c.new-7.ensures.items;
      harts = c.in_ok-kept.ensures.empty;
      closers = map_none _ _ c.new-8.ensures.items;
      rooms = c.new-9.ensures.items;
      boxes = c.requires.boxes;
      spare_closers = c.requires.closers;
      failed = c.in_ok-failed.ensures.items_if_clones_equal (λ y e. e) ∙ ap (λ (n : ℕ). replicate n false) c.from.ensures;
    })
