-- No slot has a duty of the hart, and each has its other duties and its room.
use Rattle.std.proofs.Common.{◌≡◌, ◌∙◌, ◌++◌, ap, arith, length, map, take, drop, set, true}
use Rattle.std.specs.Prelude.{is_some}
use Rattle.std.proofs.lemmas.List.{length-map, length-set}
use Rattle.flat_model.specs.Registry.{after_leave}
use Rattle.plug_registry.specs.State.{RegistryState, freed}
use Rattle.plug_registry.proofs.Slots.{seen, front}
use Rattle.plug_registry.proofs.Freed.{freed-harts, one_left}
use Rattle.plug_registry.proofs.Registry.left.Goals as goal

pub invariant_of-self : goal.invariant_of-self
invariant_of-self c =
    let slots = c.self.inside.slots.items in
    let now = c.give_back_all.new.slots in
    let whole : length c.give_back_all.new.slots ≡ c.self.inside.slots.len = omega (arith, c.deref_mut.ensures.len) in
    let is : take c.self.inside.slots.len (now ++ drop (length now) slots) ≡ map (freed c.args.hart) slots =
    front _ now _ whole ∙ c.give_back_all.ensures ∙ ap (map (freed c.args.hart)) c.deref_mut.ensures.value in
    rw is (record {
      slots_fit = c.self.invariant.slots_fit;
      at_most = rw length-map c.self.invariant.at_most;
      harts_gone = length-set c.self.inside.gone.items c.args.hart true ∙ c.self.invariant.harts_gone;
      harts_owing = freed-harts c.args.hart c.self.inside.harts slots c.self.invariant.harts_owing;
      ready = c.self.invariant.ready;
    })

pub returns : goal.returns
returns c =
    let old = c.self.inside in
    let now = c.give_back_all.new.slots in
    let whole : length c.give_back_all.new.slots ≡ c.self.inside.slots.len = omega (arith, c.deref_mut.ensures.len) in
    let is : take old.slots.len (now ++ drop (length now) old.slots.items) ≡ map (freed c.args.hart) old.slots.items =
    front _ now _ whole ∙ c.give_back_all.ensures ∙ ap (map (freed c.args.hart)) c.deref_mut.ensures.value in
    ap (seen old.harts old.boxes (set old.gone.items c.args.hart true) (is_some old.spare)) is
    ∙ one_left c.args.hart old.harts old.boxes old.gone.items (is_some old.spare) old.slots.items
    ∙ ap (λ (k : RegistryState). record k { table = after_leave c.args.hart k.table }) c.self.view_is
