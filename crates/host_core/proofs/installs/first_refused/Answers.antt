use Rattle.std.proofs.Common.{◌≡◌, sym, ap, ◌∙◌, arith, length, Some}
use Rattle.plug_registry.specs.Installs.{first_refused}
use Rattle.host_core.proofs.Installed.{at_first, at_next, refused_here, all_allowed, not_all_allowed, each_allowed}
use Rattle.host_core.proofs.installs.first_refused.Goals as goal

pub loop-spec-init : goal.loop-spec-init
loop-spec-init c = at_first _ _ _ c.in_ok-registry.ensures

pub returns-in-Some : goal.returns-in-Some
returns-in-Some c =
    let items = c.deref-spec-items.ensures.value ∙ ap (λ p. p.installs) c.plan.view_is in
    let same : c.place.new.registry ≡ c.loop-spec.registry = grind arith in
    let why = sym c.in-Some.is ∙ c.in_ok-refusal.ensures.refusal in
    let number = c.from.ensures ∙ c.count.ensures ∙ ap (λ r. length r.table.plugins) same in
    let here = refused_here c.args.harts _ _ _ _ _ c.loop-spec.invariant c.loop-spec-test.true c.spec-item.is why in
    let none = not_all_allowed c.args.harts _ _ _ _ _ c.loop-spec.invariant c.loop-spec-test.true c.spec-item.is why (c.from.result, c.in-Some.refusal) in
    record {
      first = ap (λ n. Some (n, c.in-Some.refusal)) number ∙ here ∙ ap (first_refused c.args.harts) items;
      none = rw (← items) none;
    }

pub loop-spec-preserved : goal.loop-spec-preserved
loop-spec-preserved c =
    let placed : c.place.new.registry.table ≡ _ = grind arith in
    at_next _ _ _ _ _ _ c.loop-spec.invariant c.loop-spec-test.true c.spec-item.is (sym c.in_default.is ∙ c.in_ok-refusal.ensures.refusal) placed

pub returns : goal.returns
returns c =
    let items = c.deref-spec-items.ensures.value ∙ ap (λ p. p.installs) c.plan.view_is in
    let none = each_allowed c.args.harts _ _ _ c.loop-spec.invariant c.loop-spec-test.false in
    record {
      first = all_allowed c.args.harts _ _ _ c.loop-spec.invariant c.loop-spec-test.false ∙ ap (first_refused c.args.harts) items;
      none = rw (← items) none;
    }
