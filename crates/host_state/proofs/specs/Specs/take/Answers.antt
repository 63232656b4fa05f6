use Rattle.std.proofs.Common.{rules, ◌≤◌, ◌<◌, ◌==◌, ◌∙◌, ℕ, not, filter, arith, ap, sym, subst}
use Rattle.std.proofs.lemmas.Fn.{filter_same}
use Rattle.std.proofs.lemmas.List.Elements.{All-filter}
use Rattle.std.proofs.lemmas.List.Kept.{AllPairs-filter}
use Rattle.flat_model.specs.declared.plugins.SetSpec.{SetSpec}
use Rattle.host_state.specs.Filters.{AreSpecsInOrder, AreSpecsNumbered}
use Rattle.host_state.proofs.specs.Specs.take.Goals as goal

pub invariant_of-self : goal.invariant_of-self
invariant_of-self c =
    let others = λ (s : ℕ × SetSpec). not (s.0 == c.args.plugin) in
    let sets = c.self.inside.sets.items in
    let left = filter_same _ others _ (λ x b f' k. search rules) sets c.retain.new.self.items c.retain.ensures.filtered in (
      omega (arith, c.retain.ensures.capacity, c.self.invariant.0),
      subst AreSpecsInOrder (sym left) (AllPairs-filter (λ (a b : ℕ × SetSpec). a.0 < b.0) others sets c.self.invariant.1),
      subst AreSpecsNumbered (sym left) (All-filter others (λ (s : ℕ × SetSpec). (1 ≤ s.0) × (s.0 ≤ 8)) sets c.self.invariant.2),
    )

pub returns : goal.returns
returns c =
    let others = λ (s : ℕ × SetSpec). not (s.0 == c.args.plugin) in
    let sets = c.self.inside.sets.items in
    let left = filter_same _ others _ (λ x b f' k. search rules) sets c.retain.new.self.items c.retain.ensures.filtered in
    record { left = left ∙ ap (filter others) c.self.view_is }
