use Rattle.std.proofs.Common.{◌≡◌, ◌++◌, ◌∷◌, ◌∙◌, ◌+◌, [], List, Option, refl, ap, arith, get_or, length, map, sym, subst}
use Rattle.std.specs.Prelude.{MatchOption}
use Rattle.std.specs.Option.{option_to_list}
use Rattle.flat_model.specs.declared.journals.Item.{Item}
use Rattle.flat_model.specs.declared.limits.TheConstants.{NO_PARTY}
use Rattle.flat_model.specs.Image.{Program}
use Rattle.flat_model.specs.Log.{log}
use Rattle.plug_registry.specs.Installs.{start_order}
use Rattle.run_order.specs.InOrder.{Task}
use Rattle.baton_gate.specs.Logs.{GoesOn}
use Rattle.baton_gate.specs.Passes.{AreNew, IsNewPass, seen}
use Rattle.host_state.specs.Scripting.{IsLineOf}
use Rattle.host_state.specs.State.{StateValue}
use Rattle.host_core.specs.Stages.{IsFirstSeat}
use Rattle.host_core.proofs.FirstPasses.{all_numbers, low_number, own_new, runner_new}
use Rattle.host_core.proofs.FirstSeats.{ready_first}
use Rattle.host_core.proofs.Planned.{opening_is_planned}
use Rattle.host_core.proofs.starting.start.Goals as goal

abbrev task : (g : _) → goal.After-drop-shared-2 g → Task
task g c = record {
  machine = record { image = c.args.image.value; harts = c.args.harts; limit = c.args.limit };
  mode = c.args.mode;
  plan = c.args.plan;
}

abbrev past : (g : _) → goal.After-drop-shared-2 g → List Item
past g c = c.in_ok-state.state.past

new : (g : _) (c : goal.After-drop-shared-2 g)
    → AreNew c.in_ok-gate.gate c.in_ok-gate.passes.items (c.args.harts + 1) (past g c) (task g c)
new g c =
    let logs = ap (λ (s : StateValue). s.past) c.in_ok-new.ensures.ok in
    let tasks = ap (λ (s : StateValue). s.task) c.in_ok-new.ensures.ok ∙ c.in_ok-state.ensures.task in
    subst (λ (y : List Item × Task). AreNew c.in_ok-gate.gate c.in_ok-gate.passes.items (c.args.harts + 1) y.0 y.1)
    (λ i. (logs i, tasks i)) c.in_ok-gate.ensures.passes

many : (g : _) (c : goal.After-drop-shared-2 g) → length c.in_ok-gate.passes.items ≡ c.args.harts + 1
many g c = omega (arith, c.in_ok-gate.ensures.count)

popped : (g : _) (c : goal.After-drop-shared-2 g) → c.in_ok-gate.passes.items ≡ c.pop.new.self.items ++ c.unwrap-own.result ∷ []
popped g c = c.pop.ensures.items ∙ ap (λ o. c.pop.new.self.items ++ option_to_list o) c.unwrap-own.ensures

own : (g : _) (c : goal.After-drop-shared-2 g)
    → IsNewPass c.in_ok-gate.gate c.unwrap-own.result c.args.harts (c.args.harts + 1) (past g c) (task g c)
own g c =
    own_new c.in_ok-gate.gate (c.args.harts + 1) c.args.harts (past g c) (task g c) c.in_ok-gate.passes.items c.pop.new.self.items
    c.unwrap-own.result (new g c) (many g c) (popped g c)

pub returns-clause-log : goal.returns-clause-log
returns-clause-log g c =
    subst (λ (xs : List Item). GoesOn (IsLineOf NO_PARTY) (log (map start_order c.args.plan.installs)) xs) (sym (own g c).seen_is)
    c.in_ok-state.ensures.log

pub returns-clause-own : goal.returns-clause-own
returns-clause-own g c =
    subst (λ xs. IsNewPass c.in_ok-gate.gate c.unwrap-own.result c.args.harts (c.args.harts + 1) xs (task g c))
    (sym (own g c).seen_is) (own g c)

pub returns-clause-passes : goal.returns-clause-passes
returns-clause-passes g c k d low =
    let p = (get_or c.in_ok-runners.runners.items k d).pass in
    subst (λ xs. IsNewPass c.in_ok-gate.gate p p.party (c.args.harts + 1) xs (task g c)) (sym (own g c).seen_is)
    (runner_new c.in_ok-gate.gate (c.args.harts + 1) c.args.harts (past g c) (task g c) c.in_ok-gate.passes.items c.pop.new.self.items
    c.unwrap-own.result (new g c) (many g c) (popped g c) (λ r. r.pass) c.in_ok-runners.runners.items c.in_ok-runners.ensures.passes
    k d low)

pub returns-clause-harts : goal.returns-clause-harts
returns-clause-harts g c =
    all_numbers c.in_ok-gate.gate (c.args.harts + 1) c.args.harts (past g c) (task g c) c.in_ok-gate.passes.items c.pop.new.self.items
    c.unwrap-own.result (new g c) (many g c) (popped g c) (λ r. r.pass) c.in_ok-runners.runners.items c.in_ok-runners.ensures.passes

pub returns-clause-ready : goal.returns-clause-ready
returns-clause-ready g c k d low =
    let r = get_or c.in_ok-runners.runners.items k d in
    let seats = subst (λ (v : Program). MatchOption r.seat ⊥ (IsFirstSeat
    (record { image = v; harts = c.args.harts; limit = c.args.limit }) c.args.mode r.pass.party))
    c.in_ok-shared.ensures.cases (c.in_ok-runners.ensures.seats k d low) in
    ready_first c.in_ok-gate.gate r.pass r.seat r.blocks r.lists (task g c) (c.args.harts + 1) (past g c)
    (runner_new c.in_ok-gate.gate (c.args.harts + 1) c.args.harts (past g c) (task g c) c.in_ok-gate.passes.items c.pop.new.self.items
    c.unwrap-own.result (new g c) (many g c) (popped g c) (λ r. r.pass) c.in_ok-runners.runners.items c.in_ok-runners.ensures.passes
    k d low)
    seats (c.in_ok-runners.ensures.blocks k d low) (c.in_ok-runners.ensures.lists k d low)
    (opening_is_planned (past g c) c.args.plan.installs c.in_ok-state.ensures.log) c.requires.limits
    (low_number c.in_ok-gate.gate (c.args.harts + 1) c.args.harts (past g c) (task g c) c.in_ok-gate.passes.items c.pop.new.self.items
    c.unwrap-own.result (new g c) (many g c) (popped g c) (λ r. r.pass) c.in_ok-runners.runners.items c.in_ok-runners.ensures.passes
    k d low)
