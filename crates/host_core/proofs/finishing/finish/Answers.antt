use Rattle.std.proofs.Common.{◌≡◌, ◌∙◌, ℕ, Some, false, ap, map, subst, sym}
use Rattle.std.specs.Prelude.{All, IfOk}
use Rattle.std.proofs.lemmas.List.Elements.{All-map}
use Rattle.flat_model.specs.Log.{party}
use Rattle.flat_model.specs.Registry.{has_left}
use Rattle.run_rules.specs.Guest.{plugins}
use Rattle.run_order.specs.InOrder.{task_run}
use Rattle.baton_gate.specs.Logs.{GoesOn, Ahead, Within}
use Rattle.baton_gate.specs.Passes.{ended, opening, parties, seen}
use Rattle.host_state.specs.State.{StateValue}
use Rattle.host_core.specs.Settling.{IsSettledBy}
use Rattle.host_core.specs.Stages.{IsOver}
use Rattle.host_core.proofs.JoinedPasses.{pass_at}
use Rattle.host_core.proofs.LastStates.{all_left, is_finished_if, never_leaves, none_controls}
use Rattle.host_core.proofs.LastTakes.{unmapped}
use Rattle.host_core.proofs.finishing.finish.Goals as goal

pub join_all-requires-clause-over : goal.join_all-requires-clause-over
join_all-requires-clause-over g c =
    unmapped (IsOver c.args.started.gate) pass_at c.args.started.runners.items c.requires.over.over

pub settled-requires-clause-left : goal.settled-requires-clause-left
settled-requires-clause-left g c =
    let runners = c.args.started.runners.items in
    let own = c.join_all.new.own in
    let s = c.into_inner-state.result in
    let is : s ≡ c.take.result.value = c.into_inner-state.ensures in
    let ahead =
    c.join_all.ensures.ended s.past
    (subst (λ (x : StateValue). All (λ e. Ahead party x.past e.party e.seen) (ended own)) (sym is) c.take.ensures.ended) in
    all_left c.args.started.gate c.args.started.own own (map pass_at runners) c.requires.over c.join_all.ensures.same
    c.join_all.ensures.party s (c.take.ensures.frame ∙ ap (λ (x : StateValue). Some x.task) (sym is))
    (All-map (λ p. Ahead party s.past p.party (seen p)) pass_at runners ahead)

pub settled-requires-clause-there : goal.settled-requires-clause-there
settled-requires-clause-there g c =
    let own = c.join_all.new.own in
    let s = c.into_inner-state.result in
    let is : s ≡ c.take.result.value = c.into_inner-state.ensures in
    let number : c.party.result ≡ own.party = c.party.ensures ∙ c.take.ensures.pass.1 in
    subst (λ (n : ℕ). has_left (plugins (task_run s.task) s.past) n ≡ false) (sym number)
    (never_leaves c.args.started.gate c.args.started.own own (map pass_at c.args.started.runners.items) c.requires.over
    c.join_all.ensures.same c.join_all.ensures.party s (c.take.ensures.frame ∙ ap (λ (x : StateValue). Some x.task) (sym is)))

pub returns : goal.returns
returns g c =
    let runners = c.args.started.runners.items in
    let passes = map pass_at runners in
    let own = c.join_all.new.own in
    let s = c.into_inner-state.result in
    let is : s ≡ c.take.result.value = c.into_inner-state.ensures in
    let frame = c.take.ensures.frame ∙ ap (λ (x : StateValue). Some x.task) (sym is) in
    let number : c.party.result ≡ own.party = c.party.ensures ∙ c.take.ensures.pass.1 in
    let ahead =
    c.join_all.ensures.ended s.past
    (subst (λ (x : StateValue). All (λ e. Ahead party x.past e.party e.seen) (ended own)) (sym is) c.take.ensures.ended) in
    let uncontrolled =
    none_controls c.args.started.gate c.args.started.own own passes c.requires.over c.join_all.ensures.same c.join_all.ensures.party s frame
    c.task.ensures.order.legal
    (subst (λ (x : StateValue). Ahead party x.past own.party (seen own)) (sym is) c.take.ensures.log)
    (subst (λ (x : StateValue). Within party x.past (parties own) (opening own)) (sym is) c.take.ensures.parties) in
    let done = c.settled.ensures in
    record {
      finished = is_finished_if c.args.started.gate c.args.started.own own passes c.requires.over c.join_all.ensures.same
          c.join_all.ensures.party s frame c.settled.result
          (All-map (λ p. Ahead party s.past p.party (seen p)) pass_at runners ahead) uncontrolled done.task done.whole done.open
          (subst (λ (n : ℕ). IfOk c.settled.result (λ now. GoesOn (IsSettledBy n) s.past now.past)) number done.goes_on);
    }
