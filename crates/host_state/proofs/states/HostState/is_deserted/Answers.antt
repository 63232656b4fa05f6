use Rattle.std.proofs.Common.{◌≡◌, ap, sym, subst, ◌∙◌, length}
use Rattle.host_state.specs.State.{StateValue, IsSound}
use Rattle.host_state.proofs.Deserted.{as_many, deserted_in}
use Rattle.host_state.proofs.states.HostState.is_deserted.Goals as goal

pub are_out-requires : goal.are_out-requires
are_out-requires g c =
    let sound = subst IsSound c.self.view_is c.self.invariant in
    let starts : c.deref.result.now ≡ c.args.self.now.services.starts =
    c.deref.ensures.value ∙ ap (λ s. s.services.starts) c.self-inside.view_is ∙ ap (λ (s : StateValue). s.services.starts) c.self.view_is in
    let harts : c.deref-2.result.now ≡ c.args.self.now.harts = c.deref-2.ensures.value ∙ ap (λ s. s.kept.items) c.self-inside.view_is ∙ ap
    (λ (s : StateValue). s.harts) c.self.view_is in
    record { count = ap length starts ∙ as_many c.args.self.now sound ∙ sym (ap length harts) }

pub returns : goal.returns
returns g c =
    let sound = subst IsSound c.self.view_is c.self.invariant in
    let starts : c.deref.result.now ≡ c.args.self.now.services.starts =
    c.deref.ensures.value ∙ ap (λ s. s.services.starts) c.self-inside.view_is ∙ ap (λ (s : StateValue). s.services.starts) c.self.view_is in
    let harts : c.deref-2.result.now ≡ c.args.self.now.harts = c.deref-2.ensures.value ∙ ap (λ s. s.kept.items) c.self-inside.view_is ∙ ap
    (λ (s : StateValue). s.harts) c.self.view_is in
    record { finished = λ out. deserted_in c.args.self.now sound _ _ starts harts (c.are_out.ensures.out out) }
