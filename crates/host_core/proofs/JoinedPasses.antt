-- Passes that are joined into one, one after the other.
use Rattle.std.proofs.Common.{◌≡◌, ◌∷◌, [], ◌++◌, ◌∙◌, ℕ, List, sym, ap, subst}
use Rattle.std.specs.Prelude.{All}
use Rattle.std.proofs.lemmas.List.Elements.{All-head, All-tail, All-nil, All-cons}
use Rattle.flat_model.specs.declared.journals.Item.{Item}
use Rattle.flat_model.specs.Log.{party}
use Rattle.std.specs.declared.boxed.Box.{Box}
use Rattle.std.specs.declared.alloc.Global.{Global}
use Rattle.run_order.specs.InOrder.{Task}
use Rattle.host_state.specs.declared.states.HostState.{HostState}
use Rattle.hart_runner.specs.declared.runners.Runner.{Runner}
use Rattle.baton_gate.specs.declared.passes.Pass.{Pass}
use Rattle.baton_gate.specs.declared.gate.Gate.{Gate}
use Rattle.baton_gate.specs.declared.views.Ended.{Ended}
use Rattle.baton_gate.specs.declared.views.View.{View}
use Rattle.baton_gate.specs.Course.{joined, ended_of}
use Rattle.baton_gate.specs.Logs.{Ahead}
use Rattle.baton_gate.specs.Passes.{IsPassOf, ended, known, seen}

all_left : {A : Type 0} (P : A → Type 0) (xs ys : List A) → All P (xs ++ ys) → All P xs
all_left P [] ys all = All-nil P
all_left P (x ∷ xs) ys all = All-cons P x xs (All-head P x (xs ++ ys) all) (all_left P xs ys (All-tail P x (xs ++ ys) all))

all_middle : {A : Type 0} (P : A → Type 0) (xs : List A) (y : A) (zs : List A) → All P (xs ++ y ∷ zs) → P y
all_middle P [] y zs all = All-head P y zs all
all_middle P (x ∷ xs) y zs all = all_middle P xs y zs (All-tail P x (xs ++ y ∷ zs) all)

module _ {S : Type 0} (gate : Gate S Item Task) (first own now pass : Pass S Item Task) (of_gate : IsPassOf gate pass)
    (is : known now ≡ joined (known own) (known pass)) where
  pub still_same : known own ≡ record (known first) { ended = ended own } → known now ≡ record (known first) { ended = ended now }
  still_same same =
      is ∙ ap (λ (v : View Item Task). joined v (known pass)) same
      ∙ ap (λ (es : List (Ended Item)). let v : View Item Task = record (known first) { ended = es } in v)
      (sym (ap (λ (v : View Item Task). v.ended) is))

  pub ahead_of_both : (log : List Item) → All (λ (e : Ended Item). Ahead party log e.party e.seen) (ended now)
      → All (λ (e : Ended Item). Ahead party log e.party e.seen) (ended own) × Ahead party log pass.party (seen pass)
  ahead_of_both log all =
      let P : Ended Item → Type 0 = λ e. Ahead party log e.party e.seen in
      let both : All P (ended own ++ ended_of (known pass)) =
      subst (λ (es : List (Ended Item)). All P es) (ap (λ (v : View Item Task). v.ended) is) all in
      let there : Ahead party log (known pass).party (seen pass) =
      all_middle P (ended own) (record { party = (known pass).party; seen = seen pass }) (known pass).ended both in (
        all_left P (ended own) (ended_of (known pass)) both,
        subst (λ (n : ℕ). Ahead party log n (seen pass)) (sym of_gate.numbered) there,
      )

module _ {S R : Type 0} (pass_of : R → Pass S Item Task) (log : List Item) where
  pub ahead_with : (r : R) (items rest : List R) → items ≡ r ∷ rest → Ahead party log (pass_of r).party (seen (pass_of r))
      → All (λ (x : R). Ahead party log (pass_of x).party (seen (pass_of x))) rest
      → All (λ (x : R). Ahead party log (pass_of x).party (seen (pass_of x))) items
  ahead_with r items rest is one all =
      let P : R → Type 0 = λ x. Ahead party log (pass_of x).party (seen (pass_of x)) in
      subst (λ (xs : List R). All P xs) (sym is) (All-cons P r rest one all)

module _ {W C : Type 0} where
  abbrev pub pass_at : Runner W C → Pass (Box (HostState W C) Global) Item Task
  pass_at r = r.pass
