-- What the pass of a controller has seen, from hold to hold.
use Rattle.std.proofs.Common.{◌≡◌, ◌+◌, ◌≤◌, ◌∙◌, ℕ, Bool, true, false, List, Option, Some, None, Result, Ok, Err}
use Rattle.std.proofs.Common.{refl, sym, ap, subst, arith}
use Rattle.std.specs.Prelude.{◌-◌, ◌^◌, min, IsSome, MatchOption, MatchResult, OnErr, option_map, is_some}
use Rattle.std.proofs.lemmas.Bool.{false≢true}
use Rattle.std.proofs.lemmas.Option.{same_Some}
use Rattle.flat_model.specs.declared.journals.Item.{Item}
use Rattle.flat_model.specs.Log.{party}
use Rattle.baton_gate.specs.declared.passes.Pass.{Pass}
use Rattle.baton_gate.specs.declared.gate.Gate.{Gate}
use Rattle.baton_gate.specs.declared.views.View.{View}
use Rattle.baton_gate.specs.Course.{given, joined, taken}
use Rattle.baton_gate.specs.Logs.{Ahead}
use Rattle.baton_gate.specs.Passes.{IsPassOf, carries, holds, known, seen}
use Rattle.run_order.specs.InOrder.{Task, InHand}
use Rattle.run_controls.specs.Controlling.{HasFoundNone, HasKept, HasLookedFor, HasPutBack, HasSettledFrom, HasTakenUp}
use Rattle.run_controls.specs.Controlling.{IsAtGate, IsController}
use Rattle.run_controls.specs.Hands.{HasOnItsWay, told, ReplaysNone}
use Rattle.run_controls.proofs.Handed.{told_in_hand}

-- Passes.

-- a value was taken, and given back with this log
pub seen_then : {I F : Type 0} (v mid w : View I F) (a b : List I) → mid ≡ taken v a → w ≡ given mid b → v.holds ≡ false
    → w ≡ record v { seen = b }
seen_then v mid w a b take give free =
    give ∙ ap (λ (x : View _ _). given x b) take ∙ ap (λ (h : Bool). record v { holds = h; seen = b }) (sym free)

module _ {S : Type 0} (gate : Gate S Item Task) (old new : Pass S Item Task) where
  -- it is a controller's still, by what is in its hand then
  pub at_gate : (before after : Option InHand) (now : List Item) → IsAtGate gate old before → IsPassOf gate new
      → known new ≡ record (known old) { seen = now } → new.party ≡ old.party
      → ((t : Task) → carries old ≡ Some t → ReplaysNone old.party → HasOnItsWay t old.party (seen old) before
      → HasOnItsWay t old.party now after)
      → IsAtGate gate new after
  at_gate before after now at of_gate knows same hand = record {
    of_gate = of_gate;
    free = ap (λ v. v.holds) knows ∙ at.free;
    controls = λ t e.
        let e' : carries old ≡ Some t = sym (ap (λ v. v.frame) knows) ∙ e in
        let is = at.controls t e' in
        subst (λ (y : ℕ × List Item). IsController t y.0 y.1 after) (λ i. (sym same i, sym (ap (λ v. v.seen) knows) i))
        (record { no_hart = is.no_hart; no_replay = is.no_replay; in_hand = hand t e' is.no_replay is.in_hand });
  }

-- by what a hold came to
pub at_gate_by : {S E : Type 0} (gate : Gate S Item Task) (old new : Pass S Item Task) (now : List Item) (r : Result (Option InHand) E)
    → IsAtGate gate old None → IsPassOf gate new → known new ≡ record (known old) { seen = now } → new.party ≡ old.party
    → ((t : Task) → carries old ≡ Some t → MatchResult r (HasOnItsWay t old.party now) (λ _. Unit {0}))
    → MatchResult r (IsAtGate gate new) (λ _. IsAtGate gate new None)
at_gate_by gate old new now (Ok hand) at of_gate knows same is =
    at_gate gate old new None hand now at of_gate knows same (λ t e apart has. is t e)
at_gate_by gate old new now (Err x) at of_gate knows same is =
    at_gate gate old new None None now at of_gate knows same (λ t e apart has. tt)

-- once another pass was joined into it
pub joined_at_gate : {S : Type 0} (gate : Gate S Item Task) (old new ended : Pass S Item Task) (hand : Option InHand)
    → IsAtGate gate old hand → IsPassOf gate new → known new ≡ joined (known old) (known ended) → new.party ≡ old.party
    → IsAtGate gate new hand
joined_at_gate gate old new ended hand at of_gate knows same = record {
  of_gate = of_gate;
  free = ap (λ v. v.holds) knows ∙ at.free;
  controls = λ t e.
      subst (λ (y : ℕ × List Item). IsController t y.0 y.1 hand) (λ i. (sym same i, sym (ap (λ v. v.seen) knows) i))
      (at.controls t (sym (ap (λ v. v.frame) knows) ∙ e));
}

-- with another thing in hand
pub in_hand_now : {S : Type 0} (gate : Gate S Item Task) (pass : Pass S Item Task) (before after : Option InHand)
    → IsAtGate gate pass before
    → ((t : Task) → HasOnItsWay t pass.party (seen pass) before → HasOnItsWay t pass.party (seen pass) after) → IsAtGate gate pass after
in_hand_now gate pass before after at hand = record {
  of_gate = at.of_gate;
  free = at.free;
  controls = λ t e.
      let is = at.controls t e in
      record { no_hart = is.no_hart; no_replay = is.no_replay; in_hand = hand t is.in_hand };
}

pub told_at_gate : {S : Type 0} (gate : Gate S Item Task) (pass : Pass S Item Task) (before after : Option InHand)
    → after ≡ option_map told before → IsAtGate gate pass before → IsAtGate gate pass after
told_at_gate gate pass before after is at =
    in_hand_now gate pass before after at
    (λ t has. subst (HasOnItsWay t pass.party (seen pass)) (sym is) (told_in_hand t pass.party (seen pass) before has))

-- What is in hand.

pub nothing_there : (hand : Option InHand) → is_some hand ≡ false → hand ≡ None
nothing_there None there = refl
nothing_there (Some c) there = absurd (false≢true (sym there))

-- nothing was there, and nothing was due
pub found_none : (before mid : Option InHand) (t : Task) (who : ℕ) (seen now : List Item) → is_some mid ≡ false
    → HasLookedFor before mid t who seen now → HasFoundNone before t who seen now
found_none None None t who seen now there looked = looked
found_none None (Some c) t who seen now there looked = absurd (false≢true (sym there))
found_none (Some b) None t who seen now there looked = absurd looked
found_none (Some b) (Some c) t who seen now there looked = absurd (false≢true (sym there))

-- told or not, it is of the same plug-in
pub told_number : (before after : Option InHand) → after ≡ option_map told before
    → option_map (λ (c : InHand). c.plugin) after ≡ option_map (λ (c : InHand). c.plugin) before
told_number None after is = ap (option_map (λ (c : InHand). c.plugin)) is
told_number (Some c) after is = ap (option_map (λ (c : InHand). c.plugin)) is

-- the value was taken in this call, where nothing was in hand and is
pub took_then : (before mid : Option InHand) (frame : Option Task) (who : ℕ) (seen now : List Item) (a b : ℕ) → IsSome frame
    → is_some mid ≡ false → ((t : Task) → frame ≡ Some t → HasLookedFor before mid t who seen now)
    → MatchOption before (b ≡ min (a + 1) (2 ^ 64 - 1)) (λ _. b ≡ a) → min (a + 1) (2 ^ 64 - 1) ≤ b
took_then None mid frame who seen now a b some there looked took = omega (arith, took)
took_then (Some x) (Some c) frame who seen now a b some there looked took = absurd (false≢true (sym there))
took_then (Some x) None None who seen now a b some there looked took = absurd (false≢true some)
took_then (Some x) None (Some t) who seen now a b some there looked took = absurd (looked t refl)

pub on_err : {T E P : Type 0} (r : Result T E) → P → OnErr r P
on_err (Ok x) p = tt
on_err (Err e) p = p

module _ (t : Task) (who : ℕ) (seen between now : List Item) where
  abbrev Puts : Option InHand → Type 0
  Puts hand = MatchOption hand ⊥ (λ c. HasPutBack who c.plugin between now)

  -- it settles what it has looked for
  pub settled_then : (before mid after : Option InHand) → after ≡ option_map told mid → HasLookedFor before mid t who seen between
      → MatchOption after ⊥ (λ c. HasPutBack who c.plugin between now) → HasSettledFrom before t who seen now
  settled_then before None after is looked done = absurd (subst Puts is done)
  settled_then None (Some c) after is looked done =
      record { plugin = c.plugin; between = between; taken_up = looked; put_back = subst Puts is done }
  settled_then (Some b) (Some c) after is looked done =
      let put : HasPutBack who c.plugin between now = subst Puts is done in
      subst (λ (y : ℕ × List Item). HasPutBack who y.0 y.1 now) (λ i. ((looked.0 i).plugin, looked.1 i)) put

  -- or it can't, and keeps it, told or not
  pub kept_still : (before mid after : Option InHand)
      → option_map (λ (c : InHand). c.plugin) after ≡ option_map (λ (c : InHand). c.plugin) mid → true ≡ is_some mid
      → HasLookedFor before mid t who seen between → Ahead party now who between → HasKept before after t who seen now
  kept_still before None after same there looked ahead = absurd (false≢true (sym there))
  kept_still before (Some c) None same there looked ahead = absurd (false≢true (ap is_some same))
  kept_still None (Some c) (Some d) same there looked ahead = record {
    between = between;
    taken_up = subst (λ (p : ℕ). HasTakenUp t who p seen between) (sym (same_Some d.plugin c.plugin same)) looked;
    ahead = ahead;
  }
  kept_still (Some b) (Some c) (Some d) same there looked ahead = (
    subst (λ (xs : List Item). Ahead party now who xs) looked.1 ahead,
    same_Some d.plugin c.plugin same ∙ ap (λ (x : InHand). x.plugin) looked.0,
  )
