-- The seat of a hart before any hold.
use Rattle.std.proofs.Common.{◌≡◌, ◌<◌, ◌≤◌, ◌∷◌, ◌∙◌, ◌+◌, ℕ, true, false, List, [], Option, Some, None, refl, sym, ap, subst, arith, length, get_or}
use Rattle.std.specs.Prelude.{replicate, MatchOption, All}
use Rattle.std.proofs.lemmas.Option.{same_Some}
use Rattle.flat_model.specs.declared.journals.Item.{Item}
use Rattle.flat_model.specs.Image.{Program}
use Rattle.flat_model.specs.World.{Machine, HartState, Start as Begin, World, opening_hart, opening_start, hart_by}
use Rattle.flat_model.specs.Worlds.{world, hart_of}
use Rattle.block_finder.specs.Caches.{MayServe}
use Rattle.instr_lists.specs.declared.kept_lists.KeptList.{KeptList}
use Rattle.run_order.specs.InOrder.{Task, task_run}
use Rattle.baton_gate.specs.declared.passes.Pass.{Pass}
use Rattle.baton_gate.specs.declared.gate.Gate.{Gate}
use Rattle.baton_gate.specs.Passes.{IsNewPass, carries, seen}
use Rattle.host_state.specs.State.{IsWithinLimits}
use Rattle.hart_runner.specs.declared.seats.Seat.{Seat}
use Rattle.hart_runner.specs.Seats.{IsSeated}
use Rattle.hart_runner.specs.Turns.{Sits, HasLists}
use Rattle.hart_runner.specs.Lists.{IsList}
use Rattle.hart_runner.proofs.Entered.{quiet_noted}
use Rattle.std.proofs.lemmas.List.Elements.{All-nil}
use Rattle.host_core.specs.Runs.{IsPlanned}
use Rattle.host_core.specs.Stages.{IsFirstSeat, IsReady}
use Rattle.host_core.proofs.Planned.{same_world, all_there, nobody_waits, no_sets, no_specs}

opens_there : (t : Task) (h : ℕ) (past : List Item) → All IsPlanned past
    → opening_hart t.machine.image t.mode h t.machine.harts ≡ hart_of t.machine t.mode past h
unfolding world
opens_there t h past all = sym (ap (λ (w : World). w.harts h) (same_world t.machine t.mode past all))

-- a hart that has begun no block, and has made no step
since_none : (image : Program) (h harts : ℕ) (start : Option Begin) → (hart_by image h harts start).since ≡ 0
since_none image h harts None = refl
since_none image h harts (Some start) = refl

no_steps : (image : Program) (h harts : ℕ) (start : Option Begin) → (hart_by image h harts start).steps ≡ 0
no_steps image h harts None = refl
no_steps image h harts (Some start) = refl

module _ {W : Type 0} where
  pub sits_first : (t : Task) (h : ℕ) (past : List Item) (seat : Seat W) → IsFirstSeat t.machine t.mode h seat → All IsPlanned past
      → IsWithinLimits t.machine → h < t.machine.harts → Sits t h past seat
  sits_first t h past seat is all limits low =
      let m = t.machine in
      let start = opening_start m.image t.mode h in
      let steps : seat.hart.steps ≡ 0 = ap (λ (x : HartState). x.steps) is.hart_is ∙ no_steps m.image h m.harts start in
      let seated : IsSeated t h past seat.hart seat.attached seat.specs seat.asks.first = record {
        there = all_there (task_run t) h past all low;
        hart = is.hart_is ∙ opens_there t h past all;
        attached = is.no_sets ∙ no_sets (task_run t) h past all;
        asks = λ p one most live. quiet_noted seat.asks.first p is.no_asks ∙ sym (nobody_waits (task_run t) p h past all);
        unasked = λ p one most off. quiet_noted seat.asks.first p is.no_asks ∙ sym (nobody_waits (task_run t) p h past all);
        specs = is.no_specs ∙ no_specs (task_run t) h past all;
        begins = λ _. ap (λ (x : HartState). x.since) is.hart_is ∙ since_none m.image h m.harts start;
        below = λ _. omega (arith, steps, limits.some_step);
        quiet = λ _. is.no_asks;
      } in
      record {
        number = is.number;
        seated = subst (λ (n : ℕ). IsSeated t n past seat.hart seat.attached seat.specs seat.asks.first) (sym is.number) seated;
        image = is.image_is;
        limit = is.limit_is;
        kept = is.stores;
      }

  placed : (place : Option (Seat W)) (P Q : Seat W → Type 0) → ((seat : Seat W) → P seat → Q seat) → MatchOption place ⊥ P → MatchOption place ⊥ Q
  placed None P Q to is = is
  placed (Some seat) P Q to is = to seat is

  no_lists : (lists : List KeptList) (seat : Seat W) → lists ≡ [] → HasLists lists seat
  no_lists lists seat none =
      subst (λ (xs : List KeptList). HasLists xs seat) (sym none) (All-nil (IsList seat.image.value seat.generation seat.specs))

  -- a runner of a new gate
  pub ready_first : {S : Type 0} (gate : Gate S Item Task) (pass : Pass S Item Task) (seat : Option (Seat W)) (blocks : Option Program)
      (lists : List KeptList) (t : Task) (count : ℕ) (past : List Item) → IsNewPass gate pass pass.party count past t
      → MatchOption seat ⊥ (IsFirstSeat t.machine t.mode pass.party) → blocks ≡ None → lists ≡ [] → All IsPlanned past
      → IsWithinLimits t.machine → pass.party < t.machine.harts → IsReady gate pass seat blocks lists
  ready_first gate pass seat blocks lists t count past new first none empty all limits low =
      let same : (u : Task) → carries pass ≡ Some u → t ≡ u = λ u e. same_Some t u (sym new.frame_is ∙ e) in
      let all_seen : All IsPlanned (seen pass) = subst (λ (xs : List Item). All IsPlanned xs) (sym new.seen_is) all in
      record {
        of_gate = new.of_gate;
        free = new.free;
        sits = λ u e. subst (λ (x : Task). MatchOption seat ⊥ (Sits x pass.party (seen pass))) (same u e)
            (placed seat (IsFirstSeat t.machine t.mode pass.party) (Sits t pass.party (seen pass))
            (λ s is. sits_first t pass.party (seen pass) s is all_seen limits low) first);
        serves = λ u e. subst (λ (x : Option Program). MayServe x u.machine.image) (sym none) tt;
        kept = placed seat (IsFirstSeat t.machine t.mode pass.party) (HasLists lists) (λ s is. no_lists lists s empty) first;
      }
