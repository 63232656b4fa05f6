-- What an entry leaves of a replay: the other harts' berths stay as they are, and nothing that the plan wants is missing.
use Rattle.std.proofs.Common.{◌≡◌, ◌≢◌, ◌==◌, ◌&&◌, ◌+◌, ◌<◌, ◌≤◌, ◌++◌, ◌∷◌, [], ◌∙◌, ℕ, zero, suc, Bool, true, false, not, List}
use Rattle.std.proofs.Common.{Option, Some, None, refl, sym, ap, subst, arith, inl, inr, length, nat_lt, All}
use Rattle.std.specs.Prelude.{slice_index_or, slice_set, is_some}
use Rattle.std.specs.List.Sorted.{IsNonDecreasingBy}
use Rattle.std.proofs.lemmas.Bool.{cases_Bool, false≢true, ltb-true, ltb-false}
use Rattle.std.proofs.lemmas.Bool.Decides.{nat_tests}
use Rattle.std.proofs.lemmas.List.{get_or-set_same, get_or-set_other, length-set}
use Rattle.flat_model.specs.declared.journals.Entry.{Entry}
use Rattle.flat_model.specs.declared.journals.Item.{Item}
use Rattle.flat_model.specs.declared.journals.Item.TheVariants.{GaveBack, Left, Told, Took}
use Rattle.flat_model.specs.Image.{Program}
use Rattle.flat_model.specs.Log.{journaled, with_entry}
use Rattle.flat_model.specs.Registry.{Plugins, has_left}
use Rattle.block_finder.specs.Caches.{MayServe}
use Rattle.baton_gate.specs.Logs.{GoesOn}
use Rattle.baton_gate.proofs.LogLemmas.{goes_nowhere}
use Rattle.run_rules.specs.Guest.{Run, plugins}
use Rattle.run_rules.specs.Due.{wanted, next_line, start_orders}
use Rattle.run_rules.specs.Laws.{AreOfOthers}
use Rattle.run_rules.specs.Legal.{Legal, is_there}
use Rattle.run_rules.specs.Places.{IsStateLog}
use Rattle.run_rules.proofs.Turns.{same as same_number}
use Rattle.run_order.specs.Sets.{is_closing_out}
use Rattle.run_order.specs.InOrder.{Task, InOrder, task_run}
use Rattle.kept_order.proofs.Gone.{as_many}
use Rattle.kept_order.proofs.Seats.{others_leave_runners_alone}
use Rattle.kept_order.proofs.Unplanned.{wants_none}
use Rattle.host_state.specs.Scripting.{IsLineOf}
use Rattle.host_state.specs.State.{StateValue, stored_of}
use Rattle.replay_order.proofs.Seats.{others_leave_seats}
use Rattle.run_replay.specs.declared.berths.Berth.{Berth}
use Rattle.run_replay.specs.Following.{seating_of, IsBerth, IsPlaced, IsFollowing, IsNext}

-- an entry behind which nothing else stands
pub next_alone : (e : Entry) (old new : StateValue) → new.task ≡ old.task → journaled new.past ≡ with_entry e (journaled old.past)
    → IsNext e old new
next_alone e old new task items = record {
  task = task;
  party = 0;
  items = subst (GoesOn (IsLineOf 0) (with_entry e (journaled old.past))) (sym items)
      (goes_nowhere (IsLineOf 0) (with_entry e (journaled old.past)));
}

-- a log that goes on, in a state that is in order
pub record GoesBy (more : List Item) (old new : StateValue) : Type 0 where
  pub task : new.task ≡ old.task
  pub open_now : new.short ≡ false
  pub past : new.past ≡ more ++ old.past
  pub order : InOrder new.task (stored_of new)

module _ (more : List Item) (old new : StateValue) (goes : GoesBy more old new) where
  -- what holds behind the old log with more, in the words of the new state
  pub carried : (P : Task → List Item → Type 0) → P old.task (more ++ old.past) → P new.task new.past
  carried P is = subst (λ (t : Task). P t new.past) (sym goes.task) (subst (P old.task) (sym goes.past) is)

  pub brought : (P : Task → List Item → Type 0) → P new.task new.past → P old.task (more ++ old.past)
  brought P is = subst (P old.task) goes.past (subst (λ (t : Task). P t new.past) goes.task is)

  pub legal_then : Legal (task_run old.task) (more ++ old.past)
  legal_then = brought (λ t past. Legal (task_run t) past) goes.order.legal

  pub state_then : IsStateLog (task_run old.task) (more ++ old.past)
  state_then = brought (λ t past. IsStateLog (task_run t) past) goes.order.state_log

-- where nothing is wanted, nothing is behind a Back, a Leave or a Done
module _ (run : Run) (past : List Item) (rising : IsNonDecreasingBy (λ t. t.when) run.plan.script) (none : wanted run past ≡ None) where
  pub none_behind_back : (h plugin : ℕ) → wanted run (GaveBack h plugin ∷ past) ≡ None
  unfolding next_line start_orders
  none_behind_back h plugin = wants_none run past (GaveBack h plugin ∷ past) rising refl refl none

  pub none_behind_leave : (h : ℕ) → wanted run (Left h ∷ past) ≡ None
  unfolding next_line start_orders
  none_behind_leave h = wants_none run past (Left h ∷ past) rising refl refl none

  pub none_behind_done : (party by plugin : ℕ) → wanted run (Told party plugin ∷ Took by plugin ∷ past) ≡ None
  unfolding next_line start_orders
  none_behind_done party by plugin = wants_none run past (Told party plugin ∷ Took by plugin ∷ past) rising refl refl none

module _ {W : Type 0} where
  -- another hart's place
  pub stays_placed : (t : Task) (h : ℕ) (more past : List Item) (b : Option (Berth W)) → h < t.machine.harts → AreOfOthers h more
      → Legal (task_run t) (more ++ past) → IsStateLog (task_run t) (more ++ past) → IsPlaced t h past b → IsPlaced t h (more ++ past) b
  stays_placed t h more past None low others legal state is = (others_leave_runners_alone t h more past low others legal state).there ∙ is
  stays_placed t h more past (Some b) low others legal state is = record {
    sits = others_leave_seats t h more past (seating_of b) low others legal state is.sits;
    kept = is.kept;
    cached = is.cached;
  }

  -- a replay that goes on so, with these places
  pub goes_with : (more : List Item) (old new : StateValue) (berths next : List (Option (Berth W))) (were now : Option Program)
      → IsFollowing old berths were → GoesBy more old new → wanted (task_run old.task) (more ++ old.past) ≡ None
      → length next ≡ old.task.machine.harts
      → ((h : ℕ) → h < old.task.machine.harts → IsPlaced old.task h (more ++ old.past) (slice_index_or next h None))
      → ((p : ℕ) → is_closing_out (task_run old.task) p (more ++ old.past) ≡ false)
      → MayServe now old.task.machine.image → IsFollowing new next now
  goes_with more old new berths next were now following goes wants count places none serves = record {
    open_now = goes.open_now;
    rising = subst (λ (t : Task). IsNonDecreasingBy (λ l. l.when) t.plan.script) (sym goes.task) following.rising;
    caught_up = carried more old new goes (λ t past. wanted (task_run t) past ≡ None) wants;
    none_out = λ p. carried more old new goes (λ t past. is_closing_out (task_run t) p past ≡ false) (none p);
    count = count ∙ sym (ap (λ (t : Task). t.machine.harts) goes.task);
    places = λ h low. carried more old new goes (λ t past. IsPlaced t h past (slice_index_or next h None))
        (places h (subst (λ (t : Task). h < t.machine.harts) goes.task low));
    serves = subst (λ (t : Task). MayServe now t.machine.image) (sym goes.task) serves;
  }

  -- where all items are one hart's, who has this place then
  pub goes_on : (h : ℕ) (more : List Item) (old new : StateValue) (berths : List (Option (Berth W))) (b : Option (Berth W))
      (were now : Option Program) → IsFollowing old berths were → GoesBy more old new → wanted (task_run old.task) (more ++ old.past) ≡ None
      → ((g : ℕ) → (h == g) ≡ false → AreOfOthers g more)
      → ((p : ℕ) → is_closing_out (task_run old.task) p (more ++ old.past) ≡ false)
      → MayServe now old.task.machine.image → IsPlaced old.task h (more ++ old.past) b → IsFollowing new (slice_set berths h b) now
  goes_on h more old new berths b were now following goes wants others none serves own =
      goes_with more old new berths (slice_set berths h b) were now following goes wants
      (length-set berths h b ∙ following.count)
      (λ g low. elim (cases_Bool (h == g)) [
        | inl at ↦
            let e : g ≡ h = grind (arith, nat_tests, at) in
            let below : h < length berths = omega (arith, e, low, following.count) in
            let here : slice_index_or (slice_set berths h b) g None ≡ b =
            ap (λ (k : ℕ). slice_index_or (slice_set berths h b) k None) e ∙ get_or-set_same berths h b None below in
            subst (IsPlaced old.task g (more ++ old.past)) (sym here)
            (subst (λ (k : ℕ). IsPlaced old.task k (more ++ old.past) b) (sym e) own)
        | inr off ↦
            let apart : g ≢ h = λ e. false≢true (sym off ∙ ap (λ (k : ℕ). h == k) e ∙ same_number h) in
            let same : slice_index_or (slice_set berths h b) g None ≡ slice_index_or berths g None =
            get_or-set_other berths h g b None apart in
            subst (IsPlaced old.task g (more ++ old.past)) (sym same)
            (stays_placed old.task g more old.past (slice_index_or berths g None) low (others g off)
            (legal_then more old new goes) (state_then more old new goes) (following.places g low))
      ]) none serves

  -- a hart without a berth isn't there
  pub absent : (s : StateValue) (berths : List (Option (Berth W))) (blocks : Option Program) (h : ℕ) → IsFollowing s berths blocks
      → None ≡ slice_index_or berths h None → is_there (task_run s.task) h s.past ≡ false
  absent s berths blocks h following none =
      elim (cases_Bool (nat_lt h s.task.machine.harts)) [
        | inl low ↦ subst (IsPlaced s.task h s.past) (sym none) (following.places h (ltb-true h s.task.machine.harts low))
        | inr high ↦
            let r = plugins (task_run s.task) s.past in
            ap (λ (b : Bool). b && not (has_left r h)) (ap (λ (n : ℕ). nat_lt h n) (as_many (task_run s.task) s.past) ∙ high)
      ]

  within : (berths : List (Option (Berth W))) (h : ℕ) (b : Berth W) → Some b ≡ slice_index_or berths h None → h < length berths
  within [] h b is = absurd cc
  within (x ∷ berths) zero b is = omega arith
  within (x ∷ berths) (suc h) b is = omega (arith, within berths h b is)

  -- and one with a berth is one of the run
  pub found : (s : StateValue) (berths : List (Option (Berth W))) (blocks : Option Program) (h : ℕ) (b : Berth W)
      → IsFollowing s berths blocks → Some b ≡ slice_index_or berths h None → h < s.task.machine.harts
  found s berths blocks h b following is = omega (arith, within berths h b is, following.count)

  pub present : (s : StateValue) (berths : List (Option (Berth W))) (blocks : Option Program) (h : ℕ) (b : Berth W)
      → IsFollowing s berths blocks → Some b ≡ slice_index_or berths h None → IsBerth s.task h s.past b
  present s berths blocks h b following is =
      subst (IsPlaced s.task h s.past) (sym is) (following.places h (found s berths blocks h b following is))
