-- Orders and Dones that a replay has followed.
use Rattle.std.proofs.Common.{◌≡◌, ◌<◌, ◌∷◌, [], ◌++◌, ◌∙◌, ℕ, true, false, List, Option, None, refl, sym, ap, subst}
use Rattle.std.specs.Prelude.{slice_index_or}
use Rattle.flat_model.specs.declared.journals.Entry.TheVariants as entries
use Rattle.flat_model.specs.declared.journals.Item.{Item}
use Rattle.flat_model.specs.declared.journals.Item.TheVariants.{Ordered, Told, Took}
use Rattle.flat_model.specs.declared.journals.Order.{Order}
use Rattle.flat_model.specs.declared.journals.Origin.{Origin}
use Rattle.flat_model.specs.Image.{Program}
use Rattle.flat_model.specs.Log.{journaled}
use Rattle.run_rules.specs.Legal.{Legal, Rule}
use Rattle.run_rules.specs.Places.{IsStateLog, replaying}
use Rattle.run_order.specs.InOrder.{Task, task_run}
use Rattle.kept_order.specs.Withdrawing.{IsUnplanned}
use Rattle.kept_order.proofs.Unplanned.{unplanned_orders_pass_nothing_by}
use Rattle.host_state.specs.State.{StateValue}
use Rattle.replay_order.proofs.Entries.{broken_rules_break_journals}
use Rattle.run_replay.specs.declared.berths.Berth.{Berth}
use Rattle.run_replay.specs.declared.replays.Followed.{Followed}
use Rattle.run_replay.specs.declared.replays.Followed.TheVariants.{Went, Overdue, Breaks}
use Rattle.run_replay.specs.Following.{IsFollowing, IsFollowed, IsNext, IsBreaking}
use Rattle.run_replay.specs.Recording.{HasRecorded, IsJudged, IsTold}
use Rattle.run_replay.proofs.Closings.{none_out_ordered, none_out_told}
use Rattle.run_replay.proofs.Orders.{order_keeps_place}
use Rattle.run_replay.proofs.Dones.{told_keeps_place, complete_taken}
use Rattle.run_replay.proofs.Going.{GoesBy, goes_with, legal_then, state_then, next_alone, none_behind_done}

-- an item that breaks its rule breaks the journal
pub breaks : (s : StateValue) (x : Item) → (Rule (task_run s.task) x s.past → ⊥) → Legal (task_run s.task) (x ∷ journaled s.past) → ⊥
breaks s x broken legal =
    broken_rules_break_journals s.task.machine s.task.mode s.task.plan x s.past (journaled s.past) refl broken legal

goes : (more : List Item) (old new : StateValue) → old.short ≡ false → HasRecorded (more ++ old.past) old new → GoesBy more old new
goes more old new short has = record { task = has.task; open_now = has.open_now ∙ short; past = has.past; order = has.order }

module _ {W : Type 0} where
  pub order_followed : (f : Followed) (origin : Origin) (order : Order) (old new : StateValue) (berths : List (Option (Berth W)))
      (blocks : Option Program) → IsUnplanned origin → IsFollowing old berths blocks → IsJudged f (Ordered origin order) old new
      → IsFollowed f (entries.Order origin order) old new berths blocks
  order_followed Breaks origin order old new berths blocks unplanned following judged = breaks old (Ordered origin order) judged
  order_followed Overdue origin order old new berths blocks unplanned following judged = absurd judged
  order_followed Went origin order old new berths blocks unplanned following judged =
      let x = Ordered origin order in
      let by : GoesBy (x ∷ []) old new = goes (x ∷ []) old new following.open_now judged in
      let legal = legal_then (x ∷ []) old new by in
      let state = state_then (x ∷ []) old new by in (
        next_alone (entries.Order origin order) old new judged.task (ap journaled judged.past),
        goes_with (x ∷ []) old new berths berths blocks blocks following by
            (unplanned_orders_pass_nothing_by (task_run old.task) origin order old.past following.rising unplanned following.caught_up)
            following.count
            (λ h low. order_keeps_place old.task h origin order old.past (slice_index_or berths h None) low legal state
            (following.places h low))
            (none_out_ordered (task_run old.task) origin order old.past legal state following.none_out) following.serves,
      )

  pub done_followed : (f : Followed) (party plugin : ℕ) (old new : StateValue) (berths : List (Option (Berth W)))
      (blocks : Option Program) → IsFollowing old berths blocks → IsTold f party plugin old new
      → IsFollowed f (entries.Done party plugin) old new berths blocks
  done_followed Breaks party plugin old new berths blocks following judged = breaks old (Told party plugin) judged
  done_followed Overdue party plugin old new berths blocks following judged = absurd judged
  done_followed Went party plugin old new berths blocks following judged =
      let by = replaying plugin in
      let more = Told party plugin ∷ Took by plugin ∷ [] in
      let on : GoesBy more old new = goes more old new following.open_now judged in
      let legal = legal_then more old new on in
      let state = state_then more old new on in (
        next_alone (entries.Done party plugin) old new judged.task (ap journaled judged.past),
        goes_with more old new berths berths blocks blocks following on
            (none_behind_done (task_run old.task) old.past following.rising following.caught_up party by plugin) following.count
            (λ h low. told_keeps_place old.task h party by plugin old.past (slice_index_or berths h None) low following.caught_up legal state
            (following.places h low))
            (none_out_told (task_run old.task) party by plugin old.past (complete_taken (task_run old.task) party by plugin old.past state)
            state following.none_out) following.serves,
      )

-- where room alone was taken before
module _ (old room new : StateValue) (task : room.task ≡ old.task) (short : room.short ≡ old.short) (past : room.past ≡ old.past) where
  same_run : (P : Task → List Item → Type 0) → P old.task old.past → P room.task room.past
  same_run P is = subst (λ (t : Task). P t room.past) (sym task) (subst (P old.task) (sym past) is)

  recorded_before : (more : List Item) → HasRecorded (more ++ room.past) room new → HasRecorded (more ++ old.past) old new
  recorded_before more has = record {
    task = has.task ∙ task;
    open_now = has.open_now ∙ short;
    past = has.past ∙ ap (λ (xs : List Item). more ++ xs) past;
    order = has.order;
  }

judged_before : (f : Followed) (x : Item) (old room new : StateValue) → room.task ≡ old.task → room.short ≡ old.short → room.past ≡ old.past
    → IsJudged f x room new → IsJudged f x old new
judged_before Went x old room new task short past judged = recorded_before old room new task short past (x ∷ []) judged
judged_before Overdue x old room new task short past judged = judged
judged_before Breaks x old room new task short past judged =
    λ rule. judged (same_run old room new task short past (λ t log. Rule (task_run t) x log) rule)

told_before : (f : Followed) (party plugin : ℕ) (old room new : StateValue) → room.task ≡ old.task → room.short ≡ old.short
    → room.past ≡ old.past → IsTold f party plugin room new → IsTold f party plugin old new
told_before Went party plugin old room new task short past judged =
    recorded_before old room new task short past (Told party plugin ∷ Took (replaying plugin) plugin ∷ []) judged
told_before Overdue party plugin old room new task short past judged = judged
told_before Breaks party plugin old room new task short past judged =
    λ rule. judged (same_run old room new task short past (λ t log. Rule (task_run t) (Told party plugin) log) rule)

module _ {W : Type 0} where
  pub ask_followed : (f : Followed) (origin : Origin) (order : Order) (old room new : StateValue) (berths : List (Option (Berth W)))
      (blocks : Option Program) → IsUnplanned origin → IsFollowing old berths blocks → room.task ≡ old.task → room.short ≡ old.short
      → room.past ≡ old.past
      → IsJudged f (Ordered origin order) room new → IsFollowed f (entries.Order origin order) old new berths blocks
  ask_followed f origin order old room new berths blocks unplanned following task short past judged =
      order_followed f origin order old new berths blocks unplanned following
      (judged_before f (Ordered origin order) old room new task short past judged)

  pub told_followed : (f : Followed) (party plugin : ℕ) (old room new : StateValue) (berths : List (Option (Berth W)))
      (blocks : Option Program) → IsFollowing old berths blocks → room.task ≡ old.task → room.short ≡ old.short → room.past ≡ old.past
      → IsTold f party plugin room new → IsFollowed f (entries.Done party plugin) old new berths blocks
  told_followed f party plugin old room new berths blocks following task short past judged =
      done_followed f party plugin old new berths blocks following (told_before f party plugin old room new task short past judged)
