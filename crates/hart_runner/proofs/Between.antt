-- From what a runner knows between its holds to what it needs in a hold, and back.
use Rattle.std.proofs.Common.{◌≡◌, ◌≢◌, ◌≤◌, ◌∷◌, [], ◌∙◌, ℕ, true, false, List, Option, Some, None, Result, Ok, Err}
use Rattle.std.proofs.Common.{refl, sym, ap, subst, ne_eqb, arith, inl, inr, All}
use Rattle.std.specs.Prelude.{IsSome, IfOk, MatchOption, slice_index_or}
use Rattle.std.proofs.lemmas.Bool.{cases_Bool, false≢true}
use Rattle.std.proofs.lemmas.List.Elements.{All-head, All-tail}
use Rattle.flat_model.specs.declared.plugins.Ask.{Ask}
use Rattle.flat_model.specs.declared.plugins.SetSpec.{SetSpec}
use Rattle.flat_model.specs.declared.journals.Item.{Item}
use Rattle.flat_model.specs.declared.refusals.NoMemory.{NoMemory}
use Rattle.flat_model.specs.Image.{Program}
use Rattle.flat_model.specs.Log.{party}
use Rattle.flat_model.specs.Registry.{plugin_of}
use Rattle.block_finder.specs.Block.{IsBlock}
use Rattle.host_state.specs.Moving.{IsPrivateTurn}
use Rattle.hart_runner.specs.declared.going_ahead.Ahead.{Ahead}
use Rattle.hart_runner.specs.Lists.{IsList}
use Rattle.flat_model.specs.World.{HartState}
use Rattle.flat_model.specs.Worlds.{hart_of}
use Rattle.baton_gate.specs.Logs.{GoesOn}
use Rattle.watcher_api.specs.Acting.{ask_of}
use Rattle.watcher_api.specs.Attachment.{Attachment}
use Rattle.run_rules.specs.Guest.{plugins}
use Rattle.run_rules.specs.Heard.{is_live, waiting}
use Rattle.run_rules.specs.Laws.{AreOfOthers}
use Rattle.run_rules.specs.Legal.{Legal, is_there}
use Rattle.run_rules.specs.Places.{IsStateLog, place_of, is_with_hart}
use Rattle.run_order.specs.InOrder.{Task, InOrder, task_run}
use Rattle.kept_order.specs.Going.{StaysSeated}
use Rattle.kept_order.specs.Waking.{MayWake}
use Rattle.kept_order.proofs.Gone.{there_low}
use Rattle.kept_order.proofs.Seats.{others_leave_runners_alone}
use Rattle.kept_order.proofs.Wakings.{parked_harts_wake}
use Rattle.replay_order.proofs.Before.{live_before}
use Rattle.host_state.specs.State.{StateValue, stored_of}
use Rattle.hart_runner.specs.declared.holding.Hold.{Hold}
use Rattle.hart_runner.specs.declared.seats.Seat.{Seat}
use Rattle.hart_runner.specs.Holds.{IsAsleep, IsHold}
use Rattle.hart_runner.specs.declared.holding.Hold.TheVariants as holds
use Rattle.hart_runner.specs.declared.runners.Turned.TheVariants.{Went, Waited}
use Rattle.hart_runner.specs.declared.runners.Turned.TheVariants as turns
use Rattle.hart_runner.specs.Parts.{ComesStill, ComesAhead, IsStillPart, HasLeftThen, KeepsLists}
use Rattle.instr_lists.specs.declared.kept_lists.KeptList.{KeptList}
use Rattle.host_state.specs.Taking.{IsGotBy}
use Rattle.hart_runner.specs.Seats.{IsBack, IsSeated}
use Rattle.hart_runner.specs.Turns.{HasGone, HasLists, IsAhead, IsDone, IsTurned, Sits, turned_of}

others_of : (h : ℕ) (more : List Item) → All (λ i. party i ≢ h) more → AreOfOthers h more
others_of h [] all = tt
others_of h (x ∷ more) all =
    (ne_eqb (party x) h (All-head (λ i. party i ≢ h) x more all), others_of h more (All-tail (λ i. party i ≢ h) x more all))

-- what a hart knows of the log that it takes
stays : (t : Task) (h : ℕ) (seen past : List Item) → Legal (task_run t) past → IsStateLog (task_run t) past
    → GoesOn (λ i. party i ≢ h) seen past → is_there (task_run t) h seen ≡ true → StaysSeated t h seen past
stays t h seen past legal state ahead there =
    subst (StaysSeated t h seen) (sym ahead.begins)
    (others_leave_runners_alone t h ahead.more seen (there_low (task_run t) h seen there) (others_of h ahead.more ahead.later)
    (subst (Legal (task_run t)) ahead.begins legal) (subst (IsStateLog (task_run t)) ahead.begins state))

wakes : (t : Task) (h : ℕ) (seen past : List Item) → GoesOn (λ i. party i ≢ h) seen past
    → is_there (task_run t) h seen ≡ true → (hart_of t.machine t.mode seen h).parked ≡ true
    → MayWake t h seen past
wakes t h seen past ahead there parked =
    subst (MayWake t h seen) (sym ahead.begins)
    (parked_harts_wake t h ahead.more seen (there_low (task_run t) h seen there) (others_of h ahead.more ahead.later) parked)

-- what the hart has noted for a plug-in that is Live is what it waited for
still_noted : (t : Task) (h : ℕ) (seen past : List Item) (hart : HartState) (sets : List Attachment) (filters : List (ℕ × SetSpec))
    (noted : List Ask) → Legal (task_run t) past → IsStateLog (task_run t) past → GoesOn (λ i. party i ≢ h) seen past
    → IsSeated t h seen hart sets filters noted → (p : ℕ) → 1 ≤ p → p ≤ 8
    → is_live (plugin_of (plugins (task_run t) past) p).state ≡ true → ask_of p noted ≡ waiting (task_run t) p h seen
still_noted t h seen past hart sets filters noted legal state ahead seated p one most live =
    let run = task_run t in
    elim (cases_Bool (is_with_hart (place_of run p h seen))) [
      | inr off ↦ seated.unasked p one most off
      | inl with ↦
          seated.asks p one most
          (live_before run p h ahead.more seen one (there_low run h seen seated.there) (others_of h ahead.more ahead.later)
          (subst (Legal run) ahead.begins legal) (subst (IsStateLog run) ahead.begins state) with
          (subst (λ (xs : List Item). is_live (plugin_of (plugins run xs) p).state ≡ true) ahead.begins live))
    ]

pub back_so : (s : StateValue) (h : ℕ) (seen : List Item) (hart : HartState) (sets : List Attachment) (filters : List (ℕ × SetSpec))
    (noted : List Ask) → InOrder s.task (stored_of s) → GoesOn (λ i. party i ≢ h) seen s.past
    → IsSeated s.task h seen hart sets filters noted → IsBack s.task h s.past hart sets filters noted
back_so s h seen hart sets filters noted order ahead seated =
    let t = s.task in
    let same = stays t h seen s.past order.legal order.state_log ahead seated.there in
    record {
      there = same.there ∙ seated.there;
      hart = λ awake. seated.hart ∙ sym (same.hart (ap (λ (x : HartState). x.parked) (sym seated.hart) ∙ awake));
      sets = seated.attached ∙ sym same.sets;
      specs = seated.specs ∙ sym same.specs;
      asks = λ p one most live.
          still_noted t h seen s.past hart sets filters noted order.legal order.state_log ahead seated p one most live
          ∙ sym (same.asks p one live);
    }

pub asleep_so : (s : StateValue) (h : ℕ) (seen : List Item) (hart : HartState) (sets : List Attachment) (filters : List (ℕ × SetSpec))
    (noted : List Ask) → GoesOn (λ i. party i ≢ h) seen s.past
    → IsSeated s.task h seen hart sets filters noted → hart.parked ≡ true → IsAsleep s.task h s.past hart
asleep_so s h seen hart sets filters noted ahead seated parked =
    let t = s.task in
    let wake = wakes t h seen s.past ahead seated.there (ap (λ (x : HartState). x.parked) (sym seated.hart) ∙ parked) in
    record {
      parked = parked;
      asleep = λ none. wake.asleep none ∙ sym seated.hart;
      woken = wake.woken;
    }

ahead_of : (h k : ℕ) (seen past : List Item) → k ≡ h → GoesOn (λ i. party i ≢ h) seen past → GoesOn (λ i. party i ≢ k) seen past
ahead_of h k seen past same = subst (λ (n : ℕ). GoesOn (λ i. party i ≢ n) seen past) (sym same)

gone_so : (h k : ℕ) (seen now : List Item) (t : Task) (old new : StateValue) (What : Task → List Item → List Item → Type 0)
    → k ≡ h → GoesOn (λ i. party i ≢ h) seen old.past → IsHold k old new → now ≡ new.past → t ≡ old.task
    → What new.task old.past new.past → HasGone k seen now (λ taken. What t taken now)
gone_so h k seen now t old new What same ahead hold past task what =
    subst (λ (xs : List Item). HasGone k seen xs (λ taken. What t taken xs)) (sym past)
    (record {
      taken = old.past;
      ahead = ahead_of h k seen old.past same ahead;
      own = hold.own;
      few = hold.few;
      what = subst (λ (x : Task). What x old.past new.past) (hold.task ∙ sym task) what;
    })

ok_then : (r : Result Hold NoMemory) (P Q : Hold → Type 0) → ((x : Hold) → P x → Q x) → IfOk r P → IfOk r Q
ok_then (Ok x) P Q f p = f x p
ok_then (Err e) P Q f p = tt

pub added_at : (h k : ℕ) (a b now : List Item) → k ≡ h → b ≡ a → GoesOn (λ i. party i ≡ h) a now → GoesOn (λ i. party i ≡ k) b now
added_at h k a b now same at added =
    subst (λ (y : ℕ × List Item). GoesOn (λ i. party i ≡ y.0) y.1 now) (λ i. (sym same i, sym at i)) added

pub regone : (h k : ℕ) (seen now : List Item) (P Q : List Item → Type 0) → k ≡ h → ((taken : List Item) → P taken → Q taken)
    → HasGone k seen now P → HasGone h seen now Q
regone h k seen now P Q same f gone =
    subst (λ (n : ℕ). HasGone n seen now Q) same
    (record { taken = gone.taken; ahead = gone.ahead; own = gone.own; few = gone.few; what = f gone.taken gone.what })

module _ {W : Type 0} where
  pub comes_still : (place : Option (Seat W)) (s : StateValue) (h : ℕ) (seen : List Item)
      → InOrder s.task (stored_of s) → GoesOn (λ i. party i ≢ h) seen s.past → MatchOption place ⊥ (Sits s.task h seen)
      → MatchOption place ⊥ (λ seat. seat.hart.parked ≡ false → IsSome seat.hart.ending) → MatchOption place ⊥ (ComesStill s)
  comes_still None s h seen order ahead sits still = sits
  comes_still (Some seat) s h seen order ahead sits still =
      let own = ahead_of h seat.no seen s.past sits.number ahead in
      record {
        back = back_so s seat.no seen seat.hart seat.attached seat.specs seat.asks.first order own sits.seated;
        asleep = asleep_so s seat.no seen seat.hart seat.attached seat.specs seat.asks.first own sits.seated;
        quiet = sits.seated.quiet;
        ended = still;
        begins = sits.seated.begins;
        below = sits.seated.below;
      }

  -- what the hart added is its party's
  pub adds_own : (place : Option (Seat W)) (t : Task) (h : ℕ) (seen : List Item) (old new : StateValue)
      → MatchOption place ⊥ (Sits t h seen) → MatchOption place ⊥ (λ seat. IsHold seat.no old new)
      → GoesOn (λ i. party i ≡ h) old.past new.past
  adds_own None t h seen old new sits hold = absurd sits
  adds_own (Some seat) t h seen old new sits hold = subst (λ (n : ℕ). GoesOn (λ i. party i ≡ n) old.past new.past) sits.number hold.own

  pub part_gone : (P : Hold → Task → List Item → List Item → Seat W → Type 0) (place : Option (Seat W)) (r : Result Hold NoMemory) (h : ℕ)
      (seen now : List Item) (t : Task) (old new : StateValue) → GoesOn (λ i. party i ≢ h) seen old.past → now ≡ new.past → t ≡ old.task
      → MatchOption place ⊥ (Sits old.task h seen) → MatchOption place ⊥ (λ seat. IsHold seat.no old new)
      → MatchOption place ⊥ (λ seat. IfOk r (λ hold. P hold new.task old.past new.past seat))
      → MatchOption place ⊥ (λ seat. IfOk r (λ hold. HasGone seat.no seen now (λ taken. P hold t taken now seat)))
  part_gone P None r h seen now t old new ahead past task sits hold part = sits
  part_gone P (Some seat) r h seen now t old new ahead past task sits hold part =
      ok_then r (λ x. P x new.task old.past new.past seat) (λ x. HasGone seat.no seen now (λ taken. P x t taken now seat))
      (λ x is. gone_so h seat.no seen now t old new (λ u taken past. P x u taken past seat) sits.number ahead hold past task is)
      part

  -- the seat after a hold, where there is one
  sits_again : (t : Task) (h : ℕ) (seen now : List Item) (old new : Seat W) → Sits t h seen old → KeepsLists old new
      → IsSeated t new.no now new.hart new.attached new.specs new.asks.first → Sits t h now new
  sits_again t h seen now old new sits keeps seated = record {
    number = keeps.number ∙ sits.number;
    seated = seated;
    image = ap (λ x. x.value) keeps.image ∙ sits.image;
    limit = keeps.limit ∙ sits.limit;
    kept = keeps.kept ∙ sits.kept;
  }

  still_there : (t : Task) (h : ℕ) (now : List Item) (seat : Seat W) → Sits t h now seat → is_there (task_run t) h now ≡ true
  still_there t h now seat sits = ap (λ (k : ℕ). is_there (task_run t) k now) (sym sits.number) ∙ sits.seated.there

  pub still_done : (hold : Hold) (place : Option (Seat W)) (seat : Seat W) (t : Task) (h : ℕ) (seen now : List Item)
      → Sits t h seen seat → HasGone seat.no seen now (λ taken. IsStillPart hold t taken now seat place)
      → IsDone (turned_of hold) t h seen now place
  still_done holds.Turned place seat t h seen now sits gone = absurd gone.what
  still_done holds.GaveBack None seat t h seen now sits gone = absurd gone.what
  still_done holds.GaveBack (Some new) seat t h seen now sits gone =
      let again : Sits t h now new = sits_again t h seen now seat new sits gone.what.1 gone.what.0.0 in
      record {
        gone = regone h seat.no seen now (λ taken. IsStillPart holds.GaveBack t taken now seat (Some new)) (IsTurned Went t h now)
            sits.number
            (λ taken is. (still_there t h now new again, is.0.1)) gone;
        waits = λ e. absurd cc;
        placed = again;
      }
  still_done holds.Waits None seat t h seen now sits gone = absurd gone.what
  still_done holds.Waits (Some new) seat t h seen now sits gone =
      let again : Sits t h now new = sits_again t h seen now seat new sits gone.what.1 gone.what.0.0 in
      record {
        gone = regone h seat.no seen now (λ taken. IsStillPart holds.Waits t taken now seat (Some new)) (IsTurned Waited t h now)
            sits.number
            (λ taken is. (still_there t h now new again, subst (λ (k : ℕ). GoesOn (IsGotBy k) taken now) again.number is.0.1)) gone;
        waits = λ e. ap (λ (k : ℕ). (hart_of t.machine t.mode seen k).parked) (sym sits.number)
            ∙ ap (λ (x : HartState). x.parked) (sym sits.seated.hart) ∙ gone.what.0.2;
        placed = again;
      }
  still_done holds.Leaves place seat t h seen now sits gone = record {
    gone = regone h seat.no seen now (λ taken. IsStillPart holds.Leaves t taken now seat place) (IsTurned turns.Left t h now) sits.number
        (λ taken is. subst (λ (k : ℕ). HasLeftThen k taken now) sits.number is.1) gone;
    waits = λ e. absurd cc;
    placed = gone.what.0;
  }

  -- where the hold of a seat came to something
  pub done_by : (place now_place : Option (Seat W)) (r : Result Hold NoMemory) (hold : Hold) (t : Task) (h : ℕ) (seen now : List Item)
      → r ≡ Ok hold → MatchOption place ⊥ (Sits t h seen)
      → MatchOption place ⊥ (λ seat. IfOk r (λ x. HasGone seat.no seen now (λ taken. IsStillPart x t taken now seat now_place)))
      → IsDone (turned_of hold) t h seen now now_place
  done_by None now_place r hold t h seen now is sits gone = absurd sits
  done_by (Some seat) now_place r hold t h seen now is sits gone =
      still_done hold now_place seat t h seen now sits
      (subst (λ (x : Result Hold NoMemory). IfOk x (λ x. HasGone seat.no seen now (λ taken. IsStillPart x t taken now seat now_place))) is
      gone)

  -- lists of the seat's sets
  pub lists_again : (kept : List KeptList) (old new : Seat W) → KeepsLists old new → HasLists kept old → HasLists kept new
  lists_again kept old new keeps are n d below =
      let is : IsList old.image.value old.generation old.specs (slice_index_or kept n d) = are n d below in
      let rises = keeps.rises in
      record {
        past = omega arith;
        same_sets = λ same. let e : new.generation ≡ old.generation = omega arith in
            let f : (slice_index_or kept n d).generation ≡ old.generation = omega arith in
            is.same_sets f ∙ sym (keeps.lists e);
        of_image = subst (λ (x : Program). IsBlock x (slice_index_or kept n d).list.block.pc (slice_index_or kept n d).list.block)
            (sym (ap (λ x. x.value) keeps.image)) is.of_image;
      }

  pub still_lists : (hold : Hold) (place : Option (Seat W)) (seat : Seat W) (t : Task) (taken now : List Item) (kept : List KeptList)
      → IsStillPart hold t taken now seat place → HasLists kept seat → MatchOption place (Unit {0}) (HasLists kept)
  still_lists holds.Turned place seat t taken now kept is are = absurd is
  still_lists holds.GaveBack None seat t taken now kept is are = tt
  still_lists holds.GaveBack (Some new) seat t taken now kept is are = lists_again kept seat new is.1 are
  still_lists holds.Waits None seat t taken now kept is are = tt
  still_lists holds.Waits (Some new) seat t taken now kept is are = lists_again kept seat new is.1 are
  still_lists holds.Leaves place seat t taken now kept is are =
      subst (λ (x : Option (Seat W)). MatchOption x (Unit {0}) (HasLists kept)) (sym is.0) tt

  pub lists_by : (place now_place : Option (Seat W)) (r : Result Hold NoMemory) (hold : Hold) (o : Option Task) (seen now : List Item)
      → r ≡ Ok hold → IsSome o → ((t : Task) → o ≡ Some t → MatchOption place ⊥
      (λ seat. IfOk r (λ x. HasGone seat.no seen now (λ taken. IsStillPart x t taken now seat now_place))))
      → (kept : List KeptList) → MatchOption place ⊥ (HasLists kept) → MatchOption now_place (Unit {0}) (HasLists kept)
  lists_by None now_place r hold o seen now is some gone kept are = absurd are
  lists_by (Some seat) now_place r hold None seen now is some gone kept are = absurd (false≢true some)
  lists_by (Some seat) now_place r hold (Some t) seen now is some gone kept are =
      let done = subst (λ (x : Result Hold NoMemory). IfOk x (λ x. HasGone seat.no seen now (λ taken. IsStillPart x t taken now seat
      now_place)))
      is (gone t refl) in
      still_lists hold now_place seat t done.taken now kept done.what are

  -- a seat whose hart has gone ahead
  pub comes_ahead : (place : Option (Seat W)) (s : StateValue) (h : ℕ) (seen : List Item) (ahead : Ahead)
      → InOrder s.task (stored_of s) → GoesOn (λ i. party i ≢ h) seen s.past → MatchOption place ⊥ (Sits s.task h seen)
      → MatchOption place ⊥ (λ seat. IsAhead seat ahead) → MatchOption place ⊥ (λ seat. ComesAhead s seat ahead)
  comes_ahead None s h seen ahead order since sits may = sits
  comes_ahead (Some seat) s h seen ahead order since sits may =
      record {
        back = back_so s seat.no seen seat.hart seat.attached seat.specs seat.asks.first order
            (ahead_of h seat.no seen s.past sits.number since) sits.seated;
        awake = may.awake;
        running = may.running;
        begins = sits.seated.begins may.running;
        below = sits.seated.below may.running;
        image = sits.image;
        ran = subst (λ (y : Program × ℕ). IsPrivateTurn y.0 y.1 seat.no ahead.ran seat.hart ahead.hart seat.raw.events)
            (λ i. (sits.image i, sits.limit i)) may.ran;
      }
