-- A replay before any hold.
use Rattle.std.proofs.Common.{◌≡◌, ◌+◌, ◌<◌, ◌≤◌, ◌∷◌, [], ◌++◌, ◌∙◌, ℕ, zero, suc, true, false, List, Option, Some, None, refl, sym, ap, subst}
use Rattle.std.proofs.Common.{length, map, inl, inr, arith}
use Rattle.std.specs.Prelude.{MatchOption, slice_index_or, is_some}
use Rattle.std.specs.List.Sorted.{IsNonDecreasingBy}
use Rattle.std.proofs.lemmas.Bool.{false≢true, and_right}
use Rattle.std.proofs.lemmas.List.Elements.{All-nil}
use Rattle.flat_model.specs.declared.plugins.SetSpec.{SetSpec}
use Rattle.flat_model.specs.declared.limits.TheConstants.{NO_PARTY}
use Rattle.flat_model.specs.declared.journals.Item.{Item}
use Rattle.flat_model.specs.declared.journals.Item.TheVariants.{Step, Ordered, GaveBack, Left, Told, Got, Took}
use Rattle.flat_model.specs.declared.journals.Order.TheVariants.{Install}
use Rattle.flat_model.specs.declared.journals.Origin.TheVariants.{Start, Script, Asked, Control}
use Rattle.flat_model.specs.Image.{Program}
use Rattle.flat_model.specs.Log.{log, log_from}
use Rattle.flat_model.specs.Registry.{plugin_of, is_closing}
use Rattle.block_finder.specs.Caches.{MayServe}
use Rattle.instr_lists.specs.declared.kept_lists.KeptList.{KeptList}
use Rattle.plug_registry.specs.Installs.{start_order}
use Rattle.baton_gate.specs.Logs.{GoesOn}
use Rattle.run_rules.specs.Guest.{Run, plugins}
use Rattle.run_rules.specs.Due.{wanted}
use Rattle.run_rules.specs.Legal.{Legal}
use Rattle.run_rules.specs.Places.{IsStateLog, taker}
use Rattle.run_order.specs.Sets.{is_closing_out}
use Rattle.run_order.specs.InOrder.{Task, InOrder, task_run}
use Rattle.host_state.specs.Scripting.{IsLineOf}
use Rattle.host_state.specs.State.{StateValue, stored_of, IsWithinLimits, IsCaughtUp}
use Rattle.replay_order.proofs.Openings.{first_seats_sit}
use Rattle.run_replay.specs.declared.berths.Berth.{Berth}
use Rattle.run_replay.specs.First.{IsFirstBerth}
use Rattle.run_replay.specs.Following.{seating_of, IsPlaced, IsFollowing}
use Rattle.run_replay.specs.Lists.{IsList, AreLists}
use Rattle.run_replay.proofs.Closings.{NoneOut, none_out_lines}
use Rattle.run_replay.proofs.Orders.{lines_keep_place}

abbrev starts_of : Task → List Item
starts_of t = log (map start_order t.plan.installs)

-- start orders take no closing
untaken : (p : ℕ) (past : List Item) (specs : List SetSpec) → taker p past ≡ None → taker p (log_from past (map start_order specs)) ≡ None
unfolding taker
untaken p past [] is = is
untaken p past (spec ∷ specs) is = untaken p (Ordered Start (Install spec) ∷ past) specs is

none_taken : (p : ℕ) (specs : List SetSpec) → taker p (log (map start_order specs)) ≡ None
unfolding taker
none_taken p specs = untaken p [] specs refl

none_out : (t : Task) (p : ℕ) (past : List Item) → past ≡ starts_of t → is_closing_out (task_run t) p past ≡ false
none_out t p past is =
    and_right (is_closing (plugin_of (plugins (task_run t) past) p).state) (is_some (taker p past))
    (ap (λ (xs : List Item). is_some (taker p xs)) is ∙ ap is_some (none_taken p t.plan.installs))

wants_none : (s : StateValue) → s.short ≡ false → IsCaughtUp s → wanted (task_run s.task) s.past ≡ None
wants_none s recording (inl short) = absurd (false≢true (sym recording ∙ short))
wants_none s recording (inr none) = none

module _ {W : Type 0} where
  placed_first : (t : Task) (h : ℕ) (past : List Item) (b : Option (Berth W)) → IsWithinLimits t.machine → h < t.machine.harts
      → past ≡ starts_of t → MatchOption b ⊥ (IsFirstBerth t.machine.image t.machine.harts t.mode h) → IsPlaced t h past b
  placed_first t h past None limits low is first = absurd first
  placed_first t h past (Some b) limits low is first = record {
    sits = first_seats_sit t h past (seating_of b) limits.some_step low is
        (record { hart = first.hart_is; sets = first.no_sets; filters = first.no_specs; asks = first.no_asks });
    kept = first.stores;
    cached = subst (λ (xs : List KeptList). AreLists t.machine.image b.generation b.specs xs) (sym first.no_lists)
        (All-nil (IsList t.machine.image b.generation b.specs));
  }

  -- and once the lines stand that are due before any step
  placed_behind : (t : Task) (h : ℕ) (past : List Item) (b : Option (Berth W)) → IsWithinLimits t.machine → h < t.machine.harts
      → GoesOn (IsLineOf NO_PARTY) (starts_of t) past → Legal (task_run t) past → IsStateLog (task_run t) past
      → MatchOption b ⊥ (IsFirstBerth t.machine.image t.machine.harts t.mode h) → IsPlaced t h past b
  placed_behind t h past b limits low lines legal state first =
      subst (λ (xs : List Item). IsPlaced t h xs b) (sym lines.begins)
      (lines_keep_place t h NO_PARTY lines.more (starts_of t) b low lines.later (subst (Legal (task_run t)) lines.begins legal)
      (subst (IsStateLog (task_run t)) lines.begins state) (placed_first t h (starts_of t) b limits low refl first))

  follows_first : (s : StateValue) (berths : List (Option (Berth W))) (blocks : Option Program)
      → GoesOn (IsLineOf NO_PARTY) (starts_of s.task) s.past → InOrder s.task (stored_of s) → IsCaughtUp s → s.short ≡ false
      → IsNonDecreasingBy (λ t. t.when) s.task.plan.script → IsWithinLimits s.task.machine
      → length berths ≡ s.task.machine.harts → ((h : ℕ) → h < s.task.machine.harts
      → MatchOption (slice_index_or berths h None) ⊥ (IsFirstBerth s.task.machine.image s.task.machine.harts s.task.mode h))
      → blocks ≡ None → IsFollowing s berths blocks
  follows_first s berths blocks lines order caught recording rising limits count first fresh =
      let run = task_run s.task in
      let none : NoneOut run (lines.more ++ starts_of s.task) =
      none_out_lines run NO_PARTY lines.more (starts_of s.task) lines.later (subst (Legal run) lines.begins order.legal)
      (subst (IsStateLog run) lines.begins order.state_log) (λ p. none_out s.task p (starts_of s.task) refl) in
      record {
        open_now = recording;
        rising = rising;
        caught_up = wants_none s recording caught;
        none_out = subst (NoneOut run) (sym lines.begins) none;
        count = count;
        places = λ h low. placed_behind s.task h s.past (slice_index_or berths h None) limits low lines order.legal order.state_log
            (first h low);
        serves = subst (λ (b : Option Program). MayServe b s.task.machine.image) (sym fresh) tt;
      }

  pub opened_first : (t : Task) (s : StateValue) (berths : List (Option (Berth W))) (blocks : Option Program) → s.task ≡ t
      → GoesOn (IsLineOf NO_PARTY) (starts_of t) s.past → InOrder s.task (stored_of s) → IsCaughtUp s → s.short ≡ false
      → IsNonDecreasingBy (λ t. t.when) s.task.plan.script → IsWithinLimits t.machine
      → length berths ≡ t.machine.harts → ((h : ℕ) → h < t.machine.harts
      → MatchOption (slice_index_or berths h None) ⊥ (IsFirstBerth t.machine.image t.machine.harts t.mode h))
      → blocks ≡ None → IsFollowing s berths blocks
  opened_first t s berths blocks task lines order caught recording rising limits count first fresh =
      let back = sym task in
      follows_first s berths blocks (subst (λ (u : Task). GoesOn (IsLineOf NO_PARTY) (starts_of u) s.past) back lines) order caught
      recording rising (subst (λ (u : Task). IsWithinLimits u.machine) back limits)
      (subst (λ (u : Task). length berths ≡ u.machine.harts) back count)
      (subst (λ (u : Task). (h : ℕ) → h < u.machine.harts
      → MatchOption (slice_index_or berths h None) ⊥ (IsFirstBerth u.machine.image u.machine.harts u.mode h)) back first) fresh

-- one more, at the end
pub more_placed : {A : Type 0} (P : ℕ → A → Type 0) (xs : List (Option A)) (a : A)
    → ((h : ℕ) → h < length xs → MatchOption (slice_index_or xs h None) ⊥ (P h)) → P (length xs) a
    → (h : ℕ) → h < length xs + 1 → MatchOption (slice_index_or (xs ++ Some a ∷ []) h None) ⊥ (P h)
more_placed P [] a old new zero low = new
more_placed P [] a old new (suc h) low = absurd (omega (arith, low))
more_placed P (x ∷ xs) a old new zero low = old zero (omega arith)
more_placed P (x ∷ xs) a old new (suc h) low =
    let next : length (x ∷ xs) ≡ suc (length xs) = omega arith in
    more_placed (λ k. P (suc k)) xs a (λ k below. old (suc k) (omega (arith, below))) (subst (λ (n : ℕ). P n a) next new) h
    (omega (arith, low))
