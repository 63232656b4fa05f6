-- A party takes the closing of a plug-in that is complete, tells its closer, and records the Done.
use Rattle.std.proofs.Common.{◌≡◌, ◌==◌, ◌+◌, ◌-◌, ◌<◌, ◌∷◌, [], ◌++◌, ◌&&◌, ◌∙◌, ℕ, zero, suc, Bool, true, false, not, List, Some, None}
use Rattle.std.proofs.Common.{refl, sym, ap, subst, arith, inl, length, map, cond}
use Rattle.std.specs.Prelude.{is_some, slice_index_or, slice_set, if◌then◌else◌, Option}
use Rattle.std.specs.List.{count_by}
use Rattle.std.specs.List.Sorted.{IsNonDecreasingBy}
use Rattle.std.proofs.lemmas.Bool.Decides.{nat_tests}
use Rattle.std.proofs.lemmas.List.{map-append}
use Rattle.std.proofs.lemmas.List.Sums.{sum_by-cons}
use Rattle.flat_model.specs.declared.journals.Item.{Item}
use Rattle.flat_model.specs.declared.journals.Item.TheVariants.{Told, Took}
use Rattle.flat_model.specs.declared.journals.PlugState.{PlugState}
use Rattle.flat_model.specs.declared.journals.PlugState.TheVariants.{Live, Idle, Resetting, Leaving, Gone}
use Rattle.flat_model.specs.Registry.{Plugin, no_plugin, plugin_of, registry, is_installed, is_closing, is_complete, has_left, done_state}
use Rattle.watcher_api.specs.Heard.{Heard}
use Rattle.watcher_api.specs.declared.closers.Returned.{Returned}
use Rattle.run_rules.specs.Guest.{Run, plugins}
use Rattle.run_rules.specs.Heard.{progress}
use Rattle.run_rules.specs.Due.{wanted, next_line, start_orders, line_party}
use Rattle.run_rules.specs.Legal.{Legal, passes_nothing_by}
use Rattle.run_rules.specs.Places.{StateRule, taker}
use Rattle.run_rules.proofs.Turns.{first_true, rest_true}
use Rattle.run_order.specs.InOrder.{Task, task_run}
use Rattle.run_order.specs.Sets.{Notice, as_notice, notice_of, notices_of}
use Rattle.kept_order.specs.Closing.{is_due}
use Rattle.kept_order.proofs.Unplanned.{wants_none}
use Rattle.host_state.specs.State.{StateValue}
use Rattle.run_rules.proofs.Fitting.{installed_from, installed_within}
use Rattle.baton_gate.specs.Logs.{GoesOn}
use Rattle.kept_order.proofs.Seats.{left_is_left}
use Rattle.std.proofs.lemmas.List.Elements.{All-nil, All-cons}
use Rattle.host_core.specs.Settling.{MaySettle, HasTold, IsSettledBy}

module _ (run : Run) (by plugin : ℕ) (past : List Item) where
  abbrev taken : List Item
  taken = Took by plugin ∷ past

  abbrev told : List Item
  told = Told by plugin ∷ taken

  took_wants : wanted run taken ≡ wanted run past
  unfolding wanted next_line start_orders line_party registry
  took_wants = refl

  told_wants : IsNonDecreasingBy (λ t. t.when) run.plan.script → wanted run past ≡ None → wanted run told ≡ None
  unfolding next_line start_orders
  told_wants rising none = wants_none run taken told rising refl refl (took_wants ∙ none)

  all_three : (a b c : Bool) → a ≡ true → b ≡ false → c ≡ true → (a && (not b && c)) ≡ true
  all_three true false true one two three = refl
  all_three false b c one two three = one
  all_three true true c one two three = sym two
  all_three true false false one two three = three

  complete_if : is_due run plugin past ≡ true → is_complete (plugins run past) plugin ≡ true
  complete_if due = first_true (is_complete (plugins run past) plugin) (not (is_some (taker plugin past))) due

  legal_told : Legal run past → is_due run plugin past ≡ true → has_left (plugins run past) by ≡ false → wanted run past ≡ None
      → Legal run told
  unfolding Legal registry
  legal_told legal due there none = (
    (legal, tt),
    all_three (is_complete (plugins run past) plugin) (has_left (plugins run past) by) (passes_nothing_by run taken) (complete_if due) there
        (ap (λ (o : Option Item). not (is_some o)) (took_wants ∙ none)),
  )

  by_taker : StateRule run (Told by plugin) taken
  unfolding taker
  by_taker =
      let same : (plugin == plugin) ≡ true = grind (arith, nat_tests) in
      inl (ap (λ (b : Bool). if b then Some by else taker plugin past) same)

  same_notices : notices_of run plugin past ++ notice_of run plugin past ∷ []
      ≡ notices_of run plugin taken ++ notice_of run plugin taken ∷ []
  unfolding notices_of registry progress
  same_notices = refl

  there_still : has_left (plugins run told) by ≡ has_left (plugins run past) by
  unfolding registry
  there_still = refl

-- in the words of a state and of the one that a take left
module _ (by plugin : ℕ) (s now : StateValue) (past : now.past ≡ Took by plugin ∷ s.past) (task : now.task ≡ s.task) where
  pub may_be_told : Legal (task_run s.task) s.past → is_due (task_run s.task) plugin s.past ≡ true → MaySettle by s
      → Legal (task_run now.task) (Told by plugin ∷ now.past)
  may_be_told legal due may =
      let P : Task × List Item → Type 0 = λ y. Legal (task_run y.0) (Told by plugin ∷ y.1) in
      subst P (λ i. (sym task i, sym past i)) (legal_told (task_run s.task) by plugin s.past legal due may.there may.caught_up)

  pub is_taker : StateRule (task_run now.task) (Told by plugin) now.past
  is_taker =
      let P : Task × List Item → Type 0 = λ y. StateRule (task_run y.0) (Told by plugin) y.1 in
      subst P (λ i. (sym task i, sym past i)) (by_taker (task_run s.task) by plugin s.past)

  -- what the closer has, once it was told
  pub closer_told : (given had : List (Returned Heard)) (back : Returned Heard) → had ≡ given ++ back ∷ []
      → map as_notice given ≡ notices_of (task_run s.task) plugin s.past → as_notice back ≡ notice_of (task_run s.task) plugin s.past
      → map as_notice had ≡ notices_of (task_run now.task) plugin now.past ++ notice_of (task_run now.task) plugin now.past ∷ []
  closer_told given had back is notices next =
      let P : Task × List Item → List Notice =
      λ y. notices_of (task_run y.0) plugin y.1 ++ notice_of (task_run y.0) plugin y.1 ∷ [] in
      ap (map as_notice) is ∙ map-append as_notice given (back ∷ [])
      ∙ ap (λ (xs : List Notice). xs ++ as_notice back ∷ []) notices
      ∙ ap (λ (n : Notice). notices_of (task_run s.task) plugin s.past ++ n ∷ []) next
      ∙ same_notices (task_run s.task) by plugin s.past
      ∙ ap P (λ i. (sym task i, sym past i))

  pub may_again : IsNonDecreasingBy (λ t. t.when) s.task.plan.script → MaySettle by s → (new : StateValue)
      → new.past ≡ Told by plugin ∷ now.past → new.task ≡ now.task → new.short ≡ s.short → MaySettle by new
  may_again rising may new is same short =
      let run = task_run s.task in
      let after : new.past ≡ told run by plugin s.past = is ∙ ap (λ (xs : List Item). Told by plugin ∷ xs) past in
      let tasks : new.task ≡ s.task = same ∙ task in
      let P : Task × List Item → Type 0 =
      λ y. (wanted (task_run y.0) y.1 ≡ None) × (has_left (plugins (task_run y.0) y.1) by ≡ false) in
      let both = subst P (λ i. (sym tasks i, sym after i))
      (told_wants run by plugin s.past rising may.caught_up, there_still run by plugin s.past ∙ may.there) in
      record { open_now = short ∙ may.open_now; caught_up = both.0; there = both.1 }

-- how many plug-ins are being withdrawn
abbrev pub closings : List Plugin → ℕ
closings ps = count_by (λ p. is_closing p.state) ps

one : Bool → ℕ
one b = cond b 1 0

fewer_by : (ps : List Plugin) (k : ℕ) (x : Plugin) → k < length ps → is_closing (slice_index_or ps k no_plugin).state ≡ true
    → is_closing x.state ≡ false → closings (slice_set ps k x) < closings ps
unfolding one
fewer_by [] k x low was is = absurd (omega (arith, low))
fewer_by (p ∷ ps) zero x low was is =
    let old = sum_by-cons (λ (q : Plugin). cond (is_closing q.state) 1 0) p ps in
    let new = sum_by-cons (λ (q : Plugin). cond (is_closing q.state) 1 0) x ps in
    let here : cond (is_closing p.state) 1 0 ≡ 1 = ap one was in
    let gone : cond (is_closing x.state) 1 0 ≡ 0 = ap one is in
    omega (arith, old, new, here, gone)
fewer_by (p ∷ ps) (suc k) x low was is =
    let old = sum_by-cons (λ (q : Plugin). cond (is_closing q.state) 1 0) p ps in
    let new = sum_by-cons (λ (q : Plugin). cond (is_closing q.state) 1 0) p (slice_set ps k x) in
    omega (arith, old, new, fewer_by ps k x (omega (arith, low)) was is)

closed_then : (state : PlugState) → is_closing (done_state state) ≡ false
closed_then Live = refl
closed_then Idle = refl
closed_then Resetting = refl
closed_then Leaving = refl
closed_then Gone = refl

-- a withdrawal that is done leaves one plug-in fewer that is being withdrawn
fewer_told : (run : Run) (by plugin : ℕ) (past : List Item) → is_complete (plugins run past) plugin ≡ true
    → closings (plugins run (Told by plugin ∷ Took by plugin ∷ past)).plugins < closings (plugins run past).plugins
unfolding registry
fewer_told run by plugin past complete =
    let r = plugins run past in
    let p = plugin_of r plugin in
    let there : is_installed r plugin ≡ true = first_true (is_installed r plugin) _ complete in
    fewer_by r.plugins (plugin - 1) (record p { state = done_state p.state })
    (omega (arith, installed_from r plugin there, installed_within r plugin there))
    (first_true (is_closing p.state) _ (rest_true (is_installed r plugin) _ complete)) (closed_then p.state)

-- as the measure of the states
abbrev pub left_to_settle : StateValue → ℕ
left_to_settle s = closings (plugins (task_run s.task) s.past).plugins

pub fewer_left : (by : ℕ) (old new : StateValue) → HasTold by old new → new.task ≡ old.task → left_to_settle new < left_to_settle old
fewer_left by old new told same =
    let P : Task × List Item → Type 0 = λ y. closings (plugins (task_run y.0) y.1).plugins < left_to_settle old in
    subst P (λ i. (sym same i, sym told.past i)) (fewer_told (task_run old.task) by told.plugin old.past told.complete)

-- In the words of the states between the calls of a settle.

-- room alone was taken
pub may_kept : (by : ℕ) (s now : StateValue) → now.short ≡ s.short → now.task ≡ s.task → now.past ≡ s.past → MaySettle by s
    → MaySettle by now
may_kept by s now short task past may =
    let P : Task × List Item → Type 0 =
    λ y. (wanted (task_run y.0) y.1 ≡ None) × (has_left (plugins (task_run y.0) y.1) by ≡ false) in
    let both = subst P (λ i. (sym task i, sym past i)) (may.caught_up, may.there) in
    record { open_now = short ∙ may.open_now; caught_up = both.0; there = both.1 }

pub has_told : (by plugin : ℕ) (s room out now : StateValue) → room.task ≡ s.task → room.past ≡ s.past
    → is_due (task_run room.task) plugin room.past ≡ true → out.past ≡ Took by plugin ∷ room.past
    → now.past ≡ Told by plugin ∷ out.past → HasTold by s now
has_told by plugin s room out now task past due took told =
    let P : Task × List Item → Type 0 = λ y. is_due (task_run y.0) plugin y.1 ≡ true in
    record {
      plugin = plugin;
      complete = complete_if (task_run s.task) by plugin s.past (subst P (λ i. (task i, past i)) due);
      past = told ∙ ap (λ (xs : List Item). Told by plugin ∷ xs) (took ∙ ap (λ (xs : List Item). Took by plugin ∷ xs) past);
    }

-- what every hart has left stays so
pub left_kept : (s now : StateValue) (by : ℕ) → now.task ≡ s.task → GoesOn (IsSettledBy by) s.past now.past
    → ((h : ℕ) → h < s.task.machine.harts → has_left (plugins (task_run s.task) s.past) h ≡ true)
    → (h : ℕ) → h < now.task.machine.harts → has_left (plugins (task_run now.task) now.past) h ≡ true
left_kept s now by task more left =
    let P : Task × List Item → Type 0 = λ y. (h : ℕ) → h < y.0.machine.harts → has_left (plugins (task_run y.0) y.1) h ≡ true in
    subst P (λ i. (sym task i, sym more.begins i))
    (λ h low. left_is_left (task_run s.task) h more.more s.past (left h low))

-- one settle more
pub goes_on_told : (by : ℕ) (first s now : StateValue) → GoesOn (IsSettledBy by) first.past s.past → HasTold by s now
    → GoesOn (IsSettledBy by) first.past now.past
goes_on_told by first s now so_far told = record {
  more = Told by told.plugin ∷ Took by told.plugin ∷ so_far.more;
  begins = told.past ∙ ap (λ (xs : List Item). Told by told.plugin ∷ Took by told.plugin ∷ xs) so_far.begins;
  later = All-cons (IsSettledBy by) (Told by told.plugin) (Took by told.plugin ∷ so_far.more) refl
      (All-cons (IsSettledBy by) (Took by told.plugin) so_far.more refl so_far.later);
}

pub goes_nowhere : (by : ℕ) (s : StateValue) → GoesOn (IsSettledBy by) s.past s.past
goes_nowhere by s = record { more = []; begins = refl; later = All-nil (IsSettledBy by) }

pub goes_the_same : (by : ℕ) (first s now : StateValue) → GoesOn (IsSettledBy by) first.past s.past → now.past ≡ s.past
    → GoesOn (IsSettledBy by) first.past now.past
goes_the_same by first s now so_far same =
    subst (λ (xs : List Item). GoesOn (IsSettledBy by) first.past xs) (sym same) so_far
