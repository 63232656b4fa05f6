-- A Done that a replay makes: it takes the closing by a number of its own, tells the closer, and records the party's Done.
use Rattle.std.proofs.Common.{◌≡◌, ◌&&◌, ◌+◌, ◌≤◌, ◌<◌, ◌∷◌, [], ◌++◌, ◌∙◌, ℕ, Bool, true, false, not, List, None, Some, Option}
use Rattle.std.proofs.Common.{refl, sym, ap, subst, arith, inr, map}
use Rattle.std.specs.Cmp.Derive.{both_true}
use Rattle.std.proofs.lemmas.Bool.{false≢true, and_right}
use Rattle.std.proofs.lemmas.List.{map-append}
use Rattle.flat_model.specs.declared.journals.Item.{Item}
use Rattle.flat_model.specs.declared.journals.Item.TheVariants.{Told, Took}
use Rattle.flat_model.specs.Registry.{Plugins, registry, is_complete, is_installed, has_left}
use Rattle.watcher_api.specs.Heard.{Heard}
use Rattle.watcher_api.specs.declared.closers.Returned.{Returned}
use Rattle.run_rules.specs.Guest.{Run, plugins}
use Rattle.run_rules.specs.Heard.{progress}
use Rattle.run_rules.specs.Due.{wanted}
use Rattle.run_rules.specs.Legal.{Legal, Rule}
use Rattle.run_rules.specs.Places.{StateRule, replaying}
use Rattle.run_rules.proofs.Fitting.{complete}
use Rattle.run_rules.proofs.Turns.{first_true, rest_true}
use Rattle.run_order.specs.InOrder.{Task, InOrder, task_run}
use Rattle.run_order.specs.Sets.{Notice, as_notice, notice_of, notices_of, is_closing_out}
use Rattle.kept_order.specs.Closing.{is_due}
use Rattle.kept_order.proofs.Withdrawals.{plugins_are_few}
use Rattle.host_state.specs.State.{StateValue, stored_of}
use Rattle.run_replay.specs.Recording.{HasRecorded}
use Rattle.run_replay.proofs.Dones.{may_tell_then, taker_then, due_then, installed_few}

was_not : (b : Bool) → not b ≡ true → b ≡ false
was_not true is = absurd (false≢true is)
was_not false is = refl

-- by the registry that the state shows
module _ (s : StateValue) (party plugin : ℕ) (order : InOrder s.task (stored_of s)) where
  abbrev shows : Bool
  shows = is_complete s.registry.table plugin && not (has_left s.registry.table party)

  in_log : shows ≡ (is_complete (plugins (task_run s.task) s.past) plugin && not (has_left (plugins (task_run s.task) s.past) party))
  in_log = ap (λ (r : Plugins). is_complete r plugin && not (has_left r party)) order.plugins

  pub untold : false ≡ shows → Rule (task_run s.task) (Told party plugin) s.past → ⊥
  untold off rule =
      let r = plugins (task_run s.task) s.past in
      let rest = rest_true (is_complete r plugin) _ rule in
      false≢true (off ∙ in_log ∙ both_true (first_true (is_complete r plugin) _ rule) (first_true (not (has_left r party)) _ rest))

  pub is_ready : true ≡ shows → is_complete (plugins (task_run s.task) s.past) plugin ≡ true
  is_ready on = first_true _ _ (sym in_log ∙ sym on)

  pub has_stayed : true ≡ shows → has_left (plugins (task_run s.task) s.past) party ≡ false
  has_stayed on = was_not (has_left (plugins (task_run s.task) s.past) party) (rest_true _ _ (sym in_log ∙ sym on))

  pub number_few : true ≡ shows → plugin ≤ 8
  number_few on = installed_few (task_run s.task) plugin s.past order.legal (is_ready on)

  pub may_take : true ≡ shows → ((p : ℕ) → is_closing_out (task_run s.task) p s.past ≡ false) → is_due (task_run s.task) plugin s.past ≡ true
  may_take on none = due_then (task_run s.task) plugin s.past (is_ready on) (none plugin)

same_notices : (run : Run) (by plugin : ℕ) (past : List Item) → notices_of run plugin past ++ notice_of run plugin past ∷ []
    ≡ notices_of run plugin (Took by plugin ∷ past) ++ notice_of run plugin (Took by plugin ∷ past) ∷ []
unfolding notices_of registry progress
same_notices run by plugin past = refl

legal_then : (run : Run) (party by plugin : ℕ) (past : List Item) → Legal run past → is_complete (plugins run past) plugin ≡ true
    → has_left (plugins run past) party ≡ false → wanted run past ≡ None → Legal run (Told party plugin ∷ Took by plugin ∷ past)
unfolding Legal
legal_then run party by plugin past legal is there none = ((legal, tt), may_tell_then run by plugin past party is there none)

-- in the words of a state and of the one that the take left
module _ (party by plugin : ℕ) (s now : StateValue) (past : now.past ≡ Took by plugin ∷ s.past) (task : now.task ≡ s.task) where
  carried : (P : Task → List Item → Type 0) → P s.task (Took by plugin ∷ s.past) → P now.task now.past
  carried P is = subst (λ (t : Task). P t now.past) (sym task) (subst (P s.task) (sym past) is)

  pub may_be_told : Legal (task_run s.task) s.past → is_complete (plugins (task_run s.task) s.past) plugin ≡ true
      → has_left (plugins (task_run s.task) s.past) party ≡ false → wanted (task_run s.task) s.past ≡ None
      → Legal (task_run now.task) (Told party plugin ∷ now.past)
  may_be_told legal is there none =
      carried (λ t log. Legal (task_run t) (Told party plugin ∷ log))
      (legal_then (task_run s.task) party by plugin s.past legal is there none)

  pub by_taker : by ≡ replaying plugin → StateRule (task_run now.task) (Told party plugin) now.past
  by_taker is =
      carried (λ t log. StateRule (task_run t) (Told party plugin) log)
      (inr (taker_then (task_run s.task) by plugin s.past ∙ ap Some is))

  -- what the closer has, once it was told
  pub closer_told : (given had : List (Returned Heard)) (back : Returned Heard) → had ≡ given ++ back ∷ []
      → map as_notice given ≡ notices_of (task_run s.task) plugin s.past → as_notice back ≡ notice_of (task_run s.task) plugin s.past
      → map as_notice had ≡ notices_of (task_run now.task) plugin now.past ++ notice_of (task_run now.task) plugin now.past ∷ []
  closer_told given had back is notices next =
      let P : Task × List Item → List Notice =
      λ y. notices_of (task_run y.0) plugin y.1 ++ notice_of (task_run y.0) plugin y.1 ∷ [] in
      ap (map as_notice) is ∙ map-append as_notice given (back ∷ [])
      ∙ ap (λ (xs : List Notice). xs ++ as_notice back ∷ []) notices
      ∙ ap (λ (n : Notice). notices_of (task_run s.task) plugin s.past ++ n ∷ []) next
      ∙ same_notices (task_run s.task) by plugin s.past
      ∙ ap P (λ i. (sym task i, sym past i))

  pub is_told : (new : StateValue) → by ≡ replaying plugin → new.past ≡ Told party plugin ∷ now.past → new.task ≡ now.task
      → new.short ≡ s.short → InOrder new.task (stored_of new)
      → HasRecorded (Told party plugin ∷ Took (replaying plugin) plugin ∷ s.past) s new
  is_told new is told same short order = record {
    task = same ∙ task;
    open_now = short;
    past = told ∙ ap (λ (xs : List Item). Told party plugin ∷ xs) past
        ∙ ap (λ (k : ℕ). Told party plugin ∷ Took k plugin ∷ s.past) is;
    order = order;
  }
