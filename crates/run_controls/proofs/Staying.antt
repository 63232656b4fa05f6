-- A closing that a party has in hand is the one that the log says while the log goes on, until the party records its Done.
use Rattle.std.proofs.Common.{◌≡◌, ◌==◌, ◌&&◌, ◌-◌, ◌<◌, ◌≤◌, ◌∷◌, [], ◌++◌, ◌∙◌, ℕ, zero, suc, Bool, true, false, not, List}
use Rattle.std.proofs.Common.{Option, Some, None, refl, sym, ap, subst, arith, inl, inr, nat_lt, length, map}
use Rattle.std.specs.Prelude.{if◌then◌else◌, slice_index_or, slice_set, slice_get, is_some, MatchOption, All}
use Rattle.std.specs.List.{flat_map, list_any}
use Rattle.std.specs.Cmp.Derive.{both_true}
use Rattle.std.proofs.lemmas.Bool.{cases_Bool, false≢true, ltb-true, ltb-false, lt-ltb, le-leb, or_parts}
use Rattle.std.proofs.lemmas.Option.{same_Some}
use Rattle.std.proofs.lemmas.List.Elements.{All-head, All-tail}
use Rattle.flat_model.specs.declared.plugins.SetSpec.{SetSpec}
use Rattle.flat_model.specs.declared.journals.How.{How}
use Rattle.flat_model.specs.declared.journals.Item.{Item}
use Rattle.flat_model.specs.declared.journals.Item.TheVariants.{Step, Ordered, GaveBack, Left, Told, Got, Took}
use Rattle.flat_model.specs.declared.journals.Order.{Order}
use Rattle.flat_model.specs.declared.journals.Order.TheVariants.{Install, Register, Reset, Uninstall}
use Rattle.flat_model.specs.declared.journals.PlugState.{PlugState}
use Rattle.flat_model.specs.declared.journals.PlugState.TheVariants.{Live, Idle, Resetting, Leaving, Gone}
use Rattle.flat_model.specs.Registry.{Plugins, Plugin, no_plugin, plugin_of, sets_of, is_installed, registry, after_order, is_closing}
use Rattle.flat_model.specs.Registry.{is_complete, is_withdrawing, owes, with_set, without_hart, done_state, next_state}
use Rattle.flat_model.specs.Registry.{withdraws as takes_back}
use Rattle.watcher_api.specs.Attachment.{Attachment}
use Rattle.run_rules.specs.Guest.{Run, plugins}
use Rattle.run_rules.specs.Due.{allowed}
use Rattle.run_rules.specs.Heard.{progress, no_set, is_live, is_listening}
use Rattle.run_rules.specs.Legal.{Legal, Rule}
use Rattle.run_rules.specs.Places.{IsStateLog, StateRule, taker, replaying, withdraws}
use Rattle.run_rules.proofs.Endings.{last_sets_listen_while_live}
use Rattle.run_rules.proofs.Fitting.{Admits, register_admitted, reset_admitted, uninstall_admitted, beyond, complete, number_is}
use Rattle.run_rules.proofs.Fitting.{append_other, other_place, left_at, installed_from}
use Rattle.run_rules.proofs.Growing.{fresh, step_none}
use Rattle.run_rules.proofs.Turns.{first_true, rest_true}
use Rattle.run_order.specs.Sets.{Notice, attachment_of, harts_of, boxes_back, how_closed, notice_of, notices_of}
use Rattle.run_order.specs.InOrder.{Task, InHand, task_run}
use Rattle.run_order.proofs.Installing.{last_made}
use Rattle.kept_order.specs.Summing.{made_of}
use Rattle.kept_order.proofs.Ends.{either_holds, off_holds}
use Rattle.run_controls.specs.Hands.{IsOnItsWay, IsNoDoneOf, ReplaysNone, ClosingsStayInHand}

-- A plug-in that is being withdrawn.

-- what a notice tells of it
abbrev Parts : Type 0
Parts = PlugState × (List SetSpec × List How)

abbrev parts : Plugin → Parts
parts p = (p.state, (p.sets, p.endings))

-- one that is changed in what it owes alone
parts_at : (ps : List Plugin) (k : ℕ) (x : Plugin) (i : ℕ) → parts x ≡ parts (slice_index_or ps k no_plugin)
    → parts (slice_index_or (slice_set ps k x) i no_plugin) ≡ parts (slice_index_or ps i no_plugin)
parts_at [] k x i same = refl
parts_at (p ∷ ps) zero x zero same = same
parts_at (p ∷ ps) zero x (suc i) same = refl
parts_at (p ∷ ps) (suc k) x zero same = refl
parts_at (p ∷ ps) (suc k) x (suc i) same = parts_at ps k x i same

-- no order may name it
admits_none : (o : Order) (s : PlugState) → is_closing s ≡ true → is_some (next_state o s) ≡ true → ⊥
admits_none (Install spec) s closing some = false≢true some
admits_none (Register q spec) Live closing some = false≢true closing
admits_none (Register q spec) Idle closing some = false≢true closing
admits_none (Register q spec) Resetting closing some = false≢true some
admits_none (Register q spec) Leaving closing some = false≢true some
admits_none (Register q spec) Gone closing some = false≢true closing
admits_none (Reset q) Live closing some = false≢true closing
admits_none (Reset q) Idle closing some = false≢true closing
admits_none (Reset q) Resetting closing some = false≢true some
admits_none (Reset q) Leaving closing some = false≢true some
admits_none (Reset q) Gone closing some = false≢true closing
admits_none (Uninstall q) Live closing some = false≢true closing
admits_none (Uninstall q) Idle closing some = false≢true closing
admits_none (Uninstall q) Resetting closing some = false≢true some
admits_none (Uninstall q) Leaving closing some = false≢true some
admits_none (Uninstall q) Gone closing some = false≢true closing

closing_dead : (s : PlugState) → is_closing s ≡ true → is_live s ≡ false
closing_dead Live closing = absurd (false≢true closing)
closing_dead Idle closing = refl
closing_dead Resetting closing = refl
closing_dead Leaving closing = refl
closing_dead Gone closing = refl

module _ (r : Plugins) (p : ℕ) (closing : is_closing (plugin_of r p).state ≡ true) where
  closing_within : p - 1 < length r.plugins
  closing_within =
      elim (cases_Bool (nat_lt (p - 1) (length r.plugins))) [
        | inl near ↦ ltb-true (p - 1) (length r.plugins) near
        | inr far ↦
            let none : plugin_of r p ≡ no_plugin = beyond r.plugins (p - 1) (ltb-false (p - 1) (length r.plugins) far) in
            absurd (false≢true (sym (ap (λ (x : Plugin). is_closing x.state) none) ∙ closing))
      ]

  closing_installed : 1 ≤ p → is_installed r p ≡ true
  closing_installed one = both_true (lt-ltb 0 p one) (le-leb p (length r.plugins) (omega (arith, closing_within, one)))

  other_number : (o : Order) (number : ℕ) → Admits r o number → (number == p) ≡ false
  other_number o number admits =
      elim (cases_Bool (number == p)) [
        | inl at ↦
            let same : is_closing (plugin_of r number).state ≡ true =
            ap (λ (n : ℕ). is_closing (plugin_of r n).state) (number_is number p at) ∙ closing in
            absurd (admits_none o (plugin_of r number).state same admits.1)
        | inr off ↦ off
      ]

  order_same : (o : Order) → 1 ≤ p → allowed r o ≡ true → plugin_of (after_order o r) p ≡ plugin_of r p
  order_same (Install spec) one is = append_other r.plugins (fresh r spec) (p - 1) (λ e. omega (arith, e, closing_within))
  order_same (Register number spec) one is =
      let a = register_admitted r number spec is in
      other_place r number p (with_set (plugin_of r number) spec) (installed_from r number a.0) one
      (other_number (Register number spec) number a)
  order_same (Reset number) one is =
      let a = reset_admitted r number is in
      other_place r number p _ (installed_from r number a.0) one (other_number (Reset number) number a)
  order_same (Uninstall number) one is =
      let a = uninstall_admitted r number is in
      other_place r number p _ (installed_from r number a.0) one (other_number (Uninstall number) number a)

  withdraws_none : (o : Order) → allowed r o ≡ true → withdraws o p ≡ false
  withdraws_none (Install spec) is = refl
  withdraws_none (Register number spec) is = refl
  withdraws_none (Reset number) is = other_number (Reset number) number (reset_admitted r number is)
  withdraws_none (Uninstall number) is = other_number (Uninstall number) number (uninstall_admitted r number is)

-- An item leaves it as it is, but for its Done.

abbrev tells : Item → ℕ → Bool
tells (Step hart) p = false
tells (Ordered origin order) p = false
tells (GaveBack hart plugin) p = false
tells (Left hart) p = false
tells (Told party plugin) p = plugin == p
tells (Got hart plugin) p = false
tells (Took party plugin) p = false

abbrev closes_in : Run → ℕ → List Item → Type 0
closes_in run p past = is_closing (plugin_of (plugins run past) p).state ≡ true

item_parts : (run : Run) (p : ℕ) (x : Item) (past : List Item) → 1 ≤ p → Rule run x past → tells x p ≡ false → closes_in run p past
    → parts (plugin_of (plugins run (x ∷ past)) p) ≡ parts (plugin_of (plugins run past) p)
unfolding registry
item_parts run p (Step hart) past one rule untold closing = refl
item_parts run p (Ordered origin order) past one rule untold closing =
    ap parts (order_same (plugins run past) p closing order one rule.allowed)
item_parts run p (GaveBack hart number) past one rule untold closing =
    let r = plugins run past in
    let x = plugin_of r number in
    parts_at r.plugins (number - 1) (record x { owing = slice_set x.owing hart false }) (p - 1) refl
item_parts run p (Left hart) past one rule untold closing = ap parts (left_at hart (plugins run past).plugins (p - 1))
item_parts run p (Told party number) past one rule untold closing =
    let r = plugins run past in
    let x = plugin_of r number in
    let there = (complete r number 0 (first_true (is_complete r number) _ rule)).0 in
    ap parts (other_place r number p (record x { state = done_state x.state }) (installed_from r number there) one untold)
item_parts run p (Got hart number) past one rule untold closing = refl
item_parts run p (Took party number) past one rule untold closing = refl

item_closes : (run : Run) (p : ℕ) (x : Item) (past : List Item) → 1 ≤ p → Rule run x past → tells x p ≡ false → closes_in run p past
    → closes_in run p (x ∷ past)
item_closes run p x past one rule untold closing =
    ap (λ (y : Parts). is_closing y.0) (item_parts run p x past one rule untold closing) ∙ closing

none_some : {A : Type 0} (o : Option A) (a : A) → o ≡ None → o ≡ Some a → ⊥
none_some o a none some = false≢true (ap is_some (sym none) ∙ ap is_some some)

item_taker : (run : Run) (who p : ℕ) (x : Item) (past : List Item) → Rule run x past → StateRule run x past → closes_in run p past
    → taker p past ≡ Some who → taker p (x ∷ past) ≡ Some who
unfolding taker
item_taker run who p (Step hart) past rule state closing is = is
item_taker run who p (Ordered origin order) past rule state closing is =
    ap (λ (b : Bool). if b then None else taker p past) (withdraws_none (plugins run past) p closing order rule.allowed) ∙ is
item_taker run who p (GaveBack hart number) past rule state closing is = is
item_taker run who p (Left hart) past rule state closing is = is
item_taker run who p (Told party number) past rule state closing is = is
item_taker run who p (Got hart number) past rule state closing is = is
item_taker run who p (Took party number) past rule state closing is =
    elim (cases_Bool (number == p)) [
      | inl at ↦ absurd (none_some (taker p past) who (ap (λ (n : ℕ). taker n past) (sym (number_is number p at)) ∙ state.1) is)
      | inr off ↦ ap (λ (b : Bool). if b then Some party else taker p past) off ∙ is
    ]

item_notices : (run : Run) (p : ℕ) (x : Item) (past : List Item) → tells x p ≡ false
    → notices_of run p (x ∷ past) ≡ notices_of run p past
unfolding notices_of
item_notices run p (Step hart) past untold = refl
item_notices run p (Ordered origin order) past untold = refl
item_notices run p (GaveBack hart number) past untold = refl
item_notices run p (Left hart) past untold = refl
item_notices run p (Told party number) past untold =
    ap (λ (b : Bool). if b then notices_of run p past ++ notice_of run p past ∷ [] else notices_of run p past) untold
item_notices run p (Got hart number) past untold = refl
item_notices run p (Took party number) past untold = refl

-- its set hears nothing more
item_progress : (run : Run) (spec : SetSpec) (p set h : ℕ) (x : Item) (past : List Item)
    → is_listening (plugins run past) p set ≡ false → progress run spec p set h (x ∷ past) ≡ progress run spec p set h past
unfolding progress
item_progress run spec p set h (Step hart) past none = step_none run spec p set h hart past none
item_progress run spec p set h (Ordered origin order) past none = refl
item_progress run spec p set h (GaveBack hart number) past none = refl
item_progress run spec p set h (Left hart) past none = refl
item_progress run spec p set h (Told party number) past none = refl
item_progress run spec p set h (Got hart number) past none = refl
item_progress run spec p set h (Took party number) past none = refl

abbrev sets_if : Bool → List SetSpec → List SetSpec
sets_if there sets = if there then sets else []

item_sets : (run : Run) (p : ℕ) (x : Item) (past : List Item) → 1 ≤ p → Rule run x past → tells x p ≡ false → closes_in run p past
    → sets_of (plugins run (x ∷ past)) p ≡ sets_of (plugins run past) p
item_sets run p x past one rule untold closing =
    let now = plugins run (x ∷ past) in
    let r = plugins run past in
    ap (λ (b : Bool). sets_if b (plugin_of now p).sets)
    (closing_installed now p (item_closes run p x past one rule untold closing) one ∙ sym (closing_installed r p closing one))
    ∙ ap (λ (y : Parts). sets_if (is_installed r p) y.1.0) (item_parts run p x past one rule untold closing)

item_made : (run : Run) (p h : ℕ) (x : Item) (past : List Item) → 1 ≤ p → Legal run past → Rule run x past → tells x p ≡ false
    → closes_in run p past → attachment_of run p h (x ∷ past) ≡ attachment_of run p h past
item_made run p h x past one legal rule untold closing =
    let r = plugins run past in
    let sets = sets_of r p in
    let set = length sets - 1 in
    let spec = slice_index_or sets set no_set in
    let quiet : is_listening r p set ≡ false =
    last_sets_listen_while_live run p past one legal (closing_dead (plugin_of r p).state closing) in
    ap (λ (ss : List SetSpec). last_made run p h ss (x ∷ past)) (item_sets run p x past one rule untold closing)
    ∙ ap (made_of p spec) (item_progress run spec p set h x past quiet)

abbrev harts_if : Run → Bool → List ℕ
harts_if run all = if all then harts_of run else []

abbrev notice_by : Run → ℕ → PlugState → Bool → (ℕ → Attachment) → Notice
notice_by run p state all sets = record {
  plugin = p;
  how = how_closed state;
  boxes = flat_map (λ h. boxes_back h (sets h)) (harts_if run all);
  columns = map (λ h. record { hart = h; column = (sets h).column }) (harts_if run all);
}

item_withdrawing : (run : Run) (p : ℕ) (x : Item) (past : List Item) → 1 ≤ p → Rule run x past → tells x p ≡ false → closes_in run p past
    → is_withdrawing (plugins run (x ∷ past)) p ≡ is_withdrawing (plugins run past) p
item_withdrawing run p x past one rule untold closing =
    let now = plugins run (x ∷ past) in
    let r = plugins run past in
    let q = plugin_of now p in
    ap (λ (b : Bool). b && takes_back q.state (slice_get q.endings (length q.sets - 1)))
    (closing_installed now p (item_closes run p x past one rule untold closing) one ∙ sym (closing_installed r p closing one))
    ∙ ap (λ (y : Parts). is_installed r p && takes_back y.0 (slice_get y.1.1 (length y.1.0 - 1)))
    (item_parts run p x past one rule untold closing)

item_notice : (run : Run) (p : ℕ) (x : Item) (past : List Item) → 1 ≤ p → Legal run past → Rule run x past → tells x p ≡ false
    → closes_in run p past → notice_of run p (x ∷ past) ≡ notice_of run p past
item_notice run p x past one legal rule untold closing =
    let state = ap (λ (y : Parts). y.0) (item_parts run p x past one rule untold closing) in
    let all = item_withdrawing run p x past one rule untold closing in
    let sets = λ (h : ℕ). item_made run p h x past one legal rule untold closing in
    λ i. notice_by run p (state i) (all i) (λ h. sets h i)

-- Nobody else may tell its closer.

item_untold : (run : Run) (who p : ℕ) (x : Item) (past : List Item) → ReplaysNone who → IsNoDoneOf who x → StateRule run x past
    → taker p past ≡ Some who → tells x p ≡ false
item_untold run who p (Step hart) past apart off state is = refl
item_untold run who p (Ordered origin order) past apart off state is = refl
item_untold run who p (GaveBack hart number) past apart off state is = refl
item_untold run who p (Left hart) past apart off state is = refl
item_untold run who p (Told party number) past apart off state is =
    elim (cases_Bool (number == p)) [
      | inr other ↦ other
      | inl at ↦
          let took : taker number past ≡ Some who = ap (λ (n : ℕ). taker n past) (number_is number p at) ∙ is in
          elim state [
            | inl by ↦ absurd (off (same_Some party who (sym by ∙ took)))
            | inr by ↦ absurd (apart number (same_Some who (replaying number) (sym took ∙ by)))
          ]
    ]
item_untold run who p (Got hart number) past apart off state is = refl
item_untold run who p (Took party number) past apart off state is = refl

-- It stays complete.

not_true : (b : Bool) → not b ≡ true → b ≡ false
not_true true is = absurd (false≢true is)
not_true false is = refl

abbrev is_closed_up : Plugin → Bool
is_closed_up q = is_closing q.state && not (list_any (λ owed. owed) q.owing)

any_set : (xs : List Bool) (h : ℕ) → list_any (λ owed. owed) xs ≡ false → list_any (λ owed. owed) (slice_set xs h false) ≡ false
any_set [] h none = refl
any_set (x ∷ xs) zero none = (or_parts x (list_any (λ owed. owed) xs) none).1
any_set (true ∷ xs) (suc h) none = absurd (false≢true (sym none))
any_set (false ∷ xs) (suc h) none = any_set xs h none

closed_without : (q : Plugin) (h : ℕ) → is_closed_up q ≡ true → is_closed_up (without_hart h q) ≡ true
closed_without q h is =
    both_true (first_true (is_closing q.state) _ is)
    (ap not (any_set q.owing h (not_true (list_any (λ owed. owed) q.owing) (rest_true (is_closing q.state) _ is))))

item_up : (run : Run) (p : ℕ) (x : Item) (past : List Item) → 1 ≤ p → Rule run x past → tells x p ≡ false → closes_in run p past
    → is_closed_up (plugin_of (plugins run past) p) ≡ true → is_closed_up (plugin_of (plugins run (x ∷ past)) p) ≡ true
unfolding registry
item_up run p (Step hart) past one rule untold closing up = up
item_up run p (Ordered origin order) past one rule untold closing up =
    ap is_closed_up (order_same (plugins run past) p closing order one rule.allowed) ∙ up
item_up run p (GaveBack hart number) past one rule untold closing up =
    let r = plugins run past in
    let there = first_true (is_installed r number) _ (first_true (owes r hart number) _ rule) in
    either_holds is_closed_up r number p (without_hart hart (plugin_of r number)) there one up (closed_without (plugin_of r number) hart)
item_up run p (Left hart) past one rule untold closing up =
    ap is_closed_up (left_at hart (plugins run past).plugins (p - 1)) ∙ closed_without (plugin_of (plugins run past) p) hart up
item_up run p (Told party number) past one rule untold closing up =
    let r = plugins run past in
    let x = plugin_of r number in
    let there = (complete r number 0 (first_true (is_complete r number) _ rule)).0 in
    off_holds is_closed_up r number p (record x { state = done_state x.state }) there one untold up
item_up run p (Got hart number) past one rule untold closing up = up
item_up run p (Took party number) past one rule untold closing up = up

item_complete : (run : Run) (p : ℕ) (x : Item) (past : List Item) → Rule run x past → tells x p ≡ false
    → is_complete (plugins run past) p ≡ true → is_complete (plugins run (x ∷ past)) p ≡ true
item_complete run p x past rule untold is =
    let r = plugins run past in
    let one : 1 ≤ p = installed_from r p (first_true (is_installed r p) _ is) in
    let up : is_closed_up (plugin_of r p) ≡ true = rest_true (is_installed r p) _ is in
    let closing : closes_in run p past = first_true (is_closing (plugin_of r p).state) _ up in
    both_true (closing_installed (plugins run (x ∷ past)) p (item_closes run p x past one rule untold closing) one)
    (item_up run p x past one rule untold closing up)

-- So what a party has in hand stays in its hand.

one_stays : (t : Task) (who : ℕ) (x : Item) (past : List Item) (c : InHand) → ReplaysNone who → IsNoDoneOf who x
    → Legal (task_run t) past → Rule (task_run t) x past → StateRule (task_run t) x past
    → IsOnItsWay t who past c → IsOnItsWay t who (x ∷ past) c
one_stays t who x past c apart off legal rule state out =
    let run = task_run t in
    let p = c.plugin in
    let is = out.in_hand in
    let one : 1 ≤ p = installed_from (plugins run past) p (first_true (is_installed (plugins run past) p) _ out.complete) in
    let untold = item_untold run who p x past apart off state is.taken in
    let P : List Notice × Notice → Type 0 =
    λ y. MatchOption c.back (c.notices ≡ y.0 ++ y.1 ∷ []) (λ back. (c.notices ≡ y.0) × (back ≡ y.1)) in
    let ns = item_notices run p x past untold in
    let n = item_notice run p x past one legal rule untold is.undone in
    record {
      complete = item_complete run p x past rule untold out.complete;
      in_hand = record {
        taken = item_taker run who p x past rule state is.undone is.taken;
        undone = item_closes run p x past one rule untold is.undone;
        notices = subst P (λ i. (sym ns i, sym n i)) is.notices;
      };
    }

all_stay : (t : Task) (who : ℕ) (more past : List Item) (c : InHand) → ReplaysNone who → All (IsNoDoneOf who) more
    → Legal (task_run t) (more ++ past) → IsStateLog (task_run t) (more ++ past) → IsOnItsWay t who past c
    → IsOnItsWay t who (more ++ past) c
unfolding Legal IsStateLog
all_stay t who [] past c apart off legal state is = is
all_stay t who (x ∷ more) past c apart off legal state is =
    one_stays t who x (more ++ past) c apart (All-head (IsNoDoneOf who) x more off) legal.0 legal.1 state.1
    (all_stay t who more past c apart (All-tail (IsNoDoneOf who) x more off) legal.0 state.0 is)

pub closings_stay_in_hand : ClosingsStayInHand
closings_stay_in_hand t who seen now c apart legal state goes is =
    let run = task_run t in
    subst (λ (xs : List Item). IsOnItsWay t who xs c) (sym goes.begins)
    (all_stay t who goes.more seen c apart goes.later (subst (Legal run) goes.begins legal) (subst (IsStateLog run) goes.begins state) is)
