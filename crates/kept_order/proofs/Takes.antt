-- Sets that a hart takes.
use Rattle.std.proofs.Common.{◌≡◌, ◌==◌, ◌&&◌, ◌+◌, ◌-◌, ◌<◌, ◌≤◌, ◌∷◌, [], ◌++◌, ◌∙◌, ℕ, zero, suc, Bool, true, false}
use Rattle.std.proofs.Common.{not, List, Option, Some, None, refl, sym, ap, subst, arith, nat_lt, nat_le, inl, inr, length, map}
use Rattle.std.specs.Prelude.{if◌then◌else◌, filter}
use Rattle.std.specs.List.{list_any, filter_map, cons_option, range_with_len}
use Rattle.std.specs.Cmp.Derive.{both_true}
use Rattle.std.proofs.lemmas.Bool.{cases_Bool, false≢true, lt-ltb, le-ltb, le-leb, leb-true, leb-false, and_right}
use Rattle.std.proofs.lemmas.Bool.Decides.{nat_tests}
use Rattle.flat_model.specs.declared.journals.Item.{Item}
use Rattle.flat_model.specs.declared.journals.Item.TheVariants.{Got}
use Rattle.flat_model.specs.declared.journals.PlugState.{PlugState}
use Rattle.flat_model.specs.declared.journals.PlugState.TheVariants.{Live, Idle, Resetting, Leaving, Gone}
use Rattle.flat_model.specs.Log.{log, journaled}
use Rattle.flat_model.specs.Registry.{Plugins, Plugin, no_plugin, registry, plugin_of, is_hart, has_left, owes}
use Rattle.flat_model.specs.Worlds.{world}
use Rattle.watcher_api.specs.Attachment.{Attachment}
use Rattle.run_rules.specs.Guest.{Run, plugins}
use Rattle.run_rules.specs.Heard.{progress, is_live}
use Rattle.run_rules.specs.Legal.{Legal, is_there, owes_any, numbers}
use Rattle.run_rules.specs.Places.{Place, Nowhere, Waiting, WithHart, Parked, Out, IsStateLog, place_of, taker}
use Rattle.run_rules.specs.Places.{is_waiting, is_with_hart, is_parked, may_get, fits, owed_by, got}
use Rattle.run_rules.proofs.Fitting.{beyond, places_fit}
use Rattle.run_rules.proofs.Turns.{first_true, rest_true}
use Rattle.run_order.specs.Sets.{attachment_of, shelf, harts_of, notices_of, closers_of, sets_for}
use Rattle.run_order.specs.InOrder.{Task, task_run, hart_kept}
use Rattle.run_order.specs.Laws.{SetMoves, with_place}
use Rattle.run_order.proofs.Taking.{takes_move_sets}
use Rattle.kept_order.specs.Taking.{TakesKeepOrder, TakesAddSets, TakenIsAll}
use Rattle.kept_order.proofs.Ranges.{all_of, none_at}
use Rattle.kept_order.proofs.Gone.{there_low}

-- What the state keeps.

-- to take changes no world, no plug-in and no notice
closers_keep : (run : Run) (h plugin : ℕ) (past : List Item) → closers_of run (Got h plugin ∷ past) ≡ closers_of run past
unfolding notices_of taker registry
closers_keep run h plugin past = refl

harts_keep : (t : Task) (h plugin : ℕ) (past : List Item)
    → map (hart_kept t (Got h plugin ∷ past)) (harts_of (task_run t)) ≡ map (hart_kept t past) (harts_of (task_run t))
unfolding world registry
harts_keep t h plugin past = refl

world_keeps : (t : Task) (h plugin : ℕ) (past : List Item) → world t.machine t.mode (Got h plugin ∷ past) ≡ world t.machine t.mode past
unfolding world
world_keeps t h plugin past = refl

plugins_keep : (run : Run) (h plugin : ℕ) (past : List Item) → plugins run (Got h plugin ∷ past) ≡ plugins run past
unfolding registry
plugins_keep run h plugin past = refl

legal_still : (run : Run) (h plugin : ℕ) (past : List Item) → Legal run past → Legal run (Got h plugin ∷ past)
unfolding Legal
legal_still run h plugin past legal = (legal, tt)

state_still : (run : Run) (h plugin : ℕ) (past : List Item) → IsStateLog run past → may_get run h plugin past ≡ true
    → IsStateLog run (Got h plugin ∷ past)
unfolding IsStateLog
state_still run h plugin past state may = (state, may)

-- a set that a hart may take is of a plug-in that there is
gets_installed : (run : Run) (h plugin : ℕ) (past : List Item) → may_get run h plugin past ≡ true
    → plugin ≤ length (plugins run past).plugins
gets_installed run h plugin past may =
    let r = plugins run past in
    let live : is_live (plugin_of r plugin).state ≡ true = first_true _ _ (rest_true (is_there run h past) _ may) in
    elim (cases_Bool (nat_le plugin (length r.plugins))) [
      | inl near ↦ leb-true plugin (length r.plugins) near
      | inr far ↦
          let none : plugin_of r plugin ≡ no_plugin =
          beyond r.plugins (plugin - 1) (omega (arith, leb-false plugin (length r.plugins) far)) in
          absurd (false≢true (sym (ap (λ (p : Plugin). is_live p.state) none) ∙ live))
    ]

pub takes_keep_order : TakesKeepOrder
takes_keep_order t h plugin old new o one may d =
    let run = task_run t in
    let low : h < run.harts = there_low run h old.past (first_true _ _ may) in
    let most = gets_installed run h plugin old.past may in
    let at = sym d.past in
    let moves : SetMoves run h plugin old.past = takes_move_sets run h plugin old.past one most low may in
    record {
      legal = subst (Legal run) at (legal_still run h plugin old.past o.legal);
      state_log = subst (IsStateLog run) at (state_still run h plugin old.past o.state_log may);
      journal = ap log d.entries ∙ o.journal ∙ ap journaled at;
      shared = d.shared ∙ o.shared ∙ ap (λ w. w.shared) (sym (world_keeps t h plugin old.past))
          ∙ ap (λ (xs : List Item). (world t.machine t.mode xs).shared) at;
      plugins = d.plugins ∙ o.plugins ∙ sym (plugins_keep run h plugin old.past) ∙ ap (plugins run) at;
      waiting = d.waiting ∙ ap (λ (rows : List (List (Option Attachment))). with_place rows (plugin - 1) h None) o.waiting
          ∙ sym moves.waiting ∙ ap (shelf is_waiting run) at;
      parked = d.parked ∙ o.parked ∙ sym moves.parked ∙ ap (shelf is_parked run) at;
      harts = d.harts ∙ o.harts ∙ sym (harts_keep t h plugin old.past) ∙ ap (λ (xs : List Item). map (hart_kept t xs) (harts_of run)) at;
      closers = d.closers ∙ o.closers ∙ sym (closers_keep run h plugin old.past) ∙ ap (closers_of run) at;
    }

-- What the hart has then.

-- sets by their plug-ins' numbers, where a test of the number says which there are
abbrev given : (ℕ → Bool) → (ℕ → Attachment) → ℕ → Option Attachment
given test made p = if test p then Some (made p) else None

abbrev all_given : (ℕ → Bool) → (ℕ → Attachment) → ℕ → ℕ → List Attachment
all_given test made a n = filter_map (given test made) (range_with_len a n)

abbrev is_before : ℕ → Attachment → Bool
is_before q a = nat_lt a.plugin q

abbrev is_behind : ℕ → Attachment → Bool
is_behind q a = nat_lt q a.plugin

abbrev before : ℕ → List Attachment → List Attachment
before q sets = filter (is_before q) sets

abbrev behind : ℕ → List Attachment → List Attachment
behind q sets = filter (is_behind q) sets

give : (is : Bool) (x : Attachment) (rest : List Attachment) → is ≡ true → cons_option (if is then Some x else None) rest ≡ x ∷ rest
give true x rest is = refl
give false x rest is = absurd (false≢true is)

give_none : (is : Bool) (x : Attachment) (rest : List Attachment) → is ≡ false → cons_option (if is then Some x else None) rest ≡ rest
give_none true x rest is = absurd (false≢true (sym is))
give_none false x rest is = refl

pick : (p : Attachment → Bool) (x : Attachment) (rest : List Attachment) → p x ≡ true → filter p (x ∷ rest) ≡ x ∷ filter p rest
pick p x rest is = rw is refl

drop_it : (p : Attachment → Bool) (x : Attachment) (rest : List Attachment) → p x ≡ false → filter p (x ∷ rest) ≡ filter p rest
drop_it p x rest is = rw is refl

-- all of them behind a number
abbrev AreNumbered : (ℕ → Attachment) → Type 0
AreNumbered made = (p : ℕ) → (made p).plugin ≡ p

none_before : (test : ℕ → Bool) (made : ℕ → Attachment) (q a n : ℕ) → AreNumbered made → q < a → before q (all_given test made a n) ≡ []
none_before test made q a zero numbered low = refl
none_before test made q a (suc n) numbered low =
    let rest = all_given test made (a + 1) n in
    let ih : before q rest ≡ [] = none_before test made q (a + 1) n numbered (omega (arith, low)) in
    elim (cases_Bool (test a)) [
      | inr no_more ↦ ap (before q) (give_none (test a) (made a) rest no_more) ∙ ih
      | inl is ↦
          ap (before q) (give (test a) (made a) rest is)
          ∙ drop_it (is_before q) (made a) rest (le-ltb (made a).plugin q (omega (arith, low, numbered a))) ∙ ih
    ]

all_behind : (test : ℕ → Bool) (made : ℕ → Attachment) (q a n : ℕ) → AreNumbered made → q < a
    → behind q (all_given test made a n) ≡ all_given test made a n
all_behind test made q a zero numbered low = refl
all_behind test made q a (suc n) numbered low =
    let rest = all_given test made (a + 1) n in
    let ih : behind q rest ≡ rest = all_behind test made q (a + 1) n numbered (omega (arith, low)) in
    elim (cases_Bool (test a)) [
      | inr no_more ↦
          let e = give_none (test a) (made a) rest no_more in
          ap (behind q) e ∙ ih ∙ sym e
      | inl is ↦
          let e = give (test a) (made a) rest is in
          ap (behind q) e
          ∙ pick (is_behind q) (made a) rest (lt-ltb q (made a).plugin (omega (arith, low, numbered a)))
          ∙ ap (λ (sets : List Attachment). made a ∷ sets) ih ∙ sym e
    ]

-- where two tests differ
given_same : (old new : ℕ → Bool) (made : ℕ → Attachment) (a n : ℕ) → ((p : ℕ) → a ≤ p → new p ≡ old p)
    → all_given new made a n ≡ all_given old made a n
given_same old new made a zero same = refl
given_same old new made a (suc n) same =
    ap (λ (b : Bool). cons_option (if b then Some (made a) else None) (all_given new made (a + 1) n)) (same a (omega arith))
    ∙ ap (cons_option (given old made a)) (given_same old new made (a + 1) n (λ p low. same p (omega (arith, low))))

-- one set more, at its place
adds_one : (old new : ℕ → Bool) (made : ℕ → Attachment) (q a n : ℕ) → AreNumbered made
    → ((p : ℕ) → (p == q) ≡ false → new p ≡ old p) → old q ≡ false → new q ≡ true → a ≤ q → q < a + n
    → all_given new made a n ≡ before q (all_given old made a n) ++ made q ∷ behind q (all_given old made a n)
adds_one old new made q a zero numbered same was is low high = absurd (omega (arith, low, high))
adds_one old new made q a (suc n) numbered same was is low high =
    let rest = all_given old made (a + 1) n in
    elim (cases_Bool (a == q)) [
      | inl at ↦
          let e : q ≡ a = grind (arith, nat_tests, at) in
          let above : q < a + 1 = omega (arith, e) in
          let none : all_given old made a (suc n) ≡ rest = give_none (old a) (made a) rest (ap old (sym e) ∙ was) in
          give (new a) (made a) (all_given new made (a + 1) n) (ap new (sym e) ∙ is)
          ∙ ap (λ (x : Attachment). x ∷ all_given new made (a + 1) n) (ap made (sym e))
          ∙ ap (λ (sets : List Attachment). made q ∷ sets)
          (given_same old new made (a + 1) n (λ p far. same p (grind (arith, nat_tests, far, e)))
          ∙ sym (all_behind old made q (a + 1) n numbered above))
          ∙ ap (λ (sets : List Attachment). sets ++ made q ∷ behind q rest) (sym (none_before old made q (a + 1) n numbered above))
          ∙ ap (λ (sets : List Attachment). before q sets ++ made q ∷ behind q sets) (sym none)
      | inr off ↦
          let further : a + 1 ≤ q = grind (arith, nat_tests, off, low) in
          let ih : all_given new made (a + 1) n ≡ before q rest ++ made q ∷ behind q rest =
          adds_one old new made q (a + 1) n numbered same was is further (omega (arith, high)) in
          let first : all_given new made a (suc n) ≡ cons_option (given old made a) (all_given new made (a + 1) n) =
          ap (λ (b : Bool). cons_option (if b then Some (made a) else None) (all_given new made (a + 1) n)) (same a off) in
          elim (cases_Bool (old a)) [
            | inr no_more ↦
                let none : all_given old made a (suc n) ≡ rest = give_none (old a) (made a) rest no_more in
                first ∙ give_none (old a) (made a) (all_given new made (a + 1) n) no_more ∙ ih
                ∙ ap (λ (sets : List Attachment). before q sets ++ made q ∷ behind q sets) (sym none)
            | inl has ↦
                let one : all_given old made a (suc n) ≡ made a ∷ rest = give (old a) (made a) rest has in
                let kept : before q (made a ∷ rest) ≡ made a ∷ before q rest =
                pick (is_before q) (made a) rest (lt-ltb (made a).plugin q (omega (arith, further, numbered a))) in
                let dropped : behind q (made a ∷ rest) ≡ behind q rest =
                drop_it (is_behind q) (made a) rest (le-ltb q (made a).plugin (omega (arith, further, numbered a))) in
                first ∙ give (old a) (made a) (all_given new made (a + 1) n) has ∙ ap (λ (sets : List Attachment). made a ∷ sets) ih
                ∙ ap (λ (sets : List Attachment). sets ++ made q ∷ behind q rest) (sym kept)
                ∙ ap (λ (sets : List Attachment). before q (made a ∷ rest) ++ made q ∷ sets) (sym dropped)
                ∙ ap (λ (sets : List Attachment). before q sets ++ made q ∷ behind q sets) (sym one)
          ]
    ]

-- where a set is once it is taken, and where the others are
off_place : (run : Run) (h plugin p : ℕ) (past : List Item) → (p == plugin) ≡ false
    → is_with_hart (place_of run p h (Got h plugin ∷ past)) ≡ is_with_hart (place_of run p h past)
unfolding place_of
off_place run h plugin p past off =
    let other : ((h == h) && (plugin == p)) ≡ false = and_right (h == h) (plugin == p) (grind (arith, nat_tests, off)) in
    rw other refl

taken_place : (place : Place) → is_waiting place ≡ true → (is_with_hart place ≡ false) × (is_with_hart (got place) ≡ true)
taken_place Nowhere is = absurd (false≢true is)
taken_place Waiting is = (refl, refl)
taken_place WithHart is = absurd (false≢true is)
taken_place Parked is = absurd (false≢true is)
taken_place Out is = absurd (false≢true is)

own_place : (run : Run) (h plugin : ℕ) (past : List Item) → place_of run plugin h (Got h plugin ∷ past) ≡ got (place_of run plugin h past)
unfolding place_of
own_place run h plugin past =
    let own : ((h == h) && (plugin == plugin)) ≡ true = grind (arith, nat_tests) in
    rw own refl

-- to take changes no set
sets_by : (run : Run) (h plugin : ℕ) (past : List Item)
    → sets_for is_with_hart run h (Got h plugin ∷ past)
    ≡ all_given (λ p. is_with_hart (place_of run p h (Got h plugin ∷ past))) (λ p. attachment_of run p h past) 1
    (length (plugins run past).plugins)
unfolding registry progress
sets_by run h plugin past = refl

pub takes_add_sets : TakesAddSets
takes_add_sets run h plugin past one may =
    let r = plugins run past in
    let most = gets_installed run h plugin past may in
    let waits : is_waiting (place_of run plugin h past) ≡ true =
    rest_true (is_live (plugin_of r plugin).state) _ (rest_true (is_there run h past) _ may) in
    let moved = taken_place (place_of run plugin h past) waits in
    sets_by run h plugin past
    ∙ adds_one (λ p. is_with_hart (place_of run p h past)) (λ p. is_with_hart (place_of run p h (Got h plugin ∷ past)))
    (λ p. attachment_of run p h past) plugin 1 (length r.plugins) (λ p. refl)
    (λ p off. off_place run h plugin p past off) moved.0 (ap is_with_hart (own_place run h plugin past) ∙ moved.1) one (omega (arith, most))

-- What still waits.

-- a set that waits for a hart that is there and owes nothing is of a plug-in that is Live
waits_live : (place : Place) (s : PlugState) → is_waiting place ≡ true → fits place s false false ≡ true → is_live s ≡ true
waits_live Nowhere s is f = absurd (false≢true is)
waits_live WithHart s is f = absurd (false≢true is)
waits_live Parked s is f = absurd (false≢true is)
waits_live Out s is f = absurd (false≢true is)
waits_live Waiting Live is f = refl
waits_live Waiting Idle is f = absurd (false≢true f)
waits_live Waiting Resetting is f = absurd (false≢true f)
waits_live Waiting Leaving is f = absurd (false≢true f)
waits_live Waiting Gone is f = absurd (false≢true f)

not_left : (hart gone : Bool) → (hart && not gone) ≡ true → gone ≡ false
not_left hart false is = refl
not_left hart true is = absurd (false≢true (sym (and_right hart (not true) refl) ∙ is))

owes_none : (r : Plugins) (h plugin : ℕ) → 1 ≤ plugin → plugin < 1 + length r.plugins → list_any (λ p. owes r h p) (numbers r) ≡ false
    → owed_by r plugin h ≡ false
owes_none r h plugin one most none =
    let installed : (nat_lt 0 plugin && nat_le plugin (length r.plugins)) ≡ true =
    both_true (lt-ltb 0 plugin (omega (arith, one))) (le-leb plugin (length r.plugins) (omega (arith, most))) in
    sym (ap (λ (b : Bool). b && owed_by r plugin h) installed) ∙ none_at (λ p. owes r h p) 1 (length r.plugins) plugin none one most

waits_not : (run : Run) (h plugin : ℕ) (past : List Item) → Legal run past → IsStateLog run past
    → is_there run h past ≡ true → owes_any run h past ≡ false → 1 ≤ plugin → plugin < 1 + length (plugins run past).plugins
    → may_get run h plugin past ≡ false → not (is_waiting (place_of run plugin h past)) ≡ true
waits_not run h plugin past legal state there owes one most none =
    let r = plugins run past in
    let place = place_of run plugin h past in
    elim (cases_Bool (is_waiting place)) [
      | inr no_more ↦ ap not no_more
      | inl waits ↦
          let f : fits place (plugin_of r plugin).state false false ≡ true =
          ap (λ (o : Bool). fits place (plugin_of r plugin).state o false) (sym (owes_none r h plugin one most owes))
          ∙ ap (λ (g : Bool). fits place (plugin_of r plugin).state (owed_by r plugin h) g)
          (sym (not_left (is_hart r h) (has_left r h) there))
          ∙ places_fit run plugin h past one (there_low run h past there) legal state in
          absurd (false≢true (sym none ∙ both_true there (both_true (waits_live place (plugin_of r plugin).state waits f) waits)))
    ]

pub taken_is_all : TakenIsAll
taken_is_all run h past legal state there owes none =
    let n = length (plugins run past).plugins in
    all_of (λ plugin. not (is_waiting (place_of run plugin h past))) 1 n
    (λ plugin one most. waits_not run h plugin past legal state there owes one most (none plugin one (omega (arith, most))))
