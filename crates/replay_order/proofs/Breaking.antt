-- Entries that don't begin with the plan's start orders.
use Rattle.std.proofs.Common.{◌≡◌, ◌≢◌, ◌+◌, ◌<◌, ◌≤◌, ◌∷◌, [], ◌∙◌, ℕ, zero, suc, Bool, true, false, not, List, refl, sym, ap, subst}
use Rattle.std.proofs.Common.{arith}
use Rattle.std.proofs.Common.{Option, Some, None, length, map, take, nat_lt}
use Rattle.std.specs.Prelude.{◌&&◌, ◌||◌, slice_get, slice_index_or, option_map, is_some}
use Rattle.std.specs.Option.{option_or}
use Rattle.std.specs.List.{list_all}
use Rattle.std.proofs.lemmas.Bool.{false≢true}
use Rattle.flat_model.specs.declared.plugins.SetSpec.{SetSpec}
use Rattle.flat_model.specs.declared.journals.Entry.{Entry}
use Rattle.flat_model.specs.declared.journals.Entry.TheVariants as entries
use Rattle.flat_model.specs.declared.journals.Item.{Item}
use Rattle.flat_model.specs.declared.journals.Item.TheVariants.{Ordered}
use Rattle.flat_model.specs.declared.journals.Order.{Order}
use Rattle.flat_model.specs.declared.journals.Order.TheVariants.{Install}
use Rattle.flat_model.specs.declared.journals.Origin.{Origin}
use Rattle.flat_model.specs.declared.journals.Origin.TheVariants.{Start, Script, Asked, Control}
use Rattle.flat_model.specs.Registry.{owes, has_left, is_complete}
use Rattle.flat_model.specs.Log.{log, log_from, with_entry, turning, HasSteps, IsJoinedAfter}
use Rattle.plug_registry.specs.Installs.{start_order}
use Rattle.run_rules.specs.Guest.{Run, plugins}
use Rattle.run_rules.specs.Due.{turn_length, is_turning, start_orders, missing_install, wanted, line_item, owed_line}
use Rattle.run_rules.specs.Legal.{Legal, Rule, may_step, is_there, runs, owes_any, asks_nothing, passes_nothing_by, is_finished}
use Rattle.run_rules.specs.Legal.{goes_on_in_time, numbers}
use Rattle.run_rules.proofs.Turns.{first_true, rest_true}
use Rattle.replay_order.specs.Openings.{OtherOpeningsBreak}
use Rattle.replay_order.proofs.Entries.{step_before, takes_one_more}

-- Logs of start orders.

abbrev started : List SetSpec → List Item
started specs = log (map start_order specs)

started_from : (past : List Item) (specs : List SetSpec) → start_orders (log_from past
    (map start_order specs)) ≡ start_orders past + length specs
unfolding start_orders
started_from past [] = omega arith
started_from past (spec ∷ specs) = let rest = started_from (Ordered Start (Install spec) ∷ past) specs in omega (arith, rest)

no_turn_from : (h : ℕ) (past : List Item) (specs : List SetSpec) → turn_length h past ≡ 0
    → turn_length h (log_from past (map start_order specs)) ≡ 0
unfolding turn_length
no_turn_from h past [] is = is
no_turn_from h past (spec ∷ specs) is = no_turn_from h (Ordered Start (Install spec) ∷ past) specs refl

no_turn : (h : ℕ) (specs : List SetSpec) → turn_length h (started specs) ≡ 0
unfolding turn_length
no_turn h specs = no_turn_from h [] specs refl

legal_first : (run : Run) (past : List Item) (specs : List SetSpec) → Legal run (log_from past (map start_order specs)) → Legal run past
unfolding Legal
legal_first run past [] legal = legal
legal_first run past (spec ∷ specs) legal = (legal_first run (Ordered Start (Install spec) ∷ past) specs legal).0

legal_some : (run : Run) (past : List Item) (specs : List SetSpec) (k : ℕ) → Legal run (log_from past (map start_order specs))
    → Legal run (log_from past (map start_order (take k specs)))
unfolding Legal
legal_some run past [] zero legal = legal
legal_some run past [] (suc k) legal = legal
legal_some run past (spec ∷ specs) zero legal = legal_first run past (spec ∷ specs) legal
legal_some run past (spec ∷ specs) (suc k) legal = legal_some run (Ordered Start (Install spec) ∷ past) specs k legal

taken : {A : Type 0} (xs : List A) (k : ℕ) → k ≤ length xs → length (take k xs) ≡ k
taken [] zero low = refl
taken [] (suc k) low = absurd (omega (arith, low))
taken (x ∷ xs) zero low = refl
taken (x ∷ xs) (suc k) low = ap (λ (n : ℕ). suc n) (taken xs k (omega (arith, low)))

taken_few : {A : Type 0} (xs : List A) (k : ℕ) → length (take k xs) ≤ length xs
taken_few [] zero = omega arith
taken_few [] (suc k) = omega arith
taken_few (x ∷ xs) zero = omega arith
taken_few (x ∷ xs) (suc k) = let rest = taken_few xs k in omega (arith, rest)

take_whole : {A : Type 0} (xs : List A) → take (length xs) xs ≡ xs
take_whole [] = refl
take_whole (x ∷ xs) = ap (λ ys. x ∷ ys) (take_whole xs)

mapped : (specs : List SetSpec) → length (map start_order specs) ≡ length specs
mapped [] = refl
mapped (spec ∷ specs) = ap (λ (n : ℕ). suc n) (mapped specs)

-- what stands at a place
record Stands {A : Type 0} (xs : List A) (k : ℕ) : Type 0 where
  it : A
  is : slice_get xs k ≡ Some it
  index : slice_index_or xs k it ≡ it

stands : {A : Type 0} (xs : List A) (k : ℕ) → k < length xs → Stands xs k
stands [] k low = absurd (omega (arith, low))
stands (x ∷ xs) zero low = record { it = x; is = refl; index = refl }
stands (x ∷ xs) (suc k) low = let rest = stands xs k (omega (arith, low)) in record { it = rest.it; is = rest.is; index = rest.index }

has_steps : (es : List Entry) (last : Option ℕ) (k : ℕ) (e : Entry) → IsJoinedAfter last es → k < length es → slice_index_or es k e ≡ e
    → HasSteps e
has_steps [] last k e joined low at = absurd (omega (arith, low))
has_steps (x ∷ es) last zero e joined low at = subst HasSteps at joined.0
has_steps (x ∷ es) last (suc k) e joined low at = has_steps es (turning x) k e joined.2 (omega (arith, low)) at

-- While an install is missing.

record Misses (run : Run) (past : List Item) (spec : SetSpec) : Type 0 where
  wants : wanted run past ≡ Some (Ordered Start (Install spec))
  turns : (h : ℕ) → turn_length h past ≡ 0

misses : (run : Run) (k : ℕ) (spec : SetSpec) → k < length run.plan.installs → slice_get run.plan.installs k ≡ Some spec
    → Misses run (started (take k run.plan.installs)) spec
unfolding wanted start_orders
misses run k spec low is =
    let past = started (take k run.plan.installs) in
    let count : start_orders past ≡ k =
    let all = started_from [] (take k run.plan.installs) in let few = taken run.plan.installs k (omega (arith, low)) in omega
    (arith, all, few) in
    let missing : missing_install run past ≡ Some (Ordered Start (Install spec)) =
    ap (λ (n : ℕ). option_map (λ s. Ordered Start (Install s)) (slice_get run.plan.installs n)) count
    ∙ ap (option_map (λ s. Ordered Start (Install s))) is in
    record {
      wants = ap (λ (o : Option Item). option_or o (option_map (line_item past) (owed_line run past))) missing;
      turns = λ h. no_turn h (take k run.plan.installs);
    }

passes_by : (run : Run) (past : List Item) (spec : SetSpec) → Misses run past spec → passes_nothing_by run past ≡ false
passes_by run past spec m = ap (λ (o : Option Item). not (is_some o)) m.wants

not_passing : (run : Run) (past : List Item) (spec : SetSpec) → Misses run past spec → passes_nothing_by run past ≡ true → ⊥
not_passing run past spec m passes = false≢true (sym (passes_by run past spec m) ∙ passes)

fourth : (a b c d e : Bool) → (a && (b && (c && (d && e)))) ≡ true → d ≡ true
fourth a b c d e is = first_true d e (rest_true c (d && e) (rest_true b (c && (d && e)) (rest_true a (b && (c && (d && e))) is)))

third : (a b c : Bool) → (a && (b && c)) ≡ true → c ≡ true
third a b c is = rest_true b c (rest_true a (b && c) is)

no_step : (run : Run) (past : List Item) (spec : SetSpec) (h : ℕ) → Misses run past spec → may_step run h past ≡ true → ⊥
no_step run past spec h m may =
    let goes = fourth (is_there run h past) (runs run h past) (not (owes_any run h past)) (is_turning h past || passes_nothing_by run past)
    (list_all (goes_on_in_time run h past) (numbers (plugins run past))) may in
    false≢true
    (sym (ap (λ (n : ℕ). nat_lt 0 n || passes_nothing_by run past) (m.turns h) ∙ passes_by run past spec m) ∙ goes)

no_order : (run : Run) (past : List Item) (spec : SetSpec) (origin : Origin) (order : Order) → Misses run past spec
    → entries.Order origin order ≢ start_order spec → Rule run (Ordered origin order) past → ⊥
no_order run past spec Start order m other rule =
    let same = sym rule.given ∙ m.wants in
    let is : order ≡ Install spec = cc in
    other (ap (λ (o : Order). entries.Order Start o) is)
no_order run past spec (Script line party) order m other rule = let same = sym rule.given.0 ∙ m.wants in absurd cc
no_order run past spec (Asked h plugin) order m other rule = not_passing run past spec m rule.given.0
no_order run past spec (Control party) order m other rule = not_passing run past spec m rule.given.0

no_entry : (run : Run) (past : List Item) (spec : SetSpec) (e : Entry) → Misses run past spec → e ≢ start_order spec → HasSteps e
    → Legal run (with_entry e past) → ⊥
unfolding Legal
no_entry run past spec (entries.Turn h n) m other some legal = no_step run past spec h m (step_before run h 0 n past some legal)
no_entry run past spec (entries.Order origin order) m other some legal = no_order run past spec origin order m other legal.1
no_entry run past spec (entries.Back h plugin) m other some legal =
    not_passing run past spec m (third (owes (plugins run past) h plugin) (asks_nothing run h past) (passes_nothing_by run past) legal.1)
no_entry run past spec (entries.Leave h) m other some legal =
    let rest = asks_nothing run h past && passes_nothing_by run past in
    not_passing run past spec m (rest_true (asks_nothing run h past) (passes_nothing_by run past)
    (rest_true (not (owes_any run h past)) rest (third (is_there run h past) (is_finished run h past) (not
    (owes_any run h past) && rest) legal.1)))
no_entry run past spec (entries.Done party plugin) m other some legal =
    not_passing run past spec m (third (is_complete (plugins run past) plugin) (not (has_left (plugins run past) party))
    (passes_nothing_by run past) legal.1)

pub other_openings_break : OtherOpeningsBreak
other_openings_break run es k joined legal at =
    let installs = run.plan.installs in
    let spec = stands installs k at.within in
    let begins : log (take k es) ≡ started (take k installs) = ap log at.begins in
    let m = misses run k spec.it at.within spec.is in
    record {
      legal = subst (Legal run) (sym begins) (legal_some run [] installs k legal);
      broken = λ below more.
          let e = stands es k below in
          no_entry run (started (take k installs)) spec.it e.it m (at.other e.it spec.it e.is spec.is)
          (has_steps es None k e.it joined below e.index)
          (subst (Legal run) (takes_one_more es e.it k below e.index ∙ ap (with_entry e.it) begins) more);
      within =
          let n = ap length at.begins ∙ mapped (take k installs) ∙ taken installs k (omega (arith, at.within)) in
          let few = taken_few es k in
          omega (arith, n, few);
      unfinished = λ last whole.
          let all : log es ≡ started (take k installs) = sym (ap log (ap (λ (n : ℕ). take n es) last ∙ take_whole es)) ∙ begins in
          let none = sym (ap (wanted run) all ∙ m.wants) ∙ whole.nothing_missing in
          absurd cc;
    }
