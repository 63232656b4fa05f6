-- A Done, with the take before it, leaves every hart's berth as it is, whoever tells.
use Rattle.std.proofs.Common.{◌≡◌, ◌==◌, ◌&&◌, ◌+◌, ◌<◌, ◌≤◌, ◌∷◌, [], ◌++◌, ◌∙◌, ℕ, zero, suc, Bool, true, false, not, List}
use Rattle.std.proofs.Common.{Option, Some, None, refl, sym, ap, subst, arith, inl, inr, nat_lt, length}
use Rattle.std.specs.Prelude.{is_some, if◌then◌else◌, slice_index_or}
use Rattle.std.specs.Cmp.Derive.{both_true}
use Rattle.std.proofs.lemmas.Bool.{cases_Bool, false≢true}
use Rattle.std.proofs.lemmas.Bool.Decides.{nat_tests}
use Rattle.flat_model.specs.declared.journals.Item.{Item}
use Rattle.flat_model.specs.declared.journals.Item.TheVariants.{Told, Took}
use Rattle.flat_model.specs.Registry.{registry, is_complete, has_left}
use Rattle.flat_model.specs.Worlds.{world}
use Rattle.run_rules.specs.Guest.{Run, plugins}
use Rattle.run_rules.specs.Heard.{progress}
use Rattle.run_rules.specs.Due.{wanted, next_line, start_orders, line_party}
use Rattle.run_rules.specs.Legal.{Legal, is_there, may_tell, passes_nothing_by}
use Rattle.run_rules.specs.Places.{IsStateLog, place_of, taker}
use Rattle.run_rules.proofs.Fitting.{complete, installed_from, installed_within}
use Rattle.run_order.specs.InOrder.{Task, task_run}
use Rattle.run_order.specs.Sets.{is_closing_out}
use Rattle.kept_order.specs.Closing.{is_due}
use Rattle.kept_order.proofs.Leaves.{knows_harts}
use Rattle.kept_order.proofs.Withdrawals.{plugins_are_few}
use Rattle.replay_order.specs.Seats.{Seating, Sits}
use Rattle.replay_order.proofs.Seats.{others_leave_seats}
use Rattle.run_replay.specs.declared.berths.Berth.{Berth}
use Rattle.run_replay.specs.Following.{seating_of, IsBerth, IsPlaced}
use Rattle.run_replay.proofs.Orders.{other_number}

-- a seat is the same whoever told, and whoever took the closing
module _ (t : Task) (h a b c d q : ℕ) (past : List Item) (s : Seating) where
  told_by : Sits t h (Told a q ∷ Took c q ∷ past) s → Sits t h (Told b q ∷ Took d q ∷ past) s
  unfolding registry place_of progress world
  told_by sits = record {
    there = sits.there;
    hart = sits.hart;
    below = sits.below;
    sets = sits.sets;
    filters = sits.filters;
    quiet = sits.quiet;
    asks = sits.asks;
    since = sits.since;
  }

-- a number that is no hart's hasn't left
past_end : (xs : List Bool) (i : ℕ) → length xs ≤ i → slice_index_or xs i false ≡ false
past_end [] i high = refl
past_end (x ∷ xs) zero high = absurd (omega (arith, high))
past_end (x ∷ xs) (suc i) high = past_end xs i (omega (arith, high))

same_self : (q : ℕ) → (q == q) ≡ true
same_self q = grind (arith, nat_tests)

module _ (run : Run) (by q : ℕ) (past : List Item) where
  abbrev took : List Item
  took = Took by q ∷ past

  pub took_wants : wanted run took ≡ wanted run past
  unfolding wanted next_line start_orders line_party registry
  took_wants = refl

  three : (a b c : Bool) → a ≡ true → b ≡ false → c ≡ true → (a && (not b && c)) ≡ true
  three true false true one two both = refl
  three false b c one two both = one
  three true true c one two both = sym two
  three true false false one two both = both

  -- a party that hasn't left may tell
  pub may_tell_then : (party : ℕ) → is_complete (plugins run past) q ≡ true → has_left (plugins run past) party ≡ false
      → wanted run past ≡ None → may_tell run party q took ≡ true
  unfolding registry
  may_tell_then party is there none =
      three (is_complete (plugins run past) q) (has_left (plugins run past) party) (passes_nothing_by run took) is there
      (ap (λ (x : Option Item). not (is_some x)) (took_wants ∙ none))

  pub taker_then : taker q took ≡ Some by
  unfolding taker
  taker_then = ap (λ (b : Bool). if b then Some by else taker q past) (same_self q)

-- a plug-in that is complete, while no closing is out, may be taken
closing_of : (run : Run) (q : ℕ) (past : List Item) → is_complete (plugins run past) q ≡ true → is_closing_out run q past ≡ false
    → is_some (taker q past) ≡ false
closing_of run q past is none =
    ap (λ (b : Bool). b && is_some (taker q past)) (sym (complete (plugins run past) q 0 is).1) ∙ none

pub due_then : (run : Run) (q : ℕ) (past : List Item) → is_complete (plugins run past) q ≡ true → is_closing_out run q past ≡ false
    → is_due run q past ≡ true
due_then run q past is none = both_true is (ap not (closing_of run q past is none))

-- and it has one of the 8 numbers
pub installed_few : (run : Run) (q : ℕ) (past : List Item) → Legal run past → is_complete (plugins run past) q ≡ true → q ≤ 8
installed_few run q past legal is =
    let r = plugins run past in
    let low = installed_within r q (complete r q 0 is).0 in
    omega (arith, low, plugins_are_few run past legal, installed_from r q (complete r q 0 is).0)

told_keeps_seat : (t : Task) (h party by q : ℕ) (past : List Item) (s : Seating) → h < t.machine.harts → wanted (task_run t) past ≡ None
    → Legal (task_run t) (Told party q ∷ Took by q ∷ past) → IsStateLog (task_run t) (Told party q ∷ Took by q ∷ past)
    → Sits t h past s → Sits t h (Told party q ∷ Took by q ∷ past) s
unfolding Legal IsStateLog
told_keeps_seat t h party by q past s low none legal state sits =
    let run = task_run t in
    let n = t.machine.harts in
    let is : is_complete (plugins run past) q ≡ true = state.0.1.0 in
    let wide : length (plugins run past).gone ≡ n = (knows_harts run past).gone in
    let there : has_left (plugins run past) n ≡ false = past_end (plugins run past).gone n (omega (arith, wide)) in
    let legal_by : Legal run (Told n q ∷ Took n q ∷ past) = (legal.0, may_tell_then run n q past n is there none) in
    let state_by : IsStateLog run (Told n q ∷ Took n q ∷ past) = ((state.0.0, state.0.1), inl (taker_then run n q past)) in
    let apart = other_number h n low in
    told_by t h n party n by q past s
    (others_leave_seats t h (Told n q ∷ Took n q ∷ []) past s low (apart, (apart, tt)) legal_by state_by sits)

pub complete_taken : (run : Run) (party by q : ℕ) (past : List Item) → IsStateLog run (Told party q ∷ Took by q ∷ past)
    → is_complete (plugins run past) q ≡ true
unfolding IsStateLog
complete_taken run party by q past state = state.0.1.0

told_there : (run : Run) (h party by q : ℕ) (past : List Item) → is_there run h (Told party q ∷ Took by q ∷ past) ≡ is_there run h past
unfolding registry
told_there run h party by q past = refl

module _ {W : Type 0} where
  pub told_keeps_place : (t : Task) (h party by q : ℕ) (past : List Item) (b : Option (Berth W)) → h < t.machine.harts
      → wanted (task_run t) past ≡ None → Legal (task_run t) (Told party q ∷ Took by q ∷ past)
      → IsStateLog (task_run t) (Told party q ∷ Took by q ∷ past)
      → IsPlaced t h past b → IsPlaced t h (Told party q ∷ Took by q ∷ past) b
  told_keeps_place t h party by q past None low none legal state is = told_there (task_run t) h party by q past ∙ is
  told_keeps_place t h party by q past (Some b) low none legal state is = record {
    sits = told_keeps_seat t h party by q past (seating_of b) low none legal state is.sits;
    kept = is.kept;
    cached = is.cached;
  }
