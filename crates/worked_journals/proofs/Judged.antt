-- The judge finds what the rules mean.
use Rattle.std.proofs.Common.{◌≡◌, ◌<◌, ◌≤◌, ◌+◌, ◌∙◌, not, ℕ, zero, suc, Bool, true, false, List, [], ◌∷◌, length, take, Option, Some, None, refl, ap, sym, subst, arith}
use Rattle.std.specs.Prelude.{if◌then◌else◌, is_some, option_map}
use Rattle.std.specs.List.{list_any, list_all, range_with_len}
use Rattle.std.proofs.lemmas.Bool.{and_parts, and_from, false≢true, true≢false, not-true, not_from_false}
use Rattle.flat_model.specs.declared.journals.Entry.{Entry}
use Rattle.flat_model.specs.declared.journals.Entry.TheVariants as entries
use Rattle.flat_model.specs.declared.journals.Item.{Item}
use Rattle.flat_model.specs.declared.journals.Item.TheVariants.{Ordered}
use Rattle.flat_model.specs.declared.journals.Order.{Order}
use Rattle.flat_model.specs.declared.journals.Origin.{Origin}
use Rattle.flat_model.specs.declared.journals.Origin.TheVariants.{Start, Script, Asked, Control}
use Rattle.flat_model.specs.Log.{log_from, with_entry, steps}
use Rattle.flat_model.specs.Registry.{is_hart, has_left, is_closing}
use Rattle.run_rules.specs.Guest.{Run, plugins}
use Rattle.run_rules.specs.Heard.{waiting}
use Rattle.run_rules.specs.Due.{allowed, wanted, in_time}
use Rattle.run_rules.specs.Legal.{may_step, asked_order, passes_nothing_by, IsGiven, MayOrder, Legal, Whole, IsBrokenAt}
use Rattle.worked_journals.specs.Same.{same_origin, same_order}
use Rattle.worked_journals.specs.Judge.{is_ordered, is_order, is_given, may_order, may_turn, is_kept, may_end, judge_from, JudgesExactly}
use Rattle.worked_journals.proofs.Alike.{order_one, origin_one, order_self, origin_self}

-- Orders.

ordered_is : (origin : Origin) (order : Order) (w : Option Item) → is_ordered origin order w ≡ true → w ≡ Some (Ordered origin order)
ordered_is origin order None p = absurd (false≢true p)
ordered_is origin order (Some (Ordered by other)) p =
    let parts = and_parts (same_origin by origin) (same_order other order) p in
    ap (λ x. Some (Ordered x other)) (origin_one by origin parts.0) ∙ ap (λ x. Some (Ordered origin x)) (order_one other order parts.1)
ordered_is origin order (Some _) p = absurd (false≢true p)

is_ordered_self : (origin : Origin) (order : Order) (w : Option Item) → w ≡ Some (Ordered origin order) → is_ordered origin order w ≡ true
is_ordered_self origin order w e = ap (is_ordered origin order) e ∙ and_from _ _ (origin_self origin) (order_self order)

order_is : (order : Order) (w : Option Order) → is_order order w ≡ true → w ≡ Some order
order_is order None p = absurd (false≢true p)
order_is order (Some other) p = ap Some (order_one other order p)

is_order_self : (order : Order) (w : Option Order) → w ≡ Some order → is_order order w ≡ true
is_order_self order w e = ap (is_order order) e ∙ order_self order

given_is : (run : Run) (origin : Origin) (order : Order) (past : List Item) → is_given run origin order past ≡ true → IsGiven run origin order past
given_is run Start order past p = ordered_is Start order (wanted run past) p
given_is run (Script line party) order past p =
    let parts = and_parts (is_ordered (Script line party) order (wanted run past)) (in_time run line past) p in
    (ordered_is (Script line party) order (wanted run past) parts.0, parts.1)
given_is run (Asked h plugin) order past p =
    let asked = asked_order plugin (waiting run plugin h past) in
    let parts = and_parts (passes_nothing_by run past) (is_order order asked) p in
    (parts.0, order_is order asked parts.1)
given_is run (Control party) order past p =
    let parts = and_parts (passes_nothing_by run past) (not (is_hart (plugins run past) party)) p in
    (parts.0, not-true (is_hart (plugins run past) party) parts.1)

is_given_so : (run : Run) (origin : Origin) (order : Order) (past : List Item) → IsGiven run origin order past → is_given run origin order past ≡ true
is_given_so run Start order past g = is_ordered_self Start order (wanted run past) g
is_given_so run (Script line party) order past g = and_from _ _ (is_ordered_self (Script line party) order (wanted run past) g.0) g.1
is_given_so run (Asked h plugin) order past g =
    and_from _ _ g.0 (is_order_self order (asked_order plugin (waiting run plugin h past)) g.1)
is_given_so run (Control party) order past g = and_from _ _ g.0 (not_from_false (is_hart (plugins run past) party) g.1)

may_is : (run : Run) (origin : Origin) (order : Order) (past : List Item) → may_order run origin order past ≡ true → MayOrder run origin order past
may_is run origin order past p =
    let parts = and_parts (allowed (plugins run past) order) (is_given run origin order past) p in
    record { allowed = parts.0; given = given_is run origin order past parts.1 }

is_may : (run : Run) (origin : Origin) (order : Order) (past : List Item) → MayOrder run origin order past → may_order run origin order past ≡ true
is_may run origin order past m = and_from _ _ m.allowed (is_given_so run origin order past m.given)

-- Turns.

turn_legal : (run : Run) (h n : ℕ) (past : List Item) → Legal run past → may_turn run h n past ≡ true → Legal run (steps h n past)
unfolding may_turn Legal
turn_legal run h zero past legal p = legal
turn_legal run h (suc n) past legal p =
    let parts = and_parts (may_turn run h n past) (may_step run h (steps h n past)) p in
    (turn_legal run h n past legal parts.0, parts.1)

legal_turn : (run : Run) (h n : ℕ) (past : List Item) → Legal run (steps h n past) → may_turn run h n past ≡ true
unfolding may_turn Legal
legal_turn run h zero past legal = refl
legal_turn run h (suc n) past legal = and_from _ _ (legal_turn run h n past legal.0) legal.1

-- Entries.

entry_legal : (run : Run) (e : Entry) (past : List Item) → Legal run past → is_kept run e past ≡ true → Legal run (with_entry e past)
unfolding is_kept Legal
entry_legal run (entries.Turn h n) past legal p = turn_legal run h n past legal p
entry_legal run (entries.Order origin order) past legal p = (legal, may_is run origin order past p)
entry_legal run (entries.Back h plugin) past legal p = (legal, p)
entry_legal run (entries.Leave h) past legal p = (legal, p)
entry_legal run (entries.Done party plugin) past legal p = (legal, p)

legal_entry : (run : Run) (e : Entry) (past : List Item) → Legal run (with_entry e past) → is_kept run e past ≡ true
unfolding is_kept Legal
legal_entry run (entries.Turn h n) past legal = legal_turn run h n past legal
legal_entry run (entries.Order origin order) past legal = is_may run origin order past legal.1
legal_entry run (entries.Back h plugin) past legal = legal.1
legal_entry run (entries.Leave h) past legal = legal.1
legal_entry run (entries.Done party plugin) past legal = legal.1

-- The end.

none_is : {A : Type 0} (w : Option A) → not (is_some w) ≡ true → w ≡ None
none_is None p = refl
none_is (Some x) p = absurd (false≢true p)

is_none : {A : Type 0} (w : Option A) → w ≡ None → not (is_some w) ≡ true
is_none w e = ap (λ x. not (is_some x)) e

end_whole : (run : Run) (past : List Item) → Legal run past → may_end run past ≡ true → Whole run past
unfolding may_end
end_whole run past legal p =
    let parts = and_parts (not (is_some (wanted run past))) _ p in
    let more = and_parts (list_all (λ h. has_left (plugins run past) h) (range_with_len 0 run.harts)) _ parts.1 in
    record {
      legal = legal;
      nothing_missing = none_is (wanted run past) parts.0;
      all_left = more.0;
      all_closed = not-true (list_any (λ p. is_closing p.state) (plugins run past).plugins) more.1;
    }

whole_end : (run : Run) (past : List Item) → Whole run past → may_end run past ≡ true
unfolding may_end
whole_end run past w =
    and_from _ _ (is_none (wanted run past) w.nothing_missing) (and_from _ _ w.all_left (not_from_false (list_any (λ p. is_closing p.state) (plugins run past).plugins) w.all_closed))

-- Journals, after what was before.

record BreaksFrom (run : Run) (past : List Item) (es : List Entry) (place : ℕ) : Type 0 where
  legal : Legal run (log_from past (take place es))
  broken : place < length es → Legal run (log_from past (take (place + 1) es)) → ⊥
  within : place ≤ length es
  unfinished : place ≡ length es → Whole run (log_from past es) → ⊥

at_end : (run : Run) (past : List Item) → Legal run past → (b : Bool) → may_end run past ≡ b → (place : ℕ) → ◌≡◌ {A = Option ℕ} (if b then None else Some 0) (Some place) → BreaksFrom run past [] place
at_end run past legal true b place p = absurd cc
at_end run past legal false b zero p = record {
  legal = legal;
  broken = λ below. absurd (omega (arith, below));
  within = omega arith;
  unfinished = λ end whole. absurd (true≢false (sym (whole_end run past whole) ∙ b));
}
at_end run past legal false b (suc place) p = absurd cc

at_first : (run : Run) (past : List Item) (e : Entry) (es : List Entry) → Legal run past → is_kept run e past ≡ false → BreaksFrom run past (e ∷ es) 0
at_first run past e es legal p = record {
  legal = legal;
  broken = λ below more. true≢false (sym (legal_entry run e past more) ∙ p);
  within = omega arith;
  unfinished = λ end. absurd (omega (arith, end));
}

one_later : (run : Run) (past : List Item) (e : Entry) (es : List Entry) (place : ℕ) → BreaksFrom run (with_entry e past) es place → BreaksFrom run past (e ∷ es) (suc place)
one_later run past e es place b = record {
  legal = b.legal;
  broken = λ below more.
      let one : suc place + 1 ≡ suc (place + 1) = omega arith in
      b.broken (omega (arith, below)) (subst (λ n. Legal run (log_from past (take n (e ∷ es)))) one more);
  within = omega (arith, b.within);
  unfinished = λ end. b.unfinished (omega (arith, end));
}

some_later : (found : Option ℕ) (place : ℕ) → option_map (λ n. suc n) found ≡ Some place → (n : ℕ) × (found ≡ Some n) × (place ≡ suc n)
some_later None place p = absurd cc
some_later (Some n) place p = (n, refl, cc)

none_later : (found : Option ℕ) → option_map (λ n. suc n) found ≡ None → found ≡ None
none_later None p = refl
none_later (Some n) p = absurd cc

-- what the judge says after an entry of which it knows whether it keeps its rule
after : Bool → Option ℕ → Option ℕ
unfolding judge_from
after b later = elim b as (λ b. Option ℕ) [ true ↦ option_map (λ place. suc place) later | false ↦ Some 0 ]

whole_step : (run : Run) (past : List Item) (e : Entry) (es : List Entry) (b : Bool) → Legal run past → is_kept run e past ≡ b
    → after b (judge_from run (with_entry e past) es) ≡ None
    → (Legal run (with_entry e past) → judge_from run (with_entry e past) es ≡ None → Whole run (log_from (with_entry e past) es))
    → Whole run (log_from past (e ∷ es))
unfolding after
whole_step run past e es true legal kept p later =
    later (entry_legal run e past legal kept) (none_later (judge_from run (with_entry e past) es) p)
whole_step run past e es false legal kept p later = absurd cc

broken_step : (run : Run) (past : List Item) (e : Entry) (es : List Entry) (place : ℕ) (b : Bool) → Legal run past → is_kept run e past ≡ b
    → after b (judge_from run (with_entry e past) es) ≡ Some place
    → ((n : ℕ) → Legal run (with_entry e past) → judge_from run (with_entry e past) es ≡ Some n → BreaksFrom run (with_entry e past) es n)
    → BreaksFrom run past (e ∷ es) place
unfolding after
broken_step run past e es place true legal kept p later =
    let found = some_later (judge_from run (with_entry e past) es) place p in
    subst (λ n. BreaksFrom run past (e ∷ es) n) (sym found.2)
    (one_later run past e es found.0 (later found.0 (entry_legal run e past legal kept) found.1))
broken_step run past e es place false legal kept p later =
    subst (λ n. BreaksFrom run past (e ∷ es) n) (some_is p) (at_first run past e es legal kept)
  where
    some_is : Some 0 ≡ Some place → 0 ≡ place
    some_is q = cc

whole_from : (run : Run) (past : List Item) (es : List Entry) → Legal run past → judge_from run past es ≡ None → Whole run (log_from past es)
unfolding judge_from after
whole_from run past [] legal p = end_whole run past legal (end_is (may_end run past) p)
  where
    end_is : (b : Bool) → ◌≡◌ {A = Option ℕ} (if b then None else Some 0) None → b ≡ true
    end_is true q = refl
    end_is false q = absurd cc
whole_from run past (e ∷ es) legal p =
    whole_step run past e es (is_kept run e past) legal refl p (λ more q. whole_from run (with_entry e past) es more q)

broken_from : (run : Run) (past : List Item) (es : List Entry) (place : ℕ) → Legal run past → judge_from run past es ≡ Some place
    → BreaksFrom run past es place
unfolding judge_from after
broken_from run past [] place legal p = at_end run past legal (may_end run past) refl place p
broken_from run past (e ∷ es) place legal p =
    broken_step run past e es place (is_kept run e past) legal refl p
    (λ n more q. broken_from run (with_entry e past) es n more q)

-- The other way round: a log that goes on to a legal one is legal.

steps_before : (run : Run) (h n : ℕ) (past : List Item) → Legal run (steps h n past) → Legal run past
unfolding Legal
steps_before run h zero past legal = legal
steps_before run h (suc n) past legal = steps_before run h n past legal.0

entry_before : (run : Run) (e : Entry) (past : List Item) → Legal run (with_entry e past) → Legal run past
unfolding Legal
entry_before run (entries.Turn h n) past legal = steps_before run h n past legal
entry_before run (entries.Order origin order) past legal = legal.0
entry_before run (entries.Back h plugin) past legal = legal.0
entry_before run (entries.Leave h) past legal = legal.0
entry_before run (entries.Done party plugin) past legal = legal.0

legal_before : (run : Run) (past : List Item) (es : List Entry) → Legal run (log_from past es) → Legal run past
legal_before run past [] legal = legal
legal_before run past (e ∷ es) legal = entry_before run e past (legal_before run (with_entry e past) es legal)

none_of : Bool → Option ℕ
none_of b = if b then None else Some 0

finds_end : (run : Run) (past : List Item) (place : ℕ) (b : Bool) → Legal run past → may_end run past ≡ b → BreaksFrom run past [] place
    → none_of b ≡ Some place
unfolding none_of
finds_end run past place true legal end b = absurd (b.unfinished (omega (arith, b.within)) (end_whole run past legal end))
finds_end run past place false legal end b = let zero_place : 0 ≡ place = omega (arith, b.within) in ap Some zero_place

-- an entry that breaks its rule
finds_first : (run : Run) (past : List Item) (e : Entry) (es : List Entry) (place : ℕ) → is_kept run e past ≡ false
    → BreaksFrom run past (e ∷ es) place → ◌≡◌ {A = Option ℕ} (Some 0) (Some place)
finds_first run past e es zero kept b = refl
finds_first run past e es (suc place) kept b =
    absurd (true≢false (sym (legal_entry run e past (legal_before run (with_entry e past) (take place es) b.legal)) ∙ kept))

-- an entry that keeps it
one_before : (run : Run) (past : List Item) (e : Entry) (es : List Entry) (place : ℕ) → BreaksFrom run past (e ∷ es) (suc place)
    → BreaksFrom run (with_entry e past) es place
one_before run past e es place b = record {
  legal = b.legal;
  broken = λ below more.
      let one : suc (place + 1) ≡ suc place + 1 = omega arith in
      b.broken (omega (arith, below)) (subst (λ n. Legal run (log_from past (take n (e ∷ es)))) one more);
  within = omega (arith, b.within);
  unfinished = λ end. b.unfinished (omega (arith, end));
}

finds_later : (run : Run) (past : List Item) (e : Entry) (es : List Entry) (place : ℕ) → Legal run past → is_kept run e past ≡ true
    → BreaksFrom run past (e ∷ es) place
    → ((n : ℕ) → BreaksFrom run (with_entry e past) es n → judge_from run (with_entry e past) es ≡ Some n)
    → option_map (λ n. suc n) (judge_from run (with_entry e past) es) ≡ Some place
finds_later run past e es zero legal kept b later = absurd (b.broken (omega arith) (entry_legal run e past legal kept))
finds_later run past e es (suc place) legal kept b later = ap (option_map (λ n. suc n)) (later place (one_before run past e es place b))

found_step : (run : Run) (past : List Item) (e : Entry) (es : List Entry) (place : ℕ) (b : Bool) → Legal run past → is_kept run e past ≡ b
    → BreaksFrom run past (e ∷ es) place
    → ((n : ℕ) → BreaksFrom run (with_entry e past) es n → judge_from run (with_entry e past) es ≡ Some n)
    → after b (judge_from run (with_entry e past) es) ≡ Some place
unfolding after
found_step run past e es place true legal kept b later = finds_later run past e es place legal kept b later
found_step run past e es place false legal kept b later = finds_first run past e es place kept b

found_broken : (run : Run) (past : List Item) (es : List Entry) (place : ℕ) → Legal run past → BreaksFrom run past es place
    → judge_from run past es ≡ Some place
unfolding judge_from after none_of
found_broken run past [] place legal b = finds_end run past place (may_end run past) legal refl b
found_broken run past (e ∷ es) place legal b =
    found_step run past e es place (is_kept run e past) legal refl b
    (λ n more. found_broken run (with_entry e past) es n (legal_of run past e es more) more)
  where
    legal_of : (run : Run) (past : List Item) (e : Entry) (es : List Entry) {n : ℕ} → BreaksFrom run (with_entry e past) es n → Legal run (with_entry e past)
    legal_of run past e es {n} more = legal_before run (with_entry e past) (take n es) more.legal

found_whole : (run : Run) (past : List Item) (es : List Entry) → Whole run (log_from past es) → judge_from run past es ≡ None
unfolding judge_from after
found_whole run past [] w = ap none_or (whole_end run past w)
  where
    none_or : Bool → Option ℕ
    none_or b = if b then None else Some 0
found_whole run past (e ∷ es) w =
    let kept : is_kept run e past ≡ true = legal_entry run e past (legal_before run (with_entry e past) es w.legal) in
    ap (λ b. after b (judge_from run (with_entry e past) es)) kept ∙ ap (option_map (λ n. suc n)) (found_whole run (with_entry e past) es w)

is_broken : (run : Run) (es : List Entry) (place : ℕ) → BreaksFrom run [] es place → IsBrokenAt run es place
is_broken run es place b = record { legal = b.legal; broken = b.broken; within = b.within; unfinished = b.unfinished }

breaks : (run : Run) (es : List Entry) (place : ℕ) → IsBrokenAt run es place → BreaksFrom run [] es place
breaks run es place b = record { legal = b.legal; broken = b.broken; within = b.within; unfinished = b.unfinished }

nothing_legal : (run : Run) → Legal run []
unfolding Legal
nothing_legal run = tt

pub judges_exactly : JudgesExactly
judges_exactly run es = record {
  whole = λ p. whole_from run [] es (nothing_legal run) p;
  broken = λ place p. is_broken run es place (broken_from run [] es place (nothing_legal run) p);
  finds_whole = λ w. found_whole run [] es w;
  finds_broken = λ place b. found_broken run [] es place (nothing_legal run) (breaks run es place b);
}
