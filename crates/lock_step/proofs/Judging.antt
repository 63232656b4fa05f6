-- How two walks side by side come to a verdict.
use Rattle.std.proofs.Common.{◌≡◌, ◌+◌, ◌-◌, ◌*◌, ◌^◌, ◌<◌, ◌≤◌, ◌==◌, ◌∙◌, ℕ, true, false, List, [], ◌∷◌, ◌++◌, length, cond}
use Rattle.std.proofs.Common.{Option, Some, None, refl, sym, ap, subst, append_assoc, append-nil, length-append, arith, inl, inr}
use Rattle.std.proofs.Math.Nat.{le-mul_of_pos_right, mul_comm}
use Rattle.std.proofs.lemmas.List.Elements.{filter-append}
use Rattle.flat_model.specs.declared.events.Event.{Event}
use Rattle.flat_model.specs.declared.journals.Item.{Item}
use Rattle.flat_model.specs.declared.journals.Mode.{Mode}
use Rattle.flat_model.specs.Log.{log}
use Rattle.flat_model.specs.World.{Machine}
use Rattle.flat_model.specs.Worlds.{events, unplaced}
use Rattle.lock_step.specs.Runs.{IsRun}
use Rattle.lock_step.specs.Tellings.{all_told, of_hart}
use Rattle.std.specs.Prelude.{Result, Ok, Err}
use Rattle.flat_model.specs.declared.refusals.NotThisRun.{NotThisRun}
use Rattle.flat_model.specs.declared.refusals.Refused.{Refused}
use Rattle.flat_model.specs.declared.refusals.Refused.TheVariants.{Because}
use Rattle.lock_step.specs.Walks.{WalkState, HasGiven, HasGivenAll, HasGivenOne, IsStuckAt, HasMoved}
use Rattle.lock_step.specs.declared.walks.Walked.{Walked}
use Rattle.lock_step.specs.declared.walks.Walked.TheVariants as walked
use Rattle.lock_step.proofs.Walking.{stuck_is_no_run}
use Rattle.lock_step.specs.Comparing.{told_by, HasFound, IsJudged}
use Rattle.lock_step.specs.Verdicts.{IsVerdict}
use Rattle.lock_step.specs.declared.verdicts.Verdict.{Verdict}
use Rattle.lock_step.specs.declared.verdicts.Verdict.TheVariants.{Same, Differs, Ends}
use Rattle.lock_step.proofs.Extending.{Extends, tells_on, TellsOn}
use Rattle.lock_step.proofs.Tellings.{harts_tell_their_own}

both_parts : (h : ℕ) (a b : List Event) → of_hart h (a ++ b) ≡ of_hart h a ++ of_hart h b
both_parts h a b = filter-append (λ (e : Event). e.hart == h) a b

-- all that the journal tells begins with what was given
pub record Begins (w : WalkState) : Type 0 where
  pub left : List Event
  pub is : all_told w.machine w.mode (log w.entries) ≡ w.given ++ left

pub begins : (w : WalkState) → HasGiven w → Begins w
begins w g =
    let far : Extends g.past (log w.entries) = record { more = g.more; is = g.begins } in
    let on : TellsOn w.machine w.mode g.past (log w.entries) = tells_on w.machine w.mode g.past (log w.entries) far in
    record {
      left = g.left ++ on.left;
      is = on.is ∙ ap (λ (l : List Event). l ++ on.left) g.told ∙ append_assoc w.given g.left on.left;
    }

pub given_within : (w : WalkState) → HasGiven w → length w.given ≤ length (all_told w.machine w.mode (log w.entries))
given_within w g =
    let b = begins w g in
    let all = ap length b.is ∙ length-append w.given b.left in
    omega (arith, all)

of_one : (h : ℕ) (e : Event) → (e.hart == h) ≡ true → of_hart h (e ∷ []) ≡ e ∷ []
of_one h e is = ap (λ b. cond b (e ∷ []) []) is

of_other : (h : ℕ) (e : Event) → (e.hart == h) ≡ false → of_hart h (e ∷ []) ≡ []
of_other h e is = ap (λ b. cond b (e ∷ []) []) is

-- what is known while the walk passes over events of other harts
pub record Passes (h : ℕ) (first now : WalkState) : Type 0 where
  pub kept : now ≡ record first { given = now.given }
  pub none : of_hart h now.given ≡ of_hart h first.given
  pub further : length first.given ≤ length now.given

pub passes_none : (h : ℕ) (w : WalkState) → Passes h w w
passes_none h w = record { kept = refl; none = refl; further = omega arith }

pub passes_one : (h : ℕ) (first now next : WalkState) (e : Event) → Passes h first now → HasGivenOne now e next → (e.hart == h) ≡ false
    → Passes h first next
passes_one h first now next e p one other =
    let given : next.given ≡ now.given ++ e ∷ [] = ap (λ (w : WalkState). w.given) one.one in
    let more = ap length given ∙ length-append now.given (e ∷ []) in
    let was = p.further in
    record {
      kept = one.one ∙ ap (λ (w : WalkState). record w { given = now.given ++ e ∷ [] }) p.kept
          ∙ ap (λ (l : List Event). record first { given = l }) (sym given);
      none = ap (of_hart h) given ∙ both_parts h now.given (e ∷ []) ∙ ap (λ (l : List Event). of_hart h now.given ++ l) (of_other h e other)
          ∙ append-nil (of_hart h now.given) ∙ p.none;
      further = omega (arith, more, was);
    }

pub nearer : (h : ℕ) (now next : WalkState) (e : Event) → HasGivenOne now e next
    → length (all_told next.machine next.mode (log next.entries)) - length next.given
    < length (all_told now.machine now.mode (log now.entries)) - length now.given
nearer h now next e one =
    let given : next.given ≡ now.given ++ e ∷ [] = ap (λ (w : WalkState). w.given) one.one in
    let more = ap length given ∙ length-append now.given (e ∷ []) in
    let within = given_within next one.given in
    let same : length (all_told next.machine next.mode (log next.entries)) ≡ length (all_told now.machine now.mode (log now.entries)) =
    ap (λ (w : WalkState). length (all_told w.machine w.mode (log w.entries))) one.one in
    omega (arith, more, within, same)

-- an event of the hart is found
pub finds : (h : ℕ) (first now next : WalkState) (e : Event) → h < first.machine.harts → Passes h first now → HasGivenOne now e next
    → (e.hart == h) ≡ true → HasFound h (Some e) first next
finds h first now next e low p one is =
    let given : next.given ≡ now.given ++ e ∷ [] = ap (λ (w : WalkState). w.given) one.one in
    let more = ap length given ∙ length-append now.given (e ∷ []) in
    let was = p.further in
    let b = begins next one.given in
    record {
      kept = one.one ∙ ap (λ (w : WalkState). record w { given = now.given ++ e ∷ [] }) p.kept
          ∙ ap (λ (l : List Event). record first { given = l }) (sym given);
      given = ap (of_hart h) given ∙ both_parts h now.given (e ∷ []) ∙ ap (λ (l : List Event). of_hart h now.given ++ l) (of_one h e is)
          ∙ ap (λ (l : List Event). l ++ e ∷ []) p.none;
      is = record {
        left = of_hart h b.left;
        told = ap (of_hart h) b.is ∙ both_parts h next.given b.left;
        further = omega (arith, more, was);
        within = given_within next one.given;
        few = one.few h (subst (λ (w : WalkState). h < w.machine.harts) (sym (one.one
            ∙ ap (λ (w : WalkState). record w { given = now.given ++ e ∷ [] }) p.kept)) low);
      };
    }

-- or the walk is at its end
pub finds_none : (h : ℕ) (first now next : WalkState) → Passes h first now → next ≡ now → HasGivenAll next → HasFound h None first next
finds_none h first now next p same all = subst (λ (w : WalkState). HasGivenAll w → HasFound h None first w) (sym same)
    (λ gone. record {
      kept = p.kept;
      given = p.none ∙ sym (append-nil (of_hart h first.given));
      is = ap (of_hart h) gone.told;
    }) all

-- What a walk's answer says.

pub moved_one : (r : Result Walked (Refused NotThisRun)) (x : Walked) (e : Event) (old new : WalkState) → r ≡ Ok x → x ≡ walked.Event e
    → HasMoved r old new → HasGivenOne old e new
moved_one r x e old new is what moved =
    subst (λ (y : Walked). HasMoved (Ok y) old new) what (subst (λ (a : Result Walked (Refused NotThisRun)). HasMoved a old new) is moved)

pub not_stuck : (r : Result Walked (Refused NotThisRun)) (x : Refused NotThisRun) (why : NotThisRun) (old new : WalkState) → r ≡ Err x
    → x ≡ Because why → HasMoved r old new → IsRun old.machine old.mode (log old.entries) → ⊥
not_stuck r x why old new is what moved runs =
    let stuck : (new ≡ old) × IsStuckAt new why.place =
    subst (λ (y : Refused NotThisRun). HasMoved (Err y) old new) what
    (subst (λ (a : Result Walked (Refused NotThisRun)). HasMoved a old new) is moved) in
    stuck_is_no_run new why.place stuck.1 (subst (λ (w : WalkState). IsRun w.machine w.mode (log w.entries)) (sym stuck.0) runs)

-- Two walks after as many events of the hart, which are the same.

pub record Beside (h index : ℕ) (first second one other : WalkState) : Type 0 where
  pub kept : one ≡ record first { given = one.given }
  pub kept_beside : other ≡ record second { given = other.given }
  pub same : of_hart h one.given ≡ of_hart h other.given
  pub counted : index ≡ length (of_hart h one.given) + 1

told_same : (h : ℕ) (first now : WalkState) → now ≡ record first { given = now.given } → told_by h now ≡ told_by h first
told_same h first now kept = ap (told_by h) kept

-- the lists of a verdict, as the definitions tell them
pub by_telling : (m : Machine) (mode : Mode) (h : ℕ) (past other : List Item) (v : Verdict)
    → IsVerdict (of_hart h (all_told m mode past)) (of_hart h (all_told m mode other)) v
    → IsVerdict (unplaced (events m mode h past)) (unplaced (events m mode h other)) v
by_telling m mode h past other v is =
    subst (λ (l : List Event). IsVerdict l (unplaced (events m mode h other)) v) (harts_tell_their_own m mode h past)
    (subst (λ (l : List Event). IsVerdict (of_hart h (all_told m mode past)) l v) (harts_tell_their_own m mode h other) is)

pub kept_on : (first now next : WalkState) → now ≡ record first { given = now.given } → next ≡ record now { given = next.given }
    → next ≡ record first { given = next.given }
kept_on first now next was is = is ∙ ap (λ (w : WalkState). record w { given = next.given }) was

-- both have the same next event
pub goes_beside : (h index : ℕ) (first second one other one' other' : WalkState) (e : Event) → Beside h index first second one other
    → HasFound h (Some e) one one' → HasFound h (Some e) other other' → Beside h (index + 1) first second one' other'
goes_beside h index first second one other one' other' e b found found_beside =
    let counted = b.counted in
    let more = ap length found.given ∙ length-append (of_hart h one.given) (e ∷ []) in
    record {
      kept = kept_on first one one' b.kept found.kept;
      kept_beside = kept_on second other other' b.kept_beside found_beside.kept;
      same = found.given ∙ ap (λ (l : List Event). l ++ e ∷ []) b.same ∙ sym found_beside.given;
      counted = omega (arith, counted, more);
    }

-- the lists of the whole journals
list_ends : (h : ℕ) (first now next : WalkState) → now ≡ record first { given = now.given } → HasFound h None now next
    → told_by h first ≡ of_hart h now.given
list_ends h first now next kept found =
    sym (told_same h first next (kept_on first now next kept found.kept)) ∙ found.is ∙ found.given ∙ append-nil (of_hart h now.given)

pub record ListGoesOn (h : ℕ) (first now : WalkState) (e : Event) : Type 0 where
  pub left : List Event
  pub is : told_by h first ≡ of_hart h now.given ++ e ∷ left

list_goes_on : (h : ℕ) (first now next : WalkState) (e : Event) → now ≡ record first { given = now.given } → HasFound h (Some e) now next
    → ListGoesOn h first now e
list_goes_on h first now next e kept found = record {
  left = found.is.left;
  is = sym (told_same h first next (kept_on first now next kept found.kept)) ∙ found.is.told
      ∙ ap (λ (l : List Event). l ++ found.is.left) found.given ∙ append_assoc (of_hart h now.given) (e ∷ []) found.is.left;
}

-- what the verdict says of them
pub judges : (h index : ℕ) (first second one other one' other' : WalkState) (a b : Option Event) (v : Verdict)
    → Beside h index first second one other → HasFound h a one one' → HasFound h b other other' → IsJudged (Some v) a b index
    → IsVerdict (told_by h first) (told_by h second) v
judges h index first second one other one' other' a b (Same events) s found found_beside is =
    let mine = list_ends h first one one' s.kept (subst (λ (o : Option Event). HasFound h o one one') is.0 found) in
    let its = list_ends h second other other' s.kept_beside (subst (λ (o : Option Event). HasFound h o other other') is.1 found_beside) in
    let counted = s.counted in
    let all = ap length mine in
    let events_is = is.2 in
    (mine ∙ s.same ∙ sym its, omega (arith, counted, all, events_is))
judges h index first second one other one' other' a b (Differs place first_step second_step) s found found_beside
    (x, y, a_is, b_is, differ, place_is, first_is, second_is) =
    let mine = list_goes_on h first one one' x s.kept (subst (λ (o : Option Event). HasFound h o one one') a_is found) in
    let its = list_goes_on h second other other' y s.kept_beside (subst (λ (o : Option Event). HasFound h o other other') b_is found_beside) in (
      x,
      y,
      record {
        common = of_hart h one.given;
        first_left = mine.left;
        second_left = its.left;
        first_is = mine.is;
        second_is = its.is ∙ ap (λ (l : List Event). l ++ y ∷ its.left) (sym s.same);
        index_is = place_is ∙ s.counted;
        differ = differ;
      },
      first_is,
      second_is,
    )
judges h index first second one other one' other' a b (Ends which place) s found found_beside (e, inl (is, a_is, b_is), place_is) =
    let mine = list_ends h first one one' s.kept (subst (λ (o : Option Event). HasFound h o one one') a_is found) in
    let its = list_goes_on h second other other' e s.kept_beside (subst (λ (o : Option Event). HasFound h o other other') b_is found_beside) in
    inl (
      is,
      record {
        next = e;
        left = its.left;
        second_is = its.is ∙ ap (λ (l : List Event). l ++ e ∷ its.left) (sym (mine ∙ s.same));
        index_is = place_is ∙ s.counted ∙ ap (λ (l : List Event). length l + 1) (sym mine);
      },
    )
judges h index first second one other one' other' a b (Ends which place) s found found_beside (e, inr (is, a_is, b_is), place_is) =
    let mine = list_goes_on h first one one' e s.kept (subst (λ (o : Option Event). HasFound h o one one') a_is found) in
    let its = list_ends h second other other' s.kept_beside (subst (λ (o : Option Event). HasFound h o other other') b_is found_beside) in
    inr (
      is,
      record {
        next = e;
        left = mine.left;
        second_is = mine.is ∙ ap (λ (l : List Event). l ++ e ∷ mine.left) (s.same ∙ sym its);
        index_is = place_is ∙ s.counted ∙ ap (λ (l : List Event). length l + 1) (s.same ∙ sym its);
      },
    )

-- the index stays small: a hart has at most 6 events a step
some_times : (n limit : ℕ) → 1 ≤ n → limit ≤ n * limit
some_times n limit some = subst (λ (k : ℕ). limit ≤ k) (mul_comm limit n) (le-mul_of_pos_right limit some)

pub index_fits : (h index n limit : ℕ) (first second one other one' : WalkState) (a : Option Event) (e : Event)
    → Beside h index first second one other → HasFound h a one one' → a ≡ Some e → first.machine.limit ≡ limit → 1 ≤ n
    → n * limit ≤ 32000000 → index + 1 < 2 ^ 64
index_fits h index n limit first second one other one' a e b found is at some most =
    let next : HasFound h (Some e) one one' = subst (λ (o : Option Event). HasFound h o one one') is found in
    let few = next.is.few in
    let same : one'.machine.limit ≡ limit = ap (λ (w : WalkState). w.machine.limit) (kept_on first one one' b.kept next.kept) ∙ at in
    let more = ap length next.given ∙ length-append (of_hart h one.given) (e ∷ []) in
    let counted = b.counted in
    let low = some_times n limit some in
    omega (arith, few, same, more, counted, low, most)
