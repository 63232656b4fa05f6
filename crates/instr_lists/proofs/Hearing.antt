-- Slots whose acts are carried out one after the other.
use Rattle.std.proofs.Common.{◌≡◌, ◌<◌, ◌+◌, ◌∙◌, ◌++◌, ◌∷◌, [], ℕ, zero, suc, true, false, List, length, map, take, refl, sym, ap, subst, arith, All, MatchResult}
use Rattle.std.specs.Prelude.{slice_index_or, Result, Ok, Err, IsErr}
use Rattle.std.proofs.lemmas.List.{length-map, get_or_default}
use Rattle.std.proofs.Math.ListN.{get_or-map as get_or-map'}
use Rattle.flat_model.specs.declared.events.Event.{Event}
use Rattle.flat_model.specs.declared.plugins.Act.{Act}
use Rattle.flat_model.specs.declared.plugins.Ask.{Ask}
use Rattle.event_walk.specs.Walk.{Walk}
use Rattle.watcher_api.specs.Attachment.{Attachment, calls_at}
use Rattle.watcher_api.specs.Acting.{acts_of, acts_at, act_in, walks_of, column_at, with_act, no_walk, IsAbsent}
use Rattle.instr_lists.specs.declared.slots.Slot.{Slot}
use Rattle.instr_lists.specs.Delivery.{act_at, IsThere, all_act, StopsAtSlot}
use Rattle.instr_lists.proofs.InARow.{take_here}

pub by_err : {A B : Type 0} (P : A → Type 0) (Q : B → Type 0) (r : Result A B) → IsErr r → ((e : B) → Q e) → MatchResult r P Q
by_err P Q (Ok x) is q = absurd (subst (λ b. elim b as (λ _. Type 0) [ true ↦ ⊥ | false ↦ Unit {0} ]) is tt)
by_err P Q (Err e) is q = q e

-- sets with the same numbers and acts

pub acts_alone : (sets : List Attachment) → map (λ (p : ℕ × List Act). p.1) (acts_of sets) ≡ map (λ (a : Attachment). a.acts) sets
acts_alone [] = refl
acts_alone (a ∷ sets) = ap (λ l. a.acts ∷ l) (acts_alone sets)

numbers_alone : (sets : List Attachment) → map (λ (p : ℕ × List Act). p.0) (acts_of sets) ≡ map (λ (a : Attachment). a.plugin) sets
numbers_alone [] = refl
numbers_alone (a ∷ sets) = ap (λ l. a.plugin ∷ l) (numbers_alone sets)

pub same_acts : (a b : List Attachment) → acts_of a ≡ acts_of b → map (λ (s : Attachment). s.acts) a ≡ map (λ (s : Attachment). s.acts) b
same_acts a b same = sym (acts_alone a) ∙ (ap (map (λ (p : ℕ × List Act). p.1)) same ∙ acts_alone b)

same_numbers : (a b : List Attachment) → acts_of a ≡ acts_of b
    → map (λ (s : Attachment). s.plugin) a ≡ map (λ (s : Attachment). s.plugin) b
same_numbers a b same = sym (numbers_alone a) ∙ (ap (map (λ (p : ℕ × List Act). p.0)) same ∙ numbers_alone b)

pub absent_same : (p : ℕ) (a b : List Attachment) → acts_of a ≡ acts_of b → IsAbsent p b → IsAbsent p a
absent_same p a b same absent k d below is =
    let numbers = same_numbers a b same in
    let long : k < length b = omega (arith, below, ap length numbers, length-map a (λ (s : Attachment). s.plugin), length-map b (λ (s : Attachment). s.plugin)) in
    let there : (slice_index_or a k d).plugin ≡ (slice_index_or b k d).plugin =
    sym (get_or-map' (λ (s : Attachment). s.plugin) a k d)
    ∙ (ap (λ l. slice_index_or l k d.plugin) numbers ∙ get_or-map' (λ (s : Attachment). s.plugin) b k d) in
    absent k d long (sym there ∙ is)

pub sub_there : (a b : List Attachment) (slots : List Slot) (i : ℕ) (d : Slot) → acts_of a ≡ acts_of b
    → All (IsThere (map (λ (s : Attachment). s.acts) b)) slots → i < length slots
    → (slice_index_or slots i d).sub < length (acts_at a (slice_index_or slots i d).set)
sub_there a b slots i d same there below =
    let slot = slice_index_or slots i d in
    subst (λ (l : List (List Act)). slot.sub < length (slice_index_or l slot.set [])) (sym (same_acts a b same)) (there i d below).sub

-- slots one after the other

pub act_on : (acts : List (List Act)) (e : Event) (xs ys : List Slot) (ws : List Walk)
    → all_act acts e (xs ++ ys) ws ≡ all_act acts e ys (all_act acts e xs ws)
unfolding all_act
act_on acts e [] ys ws = refl
act_on acts e (x ∷ xs) ys ws = act_on acts e xs ys (with_act x.set x.sub (act_at acts x) e ws)

pub act_more : (acts : List (List Act)) (e : Event) (slots : List Slot) (i : ℕ) (d : Slot) (ws : List Walk) → i < length slots
    → all_act acts e (take (i + 1) slots) ws
    ≡ with_act (slice_index_or slots i d).set (slice_index_or slots i d).sub (act_at acts (slice_index_or slots i d)) e
    (all_act acts e (take i slots) ws)
unfolding all_act
act_more acts e slots i d ws below =
    let x = slice_index_or slots i d in
    ap (λ l. all_act acts e l ws) (take_here slots i x below (get_or_default slots i d x below))
    ∙ act_on acts e (take i slots) (x ∷ []) ws

pub none_act : (acts : List (List Act)) (e : Event) (ws : List Walk) → all_act acts e [] ws ≡ ws
unfolding all_act
none_act acts e ws = refl

column_there : (asks : List Ask) (sets : List Attachment) (k : ℕ) → k < length sets
    → column_at sets k ≡ (slice_index_or (walks_of asks sets) k no_walk).column
column_there asks (a ∷ sets) zero below = refl
column_there asks (a ∷ sets) (suc k) below = column_there asks sets k (omega (arith, below))
column_there asks [] k below = absurd (omega (arith, below))

-- an act that was refused
pub stops : (acts : List (List Act)) (e : Event) (slots : List Slot) (i : ℕ) (x : Slot) (sets : List Attachment) (asks : List Ask)
    (from : List Walk) → i < length slots
    → map (λ (s : Attachment). s.acts) sets ≡ acts → All (IsThere acts) slots
    → calls_at (act_in (acts_at sets (slice_index_or slots i x).set) (slice_index_or slots i x).sub)
    (column_at sets (slice_index_or slots i x).set) ≡ true
    → walks_of asks sets ≡ all_act acts e (take i slots) from
    → StopsAtSlot acts e slots from (walks_of asks sets)
stops acts e slots i x sets asks from below same there calls came =
    let slot = slice_index_or slots i x in
    let set : slot.set < length sets = omega (arith, (there i x below).set, ap length same, length-map sets (λ (s : Attachment). s.acts)) in
    let now : calls_at (act_at acts slot) (slice_index_or (walks_of asks sets) slot.set no_walk).column ≡ true =
    subst (λ (l : List (List Act)). calls_at (act_in (slice_index_or l slot.set []) slot.sub)
    (slice_index_or (walks_of asks sets) slot.set no_walk).column ≡ true) same
    (subst (λ c. calls_at (act_in (acts_at sets slot.set) slot.sub) c ≡ true) (column_there asks sets slot.set set) calls) in
    record {
      place = i;
      within = below;
      calls = λ d. subst (λ (s : Slot). calls_at (act_at acts s) (slice_index_or (walks_of asks sets) s.set no_walk).column ≡ true)
          (get_or_default slots i x d below) now;
      came = came;
    }
