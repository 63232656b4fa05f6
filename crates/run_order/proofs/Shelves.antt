-- Sets that wait or are parked, while a hart steps.
use Rattle.std.proofs.Common.{◌≡◌, ◌==◌, ◌&&◌, ◌+◌, ◌<◌, ◌≤◌, ◌∷◌, ◌∙◌, ℕ, zero, suc, Bool, true, false, not, List}
use Rattle.std.proofs.Common.{Some, None, refl, sym, ap, arith, inl, inr, length, map}
use Rattle.std.specs.Prelude.{if◌then◌else◌, slice_index_or}
use Rattle.std.specs.List.{list_all, range_with_len}
use Rattle.std.proofs.lemmas.Bool.{cases_Bool, false≢true}
use Rattle.std.proofs.lemmas.Bool.Decides.{nat_tests}
use Rattle.flat_model.specs.declared.plugins.SetSpec.{SetSpec}
use Rattle.flat_model.specs.declared.journals.Item.{Item}
use Rattle.flat_model.specs.declared.journals.Item.TheVariants.{Step}
use Rattle.flat_model.specs.declared.journals.PlugState.{PlugState}
use Rattle.flat_model.specs.declared.journals.PlugState.TheVariants.{Live, Idle, Resetting, Leaving, Gone}
use Rattle.flat_model.specs.Log.{steps}
use Rattle.flat_model.specs.Registry.{Plugins, registry, plugin_of, sets_of, is_hart, has_left}
use Rattle.watcher_api.specs.Attachment.{Attachment}
use Rattle.run_rules.specs.Guest.{Run, plugins}
use Rattle.run_rules.specs.Heard.{progress, last_set, no_set, is_live, is_listening}
use Rattle.run_rules.specs.Legal.{Legal, is_there}
use Rattle.run_rules.specs.Places.{Place, Nowhere, Waiting, WithHart, Parked, Out, IsStateLog, place_of, is_waiting, is_parked, takes_all, fits, owed_by}
use Rattle.run_rules.proofs.Endings.{last_sets_listen_while_live}
use Rattle.run_rules.proofs.Fitting.{places_fit}
use Rattle.run_rules.proofs.Growing.{step_none}
use Rattle.run_rules.proofs.Tails.{hears_none}
use Rattle.run_rules.proofs.Turns.{first_true, rest_true}
use Rattle.run_order.specs.Sets.{attachment_of, placed_at, shelf}
use Rattle.run_order.specs.Laws.{TurnsKeepShelves}
use Rattle.run_order.proofs.Staying.{made_by}

-- a list of what numbers give, by the numbers in it
pub map_same : {A : Type 0} (f g : ℕ → A) (a n : ℕ) → ((k : ℕ) → a ≤ k → k < a + n → f k ≡ g k)
    → map f (range_with_len a n) ≡ map g (range_with_len a n)
map_same f g a zero same = refl
map_same f g a (suc n) same =
    ap (λ x. x ∷ map f (range_with_len (a + 1) n)) (same a (omega arith) (omega arith))
    ∙ ap (λ xs. g a ∷ xs) (map_same f g (a + 1) n (λ k low high. same k (omega (arith, low)) (omega (arith, high))))

all_at : (f : ℕ → Bool) (a n k : ℕ) → list_all f (range_with_len a n) ≡ true → a ≤ k → k < a + n → f k ≡ true
all_at f a zero k every low high = absurd (omega (arith, low, high))
all_at f a (suc n) k every low high =
    elim (cases_Bool (a == k)) [
      | inl at ↦
          let e : a ≡ k = grind (arith, nat_tests, at) in
          ap f (sym e) ∙ first_true (f a) _ every
      | inr off ↦
          let above : a + 1 ≤ k = grind (arith, nat_tests, off, low) in
          all_at f (a + 1) n k (rest_true (f a) _ every) above (omega (arith, high))
    ]

waits_none : (place : Place) → not (is_waiting place) ≡ true → is_waiting place ≡ false
waits_none Nowhere is = refl
waits_none Waiting is = absurd (false≢true is)
waits_none WithHart is = refl
waits_none Parked is = refl
waits_none Out is = refl

-- a set that is parked for a hart that is there is being withdrawn
parked_dead : (place : Place) (s : PlugState) (o : Bool) → is_parked place ≡ true → fits place s o false ≡ true → is_live s ≡ false
parked_dead Nowhere s o is f = absurd (false≢true is)
parked_dead Waiting s o is f = absurd (false≢true is)
parked_dead WithHart s o is f = absurd (false≢true is)
parked_dead Out s o is f = absurd (false≢true is)
parked_dead Parked Live true is f = absurd (false≢true f)
parked_dead Parked Live false is f = absurd (false≢true f)
parked_dead Parked Idle o is f = refl
parked_dead Parked Resetting o is f = refl
parked_dead Parked Leaving o is f = refl
parked_dead Parked Gone o is f = refl

keeps_if : (test : Bool) (x y : Attachment) → (test ≡ true → x ≡ y) → (if test then Some x else None) ≡ (if test then Some y else None)
keeps_if true x y same = ap (λ (z : Attachment). Some z) (same refl)
keeps_if false x y same = refl

-- what a set has made of events changes with what it has heard alone
made_same : (run : Run) (plugin j h : ℕ) (past : List Item)
    → ((spec : SetSpec) → progress run spec plugin (last_set (plugins run past) plugin) j (Step h ∷ past)
    ≡ progress run spec plugin (last_set (plugins run past) plugin) j past)
    → attachment_of run plugin j (Step h ∷ past) ≡ attachment_of run plugin j past
unfolding registry
made_same run plugin j h past same =
    let r = plugins run past in
    let spec = slice_index_or (sets_of r plugin) (last_set r plugin) no_set in
    ap (made_by plugin spec) (same spec)

not_left : (r : Plugins) (h : ℕ) → (is_hart r h && not (has_left r h)) ≡ true → has_left r h ≡ false
not_left r h is = elim (cases_Bool (has_left r h)) [
  | inl gone ↦ absurd (false≢true (sym (ap not gone) ∙ rest_true (is_hart r h) (not (has_left r h)) is))
  | inr stays ↦ stays
]

-- a step of a hart, at one plug-in and hart
step_waiting : (run : Run) (h : ℕ) (past : List Item) (plugin j : ℕ) → 1 ≤ plugin → plugin < 1 + length (plugins run past).plugins
    → takes_all run h past ≡ true → placed_at is_waiting run (Step h ∷ past) plugin j ≡ placed_at is_waiting run past plugin j
unfolding place_of
step_waiting run h past plugin j one most takes =
    keeps_if (is_waiting (place_of run plugin j past)) (attachment_of run plugin j (Step h ∷ past)) (attachment_of run plugin j past)
    (λ waits. elim (cases_Bool (h == j)) [
      | inr off ↦ made_same run plugin j h past (λ spec. hears_none run spec plugin (last_set (plugins run past) plugin) j (Step h) past off)
      | inl own ↦
          let e : h ≡ j = grind (arith, nat_tests, own) in
          let none : is_waiting (place_of run plugin h past) ≡ false =
          waits_none (place_of run plugin h past)
          (all_at (λ p. not (is_waiting (place_of run p h past))) 1 (length (plugins run past).plugins) plugin takes one most) in
          absurd (false≢true (sym none ∙ ap (λ (k : ℕ). is_waiting (place_of run plugin k past)) e ∙ waits))
    ])

step_parked : (run : Run) (h : ℕ) (past : List Item) (plugin j : ℕ) → 1 ≤ plugin → j < run.harts
    → Legal run past → IsStateLog run past → is_there run h past ≡ true
    → placed_at is_parked run (Step h ∷ past) plugin j ≡ placed_at is_parked run past plugin j
unfolding place_of
step_parked run h past plugin j one low legal state there =
    let r = plugins run past in
    keeps_if (is_parked (place_of run plugin j past)) (attachment_of run plugin j (Step h ∷ past)) (attachment_of run plugin j past)
    (λ parked. elim (cases_Bool (h == j)) [
      | inr off ↦ made_same run plugin j h past (λ spec. hears_none run spec plugin (last_set r plugin) j (Step h) past off)
      | inl own ↦
          let e : h ≡ j = grind (arith, nat_tests, own) in
          let stays : has_left r j ≡ false = ap (has_left r) (sym e) ∙ not_left r h there in
          let f : fits (place_of run plugin j past) (plugin_of r plugin).state (owed_by r plugin j) false ≡ true =
          ap (λ (g : Bool). fits (place_of run plugin j past) (plugin_of r plugin).state (owed_by r plugin j) g) (sym stays)
          ∙ places_fit run plugin j past one low legal state in
          let dead = parked_dead (place_of run plugin j past) (plugin_of r plugin).state (owed_by r plugin j) parked f in
          let silent : is_listening r plugin (last_set r plugin) ≡ false = last_sets_listen_while_live run plugin past one legal dead in
          made_same run plugin j h past (λ spec. step_none run spec plugin (last_set r plugin) j h past silent)
    ])

abbrev Kept : Run → List Item → List Item → Type 0
Kept run now past = (shelf is_waiting run now ≡ shelf is_waiting run past) × (shelf is_parked run now ≡ shelf is_parked run past)

step_keeps : (run : Run) (h : ℕ) (past : List Item) → Legal run (Step h ∷ past) → IsStateLog run (Step h ∷ past) → Kept run (Step h ∷ past) past
unfolding Legal IsStateLog registry
step_keeps run h past legal state =
    let n = length (plugins run past).plugins in
    let there : is_there run h past ≡ true = first_true _ _ legal.1 in (
      map_same (λ p. map (placed_at is_waiting run (Step h ∷ past) p) (range_with_len 0 run.harts))
          (λ p. map (placed_at is_waiting run past p) (range_with_len 0 run.harts)) 1 n
          (λ p one most. map_same (placed_at is_waiting run (Step h ∷ past) p) (placed_at is_waiting run past p) 0 run.harts
          (λ j least low. step_waiting run h past p j one most state.1)),
      map_same (λ p. map (placed_at is_parked run (Step h ∷ past) p) (range_with_len 0 run.harts))
          (λ p. map (placed_at is_parked run past p) (range_with_len 0 run.harts)) 1 n
          (λ p one most. map_same (placed_at is_parked run (Step h ∷ past) p) (placed_at is_parked run past p) 0 run.harts
          (λ j least low. step_parked run h past p j one (omega (arith, low)) legal.0 state.0 there)),
    )

pub turns_keep_shelves : TurnsKeepShelves
unfolding Legal IsStateLog
turns_keep_shelves run h zero past legal state = (refl, refl)
turns_keep_shelves run h (suc n) past legal state =
    let rest = turns_keep_shelves run h n past legal.0 state.0 in
    let one = step_keeps run h (steps h n past) legal state in
    (one.0 ∙ rest.0, one.1 ∙ rest.1)
