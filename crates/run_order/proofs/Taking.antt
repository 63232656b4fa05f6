-- A set that a hart takes.
use Rattle.std.proofs.Common.{◌≡◌, ◌≢◌, ◌==◌, ◌&&◌, ◌+◌, ◌-◌, ◌<◌, ◌∷◌, [], ◌∙◌, ℕ, zero, suc, Bool, true, false, List}
use Rattle.std.proofs.Common.{Option, Some, None, refl, sym, ap, arith, inl, inr, length, map}
use Rattle.std.specs.Prelude.{if◌then◌else◌, slice_index_or, slice_set}
use Rattle.std.specs.List.{range_with_len}
use Rattle.std.proofs.lemmas.Bool.{cases_Bool, false≢true, and_left, and_right}
use Rattle.std.proofs.lemmas.Bool.Decides.{nat_tests}
use Rattle.flat_model.specs.declared.journals.Item.{Item}
use Rattle.flat_model.specs.declared.journals.Item.TheVariants.{Got}
use Rattle.flat_model.specs.Registry.{registry, plugin_of}
use Rattle.watcher_api.specs.Attachment.{Attachment}
use Rattle.run_rules.specs.Guest.{Run, plugins}
use Rattle.run_rules.specs.Heard.{progress, is_live}
use Rattle.run_rules.specs.Legal.{is_there}
use Rattle.run_rules.specs.Places.{Place, Nowhere, Waiting, WithHart, Parked, Out, place_of, is_waiting, is_with_hart, is_parked, got}
use Rattle.run_rules.proofs.Turns.{rest_true}
use Rattle.run_order.specs.Sets.{attachment_of, placed_at, shelf}
use Rattle.run_order.specs.Laws.{TakesMoveSets}
use Rattle.run_order.proofs.Shelves.{map_same}

-- a list of what numbers give, where one number gives something else
pub map_set : {A : Type 0} (f g : ℕ → A) (a n i : ℕ) → i < n → ((k : ℕ) → k ≢ (a + i) → g k ≡ f k)
    → map g (range_with_len a n) ≡ slice_set (map f (range_with_len a n)) i (g (a + i))
map_set f g a zero i within same = absurd (omega (arith, within))
map_set f g a (suc n) zero within same =
    ap (λ x. x ∷ map g (range_with_len (a + 1) n)) (ap g {x = a} {y = a + 0} (omega arith))
    ∙ ap (λ xs. g (a + 0) ∷ xs) (map_same g f (a + 1) n (λ k low high. same k (λ e. absurd (omega (arith, low, e)))))
map_set f g a (suc n) (suc i) within same =
    ap (λ x. x ∷ map g (range_with_len (a + 1) n)) (same a (λ e. absurd (omega (arith, e))))
    ∙ ap (λ xs. f a ∷ xs) (map_set f g (a + 1) n i (omega (arith, within)) (λ k off. same k (λ e. off (omega (arith, e))))
    ∙ ap (λ (k : ℕ). slice_set (map f (range_with_len (a + 1) n)) i (g k)) (omega arith))

pub map_at : {A : Type 0} (f : ℕ → A) (a n i : ℕ) (d : A) → i < n → slice_index_or (map f (range_with_len a n)) i d ≡ f (a + i)
map_at f a zero i d within = absurd (omega (arith, within))
map_at f a (suc n) zero d within = ap f (omega arith)
map_at f a (suc n) (suc i) d within = map_at f (a + 1) n i d (omega (arith, within)) ∙ ap f (omega arith)

pub waiting_is : (place : Place) → is_waiting place ≡ true → place ≡ Waiting
waiting_is Nowhere is = absurd (false≢true is)
waiting_is Waiting is = refl
waiting_is WithHart is = absurd (false≢true is)
waiting_is Parked is = absurd (false≢true is)
waiting_is Out is = absurd (false≢true is)

got_parked : (place : Place) → is_parked (got place) ≡ is_parked place
got_parked Nowhere = refl
got_parked Waiting = refl
got_parked WithHart = refl
got_parked Parked = refl
got_parked Out = refl

-- to take changes no set
same_attachment : (run : Run) (k q p j : ℕ) (past : List Item) → attachment_of run p j (Got k q ∷ past) ≡ attachment_of run p j past
unfolding registry progress
same_attachment run k q p j past = refl

pub placed_by : (test : Place → Bool) (run : Run) (past now : List Item) (p j : ℕ) → attachment_of run p j now ≡ attachment_of run p j past
    → test (place_of run p j now) ≡ test (place_of run p j past) → placed_at test run now p j ≡ placed_at test run past p j
placed_by test run past now p j same there =
    ap (λ (b : Bool). if b then Some (attachment_of run p j now) else None) there
    ∙ ap (λ (a : Attachment). if test (place_of run p j past) then Some a else None) same

-- another place
pub off_place : (run : Run) (h plugin p j : ℕ) (past : List Item) → ((h == j) && (plugin == p)) ≡ false
    → place_of run p j (Got h plugin ∷ past) ≡ place_of run p j past
unfolding place_of
off_place run h plugin p j past off = rw off refl

pub own_place : (run : Run) (h plugin : ℕ) (past : List Item) → place_of run plugin h (Got h plugin ∷ past) ≡ got (place_of run plugin h past)
unfolding place_of
own_place run h plugin past =
    let own : ((h == h) && (plugin == plugin)) ≡ true = grind (arith, nat_tests) in
    rw own refl

either_place : (run : Run) (h plugin p j : ℕ) (past : List Item) → is_parked (place_of run p j (Got h plugin ∷ past)) ≡ is_parked (place_of run p j past)
unfolding place_of
either_place run h plugin p j past =
    elim (cases_Bool ((h == j) && (plugin == p))) [
      | inl own ↦ rw own (got_parked (place_of run p j past))
      | inr off ↦ rw off refl
    ]

other_placed : (test : Place → Bool) (run : Run) (h plugin p j : ℕ) (past : List Item) → ((h == j) && (plugin == p)) ≡ false
    → placed_at test run (Got h plugin ∷ past) p j ≡ placed_at test run past p j
other_placed test run h plugin p j past off =
    placed_by test run past (Got h plugin ∷ past) p j (same_attachment run h plugin p j past) (ap test (off_place run h plugin p j past off))

abbrev row : (Place → Bool) → Run → List Item → ℕ → List (Option Attachment)
row test run past plugin = map (placed_at test run past plugin) (range_with_len 0 run.harts)

-- the row of the plug-in has one place changed
row_set : (run : Run) (h plugin : ℕ) (past : List Item) → h < run.harts
    → row is_waiting run (Got h plugin ∷ past) plugin
    ≡ slice_set (row is_waiting run past plugin) h (placed_at is_waiting run (Got h plugin ∷ past) plugin h)
row_set run h plugin past low =
    map_set (placed_at is_waiting run past plugin) (placed_at is_waiting run (Got h plugin ∷ past) plugin) 0 run.harts h low
    (λ j off. other_placed is_waiting run h plugin plugin j past
    (and_left (h == j) (plugin == plugin) (grind (arith, nat_tests, off))))
    ∙ ap (λ (k : ℕ). slice_set (row is_waiting run past plugin) h (placed_at is_waiting run (Got h plugin ∷ past) plugin k)) {x = 0 + h} {y = h} (omega arith)

pub takes_move_sets : TakesMoveSets
unfolding registry
takes_move_sets run h plugin past one most low may =
    let r = plugins run past in
    let now = Got h plugin ∷ past in
    let n = length r.plugins in
    let waits : is_waiting (place_of run plugin h past) ≡ true =
    rest_true (is_live (plugin_of r plugin).state) _ (rest_true (is_there run h past) _ may) in
    let at : place_of run plugin h past ≡ Waiting = waiting_is (place_of run plugin h past) waits in
    let moved : place_of run plugin h now ≡ WithHart = own_place run h plugin past ∙ ap got at in
    let gone : placed_at is_waiting run now plugin h ≡ None =
    ap (λ (p : Place). if is_waiting p then Some (attachment_of run plugin h now) else None) moved in
    let index : plugin - 1 < n = omega (arith, one, most) in
    let number : 1 + (plugin - 1) ≡ plugin = omega (arith, one) in
    let rows : map (row is_waiting run now) (range_with_len 1 n)
    ≡ slice_set (map (row is_waiting run past) (range_with_len 1 n)) (plugin - 1) (row is_waiting run now (1 + (plugin - 1))) =
    map_set (row is_waiting run past) (row is_waiting run now) 1 n (plugin - 1) index
    (λ p off. map_same (placed_at is_waiting run now p) (placed_at is_waiting run past p) 0 run.harts
    (λ j least high. other_placed is_waiting run h plugin p j past
    (and_right (h == j) (plugin == p) (grind (arith, nat_tests, off, number))))) in
    let here : row is_waiting run now (1 + (plugin - 1)) ≡ slice_set (slice_index_or (shelf is_waiting run past) (plugin - 1) []) h None =
    ap (row is_waiting run now) number ∙ row_set run h plugin past low
    ∙ ap (λ (x : Option Attachment). slice_set (row is_waiting run past plugin) h x) gone
    ∙ ap (λ (xs : List (Option Attachment)). slice_set xs h None)
    (sym (map_at (row is_waiting run past) 1 n (plugin - 1) [] index ∙ ap (row is_waiting run past) number)) in
    record {
      taken = ap (λ (b : Bool). if b then Some (attachment_of run plugin h past) else None) waits;
      waiting = rows ∙ ap (slice_set (shelf is_waiting run past) (plugin - 1)) here;
      parked = map_same (row is_parked run now) (row is_parked run past) 1 n
          (λ p low high. map_same (placed_at is_parked run now p) (placed_at is_parked run past p) 0 run.harts
          (λ j least more. placed_by is_parked run past now p j (same_attachment run h plugin p j past) (either_place run h plugin p j past)));
      with_hart = ap (λ (p : Place). if is_with_hart p then Some (attachment_of run plugin h now) else None) moved
          ∙ ap (λ (a : Attachment). Some a) (same_attachment run h plugin plugin h past);
    }
