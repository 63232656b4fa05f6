-- The sets of a hart that leaves.
use Rattle.std.proofs.Common.{◌≡◌, ◌==◌, ◌+◌, ◌-◌, ◌<◌, ◌≤◌, ◌∷◌, [], ◌∙◌, ℕ, zero, suc, Bool, true, false, List}
use Rattle.std.proofs.Common.{Option, Some, None, refl, sym, ap, subst, arith, inl, inr, length, map, nat_lt}
use Rattle.std.specs.Prelude.{if◌then◌else◌, slice_index_or, slice_set}
use Rattle.std.specs.List.{range_with_len, filter_map, cons_option}
use Rattle.std.proofs.lemmas.Bool.{cases_Bool, false≢true, lt-ltb, le-ltb}
use Rattle.std.proofs.lemmas.Bool.Decides.{nat_tests}
use Rattle.std.proofs.lemmas.List.{length-map}
use Rattle.flat_model.specs.declared.journals.Item.{Item}
use Rattle.flat_model.specs.declared.journals.Item.TheVariants.{Left}
use Rattle.flat_model.specs.Registry.{registry, without_hart}
use Rattle.flat_model.specs.declared.plugins.SetSpec.{SetSpec}
use Rattle.watcher_api.specs.Attachment.{Attachment}
use Rattle.run_rules.specs.Guest.{Run, plugins}
use Rattle.run_rules.specs.Heard.{progress}
use Rattle.run_rules.specs.Places.{Place, Nowhere, Waiting, WithHart, Parked, Out, place_of, is_waiting, is_with_hart, is_parked, left}
use Rattle.run_rules.proofs.Keeping.{left_sets}
use Rattle.run_order.specs.Sets.{attachment_of, placed_at, shelf}
use Rattle.run_order.specs.Laws.{with_place, park_all, LeavesParkSets}
use Rattle.run_order.proofs.Shelves.{map_same}
use Rattle.run_order.proofs.Taking.{map_set, map_at, placed_by}
use Rattle.run_order.proofs.Installing.{last_made}

-- a Leave changes no set
same_attachment : (run : Run) (h p j : ℕ) (past : List Item) → attachment_of run p j (Left h ∷ past) ≡ attachment_of run p j past
unfolding registry progress
same_attachment run h p j past = ap (λ (sets : List SetSpec). last_made run p j sets past) (left_sets (plugins run past) h p)

left_waiting : (place : Place) → is_waiting (left place) ≡ is_waiting place
left_waiting Nowhere = refl
left_waiting Waiting = refl
left_waiting WithHart = refl
left_waiting Parked = refl
left_waiting Out = refl

-- of the hart's own sets
parks : (place : Place) → is_with_hart place ≡ true → is_parked (left place) ≡ true
parks Nowhere with = absurd (false≢true with)
parks Waiting with = absurd (false≢true with)
parks WithHart with = refl
parks Parked with = absurd (false≢true with)
parks Out with = absurd (false≢true with)

stays_so : (place : Place) → is_with_hart place ≡ false → is_parked (left place) ≡ is_parked place
stays_so Nowhere with = refl
stays_so Waiting with = refl
stays_so WithHart with = absurd (false≢true (sym with))
stays_so Parked with = refl
stays_so Out with = refl

off_place : (run : Run) (h p j : ℕ) (past : List Item) → (h == j) ≡ false → place_of run p j (Left h ∷ past) ≡ place_of run p j past
unfolding place_of
off_place run h p j past off = rw off refl

own_place : (run : Run) (h p : ℕ) (past : List Item) → place_of run p h (Left h ∷ past) ≡ left (place_of run p h past)
unfolding place_of
own_place run h p past =
    let own : (h == h) ≡ true = grind (arith, nat_tests) in
    rw own refl

pub same_waiting : (run : Run) (h p j : ℕ) (past : List Item)
    → is_waiting (place_of run p j (Left h ∷ past)) ≡ is_waiting (place_of run p j past)
unfolding place_of
same_waiting run h p j past =
    elim (cases_Bool (h == j)) [
      | inl own ↦ rw own (left_waiting (place_of run p j past))
      | inr off ↦ rw off refl
    ]

abbrev row : (Place → Bool) → Run → List Item → ℕ → List (Option Attachment)
row test run past plugin = map (placed_at test run past plugin) (range_with_len 0 run.harts)

-- a row whose plug-in has its set with the hart, and one whose plug-in hasn't
row_parks : (run : Run) (h p : ℕ) (past : List Item) → h < run.harts → is_with_hart (place_of run p h past) ≡ true
    → row is_parked run (Left h ∷ past) p ≡ slice_set (row is_parked run past p) h (Some (attachment_of run p h past))
row_parks run h p past low with =
    let now = Left h ∷ past in
    let here : placed_at is_parked run now p h ≡ Some (attachment_of run p h past) =
    ap (λ (q : Place). if is_parked q then Some (attachment_of run p h now) else None) (own_place run h p past)
    ∙ ap (λ (b : Bool). if b then Some (attachment_of run p h now) else None) (parks (place_of run p h past) with)
    ∙ ap (λ (a : Attachment). Some a) (same_attachment run h p h past) in
    map_set (placed_at is_parked run past p) (placed_at is_parked run now p) 0 run.harts h low
    (λ j off. placed_by is_parked run past now p j (same_attachment run h p j past)
    (ap is_parked (off_place run h p j past (grind (arith, nat_tests, off)))))
    ∙ ap (λ (x : Option Attachment). slice_set (row is_parked run past p) h x) (ap (placed_at is_parked run now p) {x = 0 + h} {y = h} (omega arith) ∙ here)

row_stays : (run : Run) (h p : ℕ) (past : List Item) → is_with_hart (place_of run p h past) ≡ false
    → row is_parked run (Left h ∷ past) p ≡ row is_parked run past p
row_stays run h p past without =
    let now = Left h ∷ past in
    map_same (placed_at is_parked run now p) (placed_at is_parked run past p) 0 run.harts
    (λ j least low. elim (cases_Bool (h == j)) [
      | inr off ↦ placed_by is_parked run past now p j (same_attachment run h p j past) (ap is_parked (off_place run h p j past off))
      | inl own ↦
          let e : h ≡ j = grind (arith, nat_tests, own) in
          subst (λ (k : ℕ). placed_at is_parked run now p k ≡ placed_at is_parked run past p k) e
          (placed_by is_parked run past now p h (same_attachment run h p h past)
          (ap is_parked (own_place run h p past) ∙ stays_so (place_of run p h past) without))
    ])

-- the shelf while the hart's sets are put on it, those of the plug-ins below m so far
abbrev mix : Run → ℕ → List Item → ℕ → ℕ → List (Option Attachment)
mix run h past m p = if nat_lt p m then row is_parked run (Left h ∷ past) p else row is_parked run past p

mix_old : (run : Run) (h : ℕ) (past : List Item) (m p : ℕ) → nat_lt p m ≡ false → mix run h past m p ≡ row is_parked run past p
mix_old run h past m p is = ap (λ (b : Bool). if b then row is_parked run (Left h ∷ past) p else row is_parked run past p) is

mix_new : (run : Run) (h : ℕ) (past : List Item) (m p : ℕ) → nat_lt p m ≡ true → mix run h past m p ≡ row is_parked run (Left h ∷ past) p
mix_new run h past m p is = ap (λ (b : Bool). if b then row is_parked run (Left h ∷ past) p else row is_parked run past p) is

mix_other : (run : Run) (h : ℕ) (past : List Item) (a p : ℕ) → (p == a) ≡ false → mix run h past (a + 1) p ≡ mix run h past a p
mix_other run h past a p off =
    let same : nat_lt p (a + 1) ≡ nat_lt p a = grind (arith, nat_tests, off) in
    ap (λ (b : Bool). if b then row is_parked run (Left h ∷ past) p else row is_parked run past p) same

abbrev mixed : Run → ℕ → List Item → ℕ → ℕ → List (List (Option Attachment))
mixed run h past m n = map (mix run h past m) (range_with_len 1 n)

-- one plug-in more
parks_one : (run : Run) (h : ℕ) (past : List Item) (a n : ℕ) → h < run.harts → 1 ≤ a → a ≤ n → is_with_hart (place_of run a h past) ≡ true
    → with_place (mixed run h past a n) (a - 1) h (Some (attachment_of run a h past)) ≡ mixed run h past (a + 1) n
parks_one run h past a n low one most with =
    let rows = mixed run h past a n in
    let number : 1 + (a - 1) ≡ a = omega (arith, one) in
    let index : a - 1 < n = omega (arith, one, most) in
    let old : slice_index_or rows (a - 1) [] ≡ row is_parked run past a =
    map_at (mix run h past a) 1 n (a - 1) [] index ∙ ap (mix run h past a) number
    ∙ mix_old run h past a a (le-ltb a a (omega arith)) in
    let new : slice_set (slice_index_or rows (a - 1) []) h (Some (attachment_of run a h past)) ≡ mix run h past (a + 1) (1 + (a - 1)) =
    ap (λ (xs : List (Option Attachment)). slice_set xs h (Some (attachment_of run a h past))) old
    ∙ sym (row_parks run h a past low with) ∙ sym (mix_new run h past (a + 1) a (lt-ltb a (a + 1) (omega arith)))
    ∙ ap (mix run h past (a + 1)) (sym number) in
    ap (slice_set rows (a - 1)) new
    ∙ sym (map_set (mix run h past a) (mix run h past (a + 1)) 1 n (a - 1) index
    (λ p off. mix_other run h past a p (grind (arith, nat_tests, off, number))))

stays_one : (run : Run) (h : ℕ) (past : List Item) (a n : ℕ) → is_with_hart (place_of run a h past) ≡ false
    → mixed run h past a n ≡ mixed run h past (a + 1) n
stays_one run h past a n without =
    map_same (mix run h past a) (mix run h past (a + 1)) 1 n
    (λ p least most. elim (cases_Bool (p == a)) [
      | inr off ↦ sym (mix_other run h past a p off)
      | inl own ↦
          let e : a ≡ p = grind (arith, nat_tests, own) in
          subst (λ (k : ℕ). mix run h past a k ≡ mix run h past (a + 1) k) e
          (mix_old run h past a a (le-ltb a a (omega arith)) ∙ sym (row_stays run h a past without)
          ∙ sym (mix_new run h past (a + 1) a (lt-ltb a (a + 1) (omega arith))))
    ])

abbrev own_sets : Run → ℕ → List Item → ℕ → ℕ → List Attachment
own_sets run h past a k = filter_map (λ p. placed_at is_with_hart run past p h) (range_with_len a k)

next_sets : (with : Bool) (x : Attachment) (rest : List Attachment) → with ≡ true → cons_option (if with then Some x else None) rest ≡ x ∷ rest
next_sets true x rest is = refl
next_sets false x rest is = absurd (false≢true is)

no_next : (with : Bool) (x : Attachment) (rest : List Attachment) → with ≡ false → cons_option (if with then Some x else None) rest ≡ rest
no_next true x rest is = absurd (false≢true (sym is))
no_next false x rest is = refl

parks_more : (run : Run) (h : ℕ) (past : List Item) (n k a : ℕ) → h < run.harts → 1 ≤ a → a + k ≤ n + 1
    → park_all h (own_sets run h past a k) (mixed run h past a n) ≡ mixed run h past (a + k) n
parks_more run h past n zero a low one most = ap (λ (m : ℕ). mixed run h past m n) (omega arith)
parks_more run h past n (suc k) a low one most =
    let with = is_with_hart (place_of run a h past) in
    let x = attachment_of run a h past in
    let rest = own_sets run h past (a + 1) k in
    let ih : park_all h rest (mixed run h past (a + 1) n) ≡ mixed run h past (a + 1 + k) n =
    parks_more run h past n k (a + 1) low (omega arith) (omega (arith, most)) in
    let last : mixed run h past (a + 1 + k) n ≡ mixed run h past (a + suc k) n = ap (λ (m : ℕ). mixed run h past m n) (omega arith) in
    elim (cases_Bool with) [
      | inl is ↦
          ap (λ (sets : List Attachment). park_all h sets (mixed run h past a n)) (next_sets with x rest is)
          ∙ ap (park_all h rest) (parks_one run h past a n low one (omega (arith, most)) is) ∙ ih ∙ last
      | inr is ↦
          ap (λ (sets : List Attachment). park_all h sets (mixed run h past a n)) (no_next with x rest is)
          ∙ ap (park_all h rest) (stays_one run h past a n is) ∙ ih ∙ last
    ]

pub leaves_park_sets : LeavesParkSets
unfolding registry
leaves_park_sets run h past low =
    let r = plugins run past in
    let n = length r.plugins in
    let now = Left h ∷ past in
    let long : length (map (without_hart h) r.plugins) ≡ n = length-map r.plugins (without_hart h) in
    let begun : mixed run h past 1 n ≡ shelf is_parked run past =
    map_same (mix run h past 1) (row is_parked run past) 1 n (λ p one most. mix_old run h past 1 p (le-ltb p 1 one)) in
    let ended : mixed run h past (1 + n) n ≡ map (row is_parked run now) (range_with_len 1 n) =
    map_same (mix run h past (1 + n)) (row is_parked run now) 1 n (λ p one most. mix_new run h past (1 + n) p (lt-ltb p (1 + n) most)) in (
      ap (λ (k : ℕ). map (row is_parked run now) (range_with_len 1 k)) long ∙ sym ended
          ∙ sym (parks_more run h past n n 1 low (omega arith) (omega arith))
          ∙ ap (park_all h (own_sets run h past 1 n)) begun,
      ap (λ (k : ℕ). map (row is_waiting run now) (range_with_len 1 k)) long
          ∙ map_same (row is_waiting run now) (row is_waiting run past) 1 n
          (λ p one most. map_same (placed_at is_waiting run now p) (placed_at is_waiting run past p) 0 run.harts
          (λ j least high. placed_by is_waiting run past now p j (same_attachment run h p j past) (same_waiting run h p j past))),
    )
