-- Where a state in order has its sets: a row for each plug-in, with a place for each hart.
use Rattle.std.proofs.Common.{◌≡◌, ◌==◌, ◌+◌, ◌<◌, ◌≤◌, ◌∙◌, ℕ, zero, suc, Bool, true, false, List, []}
use Rattle.std.proofs.Common.{length, map, refl, sym, ap, subst, arith, inl, inr}
use Rattle.std.proofs.Common.{Option, Some, None}
use Rattle.std.specs.Prelude.{if◌then◌else◌, All, slice_index_or}
use Rattle.std.specs.List.{range_with_len, filter_map, cons_option, find}
use Rattle.std.proofs.lemmas.Bool.{cases_Bool}
use Rattle.std.proofs.lemmas.Bool.Decides.{nat_tests}
use Rattle.std.proofs.lemmas.List.FromFn.{length-map-range_with_len}
use Rattle.std.proofs.lemmas.List.Elements.{All-nil, All-cons}
use Rattle.flat_model.specs.declared.journals.Item.{Item}
use Rattle.watcher_api.specs.Attachment.{Attachment, set_of}
use Rattle.run_rules.specs.Guest.{Run, plugins}
use Rattle.run_rules.specs.Places.{Place, place_of, is_waiting, is_parked}
use Rattle.run_order.specs.Sets.{sets_for, attachment_of, placed_at}
use Rattle.run_order.specs.InOrder.{Task, Stored, InOrder, task_run}
use Rattle.run_order.proofs.Taking.{map_at}
use Rattle.kept_order.proofs.Tables.{table}
use Rattle.host_state.specs.Tables.{AreWide}

module _ {A : Type 0} (f : ℕ → ℕ → A) (m n : ℕ) where
  pub table_rows : length (table f m n) ≡ n
  table_rows = length-map-range_with_len (λ (p : ℕ). map (f p) (range_with_len 0 m)) 1 n

  pub table_wide : (h : ℕ) → h < m → AreWide h (table f m n)
  table_wide h low k d below =
      let row : slice_index_or (table f m n) k d ≡ map (f (1 + k)) (range_with_len 0 m) =
      map_at (λ (p : ℕ). map (f p) (range_with_len 0 m)) 1 n k d (omega (arith, below, table_rows)) in
      subst (λ (r : List A). h < length r) (sym row) (omega (arith, low, length-map-range_with_len (f (1 + k)) 0 m))

  pub table_at : (i j : ℕ) (d : A) → i < n → j < m → slice_index_or (slice_index_or (table f m n) i []) j d ≡ f (1 + i) j
  table_at i j d row place =
      ap (λ (r : List A). slice_index_or r j d) (map_at (λ (p : ℕ). map (f p) (range_with_len 0 m)) 1 n i [] row)
      ∙ map_at (f (1 + i)) 0 m j d place ∙ ap (f (1 + i)) {x = 0 + j} {y = j} (omega arith)

-- the tables of a state in order
module _ (t : Task) (s : Stored) (o : InOrder t s) where
  pub waiting_long : length s.waiting ≡ length (plugins (task_run t) s.past).plugins
  waiting_long =
      ap (λ (rows : List (List (Option Attachment))). length rows) o.waiting
      ∙ table_rows (placed_at is_waiting (task_run t) s.past) t.machine.harts (length (plugins (task_run t) s.past).plugins)

  pub parked_long : length s.parked ≡ length (plugins (task_run t) s.past).plugins
  parked_long =
      ap (λ (rows : List (List (Option Attachment))). length rows) o.parked
      ∙ table_rows (placed_at is_parked (task_run t) s.past) t.machine.harts (length (plugins (task_run t) s.past).plugins)

  module _ (h : ℕ) (low : h < t.machine.harts) where
    pub waiting_wide : AreWide h s.waiting
    waiting_wide =
        subst (AreWide h) (sym o.waiting)
        (table_wide (placed_at is_waiting (task_run t) s.past) t.machine.harts (length (plugins (task_run t) s.past).plugins) h low)

    pub parked_wide : AreWide h s.parked
    parked_wide =
        subst (AreWide h) (sym o.parked)
        (table_wide (placed_at is_parked (task_run t) s.past) t.machine.harts (length (plugins (task_run t) s.past).plugins) h low)

    pub waiting_at : (i : ℕ) → i < length s.waiting
        → slice_index_or (slice_index_or s.waiting i []) h None ≡ placed_at is_waiting (task_run t) s.past (1 + i) h
    waiting_at i below =
        ap (λ (rows : List (List (Option Attachment))). slice_index_or (slice_index_or rows i []) h None) o.waiting
        ∙ table_at (placed_at is_waiting (task_run t) s.past) t.machine.harts (length (plugins (task_run t) s.past).plugins) i h None
        (omega (arith, below, waiting_long)) low

-- Sets in the order of their plug-ins.

one_of : (there : Bool) (x : Attachment) (rest : List Attachment) (P : Attachment → Type 0)
    → P x → All P rest → All P (cons_option (if there then Some x else None) rest)
one_of true x rest P own others = All-cons P x rest own others
one_of false x rest P own others = others

are_of : (there : ℕ → Bool) (x : ℕ → Attachment) (low high a n : ℕ) → ((k : ℕ) → (x k).plugin ≡ k) → low ≤ a → a + n ≤ high
    → All (λ s. (low ≤ s.plugin) × (s.plugin < high)) (filter_map (λ k. if there k then Some (x k) else None) (range_with_len a n))
are_of there x low high a zero numbers least most = All-nil _
are_of there x low high a (suc n) numbers least most =
    one_of (there a) (x a) (filter_map (λ k. if there k then Some (x k) else None) (range_with_len (a + 1) n))
    (λ s. (low ≤ s.plugin) × (s.plugin < high))
    (omega (arith, numbers a, least), omega (arith, numbers a, most))
    (are_of there x low high (a + 1) n numbers (omega (arith, least)) (omega (arith, most)))

-- the sets in some place have the numbers of the plug-ins
pub sets_have_rows : (test : Place → Bool) (run : Run) (h : ℕ) (past : List Item) (rows : ℕ) → rows ≡ length (plugins run past).plugins
    → All (λ a. (1 ≤ a.plugin) × (a.plugin ≤ rows)) (sets_for test run h past)
sets_have_rows test run h past rows is k d below =
    let n = length (plugins run past).plugins in
    let one = are_of (λ p. test (place_of run p h past)) (λ p. attachment_of run p h past) 1 (1 + n) 1 n (λ p. refl)
    (omega arith) (omega arith) k d below in
    (one.0, omega (arith, one.1, is))

skips : (there : Bool) (x : Attachment) (rest : List Attachment) (q : ℕ) → (x.plugin == q) ≡ false
    → find (λ s. s.plugin == q) (cons_option (if there then Some x else None) rest) ≡ find (λ s. s.plugin == q) rest
skips true x rest q off = rw off refl
skips false x rest q off = refl

takes : (there : Bool) (x : Attachment) (rest : List Attachment) (q : ℕ) → (x.plugin == q) ≡ true → find (λ s. s.plugin == q) rest ≡ None
    → find (λ s. s.plugin == q) (cons_option (if there then Some x else None) rest) ≡ (if there then Some x else None)
takes true x rest q is none = rw is refl
takes false x rest q is none = none

-- the set of a plug-in, where there is one in this place
passed_by : (there : ℕ → Bool) (x : ℕ → Attachment) (q a n : ℕ) → ((k : ℕ) → (x k).plugin ≡ k) → q < a
    → find (λ s. s.plugin == q) (filter_map (λ k. if there k then Some (x k) else None) (range_with_len a n)) ≡ None
passed_by there x q a zero numbers past = refl
passed_by there x q a (suc n) numbers past =
    let rest = filter_map (λ k. if there k then Some (x k) else None) (range_with_len (a + 1) n) in
    let off : ((x a).plugin == q) ≡ false = grind (arith, nat_tests, numbers a, past) in
    skips (there a) (x a) rest q off ∙ passed_by there x q (a + 1) n numbers (omega (arith, past))

found : (there : ℕ → Bool) (x : ℕ → Attachment) (q a n : ℕ) → ((k : ℕ) → (x k).plugin ≡ k) → a ≤ q → q < a + n
    → find (λ s. s.plugin == q) (filter_map (λ k. if there k then Some (x k) else None) (range_with_len a n))
    ≡ (if there q then Some (x q) else None)
found there x q a zero numbers least most = absurd (omega (arith, least, most))
found there x q a (suc n) numbers least most =
    let rest = filter_map (λ k. if there k then Some (x k) else None) (range_with_len (a + 1) n) in
    elim (cases_Bool (a == q)) [
      | inl own ↦
          let at : a ≡ q = grind (arith, nat_tests, own) in
          let is : ((x a).plugin == q) ≡ true = grind (arith, nat_tests, numbers a, at) in
          takes (there a) (x a) rest q is (passed_by there x q (a + 1) n numbers (omega (arith, at)))
          ∙ ap (λ (k : ℕ). if there k then Some (x k) else None) at
      | inr off ↦
          let not_own : ((x a).plugin == q) ≡ false = grind (arith, nat_tests, numbers a, off) in
          let above : a + 1 ≤ q = grind (arith, nat_tests, off, least) in
          skips (there a) (x a) rest q not_own ∙ found there x q (a + 1) n numbers above (omega (arith, most))
    ]

pub set_found : (test : Place → Bool) (run : Run) (h plugin : ℕ) (past : List Item) → 1 ≤ plugin
    → plugin < 1 + length (plugins run past).plugins → set_of plugin (sets_for test run h past) ≡ placed_at test run past plugin h
set_found test run h plugin past one most =
    found (λ p. test (place_of run p h past)) (λ p. attachment_of run p h past) plugin 1 (length (plugins run past).plugins)
    (λ p. refl) one most
