-- What the last take of a gate tells, whose runners' passes were joined into the one that takes.
use Rattle.std.proofs.Common.{◌≡◌, ◌≢◌, ◌+◌, ◌-◌, ◌<◌, ◌≤◌, ◌∷◌, [], ◌++◌, ◌∙◌, ℕ, zero, suc, Bool, true, false, List}
use Rattle.std.proofs.Common.{refl, sym, ap, subst, arith, length, map, get_or, nat_lt, append_assoc}
use Rattle.std.specs.Prelude.{All, slice_index_or}
use Rattle.std.specs.List.{range_with_len}
use Rattle.std.proofs.lemmas.Bool.{false≢true, lt-ltb}
use Rattle.std.proofs.lemmas.List.{get_or-map, get_or-set_same, length-map, length-append}
use Rattle.std.proofs.lemmas.List.Elements.{All-nil, All-cons, All-head, All-tail, All-map, All-append}
use Rattle.std.proofs.lemmas.List.FromFn.{get_or-range_with_len, length-range_with_len}
use Rattle.flat_model.specs.declared.journals.Item.{Item}
use Rattle.flat_model.specs.declared.journals.Item.TheVariants.{Step, Ordered, GaveBack, Left, Told, Got, Took}
use Rattle.flat_model.specs.declared.journals.Order.{Order}
use Rattle.flat_model.specs.declared.journals.Origin.{Origin}
use Rattle.flat_model.specs.declared.journals.Origin.TheVariants.{Start, Script, Asked, Control}
use Rattle.flat_model.specs.Log.{party}
use Rattle.flat_model.specs.Registry.{registry, is_hart, has_left}
use Rattle.run_rules.specs.Guest.{Run, plugins}
use Rattle.run_rules.specs.Legal.{Legal, MayOrder}
use Rattle.kept_order.proofs.Gone.{as_many}
use Rattle.kept_order.proofs.Leaves.{knows_harts}
use Rattle.kept_order.proofs.Seats.{left_is_left}
use Rattle.baton_gate.specs.Logs.{GoesOn, Ahead, Within}
use Rattle.hart_runner.specs.Turns.{HasLeftLast}
use Rattle.host_core.specs.Runs.{IsGivenInside, IsUncontrolled}
use Rattle.host_core.specs.Settling.{IsSettledBy}

-- Values that are numbered from 0.

module _ {A : Type 0} (f : A → ℕ) where
  pub each_low : (xs : List A) (n : ℕ) → map f xs ≡ range_with_len 0 n → All (λ x. f x < n) xs
  each_low xs n is k d below =
      let count : length xs ≡ n = sym (length-map xs f) ∙ ap (λ (ys : List ℕ). length ys) is ∙ length-range_with_len 0 n in
      let at : f (get_or xs k d) ≡ 0 + k =
      sym (get_or-map f xs k d 0 below) ∙ ap (λ (ys : List ℕ). get_or ys k 0) is
      ∙ get_or-range_with_len 0 n k 0 (omega (arith, below, count)) in
      omega (arith, at, below, count)

  pub at_each : (P : ℕ → Type 0) (xs : List A) (n : ℕ) → All (λ x. P (f x)) xs → map f xs ≡ range_with_len 0 n
      → (h : ℕ) → h < n → P h
  at_each P xs n all is h low =
      let mapped : All P (range_with_len 0 n) = subst (λ (ys : List ℕ). All P ys) is (All-map P f xs all) in
      let there : P (get_or (range_with_len 0 n) h 0) = mapped h 0 (omega (arith, low, length-range_with_len 0 n)) in
      let at : get_or (range_with_len 0 n) h 0 ≡ h = get_or-range_with_len 0 n h 0 low ∙ omega arith in
      subst P at there

pub unmapped : {A B : Type 0} (P : B → Type 0) (f : A → B) (xs : List A) → All P (map f xs) → All (λ x. P (f x)) xs
unmapped P f [] all = All-nil (λ x. P (f x))
unmapped P f (x ∷ xs) all =
    All-cons (λ y. P (f y)) x xs (All-head P (f x) (map f xs) all) (unmapped P f xs (All-tail P (f x) (map f xs) all))

-- Harts that have left.

gone_then : (run : Run) (h : ℕ) (before : List Item) → h < run.harts → has_left (plugins run (Left h ∷ before)) h ≡ true
unfolding registry
gone_then run h before low =
    get_or-set_same (plugins run before).gone h true false (omega (arith, low, (knows_harts run before).gone))

pub gone_still : (run : Run) (h : ℕ) (seen now : List Item) → h < run.harts → HasLeftLast h seen → Ahead party now h seen
    → has_left (plugins run now) h ≡ true
gone_still run h seen now low left ahead =
    let here : has_left (plugins run seen) h ≡ true =
    subst (λ (xs : List Item). has_left (plugins run xs) h ≡ true) (sym left.last) (gone_then run h left.before low) in
    subst (λ (xs : List Item). has_left (plugins run xs) h ≡ true) (sym ahead.begins) (left_is_left run h ahead.more seen here)

beyond : (bs : List Bool) (k : ℕ) → length bs ≤ k → slice_index_or bs k false ≡ false
beyond [] k far = refl
beyond (b ∷ bs) zero far = absurd (omega (arith, far))
beyond (b ∷ bs) (suc k) far = beyond bs k (omega (arith, far))

-- a party that is no hart hasn't left
pub never_left : (run : Run) (by : ℕ) (past : List Item) → run.harts ≤ by → has_left (plugins run past) by ≡ false
never_left run by past far = beyond (plugins run past).gone by (omega (arith, far, (knows_harts run past).gone))

-- Orders of controllers.

-- a controller is no hart
no_hart : (run : Run) (p : ℕ) (past : List Item) → is_hart (plugins run past) p ≡ false → p < run.harts → ⊥
no_hart run p past off low =
    false≢true (sym off ∙ ap (λ (n : ℕ). nat_lt p n) (as_many run past) ∙ lt-ltb p run.harts low)

given_inside : (run : Run) (origin : Origin) (order : Order) (past : List Item) → MayOrder run origin order past
    → party (Ordered origin order) < run.harts → IsGivenInside origin
given_inside run Start order past may low = tt
given_inside run (Script line by) order past may low = tt
given_inside run (Asked hart plugin) order past may low = tt
given_inside run (Control by) order past may low = no_hart run by past may.given.1 low

none_controls : (run : Run) (more past : List Item) → Legal run (more ++ past) → All (λ i. party i < run.harts) more
    → All IsUncontrolled more
unfolding Legal
none_controls run [] past legal low = All-nil IsUncontrolled
none_controls run (Step hart ∷ more) past legal low =
    All-cons IsUncontrolled (Step hart) more tt
    (none_controls run more past legal.0 (All-tail (λ i. party i < run.harts) (Step hart) more low))
none_controls run (Ordered origin order ∷ more) past legal low =
    All-cons IsUncontrolled (Ordered origin order) more
    (given_inside run origin order (more ++ past) legal.1 (All-head (λ i. party i < run.harts) (Ordered origin order) more low))
    (none_controls run more past legal.0 (All-tail (λ i. party i < run.harts) (Ordered origin order) more low))
none_controls run (GaveBack hart plugin ∷ more) past legal low =
    All-cons IsUncontrolled (GaveBack hart plugin) more tt
    (none_controls run more past legal.0 (All-tail (λ i. party i < run.harts) (GaveBack hart plugin) more low))
none_controls run (Left hart ∷ more) past legal low =
    All-cons IsUncontrolled (Left hart) more tt
    (none_controls run more past legal.0 (All-tail (λ i. party i < run.harts) (Left hart) more low))
none_controls run (Told by plugin ∷ more) past legal low =
    All-cons IsUncontrolled (Told by plugin) more tt
    (none_controls run more past legal.0 (All-tail (λ i. party i < run.harts) (Told by plugin) more low))
none_controls run (Got hart plugin ∷ more) past legal low =
    All-cons IsUncontrolled (Got hart plugin) more tt
    (none_controls run more past legal.0 (All-tail (λ i. party i < run.harts) (Got hart plugin) more low))
none_controls run (Took by plugin ∷ more) past legal low =
    All-cons IsUncontrolled (Took by plugin) more tt
    (none_controls run more past legal.0 (All-tail (λ i. party i < run.harts) (Took by plugin) more low))

suc_same : (a b : List Item) (x y : Item) → x ∷ a ≡ y ∷ b → a ≡ b
suc_same a b x y e = cc

cut : (xs ys zs : List Item) → xs ++ zs ≡ ys ++ zs → xs ≡ ys
cut [] [] zs e = refl
cut [] (y ∷ ys) zs e =
    let long : length zs ≡ length (y ∷ ys ++ zs) = ap (λ (l : List Item). length l) e in
    absurd (omega (arith, long, length-append ys zs))
cut (x ∷ xs) [] zs e =
    let long : length (x ∷ xs ++ zs) ≡ length zs = ap (λ (l : List Item). length l) e in
    absurd (omega (arith, long, length-append xs zs))
cut (x ∷ xs) (y ∷ ys) zs e =
    let rest : xs ++ zs ≡ ys ++ zs = suc_same (xs ++ zs) (ys ++ zs) x y e in
    let first : x ≡ y = cc in
    let tail = cut xs ys zs rest in
    ap (λ (z : Item). z ∷ xs) first ∙ ap (λ (l : List Item). y ∷ l) tail

strictly : (a n : ℕ) → a < n + 1 → a ≢ n → a < n
strictly a n below other = omega (arith, below, other)

-- past the opening each item is a hart's
pub harts_alone : (run : Run) (opening log : List Item) → Legal run log → Within party log (run.harts + 1) opening
    → Ahead party log run.harts opening → GoesOn IsUncontrolled opening log
harts_alone run opening log legal within ahead =
    let same : within.more ≡ ahead.more = cut within.more ahead.more opening (sym within.begins ∙ ahead.begins) in
    let others : All (λ i. party i ≢ run.harts) within.more =
    subst (λ (xs : List Item). All (λ i. party i ≢ run.harts) xs) (sym same) ahead.later in
    let low : All (λ i. party i < run.harts) within.more = λ k d below. strictly _ run.harts (within.later k d below) (others k d below) in
    record {
      more = within.more;
      begins = within.begins;
      later = none_controls run within.more opening (subst (Legal run) within.begins legal) low;
    }

-- Logs that go on.

pub goes_further : {Later Next : Item → Type 0} (seen taken now : List Item) → GoesOn Later seen taken → GoesOn Next taken now
    → ((x : Item) → Next x → Later x) → GoesOn Later seen now
goes_further {Later} {Next} seen taken now one two to = record {
  more = two.more ++ one.more;
  begins = two.begins ∙ ap (λ (xs : List Item). two.more ++ xs) one.begins ∙ sym (append_assoc two.more one.more seen);
  later = All-append Later two.more one.more (λ k d below. to _ (two.later k d below)) one.later;
}

pub settling_uncontrolled : (by : ℕ) (x : Item) → IsSettledBy by x → IsUncontrolled x
settling_uncontrolled by (Step hart) is = absurd is
settling_uncontrolled by (Ordered origin order) is = absurd is
settling_uncontrolled by (GaveBack hart plugin) is = absurd is
settling_uncontrolled by (Left hart) is = absurd is
settling_uncontrolled by (Told who plugin) is = tt
settling_uncontrolled by (Got hart plugin) is = absurd is
settling_uncontrolled by (Took who plugin) is = tt

pub settling_by : (by h : ℕ) → h < by → (x : Item) → IsSettledBy by x → party x ≢ h
settling_by by h low (Step hart) is = absurd is
settling_by by h low (Ordered origin order) is = absurd is
settling_by by h low (GaveBack hart plugin) is = absurd is
settling_by by h low (Left hart) is = absurd is
settling_by by h low (Told who plugin) is = λ e. omega (arith, low, is, e)
settling_by by h low (Got hart plugin) is = absurd is
settling_by by h low (Took who plugin) is = λ e. omega (arith, low, is, e)
