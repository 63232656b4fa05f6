-- The reservations, and what the calls of the memory leave.
use Rattle.std.proofs.Common.{◌≡◌, ◌≢◌, ℕ, ◌<◌, ◌≤◌, Bool, true, false, cond, eqb, List, length, map, get_or, set}
use Rattle.std.proofs.Common.{Option, None, refl}
use Rattle.std.proofs.Common.{sym, ap, ◌∙◌, subst, arith, inl, inr, length-set, get_or-set_same, get_or-set_other}
use Rattle.std.proofs.lemmas.Bool.Decides.{nat_tests}
use Rattle.std.proofs.Math.Path.{fun_ext}
use Rattle.std.proofs.Math.ListN.{get_or-eq_default}
use Rattle.flat_model.specs.Image.{Segment}
use Rattle.flat_model.specs.Permission.{Writable, span_of, may}
use Rattle.flat_model.specs.World.{opening_bytes}
use Rattle.flat_model.specs.Access.{left_by, ended, with_reservation, stored, is_reserved}
use Rattle.guest_memory.specs.Memory.{MemoryState, IsWritten, IsStore, IsNoStore, IsReserved, IsConditional, IsLaidOut}
use Rattle.guest_memory.proofs.Places.{lt_or_le}
use Rattle.guest_memory.proofs.Stores.{laid_along}

pub ended_at : (reserved : ℕ → Option ℕ) (h addr n k : ℕ) (r x : Option ℕ) → r ≡ cond (eqb k h) x (left_by addr n x) → x ≡ reserved k
    → r ≡ ended reserved h addr n k
unfolding ended
ended_at reserved h addr n k r x e same = e ∙ ap (λ o. cond (eqb k h) o (left_by addr n o)) same

same_either : (b : Bool) → cond {A = Option ℕ} b None None ≡ None
same_either true = refl
same_either false = refl

ended_none : (reserved : ℕ → Option ℕ) (h addr n k : ℕ) → reserved k ≡ None → ended reserved h addr n k ≡ None
unfolding ended left_by
ended_none reserved h addr n k none = rw none (same_either (eqb k h))

with_none : (reserved : ℕ → Option ℕ) (h k : ℕ) → reserved k ≡ None → with_reservation reserved h None k ≡ None
unfolding with_reservation
with_none reserved h k none = rw none (same_either (eqb k h))

-- reservations that agree within the list agree at every hart
pub all_harts : (new : List (Option ℕ)) (f : ℕ → Option ℕ) → ((k : ℕ) → k < length new → get_or new k None ≡ f k)
    → ((k : ℕ) → length new ≤ k → f k ≡ None) → (λ k. get_or new k None) ≡ f
all_harts new f within past = fun_ext (λ k. elim (lt_or_le k (length new)) [
  | inl below ↦ within k below
  | inr above ↦ get_or-eq_default new None above ∙ sym (past k above)
])

pub with_set : (old : List (Option ℕ)) (h k : ℕ) (r : Option ℕ) → h < length old
    → get_or (set old h r) k None ≡ with_reservation (λ j. get_or old j None) h r k
unfolding with_reservation
with_set old h k r below =
    elim (eqb k h) as (λ b. eqb k h ≡ b → get_or (set old h r) k None ≡ cond b r (get_or old k None)) [
      | true ↦ λ e. let is : k ≡ h = grind (arith, nat_tests) in ap (λ j. get_or (set old h r) j None) is
          ∙ get_or-set_same old h r None below
      | false ↦ λ e. let ne : k ≢ h = grind (arith, nat_tests) in get_or-set_other old h k r None ne
    ] refl

pub reserved_view : (old : MemoryState) (regions : List Segment) (xs : List (Option ℕ)) (h : ℕ) (r : Option ℕ)
    → record { regions = regions; reservations = xs } ≡ old → h < length old.reservations
    → IsReserved old (record { regions = regions; reservations = set xs h r }) h r
reserved_view old regions xs h r is below =
    let P : MemoryState → Type 0 = λ (m : MemoryState). h < length m.reservations
    → IsReserved m (record { regions = regions; reservations = set xs h r }) h r in
    subst P is (λ b. record { regions = refl; reserved = fun_ext (λ k. with_set xs h k r b); harts = length-set xs h r }) below

pub store_view : (old : MemoryState) (regions after : List Segment) (xs ys : List (Option ℕ)) (h addr n value : ℕ)
    → record { regions = regions; reservations = xs } ≡ old → may (map span_of regions) Writable addr n ≡ true
    → IsWritten regions after addr n value → length ys ≡ length xs
    → ((k : ℕ) → k < length xs → get_or ys k None ≡ ended (λ j. get_or xs j None) h addr n k)
    → IsStore old (record { regions = after; reservations = ys }) h addr n value
store_view old regions after xs ys h addr n value is permitted w count others =
    let P : MemoryState → Type 0 = λ (m : MemoryState). IsStore m (record { regions = after; reservations = ys }) h addr n value in
    subst P is (record {
      permitted = permitted;
      spans = w.spans;
      bytes = w.bytes;
      reserved = all_harts ys (ended (λ j. get_or xs j None) h addr n) (λ k below. others k (omega arith))
          (λ k past. ended_none (λ j. get_or xs j None) h addr n k (get_or-eq_default xs None (omega arith)));
      harts = count;
    })

abbrev kept : List Segment → List (Option ℕ) → MemoryState
kept l xs = record { regions = l; reservations = xs }

pub no_store_view : (old : MemoryState) (regions after : List Segment) (xs : List (Option ℕ)) (addr n : ℕ)
    → record { regions = regions; reservations = xs } ≡ old → may (map span_of regions) Writable addr n ≡ false → after ≡ regions
    → IsNoStore old (record { regions = after; reservations = xs }) addr n
no_store_view old regions after xs addr n is denied same =
    let P : MemoryState → Type 0 = λ (m : MemoryState). IsNoStore m (record { regions = after; reservations = xs }) addr n in
    subst P is (record { not_permitted = denied; unchanged = ap (λ (l : List Segment). kept l xs) same })

either_none : (b : Bool) (xs : List (Option ℕ)) (h addr n k : ℕ) → length xs ≤ k
    → (cond b (ended (λ j. get_or xs j None) h addr n) (λ j. get_or xs j None)) k ≡ None
either_none true xs h addr n k past = ended_none (λ j. get_or xs j None) h addr n k (get_or-eq_default xs None past)
either_none false xs h addr n k past = get_or-eq_default xs None past

bytes_either : (b : Bool) (regions after : List Segment) (addr n value : ℕ) → (b ≡ true → IsWritten regions after addr n value)
    → (b ≡ false → after ≡ regions) → (map span_of after ≡ map span_of regions) ×
    (opening_bytes after ≡ cond b (stored (opening_bytes regions) addr n value) (opening_bytes regions))
bytes_either true regions after addr n value w same = ((w refl).spans, (w refl).bytes)
bytes_either false regions after addr n value w same = (ap (map span_of) (same refl), ap opening_bytes (same refl))

pub conditional_view : (old : MemoryState) (regions after : List Segment) (xs ys : List (Option ℕ)) (h addr n value : ℕ) (done : Bool)
    → record { regions = regions; reservations = xs } ≡ old → may (map span_of regions) Writable addr n ≡ true
    → done ≡ is_reserved addr n (get_or xs h None) → (done ≡ true → IsWritten regions after addr n value)
    → (done ≡ false → after ≡ regions) → length ys ≡ length xs
    → ((k : ℕ) → k < length xs → get_or ys k None ≡ with_reservation
    (cond done (ended (λ j. get_or xs j None) h addr n) (λ j. get_or xs j None)) h None k)
    → IsConditional old (record { regions = after; reservations = ys }) h addr n value done
conditional_view old regions after xs ys h addr n value done is permitted stores w same count concluded =
    let P : MemoryState → Type 0 = λ (m : MemoryState). IsConditional m
    (record { regions = after; reservations = ys }) h addr n value done in
    let b = bytes_either done regions after addr n value w same in
    subst P is (record {
      permitted = permitted;
      stores = stores;
      spans = b.0;
      bytes = b.1;
      reserved = all_harts ys (with_reservation (cond done (ended (λ j. get_or xs j None) h addr n) (λ j. get_or xs j None)) h None)
          (λ k below. concluded k (omega arith)) (λ k past. with_none
          (cond done (ended (λ j. get_or xs j None) h addr n) (λ j. get_or xs j None)) h k
          (either_none done xs h addr n k (omega arith)));
      harts = count;
    })

pub with_along : (f g : ℕ → Option ℕ) (h k : ℕ) (r : Option ℕ) → f k ≡ g k → with_reservation f h r k ≡ with_reservation g h r k
unfolding with_reservation
with_along f g h k r e = ap (λ o. cond (eqb k h) r o) e

-- the same, for the slices through which the vectors were written
pub store_done : (old : MemoryState) (regions slice new after : List Segment) (xs parts left ys : List (Option ℕ)) (h addr m n value : ℕ)
    → record { regions = regions; reservations = xs } ≡ old → slice ≡ regions → after ≡ new → parts ≡ xs → ys ≡ left
    → length left ≡ length parts → may (map span_of slice) Writable addr n ≡ true → IsWritten slice new addr n value → m ≡ n
    → ((k : ℕ) → k < length parts → get_or left k None ≡ ended (λ j. get_or parts j None) h addr m k)
    → IsStore old (record { regions = after; reservations = ys }) h addr n value
store_done old regions slice new after xs parts left ys h addr m n value is a b c d count permitted w size others =
    let count1 : length parts ≡ length xs = ap length c in
    let count2 : length ys ≡ length left = ap length d in
    store_view old regions after xs ys h addr n value is
    (ap (λ (r : List Segment). may (map span_of r) Writable addr n) (sym a) ∙ permitted)
    (subst (λ (r : List Segment). IsWritten r after addr n value) a
    (subst (λ (r : List Segment). IsWritten slice r addr n value) (sym b) w))
    (count2 ∙ count ∙ count1)
    (λ k below. ap (λ (l : List (Option ℕ)). get_or l k None) d ∙ others k (omega (arith, below, count1))
    ∙ ap (λ (l : List (Option ℕ)). ended (λ j. get_or l j None) h addr m k) c
    ∙ ap (λ (q : ℕ). ended (λ j. get_or xs j None) h addr q k) size)

pub conditional_done : (old : MemoryState) (regions slice new after : List Segment) (xs parts left ys : List (Option ℕ))
    (h addr m n value : ℕ) (done : Bool) (own : Option ℕ) → record { regions = regions; reservations = xs } ≡ old → slice ≡ regions
    → after ≡ new → parts ≡ xs → ys ≡ left → length left ≡ length parts → may (map span_of slice) Writable addr n ≡ true
    → done ≡ is_reserved addr m own → own ≡ get_or xs h None → (done ≡ true → IsWritten slice new addr n value)
    → (done ≡ false → new ≡ slice) → m ≡ n → ((k : ℕ) → k < length parts
    → get_or left k None ≡ with_reservation (cond done (ended (λ j. get_or parts j None) h addr m) (λ j. get_or parts j None)) h None k)
    → IsConditional old (record { regions = after; reservations = ys }) h addr n value done
conditional_done old regions slice new after xs parts left ys h addr m n value done own is a b c d count permitted stores held w same size
    concluded =
    let count1 : length parts ≡ length xs = ap length c in
    let count2 : length ys ≡ length left = ap length d in
    conditional_view old regions after xs ys h addr n value done is
    (ap (λ (r : List Segment). may (map span_of r) Writable addr n) (sym a) ∙ permitted)
    (stores ∙ ap (λ (o : Option ℕ). is_reserved addr m o) held ∙ ap (λ (q : ℕ). is_reserved addr q (get_or xs h None)) size)
    (λ e. subst (λ (r : List Segment). IsWritten r after addr n value) a
    (subst (λ (r : List Segment). IsWritten slice r addr n value) (sym b) (w e)))
    (λ e. b ∙ same e ∙ a)
    (count2 ∙ count ∙ count1)
    (λ k below. ap (λ (l : List (Option ℕ)). get_or l k None) d ∙ concluded k (omega (arith, below, count1))
    ∙ ap (λ (l : List (Option ℕ)). with_reservation (cond done (ended (λ j. get_or l j None) h addr m)
    (λ j. get_or l j None)) h None k) c ∙ ap (λ (q : ℕ). with_reservation
    (cond done (ended (λ j. get_or xs j None) h addr q) (λ j. get_or xs j None)) h None k) size)

pub laid_after : (regions slice new after : List Segment) → slice ≡ regions → after ≡ new → map span_of new ≡ map span_of slice
    → IsLaidOut regions → IsLaidOut after
laid_after regions slice new after a b spans laid = laid_along regions after (ap (map span_of) b ∙ spans ∙ ap (map span_of) a) laid

pub spans_either : (b : Bool) (regions after : List Segment) (addr n value : ℕ) → (b ≡ true → IsWritten regions after addr n value)
    → (b ≡ false → after ≡ regions) → map span_of after ≡ map span_of regions
spans_either b regions after addr n value w same = (bytes_either b regions after addr n value w same).0
