-- Reading many fields one after the other, as loops do.
use Rattle.std.proofs.Common.{◌≡◌, ℕ, suc, ◌-◌, ◌+◌, ◌≤◌, ◌<◌, List, [], ◌∷◌, ◌++◌, Option, Result, Ok}
use Rattle.std.proofs.Common.{Err, refl, sym, ap, ◌∙◌, append_assoc, arith}
use Rattle.std.proofs.lemmas.List.{append-nil}
use Rattle.flat_model.specs.declared.plugins.Sub.{Sub}
use Rattle.flat_model.specs.declared.journals.Entry.{Entry}
use Rattle.flat_model.specs.declared.refusals.Refused.{Refused}
use Rattle.flat_model.specs.declared.refusals.Refused.TheVariants as refused
use Rattle.flat_model.specs.Log.{turning}
use Rattle.journal_file.specs.declared.refusal.Fault.{Fault}
use Rattle.journal_file.specs.declared.refusal.FileRefusal.{FileRefusal}
use Rattle.journal_file.specs.Reading.{◌>>=◌, Fails, Field, sub_at, subs_at, placed, entry_at, entries_at}

-- what was read before, and what is still read
abbrev pub with_front : {A E : Type 0} → List A → Result (List A × List ℕ) E → Result (List A × List ℕ) E
with_front front read = read >>= λ x. Ok (front ++ x.0, x.1)

regroup : {A E : Type 0} (front : List A) (n : A) (read : Result (List A × List ℕ) E) → with_front front (read >>= λ x. Ok (n ∷ x.0, x.1)) ≡ with_front (front ++ n ∷ []) read
regroup front n (Ok x) = ap (λ ns. Ok (ns, x.1)) (simp append_assoc)
regroup front n (Err f) = refl

-- ---- subscriptions

pub subs-go_on : (front : List Sub) (count i : ℕ) (bytes : List ℕ) (n : Sub) (after : List ℕ) (total : Field (List Sub)) → i < count → sub_at bytes ≡ Ok (n, after)
    → with_front front (subs_at (count - i) bytes) ≡ total → with_front (front ++ n ∷ []) (subs_at (count - (i + 1)) after) ≡ total
unfolding subs_at
subs-go_on front count i bytes n after total lt h so_far =
    let k : count - i ≡ suc (count - (i + 1)) = omega arith in
    let one : with_front front (subs_at (count - i) bytes) ≡ with_front (front ++ n ∷ []) (subs_at (count - (i + 1)) after) = rw (k, h) (regroup front n (subs_at (count - (i + 1)) after)) in
    sym one ∙ so_far

pub subs-end : (e : Refused Fault) (front : List Sub) (count i : ℕ) (bytes : List ℕ) (total : Field (List Sub)) → i < count → Fails e (sub_at bytes)
    → with_front front (subs_at (count - i) bytes) ≡ total → Fails e total
unfolding subs_at
subs-end refused.NoMemory front count i bytes total lt h so_far = tt
subs-end (refused.Because f) front count i bytes total lt h so_far =
    let k : count - i ≡ suc (count - (i + 1)) = omega arith in
    let one : with_front front (subs_at (count - i) bytes) ≡ Err f = rw (k, h) refl in
    sym so_far ∙ one

pub subs-done : (front : List Sub) (count i : ℕ) (bytes : List ℕ) (total : Field (List Sub)) → count ≤ i → with_front front (subs_at (count - i) bytes) ≡ total → total ≡ Ok (front, bytes)
unfolding subs_at
subs-done front count i bytes total le so_far =
    let k : count - i ≡ 0 = omega arith in
    let one : with_front front (subs_at (count - i) bytes) ≡ Ok (front, bytes) = rw k (ap (λ ns. Ok (ns, bytes)) (append-nil front)) in
    sym so_far ∙ one

-- ---- entries

pub entries-go_on : (front : List Entry) (last : Option ℕ) (count i : ℕ) (bytes : List ℕ) (n : Entry) (after : List ℕ) (total : Result (List Entry × List ℕ) FileRefusal) → i < count → placed i (entry_at last bytes) ≡ Ok (n, after)
    → with_front front (entries_at i last (count - i) bytes) ≡ total → with_front (front ++ n ∷ []) (entries_at (i + 1) (turning n) (count - (i + 1)) after) ≡ total
unfolding entries_at
entries-go_on front last count i bytes n after total lt h so_far =
    let k : count - i ≡ suc (count - (i + 1)) = omega arith in
    let one : with_front front (entries_at i last (count - i) bytes) ≡ with_front (front ++ n ∷ []) (entries_at (i + 1) (turning n) (count - (i + 1)) after) = rw (k, h) (regroup front n (entries_at (i + 1) (turning n) (count - (i + 1)) after)) in
    sym one ∙ so_far

pub entries-end : (e : Refused FileRefusal) (front : List Entry) (last : Option ℕ) (count i : ℕ) (bytes : List ℕ) (total : Result (List Entry × List ℕ) FileRefusal) → i < count → Fails e (placed i (entry_at last bytes))
    → with_front front (entries_at i last (count - i) bytes) ≡ total → Fails e total
unfolding entries_at
entries-end refused.NoMemory front last count i bytes total lt h so_far = tt
entries-end (refused.Because f) front last count i bytes total lt h so_far =
    let k : count - i ≡ suc (count - (i + 1)) = omega arith in
    let one : with_front front (entries_at i last (count - i) bytes) ≡ Err f = rw (k, h) refl in
    sym so_far ∙ one

pub entries-done : (front : List Entry) (last : Option ℕ) (count i : ℕ) (bytes : List ℕ) (total : Result (List Entry × List ℕ) FileRefusal) → count ≤ i → with_front front (entries_at i last (count - i) bytes) ≡ total → total ≡ Ok (front, bytes)
unfolding entries_at
entries-done front last count i bytes total le so_far =
    let k : count - i ≡ 0 = omega arith in
    let one : with_front front (entries_at i last (count - i) bytes) ≡ Ok (front, bytes) = rw k (ap (λ ns. Ok (ns, bytes)) (append-nil front)) in
    sym so_far ∙ one
