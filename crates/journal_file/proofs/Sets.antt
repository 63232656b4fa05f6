-- The laws of filters, subscriptions and sets.
use Rattle.std.proofs.Common.{◌≡◌, ℕ, zero, suc, ◌<◌, List, [], ◌∷◌, ◌++◌, length, Ok, refl, sym, ap, subst}
use Rattle.std.proofs.Common.{◌∙◌}
use Rattle.std.specs.List.{flat_map, AllByRecursion}
use Rattle.std.specs.Int.{w16, w64, to_le_bytes}
use Rattle.std.proofs.lemmas.List.Concat.{flat_map-cons}
use Rattle.flat_model.specs.declared.plugins.Filter.{Filter}
use Rattle.flat_model.specs.declared.plugins.Sub.{Sub}
use Rattle.flat_model.specs.declared.plugins.SetSpec.{SetSpec}
use Rattle.journal_file.specs.Spelling.{act, filter, sub, set, FitsFilter, FitsSub, FitsSet}
use Rattle.journal_file.specs.Reading.{◌>>=◌, byte_at, number_at, act_at, filter_at, sub_at, subs_at, set_at}
use Rattle.journal_file.proofs.Laws.{IsBytes, field, same_field, bind_ok, Takes, Takes-then, Law, step, taken, again_then, again_last}
use Rattle.journal_file.proofs.Laws.{byte_law, law16, law64}
use Rattle.journal_file.proofs.Acts.{act_law}

-- ---- filters

filter_takes : (bytes : List ℕ) (x : Filter) (rest : List ℕ) → IsBytes bytes → filter_at bytes ≡ Ok (x, rest) → Takes bytes (filter x) rest × FitsFilter x
unfolding filter_at
filter_takes bytes x rest fits e =
    let k = step byte_law bytes (λ k. number_at w64 k.1 >>= λ l. number_at w64 l.1 >>= λ h. number_at w16 h.1 >>= λ c. byte_at c.1 >>= λ a. Ok (record { kinds = k.0; lo = l.0; hi = h.0; classes = c.0; rw = a.0 }, a.1)) (x, rest) fits e in
    let l = step law64 k.0.1 (λ l. number_at w64 l.1 >>= λ h. number_at w16 h.1 >>= λ c. byte_at c.1 >>= λ a. Ok (record { kinds = k.0.0; lo = l.0; hi = h.0; classes = c.0; rw = a.0 }, a.1)) (x, rest) k.1.rest_fits k.3 in
    let h = step law64 l.0.1 (λ h. number_at w16 h.1 >>= λ c. byte_at c.1 >>= λ a. Ok (record { kinds = k.0.0; lo = l.0.0; hi = h.0; classes = c.0; rw = a.0 }, a.1)) (x, rest) l.1.rest_fits l.3 in
    let c = step law16 h.0.1 (λ c. byte_at c.1 >>= λ a. Ok (record { kinds = k.0.0; lo = l.0.0; hi = h.0.0; classes = c.0; rw = a.0 }, a.1)) (x, rest) h.1.rest_fits h.3 in
    let a = step byte_law c.0.1 (λ a. Ok (record { kinds = k.0.0; lo = l.0.0; hi = h.0.0; classes = c.0.0; rw = a.0 }, a.1)) (x, rest) c.1.rest_fits c.3 in
    let made : Filter = record { kinds = k.0.0; lo = l.0.0; hi = h.0.0; classes = c.0.0; rw = a.0.0 } in
    let ca = Takes-then h.0.1 (to_le_bytes w16 c.0.0) c.0.1 (a.0.0 ∷ []) a.0.1 c.1 a.1 in
    let hca = Takes-then l.0.1 (to_le_bytes w64 h.0.0) h.0.1 (to_le_bytes w16 c.0.0 ++ a.0.0 ∷ []) a.0.1 h.1 ca in
    let lhca = Takes-then k.0.1 (to_le_bytes w64 l.0.0) l.0.1 (to_le_bytes w64 h.0.0 ++ (to_le_bytes w16 c.0.0 ++ a.0.0 ∷ [])) a.0.1 l.1 hca in
    let whole = Takes-then bytes (k.0.0 ∷ []) k.0.1 (to_le_bytes w64 l.0.0 ++ (to_le_bytes w64 h.0.0 ++ (to_le_bytes w16 c.0.0 ++ a.0.0 ∷ []))) a.0.1 k.1 lhca in
    taken filter FitsFilter bytes made a.0.1 x rest a.3 whole (record { kinds = k.2; lo = l.2; hi = h.2; classes = c.2; rw_bits = a.2 })

filter_again : (x : Filter) (rest : List ℕ) → FitsFilter x → filter_at (filter x ++ rest) ≡ Ok (x, rest)
unfolding filter_at
filter_again x rest fits =
    again_then law64 x.lo (to_le_bytes w64 x.hi ++ (to_le_bytes w16 x.classes ++ x.rw ∷ [])) rest _ (Ok (x, rest)) fits.lo
    (again_then law64 x.hi (to_le_bytes w16 x.classes ++ x.rw ∷ []) rest _ (Ok (x, rest)) fits.hi
    (again_then law16 x.classes (x.rw ∷ []) rest _ (Ok (x, rest)) fits.classes refl))

filter_law : Law Filter filter_at filter FitsFilter
filter_law = record { takes = filter_takes; again = filter_again }

-- ---- subscriptions

sub_takes : (bytes : List ℕ) (x : Sub) (rest : List ℕ) → IsBytes bytes → sub_at bytes ≡ Ok (x, rest) → Takes bytes (sub x) rest × FitsSub x
unfolding sub_at
sub_takes bytes x rest fits e =
    let f = step filter_law bytes (λ f. act_at f.1 >>= λ a. Ok (record { filter = f.0; act = a.0 }, a.1)) (x, rest) fits e in
    let a = step act_law f.0.1 (λ a. Ok (record { filter = f.0.0; act = a.0 }, a.1)) (x, rest) f.1.rest_fits f.3 in
    taken sub FitsSub bytes (record { filter = f.0.0; act = a.0.0 }) a.0.1 x rest a.3 (Takes-then bytes (filter f.0.0) f.0.1 (act a.0.0) a.0.1 f.1 a.1) (record { filter = f.2; act = a.2 })

sub_again : (x : Sub) (rest : List ℕ) → FitsSub x → sub_at (sub x ++ rest) ≡ Ok (x, rest)
unfolding sub_at
sub_again x rest fits =
    again_then filter_law x.filter (act x.act) rest _ (Ok (x, rest)) fits.filter
    (again_last act_law x.act rest _ (Ok (x, rest)) fits.act refl)

pub sub_law : Law Sub sub_at sub FitsSub
sub_law = record { takes = sub_takes; again = sub_again }

record AreSubs (n : ℕ) (bytes : List ℕ) (x : List Sub) (rest : List ℕ) : Type 0 where
  takes : Takes bytes (flat_map sub x) rest
  number : length x ≡ n
  fits : AllByRecursion FitsSub x

are_subs : (n : ℕ) (bytes : List ℕ) (made : List Sub) (after : List ℕ) (x : List Sub) (rest : List ℕ) → field made after ≡ field x rest → AreSubs n bytes made after → AreSubs n bytes x rest
are_subs n bytes made after x rest e are =
    let same = same_field made x after rest e in
    subst (λ r. AreSubs n bytes x r) same.1 (subst (λ v. AreSubs n bytes v after) same.0 are)

subs_take : (n : ℕ) (bytes : List ℕ) (x : List Sub) (rest : List ℕ) → IsBytes bytes → subs_at n bytes ≡ Ok (x, rest) → AreSubs n bytes x rest
unfolding subs_at
subs_take zero bytes x rest fits e = are_subs 0 bytes [] bytes x rest e (record { takes = record { parts = refl; rest_fits = fits }; number = refl; fits = tt })
subs_take (suc n) bytes x rest fits e =
    let a = step sub_law bytes (λ a. subs_at n a.1 >>= λ b. Ok (a.0 ∷ b.0, b.1)) (x, rest) fits e in
    let b = bind_ok (subs_at n a.0.1) (λ b. Ok (a.0.0 ∷ b.0, b.1)) (x, rest) a.3 in
    let others = subs_take n a.0.1 b.0.0 b.0.1 a.1.rest_fits b.1 in
    let both = Takes-then bytes (sub a.0.0) a.0.1 (flat_map sub b.0.0) b.0.1 a.1 others.takes in
    are_subs (suc n) bytes (a.0.0 ∷ b.0.0) b.0.1 x rest b.2 (record { takes = rw flat_map-cons both; number = ap suc others.number; fits = (a.2, others.fits) })

subs_again : (x : List Sub) (rest : List ℕ) → AllByRecursion FitsSub x → subs_at (length x) (flat_map sub x ++ rest) ≡ Ok (x, rest)
unfolding subs_at
subs_again [] rest fits = refl
subs_again (s ∷ subs) rest fits =
    ap (λ text. subs_at (suc (length subs)) (text ++ rest)) (flat_map-cons sub s subs) ∙
    again_then sub_law s (flat_map sub subs) rest (λ a. subs_at (length subs) a.1 >>= λ b. Ok (a.0 ∷ b.0, b.1)) (Ok (s ∷ subs, rest)) fits.0
    (ap (λ r. r >>= λ b. Ok (s ∷ b.0, b.1)) (subs_again subs rest fits.1))

-- ---- sets

set_takes : (bytes : List ℕ) (x : SetSpec) (rest : List ℕ) → IsBytes bytes → set_at bytes ≡ Ok (x, rest) → Takes bytes (set x) rest × FitsSet x
unfolding set_at
set_takes bytes x rest fits e =
    let t = step byte_law bytes (λ t. byte_at t.1 >>= λ n. subs_at n.0 n.1 >>= λ s. Ok (record { entries = t.0; subs = s.0 }, s.1)) (x, rest) fits e in
    let n = step byte_law t.0.1 (λ n. subs_at n.0 n.1 >>= λ s. Ok (record { entries = t.0.0; subs = s.0 }, s.1)) (x, rest) t.1.rest_fits t.3 in
    let s = bind_ok (subs_at n.0.0 n.0.1) (λ s. Ok (record { entries = t.0.0; subs = s.0 }, s.1)) (x, rest) n.3 in
    let are = subs_take n.0.0 n.0.1 s.0.0 s.0.1 n.1.rest_fits s.1 in
    let counted : Takes t.0.1 (length s.0.0 ∷ flat_map sub s.0.0) s.0.1 = subst (λ v. Takes t.0.1 (v ∷ flat_map sub s.0.0) s.0.1) (sym are.number) (Takes-then t.0.1 (n.0.0 ∷ []) n.0.1 (flat_map sub s.0.0) s.0.1 n.1 are.takes) in
    let whole = Takes-then bytes (t.0.0 ∷ []) t.0.1 (length s.0.0 ∷ flat_map sub s.0.0) s.0.1 t.1 counted in
    taken set FitsSet bytes (record { entries = t.0.0; subs = s.0.0 }) s.0.1 x rest s.2 whole (record { entries = t.2; few = subst (λ v. v < 256) (sym are.number) n.2; subs = are.fits })

set_again : (x : SetSpec) (rest : List ℕ) → FitsSet x → set_at (set x ++ rest) ≡ Ok (x, rest)
unfolding set_at
set_again x rest fits = ap (λ r. r >>= λ s. Ok (record { entries = x.entries; subs = s.0 }, s.1)) (subs_again x.subs rest fits.subs)

pub set_law : Law SetSpec set_at set FitsSet
set_law = record { takes = set_takes; again = set_again }
