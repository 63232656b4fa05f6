-- The laws of entries and of the whole file.
use Rattle.std.proofs.Common.{◌≡◌, ℕ, zero, suc, ◌+◌, ◌^◌, ◌<◌, eqb, ◌||◌, Bool, true, false, cond, List, []}
use Rattle.std.proofs.Common.{◌∷◌, ◌++◌, length, Option, Some, None, Result, Ok, Err, refl, sym, ap, subst, ◌∙◌}
use Rattle.std.proofs.Common.{append_assoc, arith, lit<}
use Rattle.std.specs.Prelude.{IfOk, IfSome, codes}
use Rattle.std.specs.Option.{option_and_then}
use Rattle.std.specs.List.{flat_map, All, AllByRecursion}
use Rattle.std.specs.Int.{w32, w64, to_le_bytes}
use Rattle.std.proofs.lemmas.Bool.{eqb-true}
use Rattle.std.proofs.lemmas.Bool.Decides.{nat_tests}
use Rattle.std.proofs.lemmas.List.{append-nil, nil_from_length}
use Rattle.std.proofs.lemmas.List.Concat.{flat_map-cons}
use Rattle.std.proofs.lemmas.List.Elements.{All-from_recursion}
use Rattle.flat_model.specs.declared.journals.Order.{Order}
use Rattle.flat_model.specs.declared.journals.Order.TheVariants as orders
use Rattle.flat_model.specs.declared.journals.Origin.{Origin}
use Rattle.flat_model.specs.declared.journals.Origin.TheVariants as origins
use Rattle.flat_model.specs.declared.journals.Entry.{Entry}
use Rattle.flat_model.specs.declared.journals.Entry.TheVariants as entries
use Rattle.flat_model.specs.declared.refusals.Refused.{Refused}
use Rattle.flat_model.specs.Log.{turning, are_one, HasSteps, IsJoinedAfter}
use Rattle.journal_file.specs.declared.refusal.Fault.{Fault}
use Rattle.journal_file.specs.declared.refusal.Fault.TheVariants as faults
use Rattle.journal_file.specs.declared.refusal.FileRefusal.{FileRefusal}
use Rattle.journal_file.specs.declared.refusal.FileRefusal.TheVariants.{Magic, Version, Extra}
use Rattle.flat_model.specs.declared.journals.Mode.{Mode}
use Rattle.flat_model.specs.declared.journals.Mode.TheVariants.{All as Every, First}
use Rattle.journal_file.specs.Head.{Head, FileState, IsHead, are_within, head_of, mode_of, mode_byte}
use Rattle.journal_file.specs.Spelling.{set, origin, order, entry, header, version_of, head_bytes, spelling, FitsOrigin, FitsOrder}
use Rattle.journal_file.specs.Spelling.{FitsEntry, AreEntries, IsFile, HasFewSubs, HasFewSubsIn}
use Rattle.journal_file.specs.Reading.{◌>>=◌, Gives, byte_at, number_at, set_at, given, origin_at, ordered, order_at, turn_at, entered}
use Rattle.journal_file.specs.Reading.{entry_at, placed, entries_at, version_at, headed, run_head_at, head_at, body_at, file_at}
use Rattle.journal_file.proofs.Laws.{IsBytes, IsBytes-rest, done, ok_is, field, bind_ok, guard_ok, Takes, Takes-then, Takes-byte}
use Rattle.journal_file.proofs.Laws.{Takes-behind, Law, step, taken, again_then, again_last, byte_law, law32, law64}
use Rattle.journal_file.proofs.Sets.{set_law}

-- ---- origins

given_takes : (b : ℕ) (bytes : List ℕ) (x : Origin) (rest : List ℕ) → IsBytes (b ∷ bytes) → given b bytes ≡ Ok (x, rest) → Takes (b ∷ bytes) (origin x) rest × FitsOrigin x
given_takes zero bytes x rest fits e = taken origin FitsOrigin (0 ∷ bytes) origins.Start bytes x rest e (Takes-byte 0 bytes fits) tt
given_takes (suc zero) bytes x rest fits e =
    let l = step law32 bytes (λ l. byte_at l.1 >>= λ p. Ok (origins.Script l.0 p.0, p.1)) (x, rest) (IsBytes-rest 1 bytes fits) e in
    let p = step byte_law l.0.1 (λ p. Ok (origins.Script l.0.0 p.0, p.1)) (x, rest) l.1.rest_fits l.3 in
    let both = Takes-then bytes (to_le_bytes w32 l.0.0) l.0.1 (p.0.0 ∷ []) p.0.1 l.1 p.1 in
    taken origin FitsOrigin (1 ∷ bytes) (origins.Script l.0.0 p.0.0) p.0.1 x rest p.3 (Takes-behind 1 bytes (to_le_bytes w32 l.0.0 ++ p.0.0 ∷ []) p.0.1 both) (l.2, p.2)
given_takes (suc (suc zero)) bytes x rest fits e =
    let h = step byte_law bytes (λ h. byte_at h.1 >>= λ p. Ok (origins.Asked h.0 p.0, p.1)) (x, rest) (IsBytes-rest 2 bytes fits) e in
    let p = step byte_law h.0.1 (λ p. Ok (origins.Asked h.0.0 p.0, p.1)) (x, rest) h.1.rest_fits h.3 in
    let both = Takes-then bytes (h.0.0 ∷ []) h.0.1 (p.0.0 ∷ []) p.0.1 h.1 p.1 in
    taken origin FitsOrigin (2 ∷ bytes) (origins.Asked h.0.0 p.0.0) p.0.1 x rest p.3 (Takes-behind 2 bytes (h.0.0 ∷ p.0.0 ∷ []) p.0.1 both) (h.2, p.2)
given_takes (suc (suc (suc zero))) bytes x rest fits e =
    let p = step byte_law bytes (λ p. Ok (origins.Control p.0, p.1)) (x, rest) (IsBytes-rest 3 bytes fits) e in
    taken origin FitsOrigin (3 ∷ bytes) (origins.Control p.0.0) p.0.1 x rest p.3 (Takes-behind 3 bytes (p.0.0 ∷ []) p.0.1 p.1) p.2
given_takes (suc (suc (suc (suc b)))) bytes x rest fits e = absurd cc

origin_takes : (bytes : List ℕ) (x : Origin) (rest : List ℕ) → IsBytes bytes → origin_at bytes ≡ Ok (x, rest) → Takes bytes (origin x) rest × FitsOrigin x
unfolding origin_at
origin_takes [] x rest fits e = absurd cc
origin_takes (b ∷ bytes) x rest fits e = given_takes b bytes x rest fits e

origin_again : (x : Origin) (rest : List ℕ) → FitsOrigin x → origin_at (origin x ++ rest) ≡ Ok (x, rest)
unfolding origin_at
origin_again origins.Start rest fits = refl
origin_again (origins.Script line party) rest fits = again_then law32 line (party ∷ []) rest (λ l. byte_at l.1 >>= λ p. Ok (origins.Script l.0 p.0, p.1)) (Ok (origins.Script line party, rest)) fits.0 refl
origin_again (origins.Asked hart plugin) rest fits = refl
origin_again (origins.Control party) rest fits = refl

origin_law : Law Origin origin_at origin FitsOrigin
origin_law = record { takes = origin_takes; again = origin_again }

-- ---- orders

ordered_takes : (b : ℕ) (bytes : List ℕ) (x : Order) (rest : List ℕ) → IsBytes (b ∷ bytes) → ordered b bytes ≡ Ok (x, rest) → Takes (b ∷ bytes) (order x) rest × FitsOrder x
ordered_takes zero bytes x rest fits e =
    let s = step set_law bytes (λ s. Ok (orders.Install s.0, s.1)) (x, rest) (IsBytes-rest 0 bytes fits) e in
    taken order FitsOrder (0 ∷ bytes) (orders.Install s.0.0) s.0.1 x rest s.3 (Takes-behind 0 bytes (set s.0.0) s.0.1 s.1) s.2
ordered_takes (suc zero) bytes x rest fits e =
    let p = step byte_law bytes (λ p. set_at p.1 >>= λ s. Ok (orders.Register p.0 s.0, s.1)) (x, rest) (IsBytes-rest 1 bytes fits) e in
    let s = step set_law p.0.1 (λ s. Ok (orders.Register p.0.0 s.0, s.1)) (x, rest) p.1.rest_fits p.3 in
    let both = Takes-then bytes (p.0.0 ∷ []) p.0.1 (set s.0.0) s.0.1 p.1 s.1 in
    taken order FitsOrder (1 ∷ bytes) (orders.Register p.0.0 s.0.0) s.0.1 x rest s.3 (Takes-behind 1 bytes (p.0.0 ∷ set s.0.0) s.0.1 both) (p.2, s.2)
ordered_takes (suc (suc zero)) bytes x rest fits e =
    let p = step byte_law bytes (λ p. Ok (orders.Reset p.0, p.1)) (x, rest) (IsBytes-rest 2 bytes fits) e in
    taken order FitsOrder (2 ∷ bytes) (orders.Reset p.0.0) p.0.1 x rest p.3 (Takes-behind 2 bytes (p.0.0 ∷ []) p.0.1 p.1) p.2
ordered_takes (suc (suc (suc zero))) bytes x rest fits e =
    let p = step byte_law bytes (λ p. Ok (orders.Uninstall p.0, p.1)) (x, rest) (IsBytes-rest 3 bytes fits) e in
    taken order FitsOrder (3 ∷ bytes) (orders.Uninstall p.0.0) p.0.1 x rest p.3 (Takes-behind 3 bytes (p.0.0 ∷ []) p.0.1 p.1) p.2
ordered_takes (suc (suc (suc (suc b)))) bytes x rest fits e = absurd cc

order_takes : (bytes : List ℕ) (x : Order) (rest : List ℕ) → IsBytes bytes → order_at bytes ≡ Ok (x, rest) → Takes bytes (order x) rest × FitsOrder x
unfolding order_at
order_takes [] x rest fits e = absurd cc
order_takes (b ∷ bytes) x rest fits e = ordered_takes b bytes x rest fits e

order_again : (x : Order) (rest : List ℕ) → FitsOrder x → order_at (order x ++ rest) ≡ Ok (x, rest)
unfolding order_at
order_again (orders.Install spec) rest fits = again_last set_law spec rest (λ s. Ok (orders.Install s.0, s.1)) (Ok (orders.Install spec, rest)) fits refl
order_again (orders.Register plugin spec) rest fits = again_last set_law spec rest (λ s. Ok (orders.Register plugin s.0, s.1)) (Ok (orders.Register plugin spec, rest)) fits.1 refl
order_again (orders.Reset plugin) rest fits = refl
order_again (orders.Uninstall plugin) rest fits = refl

order_law : Law Order order_at order FitsOrder
order_law = record { takes = order_takes; again = order_again }

-- ---- Turns

-- an entry that may follow a Turn of the hart last
record FitsNext (last : Option ℕ) (x : Entry) : Type 0 where
  fits : FitsEntry x
  steps : HasSteps x
  other : are_one last (turning x) ≡ false

positive : (n : ℕ) → eqb n 0 ≡ false → 0 < n
positive zero e = absurd cc
positive (suc n) e = omega arith

not_zero : (n : ℕ) → 0 < n → eqb n 0 ≡ false
not_zero zero lt = absurd (omega arith)
not_zero (suc n) lt = grind arith

turn_takes : (last : Option ℕ) (bytes : List ℕ) (x : Entry) (rest : List ℕ) → IsBytes bytes → turn_at last bytes ≡ Ok (x, rest) → Takes (1 ∷ bytes) (entry x) rest × FitsNext last x
unfolding turn_at
turn_takes last bytes x rest fits e =
    let h = step byte_law bytes (λ h. cond (are_one last (Some h.0)) (Err (faults.Bad h.0)) (Ok h.0) >>= λ o. number_at w32 h.1 >>= λ n. cond (eqb n.0 0) (Err (faults.Bad 0)) (Ok (entries.Turn h.0 n.0, n.1))) (x, rest) fits e in
    let o = bind_ok (cond (are_one last (Some h.0.0)) (Err (faults.Bad h.0.0)) (Ok h.0.0)) (λ o. number_at w32 h.0.1 >>= λ n. cond (eqb n.0 0) (Err (faults.Bad 0)) (Ok (entries.Turn h.0.0 n.0, n.1))) (x, rest) h.3 in
    let other = guard_ok (are_one last (Some h.0.0)) (faults.Bad h.0.0) h.0.0 o.0 o.1 in
    let n = step law32 h.0.1 (λ n. cond (eqb n.0 0) (Err (faults.Bad 0)) (Ok (entries.Turn h.0.0 n.0, n.1))) (x, rest) h.1.rest_fits o.2 in
    let made : Entry × List ℕ = (entries.Turn h.0.0 n.0.0, n.0.1) in
    let some = guard_ok (eqb n.0.0 0) (faults.Bad 0) made (x, rest) n.3 in
    let both = Takes-then bytes (h.0.0 ∷ []) h.0.1 (to_le_bytes w32 n.0.0) n.0.1 h.1 n.1 in
    taken entry (FitsNext last) (1 ∷ bytes) (entries.Turn h.0.0 n.0.0) n.0.1 x rest (ap (λ (p : Entry × List ℕ). field p.0 p.1) some.1) (Takes-behind 1 bytes (h.0.0 ∷ to_le_bytes w32 n.0.0) n.0.1 both)
    (record { fits = (h.2, n.2); steps = positive n.0.0 some.0; other = other.0 })

turn_again : (last : Option ℕ) (hart n : ℕ) (rest : List ℕ) → FitsNext last (entries.Turn hart n) → turn_at last ((hart ∷ to_le_bytes w32 n) ++ rest) ≡ Ok (entries.Turn hart n, rest)
unfolding turn_at
turn_again last hart n rest fits =
    ap (λ b. cond b (Err (faults.Bad hart)) (Ok hart) >>= λ o. number_at w32 (to_le_bytes w32 n ++ rest) >>= λ v. cond (eqb v.0 0) (Err (faults.Bad 0)) (Ok (entries.Turn hart v.0, v.1))) fits.other ∙
    again_last law32 n rest (λ v. cond (eqb v.0 0) (Err (faults.Bad 0)) (Ok (entries.Turn hart v.0, v.1))) (Ok (entries.Turn hart n, rest)) fits.fits.1
    (ap (λ b. cond b (Err (faults.Bad 0)) (field (entries.Turn hart n) rest)) (not_zero n fits.steps))

-- ---- entries

alone : (last : Option ℕ) → are_one last None ≡ false
alone None = refl
alone (Some hart) = refl

entered_takes : (last : Option ℕ) (b : ℕ) (bytes : List ℕ) (x : Entry) (rest : List ℕ) → IsBytes (b ∷ bytes) → entered last b bytes ≡ Ok (x, rest) → Takes (b ∷ bytes) (entry x) rest × FitsNext last x
entered_takes last zero bytes x rest fits e = absurd cc
entered_takes last (suc zero) bytes x rest fits e = turn_takes last bytes x rest (IsBytes-rest 1 bytes fits) e
entered_takes last (suc (suc zero)) bytes x rest fits e =
    let f = step origin_law bytes (λ f. order_at f.1 >>= λ w. Ok (entries.Order f.0 w.0, w.1)) (x, rest) (IsBytes-rest 2 bytes fits) e in
    let w = step order_law f.0.1 (λ w. Ok (entries.Order f.0.0 w.0, w.1)) (x, rest) f.1.rest_fits f.3 in
    let both = Takes-then bytes (origin f.0.0) f.0.1 (order w.0.0) w.0.1 f.1 w.1 in
    taken entry (FitsNext last) (2 ∷ bytes) (entries.Order f.0.0 w.0.0) w.0.1 x rest w.3 (Takes-behind 2 bytes (origin f.0.0 ++ order w.0.0) w.0.1 both) (record { fits = (f.2, w.2); steps = tt; other = alone last })
entered_takes last (suc (suc (suc zero))) bytes x rest fits e =
    let h = step byte_law bytes (λ h. byte_at h.1 >>= λ p. Ok (entries.Back h.0 p.0, p.1)) (x, rest) (IsBytes-rest 3 bytes fits) e in
    let p = step byte_law h.0.1 (λ p. Ok (entries.Back h.0.0 p.0, p.1)) (x, rest) h.1.rest_fits h.3 in
    let both = Takes-then bytes (h.0.0 ∷ []) h.0.1 (p.0.0 ∷ []) p.0.1 h.1 p.1 in
    taken entry (FitsNext last) (3 ∷ bytes) (entries.Back h.0.0 p.0.0) p.0.1 x rest p.3 (Takes-behind 3 bytes (h.0.0 ∷ p.0.0 ∷ []) p.0.1 both) (record { fits = (h.2, p.2); steps = tt; other = alone last })
entered_takes last (suc (suc (suc (suc zero)))) bytes x rest fits e =
    let h = step byte_law bytes (λ h. Ok (entries.Leave h.0, h.1)) (x, rest) (IsBytes-rest 4 bytes fits) e in
    taken entry (FitsNext last) (4 ∷ bytes) (entries.Leave h.0.0) h.0.1 x rest h.3 (Takes-behind 4 bytes (h.0.0 ∷ []) h.0.1 h.1) (record { fits = h.2; steps = tt; other = alone last })
entered_takes last (suc (suc (suc (suc (suc zero))))) bytes x rest fits e =
    let h = step byte_law bytes (λ h. byte_at h.1 >>= λ p. Ok (entries.Done h.0 p.0, p.1)) (x, rest) (IsBytes-rest 5 bytes fits) e in
    let p = step byte_law h.0.1 (λ p. Ok (entries.Done h.0.0 p.0, p.1)) (x, rest) h.1.rest_fits h.3 in
    let both = Takes-then bytes (h.0.0 ∷ []) h.0.1 (p.0.0 ∷ []) p.0.1 h.1 p.1 in
    taken entry (FitsNext last) (5 ∷ bytes) (entries.Done h.0.0 p.0.0) p.0.1 x rest p.3 (Takes-behind 5 bytes (h.0.0 ∷ p.0.0 ∷ []) p.0.1 both) (record { fits = (h.2, p.2); steps = tt; other = alone last })
entered_takes last (suc (suc (suc (suc (suc (suc b)))))) bytes x rest fits e = absurd cc

entry_takes : (last : Option ℕ) (bytes : List ℕ) (x : Entry) (rest : List ℕ) → IsBytes bytes → entry_at last bytes ≡ Ok (x, rest) → Takes bytes (entry x) rest × FitsNext last x
unfolding entry_at
entry_takes last [] x rest fits e = absurd cc
entry_takes last (b ∷ bytes) x rest fits e = entered_takes last b bytes x rest fits e

entry_again : (last : Option ℕ) (x : Entry) (rest : List ℕ) → FitsNext last x → entry_at last (entry x ++ rest) ≡ Ok (x, rest)
unfolding entry_at
entry_again last (entries.Turn hart n) rest fits = turn_again last hart n rest fits
entry_again last (entries.Order from what) rest fits =
    again_then origin_law from (order what) rest (λ f. order_at f.1 >>= λ w. Ok (entries.Order f.0 w.0, w.1)) (Ok (entries.Order from what, rest)) fits.fits.0
    (again_last order_law what rest (λ w. Ok (entries.Order from w.0, w.1)) (Ok (entries.Order from what, rest)) fits.fits.1 refl)
entry_again last (entries.Back hart plugin) rest fits = refl
entry_again last (entries.Leave hart) rest fits = refl
entry_again last (entries.Done who plugin) rest fits = refl

entry_law : (last : Option ℕ) → Law Entry (entry_at last) entry (FitsNext last)
entry_law last = record { takes = entry_takes last; again = entry_again last }

-- ---- many entries

placed_ok : {A : Type 0} (place : ℕ) (r : Result A Fault) (x : A) → placed place r ≡ Ok x → r ≡ Ok x
placed_ok place (Ok y) x e = ap done (ok_is y x FileRefusal e)
placed_ok place (Err fault) x e = absurd cc

record AreNext (last : Option ℕ) (n : ℕ) (bytes : List ℕ) (x : List Entry) (rest : List ℕ) : Type 0 where
  takes : Takes bytes (flat_map entry x) rest
  number : length x ≡ n
  each : AllByRecursion FitsEntry x
  joined : IsJoinedAfter last x

are_next : (last : Option ℕ) (n : ℕ) (bytes : List ℕ) (made x : List Entry × List ℕ) → done {E = FileRefusal} made ≡ done x → AreNext last n bytes made.0 made.1 → AreNext last n bytes x.0 x.1
are_next last n bytes made x e are = subst (λ (v : List Entry × List ℕ). AreNext last n bytes v.0 v.1) (ok_is made x FileRefusal e) are

entries_take : (place : ℕ) (last : Option ℕ) (n : ℕ) (bytes : List ℕ) (x : List Entry × List ℕ) → IsBytes bytes → entries_at place last n bytes ≡ Ok x → AreNext last n bytes x.0 x.1
unfolding entries_at
entries_take place last zero bytes x fits e =
    let made : List Entry × List ℕ = ([], bytes) in
    are_next last 0 bytes made x e (record { takes = record { parts = refl; rest_fits = fits }; number = refl; each = tt; joined = tt })
entries_take place last (suc n) bytes x fits e =
    let a = bind_ok (placed place (entry_at last bytes)) (λ a. entries_at (place + 1) (turning a.0) n a.1 >>= λ b. Ok (a.0 ∷ b.0, b.1)) x e in
    let b = bind_ok (entries_at (place + 1) (turning a.0.0) n a.0.1) (λ b. Ok (a.0.0 ∷ b.0, b.1)) x a.2 in
    let first = entry_takes last bytes a.0.0 a.0.1 fits (placed_ok place (entry_at last bytes) a.0 a.1) in
    let others = entries_take (place + 1) (turning a.0.0) n a.0.1 b.0 first.0.rest_fits b.1 in
    let both = Takes-then bytes (entry a.0.0) a.0.1 (flat_map entry b.0.0) b.0.1 first.0 others.takes in
    let made : List Entry × List ℕ = (a.0.0 ∷ b.0.0, b.0.1) in
    are_next last (suc n) bytes made x b.2 (record { takes = rw flat_map-cons both; number = ap suc others.number; each = (first.1.fits, others.each); joined = (first.1.steps, first.1.other, others.joined) })

entries_again : (place : ℕ) (last : Option ℕ) (x : List Entry) (rest : List ℕ) → AllByRecursion FitsEntry x → IsJoinedAfter last x → entries_at place last (length x) (flat_map entry x ++ rest) ≡ Ok (x, rest)
unfolding entries_at
entries_again place last [] rest each joined = refl
entries_again place last (v ∷ vs) rest each joined =
    let regrouped : flat_map entry (v ∷ vs) ++ rest ≡ entry v ++ (flat_map entry vs ++ rest) = ap (λ (t : List ℕ). t ++ rest) (flat_map-cons entry v vs) ∙ append_assoc (entry v) (flat_map entry vs) rest in
    let one : entry_at last (flat_map entry (v ∷ vs) ++ rest) ≡ Ok (v, flat_map entry vs ++ rest) = ap (entry_at last) regrouped ∙ entry_again last v (flat_map entry vs ++ rest) (record { fits = each.0; steps = joined.0; other = joined.1 }) in
    ap (λ r. placed place r >>= λ a. entries_at (place + 1) (turning a.0) (length vs) a.1 >>= λ b. Ok (a.0 ∷ b.0, b.1)) one ∙
    ap (λ r. r >>= λ b. Ok (v ∷ b.0, b.1)) (entries_again (place + 1) (turning v) vs rest each.1 joined.2)

-- ---- the header

guard_on : {A E : Type 0} (b : Bool) (d : E) (x y : A) → cond b (Ok x) (Err d) ≡ Ok y → (b ≡ true) × (x ≡ y)
guard_on true d x y e = (refl, cc)
guard_on false d x y e = absurd cc

version_takes : (bytes : List ℕ) (x : ℕ × List ℕ) → IsBytes bytes → version_at bytes ≡ Ok x
    → Takes bytes (codes "TCGJ" ++ to_le_bytes w32 x.0) x.1 × (eqb x.0 1 || eqb x.0 2 ≡ true)
unfolding version_at
version_takes bytes x fits e =
    let m = bind_ok (placed 0 (number_at w32 bytes)) (λ m. cond (eqb m.0 0x4A474354) (Ok m.0) (Err Magic) >>= λ s. placed 0 (number_at w32 m.1) >>= λ v. cond (eqb v.0 1 || eqb v.0 2) (Ok v) (Err (Version v.0))) x e in
    let s = bind_ok (cond (eqb m.0.0 0x4A474354) (Ok m.0.0) (Err Magic)) (λ s. placed 0 (number_at w32 m.0.1) >>= λ v. cond (eqb v.0 1 || eqb v.0 2) (Ok v) (Err (Version v.0))) x m.2 in
    let v = bind_ok (placed 0 (number_at w32 m.0.1)) (λ v. cond (eqb v.0 1 || eqb v.0 2) (Ok v) (Err (Version v.0))) x s.2 in
    let g = guard_on (eqb v.0.0 1 || eqb v.0.0 2) (Version v.0.0) v.0 x v.2 in
    let m-is : m.0.0 ≡ 0x4A474354 = eqb-true _ _ (guard_on (eqb m.0.0 0x4A474354) Magic m.0.0 s.0 s.1).0 in
    let t1 = law32.takes bytes m.0.0 m.0.1 fits (placed_ok 0 (number_at w32 bytes) m.0 m.1) in
    let t2 = law32.takes m.0.1 v.0.0 v.0.1 t1.0.rest_fits (placed_ok 0 (number_at w32 m.0.1) v.0 v.1) in
    let first : Takes bytes (codes "TCGJ") m.0.1 = subst (λ k. Takes bytes (to_le_bytes w32 k) m.0.1) m-is t1.0 in
    subst (λ (y : ℕ × List ℕ). Takes bytes (codes "TCGJ" ++ to_le_bytes w32 y.0) y.1 × (eqb y.0 1 || eqb y.0 2 ≡ true)) g.1
    (Takes-then bytes (codes "TCGJ") m.0.1 (to_le_bytes w32 v.0.0) v.0.1 first t2.0, g.0)

version_again : (n : ℕ) (rest : List ℕ) → n < 2 ^ 32 → eqb n 1 || eqb n 2 ≡ true → version_at (codes "TCGJ" ++ (to_le_bytes w32 n ++ rest)) ≡ Ok (n, rest)
unfolding version_at
version_again n rest lt known =
    ap (λ r. placed 0 r >>= λ m. cond (eqb m.0 0x4A474354) (Ok m.0) (Err Magic) >>= λ s. placed 0 (number_at w32 m.1) >>= λ v. cond (eqb v.0 1 || eqb v.0 2) (Ok v) (Err (Version v.0))) (law32.again 0x4A474354 (to_le_bytes w32 n ++ rest) (lit< tt)) ∙
    ap (λ r. placed 0 r >>= λ v. cond (eqb v.0 1 || eqb v.0 2) (Ok v) (Err (Version v.0))) (law32.again n rest lt) ∙
    ap (λ b. cond b (done (n, rest)) (Err (Version n))) known

-- ---- the head

mode_back : (b : ℕ) (mode : Mode) → mode_of b ≡ Some mode → mode_byte mode ≡ b
mode_back zero mode e = let same : Every ≡ mode = cc in ap mode_byte (sym same)
mode_back (suc zero) mode e = let same : First ≡ mode = cc in ap mode_byte (sym same)
mode_back (suc (suc b)) mode e = absurd cc

mode_again : (mode : Mode) → mode_of (mode_byte mode) ≡ Some mode
mode_again Every = refl
mode_again First = refl

-- the head that stands behind these numbers
record IsRead (bytes : List ℕ) (head : Option Head) (rest : List ℕ) : Type 0 where
  takes : Takes bytes (head_bytes head) rest
  within : IfSome head IsHead

abbrev head_before : Head → List ℕ → Option Head × List ℕ
head_before head rest = (Some head, rest)

guard_head : (b : Bool) (head : Head) (rest : List ℕ) (x : Option Head × List ℕ)
    → headed rest (cond b (Some head) None) ≡ Ok x → (b ≡ true) × (head_before head rest ≡ x)
guard_head true head rest x e = (refl, cc)
guard_head false head rest x e = absurd cc

headed_is : (harts mode limit : ℕ) (o : Option Mode) (bytes rest : List ℕ) (x : Option Head × List ℕ) → mode_of mode ≡ o
    → headed rest (option_and_then (λ m. head_of harts m limit) o) ≡ Ok x → Takes bytes (harts ∷ mode ∷ to_le_bytes w64 limit) rest
    → IsRead bytes x.0 x.1 × (version_of x.0 ≡ 2)
headed_is harts mode limit None bytes rest x o e takes = absurd cc
headed_is harts mode limit (Some m) bytes rest x o e takes =
    let g = guard_head (are_within harts limit) (record { harts = harts; mode = m; limit = limit }) rest x e in
    subst (λ (y : Option Head × List ℕ). IsRead bytes y.0 y.1 × (version_of y.0 ≡ 2)) g.1
    (record { takes = rw (mode_back mode m o) takes; within = g.0 }, refl)

run_head_takes : (bytes : List ℕ) (x : Option Head × List ℕ) → IsBytes bytes → run_head_at bytes ≡ Ok x
    → IsRead bytes x.0 x.1 × (version_of x.0 ≡ 2)
unfolding run_head_at
run_head_takes bytes x fits e =
    let h = bind_ok (placed 0 (byte_at bytes)) (λ h. placed 0 (byte_at h.1) >>= λ m. placed 0 (number_at w64 m.1) >>= λ l. headed l.1 (option_and_then (λ k. head_of h.0 k l.0) (mode_of m.0))) x e in
    let m = bind_ok (placed 0 (byte_at h.0.1)) (λ m. placed 0 (number_at w64 m.1) >>= λ l. headed l.1 (option_and_then (λ k. head_of h.0.0 k l.0) (mode_of m.0))) x h.2 in
    let l = bind_ok (placed 0 (number_at w64 m.0.1)) (λ l. headed l.1 (option_and_then (λ k. head_of h.0.0 k l.0) (mode_of m.0.0))) x m.2 in
    let t1 = byte_law.takes bytes h.0.0 h.0.1 fits (placed_ok 0 (byte_at bytes) h.0 h.1) in
    let t2 = byte_law.takes h.0.1 m.0.0 m.0.1 t1.0.rest_fits (placed_ok 0 (byte_at h.0.1) m.0 m.1) in
    let t3 = law64.takes m.0.1 l.0.0 l.0.1 t2.0.rest_fits (placed_ok 0 (number_at w64 m.0.1) l.0 l.1) in
    let two = Takes-then h.0.1 (m.0.0 ∷ []) m.0.1 (to_le_bytes w64 l.0.0) l.0.1 t2.0 t3.0 in
    let all = Takes-then bytes (h.0.0 ∷ []) h.0.1 (m.0.0 ∷ to_le_bytes w64 l.0.0) l.0.1 t1.0 two in
    headed_is h.0.0 m.0.0 l.0.0 (mode_of m.0.0) bytes l.0.1 x refl l.2 all

other_of : (a b : Bool) → a || b ≡ true → a ≡ false → b ≡ true
other_of true b either apart = absurd cc
other_of false b either apart = either

by_version : (version : ℕ) (b : Bool) (bytes : List ℕ) (x : Option Head × List ℕ) → IsBytes bytes → eqb version 1 ≡ b
    → eqb version 1 || eqb version 2 ≡ true → cond b (Ok (None, bytes)) (run_head_at bytes) ≡ Ok x → IsRead bytes x.0 x.1 × (version_of x.0 ≡ version)
by_version version true bytes x fits one known e =
    let made : Option Head × List ℕ = (None, bytes) in
    subst (λ (y : Option Head × List ℕ). IsRead bytes y.0 y.1 × (version_of y.0 ≡ version)) (ok_is made x FileRefusal e)
    (record { takes = record { parts = refl; rest_fits = fits }; within = tt }, sym (eqb-true version 1 one))
by_version version false bytes x fits one known e =
    let head = run_head_takes bytes x fits e in
    (head.0, head.1 ∙ sym (eqb-true version 2 (other_of _ _ known one)))

head_takes : (version : ℕ) (bytes : List ℕ) (x : Option Head × List ℕ) → IsBytes bytes → eqb version 1 || eqb version 2 ≡ true
    → head_at version bytes ≡ Ok x → IsRead bytes x.0 x.1 × (version_of x.0 ≡ version)
unfolding head_at
head_takes version bytes x fits known e = by_version version (eqb version 1) bytes x fits refl known e

small_limit : (harts limit : ℕ) → are_within harts limit ≡ true → limit < 2 ^ 64
small_limit harts limit within = grind (arith, nat_tests)

run_head_again : (h : Head) (rest : List ℕ) → IsHead h → run_head_at (head_bytes (Some h) ++ rest) ≡ Ok (Some h, rest)
unfolding run_head_at
run_head_again h rest within =
    ap (λ r. placed 0 r >>= λ l. headed l.1 (option_and_then (λ k. head_of h.harts k l.0) (mode_of (mode_byte h.mode)))) (law64.again h.limit rest (small_limit h.harts h.limit within))
    ∙ ap (λ o. headed rest (option_and_then (λ k. head_of h.harts k h.limit) o)) (mode_again h.mode)
    ∙ ap (λ b. headed rest (cond b (Some h) None)) within

head_again : (head : Option Head) (rest : List ℕ) → IfSome head IsHead → head_at (version_of head) (head_bytes head ++ rest) ≡ Ok (head, rest)
unfolding head_at
head_again None rest fits = refl
head_again (Some h) rest fits = run_head_again h rest fits

version_known : (head : Option Head) → (version_of head < 2 ^ 32) × (eqb (version_of head) 1 || eqb (version_of head) 2 ≡ true)
version_known None = (lit< tt, refl)
version_known (Some h) = (lit< tt, refl)

-- ---- the file

record IsBody (count : ℕ) (bytes : List ℕ) (es : List Entry) : Type 0 where
  parts : bytes ≡ flat_map entry es
  number : length es ≡ count
  each : AllByRecursion FitsEntry es
  joined : IsJoinedAfter None es

body_takes : (count : ℕ) (bytes : List ℕ) (es : List Entry) → IsBytes bytes → body_at count bytes ≡ Ok es → IsBody count bytes es
unfolding body_at
body_takes count bytes es fits e =
    let b = bind_ok (entries_at 0 None count bytes) (λ x. cond (eqb (length x.1) 0) (Ok x.0) (Err (Extra (length x.1)))) es e in
    let g = guard_on (eqb (length b.0.1) 0) (Extra (length b.0.1)) b.0.0 es b.2 in
    let all = entries_take 0 None count bytes b.0 fits b.1 in
    let nothing : b.0.1 ≡ [] = nil_from_length b.0.1 (eqb-true _ _ g.0) in
    let parts : bytes ≡ flat_map entry b.0.0 = all.takes.parts ∙ ap (λ (r : List ℕ). flat_map entry b.0.0 ++ r) nothing ∙ append-nil (flat_map entry b.0.0) in
    subst (IsBody count bytes) g.1 (record { parts = parts; number = all.number; each = all.each; joined = all.joined })

body_again : (es : List Entry) → AreEntries es → body_at (length es) (flat_map entry es) ≡ Ok es
unfolding body_at
body_again es fits =
    ap (λ r. r >>= λ x. cond (eqb (length x.1) 0) (Ok x.0) (Err (Extra (length x.1))))
    (ap (entries_at 0 None (length es)) (sym (append-nil (flat_map entry es))) ∙ entries_again 0 None es [] fits.each fits.joined)

abbrev with_head : Option Head → List Entry → Result FileState FileRefusal
with_head head es = Ok (record { head = head; entries = es })

pub file_takes : (bytes : List ℕ) (file : FileState) → IsBytes bytes → file_at bytes ≡ Ok file
    → IsFile file × (bytes ≡ spelling file.head file.entries)
unfolding file_at
file_takes bytes file fits e =
    let v = bind_ok (version_at bytes) (λ v. placed 0 (number_at w64 v.1) >>= λ n. head_at v.0 n.1 >>= λ h. body_at n.0 h.1 >>= with_head h.0) file e in
    let n = bind_ok (placed 0 (number_at w64 v.0.1)) (λ n. head_at v.0.0 n.1 >>= λ h. body_at n.0 h.1 >>= with_head h.0) file v.2 in
    let h = bind_ok (head_at v.0.0 n.0.1) (λ h. body_at n.0.0 h.1 >>= with_head h.0) file n.2 in
    let b = bind_ok (body_at n.0.0 h.0.1) (with_head h.0.0) file h.2 in
    let first = version_takes bytes v.0 fits v.1 in
    let count = law64.takes v.0.1 n.0.0 n.0.1 first.0.rest_fits (placed_ok 0 (number_at w64 v.0.1) n.0 n.1) in
    let head = head_takes v.0.0 n.0.1 h.0 count.0.rest_fits first.1 h.1 in
    let body = body_takes n.0.0 h.0.1 b.0 head.0.takes.rest_fits b.1 in
    let front = Takes-then bytes (codes "TCGJ" ++ to_le_bytes w32 v.0.0) v.0.1 (to_le_bytes w64 n.0.0) n.0.1 first.0 count.0 in
    let text = head_bytes h.0.0 ++ flat_map entry b.0 in
    let back : n.0.1 ≡ head_bytes h.0.0 ++ flat_map entry b.0 = head.0.takes.parts ∙ ap (λ (r : List ℕ). head_bytes h.0.0 ++ r) body.parts in
    let whole : bytes ≡ spelling h.0.0 b.0 = front.parts ∙ ap (λ (r : List ℕ). header v.0.0 n.0.0 ++ r) back
    ∙ ap (λ (k : ℕ). header v.0.0 k ++ text) (sym body.number) ∙ ap (λ (k : ℕ). header k (length b.0) ++ text) (sym head.1) in
    let are : AreEntries b.0 = record { count = subst (λ k. k < 2 ^ 64) (sym body.number) count.1; each = body.each; joined = body.joined } in
    let made : FileState = record { head = h.0.0; entries = b.0 } in
    subst (λ (f : FileState). IsFile f × (bytes ≡ spelling f.head f.entries)) (ok_is made file FileRefusal b.2) (record { head = head.0.within; entries = are }, whole)

pub file_again : (file : FileState) → IsFile file → file_at (spelling file.head file.entries) ≡ Ok file
unfolding file_at
file_again file fits =
    let es = file.entries in
    let n = length es in
    let text = head_bytes file.head ++ flat_map entry es in
    let known = version_known file.head in
    ap (λ r. r >>= λ v. placed 0 (number_at w64 v.1) >>= λ n. head_at v.0 n.1 >>= λ h. body_at n.0 h.1 >>= with_head h.0)
    (version_again (version_of file.head) (to_le_bytes w64 n ++ text) known.0 known.1) ∙
    ap (λ r. placed 0 r >>= λ n. head_at (version_of file.head) n.1 >>= λ h. body_at n.0 h.1 >>= with_head h.0)
    (law64.again n text fits.entries.count) ∙
    ap (λ r. r >>= λ h. body_at n h.1 >>= with_head h.0) (head_again file.head (flat_map entry es) fits.head) ∙
    ap (λ r. r >>= with_head file.head) (body_again es fits.entries)

pub is_found : {J : Type 0} (view : J → FileState) (bytes : List ℕ) (r : Result J (Refused FileRefusal)) → IsBytes bytes
    → Gives view r (file_at bytes) → IfOk r (λ j. IsFile (view j) × (bytes ≡ spelling (view j).head (view j).entries))
is_found view bytes (Ok j) fits given = file_takes bytes (view j) fits given
is_found view bytes (Err e) fits given = tt

few_in : (x : Order) → FitsOrder x → HasFewSubs x
few_in (orders.Install spec) fits = omega (arith, fits.few)
few_in (orders.Register plugin spec) fits = omega (arith, fits.1.few)
few_in (orders.Reset plugin) fits = tt
few_in (orders.Uninstall plugin) fits = tt

few : (x : Entry) → FitsEntry x → HasFewSubsIn x
few (entries.Turn hart n) fits = tt
few (entries.Order from what) fits = few_in what fits.1
few (entries.Back hart plugin) fits = tt
few (entries.Leave hart) fits = tt
few (entries.Done who plugin) fits = tt

all_few : (es : List Entry) → AllByRecursion FitsEntry es → AllByRecursion HasFewSubsIn es
all_few [] fits = tt
all_few (e ∷ es) fits = (few e fits.0, all_few es fits.1)

pub is_writable : {J : Type 0} (view : J → FileState) (bytes : List ℕ) (r : Result J (Refused FileRefusal))
    → IfOk r (λ j. IsFile (view j) × (bytes ≡ spelling (view j).head (view j).entries)) → IfOk r (λ j. All HasFewSubsIn (view j).entries)
is_writable view bytes (Ok j) found = All-from_recursion HasFewSubsIn (view j).entries (all_few (view j).entries found.0.entries.each)
is_writable view bytes (Err e) found = tt
