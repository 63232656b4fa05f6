-- The laws of kinds and acts.
use Rattle.std.proofs.Common.{◌≡◌, ℕ, zero, suc, ◌^◌, ◌<◌, List, [], ◌∷◌, ◌++◌, Option, Some, None, Ok, refl, sym}
use Rattle.std.proofs.Common.{ap, subst, ◌∙◌}
use Rattle.std.specs.Prelude.{IfSome}
use Rattle.std.specs.Int.{w32, w64, to_le_bytes}
use Rattle.flat_model.specs.declared.plugins.Op.{Op}
use Rattle.flat_model.specs.declared.plugins.Op.TheVariants as ops
use Rattle.flat_model.specs.declared.plugins.Cond.{Cond}
use Rattle.flat_model.specs.declared.plugins.Cond.TheVariants as conds
use Rattle.flat_model.specs.declared.plugins.KindName.{KindName}
use Rattle.flat_model.specs.declared.plugins.KindName.TheVariants as names
use Rattle.flat_model.specs.declared.plugins.Kind.{Kind}
use Rattle.flat_model.specs.declared.plugins.Act.{Act}
use Rattle.flat_model.specs.declared.plugins.Act.TheVariants as acts
use Rattle.flat_model.specs.Kinds.{staying, resetting, uninstalling}
use Rattle.journal_file.specs.declared.refusal.Fault.{Fault}
use Rattle.journal_file.specs.Table.{op_byte, op_of, cond_byte, cond_of, ask_byte}
use Rattle.journal_file.specs.Spelling.{name, kind, stored, act, FitsName, FitsKind, FitsAct, FitsInline, FitsCond}
use Rattle.journal_file.specs.Reading.{◌>>=◌, byte_at, number_at, op_at, cond_at, named, name_at, kind_of, kind_at, flagged, stored_at}
use Rattle.journal_file.specs.Reading.{inline_at, conditional_at, acted, act_at}
use Rattle.journal_file.proofs.MadeKind.{kind_of-made}
use Rattle.journal_file.proofs.Laws.{IsBytes, IsBytes-rest, done, ok_is, Takes, Takes-then, Takes-byte, Takes-behind, Law, step, taken}
use Rattle.journal_file.proofs.Laws.{again_then, again_last, bind_ok, byte_law, coded_law, law32, law64}

-- ---- the tables

op_back : (b : ℕ) (x : Op) → op_of b ≡ Some x → op_byte x ≡ b
op_back zero x e = let same : ops.Add ≡ x = cc in ap op_byte (sym same)
op_back (suc zero) x e = let same : ops.Store ≡ x = cc in ap op_byte (sym same)
op_back (suc (suc b)) x e = absurd cc

op_again : (x : Op) → op_of (op_byte x) ≡ Some x
op_again ops.Add = refl
op_again ops.Store = refl

pub op_law : Law Op op_at (λ x. op_byte x ∷ []) (λ x. Unit {0})
unfolding op_at
op_law = coded_law op_of op_byte op_back op_again

cond_back : (b : ℕ) (x : Cond) → cond_of b ≡ Some x → cond_byte x ≡ b
cond_back zero x e = let same : conds.Never ≡ x = cc in ap cond_byte (sym same)
cond_back (suc zero) x e = let same : conds.Always ≡ x = cc in ap cond_byte (sym same)
cond_back (suc (suc zero)) x e = let same : conds.Eq ≡ x = cc in ap cond_byte (sym same)
cond_back (suc (suc (suc zero))) x e = let same : conds.Ne ≡ x = cc in ap cond_byte (sym same)
cond_back (suc (suc (suc (suc zero)))) x e = let same : conds.Lt ≡ x = cc in ap cond_byte (sym same)
cond_back (suc (suc (suc (suc (suc zero))))) x e = let same : conds.Le ≡ x = cc in ap cond_byte (sym same)
cond_back (suc (suc (suc (suc (suc (suc zero)))))) x e = let same : conds.Gt ≡ x = cc in ap cond_byte (sym same)
cond_back (suc (suc (suc (suc (suc (suc (suc zero))))))) x e = let same : conds.Ge ≡ x = cc in ap cond_byte (sym same)
cond_back (suc (suc (suc (suc (suc (suc (suc (suc b)))))))) x e = absurd cc

cond_again : (x : Cond) → cond_of (cond_byte x) ≡ Some x
cond_again conds.Never = refl
cond_again conds.Always = refl
cond_again conds.Eq = refl
cond_again conds.Ne = refl
cond_again conds.Lt = refl
cond_again conds.Le = refl
cond_again conds.Gt = refl
cond_again conds.Ge = refl

pub cond_law : Law Cond cond_at (λ x. cond_byte x ∷ []) (λ x. Unit {0})
unfolding cond_at
cond_law = coded_law cond_of cond_byte cond_back cond_again

-- ---- names

named_takes : (b : ℕ) (bytes : List ℕ) (x : KindName) (rest : List ℕ) → IsBytes (b ∷ bytes) → named b bytes ≡ Ok (x, rest) → Takes (b ∷ bytes) (name x) rest × FitsName x
named_takes zero bytes x rest fits e = taken name FitsName (0 ∷ bytes) names.Counts bytes x rest e (Takes-byte 0 bytes fits) tt
named_takes (suc zero) bytes x rest fits e = taken name FitsName (1 ∷ bytes) names.Hot bytes x rest e (Takes-byte 1 bytes fits) tt
named_takes (suc (suc zero)) bytes x rest fits e = taken name FitsName (2 ∷ bytes) names.Mem bytes x rest e (Takes-byte 2 bytes fits) tt
named_takes (suc (suc (suc zero))) bytes x rest fits e = taken name FitsName (3 ∷ bytes) names.Exec bytes x rest e (Takes-byte 3 bytes fits) tt
named_takes (suc (suc (suc (suc zero)))) bytes x rest fits e = taken name FitsName (4 ∷ bytes) names.Classes bytes x rest e (Takes-byte 4 bytes fits) tt
named_takes (suc (suc (suc (suc (suc zero))))) bytes x rest fits e = taken name FitsName (5 ∷ bytes) names.Pages bytes x rest e (Takes-byte 5 bytes fits) tt
named_takes (suc (suc (suc (suc (suc (suc zero)))))) bytes x rest fits e =
    let n = step law32 bytes (λ n. Ok (names.Own n.0, n.1)) (x, rest) (IsBytes-rest 6 bytes fits) e in
    taken name FitsName (6 ∷ bytes) (names.Own n.0.0) n.0.1 x rest n.3 (Takes-behind 6 bytes (to_le_bytes w32 n.0.0) n.0.1 n.1) n.2
named_takes (suc (suc (suc (suc (suc (suc (suc b))))))) bytes x rest fits e = absurd cc

name_takes : (bytes : List ℕ) (x : KindName) (rest : List ℕ) → IsBytes bytes → name_at bytes ≡ Ok (x, rest) → Takes bytes (name x) rest × FitsName x
unfolding name_at
name_takes [] x rest fits e = absurd cc
name_takes (b ∷ bytes) x rest fits e = named_takes b bytes x rest fits e

name_again : (x : KindName) (rest : List ℕ) → FitsName x → name_at (name x ++ rest) ≡ Ok (x, rest)
unfolding name_at
name_again names.Counts rest fits = refl
name_again names.Hot rest fits = refl
name_again names.Mem rest fits = refl
name_again names.Exec rest fits = refl
name_again names.Classes rest fits = refl
name_again names.Pages rest fits = refl
name_again (names.Own n) rest fits = again_last law32 n rest (λ x. Ok (names.Own x.0, x.1)) (Ok (names.Own n, rest)) fits refl

pub name_law : Law KindName name_at name FitsName
name_law = record { takes = name_takes; again = name_again }

-- ---- kinds

record Made (k : Kind) (called : KindName) (q b : ℕ) : Type 0 where
  name_is : k.name ≡ called
  quota_is : k.quota ≡ q
  ask_is : ask_byte k.ask ≡ b

made_of : (k made : Kind) (called : KindName) (q b : ℕ) → done {E = Fault} made ≡ done k → Made made called q b → Made k called q b
made_of k made called q b e is = subst (λ (v : Kind). Made v called q b) (ok_is made k Fault e) is

kind_of-is : (called : KindName) (q b : ℕ) (k : Kind) → kind_of called q b ≡ Ok k → Made k called q b
kind_of-is called zero zero k e = made_of k (staying called) called 0 0 e (record { name_is = refl; quota_is = refl; ask_is = refl })
kind_of-is called zero (suc b) k e = absurd cc
kind_of-is called (suc q) zero k e = absurd cc
kind_of-is called (suc q) (suc zero) k e = made_of k (resetting called q) called (suc q) 1 e (record { name_is = refl; quota_is = refl; ask_is = refl })
kind_of-is called (suc q) (suc (suc zero)) k e = made_of k (uninstalling called q) called (suc q) 2 e (record { name_is = refl; quota_is = refl; ask_is = refl })
kind_of-is called (suc q) (suc (suc (suc b))) k e = absurd cc

kind_spelled : (k : Kind) (called : KindName) (q b : ℕ) → Made k called q b → name called ++ (to_le_bytes w64 q ++ b ∷ []) ≡ kind k
kind_spelled k called q b is = sym (ap (λ n. name n ++ (to_le_bytes w64 k.quota ++ ask_byte k.ask ∷ [])) is.name_is ∙ ap (λ v. name called ++ (to_le_bytes w64 v ++ ask_byte k.ask ∷ [])) is.quota_is ∙ ap (λ v. name called ++ (to_le_bytes w64 q ++ v ∷ [])) is.ask_is)

kind_takes : (bytes : List ℕ) (x : Kind) (rest : List ℕ) → IsBytes bytes → kind_at bytes ≡ Ok (x, rest) → Takes bytes (kind x) rest × FitsKind x
unfolding kind_at
kind_takes bytes x rest fits e =
    let n = step name_law bytes (λ n. number_at w64 n.1 >>= λ q. byte_at q.1 >>= λ b. kind_of n.0 q.0 b.0 >>= λ k. Ok (k, b.1)) (x, rest) fits e in
    let q = step law64 n.0.1 (λ q. byte_at q.1 >>= λ b. kind_of n.0.0 q.0 b.0 >>= λ k. Ok (k, b.1)) (x, rest) n.1.rest_fits n.3 in
    let b = step byte_law q.0.1 (λ b. kind_of n.0.0 q.0.0 b.0 >>= λ k. Ok (k, b.1)) (x, rest) q.1.rest_fits q.3 in
    let k = bind_ok (kind_of n.0.0 q.0.0 b.0.0) (λ k. Ok (k, b.0.1)) (x, rest) b.3 in
    let made = kind_of-is n.0.0 q.0.0 b.0.0 k.0 k.1 in
    let tail = Takes-then n.0.1 (to_le_bytes w64 q.0.0) q.0.1 (b.0.0 ∷ []) b.0.1 q.1 b.1 in
    let whole = Takes-then bytes (name n.0.0) n.0.1 (to_le_bytes w64 q.0.0 ++ b.0.0 ∷ []) b.0.1 n.1 tail in
    taken kind FitsKind bytes k.0 b.0.1 x rest k.2 (subst (λ text. Takes bytes text b.0.1) (kind_spelled k.0 n.0.0 q.0.0 b.0.0 made) whole)
    (record { name = subst FitsName (sym made.name_is) n.2; quota = rw made.quota_is q.2 })

kind_again : (x : Kind) (rest : List ℕ) → FitsKind x → kind_at (kind x ++ rest) ≡ Ok (x, rest)
unfolding kind_at
kind_again x rest fits =
    again_then name_law x.name (to_le_bytes w64 x.quota ++ ask_byte x.ask ∷ []) rest _ (Ok (x, rest)) fits.name
    (again_then law64 x.quota (ask_byte x.ask ∷ []) rest _ (Ok (x, rest)) fits.quota
    (ap (λ k. k >>= λ v. Ok (v, rest)) (kind_of-made x.name x.quota x.ask x.asks_at_quota)))

pub kind_law : Law Kind kind_at kind FitsKind
kind_law = record { takes = kind_takes; again = kind_again }

-- ---- what is stored

flagged_takes : (b : ℕ) (bytes : List ℕ) (x : Option ℕ) (rest : List ℕ) → IsBytes (b ∷ bytes) → flagged b bytes ≡ Ok (x, rest) → Takes (b ∷ bytes) (stored x) rest × IfSome x (λ value. value < 2 ^ 64)
flagged_takes zero bytes x rest fits e = taken stored (λ o. IfSome o (λ value. value < 2 ^ 64)) (0 ∷ bytes) None bytes x rest e (Takes-byte 0 bytes fits) tt
flagged_takes (suc zero) bytes x rest fits e =
    let n = step law64 bytes (λ n. Ok (Some n.0, n.1)) (x, rest) (IsBytes-rest 1 bytes fits) e in
    taken stored (λ o. IfSome o (λ value. value < 2 ^ 64)) (1 ∷ bytes) (Some n.0.0) n.0.1 x rest n.3 (Takes-behind 1 bytes (to_le_bytes w64 n.0.0) n.0.1 n.1) n.2
flagged_takes (suc (suc b)) bytes x rest fits e = absurd cc

stored_takes : (bytes : List ℕ) (x : Option ℕ) (rest : List ℕ) → IsBytes bytes → stored_at bytes ≡ Ok (x, rest) → Takes bytes (stored x) rest × IfSome x (λ value. value < 2 ^ 64)
unfolding stored_at
stored_takes [] x rest fits e = absurd cc
stored_takes (b ∷ bytes) x rest fits e = flagged_takes b bytes x rest fits e

stored_again : (x : Option ℕ) (rest : List ℕ) → IfSome x (λ value. value < 2 ^ 64) → stored_at (stored x ++ rest) ≡ Ok (x, rest)
unfolding stored_at
stored_again None rest fits = refl
stored_again (Some n) rest fits = again_last law64 n rest (λ x. Ok (Some x.0, x.1)) (Ok (Some n, rest)) fits refl

pub stored_law : Law (Option ℕ) stored_at stored (λ o. IfSome o (λ value. value < 2 ^ 64))
stored_law = record { takes = stored_takes; again = stored_again }

-- ---- acts

inline_takes : (bytes : List ℕ) (x : Act) (rest : List ℕ) → IsBytes bytes → inline_at bytes ≡ Ok (x, rest) → Takes (1 ∷ bytes) (act x) rest × FitsAct x
unfolding inline_at
inline_takes bytes x rest fits e =
    let o = step op_law bytes (λ o. byte_at o.1 >>= λ s. number_at w64 s.1 >>= λ i. Ok (acts.Inline o.0 s.0 i.0, i.1)) (x, rest) fits e in
    let s = step byte_law o.0.1 (λ s. number_at w64 s.1 >>= λ i. Ok (acts.Inline o.0.0 s.0 i.0, i.1)) (x, rest) o.1.rest_fits o.3 in
    let i = step law64 s.0.1 (λ i. Ok (acts.Inline o.0.0 s.0.0 i.0, i.1)) (x, rest) s.1.rest_fits s.3 in
    let tail = Takes-then o.0.1 (s.0.0 ∷ []) s.0.1 (to_le_bytes w64 i.0.0) i.0.1 s.1 i.1 in
    let whole = Takes-then bytes (op_byte o.0.0 ∷ []) o.0.1 (s.0.0 ∷ to_le_bytes w64 i.0.0) i.0.1 o.1 tail in
    taken act FitsAct (1 ∷ bytes) (acts.Inline o.0.0 s.0.0 i.0.0) i.0.1 x rest i.3 (Takes-behind 1 bytes (op_byte o.0.0 ∷ s.0.0 ∷ to_le_bytes w64 i.0.0) i.0.1 whole) (record { entry = s.2; imm = i.2 })

inline_again : (op : Op) (entry imm : ℕ) (rest : List ℕ) → FitsInline entry imm → inline_at ((op_byte op ∷ entry ∷ to_le_bytes w64 imm) ++ rest) ≡ Ok (acts.Inline op entry imm, rest)
unfolding inline_at
inline_again op entry imm rest fits =
    again_then op_law op (entry ∷ to_le_bytes w64 imm) rest _ (Ok (acts.Inline op entry imm, rest)) tt
    (again_last law64 imm rest _ (Ok (acts.Inline op entry imm, rest)) fits.imm refl)

conditional_takes : (bytes : List ℕ) (x : Act) (rest : List ℕ) → IsBytes bytes → conditional_at bytes ≡ Ok (x, rest) → Takes (2 ∷ bytes) (act x) rest × FitsAct x
unfolding conditional_at
conditional_takes bytes x rest fits e =
    let c = step cond_law bytes (λ c. byte_at c.1 >>= λ s. number_at w64 s.1 >>= λ i. kind_at i.1 >>= λ k. stored_at k.1 >>= λ t. Ok (acts.Cond c.0 s.0 i.0 t.0 k.0, t.1)) (x, rest) fits e in
    let s = step byte_law c.0.1 (λ s. number_at w64 s.1 >>= λ i. kind_at i.1 >>= λ k. stored_at k.1 >>= λ t. Ok (acts.Cond c.0.0 s.0 i.0 t.0 k.0, t.1)) (x, rest) c.1.rest_fits c.3 in
    let i = step law64 s.0.1 (λ i. kind_at i.1 >>= λ k. stored_at k.1 >>= λ t. Ok (acts.Cond c.0.0 s.0.0 i.0 t.0 k.0, t.1)) (x, rest) s.1.rest_fits s.3 in
    let k = step kind_law i.0.1 (λ k. stored_at k.1 >>= λ t. Ok (acts.Cond c.0.0 s.0.0 i.0.0 t.0 k.0, t.1)) (x, rest) i.1.rest_fits i.3 in
    let t = step stored_law k.0.1 (λ t. Ok (acts.Cond c.0.0 s.0.0 i.0.0 t.0 k.0.0, t.1)) (x, rest) k.1.rest_fits k.3 in
    let kt = Takes-then i.0.1 (kind k.0.0) k.0.1 (stored t.0.0) t.0.1 k.1 t.1 in
    let ikt = Takes-then s.0.1 (to_le_bytes w64 i.0.0) i.0.1 (kind k.0.0 ++ stored t.0.0) t.0.1 i.1 kt in
    let sikt = Takes-then c.0.1 (s.0.0 ∷ []) s.0.1 (to_le_bytes w64 i.0.0 ++ (kind k.0.0 ++ stored t.0.0)) t.0.1 s.1 ikt in
    let whole = Takes-then bytes (cond_byte c.0.0 ∷ []) c.0.1 (s.0.0 ∷ (to_le_bytes w64 i.0.0 ++ (kind k.0.0 ++ stored t.0.0))) t.0.1 c.1 sikt in
    taken act FitsAct (2 ∷ bytes) (acts.Cond c.0.0 s.0.0 i.0.0 t.0.0 k.0.0) t.0.1 x rest t.3 (Takes-behind 2 bytes (cond_byte c.0.0 ∷ s.0.0 ∷ (to_le_bytes w64 i.0.0 ++ (kind k.0.0 ++ stored t.0.0))) t.0.1 whole)
    (record { entry = s.2; imm = i.2; kind = k.2; then_store = t.2 })

conditional_again : (cond : Cond) (entry imm : ℕ) (t : Option ℕ) (k : Kind) (rest : List ℕ) → FitsCond entry imm t k → conditional_at ((cond_byte cond ∷ entry ∷ (to_le_bytes w64 imm ++ (kind k ++ stored t))) ++ rest) ≡ Ok (acts.Cond cond entry imm t k, rest)
unfolding conditional_at
conditional_again cond entry imm t k rest fits =
    again_then cond_law cond (entry ∷ (to_le_bytes w64 imm ++ (kind k ++ stored t))) rest _ (Ok (acts.Cond cond entry imm t k, rest)) tt
    (again_then law64 imm (kind k ++ stored t) rest _ (Ok (acts.Cond cond entry imm t k, rest)) fits.imm
    (again_then kind_law k (stored t) rest _ (Ok (acts.Cond cond entry imm t k, rest)) fits.kind
    (again_last stored_law t rest _ (Ok (acts.Cond cond entry imm t k, rest)) fits.then_store refl)))

acted_takes : (b : ℕ) (bytes : List ℕ) (x : Act) (rest : List ℕ) → IsBytes (b ∷ bytes) → acted b bytes ≡ Ok (x, rest) → Takes (b ∷ bytes) (act x) rest × FitsAct x
acted_takes zero bytes x rest fits e =
    let k = step kind_law bytes (λ k. Ok (acts.Call k.0, k.1)) (x, rest) (IsBytes-rest 0 bytes fits) e in
    taken act FitsAct (0 ∷ bytes) (acts.Call k.0.0) k.0.1 x rest k.3 (Takes-behind 0 bytes (kind k.0.0) k.0.1 k.1) k.2
acted_takes (suc zero) bytes x rest fits e = inline_takes bytes x rest (IsBytes-rest 1 bytes fits) e
acted_takes (suc (suc zero)) bytes x rest fits e = conditional_takes bytes x rest (IsBytes-rest 2 bytes fits) e
acted_takes (suc (suc (suc b))) bytes x rest fits e = absurd cc

act_takes : (bytes : List ℕ) (x : Act) (rest : List ℕ) → IsBytes bytes → act_at bytes ≡ Ok (x, rest) → Takes bytes (act x) rest × FitsAct x
unfolding act_at
act_takes [] x rest fits e = absurd cc
act_takes (b ∷ bytes) x rest fits e = acted_takes b bytes x rest fits e

act_again : (x : Act) (rest : List ℕ) → FitsAct x → act_at (act x ++ rest) ≡ Ok (x, rest)
unfolding act_at
act_again (acts.Call k) rest fits = again_last kind_law k rest (λ v. Ok (acts.Call v.0, v.1)) (Ok (acts.Call k, rest)) fits refl
act_again (acts.Inline op entry imm) rest fits = inline_again op entry imm rest fits
act_again (acts.Cond cond entry imm t k) rest fits = conditional_again cond entry imm t k rest fits

pub act_law : Law Act act_at act FitsAct
act_law = record { takes = act_takes; again = act_again }
