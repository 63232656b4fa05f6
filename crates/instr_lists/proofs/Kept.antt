-- Lists that a cache keeps.
use Rattle.std.proofs.Common.{◌≡◌, ◌<◌, ◌∙◌, ◌++◌, ◌∷◌, ◌&&◌, [], ℕ, zero, suc, Bool, true, false, List, length, Some, refl, ap, subst, arith}
use Rattle.std.specs.Prelude.{slice_get, slice_set, slice_index_or, ◌==◌}
use Rattle.std.proofs.lemmas.Bool.{eq-eqb, eqb-true}
use Rattle.flat_model.specs.declared.plugins.SetSpec.{SetSpec}
use Rattle.block_finder.specs.Block.{Stretch}
use Rattle.instr_lists.specs.Lists.{Listed}
use Rattle.instr_lists.specs.declared.kept_lists.KeptList.{KeptList}
use Rattle.instr_lists.specs.Caches.{MayServe, stands_at}

get_set : (lists : List KeptList) (place : ℕ) (kept : KeptList) → place < length lists → slice_get (slice_set lists place kept) place ≡ Some kept
get_set [] place kept below = absurd (omega (arith, below))
get_set (first ∷ lists) zero kept below = refl
get_set (first ∷ lists) (suc place) kept below = get_set lists place kept (omega (arith, below))

get_push : (lists : List KeptList) (place : ℕ) (kept : KeptList) → place ≡ length lists → slice_get (lists ++ kept ∷ []) place ≡ Some kept
get_push [] zero kept end = refl
get_push [] (suc place) kept end = absurd (omega (arith, end))
get_push (first ∷ lists) zero kept end = absurd (omega (arith, end))
get_push (first ∷ lists) (suc place) kept end = get_push lists place kept (omega (arith, end))

stands : (generation pc place : ℕ) (lists : List KeptList) (kept : KeptList) → slice_get lists place ≡ Some kept
    → kept.generation ≡ generation → kept.list.block.pc ≡ pc → stands_at generation pc place lists ≡ true
stands generation pc place lists kept found same at = rw (found, eq-eqb kept.generation generation same, eq-eqb kept.list.block.pc pc at) refl

pub stands_set : (generation pc place : ℕ) (lists : List KeptList) (kept : KeptList) → place < length lists
    → kept.generation ≡ generation → kept.list.block.pc ≡ pc → stands_at generation pc place (slice_set lists place kept) ≡ true
stands_set generation pc place lists kept below = stands generation pc place (slice_set lists place kept) kept (get_set lists place kept below)

pub stands_push : (generation pc place : ℕ) (lists : List KeptList) (kept : KeptList) → place ≡ length lists
    → kept.generation ≡ generation → kept.list.block.pc ≡ pc → stands_at generation pc place (lists ++ kept ∷ []) ≡ true
stands_push generation pc place lists kept end = stands generation pc place (lists ++ kept ∷ []) kept (get_push lists place kept end)

-- the list that stands there is the one that is asked for

wrong : {A : Type 0} → false ≡ true → A
wrong is = absurd (subst (λ b. elim b as (λ _. Type 0) [ true ↦ ⊥ | false ↦ Unit {0} ]) is tt)

left : (a b : Bool) → (a && b) ≡ true → a ≡ true
left true b is = refl
left false b is = wrong is

right : (a b : Bool) → (a && b) ≡ true → b ≡ true
right true b is = is
right false b is = wrong is

listed : (l : Listed) (block : Stretch) (sets : List (ℕ × SetSpec)) → l.block ≡ block → l.sets ≡ sets → l ≡ record { block = block; sets = sets }
listed l block sets same_block same_sets =
    ap (λ (b : Stretch). (let v : Listed = record { block = b; sets = l.sets } in v)) same_block
    ∙ ap (λ (s : List (ℕ × SetSpec)). (let v : Listed = record { block = block; sets = s } in v)) same_sets

pub asked_stands : (generation : ℕ) (block : Stretch) (sets : List (ℕ × SetSpec)) (lists : List KeptList) (place : ℕ) (x : KeptList)
    → stands_at generation block.pc place lists ≡ true → MayServe generation block sets lists
    → x ≡ slice_index_or lists place x → x.list ≡ record { block = block; sets = sets }
asked_stands generation block sets [] place x stands serves is = wrong stands
asked_stands generation block sets (k ∷ lists) zero x stands serves is =
    let agrees = serves zero k (omega arith) in
    ap (λ (y : KeptList). y.list) is
    ∙ listed k.list block sets
    (agrees.same_block (eqb-true k.list.block.pc block.pc (right (k.generation == generation) (k.list.block.pc == block.pc) stands)))
    (agrees.same_sets (eqb-true k.generation generation (left (k.generation == generation) (k.list.block.pc == block.pc) stands)))
asked_stands generation block sets (k ∷ lists) (suc place) x stands serves is =
    asked_stands generation block sets lists place x stands (λ n d below. serves (suc n) d (omega (arith, below))) is
