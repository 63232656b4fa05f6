-- A block that takes a place among those that a cache keeps.
use Rattle.std.proofs.Common.{◌≡◌, ◌<◌, ℕ, zero, suc, true, List, [], ◌∷◌}
use Rattle.std.proofs.Common.{◌++◌, length, slice_set, slice_get, Some, refl, sym, subst, arith}
use Rattle.std.proofs.lemmas.Bool.Decides.{nat_tests}
use Rattle.std.proofs.lemmas.List.Elements.{All-set, All-append}
use Rattle.flat_model.specs.Image.{Program}
use Rattle.block_finder.specs.Block.{Stretch, IsBlock}
use Rattle.block_finder.specs.Caches.{AreOf, stands_at}

at_own_pc : (image : Program) (pc : ℕ) (block : Stretch) → IsBlock image pc block → IsBlock image block.pc block
at_own_pc image pc block is = subst (λ at. IsBlock image at block) (sym is.place) is

one_block : (image : Program) (pc : ℕ) (block : Stretch) → IsBlock image pc block → AreOf image (block ∷ [])
one_block image pc block is zero other below = at_own_pc image pc block is
one_block image pc block is (suc k) other below = absurd (omega (arith, below))

pub right_set : (image : Program) (pc place : ℕ) (blocks : List Stretch) (block : Stretch)
    → IsBlock image pc block → AreOf image blocks → AreOf image (slice_set blocks place block)
right_set image pc place blocks block is right =
    All-set (λ b. IsBlock image b.pc b) blocks place block (at_own_pc image pc block is) right

pub right_push : (image : Program) (pc : ℕ) (blocks : List Stretch) (block : Stretch)
    → IsBlock image pc block → AreOf image blocks → AreOf image (blocks ++ block ∷ [])
right_push image pc blocks block is right =
    All-append (λ b. IsBlock image b.pc b) blocks (block ∷ []) right (one_block image pc block is)

get_set : (blocks : List Stretch) (place : ℕ) (block : Stretch) → place < length blocks
    → slice_get (slice_set blocks place block) place ≡ Some block
get_set [] place block below = absurd (omega (arith, below))
get_set (first ∷ blocks) zero block below = refl
get_set (first ∷ blocks) (suc place) block below = get_set blocks place block (omega (arith, below))

get_push : (blocks : List Stretch) (place : ℕ) (block : Stretch) → place ≡ length blocks
    → slice_get (blocks ++ block ∷ []) place ≡ Some block
get_push [] zero block end = refl
get_push [] (suc place) block end = absurd (omega (arith, end))
get_push (first ∷ blocks) zero block end = absurd (omega (arith, end))
get_push (first ∷ blocks) (suc place) block end = get_push blocks place block (omega (arith, end))

stands : (pc place : ℕ) (blocks : List Stretch) (block : Stretch) → slice_get blocks place ≡ Some block → block.pc ≡ pc
    → stands_at pc place blocks ≡ true
stands pc place blocks block found is = rw found (grind (arith, nat_tests))

pub stands_set : (image : Program) (pc place : ℕ) (blocks : List Stretch) (block : Stretch)
    → place < length blocks → IsBlock image pc block → stands_at pc place (slice_set blocks place block) ≡ true
stands_set image pc place blocks block below is =
    stands pc place (slice_set blocks place block) block (get_set blocks place block below) is.place

pub stands_push : (image : Program) (pc place : ℕ) (blocks : List Stretch) (block : Stretch)
    → place ≡ length blocks → IsBlock image pc block → stands_at pc place (blocks ++ block ∷ []) ≡ true
stands_push image pc place blocks block end is =
    stands pc place (blocks ++ block ∷ []) block (get_push blocks place block end) is.place
