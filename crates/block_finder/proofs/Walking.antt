-- How a walk comes to the words of a block one by one.
use Rattle.std.proofs.Common.{◌≡◌, ◌+◌, ◌-◌, ◌*◌, ◌/◌, ◌%◌, ◌<◌, ℕ, suc, min, cond, Bool, true, false, None}
use Rattle.std.proofs.Common.{refl, sym, ◌∙◌, ap, arith}
use Rattle.std.specs.Option.{option_map_or}
use Rattle.flat_model.specs.Image.{Program, word_at}
use Rattle.flat_model.specs.Instruction.{ends_block}
use Rattle.flat_model.specs.Blocks.{counted, length_within, length_of}
use Rattle.block_finder.specs.declared.blocks.Site.{Site}
use Rattle.block_finder.specs.Block.{IsSite}

-- before the first word, all of them are to come
pub all_to_come : (image : Program) (pc end : ℕ) → end ≡ min 512 ((4096 - pc % 4096) / 4)
    → length_within image (pc + 4 * 0) (end - 0) ≡ length_of image pc
unfolding length_of
all_to_come image pc end is =
    let at : pc + 4 * 0 ≡ pc = omega arith in
    let reach : end - 0 ≡ min 512 ((4096 - pc % 4096) / 4) = omega (arith, is) in
    ap (λ p. length_within image p (end - 0)) at ∙ ap (length_within image pc) reach

-- nothing is in reach
pub none_in_reach : (image : Program) (pc place end : ℕ) → place ≡ end → length_within image pc (end - place) ≡ 0
unfolding length_within
none_in_reach image pc place end is =
    let none : end - place ≡ 0 = omega (arith, is) in
    ap (length_within image pc) none

-- the number of words to come, by the next word
by_next : (image : Program) (first place end : ℕ) → place < end
    → length_within image (first + 4 * place) (end - place)
    ≡ counted (word_at image (first + 4 * place)) (length_within image (first + 4 * (place + 1)) (end - (place + 1)))
unfolding length_within
by_next image first place end within =
    let one : end - place ≡ suc (end - (place + 1)) = omega (arith, within) in
    let at : first + 4 * place + 4 ≡ first + 4 * (place + 1) = omega arith in
    ap (length_within image (first + 4 * place)) one
    ∙ ap (λ p. counted (word_at image (first + 4 * place)) (length_within image p (end - (place + 1)))) at

-- the next word is absent
pub absent_next : (image : Program) (first place end : ℕ) → place < end → word_at image (first + 4 * place) ≡ None
    → length_within image (first + 4 * place) (end - place) ≡ 0
absent_next image first place end within absent =
    by_next image first place end within
    ∙ ap (λ word. counted word (length_within image (first + 4 * (place + 1)) (end - (place + 1)))) absent

behind_site : (image : Program) (pc more : ℕ) (site : Site) → IsSite image pc site
    → counted (word_at image pc) more ≡ cond (option_map_or ends_block site.ins true) 1 (suc more)
behind_site image pc more site is = rw (is.present, is.decodes) refl

by_site : (image : Program) (first place end : ℕ) (site : Site) (ends : Bool) → place < end → IsSite image (first + 4 * place) site
    → ends ≡ option_map_or ends_block site.ins true
    → length_within image (first + 4 * place) (end - place)
    ≡ cond ends 1 (suc (length_within image (first + 4 * (place + 1)) (end - (place + 1))))
by_site image first place end site ends within is same =
    let more = length_within image (first + 4 * (place + 1)) (end - (place + 1)) in
    by_next image first place end within
    ∙ behind_site image (first + 4 * place) more site is
    ∙ ap (λ b. cond b 1 (suc more)) (sym same)

-- behind a word that ends the block there is none
pub ends_here : (image : Program) (first place end : ℕ) (site : Site) → place < end → IsSite image (first + 4 * place) site
    → true ≡ option_map_or ends_block site.ins true
    → place + 1 + length_within image (first + 4 * (place + 1)) (place + 1 - (place + 1))
    ≡ place + length_within image (first + 4 * place) (end - place)
ends_here image first place end site within is same =
    let none = none_in_reach image (first + 4 * (place + 1)) (place + 1) (place + 1) refl in
    omega (arith, by_site image first place end site true within is same, none)

-- behind another one there is one less
pub goes_on : (image : Program) (first place end : ℕ) (site : Site) → place < end → IsSite image (first + 4 * place) site
    → false ≡ option_map_or ends_block site.ins true
    → place + 1 + length_within image (first + 4 * (place + 1)) (end - (place + 1))
    ≡ place + length_within image (first + 4 * place) (end - place)
goes_on image first place end site within is same =
    omega (arith, by_site image first place end site false within is same)
