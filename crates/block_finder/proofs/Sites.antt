-- The words of a block, one more at a time, and that a block is one.
use Rattle.std.proofs.Common.{◌≡◌, ◌+◌, ◌*◌, ◌<◌, ℕ, suc, List, [], ◌∷◌, ◌++◌, length}
use Rattle.std.proofs.Common.{slice_index_or, Option, refl, sym, ◌∙◌, ap, subst, inl, inr, arith}
use Rattle.std.proofs.lemmas.Bool.{cases_order}
use Rattle.std.proofs.lemmas.List.{get_or_append_left}
use Rattle.std.proofs.Math.Seq.{get_or-append_seam}
use Rattle.flat_model.specs.Image.{Program}
use Rattle.flat_model.specs.declared.instructions.Ins.{Ins}
use Rattle.flat_model.specs.declared.events.Class.{Class}
use Rattle.block_finder.specs.declared.blocks.Site.{Site}
use Rattle.block_finder.specs.Block.{IsSite, AreSites, Stretch, BlockIsOne}

pub length_push : (sites : List Site) (site : Site) → length (sites ++ site ∷ []) ≡ length sites + 1
length_push [] site = refl
length_push (first ∷ sites) site = omega (arith, length_push sites site)

-- one word more
pub sites_push : (image : Program) (pc : ℕ) (sites : List Site) (site : Site)
    → AreSites image pc sites → IsSite image (pc + 4 * length sites) site → AreSites image pc (sites ++ site ∷ [])
sites_push image pc sites site before is k other below =
    elim (cases_order k (length sites)) [
      | inl last ↦
          let at : slice_index_or (sites ++ site ∷ []) k other ≡ site =
          ap (λ i. slice_index_or (sites ++ site ∷ []) i other) last ∙ get_or-append_seam sites site [] other in
          subst (λ i. IsSite image (pc + 4 * i) (slice_index_or (sites ++ site ∷ []) k other)) (sym last)
          (subst (λ s. IsSite image (pc + 4 * length sites) s) (sym at) is)
      | inr (inl earlier) ↦
          subst (λ s. IsSite image (pc + 4 * k) s) (sym (get_or_append_left sites (site ∷ []) other k earlier)) (before k other earlier)
      | inr (inr later) ↦ absurd (omega (arith, later, below, length_push sites site))
    ]

site_with : ℕ → ℕ → Option Ins → Class → Site
site_with pc word ins class = record { pc = pc; word = word; ins = ins; class = class }

stretch_with : ℕ → ℕ → List Site → Stretch
stretch_with pc n sites = record { pc = pc; n = n; sites = sites }

from_parts : (a b : Site) → site_with a.pc a.word a.ins a.class ≡ site_with b.pc b.word b.ins b.class → a ≡ b
unfolding site_with
from_parts a b is = is

from_stretch_parts : (a b : Stretch) → stretch_with a.pc a.n a.sites ≡ stretch_with b.pc b.n b.sites → a ≡ b
unfolding stretch_with
from_stretch_parts a b is = is

one_site : (image : Program) (pc : ℕ) (a b : Site) → IsSite image pc a → IsSite image pc b → a ≡ b
one_site image pc a b is other =
    let word : a.word ≡ b.word = cc (is.present, other.present) in
    let pcs : a.pc ≡ b.pc = is.place ∙ sym other.place in
    let inss : a.ins ≡ b.ins = is.decodes ∙ (rw word (sym other.decodes)) in
    let classes : a.class ≡ b.class = is.class ∙ (rw word (sym other.class)) in
    from_parts a b cc

same_sites : (xs ys : List Site) → length xs ≡ length ys
    → ((k : ℕ) (other : Site) → k < length xs → slice_index_or xs k other ≡ slice_index_or ys k other) → xs ≡ ys
same_sites [] [] long each = refl
same_sites [] (b ∷ ys) long each = absurd (omega (arith, long))
same_sites (a ∷ xs) [] long each = absurd (omega (arith, long))
same_sites (a ∷ xs) (b ∷ ys) long each =
    let first : a ≡ b = each 0 a (omega arith) in
    let rest : xs ≡ ys = same_sites xs ys (omega (arith, long)) (λ k other below. each (suc k) other (omega (arith, below))) in
    cc

pub block_is_one : BlockIsOne
block_is_one image pc a b is other =
    let pcs : a.pc ≡ b.pc = is.place ∙ sym other.place in
    let ns : a.n ≡ b.n = is.computed ∙ sym other.computed in
    let long : length a.sites ≡ length b.sites = is.all ∙ (ns ∙ sym other.all) in
    let sites : a.sites ≡ b.sites =
    same_sites a.sites b.sites long
    (λ k site below. one_site image (pc + 4 * k) (slice_index_or a.sites k site) (slice_index_or b.sites k site)
    (is.sites k site below) (other.sites k site (omega (arith, below, long)))) in
    from_stretch_parts a b cc
