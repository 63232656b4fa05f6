-- Lists that a cache keeps in a run of one image with the same sets.
use Rattle.std.proofs.Common.{◌≡◌, ◌∙◌, ◌⊎◌, inl, inr, ℕ, List, Contains, refl, sym, subst}
use Rattle.std.specs.Prelude.{slice_index_or}
use Rattle.std.proofs.lemmas.List.Elements.{All-contains}
use Rattle.flat_model.specs.declared.plugins.SetSpec.{SetSpec}
use Rattle.flat_model.specs.Image.{Program}
use Rattle.block_finder.specs.Block.{IsBlock, BlockIsOne, Stretch}
use Rattle.instr_lists.specs.declared.kept_lists.KeptList.{KeptList}
use Rattle.instr_lists.specs.Caches.{MayServe, AreFrom, asked_for}
use Rattle.delivery_tests.specs.Kept.{IsFor, AreFor}

pub serves : (one : BlockIsOne) (image : Program) (generation : ℕ) (sets : List (ℕ × SetSpec)) (pc : ℕ)
    (block : Stretch) (kept : List KeptList) → AreFor image sets kept → IsBlock image pc block → MayServe generation block sets kept
serves one image generation sets pc block kept are is n d below = record {
  same_sets = λ _. (are n d below).same_sets;
  same_block = λ at. one image pc (slice_index_or kept n d).list.block block
      (subst (λ p. IsBlock image p (slice_index_or kept n d).list.block) (at ∙ is.place) (are n d below).of_image) is;
}

kept_or_asked : (image : Program) (sets : List (ℕ × SetSpec)) (asked : KeptList) (old : List KeptList) (x : KeptList)
    → AreFor image sets old → IsFor image sets asked → Contains old x ⊎ (x ≡ asked) → IsFor image sets x
kept_or_asked image sets asked old x are is (inl kept) = All-contains (IsFor image sets) old x are kept
kept_or_asked image sets asked old x are is (inr new) = subst (λ k. IsFor image sets k) (sym new) is

pub are_then : (image : Program) (generation : ℕ) (sets : List (ℕ × SetSpec)) (pc : ℕ) (block : Stretch) (old new : List KeptList)
    → AreFor image sets old → IsBlock image pc block → AreFrom (asked_for generation block sets) old new → AreFor image sets new
are_then image generation sets pc block old new are is from n d below =
    kept_or_asked image sets (asked_for generation block sets) old (slice_index_or new n d) are
    (record { same_sets = refl; of_image = subst (λ p. IsBlock image p block) (sym is.place) is }) (from n d below)
