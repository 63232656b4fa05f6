-- The lists that a hart keeps while its sets change, and delivery where no set is attached.
use Rattle.std.proofs.Common.{◌≡◌, ◌<◌, ◌⊎◌, inl, inr, ℕ, List, [], ◌∷◌, Contains, length, arith, refl, sym, subst}
use Rattle.std.specs.Prelude.{slice_index_or}
use Rattle.std.proofs.lemmas.List.Elements.{All-contains}
use Rattle.flat_model.specs.declared.events.Event.{Event}
use Rattle.flat_model.specs.declared.plugins.Ask.{Ask}
use Rattle.flat_model.specs.declared.plugins.SetSpec.{SetSpec}
use Rattle.flat_model.specs.Image.{Program}
use Rattle.block_finder.specs.Block.{IsBlock, BlockIsOne, Stretch}
use Rattle.event_walk.specs.Matches.{Classes}
use Rattle.watcher_api.specs.Attachment.{Attachment}
use Rattle.watcher_api.specs.Acting.{walks_of}
use Rattle.instr_lists.specs.declared.kept_lists.KeptList.{KeptList}
use Rattle.instr_lists.specs.Caches.{MayServe, AreFrom, asked_for}
use Rattle.instr_lists.specs.Delivery.{each_hears, each_walks}
use Rattle.run_replay.specs.Lists.{IsList, AreLists}

-- a cache without lists
pub fresh : (image : Program) (generation : ℕ) (sets : List (ℕ × SetSpec)) → AreLists image generation sets []
fresh image generation sets n d below = absurd (omega arith)

-- where the sets change and a new generation begins
pub later : (image : Program) (old new : ℕ) (before sets : List (ℕ × SetSpec)) (kept : List KeptList)
    → AreLists image old before kept → old < new → AreLists image new sets kept
later image old new before sets kept are above n d below =
    let is : IsList image old before (slice_index_or kept n d) = are n d below in
    record {
      past = omega arith;
      same_sets = λ same. absurd (omega arith);
      of_image = is.of_image;
    }

pub serves : (one : BlockIsOne) (image : Program) (generation : ℕ) (sets : List (ℕ × SetSpec)) (block : Stretch) (kept : List KeptList)
    → AreLists image generation sets kept → IsBlock image block.pc block → MayServe generation block sets kept
serves one image generation sets block kept are is n d below =
    let list : IsList image generation sets (slice_index_or kept n d) = are n d below in
    record {
      same_sets = list.same_sets;
      same_block = λ at. one image block.pc (slice_index_or kept n d).list.block block
          (subst (λ p. IsBlock image p (slice_index_or kept n d).list.block) at list.of_image) is;
    }

-- a block at its own address
pub block_at : (image : Program) (pc : ℕ) (block : Stretch) → IsBlock image pc block → IsBlock image block.pc block
block_at image pc block is = subst (λ (p : ℕ). IsBlock image p block) (sym is.place) is

kept_or_asked : (image : Program) (generation : ℕ) (sets : List (ℕ × SetSpec)) (asked : KeptList) (old : List KeptList) (x : KeptList)
    → AreLists image generation sets old → IsList image generation sets asked → Contains old x ⊎ (x ≡ asked)
    → IsList image generation sets x
kept_or_asked image generation sets asked old x are is (inl kept) = All-contains (IsList image generation sets) old x are kept
kept_or_asked image generation sets asked old x are is (inr new) = subst (λ k. IsList image generation sets k) (sym new) is

-- after a list was looked up
pub are_then : (image : Program) (generation : ℕ) (sets : List (ℕ × SetSpec)) (block : Stretch) (old new : List KeptList)
    → AreLists image generation sets old → IsBlock image block.pc block → AreFrom (asked_for generation block sets) old new
    → AreLists image generation sets new
are_then image generation sets block old new are is from n d below =
    kept_or_asked image generation sets (asked_for generation block sets) old (slice_index_or new n d) are
    (record { past = omega arith; same_sets = λ same. refl; of_image = is }) (from n d below)

-- where no set is attached, no event changes anything
hears_none : (classes : Classes) (sets : List (ℕ × SetSpec)) (e : Event) → each_hears classes sets e [] ≡ []
unfolding each_hears
hears_none classes [] e = refl
hears_none classes (s ∷ sets) e = refl

walks_none : (classes : Classes) (sets : List (ℕ × SetSpec)) (raw : List Event) → each_walks classes sets raw [] ≡ []
unfolding each_walks
walks_none classes sets [] = refl
walks_none classes sets (e ∷ raw) = rw hears_none (walks_none classes sets raw)

pub none_heard : (classes : Classes) (sets : List (ℕ × SetSpec)) (raw : List Event) (asks asked : List Ask) (attached : List Attachment)
    → length attached ≡ 0 → walks_of asks attached ≡ each_walks classes sets raw (walks_of asked attached)
none_heard classes sets raw asks asked [] _ = sym (walks_none classes sets raw)
none_heard classes sets raw asks asked (a ∷ attached) some = absurd (omega arith)
