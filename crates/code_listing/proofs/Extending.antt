-- One line more, and one list more.
use Rattle.std.proofs.Common.{◌≡◌, ◌+◌, ◌*◌, ◌<◌, ℕ, List, [], ◌∷◌, ◌++◌, Some, None, length, take, get_or}
use Rattle.std.proofs.Common.{refl, sym, ◌∙◌, ap, subst, append_assoc}
use Rattle.std.proofs.lemmas.List.{append-nil}
use Rattle.flat_model.specs.Image.{Program, word_at}
use Rattle.code_listing.specs.declared.listings.ListingOf.{ListingOf}
use Rattle.code_listing.specs.Listings.{entry_words, entry_text, Lines, no_line, line_more, HasLines, IsRestListed, Lists, list_more}
use Rattle.code_listing.specs.Listings.{round_up}

-- no line yet
pub lines_none : (what : ListingOf) (image : Program) (first : ℕ) (text : List ℕ) → HasLines what image first first text text
lines_none what image first text = record { more = []; lines = no_line; gained = sym (append-nil text) }

pub lines_next : (what : ListingOf) (image : Program) (first pc word words next : ℕ) (before now new : List ℕ)
    → HasLines what image first pc before now
    → word_at image pc ≡ Some word
    → words ≡ entry_words what image pc
    → next ≡ pc + 4 * words
    → new ≡ now ++ entry_text what image pc word
    → HasLines what image first next before new
lines_next what image first pc word words next before now new lines present words_is next_is new_is =
    let more = lines.more ++ entry_text what image pc word in
    let at : pc + 4 * entry_words what image pc ≡ next = sym (next_is ∙ ap (λ n. pc + 4 * n) words_is) in
    let all : Lines what image first (pc + 4 * entry_words what image pc) more = line_more pc word lines.more lines.lines present in
    record {
      more = more;
      lines = subst (λ (n : ℕ). Lines what image first n more) at all;
      gained = new_is ∙ ap (λ xs. xs ++ entry_text what image pc word) lines.gained ∙ append_assoc before lines.more (entry_text what image pc word);
    }

-- the list of one region more
pub list_next : (what : ListingOf) (image : Program) (bases more : List ℕ) (base first : ℕ) (before after : List ℕ)
    → Lists what image bases before
    → first ≡ round_up base
    → IsRestListed what image first before after
    → more ≡ bases ++ base ∷ []
    → Lists what image more after
list_next what image bases more base first before after lists first_is rest more_is =
    let here : IsRestListed what image (round_up base) before after = subst (λ (n : ℕ). IsRestListed what image n before after) first_is rest in
    subst (λ (bs : List ℕ). Lists what image bs after) (sym more_is) (list_more bases base before after lists here)
