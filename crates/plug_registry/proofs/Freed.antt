-- What a registry shows where a hart owes nothing any more.
use Rattle.std.proofs.Common.{◌≡◌, ℕ, Bool, List, [], ◌∷◌, length, map, refl, ap, ◌∙◌, set, get_or, true, false}
use Rattle.std.specs.List.{All}
use Rattle.std.proofs.lemmas.List.Elements.{All-map}
use Rattle.std.proofs.lemmas.List.{length-set}
use Rattle.flat_model.specs.Registry.{without_hart, after_leave}
use Rattle.plug_registry.specs.State.{SlotState, freed}
use Rattle.plug_registry.proofs.Slots.{seen}

pub freed-plugins : (hart : ℕ) (slots : List SlotState) → map (λ s. s.plugin) (map (freed hart) slots) ≡ map (without_hart hart) (map (λ s. s.plugin) slots)
freed-plugins hart [] = refl
freed-plugins hart (s ∷ ss) = ap (λ ps. without_hart hart s.plugin ∷ ps) (freed-plugins hart ss)

pub freed-room : (hart : ℕ) (slots : List SlotState) → map (λ s. s.has_room) (map (freed hart) slots) ≡ map (λ s. s.has_room) slots
freed-room hart [] = refl
freed-room hart (s ∷ ss) = ap (λ rs. s.has_room ∷ rs) (freed-room hart ss)

-- where a hart has left, the table is that of its Leave and the room is as it was
pub one_left : (hart harts boxes : ℕ) (gone : List Bool) (can : Bool) (slots : List SlotState)
    → seen harts boxes (set gone hart true) can (map (freed hart) slots)
    ≡ record (seen harts boxes gone can slots) { table = after_leave hart (seen harts boxes gone can slots).table }
one_left hart harts boxes gone can slots =
    ap (λ ps. record {
      table = record { harts = harts; boxes = boxes; plugins = ps; gone = set gone hart true };
      can_install = can;
      can_register = map (λ s. s.has_room) (map (freed hart) slots);
    }) (freed-plugins hart slots)
    ∙ ap (λ rs. record { table = after_leave hart (seen harts boxes gone can slots).table; can_install = can; can_register = rs }) (freed-room hart slots)

-- each hart has its place still
pub freed-harts : (hart harts : ℕ) (slots : List SlotState) → All (λ s. length s.plugin.owing ≡ harts) slots
    → All (λ s. length s.plugin.owing ≡ harts) (map (freed hart) slots)
freed-harts hart harts slots each = All-map (λ s. length s.plugin.owing ≡ harts) (freed hart) slots
    (λ k d within. length-set (get_or slots k d).plugin.owing hart false ∙ each k d within)
