-- What a registry shows after one slot was changed, and which room is kept.
use Rattle.std.proofs.Common.{◌≡◌, ◌<◌, ◌-◌, ◌++◌, ◌∷◌, [], ℕ, Bool, true, false, List, length, map, take, ap}
use Rattle.std.proofs.Common.{sym, ◌∙◌, refl, arith, zero, suc, nat_lt, nat_le, ◌&&◌}
use Rattle.std.proofs.Math.ListN.{set, get_or}
use Rattle.std.proofs.Math.Seq.{map-set_same}
use Rattle.std.proofs.lemmas.Bool.{eqb-false}
use Rattle.std.proofs.lemmas.Bool.Decides.{nat_tests}
use Rattle.std.proofs.lemmas.List.{map-set, get_or-map}
use Rattle.std.proofs.lemmas.Grind.{common_steps}
use Rattle.flat_model.specs.Registry.{Plugin, no_plugin, with_plugin, plugin_of}
use Rattle.flat_model.specs.declared.plugins.SetSpec.{SetSpec}
use Rattle.flat_model.specs.declared.journals.Order.TheVariants.{Install, Register, Reset, Uninstall}
use Rattle.plug_registry.specs.State.{RegistryState, SlotState, KeepsRoom, KeepsOtherRoom}

-- what a registry with these slots shows
abbrev pub seen : ℕ → ℕ → List Bool → Bool → List SlotState → RegistryState
seen harts boxes gone can slots = record {
  table = record { harts = harts; boxes = boxes; plugins = map (λ s. s.plugin) slots; gone = gone };
  can_install = can;
  can_register = map (λ s. s.has_room) slots;
}

-- the plug-ins with one slot changed as its plug-in says
pub changed : (f : Plugin → Plugin) (slots : List SlotState) (i : ℕ) (before now : SlotState) → i < length slots
    → before ≡ get_or slots i before → now.plugin ≡ f before.plugin
    → map (λ s. s.plugin) (set slots i now) ≡ set (map (λ s. s.plugin) slots) i (f (get_or (map (λ s. s.plugin) slots) i no_plugin))
changed f slots i before now within is says =
    map-set (λ (s : SlotState). s.plugin) slots i now
    ∙ ap (λ p. set (map (λ s. s.plugin) slots) i p)
    (says ∙ ap (λ s. f s.plugin) is ∙ ap f (sym (get_or-map (λ (s : SlotState). s.plugin) slots i before no_plugin within)))

-- the same of all that the registry shows, where the slot's room stays
pub one_changed : (f : Plugin → Plugin) (harts boxes : ℕ) (gone : List Bool) (can : Bool) (slots : List SlotState) (number : ℕ)
    (before now : SlotState) → number - 1 < length slots → before ≡ get_or slots (number - 1) before
    → now ≡ record before { plugin = f before.plugin }
    → seen harts boxes gone can (set slots (number - 1) now) ≡ record (seen harts boxes gone can slots) {
      table = with_plugin (seen harts boxes gone can slots).table number (f (plugin_of (seen harts boxes gone can slots).table number));
    }
one_changed f harts boxes gone can slots number before now within is says =
    ap (λ ps. record {
      table = record { harts = harts; boxes = boxes; plugins = ps; gone = gone };
      can_install = can;
      can_register = map (λ s. s.has_room) (set slots (number - 1) now);
    }) (changed f slots (number - 1) before now within is (ap (λ s. s.plugin) says))
    ∙ ap (λ rs. record {
      table = with_plugin (seen harts boxes gone can slots).table number (f (plugin_of (seen harts boxes gone can slots).table number));
      can_install = can;
      can_register = rs;
    }) (map-set_same (λ (s : SlotState). s.has_room) slots (number - 1) now before (ap (λ s. s.has_room) says ∙ ap (λ s. s.has_room) is))

-- the front of a list that was written over
pub front : {X : Type 0} (n : ℕ) (xs ys : List X) → length xs ≡ n → take n (xs ++ ys) ≡ xs
front n xs ys e = grind (arith, common_steps)

-- ---- room

room_at : (slots : List SlotState) (i k : ℕ) (before now : SlotState) → before ≡ get_or slots i before
    → (before.has_room ≡ true → now.has_room ≡ true) → get_or (map (λ s. s.has_room) slots) k false ≡ true
    → get_or (map (λ s. s.has_room) (set slots i now)) k false ≡ true
room_at [] i k before now is keeps was = was
room_at (s ∷ ss) zero zero before now is keeps was = keeps (ap (λ s. s.has_room) is ∙ was)
room_at (s ∷ ss) zero (suc k) before now is keeps was = was
room_at (s ∷ ss) (suc i) zero before now is keeps was = was
room_at (s ∷ ss) (suc i) (suc k) before now is keeps was = room_at ss i k before now is keeps was

room_of_other : (slots : List SlotState) (i k : ℕ) (now : SlotState) → (k ≡ i → ⊥)
    → get_or (map (λ s. s.has_room) (set slots i now)) k false ≡ get_or (map (λ s. s.has_room) slots) k false
room_of_other [] i k now other = refl
room_of_other (s ∷ ss) zero zero now other = absurd (other refl)
room_of_other (s ∷ ss) zero (suc k) now other = refl
room_of_other (s ∷ ss) (suc i) zero now other = refl
room_of_other (s ∷ ss) (suc i) (suc k) now other = room_of_other ss i k now (λ e. other (ap suc e))

pub room_here : (slots : List SlotState) (i : ℕ) (now : SlotState) → i < length slots
    → get_or (map (λ s. s.has_room) (set slots i now)) i false ≡ now.has_room
room_here [] i now within = absurd (omega arith)
room_here (s ∷ ss) zero now within = refl
room_here (s ∷ ss) (suc i) now within = room_here ss i now (omega arith)

-- a slot that keeps its own room keeps all
pub keeps_room : (harts boxes : ℕ) (gone : List Bool) (can : Bool) (slots : List SlotState) (i : ℕ) (before now : SlotState)
    → before ≡ get_or slots i before → (before.has_room ≡ true → now.has_room ≡ true)
    → KeepsRoom (seen harts boxes gone can slots) (seen harts boxes gone can (set slots i now))
keeps_room harts boxes gone can slots i before now is keeps (Install spec) place room = room
keeps_room harts boxes gone can slots i before now is keeps (Register plugin spec) place room =
    λ there. room_at slots i (plugin - 1) before now is keeps (room place)
keeps_room harts boxes gone can slots i before now is keeps (Reset plugin) place room = tt
keeps_room harts boxes gone can slots i before now is keeps (Uninstall plugin) place room = tt

positive : (number count : ℕ) → nat_lt 0 number && nat_le number count ≡ true → 0 < number
positive number count is = grind (arith, nat_tests)

-- a slot's room is its own
pub keeps_other : (harts boxes left : ℕ) (gone : List Bool) (can : Bool) (slots : List SlotState) (number : ℕ) (spec : SetSpec)
    (now : SlotState) → 0 < number
    → KeepsOtherRoom (Register number spec) (seen harts boxes gone can slots) (seen harts left gone can (set slots (number - 1) now))
keeps_other harts boxes left gone can slots number spec now some (Install other) apart place room = room
keeps_other harts boxes left gone can slots number spec now some (Register plugin other) apart place room =
    let named = positive plugin _ place in
    let differ : number ≡ plugin → ⊥ = eqb-false number plugin apart in
    λ there. room_of_other slots (number - 1) (plugin - 1) now (λ e. differ (omega arith)) ∙ room place
keeps_other harts boxes left gone can slots number spec now some (Reset plugin) apart place room = tt
keeps_other harts boxes left gone can slots number spec now some (Uninstall plugin) apart place room = tt
