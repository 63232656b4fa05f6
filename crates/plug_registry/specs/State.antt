-- What a registry shows: the plug-ins of the run, and for which orders room was reserved.
use Rattle.std.specs.Prelude.{ℕ, ◌-◌, ◌<◌, ◌≤◌, ◌≡◌, ◌==◌, Bool, true, false, List, [], ◌∷◌, ◌++◌}
use Rattle.std.specs.Prelude.{length, replicate}
use Rattle.std.specs.Prelude.{slice_index_or, vec_capacity, Vec, Option, Some, None}
use Rattle.std.specs.List.{All}
use Rattle.std.specs.Global.{Global}
use Rattle.std.specs.Option.{ForSome}
use Rattle.flat_model.specs.declared.journals.Order.{Order}
use Rattle.flat_model.specs.declared.journals.Order.TheVariants.{Install, Register, Reset, Uninstall}
use Rattle.flat_model.specs.declared.journals.PlugState.{PlugState}
use Rattle.flat_model.specs.declared.journals.PlugState.TheVariants.{Live, Idle, Resetting, Leaving, Gone}
use Rattle.flat_model.specs.declared.journals.How.{How}
use Rattle.flat_model.specs.declared.journals.How.TheVariants as how
use Rattle.flat_model.specs.declared.plugins.SetSpec.{SetSpec}
use Rattle.flat_model.specs.declared.limits.TheConstants.{PLUGINS_MOST}
use Rattle.flat_model.specs.Registry.{Plugin, Plugins, is_installed, without_hart}

-- the plug-ins, and whether the next install and each plug-in's next set have room
pub record RegistryState : Type 0 where
  pub table : Plugins
  pub can_install : Bool
  pub can_register : List Bool

-- the order has the room that it takes, where its plug-in is there; a Reset and an Uninstall take none
abbrev pub HasRoom : RegistryState → Order → Type 0
HasRoom state (Install spec) = state.can_install ≡ true
HasRoom state (Register plugin spec) =
    is_installed state.table plugin ≡ true → slice_index_or state.can_register (plugin - 1) false ≡ true
HasRoom state (Reset plugin) = Unit {0}
HasRoom state (Uninstall plugin) = Unit {0}

-- whether the plug-in to which an order adds a set is there; an Install brings its own
abbrev pub has_place : Plugins → Order → Bool
has_place r (Install spec) = true
has_place r (Register plugin spec) = is_installed r plugin
has_place r (Reset plugin) = true
has_place r (Uninstall plugin) = true

-- what had its place and room has room still
abbrev pub KeepsRoom : RegistryState → RegistryState → Type 0
KeepsRoom before after = (order : Order) → has_place before.table order ≡ true → HasRoom before order → HasRoom after order

-- whether two orders take the same room
abbrev pub share_room : Order → Order → Bool
share_room (Install spec) (Install other) = true
share_room (Register plugin spec) (Register number other) = plugin == number
share_room order other = false

-- the same but for the orders that share the room of the one that was carried out
abbrev pub KeepsOtherRoom : Order → RegistryState → RegistryState → Type 0
KeepsOtherRoom done before after =
    (order : Order) → share_room done order ≡ false → has_place before.table order ≡ true → HasRoom before order → HasRoom after order

-- a plug-in, and whether there is room for one more set of it
pub record SlotState : Type 0 where
  pub plugin : Plugin
  pub has_room : Bool

-- a slot of which a hart owes nothing any more
abbrev pub freed : ℕ → SlotState → SlotState
freed hart slot = record slot { plugin = without_hart hart slot.plugin }

-- how the sets have ended, by how the last of so many has: each set before it by a reset
abbrev pub ended : ℕ → Option How → List How
ended sets None = replicate (sets - 1) how.Reset
ended sets (Some last) = replicate (sets - 1) how.Reset ++ last ∷ []

-- how the last set has ended in a state: not while it is Live, by a reset while it is Idle or Resetting
abbrev pub EndsIn : PlugState → Option How → Type 0
EndsIn Live last = last ≡ None
EndsIn Idle last = last ≡ Some how.Reset
EndsIn Resetting last = last ≡ Some how.Reset
EndsIn Leaving last = Unit {0}
EndsIn Gone last = Unit {0}

-- what every slot keeps: it has a set, and its state tells how the last of them has ended
pub record IsSlot (state : PlugState) (sets : List SetSpec) (last : Option How) : Type 0 where
  pub some : 0 < length sets
  pub ends : EndsIn state last

-- the parts of a slot to come: no set yet and room for one, and no hart owes its Back
pub record IsSpare (sets : Vec SetSpec Global) (owing : List Bool) : Type 0 where
  pub empty : sets.items ≡ []
  pub room : 0 < vec_capacity sets
  pub none_owes : owing ≡ replicate (length owing) false

-- what every registry keeps: room for all plug-ins, of which there are no more, and a place for each hart
pub record IsSound (harts : ℕ) (room : ℕ) (slots : List SlotState) (gone : List Bool) (spare : Option ℕ) : Type 0 where
  pub slots_fit : PLUGINS_MOST ≤ room
  pub at_most : length slots ≤ PLUGINS_MOST
  pub harts_gone : length gone ≡ harts
  pub harts_owing : All (λ slot. length slot.plugin.owing ≡ harts) slots
  pub ready : ForSome spare (λ owing. owing ≡ harts)
