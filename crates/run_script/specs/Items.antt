-- The items of a part, each with the first rule that it breaks.
use Rattle.std.specs.Prelude.{ℕ, codes, Bool, true, not, nat_lt, if◌then◌else◌, List, Option, Some, None, is_some, Result, Ok, Err}
use Rattle.std.specs.Str.{bytes_eq}
use Rattle.flat_model.specs.declared.plugins.Ask.{Ask}
use Rattle.run_script.specs.declared.names.Names.{Names}
use Rattle.run_script.specs.declared.names.Names.TheVariants.{Events, Classes}
use Rattle.run_script.specs.declared.refusals.SpecRule.{SpecRule}
use Rattle.run_script.specs.declared.refusals.SpecRule.TheVariants.{Name, Number, Range, Repeat, Place}
use Rattle.run_script.specs.declared.heads.Head.{Head}
use Rattle.run_script.specs.declared.items.Item.{Item}
use Rattle.run_script.specs.declared.items.Item.TheVariants.{Kinds, Pc, Class, Rw, Quota, Asks, Then}
use Rattle.run_script.specs.declared.items.Items.{Items}
use Rattle.run_script.specs.Bytes.{minus, equals, before, after}
use Rattle.run_script.specs.Numbers.{number}
use Rattle.run_script.specs.Names.{rw_names, ask_names, named, mask}
use Rattle.run_script.specs.Heads.{does_call, is_when}

abbrev pub of_bits : Names → Option ℕ → Result Item SpecRule
of_bits names None = Err Name
of_bits Events (Some bits) = Ok (Kinds bits)
of_bits Classes (Some bits) = Ok (Class bits)

unfoldable pub bits_item : Names → List ℕ → Result Item SpecRule
bits_item names value = of_bits names (mask names value)

abbrev pub of_direction : Option ℕ → Result Item SpecRule
of_direction None = Err Name
of_direction (Some rw) = Ok (Rw rw)

-- loads, stores or both
unfoldable pub rw_item : List ℕ → Result Item SpecRule
rw_item value = of_direction (named rw_names value)

abbrev pub of_calls : Option ℕ → Result Item SpecRule
of_calls None = Err Number
of_calls (Some n) = if nat_lt 0 n then Ok (Quota n) else Err Number

-- a number of calls, not 0
unfoldable pub quota_item : List ℕ → Result Item SpecRule
quota_item value = of_calls (number 10 20 value)

abbrev pub of_ask : Option Ask → Result Item SpecRule
of_ask None = Err Name
of_ask (Some ask) = Ok (Asks ask)

unfoldable pub ask_item : List ℕ → Result Item SpecRule
ask_item value = of_ask (named ask_names value)

abbrev pub of_stored : Option ℕ → Result Item SpecRule
of_stored None = Err Number
of_stored (Some n) = Ok (Then n)

unfoldable pub then_item : List ℕ → Result Item SpecRule
then_item value = of_stored (number 10 20 value)

unfoldable pub address : List ℕ → Option ℕ
address text = number 16 16 text

abbrev pub span_item : Option ℕ → Option ℕ → Result Item SpecRule
span_item None hi = Err Number
span_item (Some lo) None = Err Number
span_item (Some lo) (Some hi) = if nat_lt hi lo then Err Range else Ok (Pc (record { lo = lo; hi = hi }))

abbrev pub between : List ℕ → Option (List ℕ) → Result Item SpecRule
between lo None = Err Name
between lo (Some hi) = span_item (address lo) (address hi)

unfoldable pub pc_item : List ℕ → Result Item SpecRule
pc_item value = between (before minus value) (after minus value)

unfoldable pub named_item : List ℕ → List ℕ → Result Item SpecRule
named_item name value =
    if bytes_eq name (codes "kinds") then bits_item Events value
    else if bytes_eq name (codes "class") then bits_item Classes value
    else if bytes_eq name (codes "rw") then rw_item value
    else if bytes_eq name (codes "pc") then pc_item value
    else if bytes_eq name (codes "quota") then quota_item value
    else if bytes_eq name (codes "ask") then ask_item value
    else if bytes_eq name (codes "then") then then_item value
    else Err Name

abbrev pub with_value : List ℕ → Option (List ℕ) → Result Item SpecRule
with_value name None = Err Name
with_value name (Some value) = named_item name value

-- the item that a text spells
unfoldable pub item_of : List ℕ → Result Item SpecRule
item_of text = with_value (before equals text) (after equals text)

-- no item was given
abbrev pub no_items : Items
no_items = record { kinds = None; pc = None; classes = None; rw = None; quota = None; ask = None; then_store = None }

-- whether an item's name stood before
abbrev pub has : Items → Item → Bool
has items (Kinds bits) = is_some items.kinds
has items (Pc span) = is_some items.pc
has items (Class bits) = is_some items.classes
has items (Rw rw) = is_some items.rw
has items (Quota n) = is_some items.quota
has items (Asks ask) = is_some items.ask
has items (Then n) = is_some items.then_store

abbrev pub add : Items → Item → Items
add items (Kinds bits) = record items { kinds = Some bits }
add items (Pc span) = record items { pc = Some span }
add items (Class bits) = record items { classes = Some bits }
add items (Rw rw) = record items { rw = Some rw }
add items (Quota n) = record items { quota = Some n }
add items (Asks ask) = record items { ask = Some ask }
add items (Then n) = record items { then_store = Some n }

-- a quota and an ask stand at an act that calls, and a number to store at `when` alone
abbrev pub goes_with : Head → Item → Bool
goes_with head (Kinds bits) = true
goes_with head (Pc span) = true
goes_with head (Class bits) = true
goes_with head (Rw rw) = true
goes_with head (Quota n) = does_call head
goes_with head (Asks ask) = does_call head
goes_with head (Then n) = is_when head

-- the items behind a head with one more
abbrev pub with_item : Head → Items → Item → Result Items SpecRule
with_item head items item =
    if has items item then Err Repeat
    else if goes_with head item then Ok (add items item)
    else Err Place

-- a quota and an ask are given together, or neither
abbrev pub is_paired : Items → Bool
is_paired items = if is_some items.quota then is_some items.ask else not (is_some items.ask)
