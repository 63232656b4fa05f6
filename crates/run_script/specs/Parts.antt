-- What the parts of a word mean, and the rules that they keep.
use Rattle.std.specs.Prelude.{ℕ, ◌<◌, ◌≤◌, max, bytes_eq, IsTrue, List, [], ◌∷◌, length, map, slice_get, filter_map, Option, Some}
use Rattle.std.specs.Prelude.{None}
use Rattle.std.specs.List.{AllByRecursion, IsDistinct}
use Rattle.flat_model.specs.declared.plugins.Ask.{Ask}
use Rattle.flat_model.specs.declared.plugins.Sub.{Sub}
use Rattle.flat_model.specs.declared.plugins.SetSpec.{SetSpec}
use Rattle.flat_model.specs.declared.limits.TheConstants.{SUBS_MOST, CALLING_MOST}
use Rattle.flat_model.specs.Acts.{calling}
use Rattle.run_script.specs.declared.items.Item.{Item}
use Rattle.run_script.specs.declared.items.Item.TheVariants.{Kinds, Pc, Class, Rw, Quota, Asks, Then}
use Rattle.run_script.specs.declared.items.Items.{Items}
use Rattle.run_script.specs.declared.items.Span.{Span}
use Rattle.run_script.specs.Items.{goes_with, is_paired}
use Rattle.run_script.specs.Heads.{sub_of, entries_of}
use Rattle.run_script.specs.Grammar.{Part, item_name}

abbrev pub kinds_in : Item → Option ℕ
kinds_in (Kinds bits) = Some bits
kinds_in _ = None

abbrev pub pc_in : Item → Option Span
pc_in (Pc span) = Some span
pc_in _ = None

abbrev pub classes_in : Item → Option ℕ
classes_in (Class bits) = Some bits
classes_in _ = None

abbrev pub rw_in : Item → Option ℕ
rw_in (Rw rw) = Some rw
rw_in _ = None

abbrev pub quota_in : Item → Option ℕ
quota_in (Quota n) = Some n
quota_in _ = None

abbrev pub ask_in : Item → Option Ask
ask_in (Asks ask) = Some ask
ask_in _ = None

abbrev pub stored_in : Item → Option ℕ
stored_in (Then n) = Some n
stored_in _ = None

-- the value that items give, where one does
abbrev pub given : {A : Type 0} → (Item → Option A) → List Item → Option A
given value items = slice_get (filter_map value items) 0

-- the items of a part by their names
abbrev pub items_of : List Item → Items
items_of items = record {
  kinds = given kinds_in items;
  pc = given pc_in items;
  classes = given classes_in items;
  rw = given rw_in items;
  quota = given quota_in items;
  ask = given ask_in items;
  then_store = given stored_in items;
}

-- the subscription of a part
abbrev pub part_sub : Part → Sub
part_sub part = sub_of part.head (items_of part.items)

-- the greatest entry named plus 1, or 0
abbrev pub entries_in : List Part → ℕ
entries_in [] = 0
entries_in (part ∷ parts) = max (entries_of part.head) (entries_in parts)

-- the set that parts mean
abbrev pub set_of : List Part → SetSpec
set_of parts = record { entries = entries_in parts; subs = map part_sub parts }

-- the rule of an item by itself: the first address isn't above the second, and a quota isn't 0
abbrev pub IsInRange : Item → Type 0
IsInRange (Pc span) = span.lo ≤ span.hi
IsInRange (Quota n) = 0 < n
IsInRange _ = Unit {0}

-- the rules of a part's items, of which no two have one name
pub record KeepsItemRules (part : Part) : Type 0 where
  pub range : AllByRecursion IsInRange part.items
  pub repeat : IsDistinct bytes_eq (map item_name part.items)
  pub place : AllByRecursion (λ x. IsTrue (goes_with part.head x)) part.items
  pub pair : IsTrue (is_paired (items_of part.items))

-- the rules of a word's parts: at most 16, of which at most two call
pub record KeepsRules (parts : List Part) : Type 0 where
  pub subs : length parts ≤ SUBS_MOST
  pub boxes : calling (set_of parts).subs ≤ CALLING_MOST
  pub items : AllByRecursion KeepsItemRules parts
