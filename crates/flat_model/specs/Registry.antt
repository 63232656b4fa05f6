-- The plug-ins of a run: their states, sets and duties, as the log's orders, Backs, Leaves and Dones make
-- them. `docs/plug-ins.md` has the state table and the rules of orders.
use Rattle.std.specs.Prelude.{ℕ, ◌-◌, ◌*◌, Bool, true, false, not, ◌||◌, ◌&&◌, nat_lt, nat_le, if◌then◌else◌, List}
use Rattle.std.specs.Prelude.{[], ◌∷◌, ◌++◌}
use Rattle.std.specs.Prelude.{length, map, replicate, position, slice_index, slice_get, slice_index_or, slice_set, Option, Some, None}
use Rattle.std.specs.Prelude.{option_map, unwrap_or, is_some}
use Rattle.std.specs.List.{list_any}
use Rattle.flat_model.specs.declared.plugins.Act.{Act}
use Rattle.flat_model.specs.declared.plugins.Act.TheVariants.{Call, Inline, Cond}
use Rattle.flat_model.specs.declared.plugins.Sub.{Sub}
use Rattle.flat_model.specs.declared.plugins.SetSpec.{SetSpec}
use Rattle.flat_model.specs.declared.journals.Order.{Order}
use Rattle.flat_model.specs.declared.journals.Order.TheVariants.{Install, Register, Reset, Uninstall}
use Rattle.flat_model.specs.declared.journals.PlugState.{PlugState}
use Rattle.flat_model.specs.declared.journals.PlugState.TheVariants.{Live, Idle, Resetting, Leaving, Gone}
use Rattle.flat_model.specs.declared.orders.OrderRefusal.{OrderRefusal}
use Rattle.flat_model.specs.declared.orders.OrderRefusal.TheVariants.{NoPlugin, State, Full, TooManySubs, TooManyEntries, BadRange}
use Rattle.flat_model.specs.declared.orders.OrderRefusal.TheVariants.{BadEntry, FewBoxes}
use Rattle.flat_model.specs.declared.journals.How.{How}
use Rattle.flat_model.specs.declared.journals.How.TheVariants as how
use Rattle.flat_model.specs.declared.journals.Item.{Item}
use Rattle.flat_model.specs.declared.journals.Item.TheVariants.{Step, Ordered, GaveBack, Left, Told, Got, Took}
use Rattle.flat_model.specs.declared.limits.TheConstants.{PLUGINS_MOST, SUBS_MOST, CALLING_MOST, ENTRIES_MOST}
use Rattle.flat_model.specs.Acts.{calling}

-- a plug-in: its state, its sets in order, how each of them that was withdrawn has ended, and for each hart whether it
-- owes its Back. The last set is still there exactly where there are fewer endings than sets
pub record Plugin : Type 0 where
  pub state : PlugState
  pub sets : List SetSpec
  pub endings : List How
  pub owing : List Bool

-- the plug-ins of a run in the order of their installs, the boxes left in the rack, and for each hart
-- whether it has left
pub record Plugins : Type 0 where
  pub harts : ℕ
  pub boxes : ℕ
  pub plugins : List Plugin
  pub gone : List Bool

-- a run of so many harts and boxes, before any order
abbrev pub no_plugins : ℕ → ℕ → Plugins
no_plugins harts boxes = record { harts = harts; boxes = boxes; plugins = []; gone = replicate harts false }

-- what stands at a number that no install has
abbrev pub no_plugin : Plugin
no_plugin = record { state = Gone; sets = []; endings = []; owing = [] }

-- the plug-in with a number, from 1
abbrev pub plugin_of : Plugins → ℕ → Plugin
plugin_of r number = slice_index_or r.plugins (number - 1) no_plugin

abbrev pub with_plugin : Plugins → ℕ → Plugin → Plugins
with_plugin r number p = record r { plugins = slice_set r.plugins (number - 1) p }

-- whether there is a plug-in with this number
abbrev pub is_installed : Plugins → ℕ → Bool
is_installed r number = nat_lt 0 number && nat_le number (length r.plugins)

-- the state table: None where the state refuses the order
abbrev pub next_state : Order → PlugState → Option PlugState
next_state (Install spec) state = None
next_state (Register plugin spec) Live = None
next_state (Register plugin spec) Idle = Some Live
next_state (Register plugin spec) Resetting = None
next_state (Register plugin spec) Leaving = None
next_state (Register plugin spec) Gone = None
next_state (Reset plugin) Live = Some Resetting
next_state (Reset plugin) Idle = None
next_state (Reset plugin) Resetting = None
next_state (Reset plugin) Leaving = None
next_state (Reset plugin) Gone = None
next_state (Uninstall plugin) Live = Some Leaving
next_state (Uninstall plugin) Idle = Some Leaving
next_state (Uninstall plugin) Resetting = None
next_state (Uninstall plugin) Leaving = None
next_state (Uninstall plugin) Gone = None

-- the state once every hart has given back
abbrev pub done_state : PlugState → PlugState
done_state Live = Live
done_state Idle = Idle
done_state Resetting = Idle
done_state Leaving = Gone
done_state Gone = Gone

-- whether harts are still to give back
abbrev pub is_closing : PlugState → Bool
is_closing Live = false
is_closing Idle = false
is_closing Resetting = true
is_closing Leaving = true
is_closing Gone = false

-- the boxes that a set takes, one for each hart and calling subscription
abbrev pub boxes_of : Plugins → SetSpec → ℕ
boxes_of r spec = r.harts * calling spec.subs

-- the entry that an act names; a call names none
abbrev pub entry_of : Act → Option ℕ
entry_of (Call kind) = None
entry_of (Inline op entry imm) = Some entry
entry_of (Cond cond entry imm then_store kind) = Some entry

-- whether the filter's least pc is above its greatest
abbrev pub has_bad_range : Sub → Bool
has_bad_range s = nat_lt s.filter.hi s.filter.lo

-- whether the act names an entry that the set does not have
abbrev pub has_bad_entry : ℕ → Sub → Bool
has_bad_entry entries s = is_some (entry_of s.act) && nat_le entries (unwrap_or (entry_of s.act) 0)

-- the entry that the subscription with this index names
abbrev pub entry_at : List Sub → ℕ → ℕ
entry_at subs index = slice_index (map (λ s. unwrap_or (entry_of s.act) 0) subs) index

-- the first of two refusals
abbrev pub first : Option OrderRefusal → Option OrderRefusal → Option OrderRefusal
first None later = later
first (Some why) later = Some why

-- a refusal that comes where a test holds
abbrev pub refused_if : Bool → OrderRefusal → Option OrderRefusal
refused_if test why = if test then Some why else None

unfoldable pub size_refusal : SetSpec → Option OrderRefusal
size_refusal spec = first
    (refused_if (nat_lt SUBS_MOST (length spec.subs) || nat_lt CALLING_MOST (calling spec.subs))
    (TooManySubs (length spec.subs) (calling spec.subs)))
    (refused_if (nat_lt ENTRIES_MOST spec.entries) (TooManyEntries spec.entries))

unfoldable pub range_refusal : SetSpec → Option OrderRefusal
range_refusal spec = option_map (λ i. BadRange i) (position has_bad_range spec.subs)

unfoldable pub entry_refusal : SetSpec → Option OrderRefusal
entry_refusal spec = option_map (λ i. BadEntry i (entry_at spec.subs i) spec.entries)
    (position (has_bad_entry spec.entries) spec.subs)

-- the first rule that a set breaks by itself
unfoldable pub set_refusal : SetSpec → Option OrderRefusal
set_refusal spec = first (size_refusal spec) (first (range_refusal spec) (entry_refusal spec))

unfoldable pub box_refusal : Plugins → SetSpec → Option OrderRefusal
box_refusal r spec = refused_if (nat_lt r.boxes (boxes_of r spec)) (FewBoxes (boxes_of r spec) r.boxes)

-- the first rule that an order breaks as it names its plug-in
unfoldable pub state_refusal : Plugins → Order → ℕ → Option OrderRefusal
state_refusal r order number =
    if is_installed r number
    then refused_if (not (is_some (next_state order (plugin_of r number).state))) (State number (plugin_of r number).state)
    else Some (NoPlugin number (length r.plugins))

-- no ninth plug-in is installed
unfoldable pub count_refusal : Plugins → Option OrderRefusal
count_refusal r = refused_if (nat_le PLUGINS_MOST (length r.plugins)) (Full (length r.plugins))

-- the first rule that an order breaks
unfoldable pub refusal : Plugins → Order → Option OrderRefusal
refusal r (Install spec) = first (count_refusal r)
    (first (set_refusal spec) (box_refusal r spec))
refusal r (Register plugin spec) = first (state_refusal r (Register plugin spec) plugin)
    (first (set_refusal spec) (box_refusal r spec))
refusal r (Reset plugin) = state_refusal r (Reset plugin) plugin
refusal r (Uninstall plugin) = state_refusal r (Uninstall plugin) plugin

-- a plug-in with one more set
abbrev pub with_set : Plugin → SetSpec → Plugin
with_set p spec = record p { state = Live; sets = p.sets ++ spec ∷ [] }

-- how an order ends the set that is there, if it ends one: an Idle plug-in has none
abbrev pub ending_by : PlugState → How → List How
ending_by Live how = how ∷ []
ending_by Idle how = []
ending_by Resetting how = []
ending_by Leaving how = []
ending_by Gone how = []

-- a plug-in whose set is withdrawn: each hart that has not left owes its Back
abbrev pub withdrawn : Plugin → PlugState → How → List Bool → Plugin
withdrawn p state how gone = record p { state = state; endings = p.endings ++ ending_by p.state how; owing = map not gone }

-- the plug-ins after an order that is allowed
abbrev pub after_order : Order → Plugins → Plugins
after_order (Install spec) r = record r {
  boxes = r.boxes - boxes_of r spec;
  plugins = r.plugins ++ record { state = Live; sets = spec ∷ []; endings = []; owing = replicate r.harts false } ∷ [];
}
after_order (Register plugin spec) r =
    record (with_plugin r plugin (with_set (plugin_of r plugin) spec)) { boxes = r.boxes - boxes_of r spec }
after_order (Reset plugin) r = with_plugin r plugin (withdrawn (plugin_of r plugin) Resetting how.Reset r.gone)
after_order (Uninstall plugin) r = with_plugin r plugin (withdrawn (plugin_of r plugin) Leaving how.Uninstall r.gone)

-- whether a hart still owes its Back of a plug-in
abbrev pub owes : Plugins → ℕ → ℕ → Bool
owes r hart number = is_installed r number && slice_index_or (plugin_of r number).owing hart false

-- whether a plug-in is Resetting or Leaving and each hart has given Back or left
abbrev pub is_complete : Plugins → ℕ → Bool
is_complete r number = is_installed r number
    && (is_closing (plugin_of r number).state && not (list_any (λ owed. owed) (plugin_of r number).owing))

-- the state of the plug-in with a number, if there is one
abbrev pub state_of : Plugins → ℕ → Option PlugState
state_of r number = if is_installed r number then Some (plugin_of r number).state else None

-- the sets of the plug-in with a number, in order; none where there is no such plug-in
abbrev pub sets_of : Plugins → ℕ → List SetSpec
sets_of r number = if is_installed r number then (plugin_of r number).sets else []

-- how a set of the plug-in with a number has ended, by the set's place from 0; none while it is there
abbrev pub ending_of : Plugins → ℕ → ℕ → Option How
ending_of r number set = if is_installed r number then slice_get (plugin_of r number).endings set else None

-- whether a set is withdrawn in this state: a plug-in that was uninstalled while Idle has none to give back
abbrev pub withdraws : PlugState → Option How → Bool
withdraws Live ending = false
withdraws Idle ending = false
withdraws Resetting ending = true
withdraws Leaving None = false
withdraws Leaving (Some how.Reset) = false
withdraws Leaving (Some how.Uninstall) = true
withdraws Gone ending = false

-- whether a set of the plug-in with a number is being given back
abbrev pub is_withdrawing : Plugins → ℕ → Bool
is_withdrawing r number =
    let p = plugin_of r number in
    is_installed r number && withdraws p.state (slice_get p.endings (length p.sets - 1))

-- whether a number is that of a hart of the run
abbrev pub is_hart : Plugins → ℕ → Bool
is_hart r hart = nat_lt hart r.harts

-- whether a hart has left; a number that is no hart hasn't
abbrev pub has_left : Plugins → ℕ → Bool
has_left r hart = slice_index_or r.gone hart false

-- the plug-ins after a hart's Back
abbrev pub after_back : ℕ → ℕ → Plugins → Plugins
after_back hart number r =
    let p = plugin_of r number in with_plugin r number (record p { owing = slice_set p.owing hart false })

-- the plug-ins after a Done
abbrev pub after_done : ℕ → Plugins → Plugins
after_done number r =
    let p = plugin_of r number in with_plugin r number (record p { state = done_state p.state })

-- a plug-in of which a hart that leaves owes nothing any more
abbrev pub without_hart : ℕ → Plugin → Plugin
without_hart hart p = record p { owing = slice_set p.owing hart false }

-- the plug-ins after a hart's Leave
abbrev pub after_leave : ℕ → Plugins → Plugins
after_leave hart r = record r { plugins = map (without_hart hart) r.plugins; gone = slice_set r.gone hart true }

-- the plug-ins after all that the log has, in a run of so many harts and boxes
unfoldable pub registry : ℕ → ℕ → List Item → Plugins
registry harts boxes [] = no_plugins harts boxes
registry harts boxes (Step hart ∷ past) = registry harts boxes past
registry harts boxes (Ordered origin order ∷ past) = after_order order (registry harts boxes past)
registry harts boxes (GaveBack hart plugin ∷ past) = after_back hart plugin (registry harts boxes past)
registry harts boxes (Left hart ∷ past) = after_leave hart (registry harts boxes past)
registry harts boxes (Told who plugin ∷ past) = after_done plugin (registry harts boxes past)
registry harts boxes (Got hart plugin ∷ past) = registry harts boxes past
registry harts boxes (Took who plugin ∷ past) = registry harts boxes past
