-- What the sets of a run's plug-ins have heard on a hart in a log, what became of the hart's columns, and what their boxes ask
-- for. A set listens from its registration up to the order that withdraws it.
use Rattle.std.specs.Prelude.{ℕ, ◌+◌, ◌-◌, ◌==◌, ◌&&◌, not, nat_lt, Bool, true, false, if◌then◌else◌, List, [], ◌∷◌, length, slice_index_or}
use Rattle.std.specs.Prelude.{is_some}
use Rattle.flat_model.specs.declared.events.Event.{Event}
use Rattle.flat_model.specs.declared.plugins.Ask.{Ask}
use Rattle.flat_model.specs.declared.plugins.Ask.TheVariants.{Stay}
use Rattle.flat_model.specs.declared.plugins.SetSpec.{SetSpec}
use Rattle.flat_model.specs.declared.plugins.Sub.{Sub}
use Rattle.flat_model.specs.declared.journals.Item.{Item}
use Rattle.flat_model.specs.declared.journals.Item.TheVariants.{Step, Ordered, GaveBack, Left, Told, Got, Took}
use Rattle.flat_model.specs.declared.journals.PlugState.{PlugState}
use Rattle.flat_model.specs.declared.journals.PlugState.TheVariants.{Live, Idle, Resetting, Leaving, Gone}
use Rattle.flat_model.specs.Asks.{stays}
use Rattle.flat_model.specs.Registry.{Plugins, plugin_of, sets_of, ending_of, is_installed}
use Rattle.event_walk.specs.Matches.{Classes}
use Rattle.event_walk.specs.Walk.{Walk, walk, opening_walk, heard_by}
use Rattle.run_rules.specs.Guest.{Run, plugins}

-- A set is named by its plug-in's number, from 1, and its own place among the plug-in's sets, from 0.

-- whether a set listens: it is registered, and no order has withdrawn it
abbrev pub is_listening : Plugins → ℕ → ℕ → Bool
is_listening r plugin set = nat_lt set (length (sets_of r plugin)) && not (is_some (ending_of r plugin set))

-- what a set has made of a hart's events, and how many steps the hart has made since the one in which a box of it first asked
pub record Progress : Type 0 where
  pub walk : Walk
  pub since : ℕ

abbrev pub opening_progress : SetSpec → Progress
opening_progress spec = record { walk = opening_walk spec; since = 0 }

-- after the events of one step more
abbrev pub progressed : Classes → List Sub → List Event → Progress → Progress
progressed classes subs es before = record {
  walk = walk classes subs es before.walk;
  since = if stays before.walk.asked then 0 else before.since + 1;
}

-- what a set of these subscriptions and entries has made of hart h's events in a log
unfoldable pub progress : Run → SetSpec → ℕ → ℕ → ℕ → List Item → Progress
progress run spec plugin set h [] = opening_progress spec
progress run spec plugin set h (Step hart ∷ past) =
    if (hart == h) && is_listening (plugins run past) plugin set
    then progressed run.guest.classes spec.subs (run.guest.next_events past h) (progress run spec plugin set h past)
    else progress run spec plugin set h past
progress run spec plugin set h (Ordered origin order ∷ past) = progress run spec plugin set h past
progress run spec plugin set h (GaveBack hart number ∷ past) = progress run spec plugin set h past
progress run spec plugin set h (Left hart ∷ past) = progress run spec plugin set h past
progress run spec plugin set h (Told party number ∷ past) = progress run spec plugin set h past
progress run spec plugin set h (Got hart number ∷ past) = progress run spec plugin set h past
progress run spec plugin set h (Took party number ∷ past) = progress run spec plugin set h past

-- a set of a run that hasn't been registered has no subscription and no entry
abbrev pub no_set : SetSpec
no_set = record { entries = 0; subs = [] }

abbrev pub set_at : Run → ℕ → ℕ → List Item → SetSpec
set_at run plugin set past = slice_index_or (sets_of (plugins run past) plugin) set no_set

abbrev pub progress_of : Run → ℕ → ℕ → ℕ → List Item → Progress
progress_of run plugin set h past = progress run (set_at run plugin set past) plugin set h past

-- what a subscription of a set has heard on hart h
abbrev pub heard : Run → ℕ → ℕ → ℕ → ℕ → List Item → List Event
heard run plugin set sub h past = heard_by (progress_of run plugin set h past).walk sub

-- the entries of a set on hart h
abbrev pub column : Run → ℕ → ℕ → ℕ → List Item → List ℕ
column run plugin set h past = (progress_of run plugin set h past).walk.column

abbrev pub is_live : PlugState → Bool
is_live Live = true
is_live Idle = false
is_live Resetting = false
is_live Leaving = false
is_live Gone = false

-- the place of the set that was registered last
abbrev pub last_set : Plugins → ℕ → ℕ
last_set r plugin = length (sets_of r plugin) - 1

-- the ask of a plug-in that waits on hart h for its order: the one that a box of its set made first, while the plug-in is Live
abbrev pub waiting : Run → ℕ → ℕ → List Item → Ask
waiting run plugin h past =
    let r = plugins run past in
    if is_installed r plugin && is_live (plugin_of r plugin).state
    then (progress_of run plugin (last_set r plugin) h past).walk.asked else Stay

-- how many steps hart h has made since the one in which that ask was made
abbrev pub steps_since : Run → ℕ → ℕ → List Item → ℕ
steps_since run plugin h past = (progress_of run plugin (last_set (plugins run past) plugin) h past).since
