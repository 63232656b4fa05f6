-- The sets that a state's plug-ins have registered, and what their boxes tally.
use Rattle.std.specs.Prelude.{ℕ, ◌-◌, List, [], length, slice_index_or, slice_get, Option, Some, None, option_and_then}
use Rattle.flat_model.specs.declared.events.Event.{Event}
use Rattle.flat_model.specs.declared.plugins.Kind.{Kind}
use Rattle.flat_model.specs.declared.plugins.Row.{Row}
use Rattle.flat_model.specs.declared.plugins.SetSpec.{SetSpec}
use Rattle.flat_model.specs.Registry.{sets_of}
use Rattle.watcher_api.specs.Attachment.{called_kind}
use Rattle.watcher_api.specs.Heard.{Heard}
use Rattle.watcher_api.specs.Tallies.{rows}
use Rattle.run_rules.specs.Heard.{no_set}
use Rattle.host_state.specs.State.{StateValue}

-- a set of a plug-in, by its place
abbrev pub registered : StateValue → ℕ → ℕ → SetSpec
registered s plugin set = slice_index_or (sets_of s.registry.table plugin) set no_set

abbrev pub last_registered : StateValue → ℕ → SetSpec
last_registered s plugin = registered s plugin (length (sets_of s.registry.table plugin) - 1)

-- the kind of the box that a subscription calls; None where it calls none
abbrev pub called_by : SetSpec → ℕ → Option Kind
called_by spec sub = option_and_then (λ s. called_kind s.act) (slice_get spec.subs sub)

-- the rows of a box of this kind for the events that it heard; none where there is no box
abbrev pub rows_if : Option Kind → List Event → List Row
rows_if None events = []
rows_if (Some kind) events = rows kind events

abbrev pub box_rows : Option Heard → List Row
box_rows None = []
box_rows (Some box) = rows box.kind box.events
