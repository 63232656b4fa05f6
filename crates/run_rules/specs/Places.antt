-- Where the boxes and columns of a plug-in's sets are, by the log of the state that the harts share: that log has two kinds of
-- item more than a journal, Got and Took, which tell who took what out of the state.
use Rattle.std.specs.Prelude.{ℕ, ◌+◌, ◌≡◌, ◌==◌, ◌&&◌, ◌||◌, ◌⊎◌, not, Bool, true, false, if◌then◌else◌}
use Rattle.std.specs.Prelude.{List, [], ◌∷◌, length, Option, Some}
use Rattle.std.specs.Prelude.{None, slice_index_or}
use Rattle.std.specs.List.{list_all}
use Rattle.flat_model.specs.declared.journals.Item.{Item}
use Rattle.flat_model.specs.declared.journals.Item.TheVariants.{Step, Ordered, GaveBack, Left, Told, Got, Took}
use Rattle.flat_model.specs.declared.journals.Order.{Order}
use Rattle.flat_model.specs.declared.journals.Order.TheVariants.{Install, Register, Reset, Uninstall}
use Rattle.flat_model.specs.declared.journals.PlugState.{PlugState}
use Rattle.flat_model.specs.declared.journals.PlugState.TheVariants.{Live, Idle, Resetting, Leaving, Gone}
use Rattle.flat_model.specs.Registry.{Plugins, plugin_of, is_complete, has_left}
use Rattle.run_rules.specs.Guest.{Run, plugins}
use Rattle.run_rules.specs.Heard.{is_live}
use Rattle.run_rules.specs.Legal.{is_there, numbers}

-- A set is, for each hart, in one place: it waits in the state for the hart to take it, it is with the hart, it is parked in the state,
-- or it is out with the party that tells the closer. It is in none of these before it is registered and once the closer has it.
pub data Place : Type 0 where
  Nowhere : Place
  Waiting : Place
  WithHart : Place
  Parked : Place
  Out : Place

abbrev pub is_waiting : Place → Bool
is_waiting Nowhere = false
is_waiting Waiting = true
is_waiting WithHart = false
is_waiting Parked = false
is_waiting Out = false

abbrev pub is_with_hart : Place → Bool
is_with_hart Nowhere = false
is_with_hart Waiting = false
is_with_hart WithHart = true
is_with_hart Parked = false
is_with_hart Out = false

abbrev pub is_parked : Place → Bool
is_parked Nowhere = false
is_parked Waiting = false
is_parked WithHart = false
is_parked Parked = true
is_parked Out = false

abbrev pub is_out : Place → Bool
is_out Nowhere = false
is_out Waiting = false
is_out WithHart = false
is_out Parked = false
is_out Out = true

-- whether an order registers a set of a plug-in
abbrev pub registers : Plugins → Order → ℕ → Bool
registers r (Install spec) plugin = length r.plugins + 1 == plugin
registers r (Register number spec) plugin = number == plugin
registers r (Reset number) plugin = false
registers r (Uninstall number) plugin = false

-- once a hart takes it, gives it back, or leaves, and once a party takes the closing
abbrev pub got : Place → Place
got Nowhere = Nowhere
got Waiting = WithHart
got WithHart = WithHart
got Parked = Parked
got Out = Out

abbrev pub given_back : Place → Place
given_back Nowhere = Nowhere
given_back Waiting = Parked
given_back WithHart = Parked
given_back Parked = Parked
given_back Out = Out

abbrev pub left : Place → Place
left Nowhere = Nowhere
left Waiting = Waiting
left WithHart = Parked
left Parked = Parked
left Out = Out

abbrev pub taken : Place → Place
taken Nowhere = Nowhere
taken Waiting = Out
taken WithHart = WithHart
taken Parked = Out
taken Out = Out

-- where the set that a plug-in registered last is, for hart h
unfoldable pub place_of : Run → ℕ → ℕ → List Item → Place
place_of run plugin h [] = Nowhere
place_of run plugin h (Step hart ∷ past) = place_of run plugin h past
place_of run plugin h (Ordered origin order ∷ past) =
    if registers (plugins run past) order plugin then Waiting else place_of run plugin h past
place_of run plugin h (GaveBack hart number ∷ past) =
    if (hart == h) && (number == plugin) then given_back (place_of run plugin h past) else place_of run plugin h past
place_of run plugin h (Left hart ∷ past) = if hart == h then left (place_of run plugin h past) else place_of run plugin h past
place_of run plugin h (Told party number ∷ past) = if number == plugin then Nowhere else place_of run plugin h past
place_of run plugin h (Got hart number ∷ past) =
    if (hart == h) && (number == plugin) then got (place_of run plugin h past) else place_of run plugin h past
place_of run plugin h (Took party number ∷ past) =
    if number == plugin then taken (place_of run plugin h past) else place_of run plugin h past

-- whether an order withdraws a plug-in
abbrev pub withdraws : Order → ℕ → Bool
withdraws (Install spec) plugin = false
withdraws (Register number spec) plugin = false
withdraws (Reset number) plugin = number == plugin
withdraws (Uninstall number) plugin = number == plugin

-- the party that took a plug-in's closing since the order that withdrew it, if one has
unfoldable pub taker : ℕ → List Item → Option ℕ
taker plugin [] = None
taker plugin (Step hart ∷ past) = taker plugin past
taker plugin (Ordered origin order ∷ past) = if withdraws order plugin then None else taker plugin past
taker plugin (GaveBack hart number ∷ past) = taker plugin past
taker plugin (Left hart ∷ past) = taker plugin past
taker plugin (Told party number ∷ past) = taker plugin past
taker plugin (Got hart number ∷ past) = taker plugin past
taker plugin (Took party number ∷ past) = if number == plugin then Some party else taker plugin past

-- the party by which a replay takes the closing of a plug-in, ahead of a Done by another
abbrev pub replaying : ℕ → ℕ
replaying plugin = 240 + plugin

-- whether no set waits for hart h
abbrev pub takes_all : Run → ℕ → List Item → Bool
takes_all run h past = list_all (λ plugin. not (is_waiting (place_of run plugin h past))) (numbers (plugins run past))

-- whether hart h may take a plug-in's set: it waits for the hart, and the plug-in is Live
abbrev pub may_get : Run → ℕ → ℕ → List Item → Bool
may_get run h plugin past =
    is_there run h past && (is_live (plugin_of (plugins run past) plugin).state && is_waiting (place_of run plugin h past))

-- What the items of the state's log keep beside the rules of journals. A hart steps once it has taken what waits for it. A closing is
-- taken once, when the plug-in is complete. A Done is made by the party that took it.
abbrev pub StateRule : Run → Item → List Item → Type 0
StateRule run (Step h) past = takes_all run h past ≡ true
StateRule run (Ordered origin order) past = Unit {0}
StateRule run (GaveBack h plugin) past = Unit {0}
StateRule run (Left h) past = Unit {0}
StateRule run (Told party plugin) past = (taker plugin past ≡ Some party) ⊎ (taker plugin past ≡ Some (replaying plugin))
StateRule run (Got h plugin) past = may_get run h plugin past ≡ true
StateRule run (Took party plugin) past = (is_complete (plugins run past) plugin ≡ true) × (taker plugin past ≡ None)

unfoldable pub IsStateLog : Run → List Item → Type 0
IsStateLog run [] = Unit {0}
IsStateLog run (x ∷ past) = IsStateLog run past × StateRule run x past

-- Which places go with the state of a plug-in, with what the hart owes and with whether it has left: a set waits or is with its hart while
-- the plug-in is Live, or while it is withdrawn and the hart is still to give it back; a hart that leaves has its sets parked; and only what
-- is withdrawn goes out.
abbrev pub fits : Place → PlugState → Bool → Bool → Bool
fits Nowhere Live owes gone = false
fits Nowhere Idle owes gone = not owes
fits Nowhere Resetting owes gone = true
fits Nowhere Leaving owes gone = true
fits Nowhere Gone owes gone = not owes
fits Waiting Live owes gone = not owes
fits Waiting Idle owes gone = false
fits Waiting Resetting owes gone = owes || gone
fits Waiting Leaving owes gone = owes || gone
fits Waiting Gone owes gone = false
fits WithHart Live owes gone = not owes && not gone
fits WithHart Idle owes gone = false
fits WithHart Resetting owes gone = owes && not gone
fits WithHart Leaving owes gone = owes && not gone
fits WithHart Gone owes gone = false
fits Parked Live owes gone = not owes && gone
fits Parked Idle owes gone = false
fits Parked Resetting owes gone = not owes
fits Parked Leaving owes gone = not owes
fits Parked Gone owes gone = false
fits Out Live owes gone = false
fits Out Idle owes gone = false
fits Out Resetting owes gone = not owes
fits Out Leaving owes gone = not owes
fits Out Gone owes gone = false

-- whether a hart still owes its Back of a plug-in
abbrev pub owed_by : Plugins → ℕ → ℕ → Bool
owed_by r plugin h = slice_index_or (plugin_of r plugin).owing h false

abbrev pub fits_in : Plugins → Place → ℕ → ℕ → Bool
fits_in r place plugin h = fits place (plugin_of r plugin).state (owed_by r plugin h) (has_left r h)
