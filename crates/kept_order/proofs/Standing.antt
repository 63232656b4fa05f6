-- Sets that haven't ended, once their hart has left; and the sizes of sets.
use Rattle.std.proofs.Common.{◌≡◌, ◌||◌, ◌-◌, ◌<◌, ◌≤◌, ◌∷◌, [], ◌∙◌, ℕ, Bool, true, false, List, Option, Some, None}
use Rattle.std.proofs.Common.{refl, sym, ap, subst, arith, length, map, ◌+◌}
use Rattle.std.specs.Prelude.{if◌then◌else◌, slice_index_or}
use Rattle.std.specs.Option.{option_or}
use Rattle.std.proofs.lemmas.Bool.{false≢true}
use Rattle.std.proofs.lemmas.List.{length-replicate}
use Rattle.flat_model.specs.declared.events.Event.{Event}
use Rattle.flat_model.specs.declared.plugins.SetSpec.{SetSpec}
use Rattle.flat_model.specs.declared.journals.Item.{Item}
use Rattle.flat_model.specs.declared.journals.Item.TheVariants.{Step, Ordered, GaveBack, Left, Told, Got, Took}
use Rattle.flat_model.specs.declared.journals.PlugState.{PlugState}
use Rattle.flat_model.specs.declared.journals.PlugState.TheVariants.{Live, Idle, Resetting, Leaving, Gone}
use Rattle.flat_model.specs.Registry.{Plugins, plugin_of, has_left}
use Rattle.event_walk.specs.Matches.{Classes}
use Rattle.event_walk.proofs.Walks.{keeps_its_sizes}
use Rattle.watcher_api.specs.Attachment.{Attachment}
use Rattle.run_rules.specs.Guest.{Run, plugins}
use Rattle.run_rules.specs.Heard.{Progress, progress, progressed, is_live}
use Rattle.run_rules.specs.Places.{Place, Nowhere, Waiting, WithHart, Parked, Out, place_of, fits, owed_by, is_waiting, is_parked}
use Rattle.run_rules.proofs.Fitting.{places_fit}
use Rattle.run_order.specs.Sets.{attachment_of, placed_at, shelf, harts_of}
use Rattle.run_order.specs.InOrder.{task_run}
use Rattle.run_order.proofs.Taking.{map_at}
use Rattle.kept_order.specs.Closing.{at_place}
use Rattle.kept_order.specs.Summing.{LiveSetsAreThere, KeepsWidths, SetsKeepWidths}

-- a set of a plug-in that is Live waits or is parked, where the hart has left
stands : (place : Place) (s : PlugState) (owes : Bool) → is_live s ≡ true → fits place s owes true ≡ true
    → (is_waiting place || is_parked place) ≡ true
stands place Idle owes live f = absurd (false≢true live)
stands place Resetting owes live f = absurd (false≢true live)
stands place Leaving owes live f = absurd (false≢true live)
stands place Gone owes live f = absurd (false≢true live)
stands Nowhere Live owes live f = absurd (false≢true f)
stands Waiting Live owes live f = refl
stands WithHart Live true live f = absurd (false≢true f)
stands WithHart Live false live f = absurd (false≢true f)
stands Parked Live owes live f = refl
stands Out Live owes live f = absurd (false≢true f)

abbrev row : (Place → Bool) → Run → List Item → ℕ → List (Option Attachment)
row test run past plugin = map (placed_at test run past plugin) (harts_of run)

-- the set of a hart in a row
at_row : (test : Place → Bool) (run : Run) (past : List Item) (plugin h : ℕ) → 1 ≤ plugin → plugin - 1 < length (plugins run past).plugins
    → h < run.harts → at_place (shelf test run past) (plugin - 1) h ≡ placed_at test run past plugin h
at_row test run past plugin h one within low =
    ap (λ (xs : List (Option Attachment)). slice_index_or xs h None)
    (map_at (row test run past) 1 (length (plugins run past).plugins) (plugin - 1) [] within)
    ∙ map_at (placed_at test run past (1 + (plugin - 1))) 0 run.harts h None low
    ∙ ap (λ (p : ℕ). placed_at test run past p (0 + h)) {x = 1 + (plugin - 1)} {y = plugin} (omega (arith, one))
    ∙ ap (placed_at test run past plugin) {x = 0 + h} {y = h} (omega arith)

either_there : (first second : Bool) (a : Attachment)
    → option_or (if first then Some a else None) (if second then Some a else None) ≡ (if first || second then Some a else None)
either_there true second a = refl
either_there false second a = refl

abbrev Rows : Type 0
Rows = List (List (Option Attachment))

pub live_sets_are_there : LiveSetsAreThere
live_sets_are_there t plugin h s o one most low gone live =
    let run = task_run t in
    let past = s.past in
    let r = plugins run past in
    let place = place_of run plugin h past in
    let a = attachment_of run plugin h past in
    let within : plugin - 1 < length r.plugins =
    subst (λ (x : Plugins). plugin - 1 < length x.plugins) o.plugins (omega (arith, one, most)) in
    let left : has_left r h ≡ true = subst (λ (x : Plugins). has_left x h ≡ true) o.plugins gone in
    let is : is_live (plugin_of r plugin).state ≡ true =
    subst (λ (x : Plugins). is_live (plugin_of x plugin).state ≡ true) o.plugins live in
    let fit : fits place (plugin_of r plugin).state (owed_by r plugin h) true ≡ true =
    ap (fits place (plugin_of r plugin).state (owed_by r plugin h)) (sym left) ∙ places_fit run plugin h past one low o.legal o.state_log in
    ap (λ (rows : Rows). option_or (at_place rows (plugin - 1) h) (at_place s.parked (plugin - 1) h)) o.waiting
    ∙ ap (λ (rows : Rows). option_or (at_place (shelf is_waiting run past) (plugin - 1) h) (at_place rows (plugin - 1) h)) o.parked
    ∙ ap (λ (x : Option Attachment). option_or x (at_place (shelf is_parked run past) (plugin - 1) h))
    (at_row is_waiting run past plugin h one within low)
    ∙ ap (option_or (placed_at is_waiting run past plugin h)) (at_row is_parked run past plugin h one within low)
    ∙ either_there (is_waiting place) (is_parked place) a
    ∙ ap (λ (b : Bool). if b then Some a else None) (stands place (plugin_of r plugin).state (owed_by r plugin h) is fit)

-- The sizes of sets.

progressed_width : (classes : Classes) (spec : SetSpec) (es : List Event) (p : Progress) → KeepsWidths spec p
    → KeepsWidths spec (progressed classes spec.subs es p)
progressed_width classes spec es p w =
    let k = keeps_its_sizes classes spec.subs es p.walk in
    record { entries = k.entries ∙ w.entries; subs = k.subs ∙ w.subs }

either_width : (b : Bool) (spec : SetSpec) (p q : Progress) → KeepsWidths spec p → KeepsWidths spec q
    → KeepsWidths spec (if b then p else q)
either_width true spec p q first second = first
either_width false spec p q first second = second

pub sets_keep_widths : SetsKeepWidths
unfolding progress
sets_keep_widths run spec plugin set h [] = record {
  entries = length-replicate spec.entries 0;
  subs = length-replicate (length spec.subs) [];
}
sets_keep_widths run spec plugin set h (Step hart ∷ past) =
    let before = progress run spec plugin set h past in
    let w = sets_keep_widths run spec plugin set h past in
    either_width _ spec (progressed run.guest.classes spec.subs (run.guest.next_events past h) before) before
    (progressed_width run.guest.classes spec (run.guest.next_events past h) before w) w
sets_keep_widths run spec plugin set h (Ordered origin order ∷ past) = sets_keep_widths run spec plugin set h past
sets_keep_widths run spec plugin set h (GaveBack hart number ∷ past) = sets_keep_widths run spec plugin set h past
sets_keep_widths run spec plugin set h (Left hart ∷ past) = sets_keep_widths run spec plugin set h past
sets_keep_widths run spec plugin set h (Told party number ∷ past) = sets_keep_widths run spec plugin set h past
sets_keep_widths run spec plugin set h (Got hart number ∷ past) = sets_keep_widths run spec plugin set h past
sets_keep_widths run spec plugin set h (Took party number ∷ past) = sets_keep_widths run spec plugin set h past
