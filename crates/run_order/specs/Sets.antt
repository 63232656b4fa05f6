-- The sets of a run's plug-ins as the harts and their shared state hold them after a log, and what a closer is told of them.
use Rattle.std.specs.Prelude.{ℕ, ◌==◌, ◌&&◌, Bool, if◌then◌else◌, List, [], ◌∷◌, ◌++◌, length, map, Option, Some, None, option_map}
use Rattle.std.specs.Prelude.{is_some}
use Rattle.std.specs.List.{filter_map, flat_map, range_with_len}
use Rattle.flat_model.specs.declared.journals.How.{How}
use Rattle.flat_model.specs.declared.journals.How.TheVariants as how
use Rattle.flat_model.specs.declared.journals.Item.{Item}
use Rattle.flat_model.specs.declared.journals.Item.TheVariants.{Step, Ordered, GaveBack, Left, Told, Got, Took}
use Rattle.flat_model.specs.declared.journals.PlugState.{PlugState}
use Rattle.flat_model.specs.declared.journals.PlugState.TheVariants.{Live, Idle, Resetting, Leaving, Gone}
use Rattle.flat_model.specs.Registry.{plugin_of, is_closing, is_withdrawing}
use Rattle.score_boards.specs.declared.ParkedColumn.{ParkedColumn}
use Rattle.watcher_api.specs.declared.closers.Parked.{Parked}
use Rattle.watcher_api.specs.declared.closers.Returned.{Returned}
use Rattle.watcher_api.specs.Attachment.{Attachment, box_at}
use Rattle.watcher_api.specs.Heard.{Heard}
use Rattle.run_rules.specs.Guest.{Run, plugins}
use Rattle.run_rules.specs.Heard.{progress_of, set_at, last_set}
use Rattle.run_rules.specs.Legal.{numbers}
use Rattle.run_rules.specs.Places.{Place, place_of, taker}

-- the set that a plug-in registered last, as hart h's events have made it
abbrev pub attachment_of : Run → ℕ → ℕ → List Item → Attachment
attachment_of run plugin h past =
    let set = last_set (plugins run past) plugin in
    let p = progress_of run plugin set h past in
    record {
      plugin = plugin;
      acts = map (λ s. s.act) (set_at run plugin set past).subs;
      heard = p.walk.heard;
      column = p.walk.column;
    }

-- the same, where it is in such a place
abbrev pub placed_at : (Place → Bool) → Run → List Item → ℕ → ℕ → Option Attachment
placed_at test run past plugin h = if test (place_of run plugin h past) then Some (attachment_of run plugin h past) else None

abbrev pub harts_of : Run → List ℕ
harts_of run = range_with_len 0 run.harts

-- the sets in such a place, by plug-in and hart
abbrev pub shelf : (Place → Bool) → Run → List Item → List (List (Option Attachment))
shelf test run past = map (λ plugin. map (placed_at test run past plugin) (harts_of run)) (numbers (plugins run past))

-- the sets in such a place for hart h, in the order of their plug-ins' numbers
abbrev pub sets_for : (Place → Bool) → Run → ℕ → List Item → List Attachment
sets_for test run h past = filter_map (λ plugin. placed_at test run past plugin h) (numbers (plugins run past))

-- What a closer is told.

-- a notice as plain data: how a plug-in's set was withdrawn, with the boxes and columns that came back
pub record Notice : Type 0 where
  pub plugin : ℕ
  pub how : How
  pub boxes : List (Parked Heard)
  pub columns : List ParkedColumn

abbrev pub as_notice : Returned Heard → Notice
as_notice back = record { plugin = back.plugin; how = back.how; boxes = back.boxes.items; columns = back.columns.items }

-- the boxes of a set that hart h gave back, each with the index of its subscription
abbrev pub boxes_back : ℕ → Attachment → List (Parked Heard)
boxes_back h a =
    filter_map (λ i. option_map (λ b. record { hart = h; sub = i; watcher = b }) (box_at i a)) (range_with_len 0 (length a.acts))

abbrev pub how_closed : PlugState → How
how_closed Resetting = how.Reset
how_closed Leaving = how.Uninstall
how_closed Live = how.Uninstall
how_closed Idle = how.Uninstall
how_closed Gone = how.Uninstall

-- the notice of a plug-in that is complete: every box and column of the set that is withdrawn, hart by hart; a plug-in that was
-- uninstalled while Idle has none
abbrev pub notice_of : Run → ℕ → List Item → Notice
notice_of run plugin past =
    let r = plugins run past in
    let harts = if is_withdrawing r plugin then harts_of run else [] in
    record {
      plugin = plugin;
      how = how_closed (plugin_of r plugin).state;
      boxes = flat_map (λ h. boxes_back h (attachment_of run plugin h past)) harts;
      columns = map (λ h. record { hart = h; column = (attachment_of run plugin h past).column }) harts;
    }

-- the notices of a plug-in's Dones, in order
unfoldable pub notices_of : Run → ℕ → List Item → List Notice
notices_of run plugin [] = []
notices_of run plugin (Step hart ∷ past) = notices_of run plugin past
notices_of run plugin (Ordered origin order ∷ past) = notices_of run plugin past
notices_of run plugin (GaveBack hart number ∷ past) = notices_of run plugin past
notices_of run plugin (Left hart ∷ past) = notices_of run plugin past
notices_of run plugin (Told party number ∷ past) =
    if number == plugin then notices_of run plugin past ++ notice_of run plugin past ∷ [] else notices_of run plugin past
notices_of run plugin (Got hart number ∷ past) = notices_of run plugin past
notices_of run plugin (Took party number ∷ past) = notices_of run plugin past

-- whether the closing of a plug-in is out: a party has taken it, and hasn't recorded its Done
abbrev pub is_closing_out : Run → ℕ → List Item → Bool
is_closing_out run plugin past = is_closing (plugin_of (plugins run past) plugin).state && is_some (taker plugin past)

-- the notices that the closers in the state have; none where a closing is out
abbrev pub closers_of : Run → List Item → List (Option (List Notice))
closers_of run past =
    map (λ plugin. if is_closing_out run plugin past then None else Some (notices_of run plugin past)) (numbers (plugins run past))
