-- What sets have heard in the worked journals, what became of their columns, and which asks wait.
use Rattle.std.specs.Prelude.{ℕ, ◌≡◌, false, List, [], ◌∷◌, ◌++◌, length, count_by}
use Rattle.flat_model.specs.declared.events.Event.{Event}
use Rattle.flat_model.specs.declared.events.What.{What}
use Rattle.flat_model.specs.declared.events.What.TheVariants.{Mem}
use Rattle.flat_model.specs.declared.journals.Entry.{Entry}
use Rattle.flat_model.specs.declared.journals.Entry.TheVariants.{Turn, Back, Leave, Done}
use Rattle.flat_model.specs.declared.journals.Order.TheVariants.{Reset as Resets}
use Rattle.flat_model.specs.declared.limits.TheConstants.{RACK_BOXES, KIND_INIT, KIND_BLOCK, KIND_INSN}
use Rattle.flat_model.specs.declared.plugins.Ask.TheVariants.{Stay, Reset, Uninstall}
use Rattle.flat_model.specs.Log.{log}
use Rattle.event_walk.specs.Matches.{matches}
use Rattle.run_rules.specs.Guest.{Run}
use Rattle.run_rules.specs.Heard.{heard, column, waiting, steps_since}
use Rattle.worked_journals.specs.Cases.{start, control}
use Rattle.worked_journals.specs.Guests.{jumping, standing_in, all_jumps}
use Rattle.worked_journals.specs.Sets.{of_kinds, adding, leaving_after}
use Rattle.worked_journals.specs.Asks.{asking, asked_journal, opening, order}
use Rattle.worked_journals.specs.Lines.{scripted, scripted_journal}
use Rattle.worked_journals.specs.Ends.{accessing, accessing_journal}
use Rattle.worked_journals.specs.TwoAsks.{twice, twice_opening}

-- how many of some events are of these kinds
abbrev pub how_many : ℕ → List Event → ℕ
how_many kinds events = count_by (λ e. matches all_jumps (of_kinds kinds) e) events

-- the boxes have heard up to the order, and nothing of the Turns behind it
pub record HearsUpToTheAsk : Type 0 where
  pub first_hart : length (heard asking 1 0 0 0 (log asked_journal)) ≡ 5
  pub second_hart : length (heard asking 1 0 0 1 (log asked_journal)) ≡ 7

-- the first set has heard the first Turn, and the second the last
pub record HearsByTheScript : Type 0 where
  pub inits : how_many KIND_INIT (heard scripted 1 0 0 0 (log scripted_journal)) ≡ 1
  pub blocks : how_many KIND_BLOCK (heard scripted 1 0 0 0 (log scripted_journal)) ≡ 10
  pub insns : how_many KIND_INSN (heard scripted 1 0 0 0 (log scripted_journal)) ≡ 10
  pub nothing_else : length (heard scripted 1 0 0 0 (log scripted_journal)) ≡ 21
  pub later_blocks : how_many KIND_BLOCK (heard scripted 1 1 0 0 (log scripted_journal)) ≡ 10
  pub later_alone : length (heard scripted 1 1 0 0 (log scripted_journal)) ≡ 10

abbrev pub third_step : ℕ → What → List Event
third_step h what = record { hart = h; step = 3; what = what } ∷ []

-- each hart's box has heard its one access
pub record HearsAccesses : Type 0 where
  pub read : heard accessing 1 0 0 0 (log accessing_journal) ≡ third_step 0 (Mem 0x10008 0x20000 3 false 1 0 0)
  pub written : heard accessing 1 0 0 1 (log accessing_journal) ≡ third_step 1 (Mem 0x10018 0x20001 0 false 2 0 1)

-- two harts, and a plug-in whose one entry counts instructions
abbrev pub adding_run : Run
adding_run = record {
  guest = standing_in all_jumps (jumping 10 ∷ jumping 10 ∷ []);
  harts = 2;
  boxes = RACK_BOXES;
  plan = record { installs = adding ∷ []; script = [] };
}

abbrev pub added_journal : List Entry
added_journal =
    start adding ∷ Turn 0 4 ∷ Turn 1 7 ∷ Turn 0 1 ∷ control 2 (Resets 1) ∷ Back 0 1 ∷ Turn 0 5 ∷ Back 1 1 ∷ Done 0 1 ∷ Leave 0
    ∷ Turn 1 3 ∷ Leave 1 ∷ []

-- the entry is each hart's own, and stays as it is from the order on
pub record CountsPerHart : Type 0 where
  pub first_hart : column adding_run 1 0 0 (log added_journal) ≡ 5 ∷ []
  pub second_hart : column adding_run 1 0 1 (log added_journal) ≡ 7 ∷ []

-- what a set asks for is the first ask in its Turn, by event and then by subscription; it waits up to the
-- order, which ends the asks of both harts
pub record AsksFirst : Type 0 where
  pub second_sub : waiting twice 1 0 (log twice_opening) ≡ Reset
  pub first_sub : waiting twice 2 0 (log twice_opening) ≡ Uninstall
  pub since : steps_since twice 1 0 (log twice_opening) ≡ 3
  pub not_yet : waiting asking 1 0 (log (start (leaving_after 5) ∷ Turn 0 4 ∷ Turn 1 7 ∷ [])) ≡ Stay
  pub waits : waiting asking 1 1 (log opening) ≡ Uninstall
  pub ended : waiting asking 1 1 (log (opening ++ (order ∷ []))) ≡ Stay
