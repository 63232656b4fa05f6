-- Harts that are parked at first: one for ever, and one until hart 0 has made some steps.
use Rattle.std.specs.Prelude.{List, [], ◌∷◌}
use Rattle.flat_model.specs.declared.journals.Entry.{Entry}
use Rattle.flat_model.specs.declared.journals.Entry.TheVariants.{Turn, Back, Leave, Done}
use Rattle.flat_model.specs.declared.journals.Order.TheVariants.{Reset, Uninstall}
use Rattle.flat_model.specs.declared.limits.TheConstants.{RACK_BOXES}
use Rattle.run_rules.specs.Guest.{Run}
use Rattle.worked_journals.specs.Cases.{Case, whole, broken, start, control}
use Rattle.worked_journals.specs.Guests.{exiting, parked_until, standing_in, all_alu}
use Rattle.worked_journals.specs.Sets.{counts}

-- hart 0 exits with its fourth step, and never starts hart 1
abbrev pub waiting : Run
waiting = record {
  guest = standing_in all_alu (exiting 4 ∷ parked_until 100 (exiting 3) ∷ []);
  harts = 2;
  boxes = RACK_BOXES;
  plan = record { installs = []; script = [] };
}

abbrev pub waiting_cases : List Case
waiting_cases =
    whole (Turn 0 4 ∷ Leave 0 ∷ Leave 1 ∷ [])
    ∷ whole (Turn 0 4 ∷ Leave 1 ∷ Leave 0 ∷ [])
    -- a Leave of the parked hart before hart 0 has ended
    ∷ broken 0 (Leave 1 ∷ Turn 0 4 ∷ Leave 0 ∷ [])
    ∷ broken 1 (Turn 0 3 ∷ Leave 1 ∷ Turn 0 1 ∷ Leave 0 ∷ [])
    -- a Turn of the parked hart
    ∷ broken 0 (Turn 1 1 ∷ Turn 0 4 ∷ Leave 0 ∷ Leave 1 ∷ [])
    ∷ broken 1 (Turn 0 4 ∷ Turn 1 1 ∷ Leave 0 ∷ Leave 1 ∷ [])
    -- a parked hart leaves too, and once
    ∷ broken 2 (Turn 0 4 ∷ Leave 0 ∷ [])
    ∷ broken 2 (Turn 0 4 ∷ Leave 1 ∷ Leave 1 ∷ Leave 0 ∷ [])
    -- hart 0 has no fifth step
    ∷ broken 0 (Turn 0 5 ∷ Leave 0 ∷ Leave 1 ∷ [])
    ∷ []

-- hart 0 starts hart 1 with its second step and exits with its fourth, hart 1 exits with its third, and hart 2 is never started
abbrev pub starting : Run
starting = record {
  guest = standing_in all_alu (exiting 4 ∷ parked_until 2 (exiting 3) ∷ parked_until 100 (exiting 3) ∷ []);
  harts = 3;
  boxes = RACK_BOXES;
  plan = record { installs = counts ∷ []; script = [] };
}

-- an order while harts 1 and 2 have made no step, and one once hart 0 has left; what follows has the places from 3 and 6 on
abbrev pub withdrawing : List Entry → List Entry
withdrawing rest = start counts ∷ Turn 0 2 ∷ control 3 (Reset 1) ∷ rest

abbrev pub withdrawing_late : List Entry → List Entry
withdrawing_late rest = start counts ∷ Turn 0 2 ∷ Turn 1 3 ∷ Turn 0 2 ∷ Leave 0 ∷ control 3 (Uninstall 1) ∷ rest

abbrev pub ending : List Entry
ending = Turn 1 3 ∷ Leave 1 ∷ Turn 0 2 ∷ Leave 0 ∷ Leave 2 ∷ []

abbrev pub starting_cases : List Case
starting_cases =
    whole (start counts ∷ Turn 0 2 ∷ Turn 1 3 ∷ Leave 1 ∷ Turn 0 2 ∷ Leave 0 ∷ Leave 2 ∷ [])
    ∷ whole (start counts ∷ Turn 0 2 ∷ Turn 1 3 ∷ Turn 0 2 ∷ Leave 2 ∷ Leave 1 ∷ Leave 0 ∷ [])
    -- hart 1 before its start: in a Turn and in a Leave
    ∷ broken 1 (start counts ∷ Turn 1 3 ∷ Turn 0 4 ∷ Leave 1 ∷ Leave 0 ∷ Leave 2 ∷ [])
    ∷ broken 2 (start counts ∷ Turn 0 1 ∷ Turn 1 1 ∷ Turn 0 3 ∷ Turn 1 2 ∷ Leave 1 ∷ Leave 0 ∷ Leave 2 ∷ [])
    ∷ broken 1 (start counts ∷ Leave 1 ∷ Turn 0 4 ∷ Leave 0 ∷ Leave 2 ∷ [])
    -- once hart 1 is started, it leaves only where it has ended
    ∷ broken 3 (start counts ∷ Turn 0 4 ∷ Leave 0 ∷ Leave 1 ∷ Leave 2 ∷ [])
    -- hart 2, which is parked, while hart 0 or hart 1 hasn't ended
    ∷ broken 4 (start counts ∷ Turn 0 2 ∷ Turn 1 3 ∷ Leave 1 ∷ Leave 2 ∷ Turn 0 2 ∷ Leave 0 ∷ [])
    ∷ broken 3 (start counts ∷ Turn 0 4 ∷ Leave 0 ∷ Leave 2 ∷ Turn 1 3 ∷ Leave 1 ∷ [])
    -- each Leave dropped
    ∷ broken 6 (start counts ∷ Turn 0 2 ∷ Turn 1 3 ∷ Turn 0 2 ∷ Leave 0 ∷ Leave 2 ∷ [])
    ∷ broken 6 (start counts ∷ Turn 0 2 ∷ Turn 1 3 ∷ Leave 1 ∷ Turn 0 2 ∷ Leave 2 ∷ [])
    ∷ broken 6 (start counts ∷ Turn 0 2 ∷ Turn 1 3 ∷ Leave 1 ∷ Turn 0 2 ∷ Leave 0 ∷ [])
    -- parked harts give back too, and may call a closer; without one of the Backs the Done has come too early
    ∷ whole (withdrawing (Back 2 1 ∷ Back 0 1 ∷ Back 1 1 ∷ Done 2 1 ∷ ending))
    ∷ broken 5 (withdrawing (Back 0 1 ∷ Back 1 1 ∷ Done 2 1 ∷ Back 2 1 ∷ ending))
    -- a Back of a parked hart that is outstanding keeps it from its Leave
    ∷ broken 6 (withdrawing_late (Leave 2 ∷ Leave 1 ∷ []))
    ∷ whole (withdrawing_late (Back 2 1 ∷ Leave 2 ∷ Back 1 1 ∷ Done 1 1 ∷ Leave 1 ∷ []))
    ∷ []
