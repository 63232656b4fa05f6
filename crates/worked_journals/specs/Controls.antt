-- Orders of controllers, on one hart that exits with its third step and a plug-in that counts.
use Rattle.std.specs.Prelude.{List, [], ◌∷◌, ◌++◌}
use Rattle.flat_model.specs.declared.journals.Entry.{Entry}
use Rattle.flat_model.specs.declared.journals.Entry.TheVariants.{Turn, Back, Leave, Done}
use Rattle.flat_model.specs.declared.journals.Order.TheVariants.{Install, Register, Reset, Uninstall}
use Rattle.run_rules.specs.Guest.{Run}
use Rattle.worked_journals.specs.Cases.{Case, whole, broken, start, line, asked, control}
use Rattle.worked_journals.specs.Guests.{exiting, standing_in, all_alu}
use Rattle.worked_journals.specs.Sets.{counts, hot}

-- the rack has two boxes, each of which is used once
abbrev pub ordered : Run
ordered = record {
  guest = standing_in all_alu (exiting 3 ∷ []);
  harts = 1;
  boxes = 2;
  plan = record { installs = counts ∷ []; script = [] };
}

abbrev pub uninstall : Entry
uninstall = control 1 (Uninstall 1)

abbrev pub closing : List Entry
closing = Back 0 1 ∷ Done 0 1 ∷ []

abbrev pub ending : List Entry
ending = closing ++ (Turn 0 2 ∷ Leave 0 ∷ [])

abbrev pub whole_turn : List Entry
whole_turn = Turn 0 3 ∷ Leave 0 ∷ []

-- a reset that is done: what follows has the places from 4 on
abbrev pub idle : List Entry → List Entry
idle rest = start counts ∷ control 1 (Reset 1) ∷ Back 0 1 ∷ Done 0 1 ∷ rest

abbrev pub ordered_cases : List Case
ordered_cases =
    whole (start counts ∷ Turn 0 1 ∷ uninstall ∷ ending)
    -- the order moved before the start order, dropped, and doubled
    ∷ broken 0 (uninstall ∷ start counts ∷ Turn 0 1 ∷ ending)
    ∷ broken 2 (start counts ∷ Turn 0 1 ∷ ending)
    ∷ broken 3 (start counts ∷ Turn 0 1 ∷ uninstall ∷ uninstall ∷ ending)
    -- its party is a hart; it is any number that is none
    ∷ broken 2 (start counts ∷ Turn 0 1 ∷ control 0 (Uninstall 1) ∷ ending)
    ∷ whole (start counts ∷ Turn 0 1 ∷ control 255 (Uninstall 1) ∷ ending)
    -- the same order as a line of a script that has none, and as an ask
    ∷ broken 2 (start counts ∷ Turn 0 1 ∷ line 0 0 (Uninstall 1) ∷ ending)
    ∷ broken 2 (start counts ∷ Turn 0 1 ∷ asked 0 1 (Uninstall 1) ∷ ending)
    -- it comes once the hart has left, which gives nothing back then; the hart that has left calls no closer
    ∷ whole (start counts ∷ Turn 0 3 ∷ Leave 0 ∷ uninstall ∷ Done 1 1 ∷ [])
    ∷ broken 4 (start counts ∷ Turn 0 3 ∷ Leave 0 ∷ uninstall ∷ Done 0 1 ∷ [])
    ∷ broken 4 (start counts ∷ Turn 0 3 ∷ Leave 0 ∷ uninstall ∷ Back 0 1 ∷ Done 1 1 ∷ [])
    ∷ broken 4 (start counts ∷ Turn 0 3 ∷ Leave 0 ∷ uninstall ∷ [])
    -- a step and a Leave before the Back
    ∷ broken 3 (start counts ∷ Turn 0 1 ∷ uninstall ∷ Turn 0 2 ∷ Back 0 1 ∷ Done 0 1 ∷ Leave 0 ∷ [])
    ∷ broken 3 (start counts ∷ Turn 0 3 ∷ uninstall ∷ Leave 0 ∷ Done 1 1 ∷ [])
    -- an uninstall of what is Idle: the hart gives back all the same
    ∷ whole (idle (uninstall ∷ (closing ++ whole_turn)))
    ∷ broken 5 (idle (uninstall ∷ Done 0 1 ∷ whole_turn))
    -- what the state table refuses: a register while Live, a reset while Idle, all once it is Gone
    ∷ broken 1 (start counts ∷ control 1 (Register 1 hot) ∷ whole_turn)
    ∷ broken 4 (idle (control 1 (Reset 1) ∷ whole_turn))
    ∷ broken 4 (start counts ∷ uninstall ∷ (closing ++ (control 1 (Register 1 hot) ∷ whole_turn)))
    -- the rack's last box goes to an install or a set that a controller brings, and none is left for one more
    ∷ whole (start counts ∷ control 1 (Install hot) ∷ whole_turn)
    ∷ broken 2 (start counts ∷ control 1 (Install hot) ∷ control 1 (Install hot) ∷ whole_turn)
    ∷ whole (idle (control 1 (Register 1 hot) ∷ whole_turn))
    ∷ broken 5 (idle (control 1 (Install hot) ∷ control 1 (Register 1 hot) ∷ whole_turn))
    ∷ []
