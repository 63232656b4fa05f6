-- Two harts that jump ten steps each, and two plug-ins: the boxes of the first ask for its reset at their third instruction, those
-- of the second for its uninstall at their fourth.
use Rattle.std.specs.Prelude.{List, [], ◌∷◌, ◌++◌}
use Rattle.flat_model.specs.declared.journals.Entry.{Entry}
use Rattle.flat_model.specs.declared.journals.Entry.TheVariants.{Turn, Back, Leave, Done}
use Rattle.flat_model.specs.declared.journals.Order.TheVariants.{Register, Reset, Uninstall}
use Rattle.flat_model.specs.declared.limits.TheConstants.{RACK_BOXES}
use Rattle.run_rules.specs.Guest.{Run}
use Rattle.worked_journals.specs.Cases.{Case, whole, broken, start, asked, control}
use Rattle.worked_journals.specs.Guests.{jumping, standing_in, all_jumps}
use Rattle.worked_journals.specs.Sets.{resetting_after, leaving_after, leaving_or_resetting}

abbrev pub both : Run
both = record {
  guest = standing_in all_jumps (jumping 10 ∷ jumping 10 ∷ []);
  harts = 2;
  boxes = RACK_BOXES;
  plan = record { installs = resetting_after 3 ∷ leaving_after 4 ∷ []; script = [] };
}

abbrev pub opening : List Entry
opening = start (resetting_after 3) ∷ start (leaving_after 4) ∷ Turn 0 5 ∷ []

abbrev pub first : Entry
first = asked 0 1 (Reset 1)

abbrev pub second : Entry
second = asked 0 2 (Uninstall 2)

abbrev pub backs : List Entry
backs = Back 1 1 ∷ Back 0 2 ∷ Back 0 1 ∷ Back 1 2 ∷ []

abbrev pub ending : List Entry
ending = Done 0 1 ∷ Done 1 2 ∷ Turn 0 5 ∷ Turn 1 10 ∷ Leave 1 ∷ Leave 0 ∷ []

abbrev pub ending_after_two : List Entry
ending_after_two = Done 0 1 ∷ Done 1 2 ∷ Turn 0 5 ∷ Turn 1 8 ∷ Leave 1 ∷ Leave 0 ∷ []

-- the first plug-in gets a set anew; what follows has the places from 12 on
abbrev pub renewed : List Entry → List Entry
renewed rest =
    opening ++ (second ∷ first ∷ (backs ++ (Done 0 1 ∷ Done 1 2 ∷ control 2 (Register 1 (resetting_after 3)) ∷ rest)))

-- both boxes of hart 0 ask in its Turn; the places are 0 to 2, 3 and 4, 5 to 8, and 9 to 14
abbrev pub both_cases : List Case
both_cases =
    whole (opening ++ (second ∷ first ∷ (backs ++ ending)))
    ∷ whole (opening ++ (first ∷ second ∷ (backs ++ ending)))
    -- the installs in another order than the plan's, and one of them dropped
    ∷ broken 0 (start (leaving_after 4) ∷ start (resetting_after 3) ∷ Turn 0 5 ∷ second ∷ first ∷ (backs ++ ending))
    ∷ broken 1 (start (resetting_after 3) ∷ Turn 0 5 ∷ second ∷ first ∷ (backs ++ ending))
    -- the first ask's order dropped: its plug-in is Live at hart 1's Back
    ∷ broken 4 (opening ++ (second ∷ (backs ++ ending)))
    -- the second one's dropped: it still waits at hart 0's Back
    ∷ broken 5 (opening ++ (first ∷ Back 1 1 ∷ Back 0 1 ∷ Done 0 1 ∷ []))
    -- an order behind a Back of its hart, and behind one of the other hart
    ∷ broken 4 (opening ++ (second ∷ Back 0 2 ∷ first ∷ Back 1 1 ∷ Back 0 1 ∷ Back 1 2 ∷ ending))
    ∷ whole (opening ++ (second ∷ Back 1 2 ∷ first ∷ Back 1 1 ∷ Back 0 2 ∷ Back 0 1 ∷ ending))
    -- an order behind a Turn of its hart, and behind one of the other hart
    ∷ broken 4 (opening ++ (Turn 1 2 ∷ Turn 0 1 ∷ second ∷ first ∷ (backs ++ ending)))
    ∷ whole (opening ++ (Turn 1 2 ∷ second ∷ first ∷ (backs ++ ending_after_two)))
    -- an order twice: the registry refuses it
    ∷ broken 5 (opening ++ (second ∷ first ∷ first ∷ (backs ++ ending)))
    -- each order as the other plug-in's, and with the other's ask
    ∷ broken 3 (opening ++ (asked 0 1 (Uninstall 2) ∷ first ∷ (backs ++ ending)))
    ∷ broken 3 (opening ++ (asked 0 2 (Reset 2) ∷ first ∷ (backs ++ ending)))
    ∷ broken 4 (opening ++ (second ∷ asked 0 1 (Uninstall 1) ∷ (backs ++ ending)))
    -- a Turn of three steps: only the first plug-in has asked
    ∷ broken 3 (start (resetting_after 3) ∷ start (leaving_after 4) ∷ Turn 0 3 ∷ second ∷ first ∷ (backs ++ ending))
    ∷ broken 4 (start (resetting_after 3) ∷ start (leaving_after 4) ∷ Turn 0 3 ∷ first ∷ second ∷ (backs ++ ending))
    -- a control order ends the first ask, so that no order of it stands behind
    ∷ whole (opening ++ (control 7 (Reset 1) ∷ second ∷ (backs ++ ending)))
    ∷ broken 4 (opening ++ (control 7 (Reset 1) ∷ first ∷ second ∷ (backs ++ ending)))
    -- a Done before the last of its plug-in's Backs
    ∷ broken 8 (opening ++ (second ∷ first ∷ Back 1 1 ∷ Back 0 2 ∷ Back 0 1 ∷ Done 1 2 ∷ Back 1 2 ∷ Done 0 1 ∷ []))
    -- a set that is registered anew asks anew: at the third instruction that it hears
    ∷ broken 13 (renewed (Turn 0 5 ∷ Leave 0 ∷ []))
    ∷ broken 13 (renewed (Turn 0 2 ∷ first ∷ []))
    ∷ whole (renewed (Turn 0 5 ∷ first ∷ Back 0 1 ∷ Back 1 1 ∷ Leave 0 ∷ Turn 1 10 ∷ Done 1 1 ∷ Leave 1 ∷ []))
    ∷ []

-- One set with two subscriptions that ask, at their fourth instruction and at their third; the ask is the one that comes first.
abbrev pub twice : Run
twice = record {
  guest = standing_in all_jumps (jumping 6 ∷ []);
  harts = 1;
  boxes = RACK_BOXES;
  plan = record { installs = leaving_or_resetting 4 3 ∷ leaving_or_resetting 3 3 ∷ []; script = [] };
}

abbrev pub twice_opening : List Entry
twice_opening = start (leaving_or_resetting 4 3) ∷ start (leaving_or_resetting 3 3) ∷ Turn 0 6 ∷ []

abbrev pub twice_cases : List Case
twice_cases =
    -- of the first plug-in the second subscription asks first; of the second both ask at one event, and the first comes first
    whole (twice_opening ++ (asked 0 1 (Reset 1) ∷ asked 0 2 (Uninstall 2) ∷ Back 0 1 ∷ Back 0 2 ∷ Done 0 1 ∷ Done 0 2 ∷ Leave 0 ∷ []))
    ∷ broken 3 (twice_opening ++ (asked 0 1 (Uninstall 1) ∷ []))
    ∷ broken 4 (twice_opening ++ (asked 0 1 (Reset 1) ∷ asked 0 2 (Reset 2) ∷ []))
    ∷ broken 3 (twice_opening ++ (Leave 0 ∷ []))
    ∷ []
