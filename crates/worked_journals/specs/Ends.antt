-- Harts that end by themselves, by the group's end, or not at all.
use Rattle.std.specs.Prelude.{ℕ, pos, true, false, List, [], ◌∷◌, ◌++◌, if◌then◌else◌, ◌==◌}
use Rattle.flat_model.specs.declared.events.Ending.TheVariants.{Exited, Group}
use Rattle.flat_model.specs.declared.events.What.{What}
use Rattle.flat_model.specs.declared.events.What.TheVariants.{Block, Insn, Mem}
use Rattle.flat_model.specs.declared.journals.Entry.{Entry}
use Rattle.flat_model.specs.declared.journals.Entry.TheVariants.{Turn, Back, Leave, Done}
use Rattle.flat_model.specs.declared.journals.Order.TheVariants.{Install, Uninstall}
use Rattle.flat_model.specs.declared.plugins.SetSpec.{SetSpec}
use Rattle.flat_model.specs.declared.limits.TheConstants.{RACK_BOXES}
use Rattle.run_rules.specs.Guest.{Run}
use Rattle.worked_journals.specs.Cases.{Case, whole, broken, start, control}
use Rattle.worked_journals.specs.Guests.{Course, exiting, framed, straight, standing_in, all_alu}
use Rattle.worked_journals.specs.Sets.{set, counts, mem}

-- one hart that exits with its third step
abbrev pub alone : Run
alone = record {
  guest = standing_in all_alu (exiting 3 ∷ []);
  harts = 1;
  boxes = RACK_BOXES;
  plan = record { installs = []; script = [] };
}

abbrev pub alone_cases : List Case
alone_cases =
    whole (Turn 0 3 ∷ Leave 0 ∷ [])
    -- nothing happened
    ∷ broken 0 []
    -- the hart hasn't ended
    ∷ broken 0 (Leave 0 ∷ [])
    ∷ broken 1 (Turn 0 2 ∷ Leave 0 ∷ [])
    -- it has no fourth step
    ∷ broken 0 (Turn 0 4 ∷ Leave 0 ∷ [])
    -- it hasn't left
    ∷ broken 1 (Turn 0 3 ∷ [])
    -- there is no plug-in to close
    ∷ broken 1 (Turn 0 3 ∷ Done 0 1 ∷ Leave 0 ∷ [])
    -- it leaves twice
    ∷ broken 2 (Turn 0 3 ∷ Leave 0 ∷ Leave 0 ∷ [])
    -- a hart gives no control order; a party that is no hart does
    ∷ broken 0 (control 0 (Install (set 0 [])) ∷ Turn 0 3 ∷ Leave 0 ∷ [])
    ∷ whole (control 1 (Install (set 0 [])) ∷ Turn 0 3 ∷ Leave 0 ∷ [])
    -- the plan has no install
    ∷ broken 0 (start (set 0 []) ∷ Turn 0 3 ∷ Leave 0 ∷ [])
    -- no plug-in is withdrawn
    ∷ broken 1 (Turn 0 3 ∷ Back 0 1 ∷ Leave 0 ∷ [])
    -- a step behind the Leave
    ∷ broken 2 (Turn 0 3 ∷ Leave 0 ∷ Turn 0 1 ∷ [])
    ∷ []

-- two harts of which each would end the group with its third step
abbrev pub grouped_with : List SetSpec → Run
grouped_with installs = record {
  guest = standing_in all_alu (ends_all ∷ ends_all ∷ []);
  harts = 2;
  boxes = RACK_BOXES;
  plan = record { installs = installs; script = [] };
}
  where
    ends_all : Course
    ends_all = record { parked = 0; tells = framed 3 (Group) (straight 3); last = 3; ends_group = true }

abbrev pub grouped : Run
grouped = grouped_with []

abbrev pub grouped_cases : List Case
grouped_cases =
    whole (Turn 0 3 ∷ Leave 0 ∷ Leave 1 ∷ [])
    -- the group has ended
    ∷ broken 1 (Turn 0 3 ∷ Turn 1 1 ∷ [])
    ∷ broken 2 (Turn 0 3 ∷ Leave 0 ∷ Turn 1 1 ∷ Leave 1 ∷ [])
    -- each entry dropped
    ∷ broken 0 (Leave 0 ∷ Leave 1 ∷ [])
    ∷ broken 2 (Turn 0 3 ∷ Leave 1 ∷ [])
    ∷ broken 2 (Turn 0 3 ∷ Leave 0 ∷ [])
    -- each entry moved
    ∷ broken 0 (Leave 0 ∷ Turn 0 3 ∷ Leave 1 ∷ [])
    ∷ broken 0 (Leave 1 ∷ Turn 0 3 ∷ Leave 0 ∷ [])
    ∷ whole (Turn 0 3 ∷ Leave 1 ∷ Leave 0 ∷ [])
    -- each entry doubled; the two Turns are one
    ∷ broken 0 (Turn 0 6 ∷ Leave 0 ∷ Leave 1 ∷ [])
    ∷ broken 2 (Turn 0 3 ∷ Leave 0 ∷ Leave 0 ∷ Leave 1 ∷ [])
    ∷ broken 3 (Turn 0 3 ∷ Leave 0 ∷ Leave 1 ∷ Leave 1 ∷ [])
    -- each entry changed
    ∷ broken 1 (Turn 0 2 ∷ Leave 0 ∷ Leave 1 ∷ [])
    ∷ broken 0 (Turn 0 4 ∷ Leave 0 ∷ Leave 1 ∷ [])
    ∷ broken 0 (Turn 2 3 ∷ Leave 0 ∷ Leave 1 ∷ [])
    ∷ broken 1 (Turn 0 3 ∷ Leave 2 ∷ Leave 1 ∷ [])
    -- the other hart ends the group
    ∷ whole (Turn 1 3 ∷ Leave 0 ∷ Leave 1 ∷ [])
    ∷ whole (Turn 1 2 ∷ Turn 0 3 ∷ Leave 1 ∷ Leave 0 ∷ [])
    ∷ broken 3 (Turn 1 2 ∷ Turn 0 2 ∷ Turn 1 1 ∷ Turn 0 1 ∷ Leave 1 ∷ Leave 0 ∷ [])
    ∷ []

-- the same with a plug-in that counts
abbrev pub counted : Run
counted = grouped_with (counts ∷ [])

abbrev pub counted_cases : List Case
counted_cases =
    whole (start counts ∷ Turn 0 3 ∷ Leave 0 ∷ Leave 1 ∷ [])
    -- the group has ended
    ∷ broken 2 (start counts ∷ Turn 0 3 ∷ Turn 1 1 ∷ [])
    -- the start order dropped, moved, doubled and changed
    ∷ broken 0 (Turn 0 3 ∷ Leave 0 ∷ Leave 1 ∷ [])
    ∷ broken 0 (Turn 0 3 ∷ start counts ∷ Leave 0 ∷ Leave 1 ∷ [])
    ∷ broken 1 (start counts ∷ start counts ∷ Turn 0 3 ∷ Leave 0 ∷ Leave 1 ∷ [])
    ∷ broken 0 (start mem ∷ Turn 0 3 ∷ Leave 0 ∷ Leave 1 ∷ [])
    -- harts give back once the group has ended, and before they leave
    ∷ whole (start counts ∷ Turn 0 3 ∷ control 2 (Uninstall 1) ∷ Back 1 1 ∷ Leave 1 ∷ Back 0 1 ∷ Done 0 1 ∷ Leave 0 ∷ [])
    ∷ broken 3 (start counts ∷ Turn 0 3 ∷ control 2 (Uninstall 1) ∷ Leave 1 ∷ Back 0 1 ∷ Done 0 1 ∷ Leave 0 ∷ [])
    ∷ broken 6 (start counts ∷ Turn 0 3 ∷ control 2 (Uninstall 1) ∷ Back 1 1 ∷ Leave 1 ∷ Back 0 1 ∷ Done 1 1 ∷ Leave 0 ∷ [])
    ∷ []

-- two harts of six steps each, of which hart 0 reads with its third and hart 1 writes with its third
abbrev pub accessing_with : List SetSpec → Run
accessing_with installs = record {
  guest = standing_in all_alu (reading ∷ writing ∷ []);
  harts = 2;
  boxes = RACK_BOXES;
  plan = record { installs = installs; script = [] };
}
  where
    -- two blocks, the second of which begins with the third step at this address, and an access there
    accesses : ℕ → What → ℕ → List What
    accesses pc access n =
        (if n == 1 then Block 0x10000 2 ∷ [] else (if n == 3 then Block pc 4 ∷ [] else []))
        ++ (Insn pc 0x13 ∷ (if n == 3 then access ∷ [] else []))

    course : (ℕ → List What) → Course
    course tells = record { parked = 0; tells = framed 6 (Exited (pos 0)) tells; last = 6; ends_group = false }

    reading : Course
    reading = course (accesses 0x10008 (Mem 0x10008 0x20000 3 false 1 0 0))

    writing : Course
    writing = course (accesses 0x10018 (Mem 0x10018 0x20001 0 false 2 0 1))

-- with no plug-in, and with one that hears accesses
abbrev pub unwatched : Run
unwatched = accessing_with []

abbrev pub unwatched_cases : List Case
unwatched_cases =
    whole (Turn 0 3 ∷ Turn 1 3 ∷ Turn 0 3 ∷ Leave 0 ∷ Turn 1 3 ∷ Leave 1 ∷ [])
    ∷ whole (Turn 0 6 ∷ Leave 0 ∷ Turn 1 6 ∷ Leave 1 ∷ [])
    -- an entry dropped, moved, doubled and changed
    ∷ broken 2 (Turn 1 3 ∷ Turn 0 3 ∷ Leave 0 ∷ Turn 1 3 ∷ Leave 1 ∷ [])
    ∷ broken 2 (Turn 0 3 ∷ Turn 1 3 ∷ Leave 0 ∷ Turn 0 3 ∷ Turn 1 3 ∷ Leave 1 ∷ [])
    ∷ broken 4 (Turn 0 3 ∷ Turn 1 3 ∷ Turn 0 3 ∷ Leave 0 ∷ Leave 0 ∷ Turn 1 3 ∷ Leave 1 ∷ [])
    ∷ broken 4 (Turn 0 3 ∷ Turn 1 3 ∷ Turn 0 3 ∷ Leave 0 ∷ Turn 1 4 ∷ Leave 1 ∷ [])
    -- the other one likewise
    ∷ broken 0 (Leave 0 ∷ Turn 1 6 ∷ Leave 1 ∷ [])
    ∷ broken 1 (Turn 0 6 ∷ Leave 1 ∷ Leave 0 ∷ Turn 1 6 ∷ [])
    ∷ broken 4 (Turn 0 6 ∷ Leave 0 ∷ Turn 1 6 ∷ Leave 1 ∷ Leave 1 ∷ [])
    ∷ broken 1 (Turn 0 5 ∷ Leave 0 ∷ Turn 1 6 ∷ Leave 1 ∷ [])
    ∷ []

abbrev pub accessing : Run
accessing = accessing_with (mem ∷ [])

abbrev pub accessing_journal : List Entry
accessing_journal = start mem ∷ Turn 0 3 ∷ Turn 1 3 ∷ Turn 0 3 ∷ Leave 0 ∷ Turn 1 3 ∷ Leave 1 ∷ []

abbrev pub accessing_cases : List Case
accessing_cases =
    whole accessing_journal
    ∷ whole (start mem ∷ Turn 0 6 ∷ Leave 0 ∷ Turn 1 6 ∷ Leave 1 ∷ [])
    -- the start order dropped, moved, doubled and changed
    ∷ broken 0 (Turn 0 6 ∷ Leave 0 ∷ Turn 1 6 ∷ Leave 1 ∷ [])
    ∷ broken 0 (Turn 0 3 ∷ start mem ∷ Turn 1 3 ∷ Turn 0 3 ∷ Leave 0 ∷ Turn 1 3 ∷ Leave 1 ∷ [])
    ∷ broken 1 (start mem ∷ start mem ∷ Turn 0 3 ∷ Turn 1 3 ∷ Turn 0 3 ∷ Leave 0 ∷ Turn 1 3 ∷ Leave 1 ∷ [])
    ∷ broken 0 (start counts ∷ Turn 0 3 ∷ Turn 1 3 ∷ Turn 0 3 ∷ Leave 0 ∷ Turn 1 3 ∷ Leave 1 ∷ [])
    -- a Turn dropped: a hart leaves with 3 steps
    ∷ broken 3 (start mem ∷ Turn 1 3 ∷ Turn 0 3 ∷ Leave 0 ∷ Turn 1 3 ∷ Leave 1 ∷ [])
    ∷ broken 4 (start mem ∷ Turn 0 6 ∷ Leave 0 ∷ Turn 1 3 ∷ Leave 1 ∷ [])
    -- a Leave moved, doubled, changed and dropped
    ∷ broken 3 (start mem ∷ Turn 0 3 ∷ Turn 1 3 ∷ Leave 0 ∷ Turn 0 3 ∷ Turn 1 3 ∷ Leave 1 ∷ [])
    ∷ broken 5 (start mem ∷ Turn 0 3 ∷ Turn 1 3 ∷ Turn 0 3 ∷ Leave 0 ∷ Leave 0 ∷ Turn 1 3 ∷ Leave 1 ∷ [])
    ∷ broken 6 (start mem ∷ Turn 0 3 ∷ Turn 1 3 ∷ Turn 0 3 ∷ Leave 0 ∷ Turn 1 3 ∷ Leave 0 ∷ [])
    ∷ broken 6 (start mem ∷ Turn 0 3 ∷ Turn 1 3 ∷ Turn 0 3 ∷ Leave 0 ∷ Turn 1 3 ∷ [])
    -- a Turn changed
    ∷ broken 4 (start mem ∷ Turn 0 3 ∷ Turn 1 3 ∷ Turn 0 2 ∷ Leave 0 ∷ Turn 1 3 ∷ Leave 1 ∷ [])
    ∷ broken 5 (start mem ∷ Turn 0 3 ∷ Turn 1 3 ∷ Turn 0 3 ∷ Leave 0 ∷ Turn 1 4 ∷ Leave 1 ∷ [])
    -- a Turn behind the Leave
    ∷ broken 5 (start mem ∷ Turn 0 3 ∷ Turn 1 3 ∷ Turn 0 3 ∷ Leave 0 ∷ Turn 0 1 ∷ Turn 1 3 ∷ Leave 1 ∷ [])
    ∷ []
