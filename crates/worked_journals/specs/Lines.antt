-- One hart that jumps thirty steps, a plug-in that counts, and a script of four lines:
--     at 10 reset 1
--     at 20 register 1 hot
--     at 20 uninstall 9
--     at 99999999 uninstall 1
use Rattle.std.specs.Prelude.{List, [], ◌∷◌, ◌++◌}
use Rattle.flat_model.specs.declared.journals.Entry.{Entry}
use Rattle.flat_model.specs.declared.journals.Entry.TheVariants.{Turn, Back, Leave, Done}
use Rattle.flat_model.specs.declared.journals.Order.TheVariants.{Install, Register, Reset, Uninstall}
use Rattle.flat_model.specs.declared.limits.TheConstants.{RACK_BOXES}
use Rattle.run_rules.specs.Guest.{Run}
use Rattle.worked_journals.specs.Cases.{Case, whole, broken, start, line, asked, control, at}
use Rattle.worked_journals.specs.Guests.{jumping, standing_in, all_jumps}
use Rattle.worked_journals.specs.Sets.{counts, hot, leaving_after}

abbrev pub scripted : Run
scripted = record {
  guest = standing_in all_jumps (jumping 30 ∷ []);
  harts = 1;
  boxes = RACK_BOXES;
  plan = record {
    installs = counts ∷ [];
    script = at 10 (Reset 1) ∷ at 20 (Register 1 hot) ∷ at 20 (Uninstall 9) ∷ at 99999999 (Uninstall 1) ∷ [];
  };
}

abbrev pub reset : Entry
reset = line 0 0 (Reset 1)

abbrev pub registered : Entry
registered = line 1 0 (Register 1 hot)

-- the entries have the places 0 and 1, 2, 3 and 4, 5, 6, and 7 and 8; the third line is refused at its place, behind the second,
-- and the moment of the fourth doesn't come
abbrev pub scripted_journal : List Entry
scripted_journal =
    start counts ∷ Turn 0 10 ∷ reset ∷ Back 0 1 ∷ Done 0 1 ∷ Turn 0 10 ∷ registered ∷ Turn 0 10 ∷ Leave 0 ∷ []

abbrev pub opening : List Entry
opening = start counts ∷ Turn 0 10 ∷ []

abbrev pub closing : List Entry
closing = Back 0 1 ∷ Done 0 1 ∷ []

abbrev pub ending : List Entry
ending = Turn 0 10 ∷ registered ∷ Turn 0 10 ∷ Leave 0 ∷ []

abbrev pub dropped : List Case
dropped =
    -- the start order
    broken 0 (Turn 0 10 ∷ reset ∷ (closing ++ ending))
    -- the first Turn: the first line's moment hasn't come
    ∷ broken 1 (start counts ∷ reset ∷ (closing ++ ending))
    -- the first line: the Back passes it by
    ∷ broken 2 (opening ++ (closing ++ ending))
    -- the first line with its Back and Done, so that two Turns are joined: the place of the first line is behind both, and the
    -- second line, whose place is behind it there, is refused while the plug-in is Resetting
    ∷ broken 2 (start counts ∷ Turn 0 20 ∷ registered ∷ Turn 0 10 ∷ Leave 0 ∷ [])
    ∷ broken 3 (start counts ∷ Turn 0 20 ∷ reset ∷ registered ∷ (closing ++ (Turn 0 10 ∷ Leave 0 ∷ [])))
    ∷ whole (start counts ∷ Turn 0 20 ∷ reset ∷ (closing ++ (Turn 0 10 ∷ Leave 0 ∷ [])))
    -- the Back: not every hart has given back at the Done
    ∷ broken 3 (opening ++ (reset ∷ Done 0 1 ∷ ending))
    -- the Done: the second line is refused at its place
    ∷ broken 5 (opening ++ (reset ∷ Back 0 1 ∷ ending))
    -- the second line: the Leave passes it by
    ∷ broken 6 (opening ++ (reset ∷ (closing ++ (Turn 0 20 ∷ Leave 0 ∷ []))))
    -- the last Turn: hart 0 leaves with 20 steps
    ∷ broken 7 (opening ++ (reset ∷ (closing ++ (Turn 0 10 ∷ registered ∷ Leave 0 ∷ []))))
    -- the Leave
    ∷ broken 8 (opening ++ (reset ∷ (closing ++ (Turn 0 10 ∷ registered ∷ Turn 0 10 ∷ []))))
    ∷ []

abbrev pub moved : List Case
moved =
    -- the start order behind the Turn
    broken 0 (Turn 0 10 ∷ start counts ∷ reset ∷ (closing ++ ending))
    -- a line before its Turn
    ∷ broken 1 (start counts ∷ reset ∷ Turn 0 10 ∷ (closing ++ ending))
    ∷ broken 5 (opening ++ (reset ∷ (closing ++ (registered ∷ Turn 0 20 ∷ Leave 0 ∷ []))))
    -- the first line behind the Back
    ∷ broken 2 (opening ++ (Back 0 1 ∷ reset ∷ Done 0 1 ∷ ending))
    -- the Back behind the Done
    ∷ broken 3 (opening ++ (reset ∷ Done 0 1 ∷ Back 0 1 ∷ ending))
    -- the Back behind the next Turn
    ∷ broken 3 (opening ++ (reset ∷ Turn 0 10 ∷ Back 0 1 ∷ Done 0 1 ∷ registered ∷ Turn 0 10 ∷ Leave 0 ∷ []))
    -- the Done behind the next Turn: the second line has its place between them, is refused there, and stands nowhere
    ∷ broken 6 (opening ++ (reset ∷ Back 0 1 ∷ Turn 0 10 ∷ Done 0 1 ∷ registered ∷ Turn 0 10 ∷ Leave 0 ∷ []))
    ∷ whole (opening ++ (reset ∷ Back 0 1 ∷ Turn 0 10 ∷ Done 0 1 ∷ Turn 0 10 ∷ Leave 0 ∷ []))
    -- the second line behind the last Turn, which goes on with the one before it
    ∷ whole (opening ++ (reset ∷ (closing ++ (Turn 0 20 ∷ registered ∷ Leave 0 ∷ []))))
    -- the second line behind the Leave
    ∷ broken 6 (opening ++ (reset ∷ (closing ++ (Turn 0 20 ∷ Leave 0 ∷ registered ∷ []))))
    ∷ []

abbrev pub doubled : List Case
doubled =
    broken 1 (start counts ∷ start counts ∷ Turn 0 10 ∷ reset ∷ (closing ++ ending))
    -- a line stands once
    ∷ broken 3 (opening ++ (reset ∷ reset ∷ (closing ++ ending)))
    ∷ broken 7 (opening ++ (reset ∷ (closing ++ (Turn 0 10 ∷ registered ∷ registered ∷ Turn 0 10 ∷ Leave 0 ∷ []))))
    ∷ broken 4 (opening ++ (reset ∷ Back 0 1 ∷ Back 0 1 ∷ Done 0 1 ∷ ending))
    ∷ broken 5 (opening ++ (reset ∷ Back 0 1 ∷ Done 0 1 ∷ Done 0 1 ∷ ending))
    -- hart 0 has no thirty-first step
    ∷ broken 7 (opening ++ (reset ∷ (closing ++ (Turn 0 10 ∷ registered ∷ Turn 0 20 ∷ Leave 0 ∷ []))))
    ∷ broken 9 (opening ++ (reset ∷ (closing ++ (Turn 0 10 ∷ registered ∷ Turn 0 10 ∷ Leave 0 ∷ Leave 0 ∷ []))))
    ∷ []

abbrev pub changed : List Case
changed =
    -- not the plan's install
    broken 0 (start hot ∷ Turn 0 10 ∷ reset ∷ (closing ++ ending))
    -- a step too few: the moment hasn't come
    ∷ broken 2 (start counts ∷ Turn 0 9 ∷ reset ∷ (closing ++ ending))
    -- a step more, which is missing at the end
    ∷ broken 7 (start counts ∷ Turn 0 11 ∷ reset ∷ (closing ++ ending))
    ∷ whole (start counts ∷ Turn 0 11 ∷ reset ∷ (closing ++ (Turn 0 9 ∷ registered ∷ Turn 0 10 ∷ Leave 0 ∷ [])))
    -- the party isn't the hart of the Turn before
    ∷ broken 2 (opening ++ (line 0 1 (Reset 1) ∷ (closing ++ ending)))
    ∷ broken 2 (opening ++ (line 0 255 (Reset 1) ∷ (closing ++ ending)))
    -- the number isn't that of the line
    ∷ broken 2 (opening ++ (line 1 0 (Reset 1) ∷ (closing ++ ending)))
    -- the order isn't that of the line
    ∷ broken 2 (opening ++ (line 0 0 (Uninstall 1) ∷ (closing ++ ending)))
    ∷ broken 6 (opening ++ (reset ∷ (closing ++ (Turn 0 10 ∷ line 1 0 (Register 1 counts) ∷ Turn 0 10 ∷ Leave 0 ∷ []))))
    -- the same order from someone else, where the line must stand
    ∷ broken 2 (opening ++ (control 1 (Reset 1) ∷ (closing ++ ending)))
    -- the line that is refused, and the one whose moment hasn't come
    ∷ broken 7 (opening ++ (reset ∷ (closing ++ (Turn 0 10 ∷ registered ∷ line 2 0 (Uninstall 9) ∷ Turn 0 10 ∷ Leave 0 ∷ []))))
    ∷ broken 7 (opening ++ (reset ∷ (closing ++ (Turn 0 10 ∷ registered ∷ line 3 0 (Uninstall 1) ∷ Turn 0 10 ∷ Leave 0 ∷ []))))
    -- a Back of a plug-in and of a hart that aren't there
    ∷ broken 3 (opening ++ (reset ∷ Back 0 2 ∷ Done 0 1 ∷ ending))
    ∷ broken 3 (opening ++ (reset ∷ Back 1 1 ∷ Done 0 1 ∷ ending))
    -- a Done by a party that is no hart, and one of a plug-in that isn't there
    ∷ whole (opening ++ (reset ∷ Back 0 1 ∷ Done 241 1 ∷ ending))
    ∷ broken 4 (opening ++ (reset ∷ Back 0 1 ∷ Done 0 0 ∷ ending))
    -- a step too few
    ∷ broken 8 (opening ++ (reset ∷ (closing ++ (Turn 0 10 ∷ registered ∷ Turn 0 9 ∷ Leave 0 ∷ []))))
    ∷ []

-- One hart that jumps four steps, and lines of moment 0, whose place is directly behind the start orders:
--     at 0 register 1 hot
--     at 0 reset 1
--     at 0 uninstall 5
--     at 2 register 1 hot
abbrev pub early : Run
early = record {
  guest = standing_in all_jumps (jumping 4 ∷ []);
  harts = 1;
  boxes = RACK_BOXES;
  plan = record {
    installs = counts ∷ [];
    script = at 0 (Register 1 hot) ∷ at 0 (Reset 1) ∷ at 0 (Uninstall 5) ∷ at 2 (Register 1 hot) ∷ [];
  };
}

abbrev pub at_zero : Entry
at_zero = line 1 255 (Reset 1)

abbrev pub rest : List Entry
rest = Back 0 1 ∷ Done 0 1 ∷ Turn 0 2 ∷ line 3 0 (Register 1 hot) ∷ Turn 0 2 ∷ Leave 0 ∷ []

abbrev pub early_cases : List Case
early_cases =
    whole (start counts ∷ at_zero ∷ rest)
    -- the first line, while the plug-in is Live, and the third, of a plug-in that isn't there
    ∷ broken 1 (start counts ∷ line 0 255 (Register 1 hot) ∷ at_zero ∷ rest)
    ∷ broken 2 (start counts ∷ at_zero ∷ line 2 255 (Uninstall 5) ∷ rest)
    -- the second line dropped, before and behind the start order, behind a Turn, and twice
    ∷ broken 1 (start counts ∷ rest)
    ∷ broken 0 (at_zero ∷ start counts ∷ rest)
    ∷ broken 1 (start counts ∷ Turn 0 2 ∷ at_zero ∷ Back 0 1 ∷ Done 0 1 ∷ Turn 0 2 ∷ Leave 0 ∷ [])
    ∷ broken 2 (start counts ∷ at_zero ∷ at_zero ∷ rest)
    -- its party is a hart, and its place is passed by by an order of someone else
    ∷ broken 1 (start counts ∷ line 1 0 (Reset 1) ∷ rest)
    ∷ broken 1 (start counts ∷ control 1 (Uninstall 1) ∷ at_zero ∷ rest)
    -- the fourth line at the place of the others
    ∷ broken 4 (start counts ∷ at_zero ∷ Back 0 1 ∷ Done 0 1 ∷ line 3 255 (Register 1 hot) ∷ Turn 0 4 ∷ Leave 0 ∷ [])
    -- the start order dropped
    ∷ broken 0 (at_zero ∷ rest)
    -- the journal ends at the place of a line, or behind a Turn whose line is missing
    ∷ broken 1 (start counts ∷ [])
    ∷ broken 5 (start counts ∷ at_zero ∷ Back 0 1 ∷ Done 0 1 ∷ Turn 0 4 ∷ [])
    ∷ []

-- without installs the place of such lines is the journal's beginning
abbrev pub unprepared : Run
unprepared = record {
  guest = standing_in all_jumps (jumping 4 ∷ []);
  harts = 1;
  boxes = RACK_BOXES;
  plan = record { installs = []; script = at 0 (Install counts) ∷ at 0 (Reset 2) ∷ at 3 (Reset 1) ∷ [] };
}

abbrev pub unprepared_cases : List Case
unprepared_cases =
    whole (line 0 255 (Install counts) ∷ Turn 0 3 ∷ line 2 0 (Reset 1) ∷ Back 0 1 ∷ Done 0 1 ∷ Turn 0 1 ∷ Leave 0 ∷ [])
    ∷ broken 0 []
    ∷ broken 0 (Turn 0 4 ∷ Leave 0 ∷ [])
    ∷ broken 0 (start counts ∷ Turn 0 3 ∷ line 2 0 (Reset 1) ∷ Back 0 1 ∷ Done 0 1 ∷ Turn 0 1 ∷ Leave 0 ∷ [])
    ∷ broken 0 (line 0 0 (Install counts) ∷ Turn 0 3 ∷ line 2 0 (Reset 1) ∷ Back 0 1 ∷ Done 0 1 ∷ Turn 0 1 ∷ Leave 0 ∷ [])
    ∷ broken 1 (line 0 255 (Install counts) ∷ line 1 255 (Reset 2) ∷ Turn 0 4 ∷ Leave 0 ∷ [])
    ∷ broken 2 (line 0 255 (Install counts) ∷ Turn 0 4 ∷ Leave 0 ∷ [])
    ∷ []

-- Two harts that jump six steps each, a plug-in whose boxes ask for its uninstall at their third instruction, and a script:
--     at 4 reset 1
--     at 9 install counts
abbrev pub meeting : Run
meeting = record {
  guest = standing_in all_jumps (jumping 6 ∷ jumping 6 ∷ []);
  harts = 2;
  boxes = RACK_BOXES;
  plan = record { installs = leaving_after 3 ∷ []; script = at 4 (Reset 1) ∷ at 9 (Install counts) ∷ [] };
}

abbrev pub parting : List Entry
parting = Back 0 1 ∷ Back 1 1 ∷ Done 0 1 ∷ []

-- hart 1's Turn has the places of the ask and of the line, which comes first
abbrev pub met : List Entry → List Entry
met rest = start (leaving_after 3) ∷ Turn 1 4 ∷ rest

-- the ask's order comes before the line's moment; what follows has the places from 7 on
abbrev pub asked_first : List Entry → List Entry
asked_first rest = start (leaving_after 3) ∷ Turn 1 3 ∷ asked 1 1 (Uninstall 1) ∷ (parting ++ (Turn 1 3 ∷ rest))

abbrev pub last_line : Entry
last_line = line 1 0 (Install counts)

abbrev pub meeting_cases : List Case
meeting_cases =
    -- the line's place is directly behind the Turn that asks, and its order ends the ask
    whole (met (line 0 1 (Reset 1) ∷ (parting ++ (Turn 1 2 ∷ Leave 1 ∷ Turn 0 6 ∷ last_line ∷ Leave 0 ∷ []))))
    -- the ask's order there instead, and behind it
    ∷ broken 2 (met (asked 1 1 (Uninstall 1) ∷ parting))
    ∷ broken 3 (met (line 0 1 (Reset 1) ∷ asked 1 1 (Uninstall 1) ∷ parting))
    -- the line's party is the other hart
    ∷ broken 2 (met (line 0 0 (Reset 1) ∷ parting))
    -- a Turn of the other hart passes the line by
    ∷ broken 2 (met (Turn 0 1 ∷ line 0 1 (Reset 1) ∷ parting))
    -- the line is refused at its place once the plug-in is Gone
    ∷ whole (asked_first (Turn 0 3 ∷ last_line ∷ Turn 0 3 ∷ Leave 1 ∷ Leave 0 ∷ []))
    ∷ broken 7 (asked_first (line 0 1 (Reset 1) ∷ Turn 0 3 ∷ []))
    -- the last line one step too early, behind a longer Turn, and passed by by a Leave
    ∷ broken 8 (asked_first (Turn 0 2 ∷ last_line ∷ []))
    ∷ whole (asked_first (Turn 0 6 ∷ last_line ∷ Leave 1 ∷ Leave 0 ∷ []))
    ∷ broken 8 (asked_first (Turn 0 6 ∷ Leave 1 ∷ Leave 0 ∷ []))
    ∷ []
