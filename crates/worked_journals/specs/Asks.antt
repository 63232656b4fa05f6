-- Two harts that jump ten steps each, and a plug-in whose boxes count instructions and ask for its uninstall at their fifth.
use Rattle.std.specs.Prelude.{List, [], ◌∷◌, ◌++◌}
use Rattle.flat_model.specs.declared.journals.Entry.{Entry}
use Rattle.flat_model.specs.declared.journals.Entry.TheVariants.{Turn, Back, Leave, Done}
use Rattle.flat_model.specs.declared.journals.Order.TheVariants.{Install, Reset, Uninstall}
use Rattle.flat_model.specs.declared.limits.TheConstants.{RACK_BOXES}
use Rattle.run_rules.specs.Guest.{Run}
use Rattle.worked_journals.specs.Cases.{Case, whole, broken, start, asked, control}
use Rattle.worked_journals.specs.Guests.{jumping, standing_in, all_jumps}
use Rattle.worked_journals.specs.Sets.{counts, leaving_after}

abbrev pub asking : Run
asking = record {
  guest = standing_in all_jumps (jumping 10 ∷ jumping 10 ∷ []);
  harts = 2;
  boxes = RACK_BOXES;
  plan = record { installs = leaving_after 5 ∷ []; script = [] };
}

-- in four parts: up to the harts' first Turns, the order, what it takes to close the plug-in, and what is left to do
abbrev pub opening : List Entry
opening = start (leaving_after 5) ∷ Turn 0 5 ∷ Turn 1 7 ∷ []

abbrev pub order : Entry
order = asked 0 1 (Uninstall 1)

abbrev pub closing : List Entry
closing = Back 0 1 ∷ Back 1 1 ∷ Done 1 1 ∷ []

abbrev pub ending : List Entry
ending = Turn 0 5 ∷ Leave 0 ∷ Turn 1 3 ∷ Leave 1 ∷ []

-- the entries have the places 0 to 2, 3, 4 to 6, and 7 to 10
abbrev pub asked_journal : List Entry
asked_journal = opening ++ (order ∷ (closing ++ ending))

-- an entry of it dropped
abbrev pub dropped : List Case
dropped =
    -- the start order: a Turn stands where it is missing
    broken 0 (Turn 0 5 ∷ Turn 1 7 ∷ order ∷ (closing ++ ending))
    -- hart 0's first Turn: nothing asks on hart 0
    ∷ broken 2 (start (leaving_after 5) ∷ Turn 1 7 ∷ order ∷ (closing ++ ending))
    -- hart 1's first Turn: at its Leave it has made 3 of 10 steps
    ∷ broken 9 (start (leaving_after 5) ∷ Turn 0 5 ∷ order ∷ (closing ++ ending))
    -- the order: the plug-in is Live at the first Back
    ∷ broken 3 (opening ++ (closing ++ ending))
    -- either Back: a hart hasn't given back at the Done
    ∷ broken 5 (opening ++ (order ∷ Back 1 1 ∷ Done 1 1 ∷ ending))
    ∷ broken 5 (opening ++ (order ∷ Back 0 1 ∷ Done 1 1 ∷ ending))
    -- the Done: each entry keeps its rule, and the plug-in is still Leaving at the end
    ∷ broken 10 (opening ++ (order ∷ Back 0 1 ∷ Back 1 1 ∷ ending))
    -- hart 0's last Turn: it leaves with 5 steps
    ∷ broken 7 (opening ++ (order ∷ (closing ++ (Leave 0 ∷ Turn 1 3 ∷ Leave 1 ∷ []))))
    -- either Leave: a hart hasn't left at the end
    ∷ broken 10 (opening ++ (order ∷ (closing ++ (Turn 0 5 ∷ Turn 1 3 ∷ Leave 1 ∷ []))))
    ∷ broken 10 (opening ++ (order ∷ (closing ++ (Turn 0 5 ∷ Leave 0 ∷ Turn 1 3 ∷ []))))
    -- hart 1's last Turn: it leaves with 7 steps
    ∷ broken 9 (opening ++ (order ∷ (closing ++ (Turn 0 5 ∷ Leave 0 ∷ Leave 1 ∷ []))))
    -- all, and all but the start order: the end comes too early
    ∷ broken 0 []
    ∷ broken 1 (start (leaving_after 5) ∷ [])
    ∷ []

-- an entry of it moved
abbrev pub moved : List Case
moved =
    -- the start order behind a Turn
    broken 0 (Turn 0 5 ∷ start (leaving_after 5) ∷ Turn 1 7 ∷ order ∷ (closing ++ ending))
    -- the order before the Turn that asks for it
    ∷ broken 1 (start (leaving_after 5) ∷ order ∷ Turn 0 5 ∷ Turn 1 7 ∷ (closing ++ ending))
    -- the order before hart 1's Turn, which owes its Back then
    ∷ broken 3 (start (leaving_after 5) ∷ Turn 0 5 ∷ order ∷ Turn 1 7 ∷ (closing ++ ending))
    -- the order behind hart 0's next Turn
    ∷ broken 3 (opening ++ (Turn 0 5 ∷ order ∷ (closing ++ (Leave 0 ∷ Turn 1 3 ∷ Leave 1 ∷ []))))
    -- a Back before the order
    ∷ broken 3 (opening ++ (Back 0 1 ∷ order ∷ Back 1 1 ∷ Done 1 1 ∷ ending))
    -- a Back behind the Done
    ∷ broken 5 (opening ++ (order ∷ Back 0 1 ∷ Done 1 1 ∷ Back 1 1 ∷ ending))
    -- a Back behind its hart's next Turn
    ∷ broken 5 (opening ++ (order ∷ Back 0 1 ∷ Turn 1 3 ∷ Back 1 1 ∷ Done 1 1 ∷ Turn 0 5 ∷ Leave 0 ∷ Leave 1 ∷ []))
    -- hart 0's Leave before its last Turn
    ∷ broken 7 (opening ++ (order ∷ (closing ++ (Leave 0 ∷ Turn 0 5 ∷ Turn 1 3 ∷ Leave 1 ∷ []))))
    -- hart 1's Done behind its Leave
    ∷ broken 10 (opening ++ (order ∷ Back 0 1 ∷ Back 1 1 ∷ (ending ++ (Done 1 1 ∷ []))))
    -- the same Done, by a party that is no hart
    ∷ whole (opening ++ (order ∷ Back 0 1 ∷ Back 1 1 ∷ (ending ++ (Done 2 1 ∷ []))))
    -- the Done behind a Turn
    ∷ whole (opening ++ (order ∷ Back 0 1 ∷ Back 1 1 ∷ Turn 0 5 ∷ Done 1 1 ∷ Leave 0 ∷ Turn 1 3 ∷ Leave 1 ∷ []))
    -- the Backs, the first Turns, and what the harts do at the end in another order
    ∷ whole (opening ++ (order ∷ Back 1 1 ∷ Back 0 1 ∷ Done 1 1 ∷ ending))
    ∷ whole (start (leaving_after 5) ∷ Turn 1 7 ∷ Turn 0 5 ∷ order ∷ (closing ++ ending))
    ∷ whole (opening ++ (order ∷ (closing ++ (Turn 1 3 ∷ Turn 0 5 ∷ Leave 1 ∷ Leave 0 ∷ []))))
    ∷ []

-- an entry of it doubled; a Turn next to one of its hart is joined to it
abbrev pub doubled : List Case
doubled =
    -- the plan has one install
    broken 1 (start (leaving_after 5) ∷ start (leaving_after 5) ∷ Turn 0 5 ∷ Turn 1 7 ∷ order ∷ (closing ++ ending))
    -- hart 0 has made its ten steps in its first Turn, and can't go on in its second
    ∷ broken 7 (start (leaving_after 5) ∷ Turn 0 10 ∷ Turn 1 7 ∷ order ∷ (closing ++ ending))
    -- hart 1 has no eleventh step
    ∷ broken 2 (start (leaving_after 5) ∷ Turn 0 5 ∷ Turn 1 14 ∷ order ∷ (closing ++ ending))
    -- the registry refuses an uninstall of what is Leaving
    ∷ broken 4 (opening ++ (order ∷ order ∷ (closing ++ ending)))
    -- a hart gives back once
    ∷ broken 5 (opening ++ (order ∷ Back 0 1 ∷ Back 0 1 ∷ Back 1 1 ∷ Done 1 1 ∷ ending))
    ∷ broken 6 (opening ++ (order ∷ Back 0 1 ∷ Back 1 1 ∷ Back 1 1 ∷ Done 1 1 ∷ ending))
    -- the plug-in is Gone
    ∷ broken 7 (opening ++ (order ∷ (closing ++ (Done 1 1 ∷ ending))))
    -- a hart leaves once
    ∷ broken 9 (opening ++ (order ∷ (closing ++ (Turn 0 5 ∷ Leave 0 ∷ Leave 0 ∷ Turn 1 3 ∷ Leave 1 ∷ []))))
    ∷ broken 11 (opening ++ (order ∷ (closing ++ (ending ++ (Leave 1 ∷ [])))))
    -- hart 1 has no eleventh step
    ∷ broken 9 (opening ++ (order ∷ (closing ++ (Turn 0 5 ∷ Leave 0 ∷ Turn 1 6 ∷ Leave 1 ∷ []))))
    ∷ []

-- an entry of it changed
abbrev pub changed : List Case
changed =
    -- not the plan's install
    broken 0 (start counts ∷ Turn 0 5 ∷ Turn 1 7 ∷ order ∷ (closing ++ ending))
    -- the install from someone else, while that of the start is missing
    ∷ broken 0 (control 2 (Install (leaving_after 5)) ∷ Turn 0 5 ∷ Turn 1 7 ∷ order ∷ (closing ++ ending))
    -- hart 0's box has heard 4 instructions, and hasn't asked
    ∷ broken 3 (start (leaving_after 5) ∷ Turn 0 4 ∷ Turn 1 7 ∷ order ∷ (closing ++ ending))
    -- a step follows the one that asks, and is missing in the last Turn
    ∷ broken 7 (start (leaving_after 5) ∷ Turn 0 6 ∷ Turn 1 7 ∷ order ∷ (closing ++ ending))
    ∷ whole (start (leaving_after 5) ∷ Turn 0 6 ∷ Turn 1 7 ∷ order ∷ (closing ++ (Turn 0 4 ∷ Leave 0 ∷ Turn 1 3 ∷ Leave 1 ∷ [])))
    -- a hart that isn't there, in a Turn, a Back and a Leave
    ∷ broken 2 (start (leaving_after 5) ∷ Turn 0 5 ∷ Turn 2 7 ∷ order ∷ (closing ++ ending))
    ∷ broken 5 (opening ++ (order ∷ Back 0 1 ∷ Back 2 1 ∷ Done 1 1 ∷ ending))
    ∷ broken 8 (opening ++ (order ∷ (closing ++ (Turn 0 5 ∷ Leave 2 ∷ Turn 1 3 ∷ Leave 1 ∷ []))))
    -- the order as hart 1's boxes ask for it too
    ∷ whole (opening ++ (asked 1 1 (Uninstall 1) ∷ (closing ++ ending)))
    -- asked by a plug-in that isn't there, or on a hart that isn't there
    ∷ broken 3 (opening ++ (asked 0 2 (Uninstall 1) ∷ (closing ++ ending)))
    ∷ broken 3 (opening ++ (asked 2 1 (Uninstall 1) ∷ (closing ++ ending)))
    -- another order than the one that is asked for
    ∷ broken 3 (opening ++ (asked 0 1 (Reset 1) ∷ (closing ++ ending)))
    ∷ broken 3 (opening ++ (asked 0 1 (Uninstall 2) ∷ (closing ++ ending)))
    -- a control order by a hart, and by a party that is none: it ends the asks as the asked order does
    ∷ broken 3 (opening ++ (control 1 (Uninstall 1) ∷ (closing ++ ending)))
    ∷ whole (opening ++ (control 2 (Uninstall 1) ∷ (closing ++ ending)))
    -- a Back and a Done of a plug-in that isn't there
    ∷ broken 4 (opening ++ (order ∷ Back 0 2 ∷ Back 1 1 ∷ Done 1 1 ∷ ending))
    ∷ broken 6 (opening ++ (order ∷ Back 0 1 ∷ Back 1 1 ∷ Done 1 2 ∷ ending))
    -- a Done by the other hart
    ∷ whole (opening ++ (order ∷ Back 0 1 ∷ Back 1 1 ∷ Done 0 1 ∷ ending))
    -- a step too few before each Leave
    ∷ broken 8 (opening ++ (order ∷ (closing ++ (Turn 0 4 ∷ Leave 0 ∷ Turn 1 3 ∷ Leave 1 ∷ []))))
    ∷ broken 10 (opening ++ (order ∷ (closing ++ (Turn 0 5 ∷ Leave 0 ∷ Turn 1 2 ∷ Leave 1 ∷ []))))
    -- an ask that waits keeps its hart from its next Turn, Back and Leave
    ∷ broken 3 (opening ++ (Turn 0 1 ∷ order ∷ (closing ++ ending)))
    ∷ broken 2 (start (leaving_after 5) ∷ Turn 0 10 ∷ Leave 0 ∷ [])
    ∷ []
