-- The log of a journal: all that happened, one item after the other. It is a list with the latest item
-- first, so that the rules of the journal are recursions over what came before. The log of the state that the harts share
-- has two more kinds of item between, `Got` and `Took`, which stand in no journal.
use Rattle.std.specs.Prelude.{ℕ, zero, suc, ◌+◌, ◌<◌, ◌≡◌, ◌==◌, Bool, false, List, [], ◌∷◌, Option, Some, None}
use Rattle.flat_model.specs.declared.journals.Origin.{Origin}
use Rattle.flat_model.specs.declared.journals.Origin.TheVariants as origins
use Rattle.flat_model.specs.declared.journals.Item.{Item}
use Rattle.flat_model.specs.declared.journals.Item.TheVariants.{Step, Ordered, GaveBack, Left, Told, Got, Took}
use Rattle.flat_model.specs.declared.journals.Entry.{Entry}
use Rattle.flat_model.specs.declared.journals.Entry.TheVariants as entries
use Rattle.flat_model.specs.declared.limits.TheConstants.{NO_PARTY}

-- n steps of a hart, after what was before
abbrev pub steps : ℕ → ℕ → List Item → List Item
steps hart zero past = past
steps hart (suc n) past = Step hart ∷ steps hart n past

-- an entry, after what was before
abbrev pub with_entry : Entry → List Item → List Item
with_entry (entries.Turn hart n) past = steps hart n past
with_entry (entries.Order origin order) past = Ordered origin order ∷ past
with_entry (entries.Back hart plugin) past = GaveBack hart plugin ∷ past
with_entry (entries.Leave hart) past = Left hart ∷ past
with_entry (entries.Done party plugin) past = Told party plugin ∷ past

-- entries in their order, after what was before
abbrev pub log_from : List Item → List Entry → List Item
log_from past [] = past
log_from past (e ∷ es) = log_from (with_entry e past) es

abbrev pub log : List Entry → List Item
log es = log_from [] es

-- the number of steps of all harts
abbrev pub total_steps : List Item → ℕ
total_steps [] = 0
total_steps (Step hart ∷ past) = total_steps past + 1
total_steps (Ordered origin order ∷ past) = total_steps past
total_steps (GaveBack hart plugin ∷ past) = total_steps past
total_steps (Left hart ∷ past) = total_steps past
total_steps (Told party plugin ∷ past) = total_steps past
total_steps (Got hart plugin ∷ past) = total_steps past
total_steps (Took party plugin ∷ past) = total_steps past

-- what stands in the journal
abbrev pub journaled : List Item → List Item
journaled [] = []
journaled (Step hart ∷ past) = Step hart ∷ journaled past
journaled (Ordered origin order ∷ past) = Ordered origin order ∷ journaled past
journaled (GaveBack hart plugin ∷ past) = GaveBack hart plugin ∷ journaled past
journaled (Left hart ∷ past) = Left hart ∷ journaled past
journaled (Told party plugin ∷ past) = Told party plugin ∷ journaled past
journaled (Got hart plugin ∷ past) = journaled past
journaled (Took party plugin ∷ past) = journaled past

-- who gave an order
abbrev pub giver : Origin → ℕ
giver origins.Start = NO_PARTY
giver (origins.Script line party) = party
giver (origins.Asked hart plugin) = hart
giver (origins.Control party) = party

abbrev pub party : Item → ℕ
party (Step hart) = hart
party (Ordered origin order) = giver origin
party (GaveBack hart plugin) = hart
party (Left hart) = hart
party (Told who plugin) = who
party (Got hart plugin) = hart
party (Took who plugin) = who

-- the hart of a Turn
abbrev pub turning : Entry → Option ℕ
turning (entries.Turn hart n) = Some hart
turning (entries.Order origin order) = None
turning (entries.Back hart plugin) = None
turning (entries.Leave hart) = None
turning (entries.Done party plugin) = None

-- whether two Turns, given by their harts, are of one hart
abbrev pub are_one : Option ℕ → Option ℕ → Bool
are_one None other = false
are_one (Some hart) None = false
are_one (Some hart) (Some other) = hart == other

-- a Turn has steps
abbrev pub HasSteps : Entry → Type 0
HasSteps (entries.Turn hart n) = 0 < n
HasSteps (entries.Order origin order) = Unit {0}
HasSteps (entries.Back hart plugin) = Unit {0}
HasSteps (entries.Leave hart) = Unit {0}
HasSteps (entries.Done party plugin) = Unit {0}

-- each Turn has steps, and none is next to a Turn of its hart; `last` is the hart of the Turn before
abbrev pub IsJoinedAfter : Option ℕ → List Entry → Type 0
IsJoinedAfter last [] = Unit {0}
IsJoinedAfter last (e ∷ es) = HasSteps e × (are_one last (turning e) ≡ false) × IsJoinedAfter (turning e) es

abbrev pub IsJoined : List Entry → Type 0
IsJoined es = IsJoinedAfter None es

-- the hart of the Turn that comes last
abbrev pub last_turn : Option ℕ → List Entry → Option ℕ
last_turn last [] = last
last_turn last (e ∷ es) = last_turn (turning e) es

-- a journal with its Turns joined is the only one of its log
abbrev pub JournalIsOne : Type 0
JournalIsOne = (es fs : List Entry) → IsJoined es → IsJoined fs → log es ≡ log fs → es ≡ fs
