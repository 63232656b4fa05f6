-- Stand-ins for a guest, on which journals are computed. A stand-in says of each hart how many steps it makes, what each of them
-- tells, and how long it is parked; no instruction is run.
use Rattle.std.specs.Prelude.{ℕ, pos, ◌+◌, ◌-◌, ◌*◌, ◌==◌, ◌&&◌, nat_le, nat_lt, Bool, true, false}
use Rattle.std.specs.Prelude.{if◌then◌else◌, List, [], ◌∷◌, ◌++◌, map}
use Rattle.std.specs.Prelude.{Some, slice_index_or}
use Rattle.flat_model.specs.declared.events.Class.TheVariants.{Jump, Alu}
use Rattle.flat_model.specs.declared.events.Ending.{Ending}
use Rattle.flat_model.specs.declared.events.Ending.TheVariants.{Exited, Limit}
use Rattle.flat_model.specs.declared.events.Event.{Event}
use Rattle.flat_model.specs.declared.events.What.{What}
use Rattle.flat_model.specs.declared.events.What.TheVariants.{Init, Block, Insn, Exit}
use Rattle.flat_model.specs.declared.journals.Item.{Item}
use Rattle.flat_model.specs.declared.journals.Item.TheVariants.{Step, Ordered, GaveBack, Left, Told, Got, Took}
use Rattle.event_walk.specs.Matches.{Classes}
use Rattle.run_rules.specs.Guest.{Guest}

-- what a hart does: it is parked until hart 0 has made some steps, tells something at each step, counted from 1, and ends with
-- its last, by which the group may end too
pub record Course : Type 0 where
  pub parked : ℕ
  pub tells : ℕ → List What
  pub last : ℕ
  pub ends_group : Bool

-- what stands at a number that is no hart
abbrev pub no_course : Course
no_course = record { parked = 0; tells = λ n. []; last = 0; ends_group = false }

-- how many steps of hart h a log has
unfoldable pub steps_of : ℕ → List Item → ℕ
steps_of h [] = 0
steps_of h (Step hart ∷ past) = if hart == h then steps_of h past + 1 else steps_of h past
steps_of h (Ordered origin order ∷ past) = steps_of h past
steps_of h (GaveBack hart plugin ∷ past) = steps_of h past
steps_of h (Left hart ∷ past) = steps_of h past
steps_of h (Told party plugin ∷ past) = steps_of h past
steps_of h (Got hart plugin ∷ past) = steps_of h past
steps_of h (Took party plugin ∷ past) = steps_of h past

abbrev pub course_of : List Course → ℕ → Course
course_of courses h = slice_index_or courses h no_course

-- the events of hart h's step with number n
abbrev pub events_at : Course → ℕ → ℕ → List Event
events_at course h n = map (λ what. record { hart = h; step = n; what = what }) (course.tells n)

-- whether the first of these harts, whose number is h, or one behind it has ended the group
abbrev pub group_ended : ℕ → List Course → List Item → Bool
group_ended h [] past = false
group_ended h (course ∷ courses) past =
    if course.ends_group && nat_le course.last (steps_of h past) then true else group_ended (h + 1) courses past

abbrev pub standing_in : Classes → List Course → Guest
standing_in classes courses = record {
  next_events = λ past h. events_at (course_of courses h) h (steps_of h past + 1);
  is_parked = λ past h. nat_lt (steps_of 0 past) (course_of courses h).parked;
  has_ended = λ past h. nat_le (course_of courses h).last (steps_of h past);
  is_over = λ past. group_ended 0 courses past;
  classes = classes;
}

-- Init at the first step, and Exit at the last, around what a hart tells
abbrev pub framed : ℕ → Ending → (ℕ → List What) → ℕ → List What
framed last ending tells n =
    (if n == 1 then Init ∷ [] else []) ++ (tells n ++ (if n == last then Exit ending ∷ [] else []))

-- a block of one word at 0x10000, a jump to itself
abbrev pub jump : ℕ → List What
jump n = Block 0x10000 1 ∷ Insn 0x10000 0x6f ∷ []

-- a block of so many words from 0x10000 on, none of which is a branch or a jump; at each step the word is an addi
abbrev pub straight : ℕ → ℕ → List What
straight words n = (if n == 1 then Block 0x10000 words ∷ [] else []) ++ (Insn (0x10000 + 4 * (n - 1)) 0x13 ∷ [])

-- a hart that jumps to itself up to its limit
abbrev pub jumping : ℕ → Course
jumping limit = record { parked = 0; tells = framed limit Limit jump; last = limit; ends_group = false }

-- a hart that exits with the last of so many words in a row
abbrev pub exiting : ℕ → Course
exiting last = record { parked = 0; tells = framed last (Exited (pos 0)) (straight last); last = last; ends_group = false }

-- a hart that is parked until hart 0 has made so many steps
abbrev pub parked_until : ℕ → Course → Course
parked_until steps course = record course { parked = steps }

-- all words are jumps, or all are of the class alu
abbrev pub all_jumps : Classes
all_jumps pc = Some Jump

abbrev pub all_alu : Classes
all_alu pc = Some Alu
