-- One step of a hart of the flat machine, with the events that it gives; `docs/guest-machine.md` and
-- `docs/events.md` say it in words.
use Rattle.std.specs.Prelude.{◌≡◌, ℕ, zero, suc, ◌+◌, ◌%◌, ◌==◌, ◌&&◌, ◌||◌, Bool, true, if◌then◌else◌}
use Rattle.std.specs.Prelude.{List, [], ◌∷◌, ◌++◌, map}
use Rattle.std.specs.Prelude.{Option, Some, None, is_some}
use Rattle.std.specs.Option.{option_map_or}
use Rattle.flat_model.specs.declared.events.Ending.{Ending}
use Rattle.flat_model.specs.declared.events.Ending.TheVariants.{Fault, Limit}
use Rattle.flat_model.specs.declared.events.Event.{Event}
use Rattle.flat_model.specs.declared.events.What.{What}
use Rattle.flat_model.specs.declared.events.What.TheVariants.{Init, Block, Insn, Exit}
use Rattle.flat_model.specs.declared.effects.Done.{Done}
use Rattle.flat_model.specs.declared.effects.Done.TheVariants.{Goes, Fails, Leaves}
use Rattle.flat_model.specs.declared.limits.TheConstants.{PAGE_BYTES, BLOCK_WORDS}
use Rattle.flat_model.specs.Image.{Program, word_at}
use Rattle.flat_model.specs.Permission.{spans_of}
use Rattle.flat_model.specs.Blocks.{word_ends, length_of}
use Rattle.flat_model.specs.World.{Start, Machine, HartState, Shared, World, started_hart}
use Rattle.flat_model.specs.Effect.{effect_of_word, following, with_register}
use Rattle.flat_model.specs.Outcome.{Outcome, outcome}

-- what a step leaves of the hart and of what is shared, and the events that it gives
pub record Stepped : Type 0 where
  pub hart : HartState
  pub shared : Shared
  pub events : List Event

-- whether the next step starts a block
abbrev pub starts_block : HartState → Bool
starts_block hart = hart.since == 0

-- whether a block ends with the word at pc, where it is present
abbrev pub ends_with : Option ℕ → Bool
ends_with word = option_map_or word_ends word true

-- the hart once a step has begun: the step is counted, and the block where it starts one at a present word
abbrev pub begun : HartState → Bool → HartState
begun hart present = record hart {
  steps = hart.steps + 1;
  blocks = hart.blocks + (if starts_block hart && present then 1 else 0);
}

-- the steps since the last block start, once the hart has gone on to the target: the next step starts a block
-- behind a word that ends one, at the start of a page, and after as many steps as a block has words at most
abbrev pub since_after : ℕ → Bool → ℕ → ℕ
since_after since ends target = if ends || (target % PAGE_BYTES == 0) || (since + 1 == BLOCK_WORDS) then 0 else since + 1

-- a hart that hasn't ended otherwise ends with the step that its limit allows last
abbrev pub ending_at : ℕ → ℕ → Option Ending
ending_at limit steps = if steps == limit then Some Limit else None

-- the hart after its step, by whether its word is present and ends a block, and by what was done
abbrev pub after_done : ℕ → HartState → Bool → Bool → Done → HartState
after_done limit hart present ends (Goes rd value target) = record (begun hart present) {
  pc = target;
  x = with_register hart.x rd value;
  since = since_after hart.since ends target;
  ending = ending_at limit (hart.steps + 1);
}
after_done limit hart present ends (Fails kind) = record (begun hart present) { ending = Some (Fault kind hart.pc) }
after_done limit hart present ends (Leaves ending) = record (begun hart present) { pc = following hart; since = 0; ending = Some ending }

abbrev pub hart_after : ℕ → HartState → Option ℕ → Done → HartState
hart_after limit hart word done = after_done limit hart (is_some word) (ends_with word) done

-- the events of a step in their order: Init at the first step, Block where it starts one at a present word, Insn at
-- a present word, those of its outcome, and Exit where the hart has ended
abbrev pub first_told : HartState → List What
first_told hart = if hart.steps == 0 then Init ∷ [] else []

abbrev pub block_told : HartState → Option ℕ → ℕ → List What
block_told hart word n = if starts_block hart && is_some word then Block hart.pc n ∷ [] else []

abbrev pub word_told : ℕ → Option ℕ → List What
word_told pc None = []
word_told pc (Some word) = Insn pc word ∷ []

abbrev pub start_told : HartState → Option ℕ → ℕ → List What
start_told hart word n = first_told hart ++ (block_told hart word n ++ word_told hart.pc word)

abbrev pub exit_told : Option Ending → List What
exit_told None = []
exit_told (Some ending) = Exit ending ∷ []

-- each with the hart and the number of the step
abbrev pub as_events : ℕ → ℕ → List What → List Event
as_events h step whats = map (λ what. record { hart = h; step = step; what = what }) whats

-- hart h's step at a word with this outcome, in a block of n words where it starts one
abbrev pub stepped : ℕ → ℕ → HartState → Option ℕ → ℕ → Outcome → Stepped
stepped limit h hart word n o = record {
  hart = hart_after limit hart word o.done;
  shared = o.shared;
  events = as_events h (hart.steps + 1) (start_told hart word n ++ (o.told ++ exit_told (hart_after limit hart word o.done).ending));
}

-- hart h's step at the word that is at pc
abbrev pub step_at : Machine → ℕ → HartState → Shared → Option ℕ → Stepped
step_at m h hart shared word =
    stepped m.limit h hart word (length_of m.image hart.pc)
    (outcome (spans_of m.image m.harts) m.harts h hart shared (effect_of_word hart word))

-- a step of a hart that is parked or has ended, or after the group has ended, changes nothing and gives no event
abbrev pub is_over : HartState → Shared → Bool
is_over hart shared = (hart.parked || is_some hart.ending) || is_some shared.group

unfoldable pub step_of : Machine → ℕ → HartState → Shared → Stepped
step_of m h hart shared =
    if is_over hart shared then (record { hart = hart; shared = shared; events = [] })
    else step_at m h hart shared (word_at m.image hart.pc)

-- a hart as another hart's step leaves it: it begins by its start where the step gave it one, and else nothing of it changes
abbrev pub awoken : ℕ → ℕ → Option Start → Option Start → HartState → HartState
awoken k harts None None hart = hart
awoken k harts None (Some start) hart = started_hart k harts start
awoken k harts (Some start) after hart = hart

-- hart h makes one step in the world
unfoldable pub step : Machine → World → ℕ → World
step m world h =
    let s = step_of m h (world.harts h) world.shared in
    record {
      harts = λ k. (if k == h then s.hart else awoken k m.harts (world.shared.starts k) (s.shared.starts k) (world.harts k));
      shared = s.shared;
    }

-- n steps of hart h in a row, with all their events
unfoldable pub steps_of : Machine → ℕ → ℕ → HartState → Shared → Stepped
steps_of m h zero hart shared = record { hart = hart; shared = shared; events = [] }
steps_of m h (suc n) hart shared =
    let before = steps_of m h n hart shared in
    let s = step_of m h before.hart before.shared in
    record { hart = s.hart; shared = s.shared; events = before.events ++ s.events }

-- Steps as the code makes them, with their events appended to a log.

-- a step of hart h from old to new in every world whose group hasn't ended, which changes nothing that is shared
pub record IsPrivateStep (image : Program) (limit h : ℕ) (old new : HartState) (before after : List Event) : Type 0 where
  pub given : List Event
  pub appended : after ≡ before ++ given
  pub in_every_world : (harts : ℕ) (shared : Shared) → shared.group ≡ None
      → step_of (record { image = image; harts = harts; limit = limit }) h old shared
      ≡ record { hart = new; shared = shared; events = given }

-- a step of hart h from old to new, which leaves this of what is shared
pub record IsSharedStep (m : Machine) (h : ℕ) (old new : HartState) (shared left : Shared) (before after : List Event) : Type 0 where
  pub given : List Event
  pub appended : after ≡ before ++ given
  pub step : step_of m h old shared ≡ record { hart = new; shared = left; events = given }
