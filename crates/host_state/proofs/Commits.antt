-- A state to which steps of a hart were added.
use Rattle.std.proofs.Common.{◌≡◌, ◌==◌, ◌<◌, ◌≤◌, ◌*◌, ◌∙◌, ◌∷◌, ℕ, zero, suc, List, true, false, Some, None, Option, refl, sym, ap, subst, arith}
use Rattle.std.specs.Prelude.{IfSome, length, is_some, not, Bool}
use Rattle.std.proofs.lemmas.Bool.{false≢true}
use Rattle.std.proofs.lemmas.Bool.Decides.{nat_tests}
use Rattle.flat_model.specs.declared.journals.Item.{Item}
use Rattle.flat_model.specs.declared.journals.Item.TheVariants.{Step}
use Rattle.flat_model.specs.declared.journals.Entry.TheVariants.{Turn}
use Rattle.flat_model.specs.Log.{log, steps}
use Rattle.flat_model.specs.Image.{Program}
use Rattle.flat_model.specs.Permission.{spans_of}
use Rattle.flat_model.specs.declared.events.Event.{Event}
use Rattle.flat_model.specs.World.{Machine, World, HartState, Shared}
use Rattle.flat_model.specs.Step.{Stepped, IsSharedStep, step, step_of, steps_of}
use Rattle.flat_model.specs.Worlds.{world, hart_of, IsRunOf}
use Rattle.flat_model.proofs.Worlds.{runs_alone}
use Rattle.guest_memory.specs.Memory.{MemoryState, harts_of}
use Rattle.rv_exec.specs.Sharing.{ServicesState, shared_of, IsMemoryOf, machine_on, KeepsLayout}
use Rattle.run_journal.specs.Journal.{JournalState, joined_turn, IsSmall}
use Rattle.run_rules.specs.Legal.{Legal, may_step, runs, is_there}
use Rattle.run_rules.specs.Places.{takes_all}
use Rattle.run_rules.proofs.Turns.{first_true, rest_true}
use Rattle.run_order.specs.InOrder.{Task, task_run}
use Rattle.kept_order.specs.Arriving.{arrivals}
use Rattle.kept_order.proofs.Gone.{there_low}
use Rattle.kept_order.proofs.Turns.{turns_keep_order}
use Rattle.kept_order.proofs.TurnLengths.{turns_fit}
use Rattle.kept_order.proofs.Arrivals.{arrivals_stay}
use Rattle.host_state.specs.Rooms.{HasRooms}
use Rattle.host_state.proofs.RoomKeeping.{step_rooms}
use Rattle.host_state.specs.Moving.{MovesAlone}
use Rattle.host_state.specs.State.{StateValue, IsSound, stored_of}

-- a hart that may step
pub record IsReady (s : StateValue) (h : ℕ) (hart : HartState) : Type 0 where
  pub low : h < s.task.machine.harts
  pub awake : hart.parked ≡ false
  pub running : hart.ending ≡ None
  pub going_on : s.services.group ≡ None

none_of : {A : Type 0} (o : Option A) → is_some o ≡ false → o ≡ None
none_of None off = refl
none_of (Some a) off = absurd (false≢true (sym off))

is_not : (b : Bool) → not b ≡ true → b ≡ false
is_not true off = absurd (false≢true off)
is_not false off = refl

first_step : (t : Task) (h n : ℕ) (past : List Item) → 1 ≤ n → Legal (task_run t) (steps h n past) → may_step (task_run t) h past ≡ true
unfolding Legal
first_step t h zero past some legal = absurd (omega (arith, some))
first_step t h (suc zero) past some legal = legal.1
first_step t h (suc (suc n)) past some legal = first_step t h (suc n) past (omega arith) legal.0

pub ready : (s : StateValue) (h n : ℕ) (hart : HartState) → IsSound s → 1 ≤ n → Legal (task_run s.task) (steps h n s.past)
    → hart ≡ hart_of s.task.machine s.task.mode s.past h → IsReady s h hart
ready s h n hart sound some legal is =
    let run = task_run s.task in
    let may = first_step s.task h n s.past some legal in
    let there = first_true (is_there run h s.past) _ may in
    let runs_now = first_true (runs run h s.past) _ (rest_true (is_there run h s.past) _ may) in
    let asleep = run.guest.is_parked s.past h in
    let ended = run.guest.has_ended s.past h in
    record {
      low = there_low run h s.past there;
      awake = ap (λ (x : HartState). x.parked) is ∙ is_not asleep (first_true (not asleep) _ runs_now);
      running = none_of hart.ending (ap (λ (x : HartState). is_some x.ending) is
          ∙ is_not ended (first_true (not ended) _ (rest_true (not asleep) _ runs_now)));
      going_on = ap (λ (x : Shared). x.group) sound.order.shared ∙ none_of (world s.task.machine s.task.mode s.past).shared.group
          (is_not (run.guest.is_over s.past) (rest_true (not ended) _ (rest_true (not asleep) _ runs_now)));
    }

least : (harts limit : ℕ) → 1 ≤ harts → limit ≤ harts * limit
least zero limit some = absurd (omega (arith, some))
least (suc harts) limit some = grind arith

pub fits : (s : StateValue) (h n : ℕ) → IsSound s → Legal (task_run s.task) (steps h n s.past)
    → IfSome (joined_turn s.journal.entries (Turn h n)) IsSmall
fits s h n sound legal =
    let l = sound.limits in
    turns_fit s.task h n (stored_of s) l.some_step
    (omega (arith, l.steps, least s.task.machine.harts s.task.machine.limit l.some_hart)) sound.order legal

-- what stands behind the steps
pub record Behind (s : StateValue) (h n : ℕ) (items : List Item) (state : JournalState) (left : MemoryState) (kept : ServicesState)
    : Type 0 where
  pub past : items ≡ steps h n s.past
  pub journal : log state.entries ≡ steps h n (log s.journal.entries)
  pub shared : shared_of left kept ≡ (world s.task.machine s.task.mode (steps h n s.past)).shared
  pub memory : IsMemoryOf s.task.machine.image left
  pub places : harts_of left ≡ s.task.machine.harts
  pub starts : length kept.starts ≡ s.task.machine.harts

pub committed : (s : StateValue) (h n : ℕ) (past : List Item) (journal : JournalState) (memory : MemoryState) (services : ServicesState)
    → IsSound s → Legal (task_run s.task) (steps h n s.past) → takes_all (task_run s.task) h s.past ≡ true
    → Behind s h n past journal memory services
    → IsSound (record s { past = past; journal = journal; memory = memory; services = services })
committed s h n past journal memory services sound legal takes b =
    let now : StateValue = record s { past = past; journal = journal; memory = memory; services = services } in
    record {
      order = turns_keep_order s.task h n (stored_of s) (stored_of now) sound.order legal takes (record {
        past = b.past;
        journal = b.journal;
        shared = b.shared;
        plugins = refl;
        waiting = refl;
        parked = refl;
        harts = refl;
        closers = refl;
      });
      arriving = sound.arriving ∙ (sym (arrivals_stay (task_run s.task) h n s.past).0
          ∙ ap (arrivals (task_run s.task)) (sym b.past));
      limits = sound.limits;
      memory = b.memory;
      places = b.places;
      starts = b.starts;
      boxes = sound.boxes;
      closers = sound.closers;
      rooms = subst (λ (xs : List Item). HasRooms (task_run s.task) xs s.rooms) (sym b.past)
          (step_rooms (task_run s.task) h n s.past s.rooms sound.rooms);
      failed = sound.failed;
    }

-- Steps that the hart made by itself.

alone : (s : StateValue) (h n : ℕ) (hart after : HartState) → IsSound s → IsReady s h hart → hart ≡ hart_of s.task.machine s.task.mode s.past h
    → MovesAlone s.task.machine h n hart after → IsRunOf s.task.machine s.task.mode h n s.past
    (steps_of s.task.machine h n hart (world s.task.machine s.task.mode s.past).shared)
alone s h n hart after sound is_ready is moves =
    let m = s.task.machine in
    let w = world m s.task.mode s.past in
    subst (λ x. IsRunOf m s.task.mode h n s.past (steps_of m h n x w.shared)) (sym is) (runs_alone m s.task.mode h n s.past)

pub group_of : (s : StateValue) → IsSound s → s.services.group ≡ None → (world s.task.machine s.task.mode s.past).shared.group ≡ None
group_of s sound none = ap (λ (x : Shared). x.group) (sym sound.order.shared) ∙ none

pub moved_hart : (s : StateValue) (h n : ℕ) (hart after : HartState) → IsSound s → IsReady s h hart
    → hart ≡ hart_of s.task.machine s.task.mode s.past h → MovesAlone s.task.machine h n hart after
    → hart_of s.task.machine s.task.mode (steps h n s.past) h ≡ after
moved_hart s h n hart after sound is_ready is moves =
    (alone s h n hart after sound is_ready is moves).hart
    ∙ (moves (world s.task.machine s.task.mode s.past).shared (group_of s sound is_ready.going_on)).hart

pub moved_shared : (s : StateValue) (h n : ℕ) (hart after : HartState) → IsSound s → IsReady s h hart
    → hart ≡ hart_of s.task.machine s.task.mode s.past h → MovesAlone s.task.machine h n hart after
    → shared_of s.memory s.services ≡ (world s.task.machine s.task.mode (steps h n s.past)).shared
moved_shared s h n hart after sound is_ready is moves =
    sound.order.shared
    ∙ sym ((alone s h n hart after sound is_ready is moves).shared
    ∙ (moves (world s.task.machine s.task.mode s.past).shared (group_of s sound is_ready.going_on)).shared)

-- A step with what is shared.

-- the machine of the step is that of the run
pub of_run : (s : StateValue) (limit : ℕ) (image : Program) → IsSound s → image ≡ s.task.machine.image → limit ≡ s.task.machine.limit
    → machine_on image s.memory limit ≡ s.task.machine
of_run s limit image sound same within =
    ap (λ n. record { image = image; harts = n; limit = limit }) sound.places
    ∙ (ap (λ i. record { image = i; harts = s.task.machine.harts; limit = limit }) same
    ∙ ap (λ n. record { image = s.task.machine.image; harts = s.task.machine.harts; limit = n }) within)

-- what a step leaves of the hart and of what is shared
pub record Stands (s : StateValue) (h : ℕ) (new : HartState) (left : Shared) : Type 0 where
  pub hart : hart_of s.task.machine s.task.mode (Step h ∷ s.past) h ≡ new
  pub shared : (world s.task.machine s.task.mode (Step h ∷ s.past)).shared ≡ left

same_hart : (h : ℕ) → (h == h) ≡ true
same_hart h = grind (arith, nat_tests)

own_hart : (m : Machine) (w : World) (h : ℕ) → (step m w h).harts h ≡ (step_of m h (w.harts h) w.shared).hart
unfolding step
own_hart m w h = rw (same_hart h) refl

own_shared : (m : Machine) (w : World) (h : ℕ) → (step m w h).shared ≡ (step_of m h (w.harts h) w.shared).shared
unfolding step
own_shared m w h = refl

pub stands : (s : StateValue) (h : ℕ) (image : Program) (limit : ℕ) (old new : HartState) (left : Shared)
    (before after : List Event)
    → IsSound s → image ≡ s.task.machine.image → limit ≡ s.task.machine.limit
    → old ≡ hart_of s.task.machine s.task.mode s.past h
    → IsSharedStep (machine_on image s.memory limit) h old new (shared_of s.memory s.services) left before after
    → Stands s h new left
unfolding world
stands s h image limit old new left before after sound same within is step =
    let m = s.task.machine in
    let w = world m s.task.mode s.past in
    let made : step_of m h (w.harts h) w.shared ≡ record { hart = new; shared = left; events = step.given } =
    ap (λ (x : Shared). step_of m h (w.harts h) x) (sym sound.order.shared)
    ∙ (ap (λ (x : HartState). step_of m h x (shared_of s.memory s.services)) (sym is)
    ∙ (ap (λ (x : Machine). step_of x h old (shared_of s.memory s.services)) (sym (of_run s limit image sound same within))
    ∙ step.step)) in
    record {
      hart = own_hart m w h ∙ ap (λ (x : Stepped). x.hart) made;
      shared = own_shared m w h ∙ ap (λ (x : Stepped). x.shared) made;
    }

pub memory_stays : (image : Program) (old new : MemoryState) → KeepsLayout old new → IsMemoryOf image old → IsMemoryOf image new
memory_stays image old new layout is = layout.spans ∙ (is ∙ ap (spans_of image) (sym layout.harts))
