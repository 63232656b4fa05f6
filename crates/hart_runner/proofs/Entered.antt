-- A state into which a hart has entered: its asks, its Backs and the sets that it took stand in the log.
use Rattle.std.proofs.Common.{◌≡◌, ◌+◌, ◌-◌, ◌<◌, ◌≤◌, ◌∙◌, ℕ, zero, suc, true, false, List, None}
use Rattle.std.proofs.Common.{refl, sym, ap, subst, arith, inl, inr, length, nat_le}
use Rattle.std.specs.Prelude.{slice_index_or, replicate}
use Rattle.std.proofs.lemmas.Bool.{cases_Bool, false≢true, ltb-true, leb-true, leb-false}
use Rattle.flat_model.specs.declared.plugins.Ask.{Ask}
use Rattle.flat_model.specs.declared.plugins.Ask.TheVariants.{Stay}
use Rattle.flat_model.specs.Asks.{stays}
use Rattle.flat_model.specs.declared.plugins.SetSpec.{SetSpec}
use Rattle.flat_model.specs.declared.journals.Item.{Item}
use Rattle.flat_model.specs.declared.journals.Item.TheVariants.{Step, Ordered, GaveBack, Left, Told, Got, Took}
use Rattle.flat_model.specs.declared.journals.Origin.{Origin}
use Rattle.flat_model.specs.declared.journals.Origin.TheVariants.{Start, Script, Asked, Control}
use Rattle.flat_model.specs.Log.{party, giver, journaled, total_steps}
use Rattle.flat_model.specs.Registry.{Plugins, Plugin, plugin_of}
use Rattle.flat_model.specs.World.{HartState}
use Rattle.flat_model.specs.Worlds.{world}
use Rattle.rv_exec.specs.Sharing.{HasRoom}
use Rattle.baton_gate.specs.Logs.{GoesOn}
use Rattle.baton_gate.proofs.LogLemmas.{goes_nowhere, goes_on, goes_from}
use Rattle.watcher_api.specs.Acting.{ask_of}
use Rattle.watcher_api.specs.Attachment.{Attachment}
use Rattle.run_rules.specs.Guest.{plugins}
use Rattle.run_rules.specs.Heard.{is_live, waiting}
use Rattle.run_rules.specs.Due.{wanted}
use Rattle.run_rules.specs.Legal.{is_there, owes_any, asks_nothing}
use Rattle.run_rules.specs.Places.{is_with_hart, takes_all}
use Rattle.run_rules.proofs.Fitting.{beyond}
use Rattle.run_rules.proofs.Turns.{first_true}
use Rattle.run_order.specs.Sets.{sets_for}
use Rattle.run_order.specs.InOrder.{Task, InOrder, task_run}
use Rattle.kept_order.specs.Hearing.{specs_for}
use Rattle.kept_order.specs.Taking.{LittleIsChanged, StillHolds}
use Rattle.kept_order.proofs.Asked.{waits_dead}
use Rattle.kept_order.proofs.Leaves.{knows_harts}
use Rattle.kept_order.proofs.Ranges.{all_of}
use Rattle.host_state.specs.Asking.{IsFrom, IsAskedBy}
use Rattle.host_state.specs.Taking.{IsGotBy}
use Rattle.host_state.specs.State.{StateValue, IsCaughtUp, stored_of}
use Rattle.host_state.proofs.Gathering.{little_changed, holds_still}
use Rattle.hart_runner.specs.Seats.{IsBack, HasEntered, HasWritten}
use Rattle.hart_runner.specs.Entering.{IsBackBy, MayReturn, HasReturned}
use Rattle.hart_runner.proofs.GivingBacks.{few_plugins}
use Rattle.hart_runner.proofs.Logs.{IsNoStep, same_total, never_less}

-- a state in which a hart made room
abbrev pub IsPrepared : StateValue → StateValue → Type 0
IsPrepared old new = new ≡ record old { journal = new.journal; services = new.services }

-- a hart that is there is one of the run
pub of_run : (old new : StateValue) (h : ℕ) → IsPrepared old new → is_there (task_run old.task) h old.past ≡ true
    → h < new.task.machine.harts
of_run old new h rest there =
    let r = plugins (task_run old.task) old.past in
    omega (
      arith,
      ltb-true h r.harts (first_true _ _ there),
      (knows_harts (task_run old.task) old.past).harts,
      ap (λ (s : StateValue). s.task.machine.harts) rest,
    )

-- What is noted is what waits.

pub live_within : (r : Plugins) (p : ℕ) → 1 ≤ p → is_live (plugin_of r p).state ≡ true → p ≤ length r.plugins
live_within r p one live =
    elim (cases_Bool (nat_le p (length r.plugins))) [
      | inl low ↦ leb-true p (length r.plugins) low
      | inr high ↦
          absurd (false≢true (ap (λ (x : Plugin). is_live x.state)
          (sym (beyond r.plugins (p - 1) (omega (arith, leb-false p (length r.plugins) high)))) ∙ live))
    ]

pub as_noted : (old new : StateValue) (h : ℕ) (hart : HartState) (attached : List Attachment) (filters : List (ℕ × SetSpec)) (noted : List
    Ask)
    → IsPrepared old new → InOrder new.task (stored_of new) → IsBack old.task h old.past hart attached filters noted
    → (p : ℕ) → 1 ≤ p → is_live (plugin_of new.registry.table p).state ≡ true
    → ask_of p noted ≡ waiting (task_run new.task) p h new.past
as_noted old new h hart attached filters noted rest order back p one live =
    let task : new.task ≡ old.task = ap (λ (s : StateValue). s.task) rest in
    let past : new.past ≡ old.past = ap (λ (s : StateValue). s.past) rest in
    let lives : is_live (plugin_of (plugins (task_run new.task) new.past) p).state ≡ true =
    sym (ap (λ (r : Plugins). is_live (plugin_of r p).state) order.plugins) ∙ live in
    let most : p ≤ length (plugins (task_run new.task) new.past).plugins = live_within (plugins (task_run new.task) new.past) p one lives in
    let lived : is_live (plugin_of (plugins (task_run old.task) old.past) p).state ≡ true =
    sym (ap (λ (t : Task). is_live (plugin_of (plugins (task_run t) new.past) p).state) task
    ∙ ap (λ (xs : List Item). is_live (plugin_of (plugins (task_run old.task) xs) p).state) past) ∙ lives in
    back.asks p one (omega (arith, most, few_plugins new order)) lived
    ∙ sym (ap (λ (t : Task). waiting (task_run t) p h new.past) task
    ∙ ap (λ (xs : List Item). waiting (task_run old.task) p h xs) past)

-- What the hart added to the log.

from_own : (h : ℕ) (origin : Origin) → IsFrom h origin → giver origin ≡ h
from_own h Start is = absurd is
from_own h (Script line who) is = absurd is
from_own h (Asked hart plugin) is = is
from_own h (Control who) is = absurd is

asked_own : (h : ℕ) (i : Item) → IsAskedBy h i → party i ≡ h
asked_own h (Step hart) is = absurd is
asked_own h (Ordered origin order) is = from_own h origin is
asked_own h (GaveBack hart plugin) is = absurd is
asked_own h (Left hart) is = absurd is
asked_own h (Told who plugin) is = absurd is
asked_own h (Got hart plugin) is = absurd is
asked_own h (Took who plugin) is = absurd is

got_own : (h : ℕ) (i : Item) → IsGotBy h i → party i ≡ h
got_own h (Step hart) is = absurd is
got_own h (Ordered origin order) is = absurd is
got_own h (GaveBack hart plugin) is = absurd is
got_own h (Left hart) is = absurd is
got_own h (Told who plugin) is = absurd is
got_own h (Got hart plugin) is = is
got_own h (Took who plugin) is = absurd is

back_own : (h : ℕ) (i : Item) → IsBackBy h i → party i ≡ h
back_own h (Step hart) is = absurd is
back_own h (Ordered origin order) is = absurd is
back_own h (GaveBack hart plugin) is = is
back_own h (Left hart) is = absurd is
back_own h (Told who plugin) is = absurd is
back_own h (Got hart plugin) is = absurd is
back_own h (Took who plugin) is = absurd is

-- none of this is a step
asked_still : (h : ℕ) (i : Item) → IsAskedBy h i → IsNoStep i
asked_still h (Step hart) is = is
asked_still h (Ordered origin order) is = tt
asked_still h (GaveBack hart plugin) is = tt
asked_still h (Left hart) is = tt
asked_still h (Told who plugin) is = tt
asked_still h (Got hart plugin) is = tt
asked_still h (Took who plugin) is = tt

got_still : (h : ℕ) (i : Item) → IsGotBy h i → IsNoStep i
got_still h (Step hart) is = is
got_still h (Ordered origin order) is = tt
got_still h (GaveBack hart plugin) is = tt
got_still h (Left hart) is = tt
got_still h (Told who plugin) is = tt
got_still h (Got hart plugin) is = tt
got_still h (Took who plugin) is = tt

back_still : (h : ℕ) (i : Item) → IsBackBy h i → IsNoStep i
back_still h (Step hart) is = is
back_still h (Ordered origin order) is = tt
back_still h (GaveBack hart plugin) is = tt
back_still h (Left hart) is = tt
back_still h (Told who plugin) is = tt
back_still h (Got hart plugin) is = tt
back_still h (Took who plugin) is = tt

-- what the asks leave
pub record HasAsked (h : ℕ) (old new : StateValue) : Type 0 where
  pub asked : GoesOn (IsAskedBy h) old.past new.past
  pub rest : new ≡ record old { past = new.past; journal = new.journal; registry = new.registry }
  pub world : world new.task.machine new.task.mode new.past ≡ world old.task.machine old.task.mode old.past
  pub room : old.journal.spare ≤ new.journal.spare + 8

-- what the Backs leave
pub record HasOwedNothing (h : ℕ) (old new : StateValue) (sets : List Attachment) (specs : List (ℕ × SetSpec)) : Type 0 where
  pub may : MayReturn h new sets specs
  pub returned : HasReturned h old new
  pub owes_none : owes_any (task_run new.task) h new.past ≡ false
  pub room : old.journal.spare ≤ new.journal.spare + 8

-- what the sets that came leave
pub record HasTaken (h : ℕ) (old new : StateValue) (sets : List Attachment) (specs : List (ℕ × SetSpec)) : Type 0 where
  pub gots : GoesOn (IsGotBy h) old.past new.past
  pub rest : new ≡ record old { past = new.past; waiting = new.waiting; arriving = new.arriving }
  pub attached : sets ≡ sets_for is_with_hart (task_run new.task) h new.past
  pub filters : specs ≡ specs_for (task_run new.task) h new.past
  pub all : takes_all (task_run new.task) h new.past ≡ true

pub entered : (h : ℕ) (first prepared asked returned now : StateValue) (before : List Attachment) (filters : List (ℕ × SetSpec))
    (sets : List Attachment) (specs : List (ℕ × SetSpec)) → IsPrepared first prepared → 32 ≤ prepared.journal.spare
    → HasRoom prepared.services → HasAsked h prepared asked → HasOwedNothing h asked returned before filters
    → HasTaken h returned now sets specs → HasEntered h first.past now sets specs
entered h first prepared asked returned now before filters sets specs rest room output asks backs takes =
    let is = λ (i : Item). party i ≡ h in
    let task : now.task ≡ returned.task = ap (λ (s : StateValue). s.task) takes.rest in
    let little : LittleIsChanged returned.task returned.past now.past = little_changed returned.task h returned.past now.past takes.gots in
    let still : StillHolds returned.task h returned.past now.past = holds_still returned.task h returned.past now.past takes.gots in
    let was = ap (λ (s : StateValue). s.past) rest in
    let all_tasks : now.task ≡ first.task =
    task ∙ ap (λ (s : StateValue). s.task) backs.returned.rest ∙ ap (λ (s : StateValue). s.task) asks.rest
    ∙ ap (λ (s : StateValue). s.task) rest in
    let services : now.services ≡ prepared.services =
    ap (λ (s : StateValue). s.services) takes.rest ∙ ap (λ (s : StateValue). s.services) backs.returned.rest
    ∙ ap (λ (s : StateValue). s.services) asks.rest in
    record {
      own = goes_from is prepared.past first.past now.past
          (goes_on is (IsGotBy h) is prepared.past returned.past now.past
          (goes_on (IsAskedBy h) (IsBackBy h) is prepared.past asked.past returned.past asks.asked backs.returned.backs (asked_own h)
          (back_own h))
          takes.gots (λ i own. own) (got_own h)) was;
      total = same_total (IsGotBy h) (got_still h) returned.past now.past takes.gots
          ∙ same_total (IsBackBy h) (back_still h) asked.past returned.past backs.returned.backs
          ∙ same_total (IsAskedBy h) (asked_still h) prepared.past asked.past asks.asked ∙ ap total_steps was;
      there = ap (λ (t : Task). is_there (task_run t) h now.past) task ∙ still.there backs.may.there;
      owes_none = ap (λ (t : Task). owes_any (task_run t) h now.past) task ∙ still.owes_none backs.owes_none;
      asks_nothing = ap (λ (t : Task). asks_nothing (task_run t) h now.past) task ∙ still.asks_nothing backs.may.quiet;
      caught_up = ap (λ (t : Task). wanted (task_run t) now.past) task ∙ little.wanted ∙ backs.may.caught_up;
      takes_all = takes.all;
      sets = takes.attached;
      specs = takes.filters;
      world = ap (λ (t : Task). world t.machine t.mode now.past) task ∙ little.world ∙ backs.returned.world ∙ asks.world
          ∙ ap (λ (t : Task). world t.machine t.mode prepared.past) (ap (λ (s : StateValue). s.task) rest)
          ∙ ap (λ (xs : List Item). world first.task.machine first.task.mode xs) was
          ∙ sym (ap (λ (t : Task). world t.machine t.mode first.past) all_tasks);
      open_now = ap (λ (s : StateValue). s.short) takes.rest ∙ backs.may.open_now;
      room = omega (arith, room, asks.room, backs.room, ap (λ (s : StateValue). s.journal.spare) takes.rest);
      output = subst HasRoom (sym services) output;
    }

-- where it gave something back, an entry was added
pub wrote : (h : ℕ) (first prepared asked returned now : StateValue) → IsPrepared first prepared → HasAsked h prepared asked
    → GoesOn (IsGotBy h) returned.past now.past → HasWritten asked.past returned.past → HasWritten first.past now.past
wrote h first prepared asked returned now rest asks gots is =
    omega (
      arith,
      is,
      never_less (IsGotBy h) returned.past now.past gots,
      never_less (IsAskedBy h) prepared.past asked.past asks.asked,
      ap (λ (s : StateValue). length (journaled s.past)) rest,
    )

-- A parked hart, which asks for nothing.

at_replicate : (n i : ℕ) → slice_index_or (replicate n Stay) i Stay ≡ Stay
at_replicate zero i = refl
at_replicate (suc n) zero = refl
at_replicate (suc n) (suc i) = at_replicate n i

pub quiet_noted : (noted : List Ask) (p : ℕ) → noted ≡ replicate 8 Stay → ask_of p noted ≡ Stay
quiet_noted noted p none = ap (ask_of p) none ∙ at_replicate 8 (p - 1)

wants_none : (s : StateValue) → s.short ≡ false → IsCaughtUp s → wanted (task_run s.task) s.past ≡ None
wants_none s open_now (inl short) = absurd (false≢true (sym open_now ∙ short))
wants_none s open_now (inr none) = none

pub asks_none : (old new : StateValue) (h : ℕ) (hart : HartState) (attached : List Attachment) (filters : List (ℕ × SetSpec))
    (noted : List Ask) → IsPrepared old new → InOrder new.task (stored_of new)
    → IsBack old.task h old.past hart attached filters noted → noted ≡ replicate 8 Stay
    → asks_nothing (task_run new.task) h new.past ≡ true
asks_none old new h hart attached filters noted rest order back none =
    let run = task_run new.task in
    let r = plugins run new.past in
    all_of (λ p. stays (waiting run p h new.past)) 1 (length r.plugins) (λ p one most.
    elim (cases_Bool (is_live (plugin_of r p).state)) [
      | inl live ↦
          let lives : is_live (plugin_of new.registry.table p).state ≡ true =
          ap (λ (x : Plugins). is_live (plugin_of x p).state) order.plugins ∙ live in
          ap stays (sym (as_noted old new h hart attached filters noted rest order back p one lives) ∙ quiet_noted noted p none)
      | inr dead ↦ ap stays (waits_dead run p h new.past dead)
    ])

pub may_return : (old new : StateValue) (h : ℕ) (hart : HartState) (attached : List Attachment) (filters : List (ℕ × SetSpec))
    (noted : List Ask) → IsPrepared old new → old.short ≡ false → IsCaughtUp old → InOrder new.task (stored_of new)
    → IsBack old.task h old.past hart attached filters noted → noted ≡ replicate 8 Stay → MayReturn h new attached filters
may_return old new h hart attached filters noted rest open_now caught_up order back none =
    let task : new.task ≡ old.task = ap (λ (s : StateValue). s.task) rest in
    let past : new.past ≡ old.past = ap (λ (s : StateValue). s.past) rest in
    let there : is_there (task_run new.task) h new.past ≡ is_there (task_run old.task) h old.past =
    ap (λ (t : Task). is_there (task_run t) h new.past) task ∙ ap (λ (xs : List Item). is_there (task_run old.task) h xs) past in
    let wants : wanted (task_run new.task) new.past ≡ wanted (task_run old.task) old.past =
    ap (λ (t : Task). wanted (task_run t) new.past) task ∙ ap (λ (xs : List Item). wanted (task_run old.task) xs) past in
    let sets : sets_for is_with_hart (task_run new.task) h new.past ≡ sets_for is_with_hart (task_run old.task) h old.past =
    ap (λ (t : Task). sets_for is_with_hart (task_run t) h new.past) task
    ∙ ap (λ (xs : List Item). sets_for is_with_hart (task_run old.task) h xs) past in
    let specs : specs_for (task_run new.task) h new.past ≡ specs_for (task_run old.task) h old.past =
    ap (λ (t : Task). specs_for (task_run t) h new.past) task ∙ ap (λ (xs : List Item). specs_for (task_run old.task) h xs) past in
    record {
      open_now = ap (λ (s : StateValue). s.short) rest ∙ open_now;
      there = there ∙ back.there;
      quiet = asks_none old new h hart attached filters noted rest order back none;
      caught_up = wants ∙ wants_none old open_now caught_up;
      sets = back.sets ∙ sym sets;
      specs = back.specs ∙ sym specs;
    }

pub no_asks : (h : ℕ) (s : StateValue) → HasAsked h s s
no_asks h s = record { asked = goes_nowhere (IsAskedBy h) s.past; rest = refl; world = refl; room = omega arith }

-- where nothing was given back, sets came and nothing else
pub only_gots : (h : ℕ) (first prepared returned now : StateValue) → IsPrepared first prepared → returned ≡ prepared
    → GoesOn (IsGotBy h) returned.past now.past → GoesOn (IsGotBy h) first.past now.past
only_gots h first prepared returned now rest same gots =
    goes_from (IsGotBy h) returned.past first.past now.past gots
    (ap (λ (s : StateValue). s.past) same ∙ ap (λ (s : StateValue). s.past) rest)
