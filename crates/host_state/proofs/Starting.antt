-- The state before any item, and once the plan's installs stand.
use Rattle.std.proofs.Common.{◌≡◌, ◌≤◌, ◌<◌, ◌+◌, ◌-◌, ◌*◌, ◌∙◌, ◌∷◌, ◌++◌, ℕ, false, [], List, length, map, take, get_or, replicate}
use Rattle.std.proofs.Common.{Option, Some, None, refl, sym, ap, subst, arith}
use Rattle.std.specs.Prelude.{slice_get, option_map}
use Rattle.std.specs.Option.{option_and_then}
use Rattle.std.proofs.lemmas.List.{length-replicate, length-take-le, map_more, map-append, length_push, take_all}
use Rattle.std.proofs.lemmas.Option.{slice_get_read}
use Rattle.flat_model.specs.declared.plugins.SetSpec.{SetSpec}
use Rattle.flat_model.specs.declared.journals.Entry.{Entry}
use Rattle.flat_model.specs.declared.journals.Item.{Item}
use Rattle.flat_model.specs.declared.journals.Item.TheVariants.{Ordered}
use Rattle.flat_model.specs.declared.journals.Order.TheVariants.{Install}
use Rattle.flat_model.specs.declared.journals.Origin.{Origin}
use Rattle.flat_model.specs.declared.journals.Origin.TheVariants.{Start}
use Rattle.flat_model.specs.Acts.{calling}
use Rattle.flat_model.specs.Log.{log, log_from, with_entry}
use Rattle.flat_model.specs.declared.limits.TheConstants.{PLUGINS_MOST, RACK_BOXES}
use Rattle.flat_model.specs.Permission.{spans_of}
use Rattle.flat_model.specs.Registry.{Plugins, registry, no_plugins, refusal, after_order}
use Rattle.flat_model.specs.World.{opening_shared}
use Rattle.guest_memory.specs.Memory.{MemoryState, harts_of, IsOpening}
use Rattle.rv_exec.specs.Sharing.{ServicesState, AreOpening, shared_of, IsMemoryOf}
use Rattle.run_order.specs.InOrder.{Task, InOrder, task_run}
use Rattle.kept_order.specs.Opening.{opening_state}
use Rattle.kept_order.specs.Arriving.{arrivals}
use Rattle.kept_order.proofs.Openings.{opens_in_order, installs_keep_order, next_installs_stand}
use Rattle.kept_order.proofs.Arrivals.{installs_arrive}
use Rattle.kept_order.proofs.Gone.{as_many}
use Rattle.plug_registry.specs.Installs.{start_order, after_installs, refusal_at}
use Rattle.plug_registry.proofs.Allowed.{may_install}
use Rattle.watcher_api.specs.Attachment.{opening}
use Rattle.run_rules.specs.Guest.{plugins}
use Rattle.run_rules.specs.Due.{start_orders}
use Rattle.run_rules.specs.Legal.{Legal}
use Rattle.host_state.specs.Rooms.{HasRooms, AddsRoom}
use Rattle.host_state.proofs.RoomKeeping.{no_rooms, install_rooms}
use Rattle.host_state.specs.Starting.{HasStarted}
use Rattle.host_state.proofs.AllowedSets.{IsAttachable, install_attachable}
use Rattle.host_state.specs.State.{StateValue, stored_of, IsWithinLimits, IsSound}

-- The state before any item.

-- a list of which each item is seen as something else, with one item more
pub pushed : {A B : Type 0} (f : A → B) (xs now : List A) (x : A) (y : B) → now ≡ xs ++ x ∷ [] → f x ≡ y → map f now ≡ map f xs ++ y ∷ []
pushed f xs now x y more is = ap (map f) more ∙ map-append f xs (x ∷ []) ∙ ap (λ z. map f xs ++ z ∷ []) is

-- a closer without notices
pub untold : {A B D : Type 0} (f : A → List B) (g : B → D) (o : Option A) → option_map f o ≡ Some []
    → option_map (λ a. map g (f a)) o ≡ Some []
untold f g None none = cc
untold f g (Some a) none = let empty : f a ≡ [] = cc in ap (λ bs. Some (map g bs)) empty

pub map_none : {A B : Type 0} (f : A → B) (xs : List A) → xs ≡ [] → map f xs ≡ []
map_none f xs none = ap (map f) none

-- no plug-in, no set, no hart that has left or failed; the rack is full
pub record IsUntouched (s : StateValue) : Type 0 where
  pub limits : IsWithinLimits s.task.machine
  pub memory : IsOpening s.task.machine.image s.task.machine.harts s.memory
  pub services : AreOpening s.task.machine.image s.task.mode s.task.machine.harts s.services
  pub table : s.registry.table ≡ no_plugins s.task.machine.harts RACK_BOXES
  pub entries : s.journal.entries ≡ []
  pub past : s.past ≡ []
  pub waiting : s.waiting ≡ []
  pub arriving : s.arriving ≡ []
  pub parked : s.parked ≡ []
  pub harts : s.harts ≡ replicate s.task.machine.harts None
  pub closers : s.closers ≡ []
  pub rooms : s.rooms ≡ []
  pub boxes : RACK_BOXES ≤ s.boxes
  pub spare_closers : PLUGINS_MOST ≤ s.spare_closers
  pub failed : s.failed ≡ replicate s.task.machine.harts false

shared_opens : (s : StateValue) → IsUntouched s
    → shared_of s.memory s.services ≡ opening_shared s.task.machine.image s.task.mode s.task.machine.harts
shared_opens s u =
    let bytes = u.memory.bytes in
    let reserved = u.memory.reserved in
    let output = u.services.output in
    let group = u.services.group in
    let starts = u.services.starts in
    cc

opens : (s : StateValue) → IsUntouched s → stored_of s ≡ opening_state s.task
opens s u =
    let shared = shared_opens s u in
    let table = u.table in
    let entries = u.entries in
    let past = u.past in
    let waiting = u.waiting in
    let parked = u.parked in
    let harts = u.harts in
    let closers = u.closers in
    cc

none_arrives : (s : StateValue) → arrivals (task_run s.task) [] ≡ []
unfolding registry
none_arrives s = refl

pub untouched_is_sound : (s : StateValue) → IsUntouched s → IsSound s
untouched_is_sound s u =
    let boxes : s.registry.table.boxes ≡ RACK_BOXES = ap (λ (r : Plugins). r.boxes) u.table in
    record {
      order = subst (InOrder s.task) (sym (opens s u)) (opens_in_order s.task);
      arriving = u.arriving ∙ sym (ap (arrivals (task_run s.task)) u.past ∙ none_arrives s);
      limits = u.limits;
      memory = u.memory.spans ∙ ap (spans_of s.task.machine.image) (sym u.memory.count);
      places = u.memory.count;
      starts = u.services.count;
      boxes = omega (arith, boxes, u.boxes);
      closers = omega (arith, u.spare_closers);
      rooms = subst (λ (xs : List Item). HasRooms (task_run s.task) xs s.rooms) (sym u.past)
          (subst (HasRooms (task_run s.task) []) (sym u.rooms) (no_rooms (task_run s.task)));
      failed = ap length u.failed ∙ length-replicate s.task.machine.harts false;
    }

-- The installs of the plan.

log_more : (past : List Item) (es : List Entry) (e : Entry) → log_from past (es ++ e ∷ []) ≡ with_entry e (log_from past es)
log_more past [] e = refl
log_more past (x ∷ es) e = log_more (with_entry x past) es e

-- the log of one install more
one_more : (installs : List SetSpec) (i : ℕ) (spec : SetSpec) → i < length installs → spec ≡ get_or installs i spec
    → log (map start_order (take (i + 1) installs)) ≡ Ordered Start (Install spec) ∷ log (map start_order (take i installs))
one_more installs i spec there is =
    ap log (map_more start_order installs i spec there ∙ ap (λ s. map start_order (take i installs) ++ start_order s ∷ []) (sym is))
    ∙ log_more [] (map start_order (take i installs)) (start_order spec)

start_orders_from : (past : List Item) (specs : List SetSpec)
    → start_orders (log_from past (map start_order specs)) ≡ start_orders past + length specs
unfolding start_orders
start_orders_from past [] = omega arith
start_orders_from past (spec ∷ specs) = let more = start_orders_from (Ordered Start (Install spec) ∷ past) specs in omega (arith, more)

pub start_orders_of : (specs : List SetSpec) → start_orders (log (map start_order specs)) ≡ length specs
unfolding start_orders
start_orders_of specs = let all = start_orders_from [] specs in omega (arith, all)

-- the plan's install of an index comes next, and the registry allows it
pub record IsNext (s : StateValue) (i : ℕ) (spec : SetSpec) : Type 0 where
  pub started : HasStarted s.task i s
  pub there : i < length s.task.plan.installs
  pub is : spec ≡ get_or s.task.plan.installs i spec
  pub allowed : refusal s.registry.table (Install spec) ≡ None
  pub number : length s.registry.table.plugins + 1 ≤ 8
  pub attachable : IsAttachable spec
  pub boxes : s.task.machine.harts * calling spec.subs ≤ s.boxes
  pub closer : 0 < s.spare_closers

-- the run has as many harts as its registry
as_placed : (s : StateValue) → IsSound s → s.registry.table.harts ≡ s.task.machine.harts
as_placed s sound = ap (λ (r : Plugins). r.harts) sound.order.plugins ∙ as_many (task_run s.task) s.past

allowed_now : (s : StateValue) (i : ℕ) (spec : SetSpec) → IsSound s → HasStarted s.task i s → i < length s.task.plan.installs
    → spec ≡ get_or s.task.plan.installs i spec → refusal_at s.task.machine.harts s.task.plan.installs i ≡ None
    → refusal s.registry.table (Install spec) ≡ None
unfolding refusal_at
allowed_now s i spec sound started there is allowed =
    let harts = s.task.machine.harts in
    let installs = s.task.plan.installs in
    let next : slice_get installs i ≡ Some spec = slice_get_read installs (length installs) i spec refl there is in
    ap (λ (r : Plugins). refusal r (Install spec)) (sound.order.plugins ∙ ap (plugins (task_run s.task)) started.past)
    ∙ sym (ap (option_and_then (λ x. refusal (after_installs harts (take i installs)) (Install x))) next)
    ∙ allowed

-- of a copy, seen from the value of the whole state
pub is_next : (whole s : StateValue) (i : ℕ) (spec given : SetSpec) → s ≡ whole → HasStarted whole.task i whole
    → i < length whole.task.plan.installs → refusal_at whole.task.machine.harts whole.task.plan.installs i ≡ None
    → IsSound s → given ≡ get_or s.task.plan.installs i given → spec ≡ given → IsNext s i spec
is_next whole s i spec given view started there allowed sound is copy =
    let begun : HasStarted s.task i s = subst (λ (x : StateValue). HasStarted x.task i x) (sym view) started in
    let below : i < length s.task.plan.installs = subst (λ (x : StateValue). i < length x.task.plan.installs) (sym view) there in
    let may : refusal_at s.task.machine.harts s.task.plan.installs i ≡ None =
    subst (λ (x : StateValue). refusal_at x.task.machine.harts x.task.plan.installs i ≡ None) (sym view) allowed in
    let at : spec ≡ get_or s.task.plan.installs i spec = subst (λ (x : SetSpec). x ≡ get_or s.task.plan.installs i x) (sym copy) is in
    let free = allowed_now s i spec sound begun below at may in
    let room = may_install s.registry.table spec free in
    let taken : s.registry.table.harts * calling spec.subs ≡ s.task.machine.harts * calling spec.subs =
    ap (λ (n : ℕ). n * calling spec.subs) (as_placed s sound) in
    record {
      started = begun;
      there = below;
      is = at;
      allowed = free;
      number = omega (arith, room.few);
      attachable = install_attachable s.registry.table spec free;
      boxes = omega (arith, room.boxes, taken, sound.boxes);
      closer = omega (arith, room.few, sound.closers);
    }

-- the install stands in all that the state holds
pub record IsStarted (origin : Origin) (spec : SetSpec) (old new : StateValue) : Type 0 where
  pub task : new.task ≡ old.task
  pub memory : new.memory ≡ old.memory
  pub services : new.services ≡ old.services
  pub table : new.registry.table ≡ after_order (Install spec) old.registry.table
  pub journal : log new.journal.entries ≡ Ordered origin (Install spec) ∷ log old.journal.entries
  pub past : new.past ≡ Ordered origin (Install spec) ∷ old.past
  pub waiting : new.waiting
      ≡ old.waiting ++ replicate old.task.machine.harts (Some (opening (length old.registry.table.plugins + 1) spec)) ∷ []
  pub arriving : new.arriving ≡ old.arriving ++ replicate old.task.machine.harts (Some spec) ∷ []
  pub parked : new.parked ≡ old.parked ++ replicate old.task.machine.harts None ∷ []
  pub harts : new.harts ≡ old.harts
  pub closers : new.closers ≡ old.closers ++ Some [] ∷ []
  pub rooms : AddsRoom old.task.machine.harts old.rooms new.rooms
  pub boxes : new.boxes + old.task.machine.harts * calling spec.subs ≡ old.boxes
  pub spare_closers : new.spare_closers + 1 ≡ old.spare_closers
  pub failed : new.failed ≡ old.failed

stands : (s : StateValue) (i : ℕ) (spec : SetSpec) → IsSound s → IsNext s i spec
    → Legal (task_run s.task) (Ordered Start (Install spec) ∷ s.past)
stands s i spec sound next =
    let installs = s.task.plan.installs in
    let few : i ≤ length installs = omega (arith, next.there) in
    let count : start_orders s.past ≡ i =
    ap start_orders next.started.past ∙ start_orders_of (take i installs) ∙ length-take-le i installs few in
    let here : slice_get installs i ≡ Some spec = slice_get_read installs (length installs) i spec refl next.there next.is in
    next_installs_stand (task_run s.task) spec s.past sound.order.legal (ap (slice_get installs) count ∙ here)
    (ap (λ (r : Plugins). refusal r (Install spec)) (sym sound.order.plugins) ∙ next.allowed)

-- whoever gave its order
pub installed_is_sound : (old new : StateValue) (origin : Origin) (spec : SetSpec) → IsSound old
    → Legal (task_run old.task) (Ordered origin (Install spec) ∷ old.past) → IsStarted origin spec old new → IsSound new
installed_is_sound old new origin spec sound legal s =
    let run = task_run old.task in
    let harts = old.task.machine.harts in
    let same = sym s.task in
    let harts_same : harts ≡ new.task.machine.harts = ap (λ (t : Task). t.machine.harts) same in
    let table : new.registry.table.boxes ≡ old.registry.table.boxes - old.registry.table.harts * calling spec.subs =
    ap (λ (r : Plugins). r.boxes) s.table in
    let taken : old.registry.table.harts * calling spec.subs ≡ harts * calling spec.subs =
    ap (λ (n : ℕ). n * calling spec.subs) (as_placed old sound) in
    let count : length new.registry.table.plugins ≡ length old.registry.table.plugins + 1 =
    ap (λ (r : Plugins). length r.plugins) s.table ∙ length_push old.registry.table.plugins _ in
    let order : InOrder old.task (stored_of new) =
    installs_keep_order old.task origin spec (stored_of old) (stored_of new) sound.order legal (record {
      past = s.past;
      journal = s.journal;
      shared = ap (λ (m : MemoryState). shared_of m new.services) s.memory ∙ ap (shared_of old.memory) s.services;
      plugins = s.table;
      waiting = s.waiting;
      parked = s.parked;
      harts = s.harts;
      closers = s.closers;
    }) in
    let memory : IsMemoryOf old.task.machine.image new.memory =
    subst (IsMemoryOf old.task.machine.image) (sym s.memory) sound.memory in
    record {
      order = subst (λ (t : Task). InOrder t (stored_of new)) same order;
      arriving = s.arriving ∙ ap (λ rows. rows ++ replicate harts (Some spec) ∷ []) sound.arriving
          ∙ sym (installs_arrive run origin spec old.past legal sound.order.state_log)
          ∙ ap (arrivals run) (sym s.past) ∙ ap (λ (t : Task). arrivals (task_run t) new.past) same;
      limits = subst (λ (t : Task). IsWithinLimits t.machine) same sound.limits;
      memory = subst (λ (t : Task). IsMemoryOf t.machine.image new.memory) same memory;
      places = ap harts_of s.memory ∙ sound.places ∙ harts_same;
      starts = ap (λ (v : ServicesState). length v.starts) s.services ∙ sound.starts ∙ harts_same;
      boxes = omega (arith, table, taken, s.boxes, sound.boxes);
      closers = omega (arith, count, s.spare_closers, sound.closers);
      rooms = subst (λ (t : Task). HasRooms (task_run t) new.past new.rooms) same
          (subst (λ (xs : List Item). HasRooms run xs new.rooms) (sym s.past)
          (subst (HasRooms run (Ordered origin (Install spec) ∷ old.past)) (sym s.rooms.is)
          (install_rooms run origin spec old.past old.rooms s.rooms.room s.rooms.fits sound.rooms)));
      failed = ap length s.failed ∙ sound.failed ∙ harts_same;
    }

pub started_is_sound : (old new : StateValue) (i : ℕ) (spec : SetSpec) → IsSound old → IsNext old i spec
    → IsStarted Start spec old new → IsSound new
started_is_sound old new i spec sound next s = installed_is_sound old new Start spec sound (stands old i spec sound next) s

-- and one install more of the plan stands
pub started_more : (whole old new : StateValue) (i : ℕ) (spec : SetSpec) → old ≡ whole → IsNext old i spec → new.task ≡ old.task
    → new.past ≡ Ordered Start (Install spec) ∷ old.past → new.short ≡ old.short → HasStarted whole.task (i + 1) new
started_more whole old new i spec view next task past short =
    let started : HasStarted old.task (i + 1) new = record {
      task = task;
      past = past ∙ ap (λ (xs : List Item). Ordered Start (Install spec) ∷ xs) next.started.past
          ∙ sym (one_more old.task.plan.installs i spec next.there next.is);
      recording = short ∙ next.started.recording;
    } in
    subst (λ (s : StateValue). HasStarted s.task (i + 1) new) view started

-- once all stand
pub all_installed : (t : Task) (n : ℕ) (s : StateValue) → HasStarted t n s → length t.plan.installs ≤ n
    → s.past ≡ log (map start_order s.task.plan.installs)
all_installed t n s started all =
    started.past ∙ ap (λ (specs : List SetSpec). log (map start_order specs))
    (take_all n t.plan.installs all ∙ ap (λ (x : Task). x.plan.installs) (sym started.task))
