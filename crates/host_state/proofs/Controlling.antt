-- The state as an order stands in it.
use Rattle.std.proofs.Common.{◌≡◌, ◌≤◌, ◌<◌, ◌+◌, ◌-◌, ◌*◌, ◌∷◌, ◌∙◌, ℕ, true, false, not, List, Option, Some, None, length}
use Rattle.std.proofs.Common.{refl, sym, ap, subst, arith, map, replicate}
use Rattle.std.specs.Prelude.{is_some, ◌&&◌, nat_lt, nat_le, slice_set, Vec, vec_len}
use Rattle.std.specs.Prelude.{Result, Ok, Err, OnErr}
use Rattle.std.specs.Global.{Global}
use Rattle.std.specs.List.Sorted.{IsNonDecreasingBy}
use Rattle.std.proofs.lemmas.List.{map-set, length-set, length-map}
use Rattle.std.proofs.lemmas.Bool.Decides.{nat_tests}
use Rattle.flat_model.specs.declared.plugins.SetSpec.{SetSpec}
use Rattle.flat_model.specs.declared.limits.TheConstants.{PLUGINS_MOST}
use Rattle.flat_model.specs.Acts.{calling}
use Rattle.flat_model.specs.declared.journals.Entry.{Entry}
use Rattle.flat_model.specs.declared.journals.Item.{Item}
use Rattle.flat_model.specs.declared.journals.Item.TheVariants.{Ordered}
use Rattle.flat_model.specs.declared.journals.Order.{Order}
use Rattle.flat_model.specs.declared.journals.Order.TheVariants.{Install, Register, Reset, Uninstall}
use Rattle.flat_model.specs.declared.journals.Origin.{Origin}
use Rattle.flat_model.specs.declared.journals.Origin.TheVariants.{Control}
use Rattle.flat_model.specs.Log.{log}
use Rattle.flat_model.specs.Registry.{Plugins, refusal, after_order, is_hart}
use Rattle.plug_registry.specs.State.{RegistryState}
use Rattle.run_journal.specs.Journal.{JournalState}
use Rattle.run_rules.specs.Guest.{plugins}
use Rattle.run_rules.specs.Due.{wanted}
use Rattle.run_rules.specs.Legal.{Legal}
use Rattle.run_order.specs.InOrder.{Task, InOrder, task_run}
use Rattle.run_order.specs.Sets.{Notice}
use Rattle.kept_order.specs.Ordering.{IsWithdrawal}
use Rattle.kept_order.proofs.Orders.{withdrawals_keep_order, same_long, withdrawal_names}
use Rattle.kept_order.proofs.Orders.{registrations_keep_order}
use Rattle.kept_order.proofs.Withdrawals.{plugins_are_few}
use Rattle.kept_order.proofs.Gone.{as_many}
use Rattle.plug_registry.proofs.Allowed.{may_install, may_register}
use Rattle.watcher_api.specs.Attachment.{Attachment, opening}
use Rattle.kept_order.proofs.Unplanned.{unplanned_orders_pass_nothing_by}
use Rattle.host_state.specs.Ordering.{IsAsBefore, ChangesByOrder}
use Rattle.host_state.specs.Rooms.{Room, IsRoomFor, HasRooms}
use Rattle.host_state.proofs.RoomKeeping.{withdrawn_rooms, register_rooms}
use Rattle.host_state.proofs.AllowedSets.{IsAttachable, install_attachable, register_attachable}
use Rattle.host_state.proofs.Shelved.{waiting_long}
use Rattle.host_state.specs.State.{StateValue, IsSound, stored_of}

-- an order may stand, and the registry allows it
pub record MayControl (s : StateValue) (origin : Origin) (order : Order) : Type 0 where
  pub legal : Legal (task_run s.task) (Ordered origin order ∷ s.past)
  pub allowed : refusal s.registry.table order ≡ None

-- seen from the value of the state's parts
pub may_control : (was s : StateValue) (origin : Origin) (order : Order) → s ≡ was
    → Legal (task_run was.task) (Ordered origin order ∷ was.past) → refusal was.registry.table order ≡ None → MayControl s origin order
may_control was s origin order is legal allowed =
    subst (λ (v : StateValue). MayControl v origin order) (sym is) (record { legal = legal; allowed = allowed })

-- a controller's order that the registry allows, where the plan wants nothing and the party is no hart
pub control_stands : (was s : StateValue) (party : ℕ) (order : Order) → s ≡ was → IsSound s → wanted (task_run was.task) was.past ≡ None
    → is_hart was.registry.table party ≡ false → refusal was.registry.table order ≡ None
    → Legal (task_run was.task) (Ordered (Control party) order ∷ was.past)
unfolding Legal
control_stands was s party order is sound none outside free =
    let same : was.registry.table ≡ plugins (task_run was.task) was.past =
    subst (λ (v : StateValue). v.registry.table ≡ plugins (task_run v.task) v.past) is sound.order.plugins in (
      subst (λ (v : StateValue). Legal (task_run v.task) v.past) is sound.order.legal,
      record {
        allowed = ap (λ (r : Plugins). not (is_some (refusal r order))) (sym same) ∙ ap (λ o. not (is_some o)) free;
        given = (ap (λ o. not (is_some o)) none, ap (λ (r : Plugins). is_hart r party) (sym same) ∙ outside);
      },
    )

-- Want of memory: room was taken, and nothing else changed.

pub same_map : {A B : Type 0} (f : A → B) (xs now : List A) → now ≡ xs → map f now ≡ map f xs
same_map f xs now is = ap (map f) is

pub as_before : (was s : StateValue) (registry : RegistryState) (journal : JournalState) (waiting : List (List (Option Attachment)))
    (arriving : List (List (Option SetSpec))) (parked : List (List (Option Attachment))) (closers : List (Option (List Notice)))
    (rooms : List Room) → s ≡ was → registry.table ≡ s.registry.table → journal.entries ≡ s.journal.entries
    → waiting ≡ s.waiting → arriving ≡ s.arriving → parked ≡ s.parked → closers ≡ s.closers → rooms ≡ s.rooms
    → IsAsBefore was (record s {
      registry = registry;
      journal = journal;
      waiting = waiting;
      arriving = arriving;
      parked = parked;
      closers = closers;
      rooms = rooms;
    })
as_before was s registry journal waiting arriving parked closers rooms is table entries waits arrives parks closed roomed = record {
  rest = cc;
  table = table ∙ ap (λ (v : StateValue). v.registry.table) is;
  entries = entries ∙ ap (λ (v : StateValue). v.journal.entries) is;
}

pub roomier_is_sound : (s new : StateValue) → IsSound s → IsAsBefore s new → IsSound new
roomier_is_sound s new sound before =
    let now : StateValue = record s { registry = new.registry; journal = new.journal } in
    let boxes = ap (λ (r : Plugins). r.boxes) before.table in
    let long = ap (λ (r : Plugins). length r.plugins) before.table in
    let order : InOrder s.task (stored_of now) =
    subst (λ (r : Plugins). InOrder s.task (record (stored_of now) { plugins = r })) (sym before.table)
    (subst (λ (es : List Entry). InOrder s.task (record (stored_of s) { entries = es })) (sym before.entries) sound.order) in
    subst IsSound (sym before.rest) (record {
      order = order;
      arriving = sound.arriving;
      limits = sound.limits;
      memory = sound.memory;
      places = sound.places;
      starts = sound.starts;
      rooms = sound.rooms;
      boxes = omega (arith, boxes, sound.boxes);
      closers = omega (arith, long, sound.closers);
      failed = sound.failed;
    })

-- what holds stands behind a failed call
pub on_err : {T E P : Type 0} (r : Result T E) → P → OnErr r P
on_err (Ok x) holds = tt
on_err (Err e) holds = holds

same_boxes : (order : Order) (r : Plugins) → IsWithdrawal order → (after_order order r).boxes ≡ r.boxes
same_boxes (Install spec) r is = absurd is
same_boxes (Register plugin spec) r is = absurd is
same_boxes (Reset plugin) r is = refl
same_boxes (Uninstall plugin) r is = refl

pub withdrawn_sound : (s : StateValue) (origin : Origin) (order : Order) (past : List Item) (journal : JournalState) (registry : RegistryState)
    → IsSound s → MayControl s origin order → IsWithdrawal order → past ≡ Ordered origin order ∷ s.past
    → log journal.entries ≡ Ordered origin order ∷ log s.journal.entries
    → registry.table ≡ after_order order s.registry.table
    → IsSound (record s { past = past; journal = journal; registry = registry })
withdrawn_sound s origin order past journal registry sound may is items entries table =
    let now : StateValue = record s { past = past; journal = journal; registry = registry } in
    let kept = withdrawals_keep_order s.task origin order (stored_of s) (stored_of now) is sound.order
    may.legal (record {
      past = items;
      journal = entries;
      shared = refl;
      plugins = table;
      waiting = refl;
      parked = refl;
      harts = refl;
      closers = refl;
    }) in
    let boxes = ap (λ (r : Plugins). r.boxes) table ∙ same_boxes order s.registry.table is in
    let long = ap (λ (r : Plugins). length r.plugins) table ∙ same_long s.registry.table order (withdrawal_names order is) in
    record {
      order = kept.order;
      arriving = sound.arriving ∙ sym kept.arrivals;
      limits = sound.limits;
      memory = sound.memory;
      places = sound.places;
      starts = sound.starts;
      boxes = omega (arith, boxes, sound.boxes);
      closers = omega (arith, long, sound.closers);
      rooms = subst (λ (xs : List Item). HasRooms (task_run s.task) xs s.rooms) (sym items)
          (withdrawn_rooms (task_run s.task) origin order s.past s.rooms is sound.rooms);
      failed = sound.failed;
    }

-- A registration.

-- the plug-in is there, and its set has boxes
pub record CanRegister (s : StateValue) (plugin : ℕ) (spec : SetSpec) : Type 0 where
  pub one : 1 ≤ plugin
  pub most : plugin ≤ 8
  pub row : plugin - 1 < length s.waiting
  pub room : plugin - 1 < length s.rooms
  pub attachable : IsAttachable spec
  pub boxes : s.task.machine.harts * calling spec.subs ≤ s.boxes

installed_within : (n plugin : ℕ) → (nat_lt 0 plugin && nat_le plugin n) ≡ true → (1 ≤ plugin) × (plugin ≤ n)
installed_within n plugin is = grind (arith, nat_tests, is)

taken_by : (s : StateValue) (spec : SetSpec) → IsSound s
    → s.registry.table.harts * calling spec.subs ≡ s.task.machine.harts * calling spec.subs
taken_by s spec sound =
    ap (λ (n : ℕ). n * calling spec.subs) (ap (λ (r : Plugins). r.harts) sound.order.plugins ∙ as_many (task_run s.task) s.past)

-- by what the registry of the whole state allows
pub can_register : (was s : StateValue) (plugin : ℕ) (spec : SetSpec) → s ≡ was → IsSound s
    → refusal was.registry.table (Register plugin spec) ≡ None → CanRegister s plugin spec
can_register was s plugin spec is sound free =
    let allowed : refusal s.registry.table (Register plugin spec) ≡ None =
    ap (λ (v : StateValue). refusal v.registry.table (Register plugin spec)) is ∙ free in
    let may = may_register s.registry.table plugin spec allowed in
    let number = installed_within (length s.registry.table.plugins) plugin may.installed in
    let long : length s.waiting ≡ length s.registry.table.plugins =
    waiting_long s.task (stored_of s) sound.order ∙ ap (λ (r : Plugins). length r.plugins) (sym sound.order.plugins) in
    let rooms : length s.rooms ≡ length s.registry.table.plugins =
    sound.rooms.count ∙ ap (λ (r : Plugins). length r.plugins) (sym sound.order.plugins) in
    let few : length s.registry.table.plugins ≤ PLUGINS_MOST =
    subst (λ (r : Plugins). length r.plugins ≤ PLUGINS_MOST) (sym sound.order.plugins)
    (plugins_are_few (task_run s.task) s.past sound.order.legal) in
    record {
      one = number.0;
      most = omega (arith, number.1, few);
      row = omega (arith, number.0, number.1, long);
      room = omega (arith, number.0, number.1, rooms);
      attachable = register_attachable s.registry.table plugin spec allowed;
      boxes = omega (arith, may.boxes, taken_by s spec sound, sound.boxes);
    }

pub registered_sound : (s : StateValue) (origin : Origin) (plugin : ℕ) (spec : SetSpec) (past : List Item) (journal : JournalState)
    (registry : RegistryState) (waiting : List (List (Option Attachment))) (arriving : List (List (Option SetSpec)))
    (rooms : List Room) (given : Room) (boxes spare : ℕ)
    → IsSound s → MayControl s origin (Register plugin spec) → past ≡ Ordered origin (Register plugin spec) ∷ s.past
    → log journal.entries ≡ Ordered origin (Register plugin spec) ∷ log s.journal.entries
    → registry.table ≡ after_order (Register plugin spec) s.registry.table
    → waiting ≡ slice_set s.waiting (plugin - 1) (replicate s.task.machine.harts (Some (opening plugin spec)))
    → arriving ≡ slice_set s.arriving (plugin - 1) (replicate s.task.machine.harts (Some spec))
    → rooms ≡ slice_set s.rooms (plugin - 1) given → IsRoomFor s.task.machine.harts given
    → boxes + s.task.machine.harts * calling spec.subs ≡ s.boxes → spare ≡ s.spare_closers
    → IsSound (record s {
      past = past;
      journal = journal;
      registry = registry;
      waiting = waiting;
      arriving = arriving;
      rooms = rooms;
      boxes = boxes;
      spare_closers = spare;
    })
registered_sound s origin plugin spec past journal registry waiting arriving rooms given boxes spare sound may items entries table waits
    arrives renewed fits left same_closers =
    let now : StateValue = record s {
      past = past;
      journal = journal;
      registry = registry;
      waiting = waiting;
      arriving = arriving;
      rooms = rooms;
      boxes = boxes;
      spare_closers = spare;
    } in
    let can = can_register s s plugin spec refl sound may.allowed in
    let run = task_run s.task in
    let kept = registrations_keep_order s.task origin plugin spec (stored_of s) (stored_of now) sound.order
    may.legal (record {
      past = items;
      journal = entries;
      shared = refl;
      plugins = table;
      waiting = waits;
      parked = refl;
      harts = refl;
      closers = refl;
    }) in
    let fewer : registry.table.boxes ≡ s.registry.table.boxes - s.registry.table.harts * calling spec.subs =
    ap (λ (r : Plugins). r.boxes) table in
    let long : length registry.table.plugins ≡ length s.registry.table.plugins =
    ap (λ (r : Plugins). length r.plugins) table ∙ length-set s.registry.table.plugins (plugin - 1) _ in
    record {
      order = kept.order;
      arriving = arrives
          ∙ ap (λ rows. slice_set rows (plugin - 1) (replicate s.task.machine.harts (Some spec))) sound.arriving ∙ sym kept.arrivals;
      limits = sound.limits;
      memory = sound.memory;
      places = sound.places;
      starts = sound.starts;
      boxes = omega (arith, fewer, taken_by s spec sound, left, sound.boxes);
      closers = omega (arith, long, same_closers, sound.closers);
      rooms = subst (λ (xs : List Item). HasRooms run xs rooms) (sym items)
          (subst (HasRooms run (Ordered origin (Register plugin spec) ∷ s.past)) (sym renewed)
          (register_rooms run origin plugin spec s.past s.rooms given can.one can.room fits sound.rooms));
      failed = sound.failed;
    }

-- a table of which a row is written, each row seen as something else
pub row_set : {A B : Type 0} (f : A → B) (rows now : List A) (i j : ℕ) (row : A) (shown : B) → now ≡ slice_set rows i row → f row ≡ shown
    → i ≡ j → map f now ≡ slice_set (map f rows) j shown
row_set f rows now i j row shown written is place =
    ap (map f) written ∙ map-set f rows i row ∙ ap (slice_set (map f rows) i) is ∙ ap (λ (k : ℕ). slice_set (map f rows) k shown) place

pub row_below : {A B : Type 0} (f : A → B) (rows : Vec A Global) (i j : ℕ) → i ≡ j → j - 1 < length (map f rows.items)
    → i - 1 < vec_len rows
row_below f rows i j is below = omega (arith, below, is, length-map rows.items f)

-- An install.

-- there is room for one more, and its set has boxes
pub record CanInstall (s : StateValue) (spec : SetSpec) : Type 0 where
  pub number : length s.registry.table.plugins + 1 ≤ 8
  pub attachable : IsAttachable spec
  pub boxes : s.task.machine.harts * calling spec.subs ≤ s.boxes
  pub closer : 0 < s.spare_closers

pub can_install : (was s : StateValue) (spec : SetSpec) → s ≡ was → IsSound s → refusal was.registry.table (Install spec) ≡ None
    → CanInstall s spec
can_install was s spec is sound free =
    let allowed : refusal s.registry.table (Install spec) ≡ None =
    ap (λ (v : StateValue). refusal v.registry.table (Install spec)) is ∙ free in
    let may = may_install s.registry.table spec allowed in
    record {
      number = omega (arith, may.few);
      attachable = install_attachable s.registry.table spec allowed;
      boxes = omega (arith, may.boxes, taken_by s spec sound, sound.boxes);
      closer = omega (arith, may.few, sound.closers);
    }

-- Behind the order.

-- the plan wants nothing, as it wanted nothing before
pub wants_nothing : (was s new : StateValue) (party : ℕ) (order : Order) → s ≡ was
    → IsNonDecreasingBy (λ t. t.when) s.task.plan.script → wanted (task_run was.task) was.past ≡ None
    → new.past ≡ Ordered (Control party) order ∷ was.past → ChangesByOrder was new → wanted (task_run new.task) new.past ≡ None
wants_nothing was s new party order is rising none items rest =
    let risen : IsNonDecreasingBy (λ t. t.when) was.task.plan.script =
    subst (λ (v : StateValue). IsNonDecreasingBy (λ t. t.when) v.task.plan.script) is rising in
    let task : new.task ≡ was.task = ap (λ (v : StateValue). v.task) rest in
    ap (λ (t : Task). wanted (task_run t) new.past) task ∙ ap (wanted (task_run was.task)) items
    ∙ unplanned_orders_pass_nothing_by (task_run was.task) (Control party) order was.past risen tt none
