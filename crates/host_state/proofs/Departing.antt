-- The state as a hart leaves.
use Rattle.std.proofs.Common.{◌≡◌, ◌<◌, ◌≤◌, ◌∙◌, ℕ, true, List, ◌∷◌, length, refl, sym, ap, subst, arith, Option, Some}
use Rattle.std.specs.Prelude.{Vec, All, slice_set}
use Rattle.std.specs.Global.{Global}
use Rattle.std.proofs.lemmas.List.{length-map}
use Rattle.std.proofs.lemmas.List.FromFn.{length-map-range_with_len}
use Rattle.flat_model.specs.declared.journals.Item.{Item}
use Rattle.flat_model.specs.declared.journals.Item.TheVariants.{Left}
use Rattle.flat_model.specs.Log.{log}
use Rattle.flat_model.specs.Registry.{Plugins, is_hart, after_leave, without_hart}
use Rattle.flat_model.specs.World.{HartState}
use Rattle.flat_model.specs.Worlds.{hart_of}
use Rattle.plug_registry.specs.State.{RegistryState}
use Rattle.run_journal.specs.Journal.{JournalState}
use Rattle.watcher_api.specs.Attachment.{Attachment}
use Rattle.run_rules.specs.Guest.{plugins}
use Rattle.run_rules.specs.Legal.{Legal, is_there}
use Rattle.run_rules.specs.Places.{is_with_hart}
use Rattle.run_rules.proofs.Turns.{first_true}
use Rattle.run_order.specs.Sets.{sets_for}
use Rattle.run_order.specs.InOrder.{task_run, hart_kept}
use Rattle.run_order.specs.Laws.{park_all}
use Rattle.kept_order.specs.Arriving.{arrivals}
use Rattle.kept_order.proofs.Gone.{there_low}
use Rattle.kept_order.proofs.Leaves.{leaves_keep_order}
use Rattle.kept_order.proofs.Arrivals.{arrivals_stay}
use Rattle.host_state.specs.Rooms.{HasRooms}
use Rattle.host_state.proofs.RoomKeeping.{left_rooms}
use Rattle.host_state.specs.State.{StateValue, IsSound, stored_of}
use Rattle.host_state.specs.Tables.{rows_of, AreWide}
use Rattle.host_state.proofs.Shelved.{parked_long, parked_wide, sets_have_rows}

-- `was` is the state's value, and `s` the value of its parts
module _ (was s : StateValue) (is : s ≡ was) (sound : IsSound s) (h : ℕ) (legal : Legal (task_run was.task) (Left h ∷ was.past)) where
  legal_now : Legal (task_run s.task) (Left h ∷ s.past)
  legal_now = subst (λ (v : StateValue). Legal (task_run v.task) (Left h ∷ v.past)) (sym is) legal

  here : is_there (task_run s.task) h s.past ≡ true
  unfolding Legal
  here = first_true _ _ legal_now.1

  low : h < s.task.machine.harts
  low = there_low (task_run s.task) h s.past here

  pub rows_there : (rows : List (Vec (Option Attachment) Global)) (sets : List Attachment) → rows_of rows ≡ s.parked
      → (parts : List Attachment) → sets ≡ parts → parts ≡ sets_for is_with_hart (task_run was.task) h was.past
      → All (λ a. (1 ≤ a.plugin) × (a.plugin ≤ length rows)) sets
  rows_there rows sets same parts whole of =
      let long : length rows ≡ length (plugins (task_run s.task) s.past).plugins =
      sym (length-map rows (λ (row : Vec (Option Attachment) Global). row.items))
      ∙ ap (λ (table : List (List (Option Attachment))). length table) same ∙ parked_long s.task (stored_of s) sound.order in
      subst (All (λ a. (1 ≤ a.plugin) × (a.plugin ≤ length rows)))
      (ap (λ (v : StateValue). sets_for is_with_hart (task_run v.task) h v.past) is ∙ sym (whole ∙ of))
      (sets_have_rows is_with_hart (task_run s.task) h s.past (length rows) long)

  pub rows_wide : (rows : List (Vec (Option Attachment) Global)) → rows_of rows ≡ s.parked → AreWide h (rows_of rows)
  rows_wide rows same = subst (AreWide h) (sym same) (parked_wide s.task (stored_of s) sound.order h low)

  pub hart_below : h < length s.harts
  hart_below =
      omega (
        arith,
        low,
        ap (λ (hs : List (Option HartState)). length hs) sound.order.harts,
        length-map-range_with_len (hart_kept s.task s.past) 0 s.task.machine.harts,
      )

  pub hart_is : is_hart s.registry.table h ≡ true
  hart_is = ap (λ (r : Plugins). is_hart r h) sound.order.plugins ∙ first_true _ _ here

  pub left_sound : (registry : RegistryState) (journal : JournalState) (past : List Item) (parked : List (List (Option Attachment)))
      (harts : List (Option HartState))
      → registry.table ≡ after_leave h s.registry.table → log journal.entries ≡ Left h ∷ log s.journal.entries → past ≡ Left h ∷ s.past
      → parked ≡ park_all h (sets_for is_with_hart (task_run was.task) h was.past) s.parked
      → harts ≡ slice_set s.harts h (Some (hart_of was.task.machine was.task.mode was.past h))
      → IsSound (record s { registry = registry; journal = journal; past = past; parked = parked; harts = harts })
  left_sound registry journal past parked harts table entries items sets kept =
      let new = record s { registry = registry; journal = journal; past = past; parked = parked; harts = harts } in
      record {
        order = leaves_keep_order s.task h (stored_of s) (stored_of new) sound.order legal_now (record {
          past = items;
          journal = entries;
          shared = refl;
          plugins = table;
          waiting = refl;
          parked = sets ∙ ap (λ (v : StateValue). park_all h (sets_for is_with_hart (task_run v.task) h v.past) s.parked) (sym is);
          harts = kept ∙ ap (λ (v : StateValue). slice_set s.harts h (Some (hart_of v.task.machine v.task.mode v.past h))) (sym is);
          closers = refl;
        });
        arriving = sound.arriving ∙ sym (arrivals_stay (task_run s.task) h 0 s.past).1 ∙ ap (arrivals (task_run s.task)) (sym items);
        limits = sound.limits;
        memory = sound.memory;
        places = sound.places;
        starts = sound.starts;
        boxes = subst (λ (k : ℕ). k ≤ s.boxes) (sym (ap (λ (r : Plugins). r.boxes) table)) sound.boxes;
        closers = omega (
          arith,
          sound.closers,
          ap (λ (r : Plugins). length r.plugins) table,
          length-map s.registry.table.plugins (without_hart h),
        );
        rooms = subst (λ (xs : List Item). HasRooms (task_run s.task) xs s.rooms) (sym items)
            (left_rooms (task_run s.task) h s.past s.rooms sound.rooms);
        failed = sound.failed;
      }

-- sets that are parked in a table that is written into a vector
pub parked_by : (h : ℕ) (all new old base : List (Vec (Option Attachment) Global)) (sets parts others : List Attachment)
    → all ≡ new → rows_of new ≡ park_all h sets (rows_of old) → old ≡ base → sets ≡ parts → parts ≡ others
    → rows_of all ≡ park_all h others (rows_of base)
parked_by h all new old base sets parts others written is same whole of =
    ap rows_of written ∙ is ∙ ap (λ (rows : List (Vec (Option Attachment) Global)). park_all h sets (rows_of rows)) same
    ∙ ap (λ (ss : List Attachment). park_all h ss (rows_of base)) (whole ∙ of)

pub kept_by : (harts : List (Option HartState)) (i h : ℕ) (x y : HartState) → i ≡ h → x ≡ y
    → slice_set harts i (Some x) ≡ slice_set harts h (Some y)
kept_by harts i h x y place same =
    ap (λ (k : ℕ). slice_set harts k (Some x)) place ∙ ap (λ (z : HartState). slice_set harts h (Some z)) same
