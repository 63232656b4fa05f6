-- The state as a closer that was told comes back.
use Rattle.std.proofs.Common.{◌≡◌, ◌-◌, ◌<◌, ◌≤◌, ◌∙◌, ℕ, true, List, [], ◌∷◌, ◌++◌, length, map, refl, sym, ap, subst, arith}
use Rattle.std.proofs.Common.{Option, Some}
use Rattle.std.specs.Prelude.{slice_set, option_map}
use Rattle.std.proofs.lemmas.List.{length-map, length-set, map-set}
use Rattle.std.proofs.lemmas.List.FromFn.{length-map-range_with_len}
use Rattle.flat_model.specs.declared.journals.Item.{Item}
use Rattle.flat_model.specs.declared.journals.Item.TheVariants.{Told}
use Rattle.flat_model.specs.Log.{log}
use Rattle.flat_model.specs.Registry.{Plugins, plugin_of, is_complete, after_done, done_state}
use Rattle.plug_registry.specs.State.{RegistryState}
use Rattle.run_journal.specs.Journal.{JournalState}
use Rattle.run_rules.specs.Guest.{plugins}
use Rattle.run_rules.specs.Legal.{Legal}
use Rattle.run_rules.specs.Places.{StateRule}
use Rattle.run_rules.proofs.Fitting.{complete, installed_from, installed_within}
use Rattle.run_rules.proofs.Turns.{first_true}
use Rattle.run_order.specs.Sets.{Notice, notice_of, notices_of}
use Rattle.run_order.specs.InOrder.{task_run}
use Rattle.kept_order.specs.Closing.{IsDone}
use Rattle.kept_order.proofs.Dones.{dones_keep_order}
use Rattle.kept_order.proofs.Openings.{closer}
use Rattle.host_state.specs.Rooms.{HasRooms}
use Rattle.host_state.proofs.RoomKeeping.{told_rooms}
use Rattle.host_state.specs.State.{StateValue, IsSound, stored_of}

-- the notices that a closer has once it was told
abbrev pub told_notices : StateValue → ℕ → List Notice
told_notices s plugin = notices_of (task_run s.task) plugin s.past ++ notice_of (task_run s.task) plugin s.past ∷ []

-- `was` is the state's value, and `s` the value of its parts
module _ (was s : StateValue) (is : s ≡ was) (sound : IsSound s) (party plugin : ℕ)
    (legal : Legal (task_run was.task) (Told party plugin ∷ was.past)) where
  legal_now : Legal (task_run s.task) (Told party plugin ∷ s.past)
  legal_now = subst (λ (v : StateValue). Legal (task_run v.task) (Told party plugin ∷ v.past)) (sym is) legal

  whole : is_complete (plugins (task_run s.task) s.past) plugin ≡ true
  unfolding Legal
  whole = first_true _ _ legal_now.1

  -- a plug-in that is complete has a number
  pub numbered : 1 ≤ plugin
  numbered = installed_from (plugins (task_run s.task) s.past) plugin (complete (plugins (task_run s.task) s.past) plugin 0 whole).0

  pub is_whole : is_complete s.registry.table plugin ≡ true
  is_whole = ap (λ (r : Plugins). is_complete r plugin) sound.order.plugins ∙ whole

  -- and a place for its closer
  pub closer_place : {C : Type 0} (f : C → List Notice) (closers : List (Option C)) → map (option_map f) closers ≡ s.closers
      → plugin - 1 < length closers
  closer_place f closers same =
      omega (
        arith,
        installed_within (plugins (task_run s.task) s.past) plugin (complete (plugins (task_run s.task) s.past) plugin 0 whole).0,
        length-map closers (option_map f),
        ap (λ (cs : List (Option (List Notice))). length cs) (same ∙ sound.order.closers),
        length-map-range_with_len (closer (task_run s.task) s.past) 1 (length (plugins (task_run s.task) s.past).plugins),
      )

  pub told_sound : (rule : StateRule (task_run was.task) (Told party plugin) was.past)
      (registry : RegistryState) (journal : JournalState) (past : List Item) (closers : List (Option (List Notice)))
      → registry.table ≡ after_done plugin s.registry.table → log journal.entries ≡ Told party plugin ∷ log s.journal.entries
      → past ≡ Told party plugin ∷ s.past → closers ≡ slice_set s.closers (plugin - 1) (Some (told_notices was plugin))
      → IsSound (record s { registry = registry; journal = journal; past = past; closers = closers })
  told_sound rule registry journal past closers table entries items back =
      let new = record s { registry = registry; journal = journal; past = past; closers = closers } in
      let rule_now : StateRule (task_run s.task) (Told party plugin) s.past =
      subst (λ (v : StateValue). StateRule (task_run v.task) (Told party plugin) v.past) (sym is) rule in
      let d : IsDone s.task (stored_of s) (stored_of new) =
      dones_keep_order s.task party plugin (stored_of s) (stored_of new) sound.order legal_now rule_now (record {
        past = items;
        journal = entries;
        shared = refl;
        plugins = table;
        waiting = refl;
        parked = refl;
        harts = refl;
        closers = back ∙ ap (λ (v : StateValue). slice_set s.closers (plugin - 1) (Some (told_notices v plugin))) (sym is);
      }) in
      let p = plugin_of s.registry.table plugin in
      record {
        order = d.order;
        arriving = sound.arriving ∙ sym d.arrivals;
        limits = sound.limits;
        memory = sound.memory;
        places = sound.places;
        starts = sound.starts;
        boxes = subst (λ (k : ℕ). k ≤ s.boxes) (sym (ap (λ (r : Plugins). r.boxes) table)) sound.boxes;
        closers = omega (
          arith,
          sound.closers,
          ap (λ (r : Plugins). length r.plugins) table,
          length-set s.registry.table.plugins (plugin - 1) (record p { state = done_state p.state }),
        );
        rooms = subst (λ (xs : List Item). HasRooms (task_run s.task) xs s.rooms) (sym items)
            (told_rooms (task_run s.task) party plugin s.past s.rooms sound.rooms);
        failed = sound.failed;
      }

-- a closer that is put back, at another number
pub put_back : {C : Type 0} (f : C → List Notice) (closers : List (Option C)) (i place : ℕ) (c : C) (told : List Notice) → i ≡ place
    → f c ≡ told → map (option_map f) (slice_set closers i (Some c)) ≡ slice_set (map (option_map f) closers) place (Some told)
put_back f closers i place c told at is =
    map-set (option_map f) closers i (Some c)
    ∙ ap (λ (k : ℕ). slice_set (map (option_map f) closers) k (Some (f c))) at
    ∙ ap (λ (ns : List Notice). slice_set (map (option_map f) closers) place (Some ns)) is
