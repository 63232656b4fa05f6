-- The state as a hart gives a plug-in back.
use Rattle.std.proofs.Common.{◌≡◌, ◌==◌, ◌+◌, ◌-◌, ◌<◌, ◌≤◌, ◌∙◌, ℕ, true, false, not, List, [], ◌∷◌, length, refl, sym, ap, subst, arith}
use Rattle.std.proofs.Common.{Option, None}
use Rattle.std.specs.Prelude.{Vec, option_map, slice_set, slice_index_or, filter}
use Rattle.std.specs.Option.{option_or}
use Rattle.std.specs.Global.{Global}
use Rattle.std.proofs.lemmas.List.{length-map, length-set}
use Rattle.std.proofs.lemmas.List.Elements.{All-get_or}
use Rattle.flat_model.specs.declared.plugins.SetSpec.{SetSpec}
use Rattle.flat_model.specs.declared.journals.Item.{Item}
use Rattle.flat_model.specs.declared.journals.Item.TheVariants.{GaveBack}
use Rattle.flat_model.specs.Log.{log}
use Rattle.flat_model.specs.Registry.{Plugins, plugin_of, owes, after_back}
use Rattle.plug_registry.specs.State.{RegistryState}
use Rattle.run_journal.specs.Journal.{JournalState}
use Rattle.watcher_api.specs.Attachment.{Attachment, set_of, without}
use Rattle.run_rules.specs.Guest.{Run}
use Rattle.run_rules.specs.Legal.{Legal, may_give_back}
use Rattle.run_rules.specs.Places.{is_waiting, is_with_hart}
use Rattle.run_rules.proofs.Turns.{first_true}
use Rattle.run_order.specs.Sets.{placed_at, sets_for}
use Rattle.run_order.specs.InOrder.{task_run}
use Rattle.run_order.specs.Laws.{with_place}
use Rattle.kept_order.specs.Hearing.{specs_for}
use Rattle.kept_order.specs.Returning.{with_some, set_back, IsReturned}
use Rattle.kept_order.proofs.Backs.{Owes, gives_owed, backs_keep_order, backs_take_sets}
use Rattle.host_state.specs.Rooms.{HasRooms}
use Rattle.host_state.proofs.RoomKeeping.{back_rooms}
use Rattle.host_state.specs.State.{StateValue, IsSound, stored_of}
use Rattle.host_state.specs.Tables.{rows_of, row_at}
use Rattle.host_state.proofs.Shown.{shown, shown_at, shown_rows, shown_width, shown_with}
use Rattle.host_state.proofs.Shelved.{waiting_long, waiting_wide, waiting_at, parked_long, parked_wide, set_found}

-- a plug-in that may be given back has a number
pub numbered : (run : Run) (h plugin : ℕ) (past : List Item) → Legal run (GaveBack h plugin ∷ past) → 1 ≤ plugin
unfolding Legal
numbered run h plugin past legal = (gives_owed run h plugin past legal.1).one

-- `was` is the state's value, and `s` the value of its parts
module _ (was s : StateValue) (is : s ≡ was) (sound : IsSound s) (h plugin : ℕ)
    (legal : Legal (task_run was.task) (GaveBack h plugin ∷ was.past)) where
  legal_now : Legal (task_run s.task) (GaveBack h plugin ∷ s.past)
  legal_now = subst (λ (v : StateValue). Legal (task_run v.task) (GaveBack h plugin ∷ v.past)) (sym is) legal

  may : may_give_back (task_run s.task) h plugin s.past ≡ true
  unfolding Legal
  may = legal_now.1

  owed : Owes (task_run s.task) h plugin s.past
  owed = gives_owed (task_run s.task) h plugin s.past may

  pub owes_back : owes s.registry.table h plugin ≡ true
  owes_back = ap (λ (r : Plugins). owes r h plugin) sound.order.plugins ∙ first_true _ _ may

  -- the table of the sets that wait, as it is kept: what is shown of a place is its set
  module _ {A : Type 0} (f : A → Attachment) (rows : List (Vec (Option A) Global)) (same : shown f rows ≡ s.waiting)
      (i j : ℕ) (row : i ≡ plugin - 1) (place : j ≡ h) where
    waits_below : i < length s.waiting
    waits_below = omega (arith, row, owed.one, owed.most, waiting_long s.task (stored_of s) sound.order)

    pub waits_row : i < length rows
    waits_row = omega (arith, waits_below, shown_rows f rows, ap (λ (table : List (List (Option Attachment))). length table) same)

    pub waits_place : j < length (row_at (rows_of rows) i)
    waits_place =
        let wide : j < length (slice_index_or (shown f rows) i []) =
        subst (λ (table : List (List (Option Attachment))). j < length (row_at table i)) (sym same)
        (omega (
          arith,
          place,
          All-get_or (λ (r : List (Option Attachment)). h < length r) s.waiting i [] waits_below
              (waiting_wide s.task (stored_of s) sound.order h owed.hart),
        )) in
        omega (arith, wide, shown_width f rows i)

    waits_at : slice_index_or (row_at s.waiting i) j None ≡ placed_at is_waiting (task_run s.task) s.past plugin h
    waits_at =
        ap (λ (k : ℕ). slice_index_or (row_at s.waiting i) k None) place
        ∙ waiting_at s.task (stored_of s) sound.order h owed.hart i waits_below
        ∙ ap (λ (p : ℕ). placed_at is_waiting (task_run s.task) s.past p h) {x = 1 + i} {y = plugin} (omega (arith, row, owed.one))

    -- the set that comes back
    pub comes_back : (sets : List Attachment) (set taken : Option Attachment)
        → set ≡ option_or (option_map f (slice_index_or (row_at (rows_of rows) i) j None)) taken
        → sets ≡ sets_for is_with_hart (task_run was.task) h was.past → taken ≡ set_of plugin sets
        → set ≡ set_back (task_run s.task) h plugin s.past
    comes_back sets set taken back of found =
        let waits : option_map f (slice_index_or (row_at (rows_of rows) i) j None)
        ≡ placed_at is_waiting (task_run s.task) s.past plugin h =
        sym (shown_at f rows i j)
        ∙ ap (λ (table : List (List (Option Attachment))). slice_index_or (row_at table i) j None) same ∙ waits_at in
        let with : taken ≡ placed_at is_with_hart (task_run s.task) s.past plugin h =
        found ∙ ap (set_of plugin) (of ∙ ap (λ (v : StateValue). sets_for is_with_hart (task_run v.task) h v.past) (sym is))
        ∙ set_found is_with_hart (task_run s.task) h plugin s.past owed.one owed.most in
        back ∙ ap (λ (o : Option Attachment). option_or o taken) waits
        ∙ ap (option_or (placed_at is_waiting (task_run s.task) s.past plugin h)) with

  -- the table of the sets that are parked
  module _ (rows : List (Vec (Option Attachment) Global)) (same : rows_of rows ≡ s.parked) (i j : ℕ) (row : i ≡ plugin - 1) (place : j ≡ h)
    where
      parks_below : i < length s.parked
      parks_below = omega (arith, row, owed.one, owed.most, parked_long s.task (stored_of s) sound.order)

      pub parks_row : i < length rows
      parks_row =
          omega (
            arith,
            parks_below,
            length-map rows (λ (r : Vec (Option Attachment) Global). r.items),
            ap (λ (table : List (List (Option Attachment))). length table) same,
          )

      pub parks_place : j < length (row_at (rows_of rows) i)
      parks_place =
          subst (λ (table : List (List (Option Attachment))). j < length (row_at table i)) (sym same)
          (omega (
            arith,
            place,
            All-get_or (λ (r : List (Option Attachment)). h < length r) s.parked i [] parks_below
                (parked_wide s.task (stored_of s) sound.order h owed.hart),
          ))

  pub returned_sound : (registry : RegistryState) (journal : JournalState) (past : List Item) (waiting : List (List (Option Attachment)))
      (arriving : List (List (Option SetSpec))) (parked : List (List (Option Attachment)))
      → registry.table ≡ after_back h plugin s.registry.table → log journal.entries ≡ GaveBack h plugin ∷ log s.journal.entries
      → past ≡ GaveBack h plugin ∷ s.past → waiting ≡ with_place s.waiting (plugin - 1) h None
      → arriving ≡ with_place s.arriving (plugin - 1) h None
      → parked ≡ with_some s.parked (plugin - 1) h (set_back (task_run s.task) h plugin s.past)
      → IsSound (record s {
        registry = registry;
        journal = journal;
        past = past;
        waiting = waiting;
        arriving = arriving;
        parked = parked;
      })
  returned_sound registry journal past waiting arriving parked table entries items waits arrives parks =
      let new = record s { registry = registry; journal = journal; past = past; waiting = waiting; arriving = arriving; parked = parked } in
      let returned : IsReturned s.task h plugin (stored_of s) (stored_of new) =
      backs_keep_order s.task h plugin (stored_of s) (stored_of new) sound.order legal_now (record {
        past = items;
        journal = entries;
        shared = refl;
        plugins = table;
        waiting = waits;
        parked = parks;
        harts = refl;
        closers = refl;
      }) in
      let p = plugin_of s.registry.table plugin in
      record {
        order = returned.order;
        arriving = arrives ∙ ap (λ (specs : List (List (Option SetSpec))). with_place specs (plugin - 1) h None) sound.arriving
            ∙ sym returned.arrivals;
        limits = sound.limits;
        memory = sound.memory;
        places = sound.places;
        starts = sound.starts;
        boxes = subst (λ (k : ℕ). k ≤ s.boxes) (sym (ap (λ (r : Plugins). r.boxes) table)) sound.boxes;
        closers = omega (
          arith,
          sound.closers,
          ap (λ (r : Plugins). length r.plugins) table,
          length-set s.registry.table.plugins (plugin - 1) (record p { owing = slice_set p.owing h false }),
        );
        rooms = subst (λ (xs : List Item). HasRooms (task_run s.task) xs s.rooms) (sym items)
            (back_rooms (task_run s.task) h plugin s.past s.rooms sound.rooms);
        failed = sound.failed;
      }

-- the sets that the hart then has
module _ (was s : StateValue) (is : s ≡ was) (h plugin : ℕ) (past : List Item) (items : past ≡ GaveBack h plugin ∷ s.past) where
  pub sets_left : (old new : List Attachment) → old ≡ sets_for is_with_hart (task_run was.task) h was.past → new ≡ without plugin old
      → new ≡ sets_for is_with_hart (task_run s.task) h past
  sets_left old new of left =
      left ∙ ap (without plugin) (of ∙ ap (λ (v : StateValue). sets_for is_with_hart (task_run v.task) h v.past) (sym is))
      ∙ sym (backs_take_sets (task_run s.task) h plugin s.past).sets ∙ ap (sets_for is_with_hart (task_run s.task) h) (sym items)

  pub specs_left : (old new : List (ℕ × SetSpec)) → old ≡ specs_for (task_run was.task) h was.past
      → new ≡ filter (λ s. not (s.0 == plugin)) old → new ≡ specs_for (task_run s.task) h past
  specs_left old new of left =
      left
      ∙ ap (filter (λ (s : ℕ × SetSpec). not (s.0 == plugin))) (of ∙ ap (λ (v : StateValue). specs_for (task_run v.task) h v.past) (sym is))
      ∙ sym (backs_take_sets (task_run s.task) h plugin s.past).specs ∙ ap (specs_for (task_run s.task) h) (sym items)

-- what is shown of a table that is written into a vector, at other numbers
pub shown_written : {A B : Type 0} (f : A → B) (all new old base : List (Vec (Option A) Global)) (i j k h : ℕ) (x : Option A) → all ≡ new
    → rows_of new ≡ with_place (rows_of old) i j x → old ≡ base → i ≡ k → j ≡ h
    → shown f all ≡ with_place (shown f base) k h (option_map f x)
shown_written {A} f all new old base i j k h x written is same row place =
    let y = option_map f x in
    ap (shown f) written ∙ shown_with f old new i j x is
    ∙ ap (λ (table : List (Vec (Option A) Global)). with_place (shown f table) i j y) same
    ∙ ap (λ (n : ℕ). with_place (shown f base) n j y) row ∙ ap (λ (n : ℕ). with_place (shown f base) k n y) place

-- what is parked in a table that is written into a vector, at other numbers
pub parked_as : (all new old base : List (Vec (Option Attachment) Global)) (i j k h : ℕ) (set other : Option Attachment) → all ≡ new
    → rows_of new ≡ with_some (rows_of old) i j set → old ≡ base → i ≡ k → j ≡ h → set ≡ other
    → rows_of all ≡ with_some (rows_of base) k h other
parked_as all new old base i j k h set other written is same row place back =
    ap rows_of written ∙ is ∙ ap (λ (rows : List (Vec (Option Attachment) Global)). with_some (rows_of rows) i j set) same
    ∙ ap (λ (n : ℕ). with_some (rows_of base) n j set) row ∙ ap (λ (n : ℕ). with_some (rows_of base) k n set) place
    ∙ ap (with_some (rows_of base) k h) back
