-- The state as a party takes a closing.
use Rattle.std.proofs.Common.{◌≡◌, ◌&&◌, ◌+◌, ◌-◌, ◌<◌, ◌≤◌, ◌∷◌, [], ◌++◌, ◌∙◌}
use Rattle.std.proofs.Common.{ℕ, zero, suc, Bool, true, false, not, List, Option, Some, None}
use Rattle.std.proofs.Common.{refl, sym, ap, subst, arith, length, map, replicate, get_or-set_other}
use Rattle.std.specs.Prelude.{Vec, if◌then◌else◌, slice_set, slice_index_or, option_map, is_some, IsSome, IfSome, MatchOption}
use Rattle.std.specs.Global.{Global}
use Rattle.std.specs.Option.{option_or, option_map_or}
use Rattle.std.specs.List.{flat_map, filter_map, range_with_len}
use Rattle.std.proofs.lemmas.Bool.{false≢true}
use Rattle.std.proofs.lemmas.List.{length-map, length-set, map-set, get_or_default}
use Rattle.std.proofs.lemmas.List.FromFn.{length-map-range_with_len}
use Rattle.flat_model.specs.declared.journals.Item.{Item}
use Rattle.flat_model.specs.declared.journals.Item.TheVariants.{Took}
use Rattle.flat_model.specs.declared.plugins.SetSpec.{SetSpec}
use Rattle.flat_model.specs.Registry.{Plugins, plugin_of, is_complete, is_closing, is_installed}
use Rattle.watcher_api.specs.Attachment.{Attachment}
use Rattle.run_rules.specs.Guest.{Run, plugins}
use Rattle.run_rules.specs.Heard.{set_at, last_set}
use Rattle.run_rules.specs.Places.{Place, Nowhere, Waiting, WithHart, Parked, Out, place_of, is_waiting, is_parked, taker}
use Rattle.run_rules.proofs.Fitting.{complete, installed_from, installed_within}
use Rattle.run_rules.proofs.Turns.{first_true, rest_true}
use Rattle.run_order.specs.Sets.{Notice, attachment_of, placed_at, boxes_back, how_closed, notice_of, notices_of}
use Rattle.run_order.specs.InOrder.{task_run}
use Rattle.kept_order.specs.Closing.{is_due, closed_set, notice_from, IsOut}
use Rattle.kept_order.proofs.Completions.{closings_keep_order}
use Rattle.kept_order.proofs.Notices.{gives_same, notices_agree}
use Rattle.kept_order.proofs.Openings.{closer}
use Rattle.kept_order.proofs.Tables.{table}
use Rattle.run_order.proofs.Taking.{map_at}
use Rattle.host_state.specs.Closing.{NoneIsDue, IsLeastDue, IsOutWith, IsLeastReady, is_ready, HasPlace, IsSmall, parked_column}
use Rattle.host_state.specs.Closing as closing
use Rattle.host_state.specs.Rooms.{Room, no_room, is_kept, HasRooms}
use Rattle.host_state.specs.State.{StateValue, IsSound, stored_of}
use Rattle.host_state.specs.Tables.{rows_of, row_at}
use Rattle.host_state.proofs.Boxes.{boxes_are_few}
use Rattle.host_state.proofs.KeptClosers.{closer_at, there_if}
use Rattle.host_state.proofs.RoomKeeping.{took_rooms}
use Rattle.host_state.proofs.Shelved.{waiting_long, waiting_at, parked_long, table_at}
use Rattle.host_state.proofs.Shown as shown
use Rattle.host_state.proofs.SmallSets.{IsSmallSet, set_is_small}

-- Which closing is due.

some_shown : {A B : Type 0} (f : A → B) (o : Option A) → is_some (option_map f o) ≡ is_some o
some_shown f None = refl
some_shown f (Some a) = refl

some_there : (installed out : Bool) (notices : List Notice) → is_some (there_if installed out notices) ≡ (installed && not out)
some_there true true notices = refl
some_there true false notices = refl
some_there false out notices = refl

same_due : (installed closing rest took : Bool)
    → ((installed && (closing && rest)) && (installed && not (closing && took))) ≡ ((installed && (closing && rest)) && not took)
same_due false closing rest took = refl
same_due true false rest took = refl
same_due true true rest took = refl

module _ {C : Type 0} (f : C → List Notice) (s : StateValue) (sound : IsSound s) (closers : List (Option C))
    (same : map (option_map f) closers ≡ s.closers) where
  there_is : (p : ℕ) → 1 ≤ p → is_some (slice_index_or closers (p - 1) None)
      ≡ (is_installed s.registry.table p && not (is_closing (plugin_of s.registry.table p).state && is_some (taker p s.past)))
  there_is p one =
      let run = task_run s.task in
      sym (some_shown f (slice_index_or closers (p - 1) None))
      ∙ ap (λ (o : Option (List Notice)). is_some o) (sym (shown.map_at (option_map f) closers (p - 1) None))
      ∙ ap (λ (cs : List (Option (List Notice))). is_some (slice_index_or cs (p - 1) None)) (same ∙ sound.order.closers)
      ∙ ap (λ (o : Option (List Notice)). is_some o) (closer_at run s.past p one)
      ∙ some_there (is_installed (plugins run s.past) p) _ (notices_of run p s.past)
      ∙ ap (λ (r : Plugins). is_installed r p && not (is_closing (plugin_of r p).state && is_some (taker p s.past)))
      (sym sound.order.plugins)

  ready_is_due : (p : ℕ) → 1 ≤ p → is_ready s.registry.table closers p ≡ is_due (task_run s.task) p s.past
  ready_is_due p one =
      let r = s.registry.table in
      ap (λ (b : Bool). is_complete r p && b) (there_is p one)
      ∙ same_due (is_installed r p) (is_closing (plugin_of r p).state) _ (is_some (taker p s.past))
      ∙ ap (λ (q : Plugins). is_complete q p && not (is_some (taker p s.past))) sound.order.plugins

  pub none_due : ((p : ℕ) → 1 ≤ p → p ≤ length s.registry.table.plugins → is_ready s.registry.table closers p ≡ false) → NoneIsDue s
  none_due none p one most = sym (ready_is_due p one) ∙ none p one most

  pub least_due : (plugin : ℕ) → IsLeastReady s.registry.table closers plugin → IsLeastDue s plugin
  least_due plugin l = record {
    due = sym (ready_is_due plugin l.number) ∙ l.ready;
    least = λ p one low. sym (ready_is_due p one) ∙ l.least p one low;
  }

-- What goes out with it.

abbrev set_if : Bool → Attachment → Option Attachment
set_if there a = if there then Some a else None

either_has : (P : Attachment → Type 0) (first second : Bool) (a : Attachment) → (first ≡ true → P a) → (second ≡ true → P a)
    → IfSome (option_or (set_if first a) (set_if second a)) P
either_has P true second a one other = one refl
either_has P false true a one other = other refl
either_has P false false a one other = tt

waits_kept : (place : Place) → is_waiting place ≡ true → is_kept place ≡ true
waits_kept Nowhere is = absurd (false≢true is)
waits_kept Waiting is = refl
waits_kept WithHart is = refl
waits_kept Parked is = refl
waits_kept Out is = absurd (false≢true is)

parked_kept : (place : Place) → is_parked place ≡ true → is_kept place ≡ true
parked_kept Nowhere is = absurd (false≢true is)
parked_kept Waiting is = refl
parked_kept WithHart is = refl
parked_kept Parked is = refl
parked_kept Out is = absurd (false≢true is)

no_taker : (took : Option ℕ) → not (is_some took) ≡ true → took ≡ None
no_taker None is = refl
no_taker (Some party) is = absurd (false≢true is)

-- the set of a legal log
small_set : (run : Run) (plugin h : ℕ) (past : List Item) → IsSmallSet (set_at run plugin (last_set (plugins run past) plugin) past)
    → IsSmall (attachment_of run plugin h past)
small_set run plugin h past small =
    let spec = set_at run plugin (last_set (plugins run past) plugin) past in
    let a = attachment_of run plugin h past in
    record {
      acts = omega (arith, length-map spec.subs (λ s. s.act), small.subs);
      boxes = λ k. omega (arith, boxes_are_few k a spec.subs refl, small.calls);
    }

flat_same : {A : Type 0} (f g : ℕ → List A) (a n : ℕ) → ((k : ℕ) → a ≤ k → k < a + n → f k ≡ g k)
    → flat_map f (range_with_len a n) ≡ flat_map g (range_with_len a n)
flat_same f g a zero same = refl
flat_same f g a (suc n) same =
    ap (λ xs. xs ++ flat_map f (range_with_len (a + 1) n)) (same a (omega arith) (omega arith))
    ∙ ap (λ xs. g a ++ xs) (flat_same f g (a + 1) n (λ k low high. same k (omega (arith, low)) (omega (arith, high))))

some_or : (h : ℕ) (o : Option Attachment) → option_map (parked_column h) o ≡ option_map_or (λ a. Some (parked_column h a)) o None
some_or h None = refl
some_or h (Some a) = refl

pub there_some : {A B : Type 0} (f : A → B) (o : Option A) (b : B) → option_map f o ≡ Some b → IsSome o
there_some f None b is = absurd cc
there_some f (Some a) b is = refl

pub given_is : {A B : Type 0} (f : A → B) (o : Option A) (a : A) (b : B) → option_map f o ≡ Some b → o ≡ Some a → f a ≡ b
given_is f o a b is at = let same : Some (f a) ≡ Some b = ap (option_map f) (sym at) ∙ is in cc

blank_row : {A B : Type 0} (f : A → B) (n : ℕ) → map (option_map f) (replicate n None) ≡ replicate n None
blank_row f zero = refl
blank_row f (suc n) = ap (λ xs. None ∷ xs) (blank_row f n)

notice_is : (a b : Notice) → a.plugin ≡ b.plugin → a.how ≡ b.how → a.boxes ≡ b.boxes → a.columns ≡ b.columns → a ≡ b
notice_is a b names hows boxes columns =
    ap (λ n. record a { plugin = n }) names ∙ ap (λ w. record a { plugin = b.plugin; how = w }) hows
    ∙ ap (λ bs. record b { boxes = bs; columns = a.columns }) boxes ∙ ap (λ cs. record b { columns = cs }) columns

-- a table of which a row is blank
pub shown_blank : {A B : Type 0} (f : A → B) (rows now : List (Vec (Option A) Global)) (i n : ℕ)
    → rows_of now ≡ slice_set (rows_of rows) i (replicate n None) → shown.shown f now ≡ slice_set (shown.shown f rows) i (replicate n None)
shown_blank f rows now i n is =
    shown.shown_by f now ∙ ap (map (map (option_map f))) is
    ∙ map-set (map (option_map f)) (rows_of rows) i (replicate n None)
    ∙ ap (λ row. slice_set (map (map (option_map f)) (rows_of rows)) i row) (blank_row f n)
    ∙ ap (λ cells. slice_set cells i (replicate n None)) (sym (shown.shown_by f rows))

wide_is : {A : Type 0} (g : ℕ → ℕ → A) (m n i : ℕ) → i < n → length (slice_index_or (table g m n) i []) ≡ m
wide_is {A} g m n i below =
    ap (λ (row : List A). length row) (map_at (λ (p : ℕ). map (g p) (range_with_len 0 m)) 1 n i [] below)
    ∙ length-map-range_with_len (g (1 + i)) 0 m

not_out : (closing : Bool) (notices : List Notice) → there_if true (closing && false) notices ≡ Some notices
not_out true notices = refl
not_out false notices = refl

-- the closing that is due, as it was found
pub due_found : {C : Type 0} (f : C → List Notice) (was s : StateValue) → s ≡ was → IsSound s
    → (closers all : List (Option C)) → closers ≡ all → map (option_map f) all ≡ s.closers → (found : Option ℕ)
    → MatchOption found ((p : ℕ) → 1 ≤ p → p ≤ length s.registry.table.plugins → is_ready s.registry.table closers p ≡ false)
    (IsLeastReady s.registry.table closers)
    → MatchOption found (NoneIsDue was) (IsLeastDue was)
due_found f was s is sound closers all same shows None none =
    subst NoneIsDue is (none_due f s sound closers (ap (λ cs. map (option_map f) cs) same ∙ shows) none)
due_found f was s is sound closers all same shows (Some plugin) least =
    subst (λ (v : StateValue). IsLeastDue v plugin) is
    (least_due f s sound closers (ap (λ cs. map (option_map f) cs) same ∙ shows) plugin least)

-- What is written into vectors, at other numbers.

pub set_written : {A : Type 0} (all new old base : List A) (i k : ℕ) (x y : A) → all ≡ new → new ≡ slice_set old i x → old ≡ base → i ≡ k
    → x ≡ y → all ≡ slice_set base k y
set_written all new old base i k x y written set same at is =
    written ∙ set ∙ ap (λ xs. slice_set xs i x) same ∙ ap (λ (n : ℕ). slice_set base n x) at ∙ ap (slice_set base k) is

pub blank_written : {A B : Type 0} (f : A → B) (all new old base : List (Vec (Option A) Global)) (i k n m : ℕ) → all ≡ new
    → rows_of new ≡ slice_set (rows_of old) i (replicate n None) → old ≡ base → i ≡ k → n ≡ m
    → shown.shown f all ≡ slice_set (shown.shown f base) k (replicate m None)
blank_written f all new old base i k n m written set same at many =
    ap (shown.shown f) written ∙ shown_blank f old new i n set
    ∙ ap (λ rows. slice_set (shown.shown f rows) i (replicate n None)) same
    ∙ ap (λ (j : ℕ). slice_set (shown.shown f base) j (replicate n None)) at
    ∙ ap (λ (j : ℕ). slice_set (shown.shown f base) k (replicate j None)) many

pub rows_written : {A : Type 0} (all new old base : List (Vec (Option A) Global)) (i k n m : ℕ) → all ≡ new
    → rows_of new ≡ slice_set (rows_of old) i (replicate n None) → old ≡ base → i ≡ k → n ≡ m
    → rows_of all ≡ slice_set (rows_of base) k (replicate m None)
rows_written all new old base i k n m written set same at many =
    ap rows_of written ∙ set
    ∙ ap (λ rows. slice_set (rows_of rows) i (replicate n None)) same
    ∙ ap (λ (j : ℕ). slice_set (rows_of base) j (replicate n None)) at
    ∙ ap (λ (j : ℕ). slice_set (rows_of base) k (replicate j None)) many

pub closer_gone : {C : Type 0} (f : C → List Notice) (closers : List (Option C)) (i k : ℕ) (left : Option C) → i ≡ k → left ≡ None
    → map (option_map f) (slice_set closers i left) ≡ slice_set (map (option_map f) closers) k None
closer_gone f closers i k left at none =
    map-set (option_map f) closers i left
    ∙ ap (λ (n : ℕ). slice_set (map (option_map f) closers) n (option_map f left)) at
    ∙ ap (λ o. slice_set (map (option_map f) closers) k (option_map f o)) none

-- `was` is the state's value, and `s` the value of its parts
module _ (was s : StateValue) (is : s ≡ was) (sound : IsSound s) (plugin : ℕ)
    (due_was : is_due (task_run was.task) plugin was.past ≡ true) where
  due : is_due (task_run s.task) plugin s.past ≡ true
  due = subst (λ (v : StateValue). is_due (task_run v.task) plugin v.past ≡ true) (sym is) due_was

  whole : is_complete (plugins (task_run s.task) s.past) plugin ≡ true
  whole = first_true _ _ due

  untaken : taker plugin s.past ≡ None
  untaken = no_taker (taker plugin s.past) (rest_true (is_complete (plugins (task_run s.task) s.past) plugin) _ due)

  there : is_installed (plugins (task_run s.task) s.past) plugin ≡ true
  there = (complete (plugins (task_run s.task) s.past) plugin 0 whole).0

  pub number : 1 ≤ plugin
  number = installed_from (plugins (task_run s.task) s.past) plugin there

  within : plugin - 1 < length (plugins (task_run s.task) s.past).plugins
  within = installed_within (plugins (task_run s.task) s.past) plugin there

  pub installed : is_installed s.registry.table plugin ≡ true
  installed = ap (λ (r : Plugins). is_installed r plugin) sound.order.plugins ∙ there

  pub room_there : plugin - 1 < length s.rooms
  room_there = omega (arith, within, sound.rooms.count)

  -- the set that goes out for a hart has its place
  place_for : (h : ℕ) → h < s.task.machine.harts
      → IfSome (closed_set (stored_of s) plugin h) (HasPlace s.task.machine.harts (slice_index_or s.rooms (plugin - 1) no_room))
  place_for h low =
      let run = task_run s.task in
      let place = place_of run plugin h s.past in
      let a = attachment_of run plugin h s.past in
      let P : Attachment → Type 0 = HasPlace s.task.machine.harts (slice_index_or s.rooms (plugin - 1) no_room) in
      let small = small_set run plugin h s.past (set_is_small run plugin (last_set (plugins run s.past) plugin) s.past sound.order.legal) in
      let waits : slice_index_or (row_at s.waiting (plugin - 1)) h None ≡ placed_at is_waiting run s.past plugin h =
      waiting_at s.task (stored_of s) sound.order h low (plugin - 1) (omega (arith, within, waiting_long s.task (stored_of s) sound.order))
      ∙ ap (λ (p : ℕ). placed_at is_waiting run s.past p h) {x = 1 + (plugin - 1)} {y = plugin} (omega (arith, number)) in
      let parks : slice_index_or (row_at s.parked (plugin - 1)) h None ≡ placed_at is_parked run s.past plugin h =
      ap (λ (rows : List (List (Option Attachment))). slice_index_or (slice_index_or rows (plugin - 1) []) h None) sound.order.parked
      ∙ table_at (placed_at is_parked run s.past) s.task.machine.harts (length (plugins run s.past).plugins) (plugin - 1) h None within low
      ∙ ap (λ (p : ℕ). placed_at is_parked run s.past p h) {x = 1 + (plugin - 1)} {y = plugin} (omega (arith, number)) in
      subst (λ (o : Option Attachment). IfSome (option_or o (slice_index_or (row_at s.parked (plugin - 1)) h None)) P) (sym waits)
      (subst (λ (o : Option Attachment). IfSome (option_or (placed_at is_waiting run s.past plugin h) o) P) (sym parks)
      (either_has P (is_waiting place) (is_parked place) a
      (λ wait. record { small = small; fits = sound.rooms.each plugin h number low (waits_kept place wait) })
      (λ park. record { small = small; fits = sound.rooms.each plugin h number low (parked_kept place park) })))

  -- the closer that goes out
  closer_is : slice_index_or s.closers (plugin - 1) None ≡ Some (notices_of (task_run s.task) plugin s.past)
  closer_is =
      let run = task_run s.task in
      let closing = is_closing (plugin_of (plugins run s.past) plugin).state in
      let notices = notices_of run plugin s.past in
      ap (λ (cs : List (Option (List Notice))). slice_index_or cs (plugin - 1) None) sound.order.closers
      ∙ closer_at run s.past plugin number
      ∙ ap (λ (b : Bool). there_if b (closing && is_some (taker plugin s.past)) notices) there
      ∙ ap (λ (took : Option ℕ). there_if true (closing && is_some took) notices) untaken
      ∙ not_out closing notices

  module _ {C : Type 0} (f : C → List Notice) (closers : List (Option C)) (same : map (option_map f) closers ≡ s.closers) where
    pub closer_below : plugin - 1 < length closers
    closer_below =
        omega (
          arith,
          within,
          length-map closers (option_map f),
          ap (λ (cs : List (Option (List Notice))). length cs) (same ∙ sound.order.closers),
          length-map-range_with_len (closer (task_run s.task) s.past) 1 (length (plugins (task_run s.task) s.past).plugins),
        )

    -- the closer that stands at its place
    pub closer_stands : (i : ℕ) (taken : Option C) → i ≡ plugin - 1 → taken ≡ slice_index_or closers i taken
        → taken ≡ slice_index_or closers i None
    closer_stands i taken at found = found ∙ get_or_default closers i taken None (omega (arith, at, closer_below))

    pub closer_given : (i : ℕ) (taken : Option C) → i ≡ plugin - 1 → taken ≡ slice_index_or closers i None
        → option_map f taken ≡ Some (notices_of (task_run was.task) plugin was.past)
    closer_given i taken at is_there =
        ap (option_map f) (is_there ∙ ap (λ (k : ℕ). slice_index_or closers k None) at)
        ∙ sym (shown.map_at (option_map f) closers (plugin - 1) None)
        ∙ ap (λ (cs : List (Option (List Notice))). slice_index_or cs (plugin - 1) None) same ∙ closer_is
        ∙ ap (λ (v : StateValue). Some (notices_of (task_run v.task) plugin v.past)) is

  -- the rows of its sets
  module _ {A : Type 0} (f : A → Attachment) (rows : List (Vec (Option A) Global)) (parks : List (Vec (Option Attachment) Global))
      (waits_same : shown.shown f rows ≡ s.waiting) (parks_same : rows_of parks ≡ s.parked) (i : ℕ) (at : i ≡ plugin - 1) where
    pub waits_below : i < length rows
    waits_below =
        omega (
          arith,
          at,
          within,
          waiting_long s.task (stored_of s) sound.order,
          shown.shown_rows f rows,
          ap (λ (table : List (List (Option Attachment))). length table) waits_same,
        )

    pub parks_below : i < length parks
    parks_below =
        omega (
          arith,
          at,
          within,
          parked_long s.task (stored_of s) sound.order,
          length-map parks (λ (r : Vec (Option Attachment) Global). r.items),
          ap (λ (table : List (List (Option Attachment))). length table) parks_same,
        )

    pub waits_wide : length (row_at (rows_of rows) i) ≡ s.task.machine.harts
    waits_wide =
        sym (shown.shown_width f rows i)
        ∙ ap (λ (cells : List (List (Option Attachment))). length (slice_index_or cells i [])) (waits_same ∙ sound.order.waiting)
        ∙ wide_is (placed_at is_waiting (task_run s.task) s.past) s.task.machine.harts (length (plugins (task_run s.task) s.past).plugins) i
        (omega (arith, at, within))

    pub parks_wide : length (row_at (rows_of parks) i) ≡ s.task.machine.harts
    parks_wide =
        ap (λ (cells : List (List (Option Attachment))). length (slice_index_or cells i [])) (parks_same ∙ sound.order.parked)
        ∙ wide_is (placed_at is_parked (task_run s.task) s.past) s.task.machine.harts (length (plugins (task_run s.task) s.past).plugins) i
        (omega (arith, at, within))

    set_same : (h : ℕ) → closing.set_at f (row_at (rows_of rows) i) (row_at (rows_of parks) i) h ≡ closed_set (stored_of s) plugin h
    set_same h =
        ap (λ (o : Option Attachment). option_or o (slice_index_or (row_at (rows_of parks) i) h None))
        (sym (shown.shown_at f rows i h)
        ∙ ap (λ (cells : List (List (Option Attachment))). slice_index_or (slice_index_or cells i []) h None) waits_same
        ∙ ap (λ (k : ℕ). slice_index_or (slice_index_or s.waiting k []) h None) at)
        ∙ ap (option_or (slice_index_or (slice_index_or s.waiting (plugin - 1) []) h None))
        (ap (λ (cells : List (List (Option Attachment))). slice_index_or (slice_index_or cells i []) h None) parks_same
        ∙ ap (λ (k : ℕ). slice_index_or (slice_index_or s.parked k []) h None) at)

    pub places_for : (harts : ℕ) (room : Room) → harts ≡ s.task.machine.harts → room ≡ slice_index_or s.rooms (plugin - 1) no_room
        → (h : ℕ) → h < harts
        → IfSome (closing.set_at f (row_at (rows_of rows) i) (row_at (rows_of parks) i) h) (HasPlace harts room)
    places_for harts room many taken h low =
        subst (λ (o : Option Attachment). IfSome o (HasPlace harts room)) (sym (set_same h))
        (subst (λ (n : ℕ). IfSome (closed_set (stored_of s) plugin h) (HasPlace n room)) (sym many)
        (subst (λ (r : Room). IfSome (closed_set (stored_of s) plugin h) (HasPlace s.task.machine.harts r)) (sym taken)
        (place_for h (omega (arith, low, many)))))

    -- what the closer is to be told
    pub told : (harts : ℕ) (next : Notice) → harts ≡ s.task.machine.harts → next.plugin ≡ plugin
        → next.how ≡ how_closed (plugin_of s.registry.table plugin).state
        → next.boxes ≡ flat_map (λ h. option_map_or (boxes_back h)
        (closing.set_at f (row_at (rows_of rows) i) (row_at (rows_of parks) i) h) []) (range_with_len 0 harts)
        → next.columns ≡ filter_map (λ h. option_map (parked_column h)
        (closing.set_at f (row_at (rows_of rows) i) (row_at (rows_of parks) i) h)) (range_with_len 0 harts)
        → next ≡ notice_of (task_run was.task) plugin was.past
    told harts next many names hows boxes columns =
        let run = task_run s.task in
        let from = notice_from run (stored_of s) plugin in
        let sets : ℕ → Option Attachment = closing.set_at f (row_at (rows_of rows) i) (row_at (rows_of parks) i) in
        let all_boxes : next.boxes ≡ from.boxes =
        boxes ∙ flat_same (λ h. option_map_or (boxes_back h) (sets h) [])
        (λ h. option_map_or (boxes_back h) (closed_set (stored_of s) plugin h) []) 0 harts
        (λ h least low. ap (λ (o : Option Attachment). option_map_or (boxes_back h) o []) (set_same h))
        ∙ ap (λ (n : ℕ). flat_map (λ h. option_map_or (boxes_back h) (closed_set (stored_of s) plugin h) []) (range_with_len 0 n)) many in
        let all_columns : next.columns ≡ from.columns =
        columns ∙ gives_same (λ h. option_map (parked_column h) (sets h))
        (λ h. option_map_or (λ a. Some (parked_column h a)) (closed_set (stored_of s) plugin h) None) 0 harts
        (λ h least low. some_or h (sets h)
        ∙ ap (λ (o : Option Attachment). option_map_or (λ a. Some (parked_column h a)) o None) (set_same h))
        ∙ ap (λ (n : ℕ). filter_map (λ h. option_map_or (λ a. Some (parked_column h a)) (closed_set (stored_of s) plugin h) None)
        (range_with_len 0 n)) many in
        notice_is next from names hows all_boxes all_columns
        ∙ notices_agree run s.past (stored_of s) plugin sound.order.legal sound.order.state_log sound.order.plugins sound.order.waiting
        sound.order.parked whole untaken
        ∙ ap (λ (v : StateValue). notice_of (task_run v.task) plugin v.past) is

  pub took_sound : (party : ℕ) (past : List Item) (waiting : List (List (Option Attachment))) (arriving : List (List (Option SetSpec)))
      (parked : List (List (Option Attachment))) (closers : List (Option (List Notice))) (rooms : List Room)
      → past ≡ Took party plugin ∷ s.past → waiting ≡ slice_set s.waiting (plugin - 1) (replicate s.task.machine.harts None)
      → arriving ≡ slice_set s.arriving (plugin - 1) (replicate s.task.machine.harts None)
      → parked ≡ slice_set s.parked (plugin - 1) (replicate s.task.machine.harts None)
      → closers ≡ slice_set s.closers (plugin - 1) None → rooms ≡ slice_set s.rooms (plugin - 1) no_room
      → IsSound (record s { past = past; waiting = waiting; arriving = arriving; parked = parked; closers = closers; rooms = rooms })
  took_sound party past waiting arriving parked closers rooms items waits arrives parks given left =
      let run = task_run s.task in
      let new = record s { past = past; waiting = waiting; arriving = arriving; parked = parked; closers = closers; rooms = rooms } in
      let out : IsOut s.task party plugin (stored_of s) (stored_of new) =
      closings_keep_order s.task party plugin (stored_of s) (stored_of new) sound.order whole untaken (record {
        past = items;
        entries = refl;
        shared = refl;
        plugins = refl;
        waiting = waits;
        parked = parks;
        harts = refl;
        closers = given;
      }) in
      record {
        order = out.order;
        arriving = arrives
            ∙ ap (λ (specs : List (List (Option SetSpec))). slice_set specs (plugin - 1) (replicate s.task.machine.harts None))
            sound.arriving
            ∙ sym out.arrivals;
        limits = sound.limits;
        memory = sound.memory;
        places = sound.places;
        starts = sound.starts;
        rooms = subst (λ (xs : List Item). HasRooms run xs rooms) (sym items)
            (subst (HasRooms run (Took party plugin ∷ s.past)) (sym left)
            (took_rooms run party plugin s.past s.rooms (slice_set s.rooms (plugin - 1) no_room) sound.order.legal sound.order.state_log
            whole (length-set s.rooms (plugin - 1) no_room)
            (λ k apart. get_or-set_other s.rooms (plugin - 1) k no_room no_room apart) sound.rooms));
        boxes = sound.boxes;
        closers = sound.closers;
        failed = sound.failed;
      }
