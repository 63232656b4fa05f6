-- Sets that wait in the state for a hart.
use Rattle.std.proofs.Common.{◌≡◌, ◌≢◌, ◌==◌, ◌&&◌, ◌+◌, ◌-◌, ◌<◌, ◌≤◌, ◌∷◌, [], ◌∙◌, ℕ, zero, suc, Bool, true, false, List}
use Rattle.std.proofs.Common.{Option, Some, None, All, inl, inr, length, refl, sym, ap, subst, arith}
use Rattle.std.specs.Prelude.{if◌then◌else◌, slice_index_or, map, option_map, Vec}
use Rattle.std.specs.Global.{Global}
use Rattle.std.specs.List.{range_with_len}
use Rattle.std.specs.Cmp.Derive.{both_true}
use Rattle.std.proofs.lemmas.Bool.{cases_Bool, and_right, false≢true}
use Rattle.std.proofs.lemmas.List.Elements.{All-nil, All-cons}
use Rattle.std.proofs.lemmas.List.FromFn.{length-map-range_with_len, get_or-map-range_with_len}
use Rattle.flat_model.specs.declared.plugins.SetSpec.{SetSpec}
use Rattle.flat_model.specs.declared.journals.Item.{Item}
use Rattle.flat_model.specs.declared.journals.Item.TheVariants.{Got}
use Rattle.flat_model.specs.declared.journals.PlugState.{PlugState}
use Rattle.flat_model.specs.declared.journals.PlugState.TheVariants.{Live}
use Rattle.flat_model.specs.Registry.{Plugins, registry, plugin_of, is_installed, state_of}
use Rattle.watcher_api.specs.Attachment.{Attachment, with_set}
use Rattle.run_rules.specs.Guest.{Run, plugins}
use Rattle.run_rules.specs.Heard.{set_at, last_set, is_live}
use Rattle.run_rules.specs.Legal.{is_there}
use Rattle.run_rules.specs.Places.{Place, Nowhere, Waiting, WithHart, Parked, Out, place_of, is_waiting, is_with_hart, got, may_get}
use Rattle.run_order.specs.Sets.{attachment_of, placed_at, sets_for}
use Rattle.run_order.specs.Laws.{with_place}
use Rattle.run_order.specs.InOrder.{task_run}
use Rattle.run_rules.proofs.Turns.{first_true, rest_true}
use Rattle.run_order.proofs.Taking.{own_place}
use Rattle.run_order.proofs.Taking.{waiting_is as waits_is}
use Rattle.kept_order.specs.Hearing.{specs_for}
use Rattle.kept_order.specs.Arriving.{arrivals, arrival_at, with_spec, HasArrived}
use Rattle.kept_order.specs.Taking.{HasGot}
use Rattle.kept_order.proofs.Gone.{there_low}
use Rattle.kept_order.proofs.Numbered.{all_given, AreNumbered}
use Rattle.kept_order.proofs.Takes.{takes_keep_order, takes_add_sets}
use Rattle.kept_order.proofs.Arrivals.{takes_arrive}
use Rattle.host_state.specs.Rooms.{HasRooms}
use Rattle.host_state.proofs.RoomKeeping.{got_rooms}
use Rattle.host_state.specs.Tables.{rows_of, row_at}
use Rattle.host_state.specs.State.{StateValue, IsSound, stored_of}
use Rattle.host_state.specs.Taking.{IsTakenOut}
use Rattle.host_state.proofs.Shown.{shown, shown_rows, shown_width, shown_by, shown_at, shown_with, same_place}

-- what stands where a test says so
none_there : {A : Type 0} (b : Bool) (x : A) → (if b then Some x else None) ≡ None → b ≡ false
none_there true x none = absurd cc
none_there false x none = refl

some_there : {A : Type 0} (b : Bool) (x y : A) → (if b then Some x else None) ≡ Some y → b ≡ true
some_there true x y some = refl
some_there false x y some = absurd cc

same_there : {A : Type 0} (b : Bool) (x y : A) → (if b then Some x else None) ≡ Some y → y ≡ x
same_there true x y some = cc
same_there false x y some = absurd cc

-- The tables of a state by its log.

module _ (s : StateValue) (sound : IsSound s) (h plugin : ℕ) (least : 1 ≤ plugin) (most : plugin ≤ length s.registry.table.plugins)
    (there : is_there (task_run s.task) h s.past ≡ true) where
  low : h < s.task.machine.harts
  low = there_low (task_run s.task) h s.past there

  installed : plugin - 1 < length (plugins (task_run s.task) s.past).plugins
  installed = omega (arith, least, most, ap (λ (r : Plugins). length r.plugins) sound.order.plugins)

  row_is_there : plugin - 1 < length s.waiting
  row_is_there =
      omega (
        arith,
        installed,
        ap length sound.order.waiting,
        length-map-range_with_len (λ p. map (placed_at is_waiting (task_run s.task) s.past p) (range_with_len 0 s.task.machine.harts)) 1
            (length (plugins (task_run s.task) s.past).plugins),
      )

  waits_at : slice_index_or s.waiting (plugin - 1) []
      ≡ map (placed_at is_waiting (task_run s.task) s.past plugin) (range_with_len 0 s.task.machine.harts)
  waits_at =
      ap (λ (rows : List (List (Option Attachment))). slice_index_or rows (plugin - 1) []) sound.order.waiting
      ∙ get_or-map-range_with_len (λ p. map (placed_at is_waiting (task_run s.task) s.past p) (range_with_len 0 s.task.machine.harts)) 1
      (length (plugins (task_run s.task) s.past).plugins) (plugin - 1) plugin [] installed (omega (arith, least))

  place_is_there : h < length (slice_index_or s.waiting (plugin - 1) [])
  place_is_there =
      omega (
        arith,
        low,
        ap length waits_at,
        length-map-range_with_len (placed_at is_waiting (task_run s.task) s.past plugin) 0 s.task.machine.harts,
      )

  waiting_is : slice_index_or (slice_index_or s.waiting (plugin - 1) []) h None ≡ placed_at is_waiting (task_run s.task) s.past plugin h
  waiting_is =
      ap (λ (row : List (Option Attachment)). slice_index_or row h None) waits_at
      ∙ get_or-map-range_with_len (placed_at is_waiting (task_run s.task) s.past plugin) 0 s.task.machine.harts h h None low (omega arith)

  arriving_is : slice_index_or (slice_index_or s.arriving (plugin - 1) []) h None ≡ arrival_at (task_run s.task) s.past plugin h
  arriving_is =
      ap (λ (rows : List (List (Option SetSpec))). slice_index_or (slice_index_or rows (plugin - 1) []) h None) sound.arriving
      ∙ ap (λ (row : List (Option SetSpec)). slice_index_or row h None)
      (get_or-map-range_with_len (λ p. map (arrival_at (task_run s.task) s.past p) (range_with_len 0 s.task.machine.harts)) 1
      (length (plugins (task_run s.task) s.past).plugins) (plugin - 1) plugin [] installed (omega (arith, least)))
      ∙ get_or-map-range_with_len (arrival_at (task_run s.task) s.past plugin) 0 s.task.machine.harts h h None low (omega arith)

  -- nothing waits that the hart may have
  none_waits : placed_at is_waiting (task_run s.task) s.past plugin h ≡ None → may_get (task_run s.task) h plugin s.past ≡ false
  none_waits none =
      let waits : is_waiting (place_of (task_run s.task) plugin h s.past) ≡ false =
      none_there (is_waiting (place_of (task_run s.task) plugin h s.past)) (attachment_of (task_run s.task) plugin h s.past) none in
      let live = is_live (plugin_of (plugins (task_run s.task) s.past) plugin).state in
      and_right (is_there (task_run s.task) h s.past) (live && is_waiting (place_of (task_run s.task) plugin h s.past))
      (and_right live (is_waiting (place_of (task_run s.task) plugin h s.past)) waits)

  -- the hart may have what waits
  may_take : (a : Attachment) → state_of s.registry.table plugin ≡ Some Live
      → placed_at is_waiting (task_run s.task) s.past plugin h ≡ Some a → may_get (task_run s.task) h plugin s.past ≡ true
  may_take a live some =
      let state : Live ≡ (plugin_of s.registry.table plugin).state =
      same_there (is_installed s.registry.table plugin) (plugin_of s.registry.table plugin).state Live live in
      let is : is_live (plugin_of (plugins (task_run s.task) s.past) plugin).state ≡ true =
      ap (λ (r : Plugins). is_live (plugin_of r plugin).state) (sym sound.order.plugins) ∙ ap is_live (sym state) in
      both_true there (both_true is
      (some_there (is_waiting (place_of (task_run s.task) plugin h s.past)) (attachment_of (task_run s.task) plugin h s.past) a some))

-- The state without the set is in order.
taken_out : (s : StateValue) (h plugin : ℕ) (past : List Item) (waiting : List (List (Option Attachment)))
    (arriving : List (List (Option SetSpec))) → IsSound s → 1 ≤ plugin → plugin ≤ length s.registry.table.plugins
    → may_get (task_run s.task) h plugin s.past ≡ true
    → past ≡ Got h plugin ∷ s.past → waiting ≡ with_place s.waiting (plugin - 1) h None
    → arriving ≡ with_place s.arriving (plugin - 1) h None
    → IsSound (record s { past = past; waiting = waiting; arriving = arriving })
taken_out s h plugin past waiting arriving sound least most may is gone went =
    let run = task_run s.task in
    let now : StateValue = record s { past = past; waiting = waiting; arriving = arriving } in
    let there : plugin ≤ length (plugins run s.past).plugins =
    subst (λ (r : Plugins). plugin ≤ length r.plugins) sound.order.plugins most in
    let arrived : HasArrived run h plugin s.past =
    takes_arrive run h plugin s.past sound.order.legal sound.order.state_log least there
    (there_low run h s.past (first_true _ _ may)) may in
    let got : HasGot h plugin (stored_of s) (stored_of now) = record {
      past = is;
      entries = refl;
      shared = refl;
      plugins = refl;
      waiting = gone;
      parked = refl;
      harts = refl;
      closers = refl;
    } in
    record {
      order = takes_keep_order s.task h plugin (stored_of s) (stored_of now) sound.order least may got;
      arriving = went ∙ ap (λ (rows : List (List (Option SetSpec))). with_place rows (plugin - 1) h None) sound.arriving
          ∙ sym arrived.left ∙ ap (arrivals run) (sym is);
      limits = sound.limits;
      memory = sound.memory;
      places = sound.places;
      starts = sound.starts;
      boxes = sound.boxes;
      closers = sound.closers;
      rooms = subst (λ (xs : List Item). HasRooms run xs s.rooms) (sym is) (got_rooms run h plugin s.past s.rooms sound.rooms);
      failed = sound.failed;
    }

-- The rows of a state, at whose places sets stand with their filters.

record IsStanding (s : StateValue) (h plugin : ℕ) (set : Attachment) (spec : SetSpec) : Type 0 where
  pub may : may_get (task_run s.task) h plugin s.past ≡ true
  pub attached : set ≡ attachment_of (task_run s.task) plugin h s.past
  pub filters : spec ≡ set_at (task_run s.task) plugin (last_set (plugins (task_run s.task) s.past) plugin) s.past

module _ {A : Type 0} (set_in : A → Attachment) (spec_in : A → SetSpec) (s : StateValue) (sound : IsSound s) (h plugin : ℕ)
    (least : 1 ≤ plugin) (most : plugin ≤ length s.registry.table.plugins) (there : is_there (task_run s.task) h s.past ≡ true)
    (rows : List (Vec (Option A) Global)) (sets : s.waiting ≡ shown set_in rows) (specs : s.arriving ≡ shown spec_in rows) where
  abbrev here : Option A
  here = slice_index_or (row_at (rows_of rows) (plugin - 1)) h None

  row_below : plugin - 1 < length rows
  row_below = omega (arith, row_is_there s sound h plugin least most there, ap length sets, shown_rows set_in rows)

  place_below : h < length (row_at (rows_of rows) (plugin - 1))
  place_below =
      omega (
        arith,
        place_is_there s sound h plugin least most there,
        ap (λ (cells : List (List (Option Attachment))). length (slice_index_or cells (plugin - 1) [])) sets,
        shown_width set_in rows (plugin - 1),
      )

  set_here : option_map set_in here ≡ placed_at is_waiting (task_run s.task) s.past plugin h
  set_here =
      sym (shown_at set_in rows (plugin - 1) h)
      ∙ ap (λ (cells : List (List (Option Attachment))). slice_index_or (slice_index_or cells (plugin - 1) []) h None) (sym sets)
      ∙ waiting_is s sound h plugin least most there

  spec_here : option_map spec_in here ≡ arrival_at (task_run s.task) s.past plugin h
  spec_here =
      sym (shown_at spec_in rows (plugin - 1) h)
      ∙ ap (λ (cells : List (List (Option SetSpec))). slice_index_or (slice_index_or cells (plugin - 1) []) h None) (sym specs)
      ∙ arriving_is s sound h plugin least most there

  none_stands : here ≡ None → may_get (task_run s.task) h plugin s.past ≡ false
  none_stands none = none_waits s sound h plugin least most there (sym set_here ∙ ap (option_map set_in) none)

  one_stands : (a : A) → here ≡ Some a → state_of s.registry.table plugin ≡ Some Live → IsStanding s h plugin (set_in a) (spec_in a)
  one_stands a some live =
      let waits = is_waiting (place_of (task_run s.task) plugin h s.past) in
      let set : placed_at is_waiting (task_run s.task) s.past plugin h ≡ Some (set_in a) = sym set_here ∙ ap (option_map set_in) some in
      let spec : arrival_at (task_run s.task) s.past plugin h ≡ Some (spec_in a) = sym spec_here ∙ ap (option_map spec_in) some in
      record {
        may = may_take s sound h plugin least most there (set_in a) live set;
        attached = same_there waits (attachment_of (task_run s.task) plugin h s.past) (set_in a) set;
        filters = same_there waits
            (set_at (task_run s.task) plugin (last_set (plugins (task_run s.task) s.past) plugin) s.past) (spec_in a) spec;
      }

  module _ (now : List (Vec (Option A) Global)) (left : rows_of now ≡ with_place (rows_of rows) (plugin - 1) h None) where
    sets_left : shown set_in now ≡ with_place s.waiting (plugin - 1) h None
    sets_left =
        shown_with set_in rows now (plugin - 1) h None left
        ∙ ap (λ (cells : List (List (Option Attachment))). with_place cells (plugin - 1) h None) (sym sets)

    specs_left : shown spec_in now ≡ with_place s.arriving (plugin - 1) h None
    specs_left =
        shown_with spec_in rows now (plugin - 1) h None left
        ∙ ap (λ (cells : List (List (Option SetSpec))). with_place cells (plugin - 1) h None) (sym specs)

    rows_stay : here ≡ None → rows_of now ≡ rows_of rows
    rows_stay none = left ∙ same_place (rows_of rows) (plugin - 1) h none

    sets_stay : here ≡ None → shown set_in now ≡ s.waiting
    sets_stay none = shown_by set_in now ∙ ap (map (map (option_map set_in))) (rows_stay none) ∙ sym (shown_by set_in rows) ∙ sym sets

    specs_stay : here ≡ None → shown spec_in now ≡ s.arriving
    specs_stay none = shown_by spec_in now ∙ ap (map (map (option_map spec_in))) (rows_stay none) ∙ sym (shown_by spec_in rows) ∙ sym specs

-- a state with the same tables
same_state : (s : StateValue) (waiting : List (List (Option Attachment))) (arriving : List (List (Option SetSpec)))
    → waiting ≡ s.waiting → arriving ≡ s.arriving → record s { waiting = waiting; arriving = arriving } ≡ s
same_state s waiting arriving sets specs =
    ap (λ (w : List (List (Option Attachment))). record s { waiting = w; arriving = arriving }) sets
    ∙ ap (λ (a : List (List (Option SetSpec))). record s { arriving = a }) specs

-- no set of a plug-in is with a hart for which its set waits
none_of : {A : Type 0} (number : A → ℕ) (test : ℕ → Bool) (made : ℕ → A) (q a n : ℕ) → AreNumbered number made → test q ≡ false
    → All (λ x. number x ≢ q) (all_given test made a n)
none_of number test made q a zero numbered none = All-nil (λ x. number x ≢ q)
none_of number test made q a (suc n) numbered none =
    elim (cases_Bool (test a)) as (λ r. All (λ x. number x ≢ q) (all_given test made a (suc n))) [
      | inl is ↦ rw is (All-cons (λ x. number x ≢ q) (made a) (all_given test made (a + 1) n)
          (λ e. false≢true (sym none ∙ ap test (sym e ∙ numbered a) ∙ is)) (none_of number test made q (a + 1) n numbered none))
      | inr off ↦ rw off (none_of number test made q (a + 1) n numbered none)
    ]

-- what becomes of a state of which a set was taken
taken_of : (h plugin : ℕ) (s v now : StateValue) (set : Attachment) (spec : SetSpec) → IsSound s → 1 ≤ plugin
    → plugin ≤ length s.registry.table.plugins → IsStanding s h plugin set spec → s ≡ v → now.past ≡ Got h plugin ∷ s.past
    → now ≡ record s { past = now.past; waiting = now.waiting; arriving = now.arriving } → IsTakenOut h plugin v now set spec
taken_of h plugin s v now set spec sound least most stands is past rest =
    let run = task_run s.task in
    let there : plugin ≤ length (plugins run s.past).plugins =
    subst (λ (r : Plugins). plugin ≤ length r.plugins) sound.order.plugins most in
    let arrived : HasArrived run h plugin s.past =
    takes_arrive run h plugin s.past sound.order.legal sound.order.state_log least there
    (there_low run h s.past (first_true _ _ stands.may)) stands.may in
    let waits : is_waiting (place_of run plugin h s.past) ≡ true =
    rest_true (is_live (plugin_of (plugins run s.past) plugin).state) _ (rest_true (is_there run h s.past) _ stands.may) in
    let away : is_with_hart (place_of run plugin h s.past) ≡ false = ap is_with_hart (waits_is (place_of run plugin h s.past) waits) in
    let n = length (plugins run s.past).plugins in
    subst (λ (x : StateValue). IsTakenOut h plugin x now set spec) is (record {
      may = stands.may;
      number = ap (λ (a : Attachment). a.plugin) stands.attached;
      past = past;
      rest = rest;
      no_set = none_of (λ (a : Attachment). a.plugin) (λ p. is_with_hart (place_of run p h s.past))
          (λ p. attachment_of run p h s.past) plugin 1 n (λ p. refl) away;
      no_filters = none_of (λ (f : ℕ × SetSpec). f.0) (λ p. is_with_hart (place_of run p h s.past))
          (λ p. (p, set_at run p (last_set (plugins run s.past) p) s.past)) plugin 1 n (λ p. refl) away;
      sets = ap (sets_for is_with_hart run h) past ∙ takes_add_sets run h plugin s.past least stands.may
          ∙ ap (λ (a : Attachment). with_set a (sets_for is_with_hart run h s.past)) (sym stands.attached);
      specs = ap (specs_for run h) past ∙ arrived.had
          ∙ ap (λ (f : SetSpec). with_spec (plugin, f) (specs_for run h s.past)) (sym stands.filters);
    })

-- What `take_waiting` makes of a state of value v, whose fields have the value s: it looks at a place of the rows, and empties it.

pub record IsLeft (h plugin : ℕ) (v now : StateValue) : Type 0 where
  pub sound : IsSound now
  pub none : may_get (task_run v.task) h plugin v.past ≡ false
  pub same : now ≡ v

pub record IsOut (h plugin : ℕ) (v now : StateValue) (set : Attachment) (spec : SetSpec) : Type 0 where
  pub sound : IsSound now
  pub out : IsTakenOut h plugin v now set spec

module _ {A : Type 0} (set_in : A → Attachment) (spec_in : A → SetSpec) (s v : StateValue) (sound : IsSound s) (is : s ≡ v) (h plugin : ℕ)
    (least : 1 ≤ plugin) (most : plugin ≤ length v.registry.table.plugins) (there : is_there (task_run v.task) h v.past ≡ true)
    (rows : List (Vec (Option A) Global)) (sets : s.waiting ≡ shown set_in rows) (specs : s.arriving ≡ shown spec_in rows)
    (held : List (Vec (Option A) Global)) (number place : ℕ)
    (held_is : held ≡ rows) (number_is : number ≡ plugin) (place_is : place ≡ h) where
  most_of : plugin ≤ length s.registry.table.plugins
  most_of = subst (λ (x : StateValue). plugin ≤ length x.registry.table.plugins) (sym is) most

  there_of : is_there (task_run s.task) h s.past ≡ true
  there_of = subst (λ (x : StateValue). is_there (task_run x.task) h x.past ≡ true) (sym is) there

  pub row_is_below : number - 1 < length held
  row_is_below = rw (held_is, number_is) (row_below set_in spec_in s sound h plugin least most_of there_of rows sets specs)

  pub place_is_below : place < length (row_at (rows_of held) (number - 1))
  place_is_below = rw (held_is, number_is, place_is) (place_below set_in spec_in s sound h plugin least most_of there_of rows sets specs)

  module _ (found : Option A) (taken : found ≡ slice_index_or (row_at (rows_of held) (number - 1)) place None)
      (new now : List (Vec (Option A) Global))
      (left : rows_of new ≡ with_place (rows_of held) (number - 1) place None) (now_is : now ≡ new) where
    here_is : (x : Option A) → found ≡ x → slice_index_or (row_at (rows_of rows) (plugin - 1)) h None ≡ x
    here_is x was = sym (rw (held_is, number_is, place_is) at taken) ∙ was

    left_is : rows_of now ≡ with_place (rows_of rows) (plugin - 1) h None
    left_is = ap rows_of now_is ∙ (rw (held_is, number_is, place_is) at left)

    pub untaken : found ≡ None → IsLeft h plugin v (record s { waiting = shown set_in now; arriving = shown spec_in now })
    untaken none =
        let here = here_is None none in
        let same = same_state s (shown set_in now) (shown spec_in now)
        (sets_stay set_in spec_in s sound h plugin least most_of there_of rows sets specs now left_is here)
        (specs_stay set_in spec_in s sound h plugin least most_of there_of rows sets specs now left_is here) in
        record {
          sound = subst IsSound (sym same) sound;
          none = subst (λ (x : StateValue). may_get (task_run x.task) h plugin x.past ≡ false) is
              (none_stands set_in spec_in s sound h plugin least most_of there_of rows sets specs here);
          same = same ∙ is;
        }

    pub taken_away : (a : A) (state : PlugState) (past : List Item) → found ≡ Some a → state ≡ Live
        → Some state ≡ state_of s.registry.table plugin → past ≡ Got h plugin ∷ s.past
        → IsOut h plugin v (record s { past = past; waiting = shown set_in now; arriving = shown spec_in now }) (set_in a) (spec_in a)
    taken_away a state past some live was got =
        let stands : IsStanding s h plugin (set_in a) (spec_in a) =
        one_stands set_in spec_in s sound h plugin least most_of there_of rows sets specs a (here_is (Some a) some)
        (sym was ∙ ap (λ (x : PlugState). Some x) live) in
        record {
          sound = taken_out s h plugin past (shown set_in now) (shown spec_in now) sound least most_of stands.may got
              (sets_left set_in spec_in s sound h plugin least most_of there_of rows sets specs now left_is)
              (specs_left set_in spec_in s sound h plugin least most_of there_of rows sets specs now left_is);
          out = taken_of h plugin s v (record s { past = past; waiting = shown set_in now; arriving = shown spec_in now })
              (set_in a) (spec_in a) sound least most_of stands is got refl;
        }

-- What a hart may have yet.

got_off : (place : Place) → is_waiting (got place) ≡ false
got_off Nowhere = refl
got_off Waiting = refl
got_off WithHart = refl
got_off Parked = refl
got_off Out = refl

-- what it may not have it may not have either once it took another set
pub still_none : (run : Run) (h q p : ℕ) (past : List Item) → may_get run h p past ≡ false → may_get run h p (Got h q ∷ past) ≡ false
unfolding place_of registry
still_none run h q p past none =
    let there = is_there run h past in
    let live = is_live (plugin_of (plugins run past) p).state in
    elim (cases_Bool ((h == h) && (q == p))) [
      | inr off ↦ rw off none
      | inl own ↦ rw own (and_right there (live && is_waiting (got (place_of run p h past)))
          (and_right live (is_waiting (got (place_of run p h past))) (got_off (place_of run p h past))))
    ]

-- nor the set that it took
pub own_none : (run : Run) (h plugin : ℕ) (past : List Item) → may_get run h plugin (Got h plugin ∷ past) ≡ false
own_none run h plugin past =
    let now = Got h plugin ∷ past in
    let off : is_waiting (place_of run plugin h now) ≡ false =
    ap is_waiting (own_place run h plugin past) ∙ got_off (place_of run plugin h past) in
    let live = is_live (plugin_of (plugins run now) plugin).state in
    and_right (is_there run h now) (live && is_waiting (place_of run plugin h now))
    (and_right live (is_waiting (place_of run plugin h now)) off)
