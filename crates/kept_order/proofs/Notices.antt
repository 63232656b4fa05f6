-- What the closer of a plug-in that is complete is told: the sets that the state has are those that the log says.
use Rattle.std.proofs.Common.{◌≡◌, ◌||◌, ◌+◌, ◌-◌, ◌<◌, ◌≤◌, ◌∷◌, [], ◌++◌, ◌∙◌, ℕ, zero, suc, Bool, true, false, List}
use Rattle.std.proofs.Common.{Option, Some, None, refl, ap, arith, length, map}
use Rattle.std.specs.Prelude.{if◌then◌else◌, slice_index_or}
use Rattle.std.specs.Option.{option_or, option_map_or}
use Rattle.std.specs.List.{range_with_len, filter_map, flat_map, cons_option}
use Rattle.flat_model.specs.declared.journals.Item.{Item}
use Rattle.flat_model.specs.Registry.{Plugins, plugin_of, is_complete, is_withdrawing}
use Rattle.score_boards.specs.declared.ParkedColumn.{ParkedColumn}
use Rattle.watcher_api.specs.declared.closers.Parked.{Parked}
use Rattle.watcher_api.specs.Attachment.{Attachment}
use Rattle.watcher_api.specs.Heard.{Heard}
use Rattle.run_rules.specs.Guest.{Run, plugins}
use Rattle.run_rules.specs.Legal.{Legal}
use Rattle.run_rules.specs.Places.{Place, place_of, IsStateLog, is_waiting, is_parked, taker}
use Rattle.run_rules.proofs.Fitting.{complete, installed_from, installed_within}
use Rattle.run_order.specs.Sets.{Notice, attachment_of, placed_at, shelf, harts_of, boxes_back, how_closed, notice_of}
use Rattle.run_order.specs.InOrder.{Stored}
use Rattle.run_order.proofs.Taking.{map_at}
use Rattle.kept_order.specs.Closing.{at_place, closed_set, notice_from}
use Rattle.kept_order.proofs.Outs.{closing_inside}

-- What is gathered of numbers.

flat_same : {A : Type 0} (f g : ℕ → List A) (a n : ℕ) → ((k : ℕ) → a ≤ k → k < a + n → f k ≡ g k)
    → flat_map f (range_with_len a n) ≡ flat_map g (range_with_len a n)
flat_same f g a zero same = refl
flat_same f g a (suc n) same =
    ap (λ xs. xs ++ flat_map f (range_with_len (a + 1) n)) (same a (omega arith) (omega arith))
    ∙ ap (λ xs. g a ++ xs) (flat_same f g (a + 1) n (λ k low high. same k (omega (arith, low)) (omega (arith, high))))

pub gives_same : {A : Type 0} (f g : ℕ → Option A) (a n : ℕ) → ((k : ℕ) → a ≤ k → k < a + n → f k ≡ g k)
    → filter_map f (range_with_len a n) ≡ filter_map g (range_with_len a n)
gives_same f g a zero same = refl
gives_same f g a (suc n) same =
    ap (λ o. cons_option o (filter_map f (range_with_len (a + 1) n))) (same a (omega arith) (omega arith))
    ∙ ap (cons_option (g a)) (gives_same f g (a + 1) n (λ k low high. same k (omega (arith, low)) (omega (arith, high))))

abbrev set_if : Bool → Attachment → Option Attachment
set_if there a = if there then Some a else None

boxes_if : (there : Bool) (sets : ℕ → Attachment) (harts : List ℕ)
    → flat_map (λ h. option_map_or (boxes_back h) (set_if there (sets h)) []) harts
    ≡ flat_map (λ h. boxes_back h (sets h)) (if there then harts else [])
boxes_if true sets harts = refl
boxes_if false sets [] = refl
boxes_if false sets (h ∷ harts) = boxes_if false sets harts

abbrev column_back : ℕ → Attachment → ParkedColumn
column_back h a = record { hart = h; column = a.column }

columns_if : (there : Bool) (sets : ℕ → Attachment) (harts : List ℕ)
    → filter_map (λ h. option_map_or (λ a. Some (column_back h a)) (set_if there (sets h)) None) harts
    ≡ map (λ h. column_back h (sets h)) (if there then harts else [])
columns_if true sets [] = refl
columns_if true sets (h ∷ harts) = ap (λ (cs : List ParkedColumn). column_back h (sets h) ∷ cs) (columns_if true sets harts)
columns_if false sets [] = refl
columns_if false sets (h ∷ harts) = columns_if false sets harts

-- What stands on a shelf.

abbrev row : (Place → Bool) → Run → List Item → ℕ → List (Option Attachment)
row test run past plugin = map (placed_at test run past plugin) (harts_of run)

on_shelf : (test : Place → Bool) (run : Run) (past : List Item) (plugin h : ℕ)
    → 1 ≤ plugin → plugin - 1 < length (plugins run past).plugins → h < run.harts
    → at_place (shelf test run past) (plugin - 1) h ≡ placed_at test run past plugin h
on_shelf test run past plugin h one within low =
    ap (λ (xs : List (Option Attachment)). slice_index_or xs h None)
    (map_at (row test run past) 1 (length (plugins run past).plugins) (plugin - 1) [] within
    ∙ ap (row test run past) {x = 1 + (plugin - 1)} {y = plugin} (omega (arith, one)))
    ∙ map_at (placed_at test run past plugin) 0 run.harts h None low
    ∙ ap (placed_at test run past plugin) {x = 0 + h} {y = h} (omega arith)

either_set : (first second : Bool) (a : Attachment) → option_or (set_if first a) (set_if second a) ≡ set_if (first || second) a
either_set true second a = refl
either_set false second a = refl

abbrev Rows : Type 0
Rows = List (List (Option Attachment))

-- the set that the state has for a hart
set_closed : (run : Run) (past : List Item) (s : Stored) (plugin h : ℕ) → h < run.harts → Legal run past → IsStateLog run past
    → s.waiting ≡ shelf is_waiting run past → s.parked ≡ shelf is_parked run past
    → is_complete (plugins run past) plugin ≡ true → taker plugin past ≡ None
    → closed_set s plugin h ≡ set_if (is_withdrawing (plugins run past) plugin) (attachment_of run plugin h past)
set_closed run past s plugin h low legal state waits parks is none =
    let r = plugins run past in
    let a = attachment_of run plugin h past in
    let place = place_of run plugin h past in
    let c = complete r plugin h is in
    let one : 1 ≤ plugin = installed_from r plugin c.0 in
    let within : plugin - 1 < length r.plugins = installed_within r plugin c.0 in
    ap (λ (rows : Rows). option_or (at_place rows (plugin - 1) h) (at_place s.parked (plugin - 1) h)) waits
    ∙ ap (λ (rows : Rows). option_or (at_place (shelf is_waiting run past) (plugin - 1) h) (at_place rows (plugin - 1) h)) parks
    ∙ ap (λ (o : Option Attachment). option_or o (at_place (shelf is_parked run past) (plugin - 1) h))
    (on_shelf is_waiting run past plugin h one within low)
    ∙ ap (option_or (placed_at is_waiting run past plugin h)) (on_shelf is_parked run past plugin h one within low)
    ∙ either_set (is_waiting place) (is_parked place) a
    ∙ ap (λ (b : Bool). set_if b a) (closing_inside run plugin h past low legal state is none)

abbrev notice_with : ℕ → Plugins → List (Parked Heard) → List ParkedColumn → Notice
notice_with plugin r boxes columns =
    record { plugin = plugin; how = how_closed (plugin_of r plugin).state; boxes = boxes; columns = columns }

abbrev boxes_from : Run → Stored → ℕ → List (Parked Heard)
boxes_from run s plugin = flat_map (λ h. option_map_or (boxes_back h) (closed_set s plugin h) []) (harts_of run)

abbrev columns_from : Run → Stored → ℕ → List ParkedColumn
columns_from run s plugin = filter_map (λ h. option_map_or (λ a. Some (column_back h a)) (closed_set s plugin h) None) (harts_of run)

pub notices_agree : (run : Run) (past : List Item) (s : Stored) (plugin : ℕ) → Legal run past → IsStateLog run past
    → s.plugins ≡ plugins run past → s.waiting ≡ shelf is_waiting run past → s.parked ≡ shelf is_parked run past
    → is_complete (plugins run past) plugin ≡ true → taker plugin past ≡ None
    → notice_from run s plugin ≡ notice_of run plugin past
notices_agree run past s plugin legal state same waits parks is none =
    let there = is_withdrawing (plugins run past) plugin in
    let sets = λ (h : ℕ). attachment_of run plugin h past in
    let boxes : boxes_from run s plugin ≡ flat_map (λ h. boxes_back h (sets h)) (if there then harts_of run else []) =
    flat_same (λ h. option_map_or (boxes_back h) (closed_set s plugin h) []) (λ h. option_map_or (boxes_back h) (set_if there (sets h)) [])
    0 run.harts (λ h least low. ap (λ (o : Option Attachment). option_map_or (boxes_back h) o [])
    (set_closed run past s plugin h (omega (arith, low)) legal state waits parks is none)) ∙ boxes_if there sets (harts_of run) in
    let columns : columns_from run s plugin ≡ map (λ h. column_back h (sets h)) (if there then harts_of run else []) =
    gives_same (λ h. option_map_or (λ a. Some (column_back h a)) (closed_set s plugin h) None)
    (λ h. option_map_or (λ a. Some (column_back h a)) (set_if there (sets h)) None)
    0 run.harts (λ h least low. ap (λ (o : Option Attachment). option_map_or (λ a. Some (column_back h a)) o None)
    (set_closed run past s plugin h (omega (arith, low)) legal state waits parks is none)) ∙ columns_if there sets (harts_of run) in
    ap (λ (r : Plugins). notice_with plugin r (boxes_from run s plugin) (columns_from run s plugin)) same
    ∙ ap (λ (bs : List (Parked Heard)). notice_with plugin (plugins run past) bs (columns_from run s plugin)) boxes
    ∙ ap (notice_with plugin (plugins run past) (flat_map (λ h. boxes_back h (sets h)) (if there then harts_of run else []))) columns
