-- The stored state after a party has taken a closing.
use Rattle.std.proofs.Common.{◌≡◌, ◌≢◌, ◌==◌, ◌&&◌, ◌+◌, ◌-◌, ◌<◌, ◌≤◌, ◌∷◌, ◌∙◌, ℕ, zero, suc, Bool, true, false, List}
use Rattle.std.proofs.Common.{Option, Some, None, refl, sym, ap, subst, arith, length, map}
use Rattle.std.specs.Prelude.{if◌then◌else◌, slice_set, slice_index_or, replicate, is_some}
use Rattle.std.specs.List.{range_with_len}
use Rattle.std.proofs.lemmas.Bool.Decides.{nat_tests}
use Rattle.flat_model.specs.declared.plugins.SetSpec.{SetSpec}
use Rattle.flat_model.specs.declared.journals.Item.{Item}
use Rattle.flat_model.specs.declared.journals.Item.TheVariants.{Took}
use Rattle.flat_model.specs.Log.{log, journaled}
use Rattle.flat_model.specs.Registry.{registry, plugin_of, is_closing, is_complete}
use Rattle.flat_model.specs.Worlds.{world}
use Rattle.watcher_api.specs.Attachment.{Attachment}
use Rattle.run_rules.specs.Guest.{Run, plugins}
use Rattle.run_rules.specs.Heard.{progress, set_at, last_set}
use Rattle.run_rules.specs.Legal.{Legal}
use Rattle.run_rules.specs.Places.{Place, Nowhere, Waiting, WithHart, Parked, Out, IsStateLog, place_of, is_waiting, is_parked}
use Rattle.run_rules.specs.Places.{taken, taker}
use Rattle.run_rules.proofs.Fitting.{complete, installed_from, installed_within}
use Rattle.run_order.specs.Sets.{Notice, attachment_of, placed_at, shelf, harts_of, notice_of, notices_of, closers_of}
use Rattle.run_order.specs.InOrder.{InOrder, task_run, hart_kept}
use Rattle.run_order.proofs.Installing.{map_one}
use Rattle.run_order.proofs.Shelves.{map_same}
use Rattle.run_order.proofs.Taking.{map_at, placed_by}
use Rattle.kept_order.specs.Arriving.{arrival_at, arrivals}
use Rattle.kept_order.specs.Closing.{ClosingsKeepOrder}
use Rattle.kept_order.proofs.Notices.{notices_agree}
use Rattle.kept_order.proofs.Openings.{closer}

-- a list of what numbers give, where one number gives something else
set_one : {A : Type 0} (f g : ℕ → A) (a n i : ℕ) (x : A) → i < n → ((k : ℕ) → a ≤ k → k ≢ (a + i) → g k ≡ f k) → g (a + i) ≡ x
    → map g (range_with_len a n) ≡ slice_set (map f (range_with_len a n)) i x
set_one f g a zero i x within same is = absurd (omega (arith, within))
set_one f g a (suc n) zero x within same is =
    ap (λ y. y ∷ map g (range_with_len (a + 1) n)) (ap g {x = a} {y = a + 0} (omega arith) ∙ is)
    ∙ ap (λ ys. x ∷ ys) (map_same g f (a + 1) n (λ k low high. same k (omega (arith, low)) (λ e. absurd (omega (arith, low, e)))))
set_one f g a (suc n) (suc i) x within same is =
    ap (λ y. y ∷ map g (range_with_len (a + 1) n)) (same a (omega arith) (λ e. absurd (omega (arith, e))))
    ∙ ap (λ ys. f a ∷ ys) (set_one f g (a + 1) n i x (omega (arith, within))
    (λ k low off. same k (omega (arith, low)) (λ e. off (omega (arith, e)))) (ap g {x = a + 1 + i} {y = a + suc i} (omega arith) ∙ is))

pub plugin_set : {A : Type 0} (f g : ℕ → A) (n plugin : ℕ) (x : A) → 1 ≤ plugin → plugin - 1 < n
    → ((p : ℕ) → 1 ≤ p → (plugin == p) ≡ false → g p ≡ f p) → g plugin ≡ x
    → map g (range_with_len 1 n) ≡ slice_set (map f (range_with_len 1 n)) (plugin - 1) x
plugin_set f g n plugin x one within same is =
    set_one f g 1 n (plugin - 1) x within (λ p low off. same p low (grind (arith, nat_tests, off, one)))
    (ap g {x = 1 + (plugin - 1)} {y = plugin} (omega (arith, one)) ∙ is)

-- a table by plug-in and hart, in which a plug-in has nothing any more
table_set : {A : Type 0} (f g : ℕ → ℕ → Option A) (harts n plugin : ℕ) → 1 ≤ plugin → plugin - 1 < n
    → ((p h : ℕ) → (plugin == p) ≡ false → g p h ≡ f p h) → ((h : ℕ) → g plugin h ≡ None)
    → map (λ p. map (g p) (range_with_len 0 harts)) (range_with_len 1 n)
    ≡ slice_set (map (λ p. map (f p) (range_with_len 0 harts)) (range_with_len 1 n)) (plugin - 1) (replicate harts None)
table_set f g harts n plugin one within same none =
    plugin_set (λ p. map (f p) (range_with_len 0 harts)) (λ p. map (g p) (range_with_len 0 harts)) n plugin (replicate harts None)
    one within
    (λ p low off. map_same (g p) (f p) 0 harts (λ h least high. same p h off)) (map_one None (g plugin) 0 harts (λ h low high. none h))

-- Once a closing is taken, no set of the plug-in waits or is parked, and no other set moves.

waits_no_more : (place : Place) → is_waiting (taken place) ≡ false
waits_no_more Nowhere = refl
waits_no_more Waiting = refl
waits_no_more WithHart = refl
waits_no_more Parked = refl
waits_no_more Out = refl

parked_no_more : (place : Place) → is_parked (taken place) ≡ false
parked_no_more Nowhere = refl
parked_no_more Waiting = refl
parked_no_more WithHart = refl
parked_no_more Parked = refl
parked_no_more Out = refl

off_place : (run : Run) (party plugin p h : ℕ) (past : List Item) → (plugin == p) ≡ false
    → place_of run p h (Took party plugin ∷ past) ≡ place_of run p h past
unfolding place_of
off_place run party plugin p h past off = rw off refl

own_place : (run : Run) (party plugin h : ℕ) (past : List Item)
    → place_of run plugin h (Took party plugin ∷ past) ≡ taken (place_of run plugin h past)
unfolding place_of
own_place run party plugin h past =
    let own : (plugin == plugin) ≡ true = grind (arith, nat_tests) in
    rw own refl

same_attachment : (run : Run) (party plugin p h : ℕ) (past : List Item)
    → attachment_of run p h (Took party plugin ∷ past) ≡ attachment_of run p h past
unfolding registry progress
same_attachment run party plugin p h past = refl

shelf_taken : (test : Place → Bool) (run : Run) (party plugin : ℕ) (past : List Item) → 1 ≤ plugin
    → plugin - 1 < length (plugins run past).plugins → ((place : Place) → test (taken place) ≡ false)
    → shelf test run (Took party plugin ∷ past) ≡ slice_set (shelf test run past) (plugin - 1) (replicate run.harts None)
unfolding registry
shelf_taken test run party plugin past one within none =
    let now = Took party plugin ∷ past in
    table_set (placed_at test run past) (placed_at test run now) run.harts (length (plugins run past).plugins) plugin one within
    (λ p h off. placed_by test run past now p h (same_attachment run party plugin p h past)
    (ap test (off_place run party plugin p h past off)))
    (λ h. ap (λ (b : Bool). if b then Some (attachment_of run plugin h now) else None)
    (ap test (own_place run party plugin h past) ∙ none (place_of run plugin h past)))

abbrev spec_if : Run → List Item → ℕ → Bool → Option SetSpec
spec_if run past plugin there = if there then Some (set_at run plugin (last_set (plugins run past) plugin) past) else None

arrivals_taken : (run : Run) (party plugin : ℕ) (past : List Item) → 1 ≤ plugin → plugin - 1 < length (plugins run past).plugins
    → arrivals run (Took party plugin ∷ past) ≡ slice_set (arrivals run past) (plugin - 1) (replicate run.harts None)
unfolding registry
arrivals_taken run party plugin past one within =
    let now = Took party plugin ∷ past in
    table_set (arrival_at run past) (arrival_at run now) run.harts (length (plugins run past).plugins) plugin one within
    (λ p h off. ap (λ (q : Place). spec_if run past p (is_waiting q)) (off_place run party plugin p h past off))
    (λ h. ap (spec_if run past plugin) (ap is_waiting (own_place run party plugin h past) ∙ waits_no_more (place_of run plugin h past)))

-- The closer is out.

off_closer : (run : Run) (party plugin p : ℕ) (past : List Item) → (plugin == p) ≡ false
    → closer run (Took party plugin ∷ past) p ≡ closer run past p
unfolding registry taker notices_of
off_closer run party plugin p past off = rw off refl

own_closer : (run : Run) (party plugin : ℕ) (past : List Item) → is_closing (plugin_of (plugins run past) plugin).state ≡ true
    → closer run (Took party plugin ∷ past) plugin ≡ None
unfolding registry taker notices_of
own_closer run party plugin past closing =
    let own : (plugin == plugin) ≡ true = grind (arith, nat_tests) in
    rw own (ap (λ (b : Bool). if b && true then None else Some (notices_of run plugin past)) closing)

closers_taken : (run : Run) (party plugin : ℕ) (past : List Item) → is_complete (plugins run past) plugin ≡ true
    → closers_of run (Took party plugin ∷ past) ≡ slice_set (closers_of run past) (plugin - 1) None
unfolding registry
closers_taken run party plugin past is =
    let r = plugins run past in
    let c = complete r plugin 0 is in
    plugin_set (closer run past) (closer run (Took party plugin ∷ past)) (length r.plugins) plugin None
    (installed_from r plugin c.0) (installed_within r plugin c.0)
    (λ p low off. off_closer run party plugin p past off) (own_closer run party plugin past c.1)

not_out : (closing : Bool) (notices : List Notice) → (if closing && false then None else Some notices) ≡ Some notices
not_out true notices = refl
not_out false notices = refl

-- and was there before
closer_there : (run : Run) (plugin : ℕ) (past : List Item) → 1 ≤ plugin → plugin - 1 < length (plugins run past).plugins
    → taker plugin past ≡ None → slice_index_or (closers_of run past) (plugin - 1) None ≡ Some (notices_of run plugin past)
closer_there run plugin past one within none =
    let state = (plugin_of (plugins run past) plugin).state in
    map_at (closer run past) 1 (length (plugins run past).plugins) (plugin - 1) None within
    ∙ ap (closer run past) {x = 1 + (plugin - 1)} {y = plugin} (omega (arith, one))
    ∙ ap (λ (took : Option ℕ). if is_closing state && is_some took then None else Some (notices_of run plugin past)) none
    ∙ not_out (is_closing state) (notices_of run plugin past)

pub closings_keep_order : ClosingsKeepOrder
unfolding Legal IsStateLog world registry progress notices_of
closings_keep_order t party plugin old new o is none out =
    let run = task_run t in
    let r = plugins run old.past in
    let c = complete r plugin 0 is in
    let one : 1 ≤ plugin = installed_from r plugin c.0 in
    let within : plugin - 1 < length r.plugins = installed_within r plugin c.0 in
    let was = sym out.past in
    let order : InOrder t new = record {
      legal = subst (Legal run) was (o.legal, tt);
      state_log = subst (IsStateLog run) was (o.state_log, (is, none));
      journal = ap log out.entries ∙ o.journal ∙ ap journaled was;
      shared = out.shared ∙ o.shared ∙ ap (λ (xs : List Item). (world t.machine t.mode xs).shared) was;
      plugins = out.plugins ∙ o.plugins ∙ ap (plugins run) was;
      waiting = out.waiting
          ∙ ap (λ (rows : List (List (Option Attachment))). slice_set rows (plugin - 1) (replicate run.harts None)) o.waiting
          ∙ sym (shelf_taken is_waiting run party plugin old.past one within waits_no_more) ∙ ap (shelf is_waiting run) was;
      parked = out.parked
          ∙ ap (λ (rows : List (List (Option Attachment))). slice_set rows (plugin - 1) (replicate run.harts None)) o.parked
          ∙ sym (shelf_taken is_parked run party plugin old.past one within parked_no_more) ∙ ap (shelf is_parked run) was;
      harts = out.harts ∙ o.harts ∙ ap (λ (xs : List Item). map (hart_kept t xs) (harts_of run)) was;
      closers = out.closers ∙ ap (λ (rows : List (Option (List Notice))). slice_set rows (plugin - 1) None) o.closers
          ∙ sym (closers_taken run party plugin old.past is) ∙ ap (closers_of run) was;
    } in
    record {
      order = order;
      arrivals = ap (arrivals run) out.past ∙ arrivals_taken run party plugin old.past one within;
      notice = notices_agree run old.past old plugin o.legal o.state_log o.plugins o.waiting o.parked is none;
      same_notice = ap (notice_of run plugin) out.past;
      notices = ap (λ (rows : List (Option (List Notice))). slice_index_or rows (plugin - 1) None) o.closers
          ∙ closer_there run plugin old.past one within none;
      same_notices = ap (notices_of run plugin) out.past;
    }
