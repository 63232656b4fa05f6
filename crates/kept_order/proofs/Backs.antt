-- The stored state after a hart has given a plug-in back.
use Rattle.std.proofs.Common.{◌≡◌, ◌==◌, ◌&&◌, ◌+◌, ◌-◌, ◌<◌, ◌≤◌, ◌∷◌, [], ◌++◌, ◌∙◌, ℕ, zero, suc, Bool, true, false, not, List}
use Rattle.std.proofs.Common.{Option, Some, None, refl, sym, ap, subst, arith, inl, inr, length, map}
use Rattle.std.specs.Prelude.{if◌then◌else◌, slice_index_or, slice_set, is_some}
use Rattle.std.specs.Option.{option_or}
use Rattle.std.specs.List.{range_with_len, filter_map}
use Rattle.std.proofs.lemmas.Bool.{cases_Bool, false≢true, and_right}
use Rattle.std.proofs.lemmas.Bool.Decides.{nat_tests}
use Rattle.std.proofs.lemmas.List.{length-set, length-map, length-replicate}
use Rattle.flat_model.specs.declared.plugins.SetSpec.{SetSpec}
use Rattle.flat_model.specs.declared.journals.How.TheVariants as how
use Rattle.flat_model.specs.declared.journals.Item.{Item}
use Rattle.flat_model.specs.declared.journals.Item.TheVariants.{Step, Ordered, GaveBack, Left, Told, Got, Took}
use Rattle.flat_model.specs.declared.journals.Order.{Order}
use Rattle.flat_model.specs.declared.journals.Order.TheVariants.{Install, Register, Reset, Uninstall}
use Rattle.flat_model.specs.declared.journals.PlugState.{PlugState}
use Rattle.flat_model.specs.declared.journals.PlugState.TheVariants.{Live, Idle, Resetting, Leaving, Gone}
use Rattle.flat_model.specs.Log.{journaled}
use Rattle.flat_model.specs.Registry.{Plugins, Plugin, no_plugin, registry, plugin_of, sets_of, is_installed, is_closing, has_left, owes}
use Rattle.flat_model.specs.Registry.{after_order, after_back}
use Rattle.flat_model.specs.Registry.{with_set, withdrawn, without_hart, done_state}
use Rattle.flat_model.specs.Worlds.{world}
use Rattle.watcher_api.specs.Attachment.{Attachment}
use Rattle.run_rules.specs.Guest.{Run, plugins}
use Rattle.run_rules.specs.Heard.{progress, set_at, last_set}
use Rattle.run_rules.specs.Legal.{Legal, numbers, may_give_back}
use Rattle.run_rules.specs.Places.{Place, Nowhere, Waiting, WithHart, Parked, Out, place_of, given_back, fits, owed_by}
use Rattle.run_rules.specs.Places.{IsStateLog, is_waiting, is_with_hart, is_parked, taker}
use Rattle.run_rules.proofs.Fitting.{installed_from, installed_within, left_at, number_is, places_fit}
use Rattle.run_rules.proofs.Growing.{fresh}
use Rattle.run_rules.proofs.Keeping.{placed_sets}
use Rattle.run_rules.proofs.Turns.{first_true, rest_true}
use Rattle.run_order.specs.Laws.{with_place}
use Rattle.run_order.specs.Sets.{attachment_of, placed_at, shelf, harts_of, notices_of, closers_of}
use Rattle.run_order.specs.InOrder.{task_run, hart_kept}
use Rattle.run_order.proofs.Installing.{last_made}
use Rattle.run_order.proofs.Shelves.{map_same}
use Rattle.run_order.proofs.Taking.{placed_by}
use Rattle.kept_order.specs.Arriving.{arrival_at, arrivals}
use Rattle.kept_order.specs.Hearing.{spec_at}
use Rattle.kept_order.specs.Returning.{with_some, set_back, BacksKeepOrder, BacksTakeSets}
use Rattle.kept_order.proofs.Leaves.{knows_harts}
use Rattle.kept_order.proofs.Arrivals.{last_spec, same_arrival}
use Rattle.kept_order.proofs.Openings.{closer}
use Rattle.kept_order.proofs.Tables.{table, table_same, table_place, gives_others}

-- A hart that owes a Back is one of the run.

-- at each place of a list of plug-ins at most n harts owe a Back
abbrev OwingFits : ℕ → List Plugin → Type 0
OwingFits n ps = (i : ℕ) → length (slice_index_or ps i no_plugin).owing ≤ n

set_owing : (n : ℕ) (ps : List Plugin) (k : ℕ) (x : Plugin) → length x.owing ≤ n → OwingFits n ps → OwingFits n (slice_set ps k x)
set_owing n [] k x few fit i = fit i
set_owing n (p ∷ ps) zero x few fit zero = few
set_owing n (p ∷ ps) zero x few fit (suc i) = fit (suc i)
set_owing n (p ∷ ps) (suc k) x few fit zero = fit zero
set_owing n (p ∷ ps) (suc k) x few fit (suc i) = set_owing n ps k x few (λ j. fit (suc j)) i

append_owing : (n : ℕ) (ps : List Plugin) (x : Plugin) → length x.owing ≤ n → OwingFits n ps → OwingFits n (ps ++ x ∷ [])
append_owing n [] x few fit zero = few
append_owing n [] x few fit (suc i) = omega arith
append_owing n (p ∷ ps) x few fit zero = fit zero
append_owing n (p ∷ ps) x few fit (suc i) = append_owing n ps x few (λ j. fit (suc j)) i

order_owing : (n : ℕ) (r : Plugins) (order : Order) → r.harts ≡ n → length r.gone ≡ n → OwingFits n r.plugins
    → OwingFits n (after_order order r).plugins
order_owing n r (Install spec) harts gone fit =
    append_owing n r.plugins (fresh r spec) (omega (arith, harts, length-replicate r.harts false)) fit
order_owing n r (Register number spec) harts gone fit =
    set_owing n r.plugins (number - 1) (with_set (plugin_of r number) spec) (fit (number - 1)) fit
order_owing n r (Reset number) harts gone fit =
    set_owing n r.plugins (number - 1) (withdrawn (plugin_of r number) Resetting how.Reset r.gone)
    (omega (arith, gone, length-map r.gone not)) fit
order_owing n r (Uninstall number) harts gone fit =
    set_owing n r.plugins (number - 1) (withdrawn (plugin_of r number) Leaving how.Uninstall r.gone)
    (omega (arith, gone, length-map r.gone not)) fit

owing_fits : (run : Run) (past : List Item) → OwingFits run.harts (plugins run past).plugins
unfolding registry
owing_fits run [] i = omega arith
owing_fits run (Step hart ∷ past) i = owing_fits run past i
owing_fits run (Ordered origin order ∷ past) i =
    order_owing run.harts (plugins run past) order (knows_harts run past).harts (knows_harts run past).gone (owing_fits run past) i
owing_fits run (GaveBack hart number ∷ past) i =
    let p = plugin_of (plugins run past) number in
    set_owing run.harts (plugins run past).plugins (number - 1) (record p { owing = slice_set p.owing hart false })
    (omega (arith, length-set p.owing hart false, owing_fits run past (number - 1))) (owing_fits run past) i
owing_fits run (Left hart ∷ past) i =
    let ps = (plugins run past).plugins in
    let p = slice_index_or ps i no_plugin in
    let long : length (slice_index_or (map (without_hart hart) ps) i no_plugin).owing ≡ length p.owing =
    ap (λ (q : Plugin). length q.owing) (left_at hart ps i) ∙ length-set p.owing hart false in
    omega (arith, long, owing_fits run past i)
owing_fits run (Told party number ∷ past) i =
    let p = plugin_of (plugins run past) number in
    set_owing run.harts (plugins run past).plugins (number - 1) (record p { state = done_state p.state })
    (owing_fits run past (number - 1)) (owing_fits run past) i
owing_fits run (Got hart number ∷ past) i = owing_fits run past i
owing_fits run (Took party number ∷ past) i = owing_fits run past i

true_within : (bs : List Bool) (i : ℕ) → slice_index_or bs i false ≡ true → i < length bs
true_within [] i is = absurd (false≢true is)
true_within (b ∷ bs) zero is = omega arith
true_within (b ∷ bs) (suc i) is = omega (arith, true_within bs i is)

-- what a hart that may give a plug-in back has to do with it
pub record Owes (run : Run) (h plugin : ℕ) (past : List Item) : Type 0 where
  pub one : 1 ≤ plugin
  pub most : plugin < 1 + length (plugins run past).plugins
  pub hart : h < run.harts
  pub owed : owed_by (plugins run past) plugin h ≡ true

pub gives_owed : (run : Run) (h plugin : ℕ) (past : List Item) → may_give_back run h plugin past ≡ true → Owes run h plugin past
gives_owed run h plugin past may =
    let r = plugins run past in
    let owed : owes r h plugin ≡ true = first_true _ _ may in
    let is : is_installed r plugin ≡ true = first_true _ _ owed in
    let here : owed_by r plugin h ≡ true = rest_true (is_installed r plugin) _ owed in
    record {
      one = installed_from r plugin is;
      most = omega (arith, installed_from r plugin is, installed_within r plugin is);
      hart = omega (arith, true_within (plugin_of r plugin).owing h here, owing_fits run past (plugin - 1));
      owed = here;
    }

-- What a Back leaves as it was.

-- a plug-in once hart h has given it back
abbrev without_back : Plugin → ℕ → Plugin
without_back p h = record p { owing = slice_set p.owing h false }

pub same_sets : (r : Plugins) (h number p : ℕ) → sets_of (after_back h number r) p ≡ sets_of r p
same_sets r h number p = placed_sets r number p (without_back (plugin_of r number) h) refl

pub same_long : (r : Plugins) (h number : ℕ) → length (after_back h number r).plugins ≡ length r.plugins
same_long r h number = length-set r.plugins (number - 1) (without_back (plugin_of r number) h)

same_attachment : (run : Run) (h number p j : ℕ) (past : List Item)
    → attachment_of run p j (GaveBack h number ∷ past) ≡ attachment_of run p j past
unfolding registry progress
same_attachment run h number p j past = ap (λ (sets : List SetSpec). last_made run p j sets past) (same_sets (plugins run past) h number p)

same_set : (run : Run) (h number p : ℕ) (past : List Item)
    → set_at run p (last_set (plugins run (GaveBack h number ∷ past)) p) (GaveBack h number ∷ past)
    ≡ set_at run p (last_set (plugins run past) p) past
unfolding registry
same_set run h number p past = ap last_spec (same_sets (plugins run past) h number p)

off_place : (run : Run) (h number p j : ℕ) (past : List Item) → ((h == j) && (number == p)) ≡ false
    → place_of run p j (GaveBack h number ∷ past) ≡ place_of run p j past
unfolding place_of
off_place run h number p j past off = rw off refl

own_place : (run : Run) (h plugin : ℕ) (past : List Item)
    → place_of run plugin h (GaveBack h plugin ∷ past) ≡ given_back (place_of run plugin h past)
unfolding place_of
own_place run h plugin past =
    let own : ((h == h) && (plugin == plugin)) ≡ true = grind (arith, nat_tests) in
    rw own refl

off_placed : (test : Place → Bool) (run : Run) (h number p j : ℕ) (past : List Item) → ((h == j) && (number == p)) ≡ false
    → placed_at test run (GaveBack h number ∷ past) p j ≡ placed_at test run past p j
off_placed test run h number p j past off =
    placed_by test run past (GaveBack h number ∷ past) p j (same_attachment run h number p j past)
    (ap test (off_place run h number p j past off))

off_arrival : (run : Run) (h number p j : ℕ) (past : List Item) → ((h == j) && (number == p)) ≡ false
    → arrival_at run (GaveBack h number ∷ past) p j ≡ arrival_at run past p j
unfolding registry
off_arrival run h number p j past off =
    same_arrival run past (GaveBack h number ∷ past) p j (same_sets (plugins run past) h number p)
    (ap is_waiting (off_place run h number p j past off))

-- a set that is given back neither waits nor is with its hart
waits_no_more : (place : Place) → is_waiting (given_back place) ≡ false
waits_no_more Nowhere = refl
waits_no_more Waiting = refl
waits_no_more WithHart = refl
waits_no_more Parked = refl
waits_no_more Out = refl

with_no_hart : (place : Place) → is_with_hart (given_back place) ≡ false
with_no_hart Nowhere = refl
with_no_hart Waiting = refl
with_no_hart WithHart = refl
with_no_hart Parked = refl
with_no_hart Out = refl

-- a set that a hart is still to give back isn't parked
owed_unparked : (place : Place) (s : PlugState) (g : Bool) → fits place s true g ≡ true → is_parked place ≡ false
owed_unparked Nowhere s g f = refl
owed_unparked Waiting s g f = refl
owed_unparked WithHart s g f = refl
owed_unparked Out s g f = refl
owed_unparked Parked Live g f = absurd (false≢true f)
owed_unparked Parked Idle g f = absurd (false≢true f)
owed_unparked Parked Resetting g f = absurd (false≢true f)
owed_unparked Parked Leaving g f = absurd (false≢true f)
owed_unparked Parked Gone g f = absurd (false≢true f)

-- a shelf on which what comes back is parked, by where it was
parked_from : (place : Place) (a : Attachment) (old new : List (List (Option Attachment))) (i h : ℕ) → is_parked place ≡ false
    → (is_parked (given_back place) ≡ true → new ≡ with_place old i h (Some a))
    → (is_parked (given_back place) ≡ is_parked place → new ≡ old)
    → new ≡ with_some old i h (option_or (if is_waiting place then Some a else None) (if is_with_hart place then Some a else None))
parked_from Nowhere a old new i h none parks stays = stays refl
parked_from Waiting a old new i h none parks stays = parks refl
parked_from WithHart a old new i h none parks stays = parks refl
parked_from Parked a old new i h none parks stays = absurd (false≢true (sym none))
parked_from Out a old new i h none parks stays = stays refl

-- what a Back makes of the shelves
record SetsReturn (run : Run) (h plugin : ℕ) (past : List Item) : Type 0 where
  waiting : shelf is_waiting run (GaveBack h plugin ∷ past) ≡ with_place (shelf is_waiting run past) (plugin - 1) h None
  parked : shelf is_parked run (GaveBack h plugin ∷ past) ≡ with_some (shelf is_parked run past) (plugin - 1) h (set_back run h plugin past)
  arrivals : arrivals run (GaveBack h plugin ∷ past) ≡ with_place (arrivals run past) (plugin - 1) h None

-- the shelf of the sets that are parked
parks_one : (run : Run) (h plugin : ℕ) (past : List Item) → Owes run h plugin past
    → is_parked (given_back (place_of run plugin h past)) ≡ true
    → shelf is_parked run (GaveBack h plugin ∷ past)
    ≡ with_place (shelf is_parked run past) (plugin - 1) h (Some (attachment_of run plugin h past))
unfolding registry
parks_one run h plugin past o is =
    let r = plugins run past in
    let now = GaveBack h plugin ∷ past in
    ap (λ (k : ℕ). table (placed_at is_parked run now) run.harts k) (same_long r h plugin)
    ∙ table_place (placed_at is_parked run past) (placed_at is_parked run now) run.harts (length r.plugins) plugin h
    (Some (attachment_of run plugin h past))
    o.one o.most o.hart (λ p j least high low off. off_placed is_parked run h plugin p j past off)
    (ap (λ (b : Bool). if b then Some (attachment_of run plugin h now) else None) (ap is_parked (own_place run h plugin past) ∙ is)
    ∙ ap (λ (a : Attachment). Some a) (same_attachment run h plugin plugin h past))

parks_none : (run : Run) (h plugin : ℕ) (past : List Item)
    → is_parked (given_back (place_of run plugin h past)) ≡ is_parked (place_of run plugin h past)
    → shelf is_parked run (GaveBack h plugin ∷ past) ≡ shelf is_parked run past
unfolding registry
parks_none run h plugin past is =
    let r = plugins run past in
    let now = GaveBack h plugin ∷ past in
    let own : placed_at is_parked run now plugin h ≡ placed_at is_parked run past plugin h =
    placed_by is_parked run past now plugin h (same_attachment run h plugin plugin h past)
    (ap is_parked (own_place run h plugin past) ∙ is) in
    ap (λ (k : ℕ). table (placed_at is_parked run now) run.harts k) (same_long r h plugin)
    ∙ table_same (placed_at is_parked run past) (placed_at is_parked run now) run.harts (length r.plugins)
    (λ p j least high low. elim (cases_Bool ((h == j) && (plugin == p))) [
      | inr off ↦ off_placed is_parked run h plugin p j past off
      | inl at ↦
          subst (λ (k : ℕ). placed_at is_parked run now k j ≡ placed_at is_parked run past k j)
          (number_is plugin p (rest_true (h == j) _ at))
          (subst (λ (k : ℕ). placed_at is_parked run now plugin k ≡ placed_at is_parked run past plugin k)
          (number_is h j (first_true _ _ at)) own)
    ])

sets_return : (run : Run) (h plugin : ℕ) (past : List Item) → Owes run h plugin past → Legal run past → IsStateLog run past
    → SetsReturn run h plugin past
unfolding registry
sets_return run h plugin past o legal state =
    let r = plugins run past in
    let now = GaveBack h plugin ∷ past in
    let n = length r.plugins in
    let place = place_of run plugin h past in
    let long : length (plugins run now).plugins ≡ n = same_long r h plugin in
    let gone : is_waiting (place_of run plugin h now) ≡ false = ap is_waiting (own_place run h plugin past) ∙ waits_no_more place in
    let fit : fits place (plugin_of r plugin).state true (has_left r h) ≡ true =
    ap (λ (b : Bool). fits place (plugin_of r plugin).state b (has_left r h)) (sym o.owed)
    ∙ places_fit run plugin h past o.one o.hart legal state in
    record {
      waiting = ap (λ (k : ℕ). table (placed_at is_waiting run now) run.harts k) long
          ∙ table_place (placed_at is_waiting run past) (placed_at is_waiting run now) run.harts n plugin h None o.one o.most o.hart
          (λ p j least high low off. off_placed is_waiting run h plugin p j past off)
          (ap (λ (b : Bool). if b then Some (attachment_of run plugin h now) else None) gone);
      parked = parked_from place (attachment_of run plugin h past) (shelf is_parked run past) (shelf is_parked run now) (plugin - 1) h
          (owed_unparked place (plugin_of r plugin).state (has_left r h) fit)
          (parks_one run h plugin past o) (parks_none run h plugin past);
      arrivals = ap (λ (k : ℕ). table (arrival_at run now) run.harts k) long
          ∙ table_place (arrival_at run past) (arrival_at run now) run.harts n plugin h None o.one o.most o.hart
          (λ p j least high low off. off_arrival run h plugin p j past off)
          (ap (λ (b : Bool). if b then Some (set_at run plugin (last_set (plugins run now) plugin) now) else None) gone);
    }

-- The closers.

pub state_keeps : (ps : List Plugin) (k : ℕ) (x : Plugin) (i : ℕ) → x.state ≡ (slice_index_or ps k no_plugin).state
    → (slice_index_or (slice_set ps k x) i no_plugin).state ≡ (slice_index_or ps i no_plugin).state
state_keeps [] k x i is = refl
state_keeps (p ∷ ps) zero x zero is = is
state_keeps (p ∷ ps) zero x (suc i) is = refl
state_keeps (p ∷ ps) (suc k) x zero is = refl
state_keeps (p ∷ ps) (suc k) x (suc i) is = state_keeps ps k x i is

same_closer : (run : Run) (h number : ℕ) (past : List Item) (plugin : ℕ)
    → closer run (GaveBack h number ∷ past) plugin ≡ closer run past plugin
unfolding registry taker notices_of
same_closer run h number past plugin =
    let r = plugins run past in
    ap (λ (s : PlugState). if is_closing s && is_some (taker plugin past) then None else Some (notices_of run plugin past))
    (state_keeps r.plugins (number - 1) (without_back (plugin_of r number) h) (plugin - 1) refl)

same_closers : (run : Run) (h number : ℕ) (past : List Item) → closers_of run (GaveBack h number ∷ past) ≡ closers_of run past
unfolding registry
same_closers run h number past =
    let r = plugins run past in
    let now = GaveBack h number ∷ past in
    ap (λ (n : ℕ). map (closer run now) (range_with_len 1 n)) (same_long r h number)
    ∙ map_same (closer run now) (closer run past) 1 (length r.plugins) (λ p one most. same_closer run h number past p)

pub backs_keep_order : BacksKeepOrder
unfolding Legal IsStateLog world registry
backs_keep_order t h plugin old new o legal l =
    let run = task_run t in
    let was = sym l.past in
    let back = sets_return run h plugin old.past (gives_owed run h plugin old.past legal.1) o.legal o.state_log in
    record {
      order = record {
        legal = subst (Legal run) was legal;
        state_log = subst (IsStateLog run) was (o.state_log, tt);
        journal = l.journal ∙ ap (λ (xs : List Item). GaveBack h plugin ∷ xs) o.journal ∙ ap journaled was;
        shared = l.shared ∙ o.shared ∙ ap (λ (xs : List Item). (world t.machine t.mode xs).shared) was;
        plugins = l.plugins ∙ ap (after_back h plugin) o.plugins ∙ ap (plugins run) was;
        waiting = l.waiting ∙ ap (λ rows. with_place rows (plugin - 1) h None) o.waiting ∙ sym back.waiting ∙ ap (shelf is_waiting run) was;
        parked = l.parked ∙ ap (λ rows. with_some rows (plugin - 1) h (set_back run h plugin old.past)) o.parked
            ∙ sym back.parked ∙ ap (shelf is_parked run) was;
        harts = l.harts ∙ o.harts ∙ ap (λ (xs : List Item). map (hart_kept t xs) (harts_of run)) was;
        closers = l.closers ∙ o.closers ∙ sym (same_closers run h plugin old.past) ∙ ap (closers_of run) was;
      };
      arrivals = ap (arrivals run) l.past ∙ back.arrivals;
    }

-- The sets that stay with the hart.

apart : (h plugin k : ℕ) → (k == plugin) ≡ false → ((h == h) && (plugin == k)) ≡ false
apart h plugin k off = and_right (h == h) (plugin == k) (grind (arith, nat_tests, off))

own_gone : (run : Run) (h plugin k : ℕ) (past : List Item) → (k == plugin) ≡ true
    → is_with_hart (place_of run k h (GaveBack h plugin ∷ past)) ≡ false
own_gone run h plugin k past at =
    subst (λ (p : ℕ). is_with_hart (place_of run p h (GaveBack h plugin ∷ past)) ≡ false) (sym (number_is k plugin at))
    (ap is_with_hart (own_place run h plugin past) ∙ with_no_hart (place_of run plugin h past))

off_spec : (run : Run) (h plugin k : ℕ) (past : List Item) → (k == plugin) ≡ false
    → spec_at run h (GaveBack h plugin ∷ past) k ≡ spec_at run h past k
off_spec run h plugin k past off =
    let now = GaveBack h plugin ∷ past in
    ap (λ (q : Place). if is_with_hart q then Some (k, set_at run k (last_set (plugins run now) k) now) else None)
    (off_place run h plugin k h past (apart h plugin k off))
    ∙ ap (λ (s : SetSpec). if is_with_hart (place_of run k h past) then Some (k, s) else None) (same_set run h plugin k past)

pub backs_take_sets : BacksTakeSets
unfolding registry
backs_take_sets run h plugin past =
    let r = plugins run past in
    let now = GaveBack h plugin ∷ past in
    let long : length (plugins run now).plugins ≡ length r.plugins = same_long r h plugin in
    record {
      sets = ap (λ (n : ℕ). filter_map (λ k. placed_at is_with_hart run now k h) (range_with_len 1 n)) long
          ∙ gives_others (λ k. is_with_hart (place_of run k h past)) (λ k. attachment_of run k h past)
          (λ k. placed_at is_with_hart run now k h) (λ a. not (a.plugin == plugin)) plugin (numbers r) (λ k. refl)
          (λ k at. ap (λ (b : Bool). if b then Some (attachment_of run k h now) else None) (own_gone run h plugin k past at))
          (λ k off. off_placed is_with_hart run h plugin k h past (apart h plugin k off));
      specs = ap (λ (n : ℕ). filter_map (spec_at run h now) (range_with_len 1 n)) long
          ∙ gives_others (λ k. is_with_hart (place_of run k h past)) (λ k. (k, set_at run k (last_set r k) past))
          (spec_at run h now) (λ s. not (s.0 == plugin)) plugin (numbers r) (λ k. refl)
          (λ k at. ap (λ (b : Bool). if b then Some (k, set_at run k (last_set (plugins run now) k) now) else None)
          (own_gone run h plugin k past at))
          (λ k off. off_spec run h plugin k past off);
    }
