-- The stored state after a party has told the closer of a plug-in.
use Rattle.std.proofs.Common.{◌≡◌, ◌==◌, ◌&&◌, ◌-◌, ◌<◌, ◌≤◌, ◌∷◌, [], ◌++◌, ◌∙◌, ℕ, Bool, true, false, List}
use Rattle.std.proofs.Common.{Option, Some, None, refl, sym, ap, subst, arith, inl, inr, nat_lt, nat_le, length, map}
use Rattle.std.specs.Prelude.{if◌then◌else◌, ◌⊎◌, slice_set, slice_index_or, is_some}
use Rattle.std.specs.List.{range_with_len}
use Rattle.std.proofs.lemmas.Bool.{cases_Bool}
use Rattle.std.proofs.lemmas.Bool.Decides.{nat_tests}
use Rattle.std.proofs.lemmas.List.{length-set}
use Rattle.flat_model.specs.declared.plugins.SetSpec.{SetSpec}
use Rattle.flat_model.specs.declared.journals.Item.{Item}
use Rattle.flat_model.specs.declared.journals.Item.TheVariants.{Told}
use Rattle.flat_model.specs.declared.journals.PlugState.{PlugState}
use Rattle.flat_model.specs.declared.journals.PlugState.TheVariants.{Live, Idle, Resetting, Leaving, Gone}
use Rattle.flat_model.specs.Log.{journaled}
use Rattle.flat_model.specs.Registry.{Plugins, Plugin, registry, plugin_of, sets_of, is_installed, after_done, done_state}
use Rattle.flat_model.specs.Registry.{is_closing, is_complete}
use Rattle.flat_model.specs.Worlds.{world}
use Rattle.watcher_api.specs.Attachment.{Attachment}
use Rattle.run_rules.specs.Guest.{Run, plugins}
use Rattle.run_rules.specs.Heard.{progress, no_set}
use Rattle.run_rules.specs.Legal.{Legal}
use Rattle.run_rules.specs.Places.{Place, Nowhere, IsStateLog, place_of, is_waiting, is_parked, taker, replaying}
use Rattle.run_rules.proofs.Fitting.{complete, number_is, installed_from, installed_within, other_place, same_place}
use Rattle.run_rules.proofs.Turns.{first_true}
use Rattle.run_order.specs.Sets.{Notice, attachment_of, placed_at, shelf, harts_of, notice_of, notices_of, closers_of}
use Rattle.run_order.specs.InOrder.{task_run, hart_kept}
use Rattle.run_order.proofs.Installing.{last_made}
use Rattle.run_order.proofs.Shelves.{map_same}
use Rattle.run_order.proofs.Taking.{placed_by}
use Rattle.kept_order.specs.Arriving.{arrival_at, arrivals}
use Rattle.kept_order.specs.Closing.{DonesKeepOrder}
use Rattle.kept_order.proofs.Completions.{plugin_set}
use Rattle.kept_order.proofs.Openings.{closer_when, closer}
use Rattle.kept_order.proofs.Outs.{closing_out}

-- a plug-in whose withdrawal is done
abbrev done_plugin : Plugin → Plugin
done_plugin p = record p { state = done_state p.state }

as_many : (r : Plugins) (plugin : ℕ) → length (after_done plugin r).plugins ≡ length r.plugins
as_many r plugin = length-set r.plugins (plugin - 1) (done_plugin (plugin_of r plugin))

-- the sets of another plug-in
other_sets : (r : Plugins) (plugin p : ℕ) → 1 ≤ plugin → 1 ≤ p → (plugin == p) ≡ false → sets_of (after_done plugin r) p ≡ sets_of r p
other_sets r plugin p one low off =
    ap (λ (n : ℕ). if nat_lt 0 p && nat_le p n then (plugin_of (after_done plugin r) p).sets else []) (as_many r plugin)
    ∙ ap (λ (q : Plugin). if is_installed r p then q.sets else []) (other_place r plugin p (done_plugin (plugin_of r plugin)) one low off)

-- A set that waits or is parked stays so: the plug-in's own have been taken out.

off_place : (run : Run) (party plugin p h : ℕ) (past : List Item) → (plugin == p) ≡ false
    → place_of run p h (Told party plugin ∷ past) ≡ place_of run p h past
unfolding place_of
off_place run party plugin p h past off = rw off refl

own_place : (run : Run) (party plugin h : ℕ) (past : List Item) → place_of run plugin h (Told party plugin ∷ past) ≡ Nowhere
unfolding place_of
own_place run party plugin h past =
    let own : (plugin == plugin) ≡ true = grind (arith, nat_tests) in
    rw own refl

off_attachment : (run : Run) (party plugin p h : ℕ) (past : List Item) → 1 ≤ plugin → 1 ≤ p → (plugin == p) ≡ false
    → attachment_of run p h (Told party plugin ∷ past) ≡ attachment_of run p h past
unfolding registry progress
off_attachment run party plugin p h past one low off =
    ap (λ (sets : List SetSpec). last_made run p h sets past) (other_sets (plugins run past) plugin p one low off)

abbrev set_if : Attachment → Bool → Option Attachment
set_if a there = if there then Some a else None

same_placed : (test : Place → Bool) (run : Run) (party plugin p h : ℕ) (past : List Item) → 1 ≤ plugin → 1 ≤ p
    → test Nowhere ≡ false → test (place_of run plugin h past) ≡ false
    → placed_at test run (Told party plugin ∷ past) p h ≡ placed_at test run past p h
same_placed test run party plugin p h past one low nowhere gone =
    let now = Told party plugin ∷ past in
    elim (cases_Bool (plugin == p)) [
      | inr off ↦ placed_by test run past now p h (off_attachment run party plugin p h past one low off)
          (ap test (off_place run party plugin p h past off))
      | inl own ↦
          let before : placed_at test run past plugin h ≡ None = ap (set_if (attachment_of run plugin h past)) gone in
          let after : placed_at test run now plugin h ≡ None =
          ap (set_if (attachment_of run plugin h now)) (ap test (own_place run party plugin h past) ∙ nowhere) in
          subst (λ (k : ℕ). placed_at test run now k h ≡ placed_at test run past k h) (number_is plugin p own) (after ∙ sym before)
    ]

abbrev last_spec : List SetSpec → SetSpec
last_spec sets = slice_index_or sets (length sets - 1) no_set

abbrev spec_if : SetSpec → Bool → Option SetSpec
spec_if spec there = if there then Some spec else None

same_arrival : (run : Run) (party plugin p h : ℕ) (past : List Item) → 1 ≤ plugin → 1 ≤ p → is_waiting (place_of run plugin h past) ≡ false
    → arrival_at run (Told party plugin ∷ past) p h ≡ arrival_at run past p h
unfolding registry
same_arrival run party plugin p h past one low gone =
    let r = plugins run past in
    let now = Told party plugin ∷ past in
    elim (cases_Bool (plugin == p)) [
      | inr off ↦
          ap (λ (q : Place). spec_if (last_spec (sets_of (after_done plugin r) p)) (is_waiting q)) (off_place run party plugin p h past off)
          ∙ ap (λ (sets : List SetSpec). spec_if (last_spec sets) (is_waiting (place_of run p h past))) (other_sets r plugin p one low off)
      | inl own ↦
          let before : arrival_at run past plugin h ≡ None = ap (spec_if (last_spec (sets_of r plugin))) gone in
          let after : arrival_at run now plugin h ≡ None =
          ap (λ (q : Place). spec_if (last_spec (sets_of (after_done plugin r) plugin)) (is_waiting q))
          (own_place run party plugin h past) in
          subst (λ (k : ℕ). arrival_at run now k h ≡ arrival_at run past k h) (number_is plugin p own) (after ∙ sym before)
    ]

-- a table by plug-in and hart that stays
table_same : {A : Type 0} (f g : ℕ → ℕ → A) (harts n m : ℕ) → m ≡ n → ((p h : ℕ) → 1 ≤ p → h < harts → g p h ≡ f p h)
    → map (λ p. map (g p) (range_with_len 0 harts)) (range_with_len 1 m)
    ≡ map (λ p. map (f p) (range_with_len 0 harts)) (range_with_len 1 n)
table_same f g harts n m long same =
    ap (λ (k : ℕ). map (λ p. map (g p) (range_with_len 0 harts)) (range_with_len 1 k)) long
    ∙ map_same (λ p. map (g p) (range_with_len 0 harts)) (λ p. map (f p) (range_with_len 0 harts)) 1 n
    (λ p low high. map_same (g p) (f p) 0 harts (λ h least most. same p h low (omega (arith, most))))

shelf_told : (test : Place → Bool) (run : Run) (party plugin : ℕ) (past : List Item) → 1 ≤ plugin
    → test Nowhere ≡ false → ((h : ℕ) → h < run.harts → test (place_of run plugin h past) ≡ false)
    → shelf test run (Told party plugin ∷ past) ≡ shelf test run past
unfolding registry
shelf_told test run party plugin past one nowhere gone =
    let r = plugins run past in
    table_same (placed_at test run past) (placed_at test run (Told party plugin ∷ past)) run.harts (length r.plugins)
    (length (after_done plugin r).plugins) (as_many r plugin)
    (λ p h low high. same_placed test run party plugin p h past one low nowhere (gone h high))

arrivals_told : (run : Run) (party plugin : ℕ) (past : List Item) → 1 ≤ plugin
    → ((h : ℕ) → h < run.harts → is_waiting (place_of run plugin h past) ≡ false)
    → arrivals run (Told party plugin ∷ past) ≡ arrivals run past
unfolding registry
arrivals_told run party plugin past one gone =
    let r = plugins run past in
    table_same (arrival_at run past) (arrival_at run (Told party plugin ∷ past)) run.harts (length r.plugins)
    (length (after_done plugin r).plugins) (as_many r plugin)
    (λ p h low high. same_arrival run party plugin p h past one low (gone h high))

-- The closer is back, with one notice more.

closes_no_more : (s : PlugState) → is_closing (done_state s) ≡ false
closes_no_more Live = refl
closes_no_more Idle = refl
closes_no_more Resetting = refl
closes_no_more Leaving = refl
closes_no_more Gone = refl

off_closer : (run : Run) (party plugin p : ℕ) (past : List Item) → 1 ≤ plugin → 1 ≤ p → (plugin == p) ≡ false
    → closer run (Told party plugin ∷ past) p ≡ closer run past p
unfolding registry taker notices_of
off_closer run party plugin p past one low off =
    let r = plugins run past in
    rw off (ap (closer_when run past p) (other_place r plugin p (done_plugin (plugin_of r plugin)) one low off))

abbrev closer_if : Bool → List Notice → Option (List Notice)
closer_if out notices = if out then None else Some notices

own_closer : (run : Run) (party plugin : ℕ) (past : List Item) → plugin - 1 < length (plugins run past).plugins
    → closer run (Told party plugin ∷ past) plugin ≡ Some (notices_of run plugin past ++ notice_of run plugin past ∷ [])
unfolding registry taker notices_of
own_closer run party plugin past within =
    let r = plugins run past in
    let own : (plugin == plugin) ≡ true = grind (arith, nat_tests) in
    let more = notices_of run plugin past ++ notice_of run plugin past ∷ [] in
    let took = is_some (taker plugin past) in
    rw own (ap (λ (p : Plugin). closer_if (is_closing p.state && took) more) (same_place r plugin (done_plugin (plugin_of r plugin)) within)
    ∙ ap (λ (b : Bool). closer_if (b && took) more) (closes_no_more (plugin_of r plugin).state))

closers_told : (run : Run) (party plugin : ℕ) (past : List Item) → is_complete (plugins run past) plugin ≡ true
    → closers_of run (Told party plugin ∷ past)
    ≡ slice_set (closers_of run past) (plugin - 1) (Some (notices_of run plugin past ++ notice_of run plugin past ∷ []))
unfolding registry
closers_told run party plugin past is =
    let r = plugins run past in
    let now = Told party plugin ∷ past in
    let c = complete r plugin 0 is in
    let one : 1 ≤ plugin = installed_from r plugin c.0 in
    let within : plugin - 1 < length r.plugins = installed_within r plugin c.0 in
    ap (λ (n : ℕ). map (closer run now) (range_with_len 1 n)) (as_many r plugin)
    ∙ plugin_set (closer run past) (closer run now) (length r.plugins) plugin
    (Some (notices_of run plugin past ++ notice_of run plugin past ∷ [])) one within
    (λ p low off. off_closer run party plugin p past one low off) (own_closer run party plugin past within)

-- who tells the closer has taken the closing, or a replay has
was_taken : (took : Option ℕ) (party plugin : ℕ) → (took ≡ Some party) ⊎ (took ≡ Some (replaying plugin)) → is_some took ≡ true
was_taken took party plugin (inl is) = ap is_some is
was_taken took party plugin (inr is) = ap is_some is

pub dones_keep_order : DonesKeepOrder
unfolding Legal IsStateLog world registry
dones_keep_order t party plugin old new o legal rule d =
    let run = task_run t in
    let r = plugins run old.past in
    let is : is_complete r plugin ≡ true = first_true (is_complete r plugin) _ legal.1 in
    let c = complete r plugin 0 is in
    let one : 1 ≤ plugin = installed_from r plugin c.0 in
    let took : is_some (taker plugin old.past) ≡ true = was_taken (taker plugin old.past) party plugin rule in
    let none_waits : (h : ℕ) → h < run.harts → is_waiting (place_of run plugin h old.past) ≡ false =
    λ h low. (closing_out run plugin h old.past low o.legal o.state_log is took).0 in
    let none_parked : (h : ℕ) → h < run.harts → is_parked (place_of run plugin h old.past) ≡ false =
    λ h low. (closing_out run plugin h old.past low o.legal o.state_log is took).1 in
    let was = sym d.past in
    record {
      order = record {
        legal = subst (Legal run) was legal;
        state_log = subst (IsStateLog run) was (o.state_log, rule);
        journal = d.journal ∙ ap (λ (xs : List Item). Told party plugin ∷ xs) o.journal ∙ ap journaled was;
        shared = d.shared ∙ o.shared ∙ ap (λ (xs : List Item). (world t.machine t.mode xs).shared) was;
        plugins = d.plugins ∙ ap (after_done plugin) o.plugins ∙ ap (plugins run) was;
        waiting = d.waiting ∙ o.waiting ∙ sym (shelf_told is_waiting run party plugin old.past one refl none_waits)
            ∙ ap (shelf is_waiting run) was;
        parked = d.parked ∙ o.parked ∙ sym (shelf_told is_parked run party plugin old.past one refl none_parked)
            ∙ ap (shelf is_parked run) was;
        harts = d.harts ∙ o.harts ∙ ap (λ (xs : List Item). map (hart_kept t xs) (harts_of run)) was;
        closers = d.closers ∙ ap (λ (rows : List (Option (List Notice))). slice_set rows (plugin - 1)
            (Some (notices_of run plugin old.past ++ notice_of run plugin old.past ∷ []))) o.closers
            ∙ sym (closers_told run party plugin old.past is) ∙ ap (closers_of run) was;
      };
      arrivals = ap (arrivals run) d.past ∙ arrivals_told run party plugin old.past one none_waits;
    }
