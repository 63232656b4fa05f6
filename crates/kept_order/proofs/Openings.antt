-- The state before any item, and after an install.
use Rattle.std.proofs.Common.{◌≡◌, ◌≢◌, ◌==◌, ◌&&◌, ◌+◌, ◌-◌, ◌<◌, ◌≤◌, ◌∷◌, [], ◌++◌, ◌∙◌, ℕ, zero, suc, Bool, true, false, not, List}
use Rattle.std.proofs.Common.{Option, Some, None, refl, sym, ap, subst, arith, inl, inr, length, map}
use Rattle.std.specs.Prelude.{if◌then◌else◌, slice_index_or, replicate, option_map, is_some, find}
use Rattle.std.specs.Option.{option_or}
use Rattle.std.specs.List.{range_with_len}
use Rattle.std.proofs.lemmas.Bool.{cases_Bool}
use Rattle.std.proofs.lemmas.List.{length-append, map-append}
use Rattle.flat_model.specs.declared.plugins.SetSpec.{SetSpec}
use Rattle.flat_model.specs.declared.journals.Item.{Item}
use Rattle.flat_model.specs.declared.journals.Item.TheVariants.{Step, Ordered, GaveBack, Left, Told, Got, Took}
use Rattle.flat_model.specs.declared.journals.Order.TheVariants.{Install}
use Rattle.flat_model.specs.declared.journals.Origin.{Origin}
use Rattle.flat_model.specs.declared.journals.Origin.TheVariants.{Start}
use Rattle.flat_model.specs.declared.journals.Timed.{Timed}
use Rattle.flat_model.specs.declared.orders.OrderRefusal.{OrderRefusal}
use Rattle.flat_model.specs.Log.{journaled}
use Rattle.flat_model.specs.Registry.{Plugins, Plugin, registry, after_order, is_installed, is_closing}
use Rattle.flat_model.specs.Worlds.{world, hart_of}
use Rattle.watcher_api.specs.Attachment.{Attachment, opening}
use Rattle.run_rules.specs.Guest.{Run, plugins}
use Rattle.run_rules.specs.Due.{numbered, must_stand, line_item, owed_line, wanted}
use Rattle.run_rules.specs.Legal.{Legal, Rule, MayOrder}
use Rattle.run_rules.specs.Places.{IsStateLog, is_waiting, is_parked, taker}
use Rattle.run_rules.proofs.Fitting.{append_last, append_other, installed_within, number_is}
use Rattle.run_rules.proofs.Growing.{fresh, item_grows}
use Rattle.run_rules.proofs.Turns.{first_true}
use Rattle.run_order.specs.Sets.{Notice, shelf, harts_of, notices_of, is_closing_out, closers_of}
use Rattle.run_order.specs.InOrder.{Task, task_run, hart_kept}
use Rattle.run_order.proofs.Installing.{installs_wait}
use Rattle.run_order.proofs.Shelves.{map_same}
use Rattle.kept_order.specs.Opening.{OpensInOrder, InstallsKeepOrder, NextInstallsStand, NothingIsWanted}

-- The state before any item.

none_gone : (n h : ℕ) → slice_index_or (replicate n false) h false ≡ false
none_gone zero h = refl
none_gone (suc n) zero = refl
none_gone (suc n) (suc h) = none_gone n h

map_one : {A : Type 0} (x : A) (f : ℕ → A) (a n : ℕ) → ((k : ℕ) → f k ≡ x) → replicate n x ≡ map f (range_with_len a n)
map_one x f a zero is = refl
map_one x f a (suc n) is =
    ap (λ y. y ∷ replicate n x) (sym (is a)) ∙ ap (λ ys. f a ∷ ys) (map_one x f (a + 1) n is)

none_kept : (t : Task) (h : ℕ) → hart_kept t [] h ≡ None
unfolding registry
none_kept t h = ap (λ (b : Bool). if b then Some (hart_of t.machine t.mode [] h) else None) (none_gone t.machine.harts h)

pub opens_in_order : OpensInOrder
unfolding Legal IsStateLog world registry
opens_in_order t = record {
  legal = tt;
  state_log = tt;
  journal = refl;
  shared = refl;
  plugins = refl;
  waiting = refl;
  parked = refl;
  harts = map_one None (hart_kept t []) 0 t.machine.harts (none_kept t);
  closers = refl;
}

-- An install.

-- a plug-in that isn't installed has no notice
no_notice : (run : Run) (plugin : ℕ) (x : Item) (past : List Item) → length (plugins run past).plugins < plugin → Rule run x past
    → notices_of run plugin past ≡ [] → notices_of run plugin (x ∷ past) ≡ []
unfolding notices_of
no_notice run plugin (Step hart) past far rule none = none
no_notice run plugin (Ordered origin order) past far rule none = none
no_notice run plugin (GaveBack hart number) past far rule none = none
no_notice run plugin (Left hart) past far rule none = none
no_notice run plugin (Told party number) past far rule none =
    elim (cases_Bool (number == plugin)) [
      | inr off ↦ rw off none
      | inl at ↦
          let there : is_installed (plugins run past) number ≡ true = first_true _ _ (first_true _ _ rule) in
          absurd (omega (arith, far, number_is number plugin at, installed_within (plugins run past) number there))
    ]
no_notice run plugin (Got hart number) past far rule none = none
no_notice run plugin (Took party number) past far rule none = none

no_notices : (run : Run) (plugin : ℕ) (past : List Item) → length (plugins run past).plugins < plugin → Legal run past
    → notices_of run plugin past ≡ []
unfolding Legal notices_of
no_notices run plugin [] far legal = refl
no_notices run plugin (x ∷ past) far legal =
    let before : length (plugins run past).plugins < plugin = omega (arith, far, (item_grows run x past).more) in
    no_notice run plugin x past before legal.1 (no_notices run plugin past before legal.0)

-- a range that is one longer has one number more at its end
range_more : (a n : ℕ) → range_with_len a (suc n) ≡ range_with_len a n ++ (a + n) ∷ []
range_more a zero = ap (λ (k : ℕ). k ∷ []) (omega arith)
range_more a (suc n) =
    ap (λ (ks : List ℕ). a ∷ ks) (range_more (a + 1) n ∙ ap (λ (k : ℕ). range_with_len (a + 1) n ++ k ∷ []) (omega arith))

-- what the state has of a plug-in's closer, where it is this plug-in
abbrev pub closer_when : Run → List Item → ℕ → Plugin → Option (List Notice)
closer_when run past plugin p =
    if is_closing p.state && is_some (taker plugin past) then None else Some (notices_of run plugin past)

abbrev pub closer : Run → List Item → ℕ → Option (List Notice)
closer run past plugin = if is_closing_out run plugin past then None else Some (notices_of run plugin past)

old_closer : (run : Run) (origin : Origin) (spec : SetSpec) (past : List Item) (plugin : ℕ) → 1 ≤ plugin
    → plugin < 1 + length (plugins run past).plugins → closer run (Ordered origin (Install spec) ∷ past) plugin ≡ closer run past plugin
unfolding registry taker notices_of
old_closer run origin spec past plugin one most =
    let r = plugins run past in
    let apart : (plugin - 1) ≢ length r.plugins = λ e. absurd (omega (arith, e, one, most)) in
    ap (closer_when run past plugin) (append_other r.plugins (fresh r spec) (plugin - 1) apart)

new_closer : (run : Run) (origin : Origin) (spec : SetSpec) (past : List Item) (plugin : ℕ) → plugin ≡ 1 + length (plugins run past).plugins
    → Legal run past → closer run (Ordered origin (Install spec) ∷ past) plugin ≡ Some []
unfolding registry taker notices_of
new_closer run origin spec past plugin last legal =
    let r = plugins run past in
    ap (closer_when run past plugin) (append_last r.plugins (fresh r spec) (plugin - 1) (omega (arith, last)))
    ∙ ap (λ (notices : List Notice). Some notices) (no_notices run plugin past (omega (arith, last)) legal)

closers_more : (run : Run) (origin : Origin) (spec : SetSpec) (past : List Item) → Legal run past
    → closers_of run (Ordered origin (Install spec) ∷ past) ≡ closers_of run past ++ Some [] ∷ []
unfolding registry
closers_more run origin spec past legal =
    let r = plugins run past in
    let n = length r.plugins in
    let now = Ordered origin (Install spec) ∷ past in
    let long : length (r.plugins ++ fresh r spec ∷ []) ≡ suc n = omega (arith, length-append r.plugins (fresh r spec ∷ [])) in
    ap (λ (k : ℕ). map (closer run now) (range_with_len 1 k)) long
    ∙ ap (map (closer run now)) (range_more 1 n)
    ∙ map-append (closer run now) (range_with_len 1 n) ((1 + n) ∷ [])
    ∙ ap (λ rows. rows ++ closer run now (1 + n) ∷ [])
    (map_same (closer run now) (closer run past) 1 n (λ p one most. old_closer run origin spec past p one most))
    ∙ ap (λ one. closers_of run past ++ one ∷ []) (new_closer run origin spec past (1 + n) refl legal)

abbrev waiting_more : Task → SetSpec → Plugins → List (List (Option Attachment)) → List (List (Option Attachment))
waiting_more t spec r rows = rows ++ replicate t.machine.harts (Some (opening (length r.plugins + 1) spec)) ∷ []

pub installs_keep_order : InstallsKeepOrder
unfolding Legal IsStateLog world registry
installs_keep_order t origin spec old new o legal i =
    let run = task_run t in
    let now = Ordered origin (Install spec) ∷ old.past in
    let wait = installs_wait run origin spec old.past legal o.state_log in
    let was = sym i.past in
    record {
      legal = subst (Legal run) was legal;
      state_log = subst (IsStateLog run) was (o.state_log, tt);
      journal = i.journal ∙ ap (λ (xs : List Item). Ordered origin (Install spec) ∷ xs) o.journal ∙ ap journaled was;
      shared = i.shared ∙ o.shared ∙ ap (λ (xs : List Item). (world t.machine t.mode xs).shared) was;
      plugins = i.plugins ∙ ap (after_order (Install spec)) o.plugins ∙ ap (plugins run) was;
      waiting = i.waiting ∙ ap (waiting_more t spec old.plugins) o.waiting
          ∙ ap (λ (r : Plugins). waiting_more t spec r (shelf is_waiting run old.past)) o.plugins
          ∙ sym wait.0 ∙ ap (shelf is_waiting run) was;
      parked = i.parked ∙ ap (λ rows. rows ++ replicate t.machine.harts None ∷ []) o.parked ∙ sym wait.1 ∙ ap (shelf is_parked run) was;
      harts = i.harts ∙ o.harts ∙ ap (λ (xs : List Item). map (hart_kept t xs) (harts_of run)) was;
      closers = i.closers ∙ ap (λ rows. rows ++ Some [] ∷ []) o.closers
          ∙ sym (closers_more run origin spec old.past o.legal) ∙ ap (closers_of run) was;
    }

-- The installs of the plan.

-- what the plan wants, where this is the install that is missing
abbrev wanted_by : Run → List Item → Option SetSpec → Option Item
wanted_by run past missing =
    option_or (option_map (λ spec. Ordered Start (Install spec)) missing) (option_map (line_item past) (owed_line run past))

pub next_installs_stand : NextInstallsStand
unfolding Legal wanted
next_installs_stand run spec past legal next none =
    let rule : MayOrder run Start (Install spec) past = record {
      allowed = ap (λ (o : Option OrderRefusal). not (is_some o)) none;
      given = ap (wanted_by run past) next;
    } in
    (legal, rule)

pub nothing_is_wanted : NothingIsWanted
unfolding wanted numbered
nothing_is_wanted run past empty none =
    ap (wanted_by run past) none
    ∙ ap (λ (ts : List Timed). option_map (line_item past) (find (must_stand run past) (numbered 0 ts))) empty
