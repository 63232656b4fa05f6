-- The stored state after an order that comes while a run goes on.
use Rattle.std.proofs.Common.{◌≡◌, ◌==◌, ◌&&◌, ◌+◌, ◌-◌, ◌<◌, ◌≤◌, ◌∷◌, [], ◌++◌, ◌∙◌, ℕ, Bool, true, false, List}
use Rattle.std.proofs.Common.{Option, Some, None, refl, sym, ap, subst, arith, inl, inr, length, map, nat_lt, nat_le}
use Rattle.std.specs.Prelude.{if◌then◌else◌, slice_index_or, slice_set, replicate, is_some}
use Rattle.std.specs.List.{range_with_len}
use Rattle.std.proofs.lemmas.Bool.{cases_Bool, false≢true}
use Rattle.std.proofs.lemmas.List.{length-append, length-set}
use Rattle.flat_model.specs.declared.plugins.SetSpec.{SetSpec}
use Rattle.flat_model.specs.declared.journals.How.TheVariants as how
use Rattle.flat_model.specs.declared.journals.Item.{Item}
use Rattle.flat_model.specs.declared.journals.Item.TheVariants.{Ordered}
use Rattle.flat_model.specs.declared.journals.Order.{Order}
use Rattle.flat_model.specs.declared.journals.Order.TheVariants.{Install, Register, Reset, Uninstall}
use Rattle.flat_model.specs.declared.journals.Origin.{Origin}
use Rattle.flat_model.specs.declared.journals.PlugState.{PlugState}
use Rattle.flat_model.specs.declared.journals.PlugState.TheVariants.{Live, Idle, Resetting, Leaving, Gone}
use Rattle.flat_model.specs.Log.{journaled}
use Rattle.flat_model.specs.Registry.{Plugins, Plugin, registry, plugin_of, sets_of, is_installed, is_closing, has_left, after_order}
use Rattle.flat_model.specs.Registry.{next_state}
use Rattle.flat_model.specs.Registry.{with_set, withdrawn}
use Rattle.flat_model.specs.World.{HartState}
use Rattle.flat_model.specs.Worlds.{world, hart_of}
use Rattle.watcher_api.specs.Attachment.{Attachment, opening}
use Rattle.run_rules.specs.Guest.{Run, plugins}
use Rattle.run_rules.specs.Due.{allowed}
use Rattle.run_rules.specs.Heard.{progress, no_set, set_at, last_set}
use Rattle.run_rules.specs.Legal.{Legal}
use Rattle.run_rules.specs.Places.{Nowhere, Waiting, WithHart, Parked, Out, fits, fits_in, owed_by}
use Rattle.run_rules.specs.Places.{Place, place_of, registers, IsStateLog, is_waiting, is_parked, taker, withdraws}
use Rattle.run_rules.proofs.Fitting.{Admits, register_admitted, reset_admitted, uninstall_admitted, installed_from, other_place, same_place}
use Rattle.run_rules.proofs.Fitting.{installed_within}
use Rattle.run_rules.proofs.Fitting.{number_is, places_fit}
use Rattle.run_rules.proofs.Growing.{later_sets_hear_nothing}
use Rattle.run_rules.proofs.Keeping.{order_sets}
use Rattle.run_rules.proofs.Turns.{same}
use Rattle.run_order.specs.Sets.{Notice, attachment_of, placed_at, shelf, harts_of, notices_of, closers_of}
use Rattle.run_order.specs.InOrder.{Task, task_run, hart_kept}
use Rattle.run_order.proofs.Installing.{last_made}
use Rattle.run_order.proofs.Shelves.{map_same}
use Rattle.run_order.proofs.Staying.{made_by}
use Rattle.run_order.proofs.Taking.{placed_by}
use Rattle.kept_order.specs.Arriving.{arrival_at, arrivals}
use Rattle.kept_order.specs.Ordering.{IsWithdrawal, WithdrawalsKeepOrder, RegistrationsKeepOrder}
use Rattle.kept_order.proofs.Arrivals.{last_spec, same_arrival}
use Rattle.kept_order.proofs.Openings.{closer_when, closer}
use Rattle.kept_order.proofs.Tables.{table, table_same, table_row, last_more}

-- What a plug-in's order leaves as it was. `number` is the plug-in that the order names, and `now` is what the order makes of it.

-- a plug-in that an order may name isn't closing
not_closing : (order : Order) (s : PlugState) → is_some (next_state order s) ≡ true → is_closing s ≡ false
not_closing order Live some = refl
not_closing order Idle some = refl
not_closing (Install spec) Resetting some = absurd (false≢true some)
not_closing (Register number spec) Resetting some = absurd (false≢true some)
not_closing (Reset number) Resetting some = absurd (false≢true some)
not_closing (Uninstall number) Resetting some = absurd (false≢true some)
not_closing (Install spec) Leaving some = absurd (false≢true some)
not_closing (Register number spec) Leaving some = absurd (false≢true some)
not_closing (Reset number) Leaving some = absurd (false≢true some)
not_closing (Uninstall number) Leaving some = absurd (false≢true some)
not_closing order Gone some = refl

-- a set that the order doesn't register
pub off_place : (run : Run) (origin : Origin) (order : Order) (p j : ℕ) (past : List Item) → registers (plugins run past) order p ≡ false
    → place_of run p j (Ordered origin order ∷ past) ≡ place_of run p j past
unfolding place_of
off_place run origin order p j past off = rw off refl

-- what the last of these sets has made of a hart's events
off_attachment : (run : Run) (origin : Origin) (order : Order) (p j : ℕ) (past : List Item)
    → sets_of (after_order order (plugins run past)) p ≡ sets_of (plugins run past) p
    → attachment_of run p j (Ordered origin order ∷ past) ≡ attachment_of run p j past
unfolding registry progress
off_attachment run origin order p j past same = ap (λ (sets : List SetSpec). last_made run p j sets past) same

pub off_placed : (test : Place → Bool) (run : Run) (origin : Origin) (order : Order) (p j : ℕ) (past : List Item) → 1 ≤ p
    → allowed (plugins run past) order ≡ true → registers (plugins run past) order p ≡ false
    → placed_at test run (Ordered origin order ∷ past) p j ≡ placed_at test run past p j
off_placed test run origin order p j past one is off =
    placed_by test run past (Ordered origin order ∷ past) p j
    (off_attachment run origin order p j past (order_sets (plugins run past) order p one is off))
    (ap test (off_place run origin order p j past off))

off_arrival : (run : Run) (origin : Origin) (order : Order) (p j : ℕ) (past : List Item) → 1 ≤ p
    → allowed (plugins run past) order ≡ true → registers (plugins run past) order p ≡ false
    → arrival_at run (Ordered origin order ∷ past) p j ≡ arrival_at run past p j
unfolding registry
off_arrival run origin order p j past one is off =
    same_arrival run past (Ordered origin order ∷ past) p j (order_sets (plugins run past) order p one is off)
    (ap is_waiting (off_place run origin order p j past off))

-- a plug-in's closer is with the state unless its closing was taken
while_open : (closing out : Bool) (notices : List Notice) → closing ≡ false
    → (if closing && out then None else Some notices) ≡ Some notices
while_open true out notices is = absurd (false≢true (sym is))
while_open false out notices is = refl

while_in : (closing out : Bool) (notices : List Notice) → out ≡ false
    → (if closing && out then None else Some notices) ≡ Some notices
while_in true true notices is = absurd (false≢true (sym is))
while_in true false notices is = refl
while_in false out notices is = refl

-- where the order begins a withdrawal, where it names another plug-in, and where it registers a set
closing_begins : (run : Run) (origin : Origin) (order : Order) (past : List Item) (plugin : ℕ) → withdraws order plugin ≡ true
    → is_closing (plugin_of (plugins run past) plugin).state ≡ false
    → closer run (Ordered origin order ∷ past) plugin ≡ closer run past plugin
unfolding registry taker notices_of
closing_begins run origin order past plugin is was =
    let r = plugins run past in
    while_in (is_closing (plugin_of (after_order order r) plugin).state)
    (is_some (if withdraws order plugin then None else taker plugin past))
    (notices_of run plugin past) (ap (λ (b : Bool). is_some (if b then None else taker plugin past)) is)
    ∙ sym (while_open (is_closing (plugin_of r plugin).state) (is_some (taker plugin past)) (notices_of run plugin past) was)

other_closer : (run : Run) (origin : Origin) (order : Order) (past : List Item) (plugin : ℕ) → withdraws order plugin ≡ false
    → plugin_of (after_order order (plugins run past)) plugin ≡ plugin_of (plugins run past) plugin
    → closer run (Ordered origin order ∷ past) plugin ≡ closer run past plugin
unfolding registry taker notices_of
other_closer run origin order past plugin off same =
    let s = (plugin_of (after_order order (plugins run past)) plugin).state in
    let notices = notices_of run plugin past in
    ap (λ (b : Bool). if is_closing s && is_some (if b then None else taker plugin past) then None else Some notices) off
    ∙ ap (closer_when run past plugin) same

stays_open : (run : Run) (origin : Origin) (order : Order) (past : List Item) (plugin : ℕ)
    → is_closing (plugin_of (plugins run past) plugin).state ≡ false
    → is_closing (plugin_of (after_order order (plugins run past)) plugin).state ≡ false
    → closer run (Ordered origin order ∷ past) plugin ≡ closer run past plugin
unfolding registry taker notices_of
stays_open run origin order past plugin was is =
    while_open (is_closing (plugin_of (after_order order (plugins run past)) plugin).state)
    (is_some (taker plugin (Ordered origin order ∷ past)))
    (notices_of run plugin past) is
    ∙ sym (while_open (is_closing (plugin_of (plugins run past) plugin).state) (is_some (taker plugin past))
    (notices_of run plugin past) was)

-- an order that names a plug-in
abbrev pub IsNaming : Order → Type 0
IsNaming (Install spec) = ⊥
IsNaming (Register number spec) = Unit {0}
IsNaming (Reset number) = Unit {0}
IsNaming (Uninstall number) = Unit {0}

same_closer : (run : Run) (origin : Origin) (order : Order) (past : List Item) (plugin : ℕ) → IsNaming order → 1 ≤ plugin
    → allowed (plugins run past) order ≡ true → closer run (Ordered origin order ∷ past) plugin ≡ closer run past plugin
same_closer run origin (Install spec) past plugin names one is = absurd names
same_closer run origin (Register number spec) past plugin names one is =
    let r = plugins run past in
    let a = register_admitted r number spec is in
    let now = with_set (plugin_of r number) spec in
    elim (cases_Bool (number == plugin)) [
      | inl at ↦
          let e : number ≡ plugin = number_is number plugin at in
          stays_open run origin (Register number spec) past plugin
          (subst (λ (k : ℕ). is_closing (plugin_of r k).state ≡ false) e
          (not_closing (Register number spec) (plugin_of r number).state a.1))
          (subst (λ (k : ℕ). is_closing (plugin_of (after_order (Register number spec) r) k).state ≡ false) e
          (ap (λ (p : Plugin). is_closing p.state) (same_place r number now (installed_within r number a.0))))
      | inr off ↦
          other_closer run origin (Register number spec) past plugin refl
          (other_place r number plugin now (installed_from r number a.0) one off)
    ]
same_closer run origin (Reset number) past plugin names one is =
    let r = plugins run past in
    let a = reset_admitted r number is in
    let now = withdrawn (plugin_of r number) Resetting how.Reset r.gone in
    elim (cases_Bool (number == plugin)) [
      | inl at ↦
          closing_begins run origin (Reset number) past plugin at
          (subst (λ (k : ℕ). is_closing (plugin_of r k).state ≡ false) (number_is number plugin at)
          (not_closing (Reset number) (plugin_of r number).state a.1))
      | inr off ↦
          other_closer run origin (Reset number) past plugin off (other_place r number plugin now (installed_from r number a.0) one off)
    ]
same_closer run origin (Uninstall number) past plugin names one is =
    let r = plugins run past in
    let a = uninstall_admitted r number is in
    let now = withdrawn (plugin_of r number) Leaving how.Uninstall r.gone in
    elim (cases_Bool (number == plugin)) [
      | inl at ↦
          closing_begins run origin (Uninstall number) past plugin at
          (subst (λ (k : ℕ). is_closing (plugin_of r k).state ≡ false) (number_is number plugin at)
          (not_closing (Uninstall number) (plugin_of r number).state a.1))
      | inr off ↦
          other_closer run origin (Uninstall number) past plugin off (other_place r number plugin now (installed_from r number a.0) one off)
    ]

-- there are as many plug-ins as before, and the harts that have left are the same
pub same_long : (r : Plugins) (order : Order) → IsNaming order → length (after_order order r).plugins ≡ length r.plugins
same_long r (Install spec) names = absurd names
same_long r (Register number spec) names = length-set r.plugins (number - 1) (with_set (plugin_of r number) spec)
same_long r (Reset number) names = length-set r.plugins (number - 1) (withdrawn (plugin_of r number) Resetting how.Reset r.gone)
same_long r (Uninstall number) names = length-set r.plugins (number - 1) (withdrawn (plugin_of r number) Leaving how.Uninstall r.gone)

same_gone : (r : Plugins) (order : Order) → (after_order order r).gone ≡ r.gone
same_gone r (Install spec) = refl
same_gone r (Register number spec) = refl
same_gone r (Reset number) = refl
same_gone r (Uninstall number) = refl

same_closers : (run : Run) (origin : Origin) (order : Order) (past : List Item) → IsNaming order → allowed (plugins run past) order ≡ true
    → closers_of run (Ordered origin order ∷ past) ≡ closers_of run past
unfolding registry
same_closers run origin order past names is =
    let r = plugins run past in
    let now = Ordered origin order ∷ past in
    ap (λ (n : ℕ). map (closer run now) (range_with_len 1 n)) (same_long r order names)
    ∙ map_same (closer run now) (closer run past) 1 (length r.plugins) (λ p one most. same_closer run origin order past p names one is)

-- the harts that have left, where these have
abbrev kept_by : Task → List Item → List Bool → ℕ → Option HartState
kept_by t past gone h = if slice_index_or gone h false then Some (hart_of t.machine t.mode past h) else None

same_harts : (t : Task) (origin : Origin) (order : Order) (past : List Item)
    → map (hart_kept t (Ordered origin order ∷ past)) (harts_of (task_run t)) ≡ map (hart_kept t past) (harts_of (task_run t))
unfolding registry world
same_harts t origin order past =
    ap (λ (gone : List Bool). map (kept_by t past gone) (harts_of (task_run t)))
    (same_gone (plugins (task_run t) past) order)

-- Withdrawals.

pub withdrawal_names : (order : Order) → IsWithdrawal order → IsNaming order
withdrawal_names (Install spec) is = is
withdrawal_names (Register number spec) is = tt
withdrawal_names (Reset number) is = tt
withdrawal_names (Uninstall number) is = tt

pub registers_none : (r : Plugins) (order : Order) (p : ℕ) → IsWithdrawal order → registers r order p ≡ false
registers_none r (Install spec) p is = absurd is
registers_none r (Register number spec) p is = absurd is
registers_none r (Reset number) p is = refl
registers_none r (Uninstall number) p is = refl

shelf_stays : (test : Place → Bool) (run : Run) (origin : Origin) (order : Order) (past : List Item) → IsWithdrawal order
    → allowed (plugins run past) order ≡ true → shelf test run (Ordered origin order ∷ past) ≡ shelf test run past
unfolding registry
shelf_stays test run origin order past is may =
    let r = plugins run past in
    let now = Ordered origin order ∷ past in
    ap (λ (n : ℕ). table (placed_at test run now) run.harts n) (same_long r order (withdrawal_names order is))
    ∙ table_same (placed_at test run past) (placed_at test run now) run.harts (length r.plugins)
    (λ p j one most low. off_placed test run origin order p j past one may (registers_none r order p is))

arrivals_stay : (run : Run) (origin : Origin) (order : Order) (past : List Item) → IsWithdrawal order
    → allowed (plugins run past) order ≡ true → arrivals run (Ordered origin order ∷ past) ≡ arrivals run past
unfolding registry
arrivals_stay run origin order past is may =
    let r = plugins run past in
    let now = Ordered origin order ∷ past in
    ap (λ (n : ℕ). table (arrival_at run now) run.harts n) (same_long r order (withdrawal_names order is))
    ∙ table_same (arrival_at run past) (arrival_at run now) run.harts (length r.plugins)
    (λ p j one most low. off_arrival run origin order p j past one may (registers_none r order p is))

pub withdrawals_keep_order : WithdrawalsKeepOrder
unfolding Legal IsStateLog world registry
withdrawals_keep_order t origin order old new is o legal l =
    let run = task_run t in
    let was = sym l.past in
    let may = legal.1.allowed in
    record {
      order = record {
        legal = subst (Legal run) was legal;
        state_log = subst (IsStateLog run) was (o.state_log, tt);
        journal = l.journal ∙ ap (λ (xs : List Item). Ordered origin order ∷ xs) o.journal ∙ ap journaled was;
        shared = l.shared ∙ o.shared ∙ ap (λ (xs : List Item). (world t.machine t.mode xs).shared) was;
        plugins = l.plugins ∙ ap (after_order order) o.plugins ∙ ap (plugins run) was;
        waiting = l.waiting ∙ o.waiting ∙ sym (shelf_stays is_waiting run origin order old.past is may) ∙ ap (shelf is_waiting run) was;
        parked = l.parked ∙ o.parked ∙ sym (shelf_stays is_parked run origin order old.past is may) ∙ ap (shelf is_parked run) was;
        harts = l.harts ∙ o.harts ∙ sym (same_harts t origin order old.past)
            ∙ ap (λ (xs : List Item). map (hart_kept t xs) (harts_of run)) was;
        closers = l.closers ∙ o.closers ∙ sym (same_closers run origin order old.past (withdrawal_names order is) may)
            ∙ ap (closers_of run) was;
      };
      arrivals = ap (arrivals run) l.past ∙ arrivals_stay run origin order old.past is may;
    }

-- Registrations.

-- no set is parked of a plug-in that may be registered
none_parked : (place : Place) (s : PlugState) (o g : Bool) (q : ℕ) (spec : SetSpec)
    → is_some (next_state (Register q spec) s) ≡ true → fits place s o g ≡ true → is_parked place ≡ false
none_parked place Live o g q spec some f = absurd (false≢true some)
none_parked place Resetting o g q spec some f = absurd (false≢true some)
none_parked place Leaving o g q spec some f = absurd (false≢true some)
none_parked place Gone o g q spec some f = absurd (false≢true some)
none_parked Nowhere Idle o g q spec some f = refl
none_parked Waiting Idle o g q spec some f = refl
none_parked WithHart Idle o g q spec some f = refl
none_parked Parked Idle o g q spec some f = absurd (false≢true f)
none_parked Out Idle o g q spec some f = refl

-- the plug-in has the set behind those that it had
pub sets_more : (r : Plugins) (q : ℕ) (spec : SetSpec) → Admits r (Register q spec) q
    → sets_of (after_order (Register q spec) r) q ≡ sets_of r q ++ spec ∷ []
sets_more r q spec a =
    let now = with_set (plugin_of r q) spec in
    ap (λ (n : ℕ). if nat_lt 0 q && nat_le q n then (plugin_of (after_order (Register q spec) r) q).sets else [])
    (length-set r.plugins (q - 1) now)
    ∙ ap (λ (p : Plugin). if is_installed r q then p.sets else []) (same_place r q now (installed_within r q a.0))
    ∙ ap (λ (b : Bool). if b then (plugin_of r q).sets ++ spec ∷ [] else []) a.0
    ∙ ap (λ (b : Bool). (if b then (plugin_of r q).sets else []) ++ spec ∷ []) (sym a.0)

-- what a set has made of a hart's events, by its filters and its place
abbrev made_at : Run → ℕ → ℕ → List Item → ℕ → SetSpec → Attachment
made_at run q h past set spec = made_by q spec (progress run spec q set h past)

new_attachment : (run : Run) (origin : Origin) (q : ℕ) (spec : SetSpec) (past : List Item) (h : ℕ)
    → Admits (plugins run past) (Register q spec) q
    → attachment_of run q h (Ordered origin (Register q spec) ∷ past) ≡ opening q spec
unfolding registry progress
new_attachment run origin q spec past h a =
    let r = plugins run past in
    let sets = sets_of r q ++ spec ∷ [] in
    ap (λ (sets : List SetSpec). last_made run q h sets past) (sets_more r q spec a)
    ∙ ap (made_at run q h past (length sets - 1)) (last_more (sets_of r q) spec no_set)
    ∙ ap (made_by q spec)
    (later_sets_hear_nothing run spec q (length sets - 1) h past (omega (arith, length-append (sets_of r q) (spec ∷ []))))

-- the set waits for each hart
new_place : (run : Run) (origin : Origin) (q : ℕ) (spec : SetSpec) (past : List Item) (h : ℕ)
    → place_of run q h (Ordered origin (Register q spec) ∷ past) ≡ Waiting
unfolding place_of
new_place run origin q spec past h = rw (same q) refl

new_waiting : (run : Run) (origin : Origin) (q : ℕ) (spec : SetSpec) (past : List Item) (h : ℕ)
    → Admits (plugins run past) (Register q spec) q
    → placed_at is_waiting run (Ordered origin (Register q spec) ∷ past) q h ≡ Some (opening q spec)
new_waiting run origin q spec past h a =
    let now = Ordered origin (Register q spec) ∷ past in
    ap (λ (p : Place). if is_waiting p then Some (attachment_of run q h now) else None) (new_place run origin q spec past h)
    ∙ ap (λ (x : Attachment). Some x) (new_attachment run origin q spec past h a)

new_parked : (run : Run) (origin : Origin) (q : ℕ) (spec : SetSpec) (past : List Item) (h : ℕ)
    → Admits (plugins run past) (Register q spec) q
    → h < run.harts → Legal run past → IsStateLog run past
    → placed_at is_parked run (Ordered origin (Register q spec) ∷ past) q h ≡ placed_at is_parked run past q h
new_parked run origin q spec past h a low legal state =
    let r = plugins run past in
    let now = Ordered origin (Register q spec) ∷ past in
    let place = place_of run q h past in
    let fit : fits_in r place q h ≡ true = places_fit run q h past (installed_from r q a.0) low legal state in
    let none : is_parked place ≡ false = none_parked place (plugin_of r q).state (owed_by r q h) (has_left r h) q spec a.1 fit in
    ap (λ (p : Place). if is_parked p then Some (attachment_of run q h now) else None) (new_place run origin q spec past h)
    ∙ sym (ap (λ (b : Bool). if b then Some (attachment_of run q h past) else None) none)

new_arrival : (run : Run) (origin : Origin) (q : ℕ) (spec : SetSpec) (past : List Item) (h : ℕ)
    → Admits (plugins run past) (Register q spec) q
    → arrival_at run (Ordered origin (Register q spec) ∷ past) q h ≡ Some spec
unfolding registry
new_arrival run origin q spec past h a =
    let r = plugins run past in
    let now = Ordered origin (Register q spec) ∷ past in
    ap (λ (p : Place). if is_waiting p then Some (set_at run q (last_set (plugins run now) q) now) else None)
    (new_place run origin q spec past h)
    ∙ ap (λ (sets : List SetSpec). Some (last_spec sets)) (sets_more r q spec a)
    ∙ ap (λ (s : SetSpec). Some s) (last_more (sets_of r q) spec no_set)

-- what a registration makes of the shelves
record SetsWait (run : Run) (origin : Origin) (q : ℕ) (spec : SetSpec) (past : List Item) : Type 0 where
  waiting : shelf is_waiting run (Ordered origin (Register q spec) ∷ past)
      ≡ slice_set (shelf is_waiting run past) (q - 1) (replicate run.harts (Some (opening q spec)))
  parked : shelf is_parked run (Ordered origin (Register q spec) ∷ past) ≡ shelf is_parked run past
  arrivals : arrivals run (Ordered origin (Register q spec) ∷ past)
      ≡ slice_set (arrivals run past) (q - 1) (replicate run.harts (Some spec))

sets_wait : (run : Run) (origin : Origin) (q : ℕ) (spec : SetSpec) (past : List Item) → allowed (plugins run past) (Register q spec) ≡ true
    → Legal run past → IsStateLog run past → SetsWait run origin q spec past
unfolding registry
sets_wait run origin q spec past may legal state =
    let r = plugins run past in
    let order = Register q spec in
    let now = Ordered origin order ∷ past in
    let a = register_admitted r q spec may in
    let n = length r.plugins in
    let long : length (plugins run now).plugins ≡ n = same_long r order tt in
    let one : 1 ≤ q = installed_from r q a.0 in
    let most : q < 1 + n = omega (arith, installed_within r q a.0, one) in
    record {
      waiting = ap (λ (k : ℕ). table (placed_at is_waiting run now) run.harts k) long
          ∙ table_row (placed_at is_waiting run past) (placed_at is_waiting run now) run.harts n q (Some (opening q spec)) one most
          (λ p j least high low off. off_placed is_waiting run origin order p j past least may off)
          (λ j low. new_waiting run origin q spec past j a);
      parked = ap (λ (k : ℕ). table (placed_at is_parked run now) run.harts k) long
          ∙ table_same (placed_at is_parked run past) (placed_at is_parked run now) run.harts n
          (λ p j least high low. elim (cases_Bool (q == p)) [
            | inr off ↦ off_placed is_parked run origin order p j past least may off
            | inl at ↦ subst (λ (k : ℕ). placed_at is_parked run now k j ≡ placed_at is_parked run past k j) (number_is q p at)
                (new_parked run origin q spec past j a low legal state)
          ]);
      arrivals = ap (λ (k : ℕ). table (arrival_at run now) run.harts k) long
          ∙ table_row (arrival_at run past) (arrival_at run now) run.harts n q (Some spec) one most
          (λ p j least high low off. off_arrival run origin order p j past least may off)
          (λ j low. new_arrival run origin q spec past j a);
    }

pub registrations_keep_order : RegistrationsKeepOrder
unfolding Legal IsStateLog world registry
registrations_keep_order t origin plugin spec old new o legal l =
    let run = task_run t in
    let order = Register plugin spec in
    let was = sym l.past in
    let may = legal.1.allowed in
    let wait = sets_wait run origin plugin spec old.past may o.legal o.state_log in
    record {
      order = record {
        legal = subst (Legal run) was legal;
        state_log = subst (IsStateLog run) was (o.state_log, tt);
        journal = l.journal ∙ ap (λ (xs : List Item). Ordered origin order ∷ xs) o.journal ∙ ap journaled was;
        shared = l.shared ∙ o.shared ∙ ap (λ (xs : List Item). (world t.machine t.mode xs).shared) was;
        plugins = l.plugins ∙ ap (after_order order) o.plugins ∙ ap (plugins run) was;
        waiting = l.waiting ∙ ap (λ rows. slice_set rows (plugin - 1) (replicate t.machine.harts (Some (opening plugin spec)))) o.waiting
            ∙ sym wait.waiting ∙ ap (shelf is_waiting run) was;
        parked = l.parked ∙ o.parked ∙ sym wait.parked ∙ ap (shelf is_parked run) was;
        harts = l.harts ∙ o.harts ∙ sym (same_harts t origin order old.past)
            ∙ ap (λ (xs : List Item). map (hart_kept t xs) (harts_of run)) was;
        closers = l.closers ∙ o.closers ∙ sym (same_closers run origin order old.past tt may) ∙ ap (closers_of run) was;
      };
      arrivals = ap (arrivals run) l.past ∙ wait.arrivals;
    }
