-- Withdrawals: when they may stand, and what they leave as it was.
use Rattle.std.proofs.Common.{◌≡◌, ◌==◌, ◌&&◌, ◌-◌, ◌≤◌, ◌∷◌, [], ◌∙◌, ℕ, Bool, true, false, not, List}
use Rattle.std.proofs.Common.{Option, Some, None, refl, sym, ap, subst, arith, inl, inr, length, nat_lt, nat_le}
use Rattle.std.specs.Prelude.{if◌then◌else◌, slice_set, is_some}
use Rattle.std.specs.Cmp.Derive.{both_true}
use Rattle.std.specs.List.{filter_map, range_with_len}
use Rattle.std.proofs.lemmas.Bool.{cases_Bool, false≢true, lt-ltb, leb-false}
use Rattle.std.proofs.lemmas.List.{length-append, length-set, length-map}
use Rattle.flat_model.specs.declared.plugins.Ask.{Ask}
use Rattle.flat_model.specs.declared.plugins.Ask.TheVariants as asks
use Rattle.flat_model.specs.declared.plugins.SetSpec.{SetSpec}
use Rattle.flat_model.specs.declared.journals.How.TheVariants as how
use Rattle.flat_model.specs.declared.journals.Item.{Item}
use Rattle.flat_model.specs.declared.journals.Item.TheVariants.{Step, Ordered, GaveBack, Left, Told, Got, Took}
use Rattle.flat_model.specs.declared.journals.Order.{Order}
use Rattle.flat_model.specs.declared.journals.Order.TheVariants.{Install, Register, Reset, Uninstall}
use Rattle.flat_model.specs.declared.journals.Origin.{Origin}
use Rattle.flat_model.specs.declared.journals.PlugState.{PlugState}
use Rattle.flat_model.specs.declared.journals.PlugState.TheVariants.{Live, Idle, Resetting, Leaving, Gone}
use Rattle.flat_model.specs.declared.limits.TheConstants.{PLUGINS_MOST}
use Rattle.flat_model.specs.declared.orders.OrderRefusal.{OrderRefusal}
use Rattle.flat_model.specs.Registry.{Plugins, Plugin, registry, plugin_of, sets_of, is_installed, after_order}
use Rattle.flat_model.specs.Registry.{with_plugin, withdrawn, without_hart, done_state, next_state}
use Rattle.flat_model.specs.Registry.{refusal, state_refusal, count_refusal, set_refusal, box_refusal, first, refused_if}
use Rattle.flat_model.specs.Worlds.{world}
use Rattle.run_rules.specs.Guest.{Run, plugins}
use Rattle.run_rules.specs.Due.{allowed}
use Rattle.run_rules.specs.Heard.{progress, is_live, waiting}
use Rattle.run_rules.specs.Legal.{Legal, is_there, asked_order}
use Rattle.run_rules.specs.Places.{place_of, is_with_hart, withdraws}
use Rattle.run_rules.proofs.Fitting.{reset_admitted, uninstall_admitted, beyond, other_place, same_place, number_is}
use Rattle.run_rules.proofs.Fitting.{installed_from, installed_within}
use Rattle.run_rules.proofs.Growing.{fresh}
use Rattle.run_rules.proofs.Keeping.{order_sets}
use Rattle.run_rules.proofs.Turns.{rest_true, same}
use Rattle.run_order.specs.Sets.{placed_at}
use Rattle.run_order.specs.InOrder.{task_run}
use Rattle.kept_order.specs.Hearing.{spec_at}
use Rattle.kept_order.specs.Ordering.{IsWithdrawal}
use Rattle.kept_order.specs.Withdrawing.{WithdrawalsMoveNothing, LiveMayBeWithdrawn, AsksStand, PluginsAreFew}
use Rattle.kept_order.proofs.Arrivals.{last_spec}
use Rattle.kept_order.proofs.Notices.{gives_same}
use Rattle.kept_order.proofs.Orders.{withdrawal_names, registers_none, same_long, off_place, off_placed}

-- What a withdrawal leaves as it was.

same_there : (run : Run) (h : ℕ) (origin : Origin) (order : Order) (past : List Item)
    → is_there run h (Ordered origin order ∷ past) ≡ is_there run h past
unfolding registry
same_there run h origin (Install spec) past = refl
same_there run h origin (Register plugin spec) past = refl
same_there run h origin (Reset plugin) past = refl
same_there run h origin (Uninstall plugin) past = refl

off_spec : (run : Run) (h : ℕ) (origin : Origin) (order : Order) (p : ℕ) (past : List Item) → IsWithdrawal order → 1 ≤ p
    → allowed (plugins run past) order ≡ true → spec_at run h (Ordered origin order ∷ past) p ≡ spec_at run h past p
unfolding registry
off_spec run h origin order p past is one may =
    let r = plugins run past in
    let off = registers_none r order p is in
    ap (λ (b : Bool). if b then Some (p, last_spec (sets_of (after_order order r) p)) else None)
    (ap is_with_hart (off_place run origin order p h past off))
    ∙ ap (λ (sets : List SetSpec). if is_with_hart (place_of run p h past) then Some (p, last_spec sets) else None)
    (order_sets r order p one may off)

-- the plug-in that is withdrawn is Live no more, and the others are what they were
live_named : (r : Plugins) (number p : ℕ) (now : Plugin) → is_installed r number ≡ true → 1 ≤ p → is_live now.state ≡ false
    → is_live (plugin_of (with_plugin r number now) p).state ≡ (not (number == p) && is_live (plugin_of r p).state)
live_named r number p now there one dead =
    elim (cases_Bool (number == p)) [
      | inl at ↦
          ap (λ (k : ℕ). is_live (plugin_of (with_plugin r number now) k).state) (sym (number_is number p at))
          ∙ ap (λ (x : Plugin). is_live x.state) (same_place r number now (installed_within r number there))
          ∙ dead ∙ sym (ap (λ (b : Bool). not b && is_live (plugin_of r p).state) at)
      | inr off ↦
          ap (λ (x : Plugin). is_live x.state) (other_place r number p now (installed_from r number there) one off)
          ∙ sym (ap (λ (b : Bool). not b && is_live (plugin_of r p).state) off)
    ]

live_if : (r : Plugins) (order : Order) (p : ℕ) → IsWithdrawal order → 1 ≤ p → allowed r order ≡ true
    → is_live (plugin_of (after_order order r) p).state ≡ (not (withdraws order p) && is_live (plugin_of r p).state)
live_if r (Install spec) p is one may = absurd is
live_if r (Register number spec) p is one may = absurd is
live_if r (Reset number) p is one may = live_named r number p (withdrawn (plugin_of r number) Resetting how.Reset r.gone)
    (reset_admitted r number may).0 one refl
live_if r (Uninstall number) p is one may = live_named r number p (withdrawn (plugin_of r number) Leaving how.Uninstall r.gone)
    (uninstall_admitted r number may).0 one refl

dead_waits : (installed live : Bool) (ask : Ask) → live ≡ false → (if installed && live then ask else asks.Stay) ≡ asks.Stay
dead_waits installed true ask dead = absurd (false≢true (sym dead))
dead_waits true false ask dead = refl
dead_waits false false ask dead = refl

-- the ask that waits, by whether the plug-in is there and Live, and by its sets
abbrev waits_by : Run → ℕ → ℕ → List Item → Bool → Bool → List SetSpec → Ask
waits_by run p h past installed live sets =
    if installed && live then (progress run (last_spec sets) p (length sets - 1) h past).walk.asked else asks.Stay

waits_if : (run : Run) (h : ℕ) (origin : Origin) (order : Order) (p : ℕ) (past : List Item) → IsWithdrawal order → 1 ≤ p
    → allowed (plugins run past) order ≡ true
    → waiting run p h (Ordered origin order ∷ past) ≡ (if withdraws order p then asks.Stay else waiting run p h past)
unfolding registry progress
waits_if run h origin order p past is one may =
    let r = plugins run past in
    let now = after_order order r in
    let live = live_if r order p is one may in
    let sets = sets_of now p in
    elim (cases_Bool (withdraws order p)) [
      | inl at ↦
          dead_waits (is_installed now p) (is_live (plugin_of now p).state)
          (progress run (last_spec sets) p (length sets - 1) h past).walk.asked
          (live ∙ ap (λ (b : Bool). not b && is_live (plugin_of r p).state) at)
          ∙ sym (ap (λ (b : Bool). if b then asks.Stay else waiting run p h past) at)
      | inr off ↦
          ap (λ (n : ℕ). waits_by run p h past (nat_lt 0 p && nat_le p n) (is_live (plugin_of now p).state) sets)
          (same_long r order (withdrawal_names order is))
          ∙ ap (λ (b : Bool). waits_by run p h past (is_installed r p) b sets)
          (live ∙ ap (λ (b : Bool). not b && is_live (plugin_of r p).state) off)
          ∙ ap (waits_by run p h past (is_installed r p) (is_live (plugin_of r p).state))
          (order_sets r order p one may (registers_none r order p is))
          ∙ sym (ap (λ (b : Bool). if b then asks.Stay else waiting run p h past) off)
    ]

pub withdrawals_move_nothing : WithdrawalsMoveNothing
unfolding registry world
withdrawals_move_nothing t h origin order past is may =
    let run = task_run t in
    let r = plugins run past in
    let now = Ordered origin order ∷ past in
    let long = same_long r order (withdrawal_names order is) in
    record {
      there = same_there run h origin order past;
      sets = ap (λ (n : ℕ). filter_map (λ p. placed_at is_with_hart run now p h) (range_with_len 1 n)) long
          ∙ gives_same (λ p. placed_at is_with_hart run now p h) (λ p. placed_at is_with_hart run past p h) 1 (length r.plugins)
          (λ p one most. off_placed is_with_hart run origin order p h past one may (registers_none r order p is));
      specs = ap (λ (n : ℕ). filter_map (spec_at run h now) (range_with_len 1 n)) long
          ∙ gives_same (spec_at run h now) (spec_at run h past) 1 (length r.plugins)
          (λ p one most. off_spec run h origin order p past is one may);
      world = refl;
      as_many = long;
      live = λ p one. live_if r order p is one may;
      asks = λ p one. waits_if run h origin order p past is one may;
    }

-- Where a withdrawal may stand.

live_is : (s : PlugState) → is_live s ≡ true → s ≡ Live
live_is Live is = refl
live_is Idle is = absurd (false≢true is)
live_is Resetting is = absurd (false≢true is)
live_is Leaving is = absurd (false≢true is)
live_is Gone is = absurd (false≢true is)

live_installed : (r : Plugins) (p : ℕ) → 1 ≤ p → is_live (plugin_of r p).state ≡ true → is_installed r p ≡ true
live_installed r p one live =
    elim (cases_Bool (nat_le p (length r.plugins))) [
      | inl low ↦ both_true (lt-ltb 0 p (omega (arith, one))) low
      | inr high ↦
          absurd (false≢true (ap (λ (x : Plugin). is_live x.state)
          (sym (beyond r.plugins (p - 1) (omega (arith, leb-false p (length r.plugins) high)))) ∙ live))
    ]

stands_if : (r : Plugins) (order : Order) (p : ℕ) (s : PlugState) → is_installed r p ≡ true → (plugin_of r p).state ≡ s
    → is_some (next_state order s) ≡ true → state_refusal r order p ≡ None
unfolding state_refusal
stands_if r order p s there is some =
    let o = (plugin_of r p).state in
    let may : is_some (next_state order o) ≡ true = ap (λ (s : PlugState). is_some (next_state order s)) is ∙ some in
    rw there (rw may refl)

pub live_may_be_withdrawn : LiveMayBeWithdrawn
unfolding refusal
live_may_be_withdrawn r (Install spec) p is at one live = absurd is
live_may_be_withdrawn r (Register number spec) p is at one live = absurd is
live_may_be_withdrawn r (Reset number) p is at one live =
    let e : p ≡ number = sym (number_is number p at) in
    subst (λ (k : ℕ). state_refusal r (Reset k) k ≡ None) e
    (stands_if r (Reset p) p Live (live_installed r p one live) (live_is (plugin_of r p).state live) refl)
live_may_be_withdrawn r (Uninstall number) p is at one live =
    let e : p ≡ number = sym (number_is number p at) in
    subst (λ (k : ℕ). state_refusal r (Uninstall k) k ≡ None) e
    (stands_if r (Uninstall p) p Live (live_installed r p one live) (live_is (plugin_of r p).state live) refl)

-- an ask names its order
record IsAsked (p : ℕ) (order : Order) : Type 0 where
  withdrawal : IsWithdrawal order
  of_it : withdraws order p ≡ true

asked_by : (p : ℕ) (ask : Ask) (order : Order) → asked_order p ask ≡ Some order → IsAsked p order
asked_by p asks.Stay order is = absurd cc
asked_by p asks.Reset order is =
    let e : Reset p ≡ order = cc in
    subst (IsAsked p) e (record { withdrawal = tt; of_it = same p })
asked_by p asks.Uninstall order is =
    let e : Uninstall p ≡ order = cc in
    subst (IsAsked p) e (record { withdrawal = tt; of_it = same p })

asked_where : (b : Bool) (p : ℕ) (ask : Ask) (order : Order) → asked_order p (if b then ask else asks.Stay) ≡ Some order → b ≡ true
asked_where true p ask order is = refl
asked_where false p ask order is = absurd cc

pub asks_stand : AsksStand
unfolding Legal
asks_stand run h p order past legal none one is =
    let r = plugins run past in
    let asked = asked_by p (waiting run p h past) order is in
    let live : is_live (plugin_of r p).state ≡ true = rest_true (is_installed r p) _ (asked_where _ p _ order is) in (
      legal,
      record {
        allowed = ap (λ (o : Option OrderRefusal). not (is_some o)) (live_may_be_withdrawn r order p asked.withdrawal asked.of_it one live);
        given = (ap (λ (o : Option Item). not (is_some o)) none, is);
      },
    )

-- How many plug-ins there are.

unrefused : (o : Option OrderRefusal) → not (is_some o) ≡ true → o ≡ None
unrefused None is = refl
unrefused (Some why) is = absurd (false≢true is)

first_none : (a b : Option OrderRefusal) → first a b ≡ None → a ≡ None
first_none None b none = refl
first_none (Some why) b none = absurd cc

never : (test : Bool) (why : OrderRefusal) → refused_if test why ≡ None → test ≡ false
never true why none = absurd cc
never false why none = refl

few_more : (r : Plugins) (spec : SetSpec) → allowed r (Install spec) ≡ true → length (after_order (Install spec) r).plugins ≤ PLUGINS_MOST
unfolding refusal count_refusal
few_more r spec may =
    let room = leb-false PLUGINS_MOST (length r.plugins)
    (never (nat_le PLUGINS_MOST (length r.plugins)) _
    (first_none (count_refusal r) (first (set_refusal spec) (box_refusal r spec)) (unrefused _ may))) in
    omega (arith, room, length-append r.plugins (fresh r spec ∷ []))

pub plugins_are_few : PluginsAreFew
unfolding Legal registry
plugins_are_few run [] legal = omega arith
plugins_are_few run (Step hart ∷ past) legal = plugins_are_few run past legal.0
plugins_are_few run (Ordered origin (Install spec) ∷ past) legal = few_more (plugins run past) spec legal.1.allowed
plugins_are_few run (Ordered origin (Register plugin spec) ∷ past) legal =
    omega (arith, plugins_are_few run past legal.0, same_long (plugins run past) (Register plugin spec) tt)
plugins_are_few run (Ordered origin (Reset plugin) ∷ past) legal =
    omega (arith, plugins_are_few run past legal.0, same_long (plugins run past) (Reset plugin) tt)
plugins_are_few run (Ordered origin (Uninstall plugin) ∷ past) legal =
    omega (arith, plugins_are_few run past legal.0, same_long (plugins run past) (Uninstall plugin) tt)
plugins_are_few run (GaveBack hart plugin ∷ past) legal =
    let r = plugins run past in
    let p = plugin_of r plugin in
    omega (arith, plugins_are_few run past legal.0, length-set r.plugins (plugin - 1) (record p { owing = slice_set p.owing hart false }))
plugins_are_few run (Left hart ∷ past) legal =
    omega (arith, plugins_are_few run past legal.0, length-map (plugins run past).plugins (without_hart hart))
plugins_are_few run (Told party plugin ∷ past) legal =
    let r = plugins run past in
    let p = plugin_of r plugin in
    omega (arith, plugins_are_few run past legal.0, length-set r.plugins (plugin - 1) (record p { state = done_state p.state }))
plugins_are_few run (Got hart plugin ∷ past) legal = plugins_are_few run past legal.0
plugins_are_few run (Took party plugin ∷ past) legal = plugins_are_few run past legal.0
