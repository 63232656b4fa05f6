-- Closings that are out: between entries none is, since each is told in the call that takes it.
use Rattle.std.proofs.Common.{◌≡◌, ◌==◌, ◌&&◌, ◌+◌, ◌-◌, ◌<◌, ◌≤◌, ◌∷◌, [], ◌++◌, ◌∙◌, ℕ, zero, suc, Bool, true, false, List}
use Rattle.std.proofs.Common.{Option, Some, None, refl, sym, ap, subst, arith, inl, inr, length, All}
use Rattle.std.specs.Prelude.{if◌then◌else◌, slice_index_or, slice_set, is_some, replicate}
use Rattle.std.proofs.lemmas.Bool.{cases_Bool, false≢true, and_right}
use Rattle.flat_model.specs.declared.journals.How.TheVariants as how
use Rattle.flat_model.specs.declared.journals.Item.{Item}
use Rattle.flat_model.specs.declared.journals.Item.TheVariants.{Step, Ordered, GaveBack, Left, Told, Got, Took}
use Rattle.flat_model.specs.declared.journals.Order.{Order}
use Rattle.flat_model.specs.declared.journals.Order.TheVariants.{Install, Register, Reset, Uninstall}
use Rattle.flat_model.specs.declared.journals.Origin.{Origin}
use Rattle.flat_model.specs.declared.journals.PlugState.{PlugState}
use Rattle.flat_model.specs.declared.journals.PlugState.TheVariants as states
use Rattle.flat_model.specs.Registry.{Plugin, Plugins, no_plugin, plugin_of, registry, after_order, after_done, with_set, withdrawn}
use Rattle.flat_model.specs.Registry.{done_state, is_closing, is_complete, is_installed}
use Rattle.run_rules.specs.Guest.{Run, plugins}
use Rattle.run_rules.specs.Due.{allowed}
use Rattle.run_rules.specs.Legal.{Legal}
use Rattle.run_rules.specs.Places.{IsStateLog, taker, withdraws}
use Rattle.run_rules.proofs.Fitting.{complete, installed_from, installed_within, number_is, other_place, same_place}
use Rattle.run_rules.proofs.Fitting.{reset_admitted, uninstall_admitted}
use Rattle.run_rules.proofs.Turns.{first_true}
use Rattle.run_order.specs.Sets.{is_closing_out}
use Rattle.host_state.specs.Scripting.{IsLineOf}

abbrev pub NoneOut : Run → List Item → Type 0
NoneOut run past = (p : ℕ) → is_closing_out run p past ≡ false

-- Nobody takes a closing of number 0.

none_if : (b : Bool) (taken : Option ℕ) → taken ≡ None → (if b then None else taken) ≡ None
none_if true taken is = refl
none_if false taken is = is

zero_untaken : (run : Run) (past : List Item) → IsStateLog run past → taker 0 past ≡ None
unfolding IsStateLog taker
zero_untaken run [] state = refl
zero_untaken run (Step hart ∷ past) state = zero_untaken run past state.0
zero_untaken run (Ordered origin order ∷ past) state = none_if (withdraws order 0) (taker 0 past) (zero_untaken run past state.0)
zero_untaken run (GaveBack hart number ∷ past) state = zero_untaken run past state.0
zero_untaken run (Left hart ∷ past) state = zero_untaken run past state.0
zero_untaken run (Told party number ∷ past) state = zero_untaken run past state.0
zero_untaken run (Got hart number ∷ past) state = zero_untaken run past state.0
zero_untaken run (Took party number ∷ past) state =
    elim (cases_Bool (number == 0)) [
      | inl at ↦
          let none : number ≡ 0 = number_is number 0 at in
          let r = plugins run past in
          let some : 1 ≤ number = installed_from r number (first_true (is_installed r number) _ state.1.0) in
          absurd (omega (arith, none, some))
      | inr off ↦ ap (λ (b : Bool). if b then Some party else taker 0 past) off ∙ zero_untaken run past state.0
    ]

zero_in : (run : Run) (past : List Item) → IsStateLog run past → is_closing_out run 0 past ≡ false
zero_in run past state =
    and_right (is_closing (plugin_of (plugins run past) 0).state) (is_some (taker 0 past)) (ap is_some (zero_untaken run past state))

-- An order begins no withdrawal of a plug-in that it doesn't withdraw.

set_closing : (ps : List Plugin) (k : ℕ) (x : Plugin) (i : ℕ) → is_closing x.state ≡ false
    → is_closing (slice_index_or (slice_set ps k x) i no_plugin).state ≡ true → is_closing (slice_index_or ps i no_plugin).state ≡ true
set_closing [] k x i off is = is
set_closing (p ∷ ps) zero x zero off is = absurd (false≢true (sym off ∙ is))
set_closing (p ∷ ps) zero x (suc i) off is = is
set_closing (p ∷ ps) (suc k) x zero off is = is
set_closing (p ∷ ps) (suc k) x (suc i) off is = set_closing ps k x i off is

add_closing : (ps : List Plugin) (x : Plugin) (i : ℕ) → is_closing x.state ≡ false
    → is_closing (slice_index_or (ps ++ x ∷ []) i no_plugin).state ≡ true → is_closing (slice_index_or ps i no_plugin).state ≡ true
add_closing [] x zero off is = absurd (false≢true (sym off ∙ is))
add_closing [] x (suc i) off is = is
add_closing (p ∷ ps) x zero off is = is
add_closing (p ∷ ps) x (suc i) off is = add_closing ps x i off is

order_closing : (r : Plugins) (order : Order) (p : ℕ) → 1 ≤ p → allowed r order ≡ true → withdraws order p ≡ false
    → is_closing (plugin_of (after_order order r) p).state ≡ true → is_closing (plugin_of r p).state ≡ true
order_closing r (Install spec) p one is off closing =
    add_closing r.plugins (record { state = states.Live; sets = spec ∷ []; endings = []; owing = replicate r.harts false }) (p - 1) refl closing
order_closing r (Register number spec) p one is off closing =
    set_closing r.plugins (number - 1) (with_set (plugin_of r number) spec) (p - 1) refl closing
order_closing r (Reset number) p one is off closing =
    let other = other_place r number p (withdrawn (plugin_of r number) states.Resetting how.Reset r.gone)
    (installed_from r number (reset_admitted r number is).0) one off in
    ap (λ (x : Plugin). is_closing x.state) (sym other) ∙ closing
order_closing r (Uninstall number) p one is off closing =
    let other = other_place r number p (withdrawn (plugin_of r number) states.Leaving how.Uninstall r.gone)
    (installed_from r number (uninstall_admitted r number is).0) one off in
    ap (λ (x : Plugin). is_closing x.state) (sym other) ∙ closing

weaker : (a b c : Bool) → (a ≡ true → b ≡ true) → (b && c) ≡ false → (a && c) ≡ false
weaker true b c to none = ap (λ x. x && c) (sym (to refl)) ∙ none
weaker false b c to none = refl

pub none_out_ordered : (run : Run) (origin : Origin) (order : Order) (past : List Item) → Legal run (Ordered origin order ∷ past)
    → IsStateLog run (Ordered origin order ∷ past) → NoneOut run past → NoneOut run (Ordered origin order ∷ past)
unfolding Legal registry taker
none_out_ordered run origin order past legal state none zero = zero_in run (Ordered origin order ∷ past) state
none_out_ordered run origin order past legal state none (suc k) =
    let p = suc k in
    let r = plugins run past in
    let closing = is_closing (plugin_of (after_order order r) p).state in
    elim (cases_Bool (withdraws order p)) [
      | inl at ↦
          and_right closing (is_some (if withdraws order p then None else taker p past))
          (ap (λ (b : Bool). is_some (if b then None else taker p past)) at)
      | inr off ↦
          ap (λ (b : Bool). closing && is_some (if b then None else taker p past)) off
          ∙ weaker closing (is_closing (plugin_of r p).state) (is_some (taker p past))
          (order_closing r order p (omega arith) legal.1.allowed off) (none p)
    ]

pub none_out_lines : (run : Run) (who : ℕ) (more past : List Item) → All (IsLineOf who) more → Legal run (more ++ past)
    → IsStateLog run (more ++ past) → NoneOut run past → NoneOut run (more ++ past)
unfolding Legal IsStateLog
none_out_lines run who [] past each legal state none = none
none_out_lines run who (Ordered origin order ∷ more) past each legal state none =
    none_out_ordered run origin order (more ++ past) legal state
    (none_out_lines run who more past (λ k d below. each (suc k) d (omega (arith, below))) legal.0 state.0 none)
none_out_lines run who (Step h ∷ more) past each legal state none = absurd (each 0 (Step h) (omega arith))
none_out_lines run who (GaveBack h plugin ∷ more) past each legal state none = absurd (each 0 (GaveBack h plugin) (omega arith))
none_out_lines run who (Left h ∷ more) past each legal state none = absurd (each 0 (Left h) (omega arith))
none_out_lines run who (Told party plugin ∷ more) past each legal state none = absurd (each 0 (Told party plugin) (omega arith))
none_out_lines run who (Got h plugin ∷ more) past each legal state none = absurd (each 0 (Got h plugin) (omega arith))
none_out_lines run who (Took party plugin ∷ more) past each legal state none = absurd (each 0 (Took party plugin) (omega arith))

-- A closing that is taken is told.

closed_then : (state : PlugState) → is_closing (done_state state) ≡ false
closed_then states.Live = refl
closed_then states.Idle = refl
closed_then states.Resetting = refl
closed_then states.Leaving = refl
closed_then states.Gone = refl

pub none_out_told : (run : Run) (party by q : ℕ) (past : List Item) → is_complete (plugins run past) q ≡ true
    → IsStateLog run (Told party q ∷ Took by q ∷ past) → NoneOut run past → NoneOut run (Told party q ∷ Took by q ∷ past)
unfolding registry taker
none_out_told run party by q past is state none zero = zero_in run (Told party q ∷ Took by q ∷ past) state
none_out_told run party by q past is state none (suc k) =
    let p = suc k in
    let r = plugins run past in
    let x = record (plugin_of r q) { state = done_state (plugin_of r q).state } in
    let there : is_installed r q ≡ true = (complete r q 0 is).0 in
    let closing = is_closing (plugin_of (after_done q r) p).state in
    elim (cases_Bool (q == p)) [
      | inl at ↦
          let e : q ≡ p = number_is q p at in
          let closed : is_closing (plugin_of (after_done q r) p).state ≡ false =
          subst (λ (n : ℕ). is_closing (plugin_of (after_done q r) n).state ≡ false) e
          (ap (λ (y : Plugin). is_closing y.state) (same_place r q x (installed_within r q there)) ∙ closed_then (plugin_of r q).state) in
          ap (λ (b : Bool). b && is_some (if q == p then Some by else taker p past)) closed
      | inr off ↦
          let same = other_place r q p x (installed_from r q there) (omega arith) off in
          ap (λ (b : Bool). closing && is_some (if b then Some by else taker p past)) off
          ∙ ap (λ (y : Plugin). is_closing y.state && is_some (taker p past)) same ∙ none p
    ]
