-- How the sets of a plug-in have ended.
use Rattle.std.proofs.Common.{◌≡◌, ◌≢◌, ◌==◌, ◌&&◌, ◌+◌, ◌-◌, ◌<◌, ◌≤◌, ◌∷◌, [], ◌++◌, ◌∙◌, ℕ, zero, suc, Bool, true, false, not, List}
use Rattle.std.proofs.Common.{None, refl, sym, ap, subst, arith, nat_lt, inl, inr, length}
use Rattle.std.specs.Prelude.{if◌then◌else◌, slice_set, slice_get, is_some}
use Rattle.std.proofs.lemmas.Bool.{cases_Bool, false≢true, and_left, and_right, ltb-true}
use Rattle.std.proofs.lemmas.Bool.Decides.{nat_tests}
use Rattle.std.proofs.lemmas.List.{length-append}
use Rattle.flat_model.specs.declared.plugins.SetSpec.{SetSpec}
use Rattle.flat_model.specs.declared.journals.How.{How}
use Rattle.flat_model.specs.declared.journals.How.TheVariants as how
use Rattle.flat_model.specs.declared.journals.Item.{Item}
use Rattle.flat_model.specs.declared.journals.Item.TheVariants.{Step, Ordered, GaveBack, Left, Told, Got, Took}
use Rattle.flat_model.specs.declared.journals.Order.{Order}
use Rattle.flat_model.specs.declared.journals.Order.TheVariants.{Install, Register, Reset, Uninstall}
use Rattle.flat_model.specs.declared.journals.PlugState.{PlugState}
use Rattle.flat_model.specs.declared.journals.PlugState.TheVariants.{Live, Idle, Resetting, Leaving, Gone}
use Rattle.flat_model.specs.Registry.{Plugins, Plugin, plugin_of, is_installed, registry, after_order}
use Rattle.flat_model.specs.Registry.{with_plugin, with_set, withdrawn, done_state, ending_by, is_complete, is_closing, next_state}
use Rattle.flat_model.specs.Registry.{owes}
use Rattle.run_rules.specs.Guest.{Run, plugins}
use Rattle.run_rules.specs.Heard.{is_live}
use Rattle.run_rules.specs.Due.{allowed}
use Rattle.run_rules.specs.Legal.{Legal, Rule}
use Rattle.run_rules.specs.Laws.{EndingsFit, EndingsGoWithStates, LastSetsListenWhileLive}
use Rattle.run_rules.proofs.Turns.{first_true}
use Rattle.run_rules.proofs.Growing.{fresh}
use Rattle.run_rules.proofs.Fitting.{register_admitted, reset_admitted, uninstall_admitted, complete, number_is, append_other, append_last, other_place, same_place}
use Rattle.run_rules.proofs.Fitting.{left_at, installed_from, installed_within}

set_state : (s : PlugState) (q : ℕ) (spec : SetSpec) → is_some (next_state (Register q spec) s) ≡ true → is_live s ≡ false
set_state Live q spec some = absurd (false≢true some)
set_state Idle q spec some = refl
set_state Resetting q spec some = absurd (false≢true some)
set_state Leaving q spec some = absurd (false≢true some)
set_state Gone q spec some = absurd (false≢true some)

-- a plug-in that an item makes of one
set_fits : (p : Plugin) (q : ℕ) (spec : SetSpec) → is_some (next_state (Register q spec) p.state) ≡ true → EndingsFit p → EndingsFit (with_set p spec)
set_fits p q spec some fit =
    let idle : is_live p.state ≡ false = set_state p.state q spec some in
    (λ live. omega (arith, fit.1 idle, length-append p.sets (spec ∷ [])), λ dead. absurd (false≢true (sym dead)))

-- a plug-in that goes from one state to one that isn't Live, with these endings more
closes : (old new : PlugState) (sets : List SetSpec) (endings more : List How)
    → (is_live old ≡ true → length more ≡ 1) → (is_live old ≡ false → length more ≡ 0) → is_live new ≡ false
    → (is_live old ≡ true → length endings + 1 ≡ length sets) → (is_live old ≡ false → length endings ≡ length sets)
    → (is_live new ≡ true → length (endings ++ more) + 1 ≡ length sets) × (is_live new ≡ false → length (endings ++ more) ≡ length sets)
closes old new sets endings more one none dead live idle = (
  λ is. absurd (false≢true (sym dead ∙ is)),
  λ is. elim (cases_Bool (is_live old)) [
    | inl was ↦ omega (arith, one was, live was, length-append endings more)
    | inr was ↦ omega (arith, none was, idle was, length-append endings more)
  ],
)

ends_one : (s : PlugState) (h : How) → is_live s ≡ true → length (ending_by s h) ≡ 1
ends_one Live h is = refl
ends_one Idle h is = absurd (false≢true is)
ends_one Resetting h is = absurd (false≢true is)
ends_one Leaving h is = absurd (false≢true is)
ends_one Gone h is = absurd (false≢true is)

ends_none : (s : PlugState) (h : How) → is_live s ≡ false → length (ending_by s h) ≡ 0
ends_none Live h is = absurd (false≢true (sym is))
ends_none Idle h is = refl
ends_none Resetting h is = refl
ends_none Leaving h is = refl
ends_none Gone h is = refl

withdrawn_fits : (p : Plugin) (s : PlugState) (h : How) (gone : List Bool) → is_live s ≡ false → EndingsFit p → EndingsFit (withdrawn p s h gone)
withdrawn_fits p s h gone dead fit =
    closes p.state s p.sets p.endings (ending_by p.state h) (ends_one p.state h) (ends_none p.state h) dead fit.0 fit.1

closing_dead : (s : PlugState) → is_closing s ≡ true → is_live s ≡ false
closing_dead Live closing = absurd (false≢true closing)
closing_dead Idle closing = refl
closing_dead Resetting closing = refl
closing_dead Leaving closing = refl
closing_dead Gone closing = refl

done_dead : (s : PlugState) → is_closing s ≡ true → is_live (done_state s) ≡ false
done_dead Live closing = absurd (false≢true closing)
done_dead Idle closing = refl
done_dead Resetting closing = refl
done_dead Leaving closing = refl
done_dead Gone closing = refl

done_fits : (p : Plugin) → is_closing p.state ≡ true → EndingsFit p → EndingsFit (record p { state = done_state p.state })
done_fits p closing fit =
    let dead : is_live p.state ≡ false = closing_dead p.state closing in
    (λ live. absurd (false≢true (sym (done_dead p.state closing) ∙ live)), λ is. fit.1 dead)

-- with one plug-in changed, each fits if that one does
placed_fits : (r : Plugins) (number plugin : ℕ) (p : Plugin) → is_installed r number ≡ true → 1 ≤ plugin
    → EndingsFit (plugin_of r plugin) → (number ≡ plugin → EndingsFit p) → EndingsFit (plugin_of (with_plugin r number p) plugin)
placed_fits r number plugin p installed one old new =
    elim (cases_Bool (number == plugin)) [
      | inl at ↦
          let e : number ≡ plugin = number_is number plugin at in
          subst (λ (n : ℕ). EndingsFit (plugin_of (with_plugin r number p) n)) e
          (subst (λ (x : Plugin). EndingsFit x) (sym (same_place r number p (installed_within r number installed))) (new e))
      | inr off ↦ subst (λ (x : Plugin). EndingsFit x) (sym (other_place r number plugin p (installed_from r number installed) one off)) old
    ]

order_fits : (r : Plugins) (order : Order) (plugin : ℕ) → 1 ≤ plugin → allowed r order ≡ true → EndingsFit (plugin_of r plugin)
    → EndingsFit (plugin_of (after_order order r) plugin)
order_fits r (Install spec) plugin one is fit =
    elim (cases_Bool (length r.plugins + 1 == plugin)) [
      | inl at ↦
          let e : plugin - 1 ≡ length r.plugins = omega (arith, number_is (length r.plugins + 1) plugin at) in
          subst (λ (x : Plugin). EndingsFit x) (sym (append_last r.plugins (fresh r spec) (plugin - 1) e)) (λ live. refl, λ dead. absurd (false≢true (sym dead)))
      | inr off ↦
          let apart : (plugin - 1) ≢ length r.plugins = λ e. grind (arith, nat_tests, off, e, one) in
          subst (λ (x : Plugin). EndingsFit x) (sym (append_other r.plugins (fresh r spec) (plugin - 1) apart)) fit
    ]
order_fits r (Register number spec) plugin one is fit =
    let a = register_admitted r number spec is in
    placed_fits r number plugin (with_set (plugin_of r number) spec) a.0 one fit
    (λ e. set_fits (plugin_of r number) number spec a.1 (subst (λ (n : ℕ). EndingsFit (plugin_of r n)) (sym e) fit))
order_fits r (Reset number) plugin one is fit =
    let a = reset_admitted r number is in
    placed_fits r number plugin (withdrawn (plugin_of r number) Resetting how.Reset r.gone) a.0 one fit
    (λ e. withdrawn_fits (plugin_of r number) Resetting how.Reset r.gone refl (subst (λ (n : ℕ). EndingsFit (plugin_of r n)) (sym e) fit))
order_fits r (Uninstall number) plugin one is fit =
    let a = uninstall_admitted r number is in
    placed_fits r number plugin (withdrawn (plugin_of r number) Leaving how.Uninstall r.gone) a.0 one fit
    (λ e. withdrawn_fits (plugin_of r number) Leaving how.Uninstall r.gone refl (subst (λ (n : ℕ). EndingsFit (plugin_of r n)) (sym e) fit))

item_fits : (run : Run) (plugin : ℕ) (x : Item) (past : List Item) → 1 ≤ plugin → Rule run x past
    → EndingsFit (plugin_of (plugins run past) plugin) → EndingsFit (plugin_of (plugins run (x ∷ past)) plugin)
unfolding registry
item_fits run plugin (Step hart) past one rule fit = fit
item_fits run plugin (Ordered origin order) past one rule fit = order_fits (plugins run past) order plugin one rule.allowed fit
item_fits run plugin (GaveBack hart number) past one rule fit =
    let r = plugins run past in
    let p = plugin_of r number in
    placed_fits r number plugin (record p { owing = slice_set p.owing hart false })
    (first_true (is_installed r number) _ (first_true (owes r hart number) _ rule)) one fit
    (λ e. subst (λ (n : ℕ). EndingsFit (plugin_of r n)) (sym e) fit)
item_fits run plugin (Left hart) past one rule fit =
    let ps = (plugins run past).plugins in
    subst (λ (x : Plugin). EndingsFit x) (sym (left_at hart ps (plugin - 1))) fit
item_fits run plugin (Told who number) past one rule fit =
    let r = plugins run past in
    let p = plugin_of r number in
    let c = complete r number 0 (first_true (is_complete r number) _ rule) in
    placed_fits r number plugin (record p { state = done_state p.state }) c.0 one fit
    (λ e. done_fits p c.1 (subst (λ (n : ℕ). EndingsFit (plugin_of r n)) (sym e) fit))
item_fits run plugin (Got hart number) past one rule fit = fit
item_fits run plugin (Took who number) past one rule fit = fit

opening_fits : (run : Run) (plugin : ℕ) → EndingsFit (plugin_of (plugins run []) plugin)
unfolding registry
opening_fits run plugin = (λ live. absurd (false≢true live), λ dead. refl)

pub endings_go_with_states : EndingsGoWithStates
unfolding Legal
endings_go_with_states run plugin [] one legal = opening_fits run plugin
endings_go_with_states run plugin (x ∷ past) one legal =
    item_fits run plugin x past one legal.1 (endings_go_with_states run plugin past one legal.0)

-- a set that has ended isn't listening
within_some : {A : Type 0} (xs : List A) (i : ℕ) → i < length xs → is_some (slice_get xs i) ≡ true
within_some [] i within = absurd (omega (arith, within))
within_some (x ∷ xs) zero within = refl
within_some (x ∷ xs) (suc i) within = within_some xs i (omega (arith, within))

abbrev listens : Bool → List SetSpec → List How → Bool
listens installed sets endings =
    let own = if installed then sets else [] in
    nat_lt (length own - 1) (length own) && not (is_some (if installed then slice_get endings (length own - 1) else None))

listens_none : (installed : Bool) (sets : List SetSpec) (endings : List How) → length endings ≡ length sets → listens installed sets endings ≡ false
listens_none false sets endings same = refl
listens_none true sets endings same =
    elim (cases_Bool (nat_lt (length sets - 1) (length sets))) [
      | inr off ↦ and_left (nat_lt (length sets - 1) (length sets)) (not (is_some (slice_get endings (length sets - 1)))) off
      | inl in_it ↦
          let within : length sets - 1 < length endings = omega (arith, same, ltb-true (length sets - 1) (length sets) in_it) in
          and_right (nat_lt (length sets - 1) (length sets)) (not (is_some (slice_get endings (length sets - 1))))
          (ap not (within_some endings (length sets - 1) within))
    ]

pub last_sets_listen_while_live : LastSetsListenWhileLive
last_sets_listen_while_live run plugin past one legal dead =
    let r = plugins run past in
    let p = plugin_of r plugin in
    let fit : EndingsFit p = endings_go_with_states run plugin past one legal in
    listens_none (is_installed r plugin) p.sets p.endings (fit.1 dead)
