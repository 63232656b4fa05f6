-- What waits on harts that are not there: nothing.
use Rattle.std.proofs.Common.{◌≡◌, ◌==◌, ◌&&◌, ◌+◌, ◌<◌, ◌≤◌, ◌∷◌, [], ◌++◌, ◌∙◌, ℕ, zero, suc, Bool, true, false, not, List}
use Rattle.std.proofs.Common.{Option, Some, None, refl, sym, ap, subst, arith, inl, inr, nat_lt, nat_le, length}
use Rattle.std.specs.Prelude.{if◌then◌else◌}
use Rattle.std.specs.Cmp.Derive.{both_true}
use Rattle.std.proofs.lemmas.Bool.{cases_Bool, false≢true, and_right, ltb-true, ltb-false, leb-true, lt-leb}
use Rattle.std.proofs.lemmas.List.{append-nil}
use Rattle.flat_model.specs.declared.plugins.Ask.{Ask}
use Rattle.flat_model.specs.declared.plugins.Ask.TheVariants.{Stay}
use Rattle.flat_model.specs.declared.plugins.SetSpec.{SetSpec}
use Rattle.flat_model.specs.declared.journals.Item.{Item}
use Rattle.flat_model.specs.declared.journals.Item.TheVariants.{Step, Ordered, GaveBack, Left, Told, Got, Took}
use Rattle.flat_model.specs.declared.journals.Order.{Order}
use Rattle.flat_model.specs.declared.journals.PlugState.{PlugState}
use Rattle.flat_model.specs.declared.journals.PlugState.TheVariants.{Live, Idle, Resetting, Leaving, Gone}
use Rattle.flat_model.specs.Registry.{Plugins, plugin_of, is_installed, is_hart, has_left}
use Rattle.run_rules.specs.Guest.{Run, plugins}
use Rattle.run_rules.specs.Heard.{progress, opening_progress, waiting, is_live, set_at, last_set}
use Rattle.run_rules.specs.Laws.{NoneSteps}
use Rattle.run_rules.specs.Legal.{Legal, is_there, asked_order}
use Rattle.run_rules.specs.Places.{Place, Nowhere, Waiting, WithHart, Parked, Out, IsStateLog, place_of, is_with_hart, fits, owed_by}
use Rattle.run_rules.proofs.Fitting.{number_is, places_fit}
use Rattle.run_rules.proofs.Tails.{hears_by_steps_alone}
use Rattle.run_rules.proofs.Turns.{first_true, rest_true}
use Rattle.kept_order.proofs.Asked.{none_waits}
use Rattle.kept_order.proofs.Gone.{as_many}
use Rattle.kept_order.proofs.Withdrawals.{plugins_are_few}

either : (b : Bool) (ask : Ask) → ask ≡ Stay → (if b then ask else Stay) ≡ Stay
either true ask is = is
either false ask is = refl

neither : (b : Bool) (ask : Ask) → b ≡ false → (if b then ask else Stay) ≡ Stay
neither b ask is = ap (λ (c : Bool). if c then ask else Stay) is

none_none : {A : Type 0} {x : A} → None ≡ Some x → ⊥
none_none is = cc

gone_then : (b : Bool) → not b ≡ false → b ≡ true
gone_then true is = refl
gone_then false is = absurd (false≢true (sym is))

-- A number that no plug-in has.

pub uninstalled_asks : (run : Run) (plugin h : ℕ) (past : List Item) → is_installed (plugins run past) plugin ≡ false
    → waiting run plugin h past ≡ Stay
uninstalled_asks run plugin h past none =
    let r = plugins run past in
    let ask = (progress run (set_at run plugin (last_set r plugin) past) plugin (last_set r plugin) h past).walk.asked in
    neither (is_installed r plugin && is_live (plugin_of r plugin).state) ask (ap (λ (b : Bool). b && is_live (plugin_of r plugin).state) none)

pub none_at_zero : (run : Run) (plugin h : ℕ) (past : List Item) → plugin ≡ 0 → waiting run plugin h past ≡ Stay
none_at_zero run plugin h past is =
    uninstalled_asks run plugin h past
    (ap (λ (k : ℕ). nat_lt 0 k && nat_le k (length (plugins run past).plugins)) is)

not_at_most : (a b : ℕ) → b < a → nat_le a b ≡ false
not_at_most a b high =
    elim (cases_Bool (nat_le a b)) [
      | inl low ↦ absurd (omega (arith, high, leb-true a b low))
      | inr off ↦ off
    ]

pub none_past_eight : (run : Run) (plugin h : ℕ) (past : List Item) → Legal run past → 8 < plugin → waiting run plugin h past ≡ Stay
none_past_eight run plugin h past legal high =
    let r = plugins run past in
    let few : length r.plugins ≤ 8 = plugins_are_few run past legal in
    uninstalled_asks run plugin h past
    (and_right (nat_lt 0 plugin) (nat_le plugin (length r.plugins)) (not_at_most plugin (length r.plugins) (omega (arith, few, high))))

-- so an order that was asked for names a plug-in
pub asked_number : (run : Run) (plugin h : ℕ) (past : List Item) (order : Order)
    → asked_order plugin (waiting run plugin h past) ≡ Some order → 1 ≤ plugin
asked_number run zero h past order is = absurd (none_none (sym (ap (asked_order 0) (none_at_zero run 0 h past refl)) ∙ is))
asked_number run (suc k) h past order is = omega arith

-- A number that is no hart's.

none_steps : (run : Run) (h : ℕ) (past : List Item) → run.harts ≤ h → Legal run past → NoneSteps h past
unfolding Legal
none_steps run h [] high legal = tt
none_steps run h (Step hart ∷ past) high legal = (
  elim (cases_Bool (hart == h)) [
    | inr off ↦ off
    | inl at ↦
        let e : hart ≡ h = number_is hart h at in
        let r = plugins run past in
        let there : is_there run hart past ≡ true = first_true _ _ legal.1 in
        let low : hart < r.harts = ltb-true hart r.harts (first_true (is_hart r hart) _ there) in
        absurd (omega (arith, e, low, high, as_many run past))
  ],
  none_steps run h past high legal.0,
)
none_steps run h (Ordered origin order ∷ past) high legal = (refl, none_steps run h past high legal.0)
none_steps run h (GaveBack hart number ∷ past) high legal = (refl, none_steps run h past high legal.0)
none_steps run h (Left hart ∷ past) high legal = (refl, none_steps run h past high legal.0)
none_steps run h (Told party number ∷ past) high legal = (refl, none_steps run h past high legal.0)
none_steps run h (Got hart number ∷ past) high legal = (refl, none_steps run h past high legal.0)
none_steps run h (Took party number ∷ past) high legal = (refl, none_steps run h past high legal.0)

opens : (run : Run) (spec : SetSpec) (plugin set h : ℕ) → (progress run spec plugin set h []).walk.asked ≡ Stay
unfolding progress
opens run spec plugin set h = refl

stranger_asks : (run : Run) (plugin h : ℕ) (past : List Item) → run.harts ≤ h → Legal run past → waiting run plugin h past ≡ Stay
stranger_asks run plugin h past high legal =
    let r = plugins run past in
    let set = last_set r plugin in
    let spec = set_at run plugin set past in
    let same = hears_by_steps_alone run spec plugin set h past [] (none_steps run h past high legal) in
    let none : (progress run spec plugin set h past).walk.asked ≡ Stay =
    ap (λ (xs : List Item). (progress run spec plugin set h xs).walk.asked) (sym (append-nil past))
    ∙ ap (λ p. p.walk.asked) same ∙ opens run spec plugin set h in
    either (is_installed r plugin && is_live (plugin_of r plugin).state) (progress run spec plugin set h past).walk.asked none

-- A hart that has left.

off_gone : (place : Place) (s : PlugState) (owed : Bool) → fits place s owed true ≡ true → is_with_hart place ≡ false
off_gone Nowhere s owed is = refl
off_gone Waiting s owed is = refl
off_gone WithHart Live true is = absurd (false≢true is)
off_gone WithHart Live false is = absurd (false≢true is)
off_gone WithHart Idle owed is = absurd (false≢true is)
off_gone WithHart Resetting true is = absurd (false≢true is)
off_gone WithHart Resetting false is = absurd (false≢true is)
off_gone WithHart Leaving true is = absurd (false≢true is)
off_gone WithHart Leaving false is = absurd (false≢true is)
off_gone WithHart Gone owed is = absurd (false≢true is)
off_gone Parked s owed is = refl
off_gone Out s owed is = refl

left_asks : (run : Run) (plugin h : ℕ) (past : List Item) → 1 ≤ plugin → h < run.harts → Legal run past → IsStateLog run past
    → has_left (plugins run past) h ≡ true → waiting run plugin h past ≡ Stay
left_asks run plugin h past one low legal state gone =
    let r = plugins run past in
    let place = place_of run plugin h past in
    let p = plugin_of r plugin in
    let fit : fits place p.state (owed_by r plugin h) true ≡ true =
    ap (fits place p.state (owed_by r plugin h)) (sym gone) ∙ places_fit run plugin h past one low legal state in
    none_waits run plugin h past one low legal state (off_gone place p.state (owed_by r plugin h) fit)

pub absent_asks : (run : Run) (plugin h : ℕ) (past : List Item) → 1 ≤ plugin → Legal run past → IsStateLog run past
    → is_there run h past ≡ false → waiting run plugin h past ≡ Stay
absent_asks run plugin h past one legal state absent =
    let r = plugins run past in
    elim (cases_Bool (nat_lt h run.harts)) [
      | inl low ↦
          let here : is_hart r h ≡ true = ap (nat_lt h) (as_many run past) ∙ low in
          let gone : has_left r h ≡ true =
          gone_then (has_left r h) (ap (λ (b : Bool). b && not (has_left r h)) (sym here) ∙ absent) in
          left_asks run plugin h past one (ltb-true h run.harts low) legal state gone
      | inr high ↦ stranger_asks run plugin h past (ltb-false h run.harts high) legal
    ]
