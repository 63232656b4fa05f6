-- Where the sets of a plug-in that closes are, before and after a party has taken its closing.
use Rattle.std.proofs.Common.{◌≡◌, ◌≢◌, ◌==◌, ◌&&◌, ◌||◌, ◌+◌, ◌-◌, ◌<◌, ◌≤◌, ◌∷◌, [], ◌∙◌, ℕ, Bool, true, false, not, List}
use Rattle.std.proofs.Common.{Option, Some, None, refl, sym, ap, subst, arith, inl, inr, length}
use Rattle.std.specs.Prelude.{if◌then◌else◌, slice_set, is_some}
use Rattle.std.proofs.lemmas.Bool.{cases_Bool, false≢true}
use Rattle.std.proofs.lemmas.Bool.Decides.{nat_tests}
use Rattle.flat_model.specs.declared.journals.How.TheVariants as how
use Rattle.flat_model.specs.declared.journals.Item.{Item}
use Rattle.flat_model.specs.declared.journals.Item.TheVariants.{Step, Ordered, GaveBack, Left, Told, Got, Took}
use Rattle.flat_model.specs.declared.journals.Order.{Order}
use Rattle.flat_model.specs.declared.journals.Order.TheVariants.{Install, Register, Reset, Uninstall}
use Rattle.flat_model.specs.declared.journals.Origin.{Origin}
use Rattle.flat_model.specs.declared.journals.PlugState.{PlugState}
use Rattle.flat_model.specs.declared.journals.PlugState.TheVariants.{Live, Idle, Resetting, Leaving, Gone}
use Rattle.flat_model.specs.Registry.{Plugins, Plugin, plugin_of, is_installed, registry, is_closing, is_complete, owes, has_left}
use Rattle.flat_model.specs.Registry.{is_withdrawing}
use Rattle.flat_model.specs.Registry.{after_back, after_done}
use Rattle.flat_model.specs.Registry.{with_set, withdrawn, done_state, next_state}
use Rattle.run_rules.specs.Guest.{Run, plugins}
use Rattle.run_rules.specs.Due.{allowed}
use Rattle.run_rules.specs.Legal.{Legal, Rule}
use Rattle.run_rules.specs.Places.{Place, Nowhere, Waiting, WithHart, Parked, Out, place_of, got, given_back, left, taken, taker}
use Rattle.run_rules.specs.Places.{IsStateLog, StateRule, fits, fits_in, owed_by, is_out, is_waiting, is_parked}
use Rattle.run_rules.proofs.Fitting.{register_admitted, reset_admitted, uninstall_admitted, complete, number_is, append_last, append_other}
use Rattle.run_rules.proofs.Fitting.{left_at, installed_from, places_fit}
use Rattle.run_rules.proofs.Growing.{fresh}
use Rattle.run_rules.proofs.Turns.{first_true}
use Rattle.kept_order.proofs.Ends.{is_somewhere, withdrawn_somewhere, on_holds, off_holds, either_holds}

-- Whether a set may be there, by whether its plug-in closes and whether a party has taken the closing: it is out, or nowhere, once a party
-- has, and isn't out before.
abbrev is_handed : Place → Bool
is_handed Nowhere = true
is_handed Waiting = false
is_handed WithHart = false
is_handed Parked = false
is_handed Out = true

abbrev lies : Place → Bool → Bool → Bool
lies place false took = true
lies place true true = is_handed place
lies place true false = not (is_out place)

abbrev lies_in : Place → Option ℕ → Plugin → Bool
lies_in place took p = lies place (is_closing p.state) (is_some took)

abbrev LiesIn : Run → ℕ → ℕ → List Item → Type 0
LiesIn run plugin h past = lies_in (place_of run plugin h past) (taker plugin past) (plugin_of (plugins run past) plugin) ≡ true

-- a move that takes no set out, and none that is out to elsewhere
record KeepsOut (f : Place → Place) : Type 0 where
  out : (place : Place) → is_out (f place) ≡ is_out place
  handed : (place : Place) → is_handed (f place) ≡ is_handed place

got_out : (place : Place) → is_out (got place) ≡ is_out place
got_out Nowhere = refl
got_out Waiting = refl
got_out WithHart = refl
got_out Parked = refl
got_out Out = refl

got_handed : (place : Place) → is_handed (got place) ≡ is_handed place
got_handed Nowhere = refl
got_handed Waiting = refl
got_handed WithHart = refl
got_handed Parked = refl
got_handed Out = refl

got_keeps : KeepsOut got
got_keeps = record { out = got_out; handed = got_handed }

given_out : (place : Place) → is_out (given_back place) ≡ is_out place
given_out Nowhere = refl
given_out Waiting = refl
given_out WithHart = refl
given_out Parked = refl
given_out Out = refl

given_handed : (place : Place) → is_handed (given_back place) ≡ is_handed place
given_handed Nowhere = refl
given_handed Waiting = refl
given_handed WithHart = refl
given_handed Parked = refl
given_handed Out = refl

given_keeps : KeepsOut given_back
given_keeps = record { out = given_out; handed = given_handed }

left_out : (place : Place) → is_out (left place) ≡ is_out place
left_out Nowhere = refl
left_out Waiting = refl
left_out WithHart = refl
left_out Parked = refl
left_out Out = refl

left_handed : (place : Place) → is_handed (left place) ≡ is_handed place
left_handed Nowhere = refl
left_handed Waiting = refl
left_handed WithHart = refl
left_handed Parked = refl
left_handed Out = refl

left_keeps : KeepsOut left
left_keeps = record { out = left_out; handed = left_handed }

keeps_lying : (f : Place → Place) (place : Place) (closing took : Bool) → KeepsOut f → lies (f place) closing took ≡ lies place closing took
keeps_lying f place false took keeps = refl
keeps_lying f place true true keeps = keeps.handed place
keeps_lying f place true false keeps = ap not (keeps.out place)

moved_lies : (moves : Bool) (f : Place → Place) (place : Place) (p : Plugin) (took : Option ℕ) → KeepsOut f
    → lies_in place took p ≡ true → lies_in (if moves then f place else place) took p ≡ true
moved_lies true f place p took keeps l = keeps_lying f place (is_closing p.state) (is_some took) keeps ∙ l
moved_lies false f place p took keeps l = l

-- a set of a plug-in that an order withdraws isn't out
reset_inside : (place : Place) (s : PlugState) (o g : Bool) (q : ℕ)
    → is_some (next_state (Reset q) s) ≡ true → fits place s o g ≡ true → not (is_out place) ≡ true
reset_inside Nowhere s o g q some f = refl
reset_inside Waiting s o g q some f = refl
reset_inside WithHart s o g q some f = refl
reset_inside Parked s o g q some f = refl
reset_inside Out Live o g q some f = absurd (false≢true f)
reset_inside Out Idle o g q some f = absurd (false≢true some)
reset_inside Out Resetting o g q some f = absurd (false≢true some)
reset_inside Out Leaving o g q some f = absurd (false≢true some)
reset_inside Out Gone o g q some f = absurd (false≢true some)

uninstall_inside : (place : Place) (s : PlugState) (o g : Bool) (q : ℕ)
    → is_some (next_state (Uninstall q) s) ≡ true → fits place s o g ≡ true → not (is_out place) ≡ true
uninstall_inside Nowhere s o g q some f = refl
uninstall_inside Waiting s o g q some f = refl
uninstall_inside WithHart s o g q some f = refl
uninstall_inside Parked s o g q some f = refl
uninstall_inside Out Live o g q some f = absurd (false≢true f)
uninstall_inside Out Idle o g q some f = absurd (false≢true f)
uninstall_inside Out Resetting o g q some f = absurd (false≢true some)
uninstall_inside Out Leaving o g q some f = absurd (false≢true some)
uninstall_inside Out Gone o g q some f = absurd (false≢true some)

-- a set of a plug-in that is complete is out once a party takes it
takes_out : (place : Place) (s : PlugState) (g : Bool) → is_closing s ≡ true → fits place s false g ≡ true → is_handed (taken place) ≡ true
takes_out Nowhere s g closing f = refl
takes_out Waiting s g closing f = refl
takes_out Parked s g closing f = refl
takes_out Out s g closing f = refl
takes_out WithHart Live g closing f = absurd (false≢true closing)
takes_out WithHart Idle g closing f = absurd (false≢true closing)
takes_out WithHart Resetting g closing f = absurd (false≢true f)
takes_out WithHart Leaving g closing f = absurd (false≢true f)
takes_out WithHart Gone g closing f = absurd (false≢true closing)

done_lies : (place : Place) (s : PlugState) (took : Bool) → is_closing s ≡ true → lies place (is_closing (done_state s)) took ≡ true
done_lies place Live took closing = absurd (false≢true closing)
done_lies place Idle took closing = absurd (false≢true closing)
done_lies place Resetting took closing = refl
done_lies place Leaving took closing = refl
done_lies place Gone took closing = absurd (false≢true closing)

order_lies : (run : Run) (origin : Origin) (order : Order) (past : List Item) (plugin h : ℕ) → 1 ≤ plugin
    → allowed (plugins run past) order ≡ true → fits_in (plugins run past) (place_of run plugin h past) plugin h ≡ true
    → LiesIn run plugin h past → LiesIn run plugin h (Ordered origin order ∷ past)
unfolding registry place_of taker
order_lies run origin (Install spec) past plugin h one is f l =
    let r = plugins run past in
    let took = taker plugin past in
    elim (cases_Bool (length r.plugins + 1 == plugin)) [
      | inl at ↦ rw at (ap (lies_in Waiting took) (append_last r.plugins (fresh r spec) (plugin - 1)
          (omega (arith, number_is (length r.plugins + 1) plugin at))))
      | inr off ↦
          let apart : (plugin - 1) ≢ length r.plugins = λ e. grind (arith, nat_tests, off, e, one) in
          rw off (ap (lies_in (place_of run plugin h past) took) (append_other r.plugins (fresh r spec) (plugin - 1) apart) ∙ l)
    ]
order_lies run origin (Register number spec) past plugin h one is f l =
    let r = plugins run past in
    let a = register_admitted r number spec is in
    let now = with_set (plugin_of r number) spec in
    elim (cases_Bool (number == plugin)) [
      | inl at ↦ rw at (on_holds (lies_in Waiting (taker plugin past)) r number plugin now a.0 at refl)
      | inr off ↦ rw off (off_holds (lies_in (place_of run plugin h past) (taker plugin past)) r number plugin now a.0 one off l)
    ]
order_lies run origin (Reset number) past plugin h one is f l =
    let r = plugins run past in
    let place = place_of run plugin h past in
    let a = reset_admitted r number is in
    let p = plugin_of r number in
    let now = withdrawn p Resetting how.Reset r.gone in
    elim (cases_Bool (number == plugin)) [
      | inl at ↦
          let g : fits_in r place number h ≡ true = subst (λ (k : ℕ). fits_in r place k h ≡ true) (sym (number_is number plugin at)) f in
          rw at (on_holds (lies_in place None) r number plugin now a.0 at
          (reset_inside place p.state (owed_by r number h) (has_left r h) number a.1 g))
      | inr off ↦ rw off (off_holds (lies_in place (taker plugin past)) r number plugin now a.0 one off l)
    ]
order_lies run origin (Uninstall number) past plugin h one is f l =
    let r = plugins run past in
    let place = place_of run plugin h past in
    let a = uninstall_admitted r number is in
    let p = plugin_of r number in
    let now = withdrawn p Leaving how.Uninstall r.gone in
    elim (cases_Bool (number == plugin)) [
      | inl at ↦
          let g : fits_in r place number h ≡ true = subst (λ (k : ℕ). fits_in r place k h ≡ true) (sym (number_is number plugin at)) f in
          rw at (on_holds (lies_in place None) r number plugin now a.0 at
          (uninstall_inside place p.state (owed_by r number h) (has_left r h) number a.1 g))
      | inr off ↦ rw off (off_holds (lies_in place (taker plugin past)) r number plugin now a.0 one off l)
    ]

back_lies : (r : Plugins) (k q : ℕ) (place : Place) (plugin : ℕ) (took : Option ℕ) → 1 ≤ plugin → owes r k q ≡ true
    → lies_in place took (plugin_of r plugin) ≡ true → lies_in place took (plugin_of (after_back k q r) plugin) ≡ true
back_lies r k q place plugin took one owed l =
    let p = plugin_of r q in
    either_holds (lies_in place took) r q plugin (record p { owing = slice_set p.owing k false })
    (first_true (is_installed r q) _ owed) one l (λ same. same)

tell_lies : (r : Plugins) (q : ℕ) (place : Place) (plugin : ℕ) (took : Option ℕ) → 1 ≤ plugin → is_complete r q ≡ true
    → lies_in place took (plugin_of r plugin) ≡ true
    → lies_in (if q == plugin then Nowhere else place) took (plugin_of (after_done q r) plugin) ≡ true
tell_lies r q place plugin took one is l =
    let p = plugin_of r q in
    let now = record p { state = done_state p.state } in
    let c = complete r q 0 is in
    elim (cases_Bool (q == plugin)) [
      | inl at ↦ rw at (on_holds (lies_in Nowhere took) r q plugin now c.0 at (done_lies Nowhere p.state (is_some took) c.1))
      | inr off ↦ rw off (off_holds (lies_in place took) r q plugin now c.0 one off l)
    ]

abbrev took_by : Bool → ℕ → Option ℕ → Option ℕ
took_by here party before = if here then Some party else before

take_lies : (r : Plugins) (party q : ℕ) (place : Place) (plugin h : ℕ) (took : Option ℕ) → is_complete r q ≡ true
    → fits_in r place plugin h ≡ true → lies_in place took (plugin_of r plugin) ≡ true
    → lies_in (if q == plugin then taken place else place) (took_by (q == plugin) party took) (plugin_of r plugin) ≡ true
take_lies r party q place plugin h took is f l =
    elim (cases_Bool (q == plugin)) [
      | inr off ↦ rw off l
      | inl at ↦
          let p = plugin_of r plugin in
          let c = complete r plugin h (subst (λ (n : ℕ). is_complete r n ≡ true) (number_is q plugin at) is) in
          let before : fits place p.state false (has_left r h) ≡ true =
          ap (λ (o : Bool). fits place p.state o (has_left r h)) (sym c.2) ∙ f in
          rw at (ap (λ (b : Bool). lies (taken place) b true) c.1 ∙ takes_out place p.state (has_left r h) c.1 before)
    ]

item_lies : (run : Run) (plugin h : ℕ) (x : Item) (past : List Item) → 1 ≤ plugin → Rule run x past → StateRule run x past
    → fits_in (plugins run past) (place_of run plugin h past) plugin h ≡ true
    → LiesIn run plugin h past → LiesIn run plugin h (x ∷ past)
unfolding registry place_of taker
item_lies run plugin h (Step hart) past one rule state f l = l
item_lies run plugin h (Ordered origin order) past one rule state f l = order_lies run origin order past plugin h one rule.allowed f l
item_lies run plugin h (GaveBack hart number) past one rule state f l =
    let r = plugins run past in
    let moves = (hart == h) && (number == plugin) in
    let place = place_of run plugin h past in
    back_lies r hart number (if moves then given_back place else place) plugin (taker plugin past) one
    (first_true (owes r hart number) _ rule)
    (moved_lies moves given_back place (plugin_of r plugin) (taker plugin past) given_keeps l)
item_lies run plugin h (Left hart) past one rule state f l =
    let r = plugins run past in
    let place = place_of run plugin h past in
    let took = taker plugin past in
    ap (lies_in (if hart == h then left place else place) took) (left_at hart r.plugins (plugin - 1))
    ∙ moved_lies (hart == h) left place (plugin_of r plugin) took left_keeps l
item_lies run plugin h (Told party number) past one rule state f l =
    tell_lies (plugins run past) number (place_of run plugin h past) plugin (taker plugin past) one (first_true _ _ rule) l
item_lies run plugin h (Got hart number) past one rule state f l =
    let moves = (hart == h) && (number == plugin) in
    moved_lies moves got (place_of run plugin h past) (plugin_of (plugins run past) plugin) (taker plugin past) got_keeps l
item_lies run plugin h (Took party number) past one rule state f l =
    take_lies (plugins run past) party number (place_of run plugin h past) plugin h (taker plugin past) state.0 f l

opening_lies : (run : Run) (plugin h : ℕ) → LiesIn run plugin h []
unfolding registry place_of taker
opening_lies run plugin h = refl

sets_lie : (run : Run) (plugin h : ℕ) (past : List Item) → 1 ≤ plugin → h < run.harts → Legal run past → IsStateLog run past
    → LiesIn run plugin h past
unfolding Legal IsStateLog
sets_lie run plugin h [] one low legal state = opening_lies run plugin h
sets_lie run plugin h (x ∷ past) one low legal state =
    item_lies run plugin h x past one legal.1 state.1 (places_fit run plugin h past one low legal.0 state.0)
    (sets_lie run plugin h past one low legal.0 state.0)

-- A plug-in that is complete.

-- once a party has taken the closing, no set waits or is parked
handed_out : (place : Place) → is_handed place ≡ true → (is_waiting place ≡ false) × (is_parked place ≡ false)
handed_out Nowhere is = (refl, refl)
handed_out Waiting is = absurd (false≢true is)
handed_out WithHart is = absurd (false≢true is)
handed_out Parked is = absurd (false≢true is)
handed_out Out is = (refl, refl)

pub closing_out : (run : Run) (plugin h : ℕ) (past : List Item) → h < run.harts → Legal run past → IsStateLog run past
    → is_complete (plugins run past) plugin ≡ true → is_some (taker plugin past) ≡ true
    → (is_waiting (place_of run plugin h past) ≡ false) × (is_parked (place_of run plugin h past) ≡ false)
closing_out run plugin h past low legal state is took =
    let r = plugins run past in
    let place = place_of run plugin h past in
    let c = complete r plugin h is in
    handed_out place (ap (λ (b : Bool). lies place true b) (sym took)
    ∙ ap (λ (b : Bool). lies place b (is_some (taker plugin past))) (sym c.1)
    ∙ sets_lie run plugin h past (installed_from r plugin c.0) low legal state)

-- before that, a set waits or is parked exactly where the plug-in withdraws it
inside : (place : Place) (s : PlugState) (g : Bool) → is_closing s ≡ true → not (is_out place) ≡ true → fits place s false g ≡ true
    → (is_waiting place || is_parked place) ≡ is_somewhere place
inside Nowhere s g closing in_it f = refl
inside Waiting s g closing in_it f = refl
inside Parked s g closing in_it f = refl
inside Out s g closing in_it f = absurd (false≢true in_it)
inside WithHart Live g closing in_it f = absurd (false≢true closing)
inside WithHart Idle g closing in_it f = absurd (false≢true closing)
inside WithHart Resetting g closing in_it f = absurd (false≢true f)
inside WithHart Leaving g closing in_it f = absurd (false≢true f)
inside WithHart Gone g closing in_it f = absurd (false≢true closing)

pub closing_inside : (run : Run) (plugin h : ℕ) (past : List Item) → h < run.harts → Legal run past → IsStateLog run past
    → is_complete (plugins run past) plugin ≡ true → taker plugin past ≡ None
    → (is_waiting (place_of run plugin h past) || is_parked (place_of run plugin h past)) ≡ is_withdrawing (plugins run past) plugin
closing_inside run plugin h past low legal state is none =
    let r = plugins run past in
    let p = plugin_of r plugin in
    let place = place_of run plugin h past in
    let c = complete r plugin h is in
    let one : 1 ≤ plugin = installed_from r plugin c.0 in
    let in_it : not (is_out place) ≡ true =
    ap (λ (took : Option ℕ). lies place true (is_some took)) (sym none)
    ∙ ap (λ (b : Bool). lies place b (is_some (taker plugin past))) (sym c.1)
    ∙ sets_lie run plugin h past one low legal state in
    let fit : fits place p.state false (has_left r h) ≡ true =
    ap (λ (o : Bool). fits place p.state o (has_left r h)) (sym c.2) ∙ places_fit run plugin h past one low legal state in
    inside place p.state (has_left r h) c.1 in_it fit ∙ sym (withdrawn_somewhere run plugin h past legal is)
