-- The installs with which a log opens.
use Rattle.std.proofs.Common.{◌≡◌, ◌+◌, ◌∷◌, [], ◌++◌, ◌∙◌, ℕ, List, Option, Some, None, take}
use Rattle.std.proofs.Common.{refl, sym, ap}
use Rattle.std.specs.Prelude.{slice_get, option_map}
use Rattle.std.specs.Option.{option_or}
use Rattle.std.proofs.Common.{get_or, unwrap_or}
use Rattle.std.proofs.lemmas.List.{take_more}
use Rattle.std.proofs.lemmas.Option.{slice_get_within, unwrap_or-slice_get}
use Rattle.run_rules.proofs.Lines.{none_is}
use Rattle.flat_model.specs.declared.plugins.SetSpec.{SetSpec}
use Rattle.flat_model.specs.declared.journals.Item.{Item}
use Rattle.flat_model.specs.declared.journals.Item.TheVariants.{Step, Ordered, GaveBack, Left, Told, Got, Took}
use Rattle.flat_model.specs.declared.journals.Order.{Order}
use Rattle.flat_model.specs.declared.journals.Order.TheVariants.{Install}
use Rattle.flat_model.specs.declared.journals.Origin.TheVariants.{Start, Script, Asked, Control}
use Rattle.run_rules.specs.Guest.{Run}
use Rattle.run_rules.specs.Due.{Line, line_item, owed_line, start_orders, missing_install, wanted}
use Rattle.run_rules.specs.Legal.{Legal, Rule}
use Rattle.run_rules.specs.Laws.{opening_sets, installed_by, OpensAsPlanned, KeepsItsOpening}

-- a start order is the install that is missing
missing_is : (m : Option SetSpec) (l : Option Line) (past : List Item) (order : Order)
    → option_or (option_map (λ spec. Ordered Start (Install spec)) m) (option_map (line_item past) l) ≡ Some (Ordered Start order)
    → (spec : SetSpec) × (m ≡ Some spec) × (order ≡ Install spec)
missing_is None None past order is = absurd cc
missing_is None (Some l) past order is = absurd cc
missing_is (Some spec) l past order is = (spec, refl, cc)

take_next : {X : Type 0} (xs : List X) (i : ℕ) (x : X) → slice_get xs i ≡ Some x → take (i + 1) xs ≡ take i xs ++ x ∷ []
take_next {X = X} xs i x is =
    let there : get_or xs i x ≡ x = sym (unwrap_or-slice_get xs i x) ∙ ap (λ (o : Option X). unwrap_or o x) is in
    take_more xs i x (slice_get_within xs i x is) ∙ ap (λ (y : X). take i xs ++ y ∷ []) there

start_is : (run : Run) (order : Order) (past : List Item) → Rule run (Ordered Start order) past
    → (spec : SetSpec) × (slice_get run.plan.installs (start_orders past) ≡ Some spec) × (order ≡ Install spec)
unfolding wanted
start_is run order past rule = missing_is (slice_get run.plan.installs (start_orders past)) (owed_line run past) past order rule.given

opens_by : (run : Run) (x : Item) (past : List Item) → Rule run x past
    → opening_sets past ≡ take (start_orders past) run.plan.installs
    → opening_sets (x ∷ past) ≡ take (start_orders (x ∷ past)) run.plan.installs
unfolding opening_sets start_orders
opens_by run (Step hart) past rule is = is
opens_by run (Ordered Start order) past rule is =
    let start = start_is run order past rule in
    ap (λ (o : Order). opening_sets past ++ installed_by o) start.2 ∙ ap (λ (xs : List SetSpec). xs ++ start.0 ∷ []) is
    ∙ sym (take_next run.plan.installs (start_orders past) start.0 start.1)
opens_by run (Ordered (Script line party) order) past rule is = is
opens_by run (Ordered (Asked hart plugin) order) past rule is = is
opens_by run (Ordered (Control party) order) past rule is = is
opens_by run (GaveBack hart number) past rule is = is
opens_by run (Left hart) past rule is = is
opens_by run (Told party number) past rule is = is
opens_by run (Got hart number) past rule is = is
opens_by run (Took party number) past rule is = is

pub opens_as_planned : OpensAsPlanned
unfolding Legal opening_sets start_orders
opens_as_planned run [] legal = refl
opens_as_planned run (x ∷ past) legal = opens_by run x past legal.1 (opens_as_planned run past legal.0)

abbrev Stays : Run → List Item → List Item → Type 0
Stays run log past = (missing_install run log ≡ None) × (opening_sets log ≡ opening_sets past)

stays_by : (run : Run) (x : Item) (log past : List Item) → Rule run x log → Stays run log past → Stays run (x ∷ log) past
unfolding opening_sets start_orders
stays_by run (Step hart) log past rule is = is
stays_by run (Ordered Start order) log past rule is =
    let start = start_is run order log rule in
    let missing : missing_install run log ≡ Some (Ordered Start (Install start.0)) =
    ap (λ (o : Option SetSpec). option_map (λ spec. Ordered Start (Install spec)) o) start.1 in
    absurd (none_is (missing_install run log) (Ordered Start (Install start.0)) is.0 missing)
stays_by run (Ordered (Script line party) order) log past rule is = is
stays_by run (Ordered (Asked hart plugin) order) log past rule is = is
stays_by run (Ordered (Control party) order) log past rule is = is
stays_by run (GaveBack hart number) log past rule is = is
stays_by run (Left hart) log past rule is = is
stays_by run (Told party number) log past rule is = is
stays_by run (Got hart number) log past rule is = is
stays_by run (Took party number) log past rule is = is

pub keeps_its_opening : KeepsItsOpening
unfolding Legal
keeps_its_opening run [] past legal none = (none, refl)
keeps_its_opening run (x ∷ more) past legal none = stays_by run x (more ++ past) past legal.1 (keeps_its_opening run more past legal.0 none)
