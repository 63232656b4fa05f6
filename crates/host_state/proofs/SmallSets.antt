-- The sets of a legal log have few subscriptions, of which few call a box.
use Rattle.std.proofs.Common.{◌≡◌, ◌-◌, ◌≤◌, ◌∷◌, [], ◌++◌, ℕ, zero, suc, Bool, true, false, List, Option, Some, None}
use Rattle.std.proofs.Common.{refl, arith, length, map}
use Rattle.std.specs.Prelude.{slice_set, slice_index_or, not, is_some, if◌then◌else◌}
use Rattle.std.proofs.lemmas.Bool.{false≢true}
use Rattle.flat_model.specs.declared.plugins.SetSpec.{SetSpec}
use Rattle.flat_model.specs.declared.journals.Item.{Item}
use Rattle.flat_model.specs.declared.journals.Item.TheVariants.{Step, Ordered, GaveBack, Left, Told, Got, Took}
use Rattle.flat_model.specs.declared.journals.Order.TheVariants.{Install, Register, Reset, Uninstall}
use Rattle.flat_model.specs.declared.limits.TheConstants.{SUBS_MOST, CALLING_MOST}
use Rattle.flat_model.specs.declared.orders.OrderRefusal.{OrderRefusal}
use Rattle.flat_model.specs.Acts.{calling}
use Rattle.flat_model.specs.Registry.{Plugins, Plugin, registry, plugin_of, no_plugin, with_plugin, refusal, without_hart, is_installed}
use Rattle.plug_registry.proofs.Allowed.{may_install, may_register}
use Rattle.run_rules.specs.Guest.{Run, plugins}
use Rattle.run_rules.specs.Heard.{no_set, set_at}
use Rattle.run_rules.specs.Due.{allowed}
use Rattle.run_rules.specs.Legal.{Legal}
use Rattle.host_state.proofs.AllowedSets.{install_attachable, register_attachable}

pub record IsSmallSet (spec : SetSpec) : Type 0 where
  pub subs : length spec.subs ≤ SUBS_MOST
  pub calls : calling spec.subs ≤ CALLING_MOST

-- What holds at each place, also past the end.

abbrev Everywhere : {A : Type 0} → (A → Type 0) → List A → A → Type 0
Everywhere P xs d = (i : ℕ) → P (slice_index_or xs i d)

module _ {A : Type 0} (P : A → Type 0) (d : A) where
  rest_of : (x : A) (xs : List A) → Everywhere P (x ∷ xs) d → Everywhere P xs d
  rest_of x xs all i = all (suc i)

  where_set : (xs : List A) (n : ℕ) (x : A) → Everywhere P xs d → P x → Everywhere P (slice_set xs n x) d
  where_set [] n x all is i = all i
  where_set (y ∷ ys) zero x all is zero = is
  where_set (y ∷ ys) zero x all is (suc i) = all (suc i)
  where_set (y ∷ ys) (suc n) x all is zero = all zero
  where_set (y ∷ ys) (suc n) x all is (suc i) = where_set ys n x (rest_of y ys all) is i

  where_added : (xs : List A) (x : A) → Everywhere P xs d → P d → P x → Everywhere P (xs ++ x ∷ []) d
  where_added [] x all none is zero = is
  where_added [] x all none is (suc i) = none
  where_added (y ∷ ys) x all none is zero = all zero
  where_added (y ∷ ys) x all none is (suc i) = where_added ys x (rest_of y ys all) none is i

  where_mapped : (f : A → A) (xs : List A) → ((x : A) → P x → P (f x)) → P d → Everywhere P xs d → Everywhere P (map f xs) d
  where_mapped f [] keeps none all i = none
  where_mapped f (y ∷ ys) keeps none all zero = keeps y (all zero)
  where_mapped f (y ∷ ys) keeps none all (suc i) = where_mapped f ys keeps none (rest_of y ys all) i

abbrev HasSmallSets : Plugin → Type 0
HasSmallSets p = Everywhere IsSmallSet p.sets no_set

no_set_small : IsSmallSet no_set
no_set_small = record { subs = omega arith; calls = omega arith }

none_small : HasSmallSets no_plugin
none_small i = no_set_small

abbrev AreSmall : Plugins → Type 0
AreSmall r = Everywhere HasSmallSets r.plugins no_plugin

changed : (r : Plugins) (number : ℕ) (p : Plugin) → AreSmall r → HasSmallSets p → AreSmall (with_plugin r number p)
changed r number p all is = where_set HasSmallSets no_plugin r.plugins (number - 1) p all is

not_refused : (o : Option OrderRefusal) → not (is_some o) ≡ true → o ≡ None
not_refused None is = refl
not_refused (Some why) is = absurd (false≢true is)

small_install : (r : Plugins) (spec : SetSpec) → allowed r (Install spec) ≡ true → IsSmallSet spec
small_install r spec is =
    let free = not_refused (refusal r (Install spec)) is in
    record { subs = (install_attachable r spec free).subs; calls = (may_install r spec free).few_call }

small_register : (r : Plugins) (plugin : ℕ) (spec : SetSpec) → allowed r (Register plugin spec) ≡ true → IsSmallSet spec
small_register r plugin spec is =
    let free = not_refused (refusal r (Register plugin spec)) is in
    record { subs = (register_attachable r plugin spec free).subs; calls = (may_register r plugin spec free).few_call }

pub sets_are_small : (run : Run) (past : List Item) → Legal run past → AreSmall (plugins run past)
unfolding Legal registry
sets_are_small run [] legal = λ i. none_small
sets_are_small run (Step hart ∷ past) legal = sets_are_small run past legal.0
sets_are_small run (Ordered origin (Install spec) ∷ past) legal =
    let one = small_install (plugins run past) spec legal.1.allowed in
    where_added HasSmallSets no_plugin (plugins run past).plugins _ (sets_are_small run past legal.0) none_small
    (where_added IsSmallSet no_set [] spec (λ i. no_set_small) no_set_small one)
sets_are_small run (Ordered origin (Register plugin spec) ∷ past) legal =
    let r = plugins run past in
    let one = small_register r plugin spec legal.1.allowed in
    let all = sets_are_small run past legal.0 in
    changed r plugin _ all
    (where_added IsSmallSet no_set (plugin_of r plugin).sets spec (all (plugin - 1)) no_set_small one)
sets_are_small run (Ordered origin (Reset plugin) ∷ past) legal =
    let all = sets_are_small run past legal.0 in changed (plugins run past) plugin _ all (all (plugin - 1))
sets_are_small run (Ordered origin (Uninstall plugin) ∷ past) legal =
    let all = sets_are_small run past legal.0 in changed (plugins run past) plugin _ all (all (plugin - 1))
sets_are_small run (GaveBack hart plugin ∷ past) legal =
    let all = sets_are_small run past legal.0 in changed (plugins run past) plugin _ all (all (plugin - 1))
sets_are_small run (Left hart ∷ past) legal =
    where_mapped HasSmallSets no_plugin (without_hart hart) (plugins run past).plugins (λ p small. small) none_small
    (sets_are_small run past legal.0)
sets_are_small run (Told party plugin ∷ past) legal =
    let all = sets_are_small run past legal.0 in changed (plugins run past) plugin _ all (all (plugin - 1))
sets_are_small run (Got hart plugin ∷ past) legal = sets_are_small run past legal.0
sets_are_small run (Took party plugin ∷ past) legal = sets_are_small run past legal.0

small_if : (installed : Bool) (sets : List SetSpec) (i : ℕ) → Everywhere IsSmallSet sets no_set
    → IsSmallSet (slice_index_or (if installed then sets else []) i no_set)
small_if true sets i all = all i
small_if false sets i all = no_set_small

-- a plug-in's set
pub set_is_small : (run : Run) (plugin set : ℕ) (past : List Item) → Legal run past → IsSmallSet (set_at run plugin set past)
set_is_small run plugin set past legal =
    let r = plugins run past in
    small_if (is_installed r plugin) (plugin_of r plugin).sets set (sets_are_small run past legal (plugin - 1))
