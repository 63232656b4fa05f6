-- Which rules the set of a plug-in word can break where it is installed.
use Rattle.std.proofs.Common.{◌≡◌, ◌<◌, ◌≤◌, ℕ, Bool, true, false, List, length, get_or, take, All, Option, Some, None, refl, sym, subst, ap, ◌∙◌}
use Rattle.std.proofs.Common.{arith, ⊎_elim}
use Rattle.std.specs.Prelude.{position, is_some, option_map, slice_get}
use Rattle.std.specs.List.{range_with_len}
use Rattle.std.specs.Option.{option_and_then}
use Rattle.std.proofs.lemmas.Option.{option_and_then_some, none-some, same_Some, slice_get_cases}
use Rattle.flat_model.specs.declared.plugins.SetSpec.{SetSpec}
use Rattle.flat_model.specs.declared.journals.Order.TheVariants.{Install}
use Rattle.flat_model.specs.declared.orders.OrderRefusal.{OrderRefusal}
use Rattle.flat_model.specs.declared.orders.OrderRefusal.TheVariants.{Full, FewBoxes}
use Rattle.flat_model.specs.Registry.{Plugins, first, refused_if, set_refusal, box_refusal, count_refusal, refusal}
use Rattle.plug_registry.specs.Installs.{after_installs, refusal_at, first_refused}
use Rattle.call_inputs.specs.Causes.{IsOfInstall}

full_or_few : (c d : Bool) (n need left : ℕ) (why : OrderRefusal)
    → first (refused_if c (Full n)) (first None (refused_if d (FewBoxes need left))) ≡ Some why → IsOfInstall why
full_or_few true d n need left why is = subst IsOfInstall (same_Some (Full n) why is) tt
full_or_few false true n need left why is = subst IsOfInstall (same_Some (FewBoxes need left) why is) tt
full_or_few false false n need left why is = absurd (none-some why is)

of_refusal : (r : Plugins) (spec : SetSpec) (why : OrderRefusal) → set_refusal spec ≡ None → refusal r (Install spec) ≡ Some why
    → IsOfInstall why
unfolding refusal count_refusal box_refusal
of_refusal r spec why sound is =
    full_or_few _ _ _ _ _ why (ap (λ s. first (count_refusal r) (first s (box_refusal r spec))) (sym sound) ∙ is)

sound_at : (sets : List SetSpec) (i : ℕ) (spec : SetSpec) → All (λ set. set_refusal set ≡ None) sets → slice_get sets i ≡ Some spec
    → set_refusal spec ≡ None
sound_at sets i spec sound found =
    ⊎_elim
    (λ (x, below, there, is). let same : x ≡ spec = same_Some x spec (sym there ∙ found) in
    subst (λ s. set_refusal s ≡ None) (is ∙ same) (sound i x below))
    (λ (past, none). absurd (none-some spec (sym none ∙ found)))
    (slice_get_cases sets i).1

abbrev at_place : ℕ → OrderRefusal → ℕ × OrderRefusal
at_place x why = (x, why)

pair_is : (x i : ℕ) (o : Option OrderRefusal) (why : OrderRefusal) → option_map (at_place x) o ≡ Some (at_place i why) → o ≡ Some why
pair_is x i None why is = absurd (none-some (at_place i why) is)
pair_is x i (Some w) why is = ap (λ (p : ℕ × OrderRefusal). Some p.1) (same_Some (at_place x w) (at_place i why) is)

of_place : (harts : ℕ) (sets : List SetSpec) (i : ℕ) (why : OrderRefusal) → All (λ set. set_refusal set ≡ None) sets
    → refusal_at harts sets i ≡ Some why → IsOfInstall why
unfolding refusal_at
of_place harts sets i why sound is =
    option_and_then_some (λ spec. refusal (after_installs harts (take i sets)) (Install spec)) (slice_get sets i) why is
    (λ spec found broken. of_refusal (after_installs harts (take i sets)) spec why (sound_at sets i spec sound found) broken)

pub of_first : (harts : ℕ) (sets : List SetSpec) (i : ℕ) (why : OrderRefusal) → All (λ set. set_refusal set ≡ None) sets
    → first_refused harts sets ≡ Some (i, why) → IsOfInstall why
unfolding first_refused
of_first harts sets i why sound is =
    option_and_then_some (λ x. option_map (at_place x) (refusal_at harts sets x))
    (position (λ x. is_some (refusal_at harts sets x)) (range_with_len 0 (length sets))) (at_place i why) is
    (λ x found there. of_place harts sets x why sound (pair_is x i (refusal_at harts sets x) why there))
