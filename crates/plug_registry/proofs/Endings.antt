-- How the sets of a slot have ended, once it has one more.
use Rattle.std.proofs.Common.{◌≡◌, ◌<◌, ◌-◌, ◌++◌, ◌∷◌, [], ℕ, zero, suc, List, length, replicate, ap, sym}
use Rattle.std.proofs.Common.{◌∙◌, subst, refl, arith, Option, Some}
use Rattle.std.proofs.lemmas.List.{length-append}
use Rattle.flat_model.specs.declared.journals.How.{How}
use Rattle.flat_model.specs.declared.journals.How.TheVariants as how
use Rattle.flat_model.specs.declared.journals.PlugState.{PlugState}
use Rattle.flat_model.specs.declared.journals.PlugState.TheVariants.{Idle}
use Rattle.flat_model.specs.declared.plugins.SetSpec.{SetSpec}
use Rattle.plug_registry.specs.State.{IsSlot, EndsIn, ended}

snoc : (n : ℕ) (x : How) → replicate (suc n) x ≡ replicate n x ++ x ∷ []
snoc zero x = refl
snoc (suc n) x = ap (λ xs. x ∷ xs) (snoc n x)

-- where each set has ended by a reset, they all have
all_reset : (n : ℕ) → 0 < n → replicate n how.Reset ≡ ended n (Some how.Reset)
all_reset zero some = absurd (omega arith)
all_reset (suc n) some = let same : suc n - 1 ≡ n = omega arith in snoc n how.Reset ∙ ap (λ k. replicate k how.Reset ++ how.Reset ∷ []) (sym same)

pub one_more : (state : PlugState) (sets : List SetSpec) (last : Option How) (spec : SetSpec) → state ≡ Idle → IsSlot state sets last
    → replicate (length (sets ++ spec ∷ []) - 1) how.Reset ≡ ended (length sets) last
one_more state sets last spec idle slot =
    let reset : last ≡ Some how.Reset = subst (λ s. EndsIn s last) idle slot.ends in
    let long : length (sets ++ spec ∷ []) - 1 ≡ length sets = omega (arith, length-append sets (spec ∷ [])) in
    ap (λ n. replicate n how.Reset) long ∙ all_reset (length sets) slot.some ∙ ap (ended (length sets)) (sym reset)
