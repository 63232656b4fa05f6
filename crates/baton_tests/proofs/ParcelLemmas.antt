-- What one hold does to the past of a parcel.
use Rattle.std.proofs.Common.{◌≡◌, ℕ, List, ◌∷◌, sym, refl, ap, ◌∙◌, subst}
use Rattle.flat_model.specs.Log.{party}
use Rattle.flat_model.specs.declared.journals.Item.{Item}
use Rattle.flat_model.specs.declared.journals.Item.TheVariants.{Step}
use Rattle.baton_gate.specs.Logs.{Adds}
use Rattle.baton_gate.proofs.LogLemmas.{goes_once}

-- the holder, which has seen the past, adds one step of its own
pub after_step : (hart holder : ℕ) (taken past now seen : List Item) → hart ≡ holder → seen ≡ taken → past ≡ taken → now ≡ Step hart ∷ past → Adds party now holder seen
after_step hart holder taken past now seen own saw same adds =
    let once : Adds party (Step hart ∷ taken) hart taken = goes_once (λ i. party i ≡ hart) taken (Step hart) refl in
    let now_is : now ≡ Step hart ∷ taken = adds ∙ ap (λ l. Step hart ∷ l) same in
    subst (λ (l : List Item). Adds party l holder seen) (sym now_is)
    (subst (λ (y : ℕ × List Item). Adds party (Step hart ∷ taken) y.0 y.1) (λ i. (own i, sym saw i)) once)
