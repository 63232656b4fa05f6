-- What is neither LR nor SC is an AMO.
use Rattle.std.proofs.Common.{◌≡◌, ℕ, Bool, List, refl}
use Rattle.flat_model.specs.declared.instructions.AtomicOp.{AtomicOp}
use Rattle.flat_model.specs.declared.instructions.AtomicOp.TheVariants.{Lr, Sc, Swap, Add, Xor, And, Or, Min, Max, Minu, Maxu}
use Rattle.flat_model.specs.Permission.{Span}
use Rattle.flat_model.specs.World.{HartState, Shared}
use Rattle.flat_model.specs.Outcome.{modifies, operates_aligned}

pub other_is_amo : (spans : List Span) (h : ℕ) (hart : HartState) (shared : Shared) (op : AtomicOp) (wide : Bool) (rd addr value : ℕ)
    → (op ≡ Lr → ⊥) → (op ≡ Sc → ⊥)
    → operates_aligned spans h hart shared op wide rd addr value ≡ modifies spans h hart shared op wide rd addr value
other_is_amo spans h hart shared Lr wide rd addr value not_lr not_sc = absurd (not_lr refl)
other_is_amo spans h hart shared Sc wide rd addr value not_lr not_sc = absurd (not_sc refl)
other_is_amo spans h hart shared Swap wide rd addr value not_lr not_sc = refl
other_is_amo spans h hart shared Add wide rd addr value not_lr not_sc = refl
other_is_amo spans h hart shared Xor wide rd addr value not_lr not_sc = refl
other_is_amo spans h hart shared And wide rd addr value not_lr not_sc = refl
other_is_amo spans h hart shared Or wide rd addr value not_lr not_sc = refl
other_is_amo spans h hart shared Min wide rd addr value not_lr not_sc = refl
other_is_amo spans h hart shared Max wide rd addr value not_lr not_sc = refl
other_is_amo spans h hart shared Minu wide rd addr value not_lr not_sc = refl
other_is_amo spans h hart shared Maxu wide rd addr value not_lr not_sc = refl
