-- One section more.
use Rattle.std.proofs.Common.{◌≡◌, ◌∙◌, ◌+◌, ℕ, zero, suc, List, [], ◌∷◌, ◌++◌, refl, sym, ap, arith, append_assoc, append-nil}
use Rattle.flat_model.specs.declared.instructions.Ins.{Ins}
use Rattle.guest_gen.specs.Instructions.{section, sections}

pub sections_more : (from n i : ℕ) → from + n ≡ i → sections from (n + 1) ≡ sections from n ++ section i
sections_more from zero i is =
    append-nil (section from) ∙ ap section (let e : from ≡ i = omega (arith, is) in e)
sections_more from (suc n) i is =
    let one : suc n + 1 ≡ suc (n + 1) = omega arith in
    ap (sections from) one
    ∙ ap (λ code. section from ++ code) (sections_more (from + 1) n i (omega (arith, is)))
    ∙ sym (append_assoc (section from) (sections (from + 1) n) (section i))

-- at a loop's step
pub section_put : (before now next : List Ins) (i : ℕ) → now ≡ before ++ sections 1 i → next ≡ now ++ section (i + 1)
    → next ≡ before ++ sections 1 (i + 1)
section_put before now next i so_far one =
    one
    ∙ (ap (λ code. code ++ section (i + 1)) so_far
    ∙ (append_assoc before (sections 1 i) (section (i + 1))
    ∙ ap (λ code. before ++ code) (sym (sections_more 1 i (i + 1) (omega arith)))))
