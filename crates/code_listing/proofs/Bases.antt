-- The bases of regions that end below the stacks.
use Rattle.std.proofs.Common.{◌≡◌, ◌+◌, ◌<◌, ◌≤◌, ℕ, Bool, true, false, cond, List, [], ◌∷◌, All, length, map}
use Rattle.std.proofs.Common.{filter, refl, arith}
use Rattle.std.proofs.lemmas.List.Elements.{All-head, All-tail, All-cons}
use Rattle.flat_model.specs.Image.{Segment, end_of}
use Rattle.code_listing.specs.Listings.{code_bases}

abbrev IsLow : ℕ → Type 0
IsLow base = base ≤ 0x3fffc00000

low_behind : (b : Bool) (s : Segment) (rest : List Segment) → IsLow s.base → All IsLow (map (λ (r : Segment). r.base) rest)
    → All IsLow (map (λ (r : Segment). r.base) (cond b (s ∷ rest) rest))
low_behind true s rest low all = All-cons IsLow s.base (map (λ (r : Segment). r.base) rest) low all
low_behind false s rest low all = all

pub bases_low : (regions : List Segment) → All (λ s. end_of s ≤ 0x3fffc00000) regions → All (λ base. base ≤ 0x3fffc00000) (code_bases regions)
bases_low [] all = λ k d below. absurd (omega (arith, below))
bases_low (s ∷ rest) all =
    let here : end_of s ≤ 0x3fffc00000 = All-head (λ r. end_of r ≤ 0x3fffc00000) s rest all in
    low_behind s.x s (filter (λ (r : Segment). r.x) rest) (omega (arith, here)) (bases_low rest (All-tail (λ r. end_of r ≤ 0x3fffc00000) s rest all))
