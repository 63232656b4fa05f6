-- What a cut says of the pieces of a text.
use Rattle.std.proofs.Common.{◌≡◌, ◌<◌, ◌≤◌, ◌+◌, ◌==◌, ◌∷◌, [], ◌∙◌, ℕ, Bool, true, false, not, List}
use Rattle.std.proofs.Common.{Some, None, refl, sym, ap, arith, length, take, nat_lt, cond}
use Rattle.std.specs.List.{All, position_or_len, prefix_len, after_first}
use Rattle.std.proofs.lemmas.Grind.{common_steps}
use Rattle.std.proofs.lemmas.List.Elements.{All-nil, All-cons}
use Rattle.std.proofs.lemmas.List.Splits.{slice_split_first, slice_split_none}
use Rattle.run_script.specs.Bytes.{before, after, pieces}

pub some_where : (test : Bool) (x y : List ℕ) → cond test (Some x) None ≡ Some y → (test ≡ true) × (x ≡ y)
some_where true x y e = (refl, cc)
some_where false x y e = cc

pub none_where : (test : Bool) (x : List ℕ) → cond test (Some x) None ≡ None → test ≡ false
none_where true x e = cc
none_where false x e = refl

first_fails : (b : Bool) (n m : ℕ) → m + 1 ≤ cond (not b) (1 + n) 0 → (b ≡ false) × (m ≤ n)
first_fails true n m h = absurd (omega arith)
first_fails false n m h = (refl, omega arith)

none_passes : (p : ℕ → Bool) (xs : List ℕ) → length xs ≤ position_or_len p xs → All (λ x. p x ≡ false) xs
none_passes p [] h = All-nil _
none_passes p (x ∷ xs) h =
    let longer : length xs + 1 ≤ cond (not (p x)) (1 + prefix_len (λ y. not (p y)) xs) 0 = omega (arith, h) in
    let both = first_fails (p x) (prefix_len (λ y. not (p y)) xs) (length xs) longer in
    All-cons (λ y. p y ≡ false) x xs both.0 (none_passes p xs both.1)

take_all : (n : ℕ) (xs : List ℕ) → length xs ≤ n → take n xs ≡ xs
take_all n xs h = grind (arith, common_steps)

-- with no cut there is one piece
pub whole : (c : ℕ) (text : List ℕ) → after c text ≡ None → pieces c text ≡ before c text ∷ []
whole c text e =
    let p : ℕ → Bool = λ b. b == c in
    let test : nat_lt (position_or_len (λ b. b == c) text) (length text) ≡ false = none_where _ (after_first p text) e in
    let past : length text ≤ position_or_len (λ b. b == c) text = grind arith in
    slice_split_none p text (none_passes p text past) ∙ ap (λ t. t ∷ []) (sym (take_all _ text past))

-- a cut takes off the first piece
pub first_off : (c : ℕ) (text rest : List ℕ) → after c text ≡ Some rest → pieces c text ≡ before c text ∷ pieces c rest
first_off c text rest e =
    let p : ℕ → Bool = λ b. b == c in
    let both = some_where (nat_lt (position_or_len p text) (length text)) (after_first p text) rest e in
    let test : nat_lt (position_or_len (λ b. b == c) text) (length text) ≡ true = both.0 in
    let within : position_or_len (λ b. b == c) text < length text = grind arith in
    slice_split_first p text 0 within ∙ ap (λ r. before c text ∷ pieces c r) both.1
