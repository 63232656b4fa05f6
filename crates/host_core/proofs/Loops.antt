-- Lists that grow in a loop by what is made of each item of another list.
use Rattle.std.proofs.Common.{◌≡◌, ◌<◌, ◌∷◌, [], ◌++◌, ◌∙◌, ℕ, zero, suc, List, refl, sym, ap, subst, arith, length, map, get_or, append_assoc}
use Rattle.std.specs.Prelude.{slice_set, All}
use Rattle.std.proofs.lemmas.List.{map-append, append-nil, nil_from_length}
use Rattle.std.proofs.lemmas.List.Elements.{All-head, All-push, All-tail}

module _ {A B C : Type 0} where
  -- one more, by a value of both
  pub next_mapped : (f : A → C) (g : B → C) (made now : List A) (items rest : List B) (a : A) (b : B) (all : List C) → items ≡ b ∷ rest
      → now ≡ made ++ a ∷ [] → f a ≡ g b → map f made ++ map g items ≡ all → map f now ++ map g rest ≡ all
  next_mapped f g made now items rest a b all is more same before =
      ap (λ (xs : List A). map f xs ++ map g rest) more
      ∙ ap (λ (xs : List C). xs ++ map g rest) (map-append f made (a ∷ []))
      ∙ append_assoc (map f made) (f a ∷ []) (map g rest)
      ∙ ap (λ (x : C). map f made ++ x ∷ map g rest) same
      ∙ ap (λ (xs : List B). map f made ++ map g xs) (sym is)
      ∙ before

  pub last_mapped : (f : A → C) (g : B → C) (made : List A) (items : List B) (all : List C) → items ≡ []
      → map f made ++ map g items ≡ all → map f made ≡ all
  last_mapped f g made items all none before =
      sym (append-nil (map f made)) ∙ ap (λ (xs : List B). map f made ++ map g xs) (sym none) ∙ before

module _ {A B : Type 0} where
  -- one more, from which the item is read
  pub next_item : (f : A → B) (made now : List A) (items rest all : List B) (a : A) (b : B) → items ≡ b ∷ rest → now ≡ made ++ a ∷ []
      → f a ≡ b → map f made ++ items ≡ all → map f now ++ rest ≡ all
  next_item f made now items rest all a b is more same before =
      ap (λ (xs : List A). map f xs ++ rest) more
      ∙ ap (λ (xs : List B). xs ++ rest) (map-append f made (a ∷ []))
      ∙ append_assoc (map f made) (f a ∷ []) rest
      ∙ ap (λ (x : B). map f made ++ x ∷ rest) same
      ∙ ap (λ (xs : List B). map f made ++ xs) (sym is)
      ∙ before

  pub last_item : (f : A → B) (made : List A) (items all : List B) → items ≡ [] → map f made ++ items ≡ all → map f made ≡ all
  last_item f made items all none before =
      sym (append-nil (map f made)) ∙ ap (λ (xs : List B). map f made ++ xs) (sym none) ∙ before

  -- a place that is written with the same value
  pub set_mapped : (f : A → B) (xs : List A) (k : ℕ) (y d : A) → k < length xs → f y ≡ f (get_or xs k d) → map f (slice_set xs k y) ≡ map f xs
  set_mapped f [] k y d low same = refl
  set_mapped f (x ∷ xs) zero y d low same = ap (λ (z : B). z ∷ map f xs) same
  set_mapped f (x ∷ xs) (suc k) y d low same = ap (λ (zs : List B). f x ∷ zs) (set_mapped f xs k y d (omega (arith, low)) same)

module _ {A : Type 0} (P : A → Type 0) where
  pub first_of : (x : A) (items rest : List A) → items ≡ x ∷ rest → All P items → P x
  first_of x items rest is all = All-head P x rest (subst (λ (xs : List A). All P xs) is all)

  pub rest_of : (x : A) (items rest : List A) → items ≡ x ∷ rest → All P items → All P rest
  rest_of x items rest is all = All-tail P x rest (subst (λ (xs : List A). All P xs) is all)

  pub none_left : (items : List A) → length items ≡ 0 → items ≡ []
  none_left items none = nil_from_length items none

  pub pushed : (xs now : List A) (x : A) → now ≡ xs ++ x ∷ [] → All P xs → P x → All P now
  pushed xs now x is all one = subst (λ (ys : List A). All P ys) (sym is) (All-push P xs x all one)
