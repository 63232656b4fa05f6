-- The opening memory.
use Rattle.std.proofs.Common.{◌≡◌, ℕ, zero, suc, ◌+◌, ◌-◌, ◌*◌, ◌<◌, ◌≤◌, ◌++◌, ◌⊎◌, Bool, true}
use Rattle.std.proofs.Common.{false, cond, List, [], ◌∷◌, length, map}
use Rattle.std.proofs.Common.{get_or, Option, Some, None, replicate, option_map, unwrap_or, refl, sym, ap, ◌∙◌, arith, inl, inr}
use Rattle.std.proofs.Common.{append_assoc}
use Rattle.std.specs.List.{find, All, AllPairs, slice_index}
use Rattle.std.specs.Option.{option_or}
use Rattle.std.proofs.Math.Path.{fun_ext}
use Rattle.std.proofs.Math.ListN.{get_or-eq_default}
use Rattle.std.proofs.lemmas.List.{get_or-replicate, length-replicate, map-append}
use Rattle.std.proofs.lemmas.List.Folds.{find-append}
use Rattle.std.proofs.lemmas.List.Quantifiers.{all_pairs_push}
use Rattle.flat_model.specs.Image.{Segment, Program, IsImage, AreApart, end_of, holds}
use Rattle.flat_model.specs.Permission.{Span, span_of, stacks, stack_of, stack_base}
use Rattle.flat_model.specs.World.{opening_bytes}
use Rattle.guest_memory.specs.Memory.{IsLaidOut, IsOpening, stack_bytes, stack_segment, with_stacks}
use Rattle.guest_memory.proofs.Places.{lt_or_le}

replicated : {X : Type 0} (n k : ℕ) (a : X) → get_or (replicate n a) k a ≡ a
replicated n k a = elim (lt_or_le k n) [
  | inl below ↦ get_or-replicate n k a a below
  | inr past ↦ get_or-eq_default (replicate n a) a (omega (arith, past, length-replicate n a))
]

stack_zero : (k : ℕ) → get_or stack_bytes k 0 ≡ 0
unfolding stack_bytes
stack_zero k = replicated 0x10000 k 0

stack_long : length stack_bytes ≡ 0x10000
unfolding stack_bytes
stack_long = let z : ℕ = 0 in length-replicate 0x10000 z

all_push : {X : Type 0} (P : X → Type 0) (xs : List X) (y : X) → All P xs → P y → All P (xs ++ y ∷ [])
all_push P [] y all p zero d below = p
all_push P [] y all p (suc k) d below = absurd (omega arith)
all_push P (x ∷ xs) y all p zero d below = all 0 d (omega arith)
all_push P (x ∷ xs) y all p (suc k) d below = all_push P xs y (λ j e b. all (suc j) e (omega arith)) p k d (omega arith)

-- the regions once the stacks of n harts stand above the image
record HasStacks (n : ℕ) (regions : List Segment) : Type 0 where
  apart : AllPairs AreApart regions
  low : All (λ s. end_of s ≤ 0x4000000000) regions
  beside : All (λ s. (end_of s ≤ 0x3FFFC00000) ⊎ (0x4000000000 ≤ s.base + n * 0x20000)) regions

next_stack : (n : ℕ) (regions : List Segment) → n < 32 → HasStacks n regions → HasStacks (suc n) (regions ++ stack_segment n ∷ [])
next_stack n regions few has =
    let long = stack_long in
    record {
      apart = all_pairs_push AreApart regions (stack_segment n) has.apart (λ k d below. elim (has.beside k d below) [
        | inl a ↦ inl (omega (arith, a, few))
        | inr a ↦ inr (omega (arith, a, few, long))
      ]);
      low = all_push (λ s. end_of s ≤ 0x4000000000) regions (stack_segment n) has.low (omega (arith, long, few));
      beside = all_push (λ s. (end_of s ≤ 0x3FFFC00000) ⊎ (0x4000000000 ≤ s.base + suc n * 0x20000)) regions (stack_segment n)
          (λ k d below. elim (has.beside k d below) [
            | inl a ↦ inl a
            | inr a ↦ inr (omega (arith, a))
          ]) (inr (omega (arith, few)));
    }

has_stacks : (image : Program) (n : ℕ) → n ≤ 32 → IsImage image → HasStacks n (with_stacks image.regions n)
unfolding with_stacks
has_stacks image zero few is = record {
  apart = is.apart;
  low = λ k d below. let l = is.low k d below in omega arith;
  beside = λ k d
      below. inl (is.low k d below);
}
has_stacks image (suc n) few is = next_stack n (with_stacks image.regions n) (omega arith) (has_stacks image n (omega arith) is)

pub opening_laid : (image : Program) (n : ℕ) → n ≤ 32 → IsImage image → IsLaidOut (with_stacks image.regions n)
opening_laid image n few is = let h = has_stacks image n few is in record { apart = h.apart; low = h.low }

abbrev sized : ℕ → ℕ → Span
sized n m = record { base = stack_base n; size = m; r = true; w = true; x = false }

append_nil : {X : Type 0} (xs : List X) → xs ++ [] ≡ xs
append_nil [] = refl
append_nil (x ∷ xs) = ap (λ l. x ∷ l) (append_nil xs)

spans_are : (regions : List Segment) (n : ℕ) → map span_of (with_stacks regions n) ≡ map span_of regions ++ stacks n
unfolding with_stacks
spans_are regions zero = sym (append_nil (map span_of regions))
spans_are regions (suc n) =
    map-append span_of (with_stacks regions n) (stack_segment n ∷ [])
    ∙ ap (λ (l : List Span). l ++ span_of (stack_segment n) ∷ []) (spans_are regions n)
    ∙ ap (λ (m : ℕ). (map span_of regions ++ stacks n) ++ sized n m ∷ []) stack_long
    ∙ append_assoc (map span_of regions) (stacks n) (stack_of n ∷ [])

stack_reads : (a n : ℕ) (b : Bool) → unwrap_or (option_map (λ (s : Segment). slice_index s.bytes (a - s.base))
    (cond b (Some (stack_segment n)) None)) 0 ≡ 0
stack_reads a n true = stack_zero (a - stack_base n)
stack_reads a n false = refl

either_read : (a n : ℕ) (b : Bool) (o : Option Segment)
    → unwrap_or (option_map (λ (s : Segment). slice_index s.bytes (a - s.base)) (option_or o (cond b (Some (stack_segment n)) None))) 0
    ≡ unwrap_or (option_map (λ (s : Segment). slice_index s.bytes (a - s.base)) o) 0
either_read a n b None = stack_reads a n b
either_read a n b (Some s) = refl

bytes_are : (regions : List Segment) (n a : ℕ) → opening_bytes (with_stacks regions n) a ≡ opening_bytes regions a
unfolding with_stacks
bytes_are regions zero a = refl
bytes_are regions (suc n) a =
    ap (λ (o : Option Segment). unwrap_or (option_map (λ (s : Segment). slice_index s.bytes (a - s.base)) o) 0)
    (find-append (holds a 1) (with_stacks regions n) (stack_segment n ∷ []))
    ∙ either_read a n (holds a 1 (stack_segment n)) (find (holds a 1) (with_stacks regions n)) ∙ bytes_are regions n a

pub opens : (image : Program) (harts : ℕ) (regions : List Segment) (xs : List (Option ℕ)) → regions ≡ with_stacks image.regions harts
    → xs ≡ replicate harts None → IsOpening image harts (record { regions = regions; reservations = xs })
opens image harts regions xs a b = record {
  spans = ap (map span_of) a ∙ spans_are image.regions harts;
  bytes = ap opening_bytes a ∙ fun_ext (λ k. bytes_are image.regions harts k);
  reserved = fun_ext (λ k. ap (λ (l : List (Option ℕ)). get_or l k None) b ∙ replicated harts k None);
  count = ap length b ∙ length-replicate harts None;
}

abbrev pub stack_with : ℕ → List ℕ → Segment
stack_with h l = record { base = stack_base h; bytes = l; r = true; w = true; x = false }

pub stack_is : (xs : List ℕ) → xs ≡ replicate 0x10000 0 → xs ≡ stack_bytes
unfolding stack_bytes
stack_is xs e = e

pub none_yet : (regions xs : List Segment) → xs ≡ regions → xs ≡ with_stacks regions 0
unfolding with_stacks
none_yet regions xs e = e

pub one_more : (regions xs ys : List Segment) (n : ℕ) (s : Segment) → xs ≡ with_stacks regions n → s ≡ stack_segment n → ys ≡ xs ++ s ∷ []
    → ys ≡ with_stacks regions (n + 1)
unfolding with_stacks
one_more regions xs ys n s a b e = let next : n + 1 ≡ suc n = omega arith in rw next
    (e ∙ ap (λ (l : List Segment). l ++ s ∷ []) a ∙ ap (λ (t : Segment). with_stacks regions n ++ t ∷ []) b)
