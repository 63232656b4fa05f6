-- Texts without a sign: cut at the sign, a text that was joined with it falls into what was joined.
use Rattle.std.proofs.Common.{◌≡◌, ◌<◌, ◌≤◌, ◌+◌, ◌==◌, ◌&&◌, ◌∷◌, [], ◌++◌, ◌∙◌, ℕ, Bool}
use Rattle.std.proofs.Common.{true, false, not, List, Some, None, refl, sym, ap, subst, arith, length, drop, reverse, nat_lt, nat_le, cond}
use Rattle.std.proofs.Common.{inl, inr}
use Rattle.std.proofs.Common.{◌||◌}
use Rattle.std.specs.List.{All, AllZip, list_all, position_or_len, before_first, after_first, join_with_byte}
use Rattle.std.proofs.lemmas.Bool.{and_parts, and_from, not-true, ltb-true, ltb-false, lt-ltb, le-ltb, eqb-true, eq-eqb, cond-true}
use Rattle.std.proofs.lemmas.Bool.{cond-false, false≢true, cases_Bool}
use Rattle.std.proofs.lemmas.List.{take_at, drop_at, take_all, length-append, length-reverse, length-take-le, reverse-append}
use Rattle.std.proofs.lemmas.List.{reverse-reverse, append_assoc}
use Rattle.std.proofs.lemmas.List.Sums.{AllPass-from_list_all, split_at_first, passes_at_first}
use Rattle.std.proofs.lemmas.List.Elements.{All-weaker}
use Rattle.std.proofs.lemmas.List.Splits.{slice_split_at, slice_split_none}
use Rattle.run_script.proofs.Cuts.{some_where, none_where}
use Rattle.run_script.specs.Bytes.{before, after, pieces, tail_len}

-- every byte of a text passes a test
abbrev pub Each : (ℕ → Bool) → List ℕ → Type 0
Each p text = list_all p text ≡ true

abbrev pub other : ℕ → ℕ → Bool
other c b = not (b == c)

-- a text has no byte c
abbrev pub Free : ℕ → List ℕ → Type 0
Free c text = Each (other c) text

-- a byte that can be a digit or a letter, and is no sign
abbrev pub is_plain : ℕ → Bool
is_plain b = nat_le 48 b && (nat_le b 57 || nat_le 65 b) && nat_lt b 128

abbrev pub IsPlain : List ℕ → Type 0
IsPlain text = Each is_plain text

-- a test that every plain byte passes
abbrev pub Takes : (ℕ → Bool) → Type 0
Takes p = (b : ℕ) → is_plain b ≡ true → p b ≡ true

pub differs : (c : ℕ) → is_plain c ≡ false → Takes (other c)
differs c sign b plain =
    elim (cases_Bool (b == c)) [
      | inl same ↦ absurd (false≢true (sym sign ∙ (ap is_plain (sym (eqb-true b c same)) ∙ plain)))
      | inr other' ↦ ap not other'
    ]

pub each_plain : (p : ℕ → Bool) (text : List ℕ) → Takes p → IsPlain text → Each p text
each_plain p [] takes plain = refl
each_plain p (b ∷ bs) takes plain =
    let parts = and_parts (is_plain b) (list_all is_plain bs) plain in
    and_from _ _ (takes b parts.0) (each_plain p bs takes parts.1)

pub free_plain : (c : ℕ) (text : List ℕ) → is_plain c ≡ false → IsPlain text → Free c text
free_plain c text sign plain = each_plain (other c) text (differs c sign) plain

pub each_append : (p : ℕ → Bool) (x y : List ℕ) → Each p x → Each p y → Each p (x ++ y)
each_append p [] y fx fy = fy
each_append p (b ∷ bs) y fx fy =
    let parts = and_parts (p b) (list_all p bs) fx in
    and_from _ _ parts.0 (each_append p bs y parts.1 fy)

pub free_append : (c : ℕ) (x y : List ℕ) → Free c x → Free c y → Free c (x ++ y)
free_append c x y fx fy = each_append (other c) x y fx fy

none_is : (c : ℕ) (text : List ℕ) → Free c text → All (λ b. (b == c) ≡ false) text
none_is c text free =
    All-weaker (λ b. not (b == c) ≡ true) (λ b. (b == c) ≡ false) (λ b h. not-true (b == c) h) text
    (AllPass-from_list_all (λ b. not (b == c)) text free)

place : (c : ℕ) (text rest : List ℕ) → Free c text → position_or_len (λ b. b == c) (text ++ c ∷ rest) ≡ length text
place c [] rest free = cond-false _ _ _ (ap not (eq-eqb c c refl))
place c (b ∷ bs) rest free =
    let parts = and_parts (not (b == c)) (list_all (λ d. not (d == c)) bs) free in
    let ih = place c bs rest parts.1 in
    cond-true _ _ _ parts.0 ∙ omega (arith, ih)

past : (c : ℕ) (text : List ℕ) → Free c text → position_or_len (λ b. b == c) text ≡ length text
past c [] free = refl
past c (b ∷ bs) free =
    let parts = and_parts (not (b == c)) (list_all (λ d. not (d == c)) bs) free in
    let ih = past c bs parts.1 in
    cond-true _ _ _ parts.0 ∙ omega (arith, ih)

-- what stands before and after the first sign
pub before_at : (c : ℕ) (text rest : List ℕ) → Free c text → before c (text ++ c ∷ rest) ≡ text
before_at c text rest free = take_at text (c ∷ rest) _ (sym (place c text rest free))

after_place : (c n : ℕ) (text rest : List ℕ) → n ≡ length text → drop (n + 1) (text ++ c ∷ rest) ≡ rest
after_place c n text rest e =
    ap (drop (n + 1)) (sym (append_assoc text (c ∷ []) rest))
    ∙ drop_at (text ++ c ∷ []) rest (n + 1) (length-append text (c ∷ []) ∙ omega arith)

pub after_at : (c : ℕ) (text rest : List ℕ) → Free c text → after c (text ++ c ∷ rest) ≡ Some rest
after_at c text rest free =
    let at = place c text rest free in
    let within : position_or_len (λ b. b == c) (text ++ c ∷ rest) < length (text ++ c ∷ rest) =
    omega (arith, at, length-append text (c ∷ rest)) in
    cond-true _ _ _ (lt-ltb _ _ within) ∙ ap (λ r. Some r) (after_place c _ text rest at)

pub before_whole : (c : ℕ) (text : List ℕ) → Free c text → before c text ≡ text
before_whole c text free = take_all _ text (omega (arith, past c text free))

pub after_none : (c : ℕ) (text : List ℕ) → Free c text → after c text ≡ None
after_none c text free =
    let end : length text ≤ position_or_len (λ b. b == c) text = omega (arith, past c text free) in
    cond-false _ _ _ (le-ltb _ _ end)

-- where no sign is, all stands before it
pub before_none : (c : ℕ) (text : List ℕ) → after c text ≡ None → text ≡ before c text
before_none c text e =
    sym (take_all _ text (ltb-false _ _ (none_where (nat_lt (position_or_len (λ b. b == c) text) (length text)) _ e)))

-- a cut at a sign leaves what stands before and after it
pub cut_joins : (c : ℕ) (text rest : List ℕ) → after c text ≡ Some rest → text ≡ before c text ++ c ∷ rest
cut_joins c text rest e =
    let p : ℕ → Bool = λ b. b == c in
    let both = some_where (nat_lt (position_or_len p text) (length text)) (after_first p text) rest e in
    let within = ltb-true _ _ both.0 in
    let is_sign = eqb-true _ c (passes_at_first p text 0 within) in
    split_at_first p text 0 within ∙ ap (λ b. before c text ++ b ∷ after_first p text) is_sign
    ∙ ap (λ r. before c text ++ c ∷ r) both.1

-- every byte of every text of a list passes a test
abbrev pub AllEach : (ℕ → Bool) → List (List ℕ) → Type 0
AllEach p [] = Unit {0}
AllEach p (text ∷ texts) = Each p text × AllEach p texts

-- every text of a list is without the sign
abbrev pub AllFree : ℕ → List (List ℕ) → Type 0
AllFree c texts = AllEach (other c) texts

pub each_texts : {A : Type 0} (p : ℕ → Bool) (Spells : A → List ℕ → Type 0) → ((x : A) (text : List ℕ) → Spells x text → Each p text)
    → (xs : List A) (texts : List (List ℕ)) → AllZip Spells xs texts → AllEach p texts
each_texts p Spells passes [] [] each = tt
each_texts p Spells passes [] (t ∷ ts) each = absurd each
each_texts p Spells passes (x ∷ xs) [] each = absurd each
each_texts p Spells passes (x ∷ xs) (t ∷ ts) each = (passes x t each.0, each_texts p Spells passes xs ts each.1)

pub free_texts : {A : Type 0} (c : ℕ) (Spells : A → List ℕ → Type 0) → ((x : A) (text : List ℕ) → Spells x text → Free c text)
    → (xs : List A) (texts : List (List ℕ)) → AllZip Spells xs texts → AllFree c texts
free_texts c Spells free xs texts each = each_texts (other c) Spells free xs texts each

pub each_cons : (p : ℕ → Bool) (t : List ℕ) (ts : List (List ℕ)) → Each p t → AllEach p ts → AllEach p (t ∷ ts)
each_cons p t ts f fs = (f, fs)

pub free_cons : (c : ℕ) (t : List ℕ) (ts : List (List ℕ)) → Free c t → AllFree c ts → AllFree c (t ∷ ts)
free_cons c t ts f fs = each_cons (other c) t ts f fs

-- texts that were joined are the pieces
pub pieces_joined : (c : ℕ) (t : List ℕ) (ts : List (List ℕ)) → AllFree c (t ∷ ts) → pieces c (join_with_byte c (t ∷ ts)) ≡ t ∷ ts
pieces_joined c t [] free = slice_split_none (λ b. b == c) t (none_is c t free.0)
pieces_joined c t (u ∷ us) free =
    slice_split_at (λ b. b == c) t c (join_with_byte c (u ∷ us)) (none_is c t free.0) (eq-eqb c c refl)
    ∙ ap (λ r. t ∷ r) (pieces_joined c u us free.1)

-- what each of them passes, they pass joined with a sign that passes it
pub each_joined : (p : ℕ → Bool) (d : ℕ) → Each p (d ∷ []) → (ts : List (List ℕ)) → AllEach p ts → Each p (join_with_byte d ts)
each_joined p d sign [] each = refl
each_joined p d sign (t ∷ []) each = each.0
each_joined p d sign (t ∷ u ∷ us) each =
    each_append p t (d ∷ join_with_byte d (u ∷ us)) each.0
    (each_append p (d ∷ []) (join_with_byte d (u ∷ us)) sign (each_joined p d sign (u ∷ us) each.1))

-- what stands after the last sign
tail_place : (c : ℕ) (text k : List ℕ) → Free c (reverse k) → position_or_len (λ b. b == c) (reverse (text ++ c ∷ k)) ≡ length k
tail_place c text k free =
    let turned : reverse (text ++ c ∷ k) ≡ reverse k ++ c ∷ reverse text =
    reverse-append text (c ∷ k) ∙ (ap (λ r. r ++ reverse text) (reverse-append (c ∷ []) k)
    ∙ append_assoc (reverse k) (c ∷ []) (reverse text)) in
    ap (position_or_len (λ b. b == c)) turned ∙ (place c (reverse k) (reverse text) free ∙ length-reverse k)

pub free_reverse : (c : ℕ) (k : List ℕ) → Free c k → Free c (reverse k)
free_reverse c [] free = refl
free_reverse c (b ∷ bs) free =
    let parts = and_parts (not (b == c)) (list_all (λ d. not (d == c)) bs) free in
    subst (λ r. Free c r) (sym (reverse-append (b ∷ []) bs))
    (free_append c (reverse bs) (b ∷ []) (free_reverse c bs parts.1) (and_from _ _ parts.0 refl))

pub tail_at : (c : ℕ) (text k : List ℕ) → Free c k → tail_len c (text ++ c ∷ k) ≡ Some (length k)
tail_at c text k free =
    let at = tail_place c text k (free_reverse c k free) in
    let within : position_or_len (λ b. b == c) (reverse (text ++ c ∷ k)) < length (reverse (text ++ c ∷ k)) =
    omega (arith, at, length-reverse (text ++ c ∷ k), length-append text (c ∷ k)) in
    cond-true _ _ _ (lt-ltb _ _ within) ∙ ap (λ n. Some n) at

some_number : (test : Bool) (n m : ℕ) → cond test (Some n) None ≡ Some m → (test ≡ true) × (n ≡ m)
some_number true n m e = (refl, cc)
some_number false n m e = cc

length_before : (p : ℕ → Bool) (text : List ℕ) → position_or_len p text < length text
    → length (before_first p text) ≡ position_or_len p text
length_before p text within = length-take-le _ text (omega arith)

-- a text with a last sign is what stands before it, the sign, and what stands after it
pub record CutsLast (c : ℕ) (text : List ℕ) (n : ℕ) : Type 0 where
  pub front : List ℕ
  pub back : List ℕ
  pub joined : text ≡ front ++ c ∷ back
  pub size : n ≡ length back

pub tail_cuts : (c : ℕ) (text : List ℕ) (n : ℕ) → tail_len c text ≡ Some n → CutsLast c text n
tail_cuts c text n e =
    let p : ℕ → Bool = λ b. b == c in
    let turned = reverse text in
    let both = some_number (nat_lt (position_or_len p turned) (length turned)) (position_or_len p turned) n e in
    let within = ltb-true _ _ both.0 in
    let is_sign = eqb-true _ c (passes_at_first p turned 0 within) in
    let parts : turned ≡ before_first p turned ++ c ∷ after_first p turned =
    split_at_first p turned 0 within ∙ ap (λ b. before_first p turned ++ b ∷ after_first p turned) is_sign in
    record {
      front = reverse (after_first p turned);
      back = reverse (before_first p turned);
      joined = sym (reverse-reverse text) ∙ (ap reverse parts ∙ (reverse-append (before_first p turned) (c ∷ after_first p turned)
          ∙ (ap (λ r. r ++ reverse (before_first p turned)) (reverse-append (c ∷ []) (after_first p turned))
          ∙ append_assoc (reverse (after_first p turned)) (c ∷ []) (reverse (before_first p turned)))));
      size = sym both.1 ∙ omega (arith, length-reverse (before_first p turned), length_before p turned within);
    }
