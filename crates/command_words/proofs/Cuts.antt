-- What the sort of a word says of the word, and which sort a written word has.
use Rattle.std.proofs.Common.{◌≡◌, ◌⊎◌, ◌<◌, ◌≤◌, ◌==◌, ◌∷◌, ◌++◌, [], ◌∙◌, ℕ, Bool, true, false, List, Option, Some, None}
use Rattle.std.proofs.Common.{refl, sym, ap, arith, length, take, cond, nat_lt, inl, inr, codes, get_or}
use Rattle.std.specs.Prelude.{bytes_eq, unwrap_or}
use Rattle.std.specs.List.{AllByRecursion, position_or_len, after_first}
use Rattle.std.proofs.lemmas.Bool.{ltb-true, lt-ltb, cond-true}
use Rattle.std.proofs.lemmas.Grind.{common_steps}
use Rattle.std.proofs.lemmas.List.Sums.{split_at_first, passes_at_first}
use Rattle.std.proofs.lemmas.Slice.Eq.{bytes_eq-Decides}
use Rattle.command_words.specs.declared.words.Verb.{Verb}
use Rattle.command_words.specs.declared.words.Verb.TheVariants as verbs
use Rattle.command_words.specs.declared.words.OptionName.{OptionName}
use Rattle.command_words.specs.declared.words.OptionName.TheVariants.{Harts, Limit, Start, Script, Journal}
use Rattle.command_words.specs.declared.words.Sort.TheVariants.{Plain, End, Bare, Valued}
use Rattle.command_words.specs.Words.{Text, is_empty, is_plain, named, verb_named, verb_names, option_named, option_names, front, back}
use Rattle.command_words.specs.Words.{named_sort, sort_of, value_in}
use Rattle.command_words.specs.Grammar.{verb_text, option_text}

-- which way a test went
pub chosen : {A : Type 0} (b : Bool) (x y z : A) → cond b x y ≡ z → ((b ≡ true) × (x ≡ z)) ⊎ ((b ≡ false) × (y ≡ z))
chosen true x y z e = inl (refl, e)
chosen false x y z e = inr (refl, e)

-- a text is the one of what it names, in a table that has these
named_is : {A : Type 0} (text_of : A → Text) (table : List (A × Text)) → AllByRecursion (λ row. row.1 ≡ text_of row.0) table
    → (text : Text) (x : A) → named table text ≡ Some x → text ≡ text_of x
named_is text_of [] all text x e = absurd cc
named_is {A} text_of (row ∷ rows) all text x e =
    elim (chosen (bytes_eq text row.1) (Some row.0) (named rows text) (Some x) e) [
      | inl here ↦
          let what : row.0 ≡ x = cc in
          let word : text ≡ row.1 = (bytes_eq-Decides text row.1).0 here.0 in
          word ∙ (all.0 ∙ ap text_of what)
      | inr later ↦ named_is text_of rows all.1 text x later.1
    ]

pub option_is : (text : Text) (name : OptionName) → option_named text ≡ Some name → text ≡ option_text name
option_is text name e = named_is option_text option_names (refl, (refl, (refl, (refl, (refl, tt))))) text name e

pub verb_is : (text : Text) (verb : Verb) → verb_named text ≡ Some verb → text ≡ verb_text verb
verb_is text verb e = named_is verb_text verb_names (refl, (refl, (refl, (refl, (refl, tt))))) text verb e

pub verb_reads : (verb : Verb) → verb_named (verb_text verb) ≡ Some verb
verb_reads verbs.Run = refl
verb_reads verbs.Replay = refl
verb_reads verbs.Blocks = refl
verb_reads verbs.Disas = refl
verb_reads verbs.Generated = refl

-- ---- cutting a word at its first `=`

abbrev is_equals : ℕ → Bool
is_equals b = b == 61

some_where : (test : Bool) (x y : Text) → cond test (Some x) None ≡ Some y → (test ≡ true) × (x ≡ y)
some_where true x y e = (refl, cc)
some_where false x y e = cc

none_where : (test : Bool) (x : Text) → cond test (Some x) None ≡ None → test ≡ false
none_where true x e = cc
none_where false x e = refl

take_all : (n : ℕ) (xs : Text) → length xs ≤ n → take n xs ≡ xs
take_all n xs h = grind (arith, common_steps)

uncut : (word : Text) → back word ≡ None → front word ≡ word
uncut word e =
    let test : nat_lt (position_or_len is_equals word) (length word) ≡ false = none_where _ (after_first is_equals word) e in
    let past : length word ≤ position_or_len is_equals word = grind arith in
    take_all _ word past

equals_is : (b : ℕ) → is_equals b ≡ true → b ≡ 61
equals_is b e = grind arith

cut_is : (word value : Text) → back word ≡ Some value → word ≡ front word ++ 61 ∷ value
cut_is word value e =
    let both = some_where (nat_lt (position_or_len is_equals word) (length word)) (after_first is_equals word) value e in
    let within : position_or_len is_equals word < length word = ltb-true _ _ both.0 in
    let sign : get_or word (position_or_len is_equals word) 0 ≡ 61 = equals_is _ (passes_at_first is_equals word 0 within) in
    split_at_first is_equals word 0 within
    ∙ (ap (λ b. front word ++ b ∷ after_first is_equals word) sign ∙ ap (λ v. front word ++ 61 ∷ v) both.1)

-- ---- from the sort to the word

plain_from : (a b : Bool) (n : Option OptionName) (v : Option Text) → cond a Plain (cond b End (named_sort n v)) ≡ Plain → a ≡ true
plain_from true b n v e = refl
plain_from false true n v e = absurd cc
plain_from false false None v e = absurd cc
plain_from false false (Some name) None e = absurd cc
plain_from false false (Some name) (Some []) e = absurd cc
plain_from false false (Some name) (Some (x ∷ xs)) e = absurd cc

end_from : (a b : Bool) (n : Option OptionName) (v : Option Text) → cond a Plain (cond b End (named_sort n v)) ≡ End → b ≡ true
end_from true b n v e = absurd cc
end_from false true n v e = refl
end_from false false None v e = absurd cc
end_from false false (Some name) None e = absurd cc
end_from false false (Some name) (Some []) e = absurd cc
end_from false false (Some name) (Some (x ∷ xs)) e = absurd cc

abbrev IsBare : OptionName → Option OptionName → Option Text → Type 0
IsBare name n v = (n ≡ Some name) × (v ≡ None)

bare_from : (name : OptionName) (a b : Bool) (n : Option OptionName) (v : Option Text)
    → cond a Plain (cond b End (named_sort n v)) ≡ Bare name → IsBare name n v
bare_from name true b n v e = absurd cc
bare_from name false true n v e = absurd cc
bare_from name false false None v e = absurd cc
bare_from name false false (Some other) None e = (let same : other ≡ name = cc in ap (λ o. Some o) same, refl)
bare_from name false false (Some other) (Some []) e = absurd cc
bare_from name false false (Some other) (Some (x ∷ xs)) e = absurd cc

abbrev IsValued : OptionName → Option OptionName → Option Text → Type 0
IsValued name n v = (value : Text) × (n ≡ Some name) × (v ≡ Some value) × (is_empty value ≡ false)

valued_from : (name : OptionName) (a b : Bool) (n : Option OptionName) (v : Option Text)
    → cond a Plain (cond b End (named_sort n v)) ≡ Valued name → IsValued name n v
valued_from name true b n v e = absurd cc
valued_from name false true n v e = absurd cc
valued_from name false false None v e = absurd cc
valued_from name false false (Some other) None e = absurd cc
valued_from name false false (Some other) (Some []) e = absurd cc
valued_from name false false (Some other) (Some (x ∷ xs)) e =
    (x ∷ xs, (let same : other ≡ name = cc in ap (λ o. Some o) same), refl, refl)

pub plain_is : (word : Text) → sort_of word ≡ Plain → is_plain word ≡ true
unfolding sort_of
plain_is word e = plain_from (is_plain word) (bytes_eq word (codes "--")) (option_named (front word)) (back word) e

pub end_is : (word : Text) → sort_of word ≡ End → word ≡ codes "--"
unfolding sort_of
end_is word e =
    (bytes_eq-Decides word (codes "--")).0
    (end_from (is_plain word) (bytes_eq word (codes "--")) (option_named (front word)) (back word) e)

pub bare_is : (word : Text) (name : OptionName) → sort_of word ≡ Bare name → word ≡ option_text name
unfolding sort_of
bare_is word name e =
    let both = bare_from name (is_plain word) (bytes_eq word (codes "--")) (option_named (front word)) (back word) e in
    sym (uncut word both.1) ∙ option_is (front word) name both.0

pub valued_is : (word : Text) (name : OptionName) → sort_of word ≡ Valued name
    → (is_empty (value_in word) ≡ false) × (word ≡ option_text name ++ 61 ∷ value_in word)
unfolding sort_of value_in
valued_is word name e =
    let all = valued_from name (is_plain word) (bytes_eq word (codes "--")) (option_named (front word)) (back word) e in
    let value : unwrap_or (back word) [] ≡ all.0 = ap (λ v. unwrap_or v []) all.2 in (
      ap is_empty value ∙ all.3,
      cut_is word all.0 all.2 ∙ (ap (λ f. f ++ 61 ∷ all.0) (option_is (front word) name all.1)
          ∙ ap (λ v. option_text name ++ 61 ∷ v) (sym value)),
    )

-- ---- from the word to the sort

pub sort_plain : (word : Text) → is_plain word ≡ true → sort_of word ≡ Plain
unfolding sort_of
sort_plain word e = cond-true _ _ _ e

pub sort_end : sort_of (codes "--") ≡ End
unfolding sort_of
sort_end = refl

pub sort_bare : (name : OptionName) → sort_of (option_text name) ≡ Bare name
unfolding sort_of
sort_bare Harts = refl
sort_bare Limit = refl
sort_bare Start = refl
sort_bare Script = refl
sort_bare Journal = refl

abbrev joined : OptionName → Text → Text
joined name value = option_text name ++ 61 ∷ value

joined_back : (name : OptionName) (value : Text) → back (joined name value) ≡ Some value
joined_back Harts value = cond-true _ _ _ (lt-ltb 7 (length (joined Harts value)) (omega arith))
joined_back Limit value = cond-true _ _ _ (lt-ltb 7 (length (joined Limit value)) (omega arith))
joined_back Start value = cond-true _ _ _ (lt-ltb 7 (length (joined Start value)) (omega arith))
joined_back Script value = cond-true _ _ _ (lt-ltb 8 (length (joined Script value)) (omega arith))
joined_back Journal value = cond-true _ _ _ (lt-ltb 9 (length (joined Journal value)) (omega arith))

joined_sort : (name : OptionName) (value : Text) → sort_of (joined name value) ≡ named_sort (Some name) (back (joined name value))
unfolding sort_of
joined_sort Harts value = refl
joined_sort Limit value = refl
joined_sort Start value = refl
joined_sort Script value = refl
joined_sort Journal value = refl

pub sort_valued : (name : OptionName) (value : Text) → is_empty value ≡ false → sort_of (joined name value) ≡ Valued name
sort_valued name [] e = absurd cc
sort_valued name (x ∷ xs) e = joined_sort name (x ∷ xs) ∙ ap (named_sort (Some name)) (joined_back name (x ∷ xs))

pub value_valued : (name : OptionName) (value : Text) → value_in (joined name value) ≡ value
unfolding value_in
value_valued name value = ap (λ v. unwrap_or v []) (joined_back name value)
