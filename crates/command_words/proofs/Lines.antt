-- A line is read as its parts exactly where it is written so, and words are read as a command exactly where they ask for it.
use Rattle.std.proofs.Common.{◌≡◌, ◌∷◌, ◌++◌, [], ◌∙◌, Bool, true, false, not, List, Option, Some, None}
use Rattle.std.proofs.Common.{refl, sym, ap, ap₂, subst, cond, inl, inr, codes, map}
use Rattle.std.specs.List.{list_all}
use Rattle.std.proofs.lemmas.Bool.{and_parts, and_from, cond-true}
use Rattle.std.proofs.lemmas.List.{append-nil, append_assoc}
use Rattle.command_words.specs.declared.words.Verb.{Verb}
use Rattle.command_words.specs.declared.words.OptionName.{OptionName}
use Rattle.command_words.specs.declared.words.Sort.{Sort}
use Rattle.command_words.specs.declared.words.Sort.TheVariants.{Plain, End, Bare, Valued, Wrong}
use Rattle.command_words.specs.Words.{Text, is_empty, is_plain, verb_named, sort_of, value_in}
use Rattle.command_words.specs.Parts.{PartText, part, with_part, plain_parts, from_word, parts_of, texts_of, after}
use Rattle.command_words.specs.Commands.{CommandText, all_taken, command_with, command_from, command_of}
use Rattle.command_words.specs.Grammar.{option_text, SpellsOption, SpellsPart, SpellsParts, SpellsLine, Asks}
use Rattle.command_words.proofs.Cuts.{chosen, verb_is, verb_reads, plain_is, end_is, bare_is, valued_is}
use Rattle.command_words.proofs.Cuts.{sort_plain, sort_end, sort_bare, sort_valued, value_valued}

-- ---- what is written is read

after_nil : (r : Option (List PartText)) → after [] r ≡ r
after_nil None = refl
after_nil (Some m) = refl

after_cons : (option : Option OptionName) (text : Text) (ps : List PartText) (r : Option (List PartText))
    → with_part option text (after ps r) ≡ after (part option text ∷ ps) r
after_cons option text ps None = refl
after_cons option text ps (Some m) = refl

reads_option : (name : OptionName) (text : Text) (first rest : List Text) → SpellsOption name text first
    → parts_of None (first ++ rest) ≡ with_part (Some name) text (parts_of None rest)
reads_option name text first rest (inl apart) =
    ap (λ f. parts_of None (f ++ rest)) apart.1
    ∙ (ap (λ s. from_word None s (option_text name) (text ∷ rest) (λ now. parts_of now (text ∷ rest))) (sort_bare name)
    ∙ ap (λ s. from_word (Some name) s text rest (λ now. parts_of now rest)) (sort_plain text apart.0))
reads_option name text first rest (inr joined) =
    let word = option_text name ++ 61 ∷ text in
    ap (λ f. parts_of None (f ++ rest)) joined.1
    ∙ (ap (λ s. from_word None s word rest (λ now. parts_of now rest)) (sort_valued name text joined.0)
    ∙ ap (λ v. with_part (Some name) v (parts_of None rest)) (value_valued name text))

reads_part : (option : Option OptionName) (text : Text) (first rest : List Text) → SpellsPart option text first
    → parts_of None (first ++ rest) ≡ with_part option text (parts_of None rest)
reads_part None text first rest s =
    ap (λ f. parts_of None (f ++ rest)) s.1
    ∙ ap (λ o. from_word None o text rest (λ now. parts_of now rest)) (sort_plain text s.0)
reads_part (Some name) text first rest s = reads_option name text first rest s

reads_parts : (parts : List PartText) (words tail : List Text) → SpellsParts parts words
    → parts_of None (words ++ tail) ≡ after parts (parts_of None tail)
reads_parts [] words tail e = ap (λ w. parts_of None (w ++ tail)) e ∙ sym (after_nil (parts_of None tail))
reads_parts (p ∷ more) words tail s =
    let first = s.0 in let rest = s.1 in
    ap (λ w. parts_of None (w ++ tail)) s.4
    ∙ (ap (parts_of None) (append_assoc first rest tail)
    ∙ (reads_part p.option p.text first (rest ++ tail) s.2
    ∙ (ap (with_part p.option p.text) (reads_parts more rest tail s.3)
    ∙ after_cons p.option p.text more (parts_of None tail))))

not_is : (b : Bool) → not b ≡ true → b ≡ false
not_is true e = absurd cc
not_is false e = refl

reads_plain : (words : List Text) → list_all (λ word. not (is_empty word)) words ≡ true
    → plain_parts words ≡ Some (map (part None) words)
reads_plain [] e = refl
reads_plain (word ∷ more) e =
    let both = and_parts (not (is_empty word)) (list_all (λ w. not (is_empty w)) more) e in
    ap (λ b. cond b None (with_part None word (plain_parts more))) (not_is (is_empty word) both.0)
    ∙ ap (with_part None word) (reads_plain more both.1)

reads_line : (parts : List PartText) (words : List Text) → SpellsLine parts words → parts_of None words ≡ Some parts
reads_line parts words (inl s) =
    ap (parts_of None) (sym (append-nil words)) ∙ (reads_parts parts words [] s ∙ ap (λ p. Some p) (append-nil parts))
reads_line parts words (inr s) =
    ap (parts_of None) s.words_are
    ∙ (reads_parts s.before s.front (codes "--" ∷ s.plain) s.spelt
    ∙ (ap (after s.before)
    (ap (λ o. from_word None o (codes "--") s.plain (λ now. parts_of now s.plain)) sort_end ∙ reads_plain s.plain s.some)
    ∙ ap (λ p. Some p) (sym s.parts_are)))

pub reads : (words : List Text) (c : CommandText) → Asks words c → command_of words ≡ Some c
unfolding command_of
reads words c a =
    ap command_of a.words_are
    ∙ (ap₂ command_from (verb_reads a.verb) (reads_line a.parts a.line a.spelt) ∙ (cond-true _ _ _ a.taken ∙ a.gives))

-- ---- what is read is written

with_some : (option : Option OptionName) (text : Text) (r : Option (List PartText)) (parts : List PartText)
    → with_part option text r ≡ Some parts
    → (more : List PartText) × (r ≡ Some more) × (parts ≡ part option text ∷ more)
with_some option text None parts e = absurd cc
with_some option text (Some more) parts e = (more, refl, cc)

plain_only : (words : List Text) (parts : List PartText) → plain_parts words ≡ Some parts
    → (list_all (λ word. not (is_empty word)) words ≡ true) × (parts ≡ map (part None) words)
plain_only [] parts e = (refl, cc)
plain_only (word ∷ more) parts e =
    elim (chosen (is_empty word) None (with_part None word (plain_parts more)) (Some parts) e) [
      | inl empty ↦ absurd cc
      | inr some ↦
          let m = with_some None word (plain_parts more) parts some.1 in
          let rest = plain_only more m.0 m.1 in
          (and_from _ _ (ap not some.0) rest.0, m.2 ∙ ap (λ ps. part None word ∷ ps) rest.1)
    ]

cons_line : (option : Option OptionName) (text : Text) (first rest : List Text) (more : List PartText)
    → SpellsPart option text first → SpellsLine more rest → SpellsLine (part option text ∷ more) (first ++ rest)
cons_line option text first rest more p (inl s) = inl (first, rest, p, s, refl)
cons_line option text first rest more p (inr s) = inr (record {
  before = part option text ∷ s.before;
  front = first ++ s.front;
  plain = s.plain;
  spelt = (first, s.front, p, s.spelt, refl);
  some = s.some;
  parts_are = ap (λ ps. part option text ∷ ps) s.parts_are;
  words_are = ap (λ w. first ++ w) s.words_are ∙ sym (append_assoc first s.front (codes "--" ∷ s.plain));
})

-- what is read where an option may wait for its value
abbrev IsLine : Option OptionName → List PartText → List Text → Type 0
IsLine None parts words = SpellsLine parts words
IsLine (Some name) parts words = (value : Text) × (rest : List Text) × (more : List PartText)
    × (is_plain value ≡ true) × (words ≡ value ∷ rest) × (parts ≡ part (Some name) value ∷ more) × SpellsLine more rest

abbrev AreLines : List Text → Type 0
AreLines words = (waiting : Option OptionName) (parts : List PartText) → parts_of waiting words ≡ Some parts
    → IsLine waiting parts words

from_none : (sort : Sort) (word : Text) (more : List Text) (parts : List PartText) → sort_of word ≡ sort
    → from_word None sort word more (λ now. parts_of now more) ≡ Some parts → AreLines more → SpellsLine parts (word ∷ more)
from_none Plain word more parts is e lines =
    let m = with_some None word (parts_of None more) parts e in
    subst (λ p. SpellsLine p (word ∷ more)) (sym m.2)
    (cons_line None word (word ∷ []) more m.0 (plain_is word is, refl) (lines None m.0 m.1))
from_none End word more parts is e lines =
    let p = plain_only more parts e in
    inr (record {
      before = [];
      front = [];
      plain = more;
      spelt = refl;
      some = p.0;
      parts_are = p.1;
      words_are = ap (λ t. t ∷ more) (end_is word is);
    })
from_none (Bare name) word more parts is e lines =
    let l = lines (Some name) parts e in
    let words : word ∷ more ≡ option_text name ∷ l.0 ∷ l.1 =
    ap (λ t. t ∷ more) (bare_is word name is) ∙ ap (λ r. option_text name ∷ r) l.4 in
    let line = cons_line (Some name) l.0 (option_text name ∷ l.0 ∷ []) l.1 l.2 (inl (l.3, refl)) l.6 in
    subst (λ p. SpellsLine p (word ∷ more)) (sym l.5)
    (subst (λ w. SpellsLine (part (Some name) l.0 ∷ l.2) w) (sym words) line)
from_none (Valued name) word more parts is e lines =
    let m = with_some (Some name) (value_in word) (parts_of None more) parts e in
    let v = valued_is word name is in
    subst (λ p. SpellsLine p (word ∷ more)) (sym m.2)
    (cons_line (Some name) (value_in word) (word ∷ []) more m.0 (inr (v.0, ap (λ t. t ∷ []) v.1)) (lines None m.0 m.1))
from_none Wrong word more parts is e lines = absurd cc

from_some : (name : OptionName) (sort : Sort) (word : Text) (more : List Text) (parts : List PartText) → sort_of word ≡ sort
    → from_word (Some name) sort word more (λ now. parts_of now more) ≡ Some parts → AreLines more
    → IsLine (Some name) parts (word ∷ more)
from_some name Plain word more parts is e lines =
    let m = with_some (Some name) word (parts_of None more) parts e in
    (word, more, m.0, plain_is word is, refl, m.2, lines None m.0 m.1)
from_some name End word more parts is e lines = absurd cc
from_some name (Bare other) word more parts is e lines = absurd cc
from_some name (Valued other) word more parts is e lines = absurd cc
from_some name Wrong word more parts is e lines = absurd cc

no_parts : (parts : List PartText) → Some [] ≡ Some parts → [] ≡ parts
no_parts parts e = cc

lines_of : (words : List Text) → AreLines words
lines_of [] None parts e = subst (λ p. SpellsLine p []) (no_parts parts e) (inl refl)
lines_of [] (Some name) parts e = absurd cc
lines_of (word ∷ more) None parts e = from_none (sort_of word) word more parts refl e (lines_of more)
lines_of (word ∷ more) (Some name) parts e = from_some name (sort_of word) word more parts refl e (lines_of more)

asked_from : (v : Option Verb) (ps : Option (List PartText)) (first : Text) (line : List Text) (c : CommandText)
    → verb_named first ≡ v → parts_of None line ≡ ps → command_from v ps ≡ Some c → Asks (first ∷ line) c
asked_from None ps first line c is_verb are_parts e = absurd cc
asked_from (Some verb) None first line c is_verb are_parts e = absurd cc
asked_from (Some verb) (Some parts) first line c is_verb are_parts e =
    elim (chosen (all_taken verb parts) (command_with verb parts (texts_of None parts)) None (Some c) e) [
      | inl taken ↦ record {
        verb = verb;
        line = line;
        parts = parts;
        words_are = ap (λ t. t ∷ line) (verb_is first verb is_verb);
        spelt = lines_of line None parts are_parts;
        taken = taken.0;
        gives = taken.1;
      }
      | inr not_taken ↦ absurd cc
    ]

pub asked : (words : List Text) (c : CommandText) → command_of words ≡ Some c → Asks words c
unfolding command_of
asked [] c e = absurd cc
asked (first ∷ line) c e = asked_from (verb_named first) (parts_of None line) first line c refl refl e
