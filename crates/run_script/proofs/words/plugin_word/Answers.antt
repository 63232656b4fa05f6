-- What is said of the word's first refusal says all.
use Rattle.std.proofs.Common.{◌≡◌, ◌∙◌, ℕ, List, Result, Ok, Err, None, ap, subst, IfOk}
use Rattle.flat_model.specs.declared.plugins.SetSpec.{SetSpec}
use Rattle.flat_model.specs.declared.refusals.Refused.{Refused}
use Rattle.flat_model.specs.Registry.{set_refusal}
use Rattle.run_script.specs.declared.refusals.SpecRefusal.{SpecRefusal}
use Rattle.run_script.specs.Words.{spelt, Gives}
use Rattle.run_script.specs.Grammar.{Part, SpellsWord}
use Rattle.run_script.specs.Parts.{set_of, KeepsRules}
use Rattle.run_script.proofs.WordTexts.{word_reads, WordSpelt, word_spelt}
use Rattle.run_script.proofs.OneReading.{word_one}
use Rattle.run_script.proofs.SetRules.{breaks_none}
use Rattle.run_script.proofs.words.plugin_word.Goals as goal

abbrev Answer : Type 0
Answer = Result SetSpec (Refused SpecRefusal)

only : (answer : Answer) (text : List ℕ) → Gives (λ set. set) answer (spelt text)
    → IfOk answer (λ set. (parts : List Part) × SpellsWord parts text)
only (Ok set) text e = let w = word_spelt set text e in (w.parts, w.word)
only (Err why) text e = tt

-- the parts of a text are those that were read
the_parts : (set : SetSpec) (text : List ℕ) (parts : List Part) → WordSpelt set text → SpellsWord parts text
    → KeepsRules parts × (set ≡ set_of parts)
the_parts set text parts w spells =
    let same = word_one w.parts parts text w.word spells in
    (subst (λ p. KeepsRules p) same w.rules, w.value ∙ ap set_of same)

kept : (answer : Answer) (text : List ℕ) → Gives (λ set. set) answer (spelt text)
    → IfOk answer (λ set. (parts : List Part) → SpellsWord parts text → KeepsRules parts × (set ≡ set_of parts))
kept (Ok set) text e = λ parts spells. the_parts set text parts (word_spelt set text e) spells
kept (Err why) text e = tt

sound : (answer : Answer) (text : List ℕ) → Gives (λ set. set) answer (spelt text) → IfOk answer (λ set. set_refusal set ≡ None)
sound (Ok set) text e = let w = word_spelt set text e in ap set_refusal w.value ∙ breaks_none w.parts text w.word w.rules
sound (Err why) text e = tt

read : (answer : Answer) (text : List ℕ) (parts : List Part) → Gives (λ set. set) answer (spelt text) → SpellsWord parts text
    → KeepsRules parts
    → Gives (λ set. set) answer (Ok (set_of parts))
read answer text parts given word rules = subst (λ r. Gives (λ set. set) answer r) (word_reads parts text word rules) given

-- what is told of the bytes is told of the text
told : (answer : Answer) (bytes text : List ℕ) → bytes ≡ text → Gives (λ set. set) answer (spelt bytes)
    → Gives (λ set. set) answer (spelt text)
told answer bytes text same e = subst (λ t. Gives (λ set. set) answer (spelt t)) same e

pub returns-clause-only : goal.returns-clause-only
returns-clause-only c = only c.word.result c.args.text.now (told c.word.result _ _ c.as_bytes.ensures.value c.word.ensures)

pub returns-clause-parts : goal.returns-clause-parts
returns-clause-parts c = kept c.word.result c.args.text.now (told c.word.result _ _ c.as_bytes.ensures.value c.word.ensures)

pub returns-clause-sound : goal.returns-clause-sound
returns-clause-sound c = sound c.word.result c.args.text.now (told c.word.result _ _ c.as_bytes.ensures.value c.word.ensures)

pub returns-clause-read : goal.returns-clause-read
returns-clause-read c parts spells rules =
    read c.word.result c.args.text.now parts (told c.word.result _ _ c.as_bytes.ensures.value c.word.ensures) spells rules
