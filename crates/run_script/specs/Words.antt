-- What a plug-in word spells: a set, or the first refusal with its column. Parts stand between the signs
-- `+`, and in a part a head and its items between commas.
use Rattle.std.specs.Prelude.{ℕ, ◌+◌, ◌≡◌, ◌&&◌, max, nat_le, if◌then◌else◌, List, [], ◌∷◌, ◌++◌}
use Rattle.std.specs.Prelude.{length, Option, Some, None, Result, Ok, Err}
use Rattle.flat_model.specs.declared.plugins.SetSpec.{SetSpec}
use Rattle.flat_model.specs.declared.refusals.Refused.{Refused}
use Rattle.flat_model.specs.declared.refusals.Refused.TheVariants.{Because, NoMemory}
use Rattle.flat_model.specs.declared.limits.TheConstants.{SUBS_MOST, CALLING_MOST}
use Rattle.flat_model.specs.Acts.{calling}
use Rattle.run_script.specs.declared.refusals.SpecRule.{SpecRule}
use Rattle.run_script.specs.declared.refusals.SpecRule.TheVariants.{Pair, Subs, Boxes}
use Rattle.run_script.specs.declared.refusals.SpecRefusal.{SpecRefusal}
use Rattle.run_script.specs.declared.heads.Head.{Head}
use Rattle.run_script.specs.declared.items.Items.{Items}
use Rattle.run_script.specs.declared.words.Draft.{Draft}
use Rattle.run_script.specs.Bytes.{plus, comma, pieces, before, after}
use Rattle.run_script.specs.Items.{item_of, with_item, no_items, is_paired}
use Rattle.run_script.specs.Heads.{head_of, calls_a_box, sub_of, entries_of}

-- what follows where nothing was refused
abbrev pub next : {A B E : Type 0} → Result A E → (A → Result B E) → Result B E
next (Ok x) f = f x
next (Err why) f = Err why

-- a rule that is broken at a column
abbrev pub placed : {A : Type 0} → ℕ → Result A SpecRule → Result A SpecRefusal
placed column (Ok x) = Ok x
placed column (Err rule) = Err (record { column = column; rule = rule })

-- the items with the one that a text spells
unfoldable pub with_text : Head → Items → List ℕ → Result Items SpecRule
with_text head items text = next (item_of text) (with_item head items)

-- the items with those that texts spell, of which the first begins at the column
abbrev pub items_from : Head → ℕ → Items → List (List ℕ) → Result Items SpecRefusal
items_from head column items [] = Ok items
items_from head column items (text ∷ more) =
    next (placed column (with_text head items text)) (λ now. items_from head (column + length text + 1) now more)

-- the items after a head, where it has any
abbrev pub items_after : Head → ℕ → Option (List ℕ) → Result Items SpecRefusal
items_after head column None = Ok no_items
items_after head column (Some text) = items_from head column no_items (pieces comma text)

-- a set with one more subscription
abbrev pub with_sub : SetSpec → Head → Items → SetSpec
with_sub set head items =
    record { entries = max set.entries (entries_of head); subs = set.subs ++ sub_of head items ∷ [] }

-- a set with the part of a head and what stands after it
abbrev pub with_head : ℕ → SetSpec → ℕ → Option (List ℕ) → Head → Result SetSpec SpecRefusal
with_head column set len rest head =
    next (items_after head (column + len + 1) rest)
    (λ items. if is_paired items then Ok (with_sub set head items) else Err (record { column = column; rule = Pair }))

-- the rules of a part's number, which come before its own
unfoldable pub with_room : SetSpec → List ℕ → Result Head SpecRule
with_room set text =
    if nat_le SUBS_MOST (length set.subs) then Err Subs
    else if calls_a_box text && nat_le CALLING_MOST (calling set.subs) then Err Boxes
    else head_of text

-- a set with the part that a text spells
unfoldable pub with_part : ℕ → SetSpec → List ℕ → Result SetSpec SpecRefusal
with_part column set text =
    next (placed column (with_room set (before comma text))) (with_head column set (length (before comma text)) (after comma text))

-- a set with the parts that texts spell, of which the first begins at the column
abbrev pub parts_from : ℕ → SetSpec → List (List ℕ) → Result SetSpec SpecRefusal
parts_from column set [] = Ok set
parts_from column set (text ∷ more) =
    next (with_part column set text) (λ now. parts_from (column + length text + 1) now more)

-- what a plug-in word spells whose first byte stands at the column
abbrev pub spelt_from : ℕ → List ℕ → Result SetSpec SpecRefusal
spelt_from column word = parts_from column (record { entries = 0; subs = [] }) (pieces plus word)

-- what a plug-in word spells
abbrev pub spelt : List ℕ → Result SetSpec SpecRefusal
spelt word = spelt_from 1 word

-- the set that a draft has so far
abbrev pub drafted : Draft → SetSpec
drafted draft = record { entries = draft.entries; subs = draft.subs.items }

-- an answer is what is spelt, want of memory aside
abbrev pub Gives : {A B E : Type 0} → (A → B) → Result A (Refused E) → Result B E → Type 0
Gives view (Ok x) text = text ≡ Ok (view x)
Gives view (Err (Because why)) text = text ≡ Err why
Gives view (Err NoMemory) text = Unit {0}
