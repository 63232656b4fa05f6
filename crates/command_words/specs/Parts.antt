-- The words behind a command: parts, of which each is a plain word or an option with its value.
use Rattle.std.specs.Prelude.{Bool, true, false, if◌then◌else◌, List, [], ◌∷◌, ◌++◌, map}
use Rattle.std.specs.Prelude.{Option, Some, None, option_map}
use Rattle.std.specs.Borrow.{Bor}
use Rattle.std.specs.Global.{Vec}
use Rattle.command_words.specs.declared.words.OptionName.{OptionName}
use Rattle.command_words.specs.declared.words.OptionName.TheVariants.{Harts, Limit, Start, Script, Journal}
use Rattle.command_words.specs.declared.words.Sort.{Sort}
use Rattle.command_words.specs.declared.words.Sort.TheVariants.{Plain, End, Bare, Valued}
use Rattle.command_words.specs.declared.parts.Part.{Part}
use Rattle.command_words.specs.Words.{Text, is_empty, sort_of, value_in}

-- a plain word, which has no option, or an option's value
pub record PartText : Type 0 where
  pub option : Option OptionName
  pub text : Text

abbrev pub part : Option OptionName → Text → PartText
part option text = record { option = option; text = text }

-- a part before others
abbrev pub with_part : Option OptionName → Text → Option (List PartText) → Option (List PartText)
with_part option text parts = option_map (λ more. part option text ∷ more) parts

-- words behind `--` are plain, none of them empty
abbrev pub plain_parts : List Text → Option (List PartText)
plain_parts [] = Some []
plain_parts (word ∷ more) = if is_empty word then None else with_part None word (plain_parts more)

-- the parts from a word on, where an option may wait for its value: the words behind it are `more`, and `next` gives
-- their parts. An option that waits has the next plain word as its value, and no other word may stand there
abbrev pub from_word : Option OptionName → Sort → Text → List Text → (Option OptionName → Option (List PartText))
    → Option (List PartText)
from_word waiting Plain word more next = with_part waiting word (next None)
from_word None (Valued name) word more next = with_part (Some name) (value_in word) (next None)
from_word None (Bare name) word more next = next (Some name)
from_word None End word more next = plain_parts more
from_word waiting sort word more next = None

-- the parts that words make, where an option may wait for its value
abbrev pub parts_of : Option OptionName → List Text → Option (List PartText)
parts_of None [] = Some []
parts_of (Some name) [] = None
parts_of waiting (word ∷ more) = from_word waiting (sort_of word) word more (λ now. parts_of now more)

abbrev pub is_same_name : OptionName → OptionName → Bool
is_same_name Harts Harts = true
is_same_name Limit Limit = true
is_same_name Start Start = true
is_same_name Script Script = true
is_same_name Journal Journal = true
is_same_name one other = false

abbrev pub is_same : Option OptionName → Option OptionName → Bool
is_same None None = true
is_same (Some one) (Some other) = is_same_name one other
is_same one other = false

-- all that is given for an option, and without an option all plain words, in order
abbrev pub texts_of : Option OptionName → List PartText → List Text
texts_of option [] = []
texts_of option (p ∷ more) = if is_same option p.option then p.text ∷ texts_of option more else texts_of option more

-- ---- what the code's values are

abbrev pub part_text : Part → PartText
part_text p = part p.option p.text.now

abbrev pub text_seen : Option (Bor Text) → Option Text
text_seen text = option_map (λ t. t.now) text

abbrev pub texts_seen : List (Bor Text) → List Text
texts_seen texts = map (λ text. text.now) texts

abbrev pub parts_seen : Option (Vec Part) → Option (List PartText)
parts_seen parts = option_map (λ v. map part_text v.items) parts

-- parts with more behind them, where there are more
abbrev pub after : List PartText → Option (List PartText) → Option (List PartText)
after parts more = option_map (λ m. parts ++ m) more
