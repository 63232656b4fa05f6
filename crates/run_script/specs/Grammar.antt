-- The grammar of plug-in words, which `docs/formats.md` has: which texts a list of parts has. A number may have zeros
-- in front, an address has letters of either case, and events and classes come in any order, so a list of parts has
-- more than one text.
use Rattle.std.specs.Prelude.{◌≡◌, ℕ, ◌+◌, ◌*◌, ◌^◌, ◌<◌, ◌≤◌, codes, bit_or, List, [], ◌∷◌, ◌++◌}
use Rattle.std.specs.Prelude.{length, fold, Contains, Some}
use Rattle.std.specs.List.{AllZip, join_with_byte}
use Rattle.flat_model.specs.declared.plugins.Op.{Op}
use Rattle.flat_model.specs.declared.plugins.Op.TheVariants.{Add, Store}
use Rattle.flat_model.specs.declared.limits.TheConstants.{ENTRIES_MOST}
use Rattle.run_script.specs.declared.heads.Head.{Head}
use Rattle.run_script.specs.declared.heads.Head.TheVariants.{Boxed, Inline, When}
use Rattle.run_script.specs.declared.items.Item.{Item}
use Rattle.run_script.specs.declared.items.Item.TheVariants.{Kinds, Pc, Class, Rw, Quota, Asks, Then}
use Rattle.run_script.specs.Bytes.{plus, comma, slash}
use Rattle.run_script.specs.Numbers.{digit}
use Rattle.run_script.specs.Names.{kind_names, cond_names, event_names, class_names, rw_names, ask_names}

-- a part of a word: a head and its items
pub record Part : Type 0 where
  pub head : Head
  pub items : List Item

-- one or more texts with a sign between each two, each the text of one of a list
pub record SpellsList {A : Type 0} (sign : ℕ) (Spells : A → List ℕ → Type 0) (xs : List A) (text : List ℕ) : Type 0 where
  pub texts : List (List ℕ)
  pub some : 0 < length xs
  pub each : AllZip Spells xs texts
  pub joined : text ≡ join_with_byte sign texts

-- digits stand for a number, in which each counts by its place
abbrev pub IsValue : ℕ → List ℕ → ℕ → Type 0
IsValue base [] n = n ≡ 0
IsValue base (b ∷ bs) n = (d rest : ℕ) × (digit base b ≡ Some d) × IsValue base bs rest × (n ≡ d * base ^ length bs + rest)

-- one to `most` digits, for a number below 2^64
pub record SpellsDigits (base most n : ℕ) (text : List ℕ) : Type 0 where
  pub some : 0 < length text
  pub few : length text ≤ most
  pub value : IsValue base text n
  pub fits : n < 2 ^ 64

-- num = 1*20DIGIT
abbrev pub SpellsNum : ℕ → List ℕ → Type 0
SpellsNum n text = SpellsDigits 10 20 n text

-- entry = num, below the most entries of a set
pub record SpellsEntry (n : ℕ) (text : List ℕ) : Type 0 where
  pub num : SpellsNum n text
  pub small : n < ENTRIES_MOST

-- hex = 1*16HEXDIG
abbrev pub SpellsHex : ℕ → List ℕ → Type 0
SpellsHex n text = SpellsDigits 16 16 n text

-- names = name *("/" name), for the bits of the names together
pub record SpellsBits (names : List (ℕ × List ℕ)) (bits : ℕ) (text : List ℕ) : Type 0 where
  pub each : List ℕ
  pub list : SpellsList slash (λ bit name. Contains names (bit, name)) each text
  pub together : bits ≡ fold bit_or 0 each

abbrev pub op_word : Op → List ℕ
op_word Add = codes "add:"
op_word Store = codes "set:"

-- head = kind / "add:" entry ":" num / "set:" entry ":" num / "when:" cond ":" entry ":" num ":" kind
abbrev pub SpellsHead : Head → List ℕ → Type 0
SpellsHead (Boxed kind) text = Contains kind_names (kind, text)
SpellsHead (Inline op entry imm) text = (e n : List ℕ) × SpellsEntry entry e × SpellsNum imm n
    × (text ≡ op_word op ++ (e ++ (codes ":" ++ n)))
SpellsHead (When cond entry imm kind) text = (c e n k : List ℕ)
    × Contains cond_names (cond, c) × SpellsEntry entry e × SpellsNum imm n × Contains kind_names (kind, k)
    × (text ≡ codes "when:" ++ (c ++ (codes ":" ++ (e ++ (codes ":" ++ (n ++ (codes ":" ++ k)))))))

abbrev pub item_name : Item → List ℕ
item_name (Kinds bits) = codes "kinds"
item_name (Pc span) = codes "pc"
item_name (Class bits) = codes "class"
item_name (Rw rw) = codes "rw"
item_name (Quota n) = codes "quota"
item_name (Asks ask) = codes "ask"
item_name (Then n) = codes "then"

-- names / hex "-" hex / names / rw / num / ask / num
abbrev pub SpellsValue : Item → List ℕ → Type 0
SpellsValue (Kinds bits) text = SpellsBits event_names bits text
SpellsValue (Pc span) text = (lo hi : List ℕ) × SpellsHex span.lo lo × SpellsHex span.hi hi × (text ≡ lo ++ (codes "-" ++ hi))
SpellsValue (Class bits) text = SpellsBits class_names bits text
SpellsValue (Rw rw) text = Contains rw_names (rw, text)
SpellsValue (Quota n) text = SpellsNum n text
SpellsValue (Asks ask) text = Contains ask_names (ask, text)
SpellsValue (Then n) text = SpellsNum n text

-- item = name "=" value
abbrev pub SpellsItem : Item → List ℕ → Type 0
SpellsItem item text = (value : List ℕ) × SpellsValue item value × (text ≡ item_name item ++ (codes "=" ++ value))

-- part = head *("," item)
pub record SpellsPart (part : Part) (text : List ℕ) : Type 0 where
  pub head : List ℕ
  pub items : List (List ℕ)
  pub head_spelt : SpellsHead part.head head
  pub items_spelt : AllZip SpellsItem part.items items
  pub joined : text ≡ join_with_byte comma (head ∷ items)

-- word = part *("+" part)
abbrev pub SpellsWord : List Part → List ℕ → Type 0
SpellsWord parts text = SpellsList plus SpellsPart parts text
