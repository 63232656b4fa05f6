-- The grammar of scripts, which `docs/formats.md` has: which texts a list of timed orders has. A number may have zeros
-- in front, a set has more than one word, and lines that are passed over stand anywhere, so a list has more than one text.
use Rattle.std.specs.Prelude.{◌≡◌, ℕ, ◌≤◌, codes, not, List, ◌++◌, filter}
use Rattle.std.specs.List.{AllZip}
use Rattle.std.specs.List.Sorted.{IsNonDecreasingBy}
use Rattle.std.specs.Str.Lines.{lines}
use Rattle.flat_model.specs.declared.plugins.SetSpec.{SetSpec}
use Rattle.flat_model.specs.declared.journals.Order.{Order}
use Rattle.flat_model.specs.declared.journals.Order.TheVariants.{Install, Register, Reset, Uninstall}
use Rattle.flat_model.specs.declared.journals.Timed.{Timed}
use Rattle.run_script.specs.Grammar.{Part, SpellsNum, SpellsWord}
use Rattle.run_script.specs.Parts.{set_of, KeepsRules}
use Rattle.run_script.specs.Scripts.{is_passed_over}

-- plug = num, at most 255
pub record SpellsPlug (n : ℕ) (text : List ℕ) : Type 0 where
  pub num : SpellsNum n text
  pub small : n ≤ 255

-- a word, for the set of its parts, which keep the rules
pub record SpellsSet (set : SetSpec) (text : List ℕ) : Type 0 where
  pub parts : List Part
  pub word : SpellsWord parts text
  pub rules : KeepsRules parts
  pub value : set ≡ set_of parts

-- order = "install" SP word / "register" SP plug SP word / "reset" SP plug / "uninstall" SP plug
abbrev pub SpellsOrder : Order → List ℕ → Type 0
SpellsOrder (Install set) text = (w : List ℕ) × SpellsSet set w × (text ≡ codes "install " ++ w)
SpellsOrder (Register n set) text = (p w : List ℕ) × SpellsPlug n p × SpellsSet set w
    × (text ≡ codes "register " ++ (p ++ (codes " " ++ w)))
SpellsOrder (Reset n) text = (p : List ℕ) × SpellsPlug n p × (text ≡ codes "reset " ++ p)
SpellsOrder (Uninstall n) text = (p : List ℕ) × SpellsPlug n p × (text ≡ codes "uninstall " ++ p)

-- line = "at" SP num SP order
pub record SpellsLine (timed : Timed) (line : List ℕ) : Type 0 where
  pub num : List ℕ
  pub order : List ℕ
  pub moment : SpellsNum timed.when num
  pub order_spelt : SpellsOrder timed.order order
  pub joined : line ≡ codes "at " ++ (num ++ (codes " " ++ order))

-- a script: its lines but those that are passed over, with moments that never fall
pub record SpellsScript (list : List Timed) (bytes : List ℕ) : Type 0 where
  pub each : AllZip SpellsLine list (filter (λ line. not (is_passed_over line)) (lines bytes))
  pub rising : IsNonDecreasingBy (λ t. t.when) list
