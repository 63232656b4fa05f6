-- The printed texts of refusals.
use Rattle.std.specs.Prelude.{ℕ, codes, List}
use Rattle.run_script.specs.declared.refusals.SpecRule.{SpecRule}
use Rattle.run_script.specs.declared.refusals.SpecRule.TheVariants as words
use Rattle.run_script.specs.declared.refusals.ScriptRule.{ScriptRule}
use Rattle.run_script.specs.declared.refusals.ScriptRule.TheVariants.{Form, Number, Backwards, Word}

abbrev pub spec_text : SpecRule → List ℕ
spec_text words.Name = codes "name"
spec_text words.Number = codes "number"
spec_text words.Range = codes "range"
spec_text words.Repeat = codes "repeat"
spec_text words.Place = codes "place"
spec_text words.Pair = codes "pair"
spec_text words.Subs = codes "subscriptions"
spec_text words.Boxes = codes "boxes"

abbrev pub script_text : ScriptRule → List ℕ
script_text Form = codes "form"
script_text Number = codes "number"
script_text Backwards = codes "backwards"
script_text (Word rule) = spec_text rule
