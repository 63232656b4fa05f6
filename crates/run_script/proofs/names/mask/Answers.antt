-- A name that is none of the list's ends the reading, and any other adds its bit.
use Rattle.std.proofs.Common.{◌≡◌, ◌∙◌, [], ℕ, List, Option, None, Some, sym, ap, refl, bit_or}
use Rattle.std.proofs.lemmas.Nat.{or_lt}
use Rattle.std.specs.Prelude.{option_and_then, option_map}
use Rattle.std.specs.Option.{option_map_or}
use Rattle.run_script.specs.declared.names.Names.{Names}
use Rattle.run_script.specs.Bytes.{before, after, pieces}
use Rattle.run_script.specs.Names.{bit_named, mask_from, width}
use Rattle.run_script.proofs.Cuts.{whole, first_off}
use Rattle.run_script.proofs.names.mask.Goals as goal

stops_at : (names : Names) (bits : ℕ) (text : List ℕ) (rest : Option (List ℕ)) → after 47 text ≡ rest
    → bit_named names (before 47 text) ≡ None → mask_from names bits (pieces 47 text) ≡ None
stops_at names bits text None e none =
    ap (mask_from names bits) (whole 47 text e)
    ∙ ap (option_and_then (λ bit. mask_from names (bit_or bits bit) [])) none
stops_at names bits text (Some rest) e none =
    ap (mask_from names bits) (first_off 47 text rest e)
    ∙ ap (option_and_then (λ bit. mask_from names (bit_or bits bit) (pieces 47 rest))) none

pub returns-in-None-clause-value : goal.returns-in-None-clause-value
returns-in-None-clause-value c =
    sym (stops_at c.args.names c.loop-rest.bits c.in-Some.list.now _ refl
    (ap (bit_named c.args.names) (sym c.cut.ensures.front) ∙ sym c.in-None.ensures.value))
    ∙ ap (λ r. mask_from c.args.names c.loop-rest.bits (option_map_or (λ l. pieces 47 l.now) r [])) (sym c.in-Some.is)
    ∙ c.loop-rest.invariant.0

abbrev left : Option (List ℕ) → List (List ℕ)
left rest = option_map_or (pieces 47) rest []

goes_on : (names : Names) (bits bit : ℕ) (text : List ℕ) (rest : Option (List ℕ)) → after 47 text ≡ rest
    → bit_named names (before 47 text) ≡ Some bit → mask_from names (bit_or bits bit) (left rest) ≡ mask_from names bits (pieces 47 text)
goes_on names bits bit text None e some =
    sym (ap (mask_from names bits) (whole 47 text e)
    ∙ ap (option_and_then (λ b. mask_from names (bit_or bits b) [])) some)
goes_on names bits bit text (Some rest) e some =
    sym (ap (mask_from names bits) (first_off 47 text rest e)
    ∙ ap (option_and_then (λ b. mask_from names (bit_or bits b) (pieces 47 rest))) some)

seen : {A : Type 0} (now : A → List ℕ) (rest : Option A) → option_map_or (λ r. pieces 47 (now r)) rest [] ≡ left (option_map now rest)
seen now None = refl
seen now (Some rest) = refl

pub loop-rest-preserved : goal.loop-rest-preserved
loop-rest-preserved c = (
  ap (mask_from c.args.names (bit_or c.loop-rest.bits c.in-Some-bit_named.bit))
      (seen (λ l. l.now) c.cut.result.1 ∙ ap left c.cut.ensures.back)
      ∙ (goes_on c.args.names c.loop-rest.bits c.in-Some-bit_named.bit c.in-Some.list.now _ refl
      (ap (bit_named c.args.names) (sym c.cut.ensures.front) ∙ sym c.in-Some-bit_named.ensures.value)
      ∙ (ap (λ r. mask_from c.args.names c.loop-rest.bits (option_map_or (λ l. pieces 47 l.now) r [])) (sym c.in-Some.is)
      ∙ c.loop-rest.invariant.0)),
  or_lt (width c.args.names) c.loop-rest.bits c.in-Some-bit_named.bit c.loop-rest.invariant.1 c.in-Some-bit_named.ensures.small,
)
