-- A map that was changed at one text gives what it gave at every other.
use Rattle.std.proofs.Common.{◌≡◌, ap, arith}
use Rattle.std.specs.BTreeMap.{get_by_text}
use Rattle.std.specs.Option.{option_map}
use Rattle.std.proofs.lemmas.Map.Text.{text_keys}
use Rattle.outer_io.proofs.memory.put_file.Goals as goal

pub returns-clause-others : goal.returns-clause-others
returns-clause-others c told other differs =
    let same : get_by_text c.insert.new.self other ≡ get_by_text c.args.files.now other = grind (arith, text_keys) in
    ap (option_map (λ v. v.items)) same
