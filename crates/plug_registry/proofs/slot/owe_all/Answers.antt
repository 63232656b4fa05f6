-- One more hart: both lists grow by one element at the front part.
use Rattle.std.proofs.Common.{◌<◌, ◌++◌, ◌∷◌, [], ◌∙◌, sym, ap, arith, length, take, map, not, false, add-one}
use Rattle.std.proofs.Math.ListN.{get_or}
use Rattle.std.proofs.Math.Seq.{take-suc, take-suc-set}
use Rattle.std.proofs.lemmas.List.{map-append}
use Rattle.plug_registry.proofs.slot.owe_all.Goals as goal

pub loop-i-preserved : goal.loop-i-preserved
loop-i-preserved c =
    let i = c.loop-i.i in
    let gone = c.args.gone.now in
    let first : c.loop-i.i < length c.loop-i.owing = omega arith in
    let second : c.loop-i.i < length c.args.gone.now = omega arith in
    rw add-one (take-suc-set c.loop-i.owing i (not (get_or gone i false)) first
    ∙ ap (λ xs. xs ++ not (get_or gone i false) ∷ []) c.loop-i.invariant
    ∙ sym (map-append not (take i gone) (get_or gone i false ∷ []))
    ∙ ap (map not) (sym (take-suc gone i false second)))
