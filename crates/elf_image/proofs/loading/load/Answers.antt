use Rattle.std.proofs.Common.{rules, ◌≡◌, ltb, map, filter, sym, ◌∙◌, subst}
use Rattle.std.proofs.lemmas.Result.{err_from_is_err_and}
use Rattle.flat_model.specs.Image.{IsImage}
use Rattle.elf_image.specs.Fields.{segments}
use Rattle.elf_image.specs.Loads.{segment_of}
use Rattle.elf_image.proofs.ImageLaws.{image_sound, sound}
use Rattle.elf_image.proofs.LoadLaws.{refused_early, late, all_inside, all_sizes, built}
use Rattle.elf_image.proofs.loading.load.Goals as goal

pub returns-in_err-check_headers : goal.returns-in_err-check_headers
returns-in_err-check_headers c =
    let p = err_from_is_err_and c.from_residual.result c.from_residual.ensures.1 in
    rw (p.1, p.2) (record { cases = refused_early c.args.bytes.now _ c.in_err-check_headers.ensures.rules })

pub returns-in_err-check_segments : goal.returns-in_err-check_segments
returns-in_err-check_segments c =
    let p = err_from_is_err_and c.from_residual-in_err-check_segments.result c.from_residual-in_err-check_segments.ensures.1 in
    rw (p.1, p.2) (record { cases = late c.args.bytes.now c.in_ok-check_headers.ensures.rules ∙ c.in_err-check_segments.ensures })

pub regions-requires-clause-inside : goal.regions-requires-clause-inside
regions-requires-clause-inside c =
    let loads : c.in_ok-loads.loads.items ≡ segments c.args.bytes.now = search rules in
    all_inside c.args.bytes.now c.deref-2.result.now (c.deref-2.ensures.value ∙ loads) c.in_ok-check_segments.ensures

pub regions-requires-clause-sizes : goal.regions-requires-clause-sizes
regions-requires-clause-sizes c =
    let loads : c.in_ok-loads.loads.items ≡ segments c.args.bytes.now = search rules in
    all_sizes c.args.bytes.now c.deref-2.result.now (c.deref-2.ensures.value ∙ loads) c.in_ok-check_segments.ensures

pub invariant_of-result : goal.invariant_of-result
invariant_of-result c =
    let file = c.args.bytes.now in
    let loads : c.in_ok-loads.loads.items ≡ segments file = search rules in
    let regions : c.in_ok-regions.regions.items ≡ map (segment_of file) (filter (λ h. ltb 0 h.memory_size) c.deref-2.result.now) = search rules in
    let same = built file c.deref-2.result.now c.in_ok-regions.regions.items c.entry.result (c.deref-2.ensures.value ∙ loads) regions c.entry.ensures in
    subst IsImage (sym same) (image_sound file (sound file c.in_ok-check_segments.ensures))

pub returns : goal.returns
returns c =
    let file = c.args.bytes.now in
    let loads : c.in_ok-loads.loads.items ≡ segments file = search rules in
    let regions : c.in_ok-regions.regions.items ≡ map (segment_of file) (filter (λ h. ltb 0 h.memory_size) c.deref-2.result.now) = search rules in
    let same = built file c.deref-2.result.now c.in_ok-regions.regions.items c.entry.result (c.deref-2.ensures.value ∙ loads) regions c.entry.ensures in
    record { cases = record { no_rule_fails = late file c.in_ok-check_headers.ensures.rules ∙ c.in_ok-check_segments.ensures; is_its_image = same } }
