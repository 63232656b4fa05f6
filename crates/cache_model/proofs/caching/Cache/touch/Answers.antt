use Rattle.std.proofs.Common.{◌≡◌, ◌%◌, ◌<◌, length, slice_index_or, true, false, ap, ◌∙◌, arith}
use Rattle.cache_model.specs.Hits.{is_hit}
use Rattle.cache_model.specs.Studies.{Touched}
use Rattle.cache_model.proofs.Sets.{set_hits, kept_after}
use Rattle.cache_model.proofs.caching.Cache.touch.Goals as goal

pub returns-in_err-hit-clause-hits_succeed : goal.returns-in_err-hit-clause-hits_succeed
returns-in_err-hit-clause-hits_succeed c = λ hit.
    let sets = c.self.inside.sets.len in
    let all = c.self.inside.sets.items in
    let kept = c.index_mut.result.now in
    let count : c.len.result ≡ sets = omega arith in
    let within : c.args.number % sets < length all = omega arith in
    let read : kept ≡ slice_index_or all (c.args.number % sets) kept = cc in
    let there = set_hits c.self.inside.ways c.self.inside.line c.self.inside.touched.items sets c.args.number all kept within read c.self.invariant in
    let never : false ≡ true =
    c.in_err-hit.ensures.kept (there ∙ ap (λ (v : Touched). is_hit v.shape v.touches c.args.number) c.self.view_is ∙ hit) in
    absurd (cc)

pub invariant_of-self-2 : goal.invariant_of-self-2
invariant_of-self-2 c =
    let sets = c.self.inside.sets.len in
    let all = c.self.inside.sets.items in
    let kept = c.index_mut.result.now in
    let count : c.len.result ≡ sets = omega arith in
    let within : c.args.number % sets < length all = omega arith in
    let read : kept ≡ slice_index_or all (c.args.number % sets) kept = cc in
    rw (count, c.and-self-inside.ensures, c.in_ok-hit.ensures.first)
    (kept_after c.self.inside.ways c.self.inside.line c.self.inside.touched.items sets c.args.number all kept within read c.self.invariant tt)

pub returns-clause-hit : goal.returns-clause-hit
returns-clause-hit c =
    let sets = c.self.inside.sets.len in
    let all = c.self.inside.sets.items in
    let kept = c.index_mut.result.now in
    let count : c.len.result ≡ sets = omega arith in
    let within : c.args.number % sets < length all = omega arith in
    let read : kept ≡ slice_index_or all (c.args.number % sets) kept = cc in
    c.in_ok-hit.ensures.there
    ∙ set_hits c.self.inside.ways c.self.inside.line c.self.inside.touched.items sets c.args.number all kept within read c.self.invariant
    ∙ ap (λ (v : Touched). is_hit v.shape v.touches c.args.number) c.self.view_is
