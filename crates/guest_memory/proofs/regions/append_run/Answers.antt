use Rattle.std.proofs.Common.{◌≡◌, ◌-◌, ◌++◌, take, drop, rules, arith, ap, sym, ◌∙◌}
use Rattle.std.proofs.lemmas.Grind.{common_steps}
use Rattle.flat_model.specs.Image.{Segment}
use Rattle.guest_memory.proofs.Places.{bytes_held}
use Rattle.guest_memory.proofs.regions.append_run.Goals as goal

pub returns-clause-bytes : goal.returns-clause-bytes
returns-clause-bytes c =
    let bytes : c.deref.result.now ≡ c.args.region.now.bytes = search rules in
    let begins : c.region.inside.base ≡ c.args.region.now.base = ap (λ (s : Segment). s.base) c.region.view_is in
    let appended : c.extend_from_slice-appended.new.self.items ≡ c.args.out.now.items ++ take c.args.n
    (drop (c.args.addr - c.region.inside.base) c.deref.result.now) = grind (arith, common_steps) in
    appended ∙ ap (λ l. c.args.out.now.items ++ l) (sym (bytes_held c.args.region.now c.deref.result.now c.region.inside.base c.args.addr
    c.args.n bytes begins c.requires.inside))
