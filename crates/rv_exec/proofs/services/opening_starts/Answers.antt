use Rattle.std.proofs.Common.{rules, ◌≡◌, ◌-◌, ◌∷◌, replicate, Some}
use Rattle.flat_model.specs.World.{start_at, opening_start}
use Rattle.rv_exec.proofs.Openings.{starts_are}
use Rattle.rv_exec.proofs.services.opening_starts.Goals as goal

pub returns : goal.returns
returns c =
    let items : c.resize.new.self.items
    ≡ Some (start_at c.args.image.now) ∷ replicate (c.args.harts - 1) (opening_start c.args.image.now c.args.mode 1) = search rules in
    record { starts = starts_are c.args.image.now c.args.mode c.args.harts c.resize.new.self.items c.requires.some items }
