use Rattle.std.proofs.Common.{◌≡◌, sym, ap, ◌∙◌}
use Rattle.cache_model.specs.Studies.{Touched}
use Rattle.cache_model.specs.Touches.{lines_of}
use Rattle.cache_model.proofs.Spans.{lines_are}
use Rattle.cache_model.proofs.caching.Cache.ends_of.Goals as goal

pub returns : goal.returns
returns c =
    let line : c.from-line.result ≡ c.self.inside.line = cc in
    record {
      lines = ap (λ (v : Touched). lines_of v.shape.line c.args.addr c.args.shift) (sym c.self.view_is)
          ∙ rw line (lines_are c.self.inside.line c.args.addr c.args.shift c.self.invariant.sized c.requires.shift);
    }
