use Rattle.std.proofs.Common.{◌≡◌, List, [], ◌∷◌, ◌++◌, refl, sym, ap, ◌∙◌, subst}
use Rattle.std.specs.Prelude.{OnErr}
use Rattle.std.proofs.lemmas.Result.{on_ok_weaker}
use Rattle.flat_model.specs.declared.events.Event.{Event}
use Rattle.flat_model.specs.declared.events.What.{What}
use Rattle.cache_model.specs.Studies.{Studied, with_lines, TouchesFirst, IsOf}
use Rattle.cache_model.specs.Touches.{touched_by, lines_of}
use Rattle.cache_model.proofs.Gains.{is_of_more, quiet, quietly}
use Rattle.cache_model.proofs.studies.Caches.event.Goals as goal

pub returns-in-Mem-clause-events : goal.returns-in-Mem-clause-events
returns-in-Mem-clause-events c =
    let old : Studied = c.args.self.now in
    let e : Event = c.args.e.now in
    let line = old.shape.line in
    let lines = lines_of line c.in-Mem.addr c.in-Mem.shift in
    let more = λ (is : c.access.new.self ≡ with_lines old e.hart lines lines) (before : List Event) (of : IsOf before old).
    let all : c.access.new.self ≡ with_lines old e.hart (touched_by line e.what) (touched_by line e.what) =
    is ∙ ap (λ (w : What). with_lines old e.hart (touched_by line w) (touched_by line w)) (sym c.in-Mem.is) in
    subst (IsOf (before ++ e ∷ [])) (sym all) (is_of_more before old e of) in
    on_ok_weaker c.access.result more c.access.ensures.touched

pub returns-in-Mem-clause-refused : goal.returns-in-Mem-clause-refused
returns-in-Mem-clause-refused c =
    let old : Studied = c.args.self.now in
    let e : Event = c.args.e.now in
    subst (λ (w : What). OnErr c.access.result (TouchesFirst old c.access.new.self e.hart (touched_by old.shape.line w)))
    (sym c.in-Mem.is) c.access.ensures.refused

pub returns-in_default : goal.returns-in_default
returns-in_default c =
    let old : Studied = c.args.self.now in
    let e : Event = c.args.e.now in
    let same = quietly old e.hart old.shape.line e.what (quiet old.shape.line e.what c.in_default.not-Mem) in
    record {
      touched = same;
      events = λ before of. subst (IsOf (before ++ e ∷ [])) (sym same) (is_of_more before old e of);
      refused = tt;
      shape = refl;
      harts = refl;
    }
