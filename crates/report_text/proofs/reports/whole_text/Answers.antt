use Rattle.std.proofs.Common.{◌≡◌, ◌∙◌, ◌++◌, [], true, ap, sym, subst, arith}
use Rattle.std.proofs.lemmas.Bool.Decides.{nat_tests}
use Rattle.report_text.specs.Places.{rest_at, IsPlace}
use Rattle.report_text.proofs.Eaches.{goes_less}
use Rattle.report_text.proofs.Reporting.{report_starts}
use Rattle.report_text.proofs.reports.whole_text.Goals as goal

pub loop-text-init : goal.loop-text-init
loop-text-init g c =
    let s = c.args.state.now in (
      subst (IsPlace s) (sym c.new-lines.ensures.place) tt,
      ap (λ xs. xs ++ rest_at s c.new-lines.result.place c.new-lines.result.name c.new-lines.result.rows.items) c.new-text.ensures.items
          ∙ (ap (λ p. rest_at s p c.new-lines.result.name c.new-lines.result.rows.items) c.new-lines.ensures.place
          ∙ report_starts s c.task.ensures.order c.new-lines.result.name c.new-lines.result.rows.items),
    )

pub loop-text-smaller : goal.loop-text-smaller
loop-text-smaller g c =
    let more : c.in_ok-more.more ≡ true = grind (arith, nat_tests) in
    goes_less _ _ _ _ c.in_ok-more.more c.in_ok-more.ensures.goes more
