use Rattle.std.proofs.Common.{◌++◌, ◌∙◌, sym, ap, append_assoc, arith}
use Rattle.std.proofs.lemmas.List.{append-nil}
use Rattle.std.proofs.lemmas.Grind.{common_steps}
use Rattle.elf_image.proofs.Table.{taken, passed, filter_none}
use Rattle.elf_image.proofs.headers.segments.Goals as goal
use Rattle.elf_image.proofs.headers.segments.Goals.{then-header-eq-PT_LOAD+in_ok-push, else-header-eq-PT_LOAD}

pub loop-index-preserved : goal.loop-index-preserved
loop-index-preserved c =
    let file = c.args.file.now in
    let count = c.header_count-index-end.result in
    elim c.if-header-eq-PT_LOAD.branch [
      | then-header-eq-PT_LOAD+in_ok-push w ↦
          let e = taken file count c.loop-index.index c.header-header.result c.loop-index-test.true c.header-header.ensures w.if-header-eq-PT_LOAD.true in
          record { end = c.loop-index.invariant.end; all = grind (arith, common_steps, append_assoc, e) }
      | else-header-eq-PT_LOAD w ↦
          let e = passed file count c.loop-index.index c.header-header.result c.loop-index-test.true c.header-header.ensures w.if-header-eq-PT_LOAD.false in
          record { end = c.loop-index.invariant.end; all = grind (arith, common_steps, e) }
    ]

pub returns : goal.returns
returns c =
    let file = c.args.file.now in
    let none = filter_none file c.header_count-index-end.result c.loop-index.index c.loop-index-test.false in
    sym (append-nil c.loop-index.loads.items) ∙ ap (λ rest. c.loop-index.loads.items ++ rest) (sym none) ∙ c.loop-index.invariant.all
