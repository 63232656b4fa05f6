use Rattle.std.proofs.Common.{ap, length, arith}
use Rattle.elf_image.proofs.Table.{taken, passed}
use Rattle.elf_image.proofs.headers.segment_count.Goals as goal
use Rattle.elf_image.proofs.headers.segment_count.Goals.{then-header-eq-PT_LOAD, else-header-eq-PT_LOAD}

pub loop-index-preserved : goal.loop-index-preserved
loop-index-preserved c =
    let file = c.args.file.now in
    let count = c.header_count-index-end.result in
    elim c.if-header-eq-PT_LOAD.branch [
      | then-header-eq-PT_LOAD w ↦
          let e = ap length (taken file count c.loop-index.index c.header.result c.loop-index-test.true c.header.ensures w.if-header-eq-PT_LOAD.true) in
          record { end = c.loop-index.invariant.end; total = omega (arith, e, c.loop-index.invariant.total); small = omega arith }
      | else-header-eq-PT_LOAD w ↦
          let e = ap length (passed file count c.loop-index.index c.header.result c.loop-index-test.true c.header.ensures w.if-header-eq-PT_LOAD.false) in
          record { end = c.loop-index.invariant.end; total = omega (arith, e, c.loop-index.invariant.total); small = omega arith }
    ]
