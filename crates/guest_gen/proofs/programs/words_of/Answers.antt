use Rattle.std.proofs.Common.{arith, sym, subst, take, ◌+◌, []}
use Rattle.guest_gen.specs.Program.{IsCode}
use Rattle.guest_gen.proofs.Coding.{code_none, code_next}
use Rattle.guest_gen.proofs.programs.words_of.Goals as goal

pub loop-ins-init : goal.loop-ins-init
loop-ins-init c = subst (IsCode []) (sym c.new-bytes.ensures.items) code_none

pub loop-ins-preserved : goal.loop-ins-preserved
loop-ins-preserved c =
    subst (IsCode (take (c.loop-ins.ins-index + 1) c.args.code.now)) (sym c.in_ok-put_u32.ensures.bytes)
    (code_next c.args.code.now c.loop-ins.ins-index _ c.loop-ins.bytes.items c.encode-word.result c.loop-ins-test.true c.loop-ins.invariant
    c.encode-word.ensures.decodes (omega arith))
