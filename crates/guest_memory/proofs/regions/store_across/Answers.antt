use Rattle.std.proofs.Common.{◌+◌, ◌^◌, ◌<◌, arith, map, get_or, ap}
use Rattle.flat_model.specs.Permission.{span_of}
use Rattle.guest_memory.proofs.Stores.{written_none, step_written, step_fits, laid_along}
use Rattle.guest_memory.proofs.regions.store_across.Goals as goal

pub loop-k-init : goal.loop-k-init
loop-k-init c = written_none c.args.regions.now c.args.addr c.args.value

pub overflow_add-addr : goal.overflow_add-addr
overflow_add-addr c = let h : c.args.addr + c.loop-k.k < 2 ^ 64 = step_fits (map span_of c.args.regions.now) c.args.addr
    (2 ^ c.args.shift) c.loop-k.k (let s = c.size-k-end.ensures.size in let t = c.loop-k-test.true in omega arith) c.requires.permitted in
    omega (arith, h)

pub store_within-requires-clause-laid_out : goal.store_within-requires-clause-laid_out
store_within-requires-clause-laid_out c = laid_along c.args.regions.now c.loop-k.regions c.loop-k.invariant.spans c.requires.laid_out

pub loop-k-preserved : goal.loop-k-preserved
loop-k-preserved c =
    let below : c.loop-k.k < 2 ^ c.args.shift = let s = c.size-k-end.ensures.size in let t = c.loop-k-test.true in omega arith in
    step_written c.args.regions.now c.loop-k.regions c.store_within.new.regions c.args.addr (2 ^ c.args.shift) c.loop-k.k c.args.value
    (get_or c.bytes_of_number-raw.result c.loop-k.k 0) c.store_within.result below c.requires.permitted c.loop-k.invariant
    c.store_within.ensures.written c.store_within.ensures.none (ap (λ l. get_or l c.loop-k.k 0) c.bytes_of_number-raw.ensures.bytes)
