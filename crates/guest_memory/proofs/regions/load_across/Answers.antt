use Rattle.std.proofs.Common.{rules, ◌≡◌, ◌≢◌, ◌+◌, ◌^◌, ◌<◌, ◌≤◌, map, false, arith, ◌∙◌}
use Rattle.std.proofs.Common.{get_or-set_other, get_or-set_same, below_more}
use Rattle.std.proofs.Common.{length-set}
use Rattle.flat_model.specs.Permission.{span_of, may_byte, Readable}
use Rattle.flat_model.specs.World.{opening_bytes}
use Rattle.guest_memory.proofs.Places.{may_not, may_all, past_end, gathered}
use Rattle.guest_memory.proofs.regions.load_across.Goals as goal

pub returns-in_err-at : goal.returns-in_err-at
returns-in_err-at c =
    let past : 2 ^ 64 ≤ c.args.addr + c.loop-k.k = omega (arith, c.in_err-at.ensures) in
    let below : c.loop-k.k < 2 ^ c.args.shift = omega (arith, c.loop-k-test.true, c.size-size.ensures.size) in
    rw c.from_residual.ensures (may_not (map span_of c.args.regions.now) Readable c.args.addr (2 ^ c.args.shift) c.loop-k.k below
    (past_end (map span_of c.args.regions.now) Readable (c.args.addr + c.loop-k.k) past))

pub returns-in_err-raw : goal.returns-in_err-raw
returns-in_err-raw c =
    let e : c.in_ok-at.at ≡ c.args.addr + c.loop-k.k = search rules in
    let below : c.loop-k.k < 2 ^ c.args.shift = omega (arith, c.loop-k-test.true, c.size-size.ensures.size) in
    let h : may_byte (map span_of c.args.regions.now) Readable c.in_ok-at.at ≡ false = c.in_err-raw.ensures in
    rw c.from_residual-in_err-raw.ensures (may_not (map span_of c.args.regions.now) Readable c.args.addr
    (2 ^ c.args.shift) c.loop-k.k below (rw e at h))

pub loop-k-preserved : goal.loop-k-preserved
loop-k-preserved c =
    let e : c.in_ok-at.at ≡ c.args.addr + c.loop-k.k = search rules in
    let b = c.in_ok-raw.ensures in
    let w = c.loop-k.invariant.whole in
    let small : c.loop-k.k < 8 = omega (arith, c.loop-k-test.true, c.size-size.ensures.small) in
    record {
      whole = length-set c.loop-k.raw c.loop-k.k c.in_ok-raw.field-0 ∙ w;
      permitted = below_more _ _ c.loop-k.invariant.permitted (rw (← e) b.0);
      read = below_more _ _ (λ j h. let ne : j ≢ c.loop-k.k = omega arith in rw get_or-set_other (c.loop-k.invariant.read j h))
          (get_or-set_same c.loop-k.raw c.loop-k.k c.in_ok-raw.field-0 0 (omega (arith, w, small)) ∙ (rw (← e) b.1));
    }

pub returns : goal.returns
returns c =
    let size = c.size-size.ensures.size in
    let upto : 2 ^ c.args.shift ≤ c.loop-k.k = omega (arith, c.loop-k-test.false, size) in
    record {
      permitted = may_all _ _ _ _ (λ j below. c.loop-k.invariant.permitted j (omega (arith, below, upto)));
      gives = c.number.ensures ∙ (let g = gathered (opening_bytes c.args.regions.now) c.loop-k.raw c.args.addr (2 ^ c.args.shift)
          (omega (arith, size, c.size-size.ensures.small, c.loop-k.invariant.whole))
          (λ j below. c.loop-k.invariant.read j (omega (arith, below, upto))) in rw size g);
    }
