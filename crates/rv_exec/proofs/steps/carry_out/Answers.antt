use Rattle.std.proofs.Common.{rules, ◌≡◌, w32, to_z, of_z, ◌∙◌, ap}
use Rattle.flat_model.specs.Effect.{address}
use Rattle.rv_exec.proofs.steps.carry_out.Goals as goal

pub returns-in-Load-clause-ended : goal.returns-in-Load-clause-ended
returns-in-Load-clause-ended c =
    let off : to_z w32 (of_z w32 c.in-Load.off) ≡ c.in-Load.off = search rules in
    let addr : c.address-addr.result ≡ address c.args.hart.now c.in-Load.rs1 c.in-Load.off =
    c.address-addr.ensures.address ∙ ap (address c.args.hart.now c.in-Load.rs1) off in
    rw c.in-Load.is (rw addr at (c.load.ensures.ended.each c.args.services.now))

pub returns-in-Store-clause-ended : goal.returns-in-Store-clause-ended
returns-in-Store-clause-ended c =
    let off : to_z w32 (of_z w32 c.in-Store.off) ≡ c.in-Store.off = search rules in
    let addr : c.address-addr-in-Store.result ≡ address c.args.hart.now c.in-Store.rs1 c.in-Store.off =
    c.address-addr-in-Store.ensures.address ∙ ap (address c.args.hart.now c.in-Store.rs1) off in
    rw c.in-Store.is (rw (addr, c.register-value.ensures.value) at (c.store.ensures.ended.each c.args.services.now))

pub returns-in-Atomic-clause-ended : goal.returns-in-Atomic-clause-ended
returns-in-Atomic-clause-ended c =
    rw c.in-Atomic.is
    (rw (c.register.ensures.value, c.register-in-Atomic.ensures.value) at (c.operate.ensures.ended.each c.args.services.now))
