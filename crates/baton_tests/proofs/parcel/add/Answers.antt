use Rattle.std.proofs.Common.{ap, ◌∙◌}
use Rattle.baton_tests.proofs.ParcelLemmas.{after_step}
use Rattle.baton_tests.proofs.parcel.add.Goals as goal

pub give-requires-clause-log : goal.give-requires-clause-log
give-requires-clause-log g c =
    after_step c.party.result c.take-parcel.new.pass.party c.take-parcel.result.value.past.items c.deref_mut.result.now.past.items c.add.new.self.past.items _
    c.party.ensures (ap (λ v. v.seen) c.take-parcel.ensures.pass.0) (ap (λ p. p.past.items) c.deref_mut.ensures.value) c.add.ensures.past

pub returns-clause-frame : goal.returns-clause-frame
returns-clause-frame g c = ap (λ v. v.frame) c.give.ensures.pass.0 ∙ ap (λ v. v.frame) c.take-parcel.ensures.pass.0
