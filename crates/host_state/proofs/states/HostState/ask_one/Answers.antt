use Rattle.flat_model.specs.declared.journals.How.TheVariants.{Reset, Uninstall}
use Rattle.host_state.proofs.Asked.{one_asked}
use Rattle.host_state.proofs.states.HostState.ask_one.Goals as goal

pub returns-in-Reset-clause-asked : goal.returns-in-Reset-clause-asked
returns-in-Reset-clause-asked g c =
    one_asked c.args.no c.args.plugin Reset c.args.self.now.past c.withdraw.new.self.past c.withdraw.ensures.recorded

pub returns-in-Uninstall-clause-asked : goal.returns-in-Uninstall-clause-asked
returns-in-Uninstall-clause-asked g c =
    one_asked c.args.no c.args.plugin Uninstall c.args.self.now.past c.withdraw-in-Uninstall.new.self.past
    c.withdraw-in-Uninstall.ensures.recorded
