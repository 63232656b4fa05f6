-- What is not refused meets what the orders need.
use Rattle.std.proofs.Common.{◌∙◌, ap, sym, subst}
use Rattle.flat_model.specs.declared.journals.Order.{Order}
use Rattle.flat_model.specs.Registry.{refusal}
use Rattle.plug_registry.specs.State.{HasRoom}
use Rattle.plug_registry.proofs.Allowed.{may_install, may_register, may_reset, may_uninstall}
use Rattle.plug_registry.proofs.Registry.apply.Goals as goal

pub install-requires-clause-few : goal.install-requires-clause-few
install-requires-clause-few c =
    (may_install c.args.self.now.table c.in-Install.spec (ap (refusal c.args.self.now.table) (sym c.in-Install.is) ∙ c.requires.allowed)).few

pub install-requires-clause-few_call : goal.install-requires-clause-few_call
install-requires-clause-few_call c =
    (may_install c.args.self.now.table c.in-Install.spec (ap (refusal c.args.self.now.table) (sym c.in-Install.is) ∙ c.requires.allowed)).few_call

pub install-requires-clause-boxes : goal.install-requires-clause-boxes
install-requires-clause-boxes c =
    (may_install c.args.self.now.table c.in-Install.spec (ap (refusal c.args.self.now.table) (sym c.in-Install.is) ∙ c.requires.allowed)).boxes

pub register-requires-clause-installed : goal.register-requires-clause-installed
register-requires-clause-installed c =
    (may_register c.args.self.now.table c.in-Register.plugin c.in-Register.spec
    (ap (refusal c.args.self.now.table) (sym c.in-Register.is) ∙ c.requires.allowed)).installed

pub register-requires-clause-room : goal.register-requires-clause-room
register-requires-clause-room c =
    let Room : Order → Type 0 = λ o. HasRoom c.args.self.now o in
    subst Room c.in-Register.is c.requires.room
    (may_register c.args.self.now.table c.in-Register.plugin c.in-Register.spec
    (ap (refusal c.args.self.now.table) (sym c.in-Register.is) ∙ c.requires.allowed)).installed

pub register-requires-clause-idle : goal.register-requires-clause-idle
register-requires-clause-idle c =
    (may_register c.args.self.now.table c.in-Register.plugin c.in-Register.spec
    (ap (refusal c.args.self.now.table) (sym c.in-Register.is) ∙ c.requires.allowed)).idle

pub register-requires-clause-few_call : goal.register-requires-clause-few_call
register-requires-clause-few_call c =
    (may_register c.args.self.now.table c.in-Register.plugin c.in-Register.spec
    (ap (refusal c.args.self.now.table) (sym c.in-Register.is) ∙ c.requires.allowed)).few_call

pub register-requires-clause-boxes : goal.register-requires-clause-boxes
register-requires-clause-boxes c =
    (may_register c.args.self.now.table c.in-Register.plugin c.in-Register.spec
    (ap (refusal c.args.self.now.table) (sym c.in-Register.is) ∙ c.requires.allowed)).boxes

pub reset-requires-clause-installed : goal.reset-requires-clause-installed
reset-requires-clause-installed c =
    (may_reset c.args.self.now.table c.in-Reset.plugin (ap (refusal c.args.self.now.table) (sym c.in-Reset.is) ∙ c.requires.allowed)).installed

pub reset-requires-clause-live : goal.reset-requires-clause-live
reset-requires-clause-live c =
    (may_reset c.args.self.now.table c.in-Reset.plugin (ap (refusal c.args.self.now.table) (sym c.in-Reset.is) ∙ c.requires.allowed)).live

pub uninstall-requires : goal.uninstall-requires
uninstall-requires c =
    may_uninstall c.args.self.now.table c.in-Uninstall.plugin (ap (refusal c.args.self.now.table) (sym c.in-Uninstall.is) ∙ c.requires.allowed)
