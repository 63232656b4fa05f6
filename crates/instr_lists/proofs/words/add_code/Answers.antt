use Rattle.std.proofs.Common.{◌≡◌, arith}
use Rattle.watcher_api.specs.Acting.{walks_of}
use Rattle.instr_lists.proofs.Told.{none_heard}
use Rattle.instr_lists.proofs.words.add_code.Goals as goal

pub returns-else-words-gt0-clause-heard : goal.returns-else-words-gt0-clause-heard
returns-else-words-gt0-clause-heard g c = λ classes has.
    let none : c.args.words ≡ 0 = omega (arith, c.if-words-gt0.false) in
    none_heard classes c.args.list.now c.args.words (walks_of c.args.asks.now.first c.args.attached.now) none
