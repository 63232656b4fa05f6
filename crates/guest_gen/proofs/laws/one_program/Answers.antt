use Rattle.guest_gen.proofs.OneProgram.{one_file}
use Rattle.guest_gen.proofs.laws.one_program.Goals as goal

pub returns : goal.returns
returns c = one_file
