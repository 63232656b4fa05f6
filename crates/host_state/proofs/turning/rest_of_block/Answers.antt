use Rattle.std.proofs.Common.{refl, sym, append-nil, arith}
use Rattle.flat_model.specs.Step.{steps_of}
use Rattle.host_state.proofs.turning.rest_of_block.Goals as goal

pub returns-then-is_some-clause-rest : goal.returns-then-is_some-clause-rest
unfolding steps_of
returns-then-is_some-clause-rest c = record {
  steps = record { given = _; appended = sym (append-nil _); steps = refl };
  each = λ j below. absurd (omega (arith, below));
  stays = λ below. absurd (omega (arith, below));
  inside = λ j some below. absurd (omega (arith, below));
}
