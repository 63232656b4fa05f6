use Rattle.std.proofs.Common.{◌≡◌, ◌∙◌, sym, ap, subst, arith, All, length, ◌++◌, ◌*◌}
use Rattle.flat_model.specs.Instruction.{IsInRange}
use Rattle.guest_gen.specs.Program.{IsCode, headers}
use Rattle.guest_gen.specs.Instructions.{instructions}
use Rattle.guest_gen.proofs.InRange.{all_in_range}
use Rattle.guest_gen.proofs.programs.program.Goals as goal

pub words_of-requires : goal.words_of-requires
words_of-requires c =
    record { range = subst (All IsInRange) (sym (c.as_slice.ensures.value ∙ c.in_ok-code.ensures)) (all_in_range c.args.n) }

pub returns : goal.returns
returns c =
    let bytes : 4 * c.len.result ≡ 4 * length (instructions c.args.n) = omega (arith, c.len.ensures, ap length c.in_ok-code.ensures) in
    record {
      program = record {
        code = c.in_ok-words.words.items;
        is_code =
            subst (λ xs. IsCode xs c.in_ok-words.words.items) (c.as_slice.ensures.value ∙ c.in_ok-code.ensures)
            c.in_ok-words.ensures.code;
        spelled =
            c.in_ok-extend_from_slice.ensures.items
            ∙ (ap (λ xs. xs ++ c.as_slice-2.result.now)
            (c.in_ok-put_headers.ensures.headers
            ∙ (ap (λ xs. xs ++ headers (4 * c.len.result)) c.new-file.ensures.items ∙ ap headers bytes))
            ∙ ap (λ xs. headers (4 * length (instructions c.args.n)) ++ xs) c.as_slice-2.ensures.value);
      };
    }
