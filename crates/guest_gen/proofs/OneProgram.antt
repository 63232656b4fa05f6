-- There is one file that is the program of a number.
use Rattle.std.proofs.Common.{◌≡◌, ◌∙◌, ◌<◌, ◌^◌, ◌*◌, ℕ, List, [], ◌∷◌, ◌++◌, length, map, Some, refl, sym, ap, All}
use Rattle.std.specs.List.{flat_map}
use Rattle.std.proofs.lemmas.List.Elements.{All-head, All-tail}
use Rattle.flat_model.specs.declared.instructions.Ins.{Ins}
use Rattle.flat_model.specs.Instruction.{decoded}
use Rattle.rv_decode.proofs.TableLaw.{decoded-table}
use Rattle.rv_decode.proofs.Uniqueness.{one_word}
use Rattle.guest_gen.specs.Instructions.{instructions}
use Rattle.guest_gen.specs.Program.{u32_bytes, headers, IsCode, IsProgram, OneProgram}

abbrev AreWords : List ℕ → Type 0
AreWords words = All (λ word. word < 2 ^ 32) words

one_code : (code : List Ins) (words others : List ℕ) → map decoded words ≡ map Some code → map decoded others ≡ map Some code
    → AreWords words → AreWords others → words ≡ others
one_code [] [] [] a b fit fits = refl
one_code [] [] (v ∷ others) a b fit fits = cc
one_code [] (w ∷ words) others a b fit fits = cc
one_code (i ∷ code) [] others a b fit fits = cc
one_code (i ∷ code) (w ∷ words) [] a b fit fits = cc
one_code (i ∷ code) (w ∷ words) (v ∷ others) a b fit fits =
    let first : decoded w ≡ Some i = cc in
    let second : decoded v ≡ Some i = cc in
    let rest : map decoded words ≡ map Some code = cc in
    let more : map decoded others ≡ map Some code = cc in
    let same : w ≡ v =
    one_word i w v (All-head (λ x. x < 2 ^ 32) w words fit) (All-head (λ x. x < 2 ^ 32) v others fits)
    ((decoded-table w i).0 first) ((decoded-table v i).0 second) in
    cc (same, one_code code words others rest more (All-tail (λ x. x < 2 ^ 32) w words fit) (All-tail (λ x. x < 2 ^ 32) v others fits))

pub one_file : OneProgram
one_file n file other a b =
    let words : a.is_code.words ≡ b.is_code.words =
    one_code (instructions n) a.is_code.words b.is_code.words a.is_code.decode b.is_code.decode a.is_code.fit b.is_code.fit in
    let code : a.code ≡ b.code = a.is_code.spelled ∙ (ap (flat_map u32_bytes) words ∙ sym b.is_code.spelled) in
    a.spelled ∙ (ap (λ xs. headers (4 * length (instructions n)) ++ xs) code ∙ sym b.spelled)
