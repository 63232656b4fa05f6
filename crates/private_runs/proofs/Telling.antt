-- How many events a private step tells.
use Rattle.std.proofs.Common.{◌≡◌, ℕ, zero, suc, ◌+◌, ◌<◌, ◌≤◌, ◌==◌, ◌&&◌, Bool, true, false, if◌then◌else◌, List, [], ◌∷◌, ◌++◌}
use Rattle.std.proofs.Common.{Option, Some, None, is_some, length, refl, sym, ◌∙◌, ap, arith, length-append}
use Rattle.std.proofs.lemmas.Bool.Decides.{nat_tests}
use Rattle.std.proofs.lemmas.List.{length-map}
use Rattle.std.specs.Option.{option_map_or}
use Rattle.flat_model.specs.declared.instructions.Ins.{Ins}
use Rattle.flat_model.specs.declared.instructions.Ins.TheVariants as ins
use Rattle.flat_model.specs.declared.events.Event.{Event}
use Rattle.flat_model.specs.declared.events.Ending.{Ending}
use Rattle.flat_model.specs.declared.events.What.{What}
use Rattle.flat_model.specs.declared.events.What.TheVariants.{Init, Block}
use Rattle.flat_model.specs.declared.events.FaultKind.TheVariants.{Illegal}
use Rattle.flat_model.specs.declared.effects.Done.TheVariants.{Fails}
use Rattle.flat_model.specs.declared.effects.Effect.TheVariants.{Does}
use Rattle.flat_model.specs.Image.{Program, word_at}
use Rattle.flat_model.specs.Permission.{Span, spans_of}
use Rattle.flat_model.specs.Instruction.{decoded}
use Rattle.flat_model.specs.Blocks.{length_of}
use Rattle.flat_model.specs.World.{Machine, HartState, Shared}
use Rattle.flat_model.specs.Effect.{effect_of, effect_of_word, touches_shared, word_touches_shared}
use Rattle.flat_model.specs.Outcome.{Outcome, outcome}
use Rattle.flat_model.specs.Step.{Stepped, starts_block, first_told, block_told, word_told, start_told, exit_told, as_events, step_at}
use Rattle.flat_model.specs.Step.{IsPrivateStep}
use Rattle.rv_exec.proofs.Stepping.{running_at}
use Rattle.private_runs.proofs.Extending.{some_shared}

-- a step tells at most Init, Block, Insn and Exit, behind the first and inside a block no Init and no Block, and Exit
-- only where the hart ends
pub record TellsAlone (old new : HartState) (before after : List Event) : Type 0 where
  pub most : length after ≤ length before + 4
  pub going_on : new.ending ≡ None → length after ≤ length before + 3
  pub inside : 0 < old.steps → starts_block old ≡ false → length after ≤ length before + 2
  pub going_on_inside : new.ending ≡ None → 0 < old.steps → starts_block old ≡ false → length after ≤ length before + 1

-- an instruction that touches nothing shared tells nothing of its own
quiet_ins : (spans : List Span) (harts h : ℕ) (hart : HartState) (shared : Shared) (i : Ins) → touches_shared i ≡ false
    → (outcome spans harts h hart shared (effect_of hart i)).told ≡ []
quiet_ins spans harts h hart shared (ins.Lui rd top) lone = refl
quiet_ins spans harts h hart shared (ins.Auipc rd top) lone = refl
quiet_ins spans harts h hart shared (ins.Jal rd off) lone = refl
quiet_ins spans harts h hart shared (ins.Jalr rd rs1 off) lone = refl
quiet_ins spans harts h hart shared (ins.Branch op rs1 rs2 off) lone = refl
quiet_ins spans harts h hart shared (ins.Load op rd rs1 off) lone = cc
quiet_ins spans harts h hart shared (ins.Store op rs1 rs2 off) lone = cc
quiet_ins spans harts h hart shared (ins.Imm op rd rs1 imm) lone = refl
quiet_ins spans harts h hart shared (ins.Reg op rd rs1 rs2) lone = refl
quiet_ins spans harts h hart shared (ins.Atomic op wide aq rl rd rs1 rs2) lone = cc
quiet_ins spans harts h hart shared (ins.Fence fm pred succ rs1 rd) lone = refl
quiet_ins spans harts h hart shared (ins.FenceI imm rs1 rd) lone = refl
quiet_ins spans harts h hart shared ins.Ecall lone = cc
quiet_ins spans harts h hart shared ins.Ebreak lone = refl

quiet_decoded : (spans : List Span) (harts h : ℕ) (hart : HartState) (shared : Shared) (i : Option Ins)
    → option_map_or touches_shared i false ≡ false
    → (outcome spans harts h hart shared (option_map_or (effect_of hart) i (Does (Fails Illegal)))).told ≡ []
quiet_decoded spans harts h hart shared None lone = refl
quiet_decoded spans harts h hart shared (Some i) lone = quiet_ins spans harts h hart shared i lone

quiet_word : (spans : List Span) (harts h : ℕ) (hart : HartState) (shared : Shared) (word : Option ℕ)
    → word_touches_shared word ≡ false → (outcome spans harts h hart shared (effect_of_word hart word)).told ≡ []
quiet_word spans harts h hart shared None lone = refl
quiet_word spans harts h hart shared (Some word) lone = quiet_decoded spans harts h hart shared (decoded word) lone

-- how long each part is
either_few : (b : Bool) (what : What) → length (if b then what ∷ [] else []) ≤ 1
either_few true what = omega arith
either_few false what = omega arith

not_told : (b : Bool) (what : What) → b ≡ false → length (if b then what ∷ [] else []) ≡ 0
not_told b what is = rw is refl

word_few : (pc : ℕ) (word : Option ℕ) → length (word_told pc word) ≤ 1
word_few pc None = omega arith
word_few pc (Some word) = omega arith

exit_few : (ending : Option Ending) → length (exit_told ending) ≤ 1
exit_few None = omega arith
exit_few (Some ending) = omega arith

no_exit : (ending : Option Ending) → ending ≡ None → length (exit_told ending) ≡ 0
no_exit ending is = rw is refl

no_start : (a b : Bool) → a ≡ false → (a && b) ≡ false
no_start a b is = rw is refl

not_first : (steps : ℕ) → 0 < steps → (steps == 0) ≡ false
not_first steps some = grind (arith, nat_tests)

start_long : (hart : HartState) (word : Option ℕ) (n : ℕ)
    → length (start_told hart word n) ≡ length (first_told hart) + (length (block_told hart word n) + length (word_told hart.pc word))
start_long hart word n =
    length-append (first_told hart) (block_told hart word n ++ word_told hart.pc word)
    ∙ ap (λ k. length (first_told hart) + k) (length-append (block_told hart word n) (word_told hart.pc word))

-- the events of a private step are those of its start and its end
told_long : (image : Program) (limit h : ℕ) (old new : HartState) (before after : List Event)
    → old.parked ≡ false → old.ending ≡ None → word_touches_shared (word_at image old.pc) ≡ false
    → IsPrivateStep image limit h old new before after
    → length after
    ≡ length before + (length (start_told old (word_at image old.pc) (length_of image old.pc)) + length (exit_told new.ending))
told_long image limit h old new before after awake running lone step =
    let m : Machine = record { image = image; harts = 0; limit = limit } in
    let shared : Shared = some_shared in
    let word : Option ℕ = word_at image old.pc in
    let start : List What = start_told old word (length_of image old.pc) in
    let o : Outcome = outcome (spans_of image 0) 0 h old shared (effect_of_word old word) in
    let is : step_at m h old shared word ≡ record { hart = new; shared = shared; events = step.given } =
    sym (running_at m h old shared word awake running refl refl) ∙ step.in_every_world 0 shared refl in
    let last : Option Ending = (step_at m h old shared word).hart.ending in
    let given : step.given ≡ as_events h (old.steps + 1) (start ++ exit_told new.ending) =
    sym (ap (λ (s : Stepped). s.events) is)
    ∙ ap (λ told. as_events h (old.steps + 1) (start ++ (told ++ exit_told last))) (quiet_word (spans_of image 0) 0 h old shared word lone)
    ∙ ap (λ e. as_events h (old.steps + 1) (start ++ exit_told e)) (ap (λ (s : Stepped). s.hart.ending) is) in
    ap length step.appended
    ∙ length-append before step.given
    ∙ ap (λ k. length before + k)
    (ap length given ∙ length-map (start ++ exit_told new.ending) _ ∙ length-append start (exit_told new.ending))

pub tells_alone : (image : Program) (limit h : ℕ) (old new : HartState) (before after : List Event)
    → old.parked ≡ false → old.ending ≡ None → word_touches_shared (word_at image old.pc) ≡ false
    → IsPrivateStep image limit h old new before after → TellsAlone old new before after
tells_alone image limit h old new before after awake running lone step =
    let word : Option ℕ = word_at image old.pc in
    let n : ℕ = length_of image old.pc in
    let long : length after ≡ length before + (length (start_told old word n) + length (exit_told new.ending)) =
    told_long image limit h old new before after awake running lone step in
    let start = start_long old word n in
    let first : length (first_told old) ≤ 1 = either_few (old.steps == 0) Init in
    let block : length (block_told old word n) ≤ 1 = either_few (starts_block old && is_some word) (Block old.pc n) in
    let insn : length (word_told old.pc word) ≤ 1 = word_few old.pc word in
    let exit : length (exit_told new.ending) ≤ 1 = exit_few new.ending in
    let no_first : 0 < old.steps → length (first_told old) ≡ 0 = λ some. not_told (old.steps == 0) Init (not_first old.steps some) in
    let no_block : starts_block old ≡ false → length (block_told old word n) ≡ 0 =
    λ inside. not_told (starts_block old && is_some word) (Block old.pc n) (no_start (starts_block old) (is_some word) inside) in
    record {
      most = omega arith;
      going_on = λ goes. let z = no_exit new.ending goes in omega arith;
      inside = λ some within. let f = no_first some in let b = no_block within in omega arith;
      going_on_inside = λ goes some within.
          let z = no_exit new.ending goes in let f = no_first some in let b = no_block within in omega arith;
    }

-- the events of the steps of a run, which began with so many in the log: k of them and then one more
pub run_few : (k first : ℕ) (mid new : HartState) (told after : List Event) → TellsAlone mid new told after
    → (0 < k → 0 < mid.steps) → (0 < k → starts_block mid ≡ false) → (k ≡ 0 → length told ≤ first)
    → length told ≤ first + (k + 2) → length after ≤ first + (k + 1 + 3)
run_few zero first mid new told after tells counted inside untold few =
    let u = untold refl in let m = tells.most in omega arith
run_few (suc k) first mid new told after tells counted inside untold few =
    let some : 0 < suc k = omega arith in
    let m = tells.inside (counted some) (inside some) in omega arith

pub run_few_on : (k first : ℕ) (mid new : HartState) (told after : List Event) → TellsAlone mid new told after
    → (0 < k → 0 < mid.steps) → (0 < k → starts_block mid ≡ false) → (k ≡ 0 → length told ≤ first)
    → length told ≤ first + (k + 2) → new.ending ≡ None → length after ≤ first + (k + 1 + 2)
run_few_on zero first mid new told after tells counted inside untold few goes =
    let u = untold refl in let m = tells.going_on goes in omega arith
run_few_on (suc k) first mid new told after tells counted inside untold few goes =
    let some : 0 < suc k = omega arith in
    let m = tells.going_on_inside goes (counted some) (inside some) in omega arith
