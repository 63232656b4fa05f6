-- Turns that begin and go on, and the events of steps in a row.
use Rattle.std.proofs.Common.{◌≡◌, ◌==◌, ◌+◌, ◌<◌, ◌≤◌, [], ◌++◌, ◌∙◌, ℕ, zero, suc, Bool, true, false, not, List}
use Rattle.std.proofs.Common.{Option, Some, None, refl, sym, ap, subst, arith, inl, inr}
use Rattle.std.specs.Prelude.{if◌then◌else◌, is_some, ℤ}
use Rattle.std.specs.Option.{option_map_or}
use Rattle.std.specs.Cmp.Derive.{both_true}
use Rattle.std.proofs.Math.Numerals.{add-one}
use Rattle.std.proofs.lemmas.Bool.{cases_Bool}
use Rattle.std.proofs.lemmas.Bool.Decides.{nat_tests}
use Rattle.flat_model.specs.declared.effects.Done.{Done}
use Rattle.flat_model.specs.declared.effects.Done.TheVariants.{Goes, Fails, Leaves}
use Rattle.flat_model.specs.declared.effects.Effect.TheVariants.{Does}
use Rattle.flat_model.specs.declared.events.Ending.{Ending}
use Rattle.flat_model.specs.declared.events.Event.{Event}
use Rattle.flat_model.specs.declared.events.FaultKind.TheVariants.{Illegal}
use Rattle.flat_model.specs.declared.instructions.Ins.{Ins}
use Rattle.flat_model.specs.declared.instructions.Ins.TheVariants as ins
use Rattle.flat_model.specs.declared.journals.Item.{Item}
use Rattle.flat_model.specs.Effect.{effect_of, effect_of_word, touches_shared, word_touches_shared}
use Rattle.flat_model.specs.Image.{word_at}
use Rattle.flat_model.specs.Instruction.{decoded}
use Rattle.flat_model.specs.Log.{steps}
use Rattle.flat_model.specs.Outcome.{outcome}
use Rattle.flat_model.specs.Permission.{Span, spans_of}
use Rattle.flat_model.specs.Step.{Stepped, is_over, after_done, ends_with, step_at, step_of, steps_of}
use Rattle.flat_model.specs.World.{Machine, HartState, Shared}
use Rattle.flat_model.specs.Worlds.{world, hart_of, next_step, IsRunOf}
use Rattle.flat_model.proofs.Worlds.{runs_alone}
use Rattle.private_runs.specs.Runs.{AreOfRun}
use Rattle.run_rules.specs.Guest.{Run}
use Rattle.run_rules.specs.Laws.{MayTurn}
use Rattle.run_rules.specs.Legal.{runs}
use Rattle.run_rules.proofs.Turns.{turns_are_legal}
use Rattle.run_order.specs.InOrder.{Task}
use Rattle.kept_order.specs.Going.{TurnsBegin, TurnsGoOn, PrivateTurnsGoOn, HartsRun, RowsGoOn}

-- Turns.

pub turns_begin : TurnsBegin
turns_begin run h past legal there owes asks none = record {
  legal = legal;
  is_there = there;
  owes_none = owes;
  asks_nothing = asks;
  passes_nothing_by = none;
  runs = λ k low. absurd (omega (arith, low));
}

one_longer : (run : Run) (h k : ℕ) (past : List Item) → MayTurn run h k past → runs run h (steps h k past) ≡ true
    → MayTurn run h (k + 1) past
one_longer run h k past may goes = record {
  legal = may.legal;
  is_there = may.is_there;
  owes_none = may.owes_none;
  asks_nothing = may.asks_nothing;
  passes_nothing_by = may.passes_nothing_by;
  runs = λ j low. elim (cases_Bool (j == k)) [
    | inl at ↦
        let e : k ≡ j = grind (arith, nat_tests, at) in
        subst (λ (i : ℕ). runs run h (steps h i past) ≡ true) e goes
    | inr off ↦
        let before : j < k = grind (arith, nat_tests, off, low) in
        may.runs j before
  ];
}

pub turns_go_on : TurnsGoOn
turns_go_on run h k past few may goes =
    let longer = one_longer run h k past may goes in
    record {
      may = longer;
      legal = turns_are_legal run h (suc k) past (omega (arith, few)) (subst (λ (n : ℕ). MayTurn run h n past) (add-one k) longer);
    }

pub harts_run : HartsRun
harts_run t h past awake going alive =
    both_true (ap not awake)
    (both_true (ap (λ (e : Option Ending). not (is_some e)) going) (ap (λ (g : Option ℤ). not (is_some g)) alive))

-- A hart that makes steps by itself.

-- an instruction that touches nothing shared leaves it as it is
lone_ins : (spans : List Span) (harts h : ℕ) (hart : HartState) (shared : Shared) (i : Ins) → touches_shared i ≡ false
    → (outcome spans harts h hart shared (effect_of hart i)).shared ≡ shared
lone_ins spans harts h hart shared (ins.Lui rd top) lone = refl
lone_ins spans harts h hart shared (ins.Auipc rd top) lone = refl
lone_ins spans harts h hart shared (ins.Jal rd off) lone = refl
lone_ins spans harts h hart shared (ins.Jalr rd rs1 off) lone = refl
lone_ins spans harts h hart shared (ins.Branch op rs1 rs2 off) lone = refl
lone_ins spans harts h hart shared (ins.Load op rd rs1 off) lone = cc
lone_ins spans harts h hart shared (ins.Store op rs1 rs2 off) lone = cc
lone_ins spans harts h hart shared (ins.Imm op rd rs1 imm) lone = refl
lone_ins spans harts h hart shared (ins.Reg op rd rs1 rs2) lone = refl
lone_ins spans harts h hart shared (ins.Atomic op wide aq rl rd rs1 rs2) lone = cc
lone_ins spans harts h hart shared (ins.Fence fm pred succ rs1 rd) lone = refl
lone_ins spans harts h hart shared (ins.FenceI imm rs1 rd) lone = refl
lone_ins spans harts h hart shared ins.Ecall lone = cc
lone_ins spans harts h hart shared ins.Ebreak lone = refl

lone_decoded : (spans : List Span) (harts h : ℕ) (hart : HartState) (shared : Shared) (i : Option Ins)
    → option_map_or touches_shared i false ≡ false
    → (outcome spans harts h hart shared (option_map_or (effect_of hart) i (Does (Fails Illegal)))).shared ≡ shared
lone_decoded spans harts h hart shared None lone = refl
lone_decoded spans harts h hart shared (Some i) lone = lone_ins spans harts h hart shared i lone

lone_word : (spans : List Span) (harts h : ℕ) (hart : HartState) (shared : Shared) (word : Option ℕ)
    → word_touches_shared word ≡ false → (outcome spans harts h hart shared (effect_of_word hart word)).shared ≡ shared
lone_word spans harts h hart shared None lone = refl
lone_word spans harts h hart shared (Some word) lone = lone_decoded spans harts h hart shared (decoded word) lone

-- and no instruction parks its hart
done_awake : (limit : ℕ) (hart : HartState) (present ends : Bool) (done : Done)
    → (after_done limit hart present ends done).parked ≡ hart.parked
done_awake limit hart present ends (Goes rd value target) = refl
done_awake limit hart present ends (Fails kind) = refl
done_awake limit hart present ends (Leaves ending) = refl

-- a hart that isn't parked, in a group that goes on
record IsAwake (s : Stepped) : Type 0 where
  awake : s.hart.parked ≡ false
  alive : s.shared.group ≡ None

either_awake : (test : Bool) (first second : Stepped) → IsAwake first → IsAwake second → IsAwake (if test then first else second)
either_awake true first second f s = f
either_awake false first second f s = s

step_awake : (m : Machine) (h : ℕ) (hart : HartState) (shared : Shared) → hart.parked ≡ false → shared.group ≡ None
    → word_touches_shared (word_at m.image hart.pc) ≡ false → IsAwake (step_of m h hart shared)
unfolding step_of
step_awake m h hart shared awake none lone =
    let word = word_at m.image hart.pc in
    let o = outcome (spans_of m.image m.harts) m.harts h hart shared (effect_of_word hart word) in
    either_awake (is_over hart shared) (record { hart = hart; shared = shared; events = [] }) (step_at m h hart shared word)
    (record { awake = awake; alive = none })
    (record {
      awake = done_awake m.limit hart (is_some word) (ends_with word) o.done ∙ awake;
      alive = ap (λ (s : Shared). s.group) (lone_word (spans_of m.image m.harts) m.harts h hart shared word lone) ∙ none;
    })

steps_awake : (m : Machine) (h n k : ℕ) (hart : HartState) (shared : Shared) → k ≤ n → hart.parked ≡ false → shared.group ≡ None
    → AreOfRun m.image m.limit h n hart → IsAwake (steps_of m h k hart shared)
unfolding steps_of
steps_awake m h n zero hart shared few awake none row = record { awake = awake; alive = none }
steps_awake m h n (suc k) hart shared few awake none row =
    let before = steps_of m h k hart shared in
    let ih : IsAwake before = steps_awake m h n k hart shared (omega (arith, few)) awake none row in
    let next = step_awake m h before.hart before.shared ih.awake ih.alive (row m.harts shared none k (omega (arith, few))).lone in
    record { awake = next.awake; alive = next.alive }

pub private_turns_go_on : PrivateTurnsGoOn
private_turns_go_on t h n past few may awake none row =
    let m = t.machine in
    let hart = hart_of m t.mode past h in
    let shared = (world m t.mode past).shared in
    record {
      legal = may.legal;
      is_there = may.is_there;
      owes_none = may.owes_none;
      asks_nothing = may.asks_nothing;
      passes_nothing_by = may.passes_nothing_by;
      runs = λ k low.
          let alone : IsRunOf m t.mode h k past (steps_of m h k hart shared) = runs_alone m t.mode h k past in
          let still : IsAwake (steps_of m h k hart shared) = steps_awake m h n k hart shared (omega (arith, low)) awake none row in
          harts_run t h (steps h k past) (ap (λ (x : HartState). x.parked) alone.hart ∙ still.awake)
          (ap (λ (x : HartState). x.ending) alone.hart ∙ (row m.harts shared none k low).running)
          (ap (λ (s : Shared). s.group) alone.shared ∙ still.alive);
    }

-- Rows of steps.

next_told : (t : Task) (h k : ℕ) (past : List Item)
    → (steps_of t.machine h (suc k) (hart_of t.machine t.mode past h) (world t.machine t.mode past).shared).events
    ≡ (steps_of t.machine h k (hart_of t.machine t.mode past h) (world t.machine t.mode past).shared).events
    ++ (next_step t.machine t.mode (steps h k past) h).events
unfolding steps_of
next_told t h k past =
    let m = t.machine in
    let log = steps h k past in
    let before = steps_of m h k (hart_of m t.mode past h) (world m t.mode past).shared in
    let alone : IsRunOf m t.mode h k past before = runs_alone m t.mode h k past in
    let next : (next_step m t.mode log h).events ≡ (step_of m h before.hart before.shared).events =
    ap (λ (x : HartState). (step_of m h x (world m t.mode log).shared).events) alone.hart
    ∙ ap (λ (s : Shared). (step_of m h before.hart s).events) alone.shared in
    ap (λ (es : List Event). before.events ++ es) (sym next)

pub rows_go_on : RowsGoOn
rows_go_on t h k past =
    let hart = hart_of t.machine t.mode past h in
    let shared = (world t.machine t.mode past).shared in
    record {
      events = ap (λ (n : ℕ). (steps_of t.machine h n hart shared).events) (add-one k) ∙ next_told t h k past;
      items = ap (λ (n : ℕ). steps h n past) (add-one k);
    }
