-- What a step leaves for the next one.
use Rattle.std.proofs.Common.{◌≡◌, ℕ, ◌+◌, ◌%◌, ◌^◌, ◌<◌, ◌≤◌, ◌==◌, ◌||◌, ◌&&◌, Bool, true}
use Rattle.std.proofs.Common.{false, if◌then◌else◌, List, ◌++◌, ◌∷◌}
use Rattle.std.proofs.Common.{[], length, Option, Some, None, ℤ}
use Rattle.std.proofs.Common.{refl, sym, ◌∙◌, ap, arith, length-append}
use Rattle.std.proofs.lemmas.Bool.Decides.{nat_tests}
use Rattle.std.proofs.lemmas.List.{length-map}
use Rattle.flat_model.specs.declared.instructions.AtomicOp.{AtomicOp}
use Rattle.flat_model.specs.declared.instructions.AtomicOp.TheVariants.{Lr, Sc, Swap, Add, Xor, And, Or, Min, Max, Minu, Maxu}
use Rattle.flat_model.specs.declared.instructions.LoadOp.{LoadOp}
use Rattle.flat_model.specs.declared.instructions.StoreOp.{StoreOp}
use Rattle.flat_model.specs.declared.instructions.Ins.{Ins}
use Rattle.flat_model.specs.declared.instructions.Ins.TheVariants as ins
use Rattle.flat_model.specs.declared.events.What.{What}
use Rattle.flat_model.specs.declared.events.Event.{Event}
use Rattle.flat_model.specs.declared.events.Ending.{Ending}
use Rattle.flat_model.specs.declared.events.FaultKind.{FaultKind}
use Rattle.flat_model.specs.declared.events.FaultKind.TheVariants as fault
use Rattle.flat_model.specs.declared.effects.Done.{Done}
use Rattle.flat_model.specs.declared.effects.Done.TheVariants.{Goes, Fails, Leaves}
use Rattle.flat_model.specs.declared.effects.Effect.{Effect}
use Rattle.flat_model.specs.declared.effects.Effect.TheVariants.{Does, Loads, Stores, Operates, Calls}
use Rattle.flat_model.specs.Permission.{Span, Readable, Writable, may}
use Rattle.flat_model.specs.Access.{loaded, is_reserved}
use Rattle.flat_model.specs.Arithmetic.{amo_result, load_shift}
use Rattle.flat_model.specs.Instruction.{ends_block}
use Rattle.flat_model.specs.World.{HartState, Shared}
use Rattle.flat_model.specs.Effect.{effect_of, following, address, register}
use Rattle.flat_model.specs.Outcome.{Outcome, outcome, quietly, loads, finds, stores, keeps, store_shift, reserves, concludes, swaps}
use Rattle.flat_model.specs.Outcome.{modifies}
use Rattle.flat_model.specs.Outcome.{operates_aligned, operates, atomic_size, serves, writes, exits, exits_group, starts, starts_by}
use Rattle.flat_model.specs.Outcome.{may_start, answers}
use Rattle.flat_model.specs.Outcome.{negative, a0_of, a1_of, a7_of}
use Rattle.flat_model.specs.Step.{starts_block, begun, ending_at, as_events, exit_told}
use Rattle.rv_exec.specs.Laws.{IsAt}
use Rattle.rv_exec.specs.Going.{finished, done_alone, GoesStraight, TellsFew, calls, KeepsGroup}

-- A step's end keeps the steps, and whether the hart is parked; a hart that goes on is below its limit.

pub finished_steps : (limit : ℕ) (hart : HartState) (ends : Bool) (done : Done) → (finished limit hart ends done).steps ≡ hart.steps
finished_steps limit hart ends (Goes rd value target) = refl
finished_steps limit hart ends (Fails kind) = refl
finished_steps limit hart ends (Leaves ending) = refl

pub finished_parked : (limit : ℕ) (hart : HartState) (ends : Bool) (done : Done) → (finished limit hart ends done).parked ≡ hart.parked
finished_parked limit hart ends (Goes rd value target) = refl
finished_parked limit hart ends (Fails kind) = refl
finished_parked limit hart ends (Leaves ending) = refl

not_at_limit : (limit steps : ℕ) → ending_at limit steps ≡ None → steps ≡ limit → ⊥
not_at_limit limit steps goes is = grind (arith, nat_tests)

pub finished_within : (limit : ℕ) (hart : HartState) (ends : Bool) (done : Done)
    → (finished limit hart ends done).ending ≡ None → hart.steps ≡ limit → ⊥
finished_within limit hart ends (Goes rd value target) goes is = not_at_limit limit hart.steps goes is
finished_within limit hart ends (Fails kind) goes is = cc
finished_within limit hart ends (Leaves ending) goes is = cc

-- Behind a word that ends no block, a hart that goes on is at the next word.

abbrev pub StraightTo : HartState → Done → Type 0
StraightTo hart (Goes rd value target) = target ≡ following hart
StraightTo hart (Fails kind) = Unit {0}
StraightTo hart (Leaves ending) = Unit {0}

-- events that tell a pc tell this one
abbrev pub EachAt : ℕ → List What → Type 0
EachAt pc [] = Unit {0}
EachAt pc (what ∷ whats) = IsAt pc what × EachAt pc whats

-- what an access does: a hart that goes on is at the next word, at most two events are told, with the hart's pc, and
-- the group stays
record Moves (hart : HartState) (shared : Shared) (o : Outcome) : Type 0 where
  straight : StraightTo hart o.done
  few : length o.told ≤ 2
  here : EachAt hart.pc o.told
  group : o.shared.group ≡ shared.group

either : (hart : HartState) (shared : Shared) (b : Bool) (x y : Outcome) → Moves hart shared x → Moves hart shared y
    → Moves hart shared (if b then x else y)
either hart shared true x y first second = first
either hart shared false x y first second = second

faults : (hart : HartState) (shared : Shared) (kind : FaultKind) → Moves hart shared (quietly shared (Fails kind))
faults hart shared kind = record { straight = tt; few = omega arith; here = tt; group = refl }

loads_move : (spans : List Span) (hart : HartState) (shared : Shared) (op : LoadOp) (rd addr : ℕ)
    → Moves hart shared (loads spans hart shared op rd addr)
loads_move spans hart shared op rd addr =
    either hart shared (may spans Readable addr (2 ^ load_shift op))
    (finds hart shared op rd addr (loaded shared.bytes addr (2 ^ load_shift op))) (quietly shared (Fails fault.Load))
    (record { straight = refl; few = omega arith; here = (refl, tt); group = refl }) (faults hart shared fault.Load)

stores_move : (spans : List Span) (h : ℕ) (hart : HartState) (shared : Shared) (op : StoreOp) (addr value : ℕ)
    → Moves hart shared (stores spans h hart shared op addr value)
stores_move spans h hart shared op addr value =
    either hart shared (may spans Writable addr (2 ^ store_shift op)) (keeps h hart shared op addr value)
    (quietly shared (Fails fault.Store))
    (record { straight = refl; few = omega arith; here = (refl, tt); group = refl }) (faults hart shared fault.Store)

concludes_move : (h : ℕ) (hart : HartState) (shared : Shared) (wide : Bool) (rd addr value : ℕ) (b : Bool)
    → Moves hart shared (concludes h hart shared wide rd addr value b)
concludes_move h hart shared wide rd addr value true = record { straight = refl; few = omega arith; here = (refl, tt); group = refl }
concludes_move h hart shared wide rd addr value false = record { straight = refl; few = omega arith; here = tt; group = refl }

modifies_move : (spans : List Span) (h : ℕ) (hart : HartState) (shared : Shared) (op : AtomicOp) (wide : Bool) (rd addr value : ℕ)
    → Moves hart shared (modifies spans h hart shared op wide rd addr value)
modifies_move spans h hart shared op wide rd addr value =
    let raw = loaded shared.bytes addr (atomic_size wide) in
    either hart shared (may spans Readable addr (atomic_size wide) && may spans Writable addr (atomic_size wide))
    (swaps h hart shared wide rd addr raw (amo_result op wide raw value)) (quietly shared (Fails fault.Store))
    (record { straight = refl; few = omega arith; here = (refl, tt); group = refl }) (faults hart shared fault.Store)

aligned_move : (spans : List Span) (h : ℕ) (hart : HartState) (shared : Shared) (op : AtomicOp) (wide : Bool) (rd addr value : ℕ)
    → Moves hart shared (operates_aligned spans h hart shared op wide rd addr value)
aligned_move spans h hart shared Lr wide rd addr value =
    either hart shared (may spans Readable addr (atomic_size wide))
    (reserves h hart shared wide rd addr (loaded shared.bytes addr (atomic_size wide))) (quietly shared (Fails fault.Load))
    (record { straight = refl; few = omega arith; here = (refl, tt); group = refl }) (faults hart shared fault.Load)
aligned_move spans h hart shared Sc wide rd addr value =
    either hart shared (may spans Writable addr (atomic_size wide))
    (concludes h hart shared wide rd addr value (is_reserved addr (atomic_size wide) (shared.reserved h)))
    (quietly shared (Fails fault.Store))
    (concludes_move h hart shared wide rd addr value (is_reserved addr (atomic_size wide) (shared.reserved h)))
    (faults hart shared fault.Store)
aligned_move spans h hart shared Swap wide rd addr value = modifies_move spans h hart shared Swap wide rd addr value
aligned_move spans h hart shared Add wide rd addr value = modifies_move spans h hart shared Add wide rd addr value
aligned_move spans h hart shared Xor wide rd addr value = modifies_move spans h hart shared Xor wide rd addr value
aligned_move spans h hart shared And wide rd addr value = modifies_move spans h hart shared And wide rd addr value
aligned_move spans h hart shared Or wide rd addr value = modifies_move spans h hart shared Or wide rd addr value
aligned_move spans h hart shared Min wide rd addr value = modifies_move spans h hart shared Min wide rd addr value
aligned_move spans h hart shared Max wide rd addr value = modifies_move spans h hart shared Max wide rd addr value
aligned_move spans h hart shared Minu wide rd addr value = modifies_move spans h hart shared Minu wide rd addr value
aligned_move spans h hart shared Maxu wide rd addr value = modifies_move spans h hart shared Maxu wide rd addr value

operates_move : (spans : List Span) (h : ℕ) (hart : HartState) (shared : Shared) (op : AtomicOp) (wide : Bool) (rd addr value : ℕ)
    → Moves hart shared (operates spans h hart shared op wide rd addr value)
operates_move spans h hart shared op wide rd addr value =
    either hart shared (addr % atomic_size wide == 0) (operates_aligned spans h hart shared op wide rd addr value)
    (quietly shared (Fails fault.MisalignedAtomic))
    (aligned_move spans h hart shared op wide rd addr value) (faults hart shared fault.MisalignedAtomic)

pub goes_straight : (spans : List Span) (harts h : ℕ) (hart : HartState) (shared : Shared) (i : Ins)
    → ends_block i ≡ false → StraightTo hart (outcome spans harts h hart shared (effect_of hart i)).done
goes_straight spans harts h hart shared (ins.Lui rd top) on = refl
goes_straight spans harts h hart shared (ins.Auipc rd top) on = refl
goes_straight spans harts h hart shared (ins.Jal rd off) on = cc
goes_straight spans harts h hart shared (ins.Jalr rd rs1 off) on = cc
goes_straight spans harts h hart shared (ins.Branch op rs1 rs2 off) on = cc
goes_straight spans harts h hart shared (ins.Load op rd rs1 off) on = (loads_move spans hart shared op rd (address hart rs1 off)).straight
goes_straight spans harts h hart shared (ins.Store op rs1 rs2 off) on =
    (stores_move spans h hart shared op (address hart rs1 off) (register hart.x rs2)).straight
goes_straight spans harts h hart shared (ins.Imm op rd rs1 imm) on = refl
goes_straight spans harts h hart shared (ins.Reg op rd rs1 rs2) on = refl
goes_straight spans harts h hart shared (ins.Atomic op wide aq rl rd rs1 rs2) on =
    (operates_move spans h hart shared op wide rd (register hart.x rs1) (register hart.x rs2)).straight
goes_straight spans harts h hart shared (ins.Fence fm pred succ rs1 rd) on = refl
goes_straight spans harts h hart shared (ins.FenceI imm rs1 rd) on = refl
goes_straight spans harts h hart shared ins.Ecall on = cc
goes_straight spans harts h hart shared ins.Ebreak on = cc

next_pc : (pc : ℕ) → pc < 2 ^ 64 → pc % 4 ≡ 0 → ((pc + 4) % 2 ^ 64 % 4096 == 0) ≡ false → (pc + 4) % 2 ^ 64 ≡ pc + 4
next_pc pc small aligned off = grind (arith, nat_tests)

straight_since : (hart : HartState) (target : ℕ) (page full : Bool) → hart.pc < 2 ^ 64 → hart.pc % 4 ≡ 0 → target ≡ following hart
    → (target % 4096 == 0) ≡ page → (hart.since + 1 == 512) ≡ full
    → 0 < (if page || full then 0 else hart.since + 1)
    → (target ≡ hart.pc + 4) × ((if page || full then 0 else hart.since + 1) ≡ hart.since + 1)
straight_since hart target true full small aligned is at_page at_full on = absurd (omega arith)
straight_since hart target false true small aligned is at_page at_full on = absurd (omega arith)
straight_since hart target false false small aligned is at_page at_full on =
    (is ∙ next_pc hart.pc small aligned (ap (λ t. t % 4096 == 0) (sym is) ∙ at_page), refl)

pub finished_straight : (limit : ℕ) (hart : HartState) (ends : Bool) (done : Done) → hart.pc < 2 ^ 64 → hart.pc % 4 ≡ 0
    → (ends ≡ false → StraightTo hart done) → GoesStraight hart (finished limit hart ends done)
finished_straight limit hart true (Goes rd value target) small aligned straight =
    record { next = λ goes on. absurd (omega arith); counted = λ goes on. absurd (omega arith) }
finished_straight limit hart false (Goes rd value target) small aligned straight = record {
  next = λ goes on. (straight_since hart target _ _ small aligned (straight refl) refl refl on).0;
  counted = λ goes on. (straight_since hart target _ _ small aligned (straight refl) refl refl on).1;
}
finished_straight limit hart ends (Fails kind) small aligned straight =
    record { next = λ goes on. absurd (cc); counted = λ goes on. absurd (cc) }
finished_straight limit hart ends (Leaves ending) small aligned straight =
    record { next = λ goes on. absurd (cc); counted = λ goes on. absurd (cc) }

-- An instruction tells at most two events between Insn and Exit.

-- what a service tells, and that only one that ends its hart changes the group
pub record Tells (hart : HartState) (shared : Shared) (o : Outcome) : Type 0 where
  pub few : length o.told ≤ 2
  pub here : EachAt hart.pc o.told
  pub group : KeepsGroup o.done shared.group o.shared.group

either_tells : (hart : HartState) (shared : Shared) (b : Bool) (x y : Outcome) → Tells hart shared x → Tells hart shared y
    → Tells hart shared (if b then x else y)
either_tells hart shared true x y first second = first
either_tells hart shared false x y first second = second

starts_tell : (hart : HartState) (shared : Shared) (refusal : Option ℕ) → Tells hart shared (starts_by hart shared refusal)
starts_tell hart shared None = record { few = omega arith; here = (tt, (tt, tt)); group = refl }
starts_tell hart shared (Some n) = record { few = omega arith; here = (tt, (tt, tt)); group = refl }

serves_tell : (spans : List Span) (harts : ℕ) (hart : HartState) (shared : Shared) (number : ℕ)
    → Tells hart shared (serves spans harts hart shared number)
serves_tell spans harts hart shared number =
    let other = answers hart shared (negative 38) in
    let third = if number == 4096 then starts harts hart shared else other in
    let second = if number == 94 then exits_group hart shared else third in
    let first = if number == 93 then exits hart shared else second in
    either_tells hart shared (number == 64) (writes spans hart shared) first
    (record { few = omega arith; here = (tt, (tt, tt)); group = refl })
    (either_tells hart shared (number == 93) (exits hart shared) second
    (record { few = omega arith; here = (tt, tt); group = tt })
    (either_tells hart shared (number == 94) (exits_group hart shared) third
    (record { few = omega arith; here = (tt, tt); group = tt })
    (either_tells hart shared (number == 4096) (starts harts hart shared) other
    (starts_tell hart shared (may_start harts shared.starts (a0_of hart) (a1_of hart)))
    (record { few = omega arith; here = (tt, (tt, tt)); group = refl }))))

keeps_group : (done : Done) (old new : Option ℤ) → new ≡ old → KeepsGroup done old new
keeps_group (Goes rd value target) old new is = is
keeps_group (Fails kind) old new is = is
keeps_group (Leaves ending) old new is = tt

told_by : (hart : HartState) (shared : Shared) (o : Outcome) → Moves hart shared o → Tells hart shared o
told_by hart shared o moves =
    record { few = moves.few; here = moves.here; group = keeps_group o.done shared.group o.shared.group moves.group }

pub tells : (spans : List Span) (harts h : ℕ) (hart : HartState) (shared : Shared) (e : Effect)
    → Tells hart shared (outcome spans harts h hart shared e)
tells spans harts h hart shared (Does done) =
    record { few = omega arith; here = tt; group = keeps_group done shared.group shared.group refl }
tells spans harts h hart shared (Loads op rd addr) = told_by hart shared (loads spans hart shared op rd addr)
    (loads_move spans hart shared op rd addr)
tells spans harts h hart shared (Stores op addr value) =
    told_by hart shared (stores spans h hart shared op addr value) (stores_move spans h hart shared op addr value)
tells spans harts h hart shared (Operates op wide rd addr value) =
    told_by hart shared (operates spans h hart shared op wide rd addr value) (operates_move spans h hart shared op wide rd addr value)
tells spans harts h hart shared Calls = serves_tell spans harts hart shared (a7_of hart)

pub tells_few : (spans : List Span) (harts h : ℕ) (hart : HartState) (shared : Shared) (e : Effect)
    → length (outcome spans harts h hart shared e).told ≤ 2
tells_few spans harts h hart shared e = (tells spans harts h hart shared e).few

exit_few : (ending : Option Ending) → length (exit_told ending) ≤ 1
exit_few None = omega arith
exit_few (Some ending) = omega arith

no_exit : (ending : Option Ending) → ending ≡ None → length (exit_told ending) ≡ 0
no_exit ending is = rw is refl

pub few_events : (old new : HartState) (before started after : List Event) (h step : ℕ) (told : List What)
    → length started ≤ length before + 3
    → (starts_block old ≡ false → length started ≤ length before + 1)
    → length told ≤ 2
    → after ≡ started ++ as_events h step (told ++ exit_told new.ending)
    → TellsFew old new before after
few_events old new before started after h step told few inside short is =
    let long : length after ≡ length started + (length told + length (exit_told new.ending)) =
    ap length is ∙ length-append started (as_events h step (told ++ exit_told new.ending))
    ∙ ap (λ n. length started + n) (length-map (told ++ exit_told new.ending) _ ∙ length-append told (exit_told new.ending)) in
    let exit : length (exit_told new.ending) ≤ 1 = exit_few new.ending in
    record {
      most = omega arith;
      inside = λ no_start. let n = inside no_start in omega arith;
      going_on = λ goes. let z : length (exit_told new.ending) ≡ 0 = no_exit new.ending goes in omega arith;
      going_on_inside = λ goes no_start. let z : length (exit_told new.ending)
          ≡ 0 = no_exit new.ending goes in let n = inside no_start in omega arith;
    }

-- What a step has left for the next one, however it was carried out.
pub record LeftForNext (limit : ℕ) (old new : HartState) : Type 0 where
  pub counted : new.steps ≡ old.steps + 1
  pub awake : new.parked ≡ false
  pub within_limit : new.ending ≡ None → new.steps < limit
  pub straight : GoesStraight old new

-- so it is where a step begins, and its end is this
pub left_for_next : (limit : ℕ) (old mid new : HartState) (ends : Bool) (done : Done)
    → old.parked ≡ false → old.steps < limit → mid ≡ begun old true → mid.pc < 2 ^ 64 → mid.pc % 4 ≡ 0
    → (ends ≡ false → StraightTo mid done) → new ≡ finished limit mid ends done → LeftForNext limit old new
left_for_next limit old mid new ends done awake below begun_is small aligned straight new_is =
    let steps : mid.steps ≡ old.steps + 1 = ap (λ (h : HartState). h.steps) begun_is in
    let kept : new.steps ≡ mid.steps = ap (λ (h : HartState). h.steps) new_is ∙ finished_steps limit mid ends done in
    let from_begun : GoesStraight mid new = rw new_is (finished_straight limit mid ends done small aligned straight) in
    let pc : mid.pc ≡ old.pc = ap (λ (h : HartState). h.pc) begun_is in
    let since : mid.since ≡ old.since = ap (λ (h : HartState). h.since) begun_is in
    record {
      counted = kept ∙ steps;
      awake = ap (λ (h : HartState). h.parked) new_is ∙ finished_parked limit mid ends done ∙ ap (λ (h : HartState). h.parked) begun_is
          ∙ awake;
      within_limit = λ goes.
          let off : mid.steps ≡ limit → ⊥ = finished_within limit mid ends done (sym (ap (λ (h : HartState). h.ending) new_is) ∙ goes) in
          omega (arith, off);
      straight = record {
        next = λ goes on. from_begun.next goes on ∙ ap (λ p. p + 4) pc;
        counted = λ goes on. from_begun.counted goes on ∙ ap (λ s. s + 1) since;
      };
    }

-- an instruction that touches nothing shared
alone_done : (e : Effect) → e ≡ Does (done_alone e) → (spans : List Span) (harts h : ℕ) (hart : HartState) (shared : Shared)
    → (outcome spans harts h hart shared e).done ≡ done_alone e
alone_done e is spans harts h hart shared = ap (λ f. (outcome spans harts h hart shared f).done) is

no_world : HartState → Shared
no_world hart = record { bytes = λ _. 0; reserved = λ _. None; output = []; group = None; starts = λ _. None }

pub lone_straight : (hart : HartState) (i : Ins) → effect_of hart i ≡ Does (done_alone (effect_of hart i))
    → ends_block i ≡ false → StraightTo hart (done_alone (effect_of hart i))
lone_straight hart i is on =
    rw (alone_done (effect_of hart i) is [] 0 0 hart (no_world hart)) at (goes_straight [] 0 0 hart (no_world hart) i on)

-- where the next step starts no block, the word ended none, and so it was no ECALL
done_on : (limit : ℕ) (hart : HartState) (ends : Bool) (done : Done)
    → (finished limit hart ends done).ending ≡ None → 0 < (finished limit hart ends done).since → ends ≡ false
done_on limit hart false done goes on = refl
done_on limit hart true (Goes rd value target) goes on = absurd (omega arith)
done_on limit hart true (Fails kind) goes on = cc
done_on limit hart true (Leaves ending) goes on = cc

pub finished_on : (limit : ℕ) (hart new : HartState) (ends : Bool) (done : Done) → new ≡ finished limit hart ends done
    → new.ending ≡ None → 0 < new.since → ends ≡ false
finished_on limit hart new ends done is goes on =
    done_on limit hart ends done (sym (ap (λ (h : HartState). h.ending) is) ∙ goes)
    (let e : new.since ≡ (finished limit hart ends done).since = ap (λ (h : HartState). h.since) is in rw e at on)

pub no_call : (i : Ins) → ends_block i ≡ false → calls i ≡ false
no_call (ins.Lui rd top) on = refl
no_call (ins.Auipc rd top) on = refl
no_call (ins.Jal rd off) on = refl
no_call (ins.Jalr rd rs1 off) on = refl
no_call (ins.Branch op rs1 rs2 off) on = refl
no_call (ins.Load op rd rs1 off) on = refl
no_call (ins.Store op rs1 rs2 off) on = refl
no_call (ins.Imm op rd rs1 imm) on = refl
no_call (ins.Reg op rd rs1 rs2) on = refl
no_call (ins.Atomic op wide aq rl rd rs1 rs2) on = refl
no_call (ins.Fence fm pred succ rs1 rd) on = refl
no_call (ins.FenceI imm rs1 rd) on = refl
no_call ins.Ecall on = cc
no_call ins.Ebreak on = refl
