-- Where the next block starts.
use Rattle.std.proofs.Common.{◌≡◌, ℕ, zero, suc, ◌+◌, ◌*◌, ◌%◌, ◌^◌, ◌<◌, ◌≤◌, ◌==◌, ◌||◌}
use Rattle.std.proofs.Common.{◌⊎◌, inl, inr, Bool, true, false}
use Rattle.std.proofs.Common.{Option, Some, None, ℤ}
use Rattle.std.proofs.Common.{IsSome, is_some, refl, sym, ◌∙◌, ap, subst, arith}
use Rattle.std.specs.Option.{option_map_or}
use Rattle.std.proofs.lemmas.Bool.Decides.{nat_tests}
use Rattle.flat_model.specs.declared.instructions.Ins.{Ins}
use Rattle.flat_model.specs.declared.events.Ending.{Ending}
use Rattle.flat_model.specs.declared.events.FaultKind.TheVariants.{Illegal}
use Rattle.flat_model.specs.declared.effects.Done.{Done}
use Rattle.flat_model.specs.declared.effects.Done.TheVariants.{Goes, Fails, Leaves}
use Rattle.flat_model.specs.declared.effects.Effect.TheVariants.{Does}
use Rattle.flat_model.specs.Image.{Program, word_at}
use Rattle.flat_model.specs.Permission.{spans_of}
use Rattle.flat_model.specs.Instruction.{decoded, ends_block}
use Rattle.flat_model.specs.Blocks.{word_ends, StopsAfter, IsLength}
use Rattle.flat_model.specs.World.{Machine, HartState, Shared}
use Rattle.flat_model.specs.Effect.{effect_of, effect_of_word, following}
use Rattle.flat_model.specs.Outcome.{outcome}
use Rattle.flat_model.specs.Step.{Stepped, after_done, since_after, step_at, is_over, step_of, steps_of}
use Rattle.rv_exec.specs.Going.{KeepsGroup}
use Rattle.rv_exec.specs.Laws.{IsBehindStart, BlocksFollow}
use Rattle.rv_exec.proofs.Stepping.{running_at}
use Rattle.rv_exec.proofs.Afterwards.{StraightTo, goes_straight, tells}

-- a hart that goes on behind a step was running before it
over_ended : (a g : Bool) → ((a || true) || g) ≡ true
over_ended true g = refl
over_ended false g = refl

was_running : (m : Machine) (h : ℕ) (hart : HartState) (shared : Shared) → (step_of m h hart shared).hart.ending ≡ None → hart.ending ≡ None
unfolding step_of
was_running m h hart shared goes =
    elim hart.ending as (λ (e : Option Ending). hart.ending ≡ e → hart.ending ≡ None) [
      | None ↦ λ is. is
      | Some e ↦ λ is.
          let over : is_over hart shared ≡ true =
          ap (λ x. (hart.parked || is_some x) || is_some shared.group) is ∙ over_ended hart.parked (is_some shared.group) in
          rw over at goes
    ] refl

-- what a step that goes on leaves, by whether its word ends a block
record GoesOnFrom (hart : HartState) (ends : Bool) (new : HartState) : Type 0 where
  parked : new.parked ≡ hart.parked
  at_start : ends ≡ true → new.since ≡ 0
  next : ends ≡ false → new.pc ≡ following hart
  since : ends ≡ false → new.since ≡ since_after hart.since false (following hart)

going : (limit : ℕ) (hart : HartState) (ends : Bool) (done : Done) → (after_done limit hart true ends done).ending ≡ None
    → (ends ≡ false → StraightTo hart done) → GoesOnFrom hart ends (after_done limit hart true ends done)
going limit hart true (Goes rd value target) goes straight =
    record { parked = refl; at_start = λ _. refl; next = λ no_end. cc; since = λ no_end. cc }
going limit hart false (Goes rd value target) goes straight = record {
  parked = refl;
  at_start = λ ends. cc;
  next = λ _. straight refl;
  since = λ _. ap (since_after hart.since false) (straight refl);
}
going limit hart ends (Fails kind) goes straight =
    record { parked = cc; at_start = λ _. cc; next = λ _. cc; since = λ _. cc }
going limit hart ends (Leaves ending) goes straight =
    record { parked = cc; at_start = λ _. cc; next = λ _. cc; since = λ _. cc }

group_stays : (limit : ℕ) (hart : HartState) (ends : Bool) (done : Done) (old new : Option ℤ)
    → (after_done limit hart true ends done).ending ≡ None → KeepsGroup done old new → new ≡ old
group_stays limit hart ends (Goes rd value target) old new goes keeps = keeps
group_stays limit hart ends (Fails kind) old new goes keeps = keeps
group_stays limit hart ends (Leaves ending) old new goes keeps = cc

-- a word that ends no block leads to the next word
decoded_straight : (m : Machine) (h : ℕ) (hart : HartState) (shared : Shared) (ins : Option Ins) → option_map_or ends_block ins true ≡ false
    → StraightTo hart (outcome (spans_of m.image m.harts) m.harts h hart shared
    (option_map_or (effect_of hart) ins (Does (Fails Illegal)))).done
decoded_straight m h hart shared None on = cc
decoded_straight m h hart shared (Some ins) on = goes_straight (spans_of m.image m.harts) m.harts h hart shared ins on

-- one step at a present word, which goes on
record OneStep (m : Machine) (hart : HartState) (word : ℕ) (s : Stepped) : Type 0 where
  goes : GoesOnFrom hart (word_ends word) s.hart
  group : s.shared.group ≡ None

one_step_at : (m : Machine) (h : ℕ) (hart : HartState) (shared : Shared) (word : ℕ) → shared.group ≡ None
    → (step_at m h hart shared (Some word)).hart.ending ≡ None → OneStep m hart word (step_at m h hart shared (Some word))
one_step_at m h hart shared word quiet goes =
    let o = outcome (spans_of m.image m.harts) m.harts h hart shared (effect_of_word hart (Some word)) in
    record {
      goes = going m.limit hart (word_ends word) o.done goes (decoded_straight m h hart shared (decoded word));
      group = group_stays m.limit hart (word_ends word) o.done shared.group o.shared.group goes
          (tells (spans_of m.image m.harts) m.harts h hart shared (effect_of_word hart (Some word))).group ∙ quiet;
    }

one_step : (m : Machine) (h : ℕ) (hart : HartState) (shared : Shared) (word : ℕ)
    → hart.parked ≡ false → hart.ending ≡ None → shared.group ≡ None → word_at m.image hart.pc ≡ Some word
    → (step_of m h hart shared).hart.ending ≡ None → OneStep m hart word (step_of m h hart shared)
one_step m h hart shared word awake running quiet word_is goes =
    let is = running_at m h hart shared (Some word) awake running quiet (sym word_is) in
    rw is (one_step_at m h hart shared word quiet (rw is at goes))

-- Numbers of a block: n words from start on, in one page.

no_page : (start n k : ℕ) → start % 4096 + 4 * n ≤ 4096 → suc k < n → start < 2 ^ 64
    → ((start + 4 * k + 4) % 2 ^ 64 % 4096 == 0) ≡ false
no_page start n k page more small = grind (arith, nat_tests)

no_wrap : (start n k : ℕ) → start % 4096 + 4 * n ≤ 4096 → suc k < n → start < 2 ^ 64
    → (start + 4 * k + 4) % 2 ^ 64 ≡ start + 4 * suc k
no_wrap start n k page more small = omega arith

page_end : (start k : ℕ) → start % 4096 + 4 * suc k ≡ 4096 → start < 2 ^ 64 → ((start + 4 * k + 4) % 2 ^ 64 % 4096 == 0) ≡ true
page_end start k page small = grind (arith, nat_tests)

last_wrap : (start k : ℕ) → start % 4096 + 4 * suc k ≤ 4096 → start < 2 ^ 64 → ((start + 4 * k + 4) % 2 ^ 64 % 4096 == 0) ≡ false
    → (start + 4 * k + 4) % 2 ^ 64 ≡ start + 4 * suc k
last_wrap start k page small off = grind (arith, nat_tests)

-- a hart within the block: k steps behind its start, going on
record IsGoing (image : Program) (start n k : ℕ) (hart : HartState) (shared : Shared) : Type 0 where
  awake : hart.parked ≡ false
  quiet : shared.group ≡ None
  place : IsBehindStart image start n k hart

next_inside : (image : Program) (start n k word : ℕ) (old new : HartState) → IsLength image start n → start < 2 ^ 64
    → old.pc ≡ start + 4 * k → old.since ≡ k → word_at image (start + 4 * k) ≡ Some word
    → GoesOnFrom old (word_ends word) new → suc k < n → (new.pc ≡ start + 4 * suc k) × (new.since ≡ suc k)
next_inside image start n k word old new is small pc since word_is goes more =
    let on : word_ends word ≡ false = elim (word_ends word) as (λ b. word_ends word ≡ b → word_ends word ≡ false) [
      | true ↦ λ e. absurd (is.goes_on k (let m : k + 1 < n = omega arith in m) (ap (λ w. option_map_or word_ends w false) word_is ∙ e))
      | false ↦ λ e. e
    ] refl in
    let there : following old ≡ (start + 4 * k + 4) % 2 ^ 64 = ap (λ p. (p + 4) % 2 ^ 64) pc in
    let page : ((start + 4 * k + 4) % 2 ^ 64 % 4096 == 0) ≡ false = no_page start n k is.in_page more small in
    let most = is.most in
    let full : (k + 1 == 512) ≡ false = grind (arith, nat_tests) in (
      goes.next on ∙ there ∙ no_wrap start n k is.in_page more small,
      goes.since on ∙ ap (λ t. since_after old.since false t) there ∙ ap (λ s. since_after s false ((start + 4 * k + 4) % 2 ^ 64)) since
          ∙ (let e : k + 1 ≡ suc k = omega arith in rw (page, full) e),
    )

-- why the block has no more words, where its last word ends none and its page goes on
stopped : (image : Program) (start k word : ℕ) (new : HartState) → StopsAfter image start (suc k) → start < 2 ^ 64
    → word_at image (start + 4 * k) ≡ Some word → word_ends word ≡ false
    → ((start + 4 * k + 4) % 2 ^ 64 % 4096 == 0) ≡ false
    → new.since ≡ since_after k false ((start + 4 * k + 4) % 2 ^ 64) → new.pc ≡ start + 4 * suc k
    → (new.since ≡ 0) ⊎ (word_at image new.pc ≡ None)
stopped image start k word new (inl full) small word_is on off counted pc_is =
    let at_full : (k + 1 == 512) ≡ true = grind (arith, nat_tests) in
    inl (counted ∙ rw (off, at_full) refl)
stopped image start k word new (inr (inl page)) small word_is on off counted pc_is =
    let t : ((start + 4 * k + 4) % 2 ^ 64 % 4096 == 0) ≡ true = page_end start k page small in
    absurd (let e : true ≡ false = sym t ∙ off in cc)
stopped image start k word new (inr (inr (inl absent))) small word_is on off counted pc_is = inr (ap (word_at image) pc_is ∙ absent)
stopped image start k word new (inr (inr (inr (last, is_last, ends)))) small word_is on off counted pc_is =
    let e : last ≡ k = omega arith in
    let here : word_ends word ≡ true =
    sym (ap (λ w. option_map_or word_ends w false) word_is) ∙ (rw e at ends) in
    absurd (let e : true ≡ false = sym here ∙ on in cc)

next_behind : (image : Program) (start k word : ℕ) (old new : HartState) → IsLength image start (suc k) → start < 2 ^ 64
    → old.pc ≡ start + 4 * k → old.since ≡ k → word_at image (start + 4 * k) ≡ Some word
    → GoesOnFrom old (word_ends word) new → (new.since ≡ 0) ⊎ (word_at image new.pc ≡ None)
next_behind image start k word old new is small pc since word_is goes =
    elim (word_ends word) as (λ b. word_ends word ≡ b → (new.since ≡ 0) ⊎ (word_at image new.pc ≡ None)) [
      | true ↦ λ ends. inl (goes.at_start ends)
      | false ↦ λ on.
          let there : following old ≡ (start + 4 * k + 4) % 2 ^ 64 = ap (λ p. (p + 4) % 2 ^ 64) pc in
          let target = (start + 4 * k + 4) % 2 ^ 64 in
          let counted : new.since ≡ since_after k false ((start + 4 * k + 4) % 2 ^ 64) =
          goes.since on ∙ ap (λ t. since_after old.since false t) there
          ∙ ap (λ s. since_after s false ((start + 4 * k + 4) % 2 ^ 64)) since in
          elim ((start + 4 * k + 4) % 2 ^ 64 % 4096 == 0) as (λ b. ((start + 4 * k + 4) % 2 ^ 64 % 4096 == 0) ≡ b
          → (new.since ≡ 0) ⊎ (word_at image new.pc ≡ None)) [
            | true ↦ λ page. inl (counted ∙ rw page refl)
            | false ↦ λ off.
                let pc_is : new.pc ≡ start + 4 * suc k = goes.next on ∙ there ∙ last_wrap start k is.in_page small off in
                stopped image start k word new is.stops small word_is on off counted pc_is
          ] refl
    ] refl

present : (image : Program) (pc : ℕ) → IsSome (word_at image pc) → (word : ℕ) × (word_at image pc ≡ Some word)
present image pc some = elim (word_at image pc) as (λ (w : Option ℕ). word_at image pc ≡ w → IsSome w
    → (word : ℕ) × (word_at image pc ≡ Some word)) [
      | None ↦ λ is none. absurd (cc)
      | Some word ↦ λ is _. (word, is)
    ] refl some

-- one more step within the block
next_going : (m : Machine) (h n k start : ℕ) (hart : HartState) (shared : Shared) → start < 2 ^ 64 → IsLength m.image start n → k < n
    → (step_of m h hart shared).hart.ending ≡ None → (hart.ending ≡ None → IsGoing m.image start n k hart shared)
    → IsGoing m.image start n (suc k) (step_of m h hart shared).hart (step_of m h hart shared).shared
next_going m h n k start hart shared small is below goes so_far =
    let running = was_running m h hart shared goes in
    let before = so_far running in
    let there = present m.image (start + 4 * k) (is.present k below) in
    let pc : hart.pc ≡ start + 4 * k = before.place.inside below in
    let since : hart.since ≡ k = before.place.counted below in
    let one : OneStep m hart there.0 (step_of m h hart shared) =
    one_step m h hart shared there.0 before.awake running before.quiet (ap (word_at m.image) pc ∙ there.1) goes in
    record {
      awake = one.goes.parked ∙ before.awake;
      quiet = one.group;
      place = record {
        inside = λ more. (next_inside m.image start n k there.0 hart
            (step_of m h hart shared).hart is small pc since there.1 one.goes more).0;
        counted = λ more. (next_inside m.image start n k there.0 hart
            (step_of m h hart shared).hart is small pc since there.1 one.goes more).1;
        behind = λ last.
            next_behind m.image start k there.0 hart (step_of m h hart shared).hart (subst (λ j. IsLength m.image start j) (sym last) is)
            small pc since there.1 one.goes;
      };
    }

all_going : (m : Machine) (h n k : ℕ) (hart : HartState) (shared : Shared)
    → hart.parked ≡ false → shared.group ≡ None → hart.since ≡ 0 → hart.pc < 2 ^ 64 → IsLength m.image hart.pc n → k ≤ n
    → (steps_of m h k hart shared).hart.ending ≡ None
    → IsGoing m.image hart.pc n k (steps_of m h k hart shared).hart (steps_of m h k hart shared).shared
unfolding steps_of
all_going m h n zero hart shared awake quiet starts small is within goes = record {
  awake = awake;
  quiet = quiet;
  place = record { inside = λ _. omega arith; counted = λ _. starts; behind = λ _. inl starts };
}
all_going m h n (suc k) hart shared awake quiet starts small is within goes =
    let run = steps_of m h k hart shared in
    next_going m h n k hart.pc run.hart run.shared small is (omega arith) goes
    (λ running. all_going m h n k hart shared awake quiet starts small is (omega arith) running)

pub blocks_follow : BlocksFollow
blocks_follow m h n k hart shared awake quiet starts aligned small is within goes =
    (all_going m h n k hart shared awake quiet starts small is within goes).place
