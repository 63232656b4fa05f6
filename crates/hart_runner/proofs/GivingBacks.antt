-- Backs that a hart gives one after the other.
use Rattle.std.proofs.Common.{◌≡◌, ◌==◌, ◌&&◌, ◌||◌, ◌+◌, ◌<◌, ◌≤◌, ◌∷◌, ◌∙◌, ℕ, zero, suc, Bool, true, false, not, List, Option}
use Rattle.std.proofs.Common.{refl, sym, ap, subst, arith, inl, inr, length}
use Rattle.std.specs.Prelude.{is_some}
use Rattle.std.specs.List.{list_any, range_with_len}
use Rattle.std.specs.List.Sorted.{IsNonDecreasingBy}
use Rattle.std.specs.Cmp.Derive.{both_true}
use Rattle.std.proofs.lemmas.Bool.{cases_Bool, false≢true}
use Rattle.std.proofs.lemmas.Bool.Decides.{nat_tests}
use Rattle.flat_model.specs.declared.plugins.SetSpec.{SetSpec}
use Rattle.flat_model.specs.declared.journals.Item.{Item}
use Rattle.flat_model.specs.declared.journals.Item.TheVariants.{GaveBack}
use Rattle.flat_model.specs.Log.{journaled}
use Rattle.flat_model.specs.Registry.{Plugins, owes}
use Rattle.flat_model.specs.Worlds.{world}
use Rattle.baton_gate.specs.Logs.{GoesOn}
use Rattle.baton_gate.proofs.LogLemmas.{goes_nowhere, goes_once, goes_on}
use Rattle.watcher_api.specs.Attachment.{Attachment}
use Rattle.run_rules.specs.Guest.{plugins}
use Rattle.run_rules.specs.Due.{wanted}
use Rattle.run_rules.specs.Legal.{Legal, is_there, asks_nothing, owes_any}
use Rattle.run_rules.specs.Places.{is_with_hart}
use Rattle.run_order.specs.Sets.{sets_for}
use Rattle.run_order.specs.InOrder.{Task, InOrder, task_run}
use Rattle.kept_order.specs.Hearing.{specs_for}
use Rattle.kept_order.specs.Returning.{HasGivenBack}
use Rattle.kept_order.proofs.BackChanges.{backs_change_little}
use Rattle.kept_order.proofs.Withdrawals.{plugins_are_few}
use Rattle.host_state.specs.State.{StateValue, stored_of}
use Rattle.hart_runner.specs.Seats.{HasWritten}
use Rattle.hart_runner.proofs.Logs.{never_less}
use Rattle.hart_runner.specs.Entering.{IsBackBy, MayReturn, HasReturned}

-- what each state knows of the plug-ins
pub few_plugins : (s : StateValue) → InOrder s.task (stored_of s) → length (plugins (task_run s.task) s.past).plugins ≤ 8
few_plugins s order = plugins_are_few (task_run s.task) s.past order.legal

-- One Back.

pub is_legal : (s : StateValue) (h plugin : ℕ) (attached : List Attachment) (filters : List (ℕ × SetSpec)) → InOrder s.task (stored_of s)
    → MayReturn h s attached filters → owes s.registry.table h plugin ≡ true → Legal (task_run s.task) (GaveBack h plugin ∷ s.past)
unfolding Legal
is_legal s h plugin attached filters order may owed = (
  order.legal,
  both_true (ap (λ (r : Plugins). owes r h plugin) (sym order.plugins) ∙ owed)
      (both_true may.quiet (ap (λ (o : Option Item). not (is_some o)) may.caught_up)),
)

-- what the call does
pub record IsCollected (h plugin : ℕ) (old new : StateValue) (sets : List Attachment) (specs : List (ℕ × SetSpec)) : Type 0 where
  pub back : new.past ≡ GaveBack h plugin ∷ old.past
  pub rest : new ≡ record old {
    past = new.past;
    journal = new.journal;
    registry = new.registry;
    waiting = new.waiting;
    arriving = new.arriving;
    parked = new.parked;
  }
  pub attached : sets ≡ sets_for is_with_hart (task_run new.task) h new.past
  pub filters : specs ≡ specs_for (task_run new.task) h new.past

-- and what holds then
pub record IsReturned (h plugin : ℕ) (old new : StateValue) (sets : List Attachment) (specs : List (ℕ × SetSpec)) : Type 0 where
  pub may : MayReturn h new sets specs
  pub returned : HasReturned h old new
  pub owes : (p : ℕ) → owes (plugins (task_run new.task) new.past) h p
      ≡ (not (plugin == p) && owes (plugins (task_run old.task) old.past) h p)

pub is_returned : (old new : StateValue) (h plugin : ℕ) (attached : List Attachment) (filters : List (ℕ × SetSpec))
    (sets : List Attachment) (specs : List (ℕ × SetSpec)) → InOrder old.task (stored_of old)
    → IsNonDecreasingBy (λ t. t.when) old.task.plan.script → MayReturn h old attached filters → owes old.registry.table h plugin ≡ true
    → IsCollected h plugin old new sets specs → IsReturned h plugin old new sets specs
is_returned old new h plugin attached filters sets specs order rising may owed is =
    let task : new.task ≡ old.task = ap (λ (s : StateValue). s.task) is.rest in
    let run = task_run old.task in
    let little : HasGivenBack old.task h plugin old.past (GaveBack h plugin ∷ old.past) =
    backs_change_little old.task h plugin old.past rising (is_legal old h plugin attached filters order may owed) in
    let changed : HasGivenBack old.task h plugin old.past new.past =
    subst (λ (past : List Item). HasGivenBack old.task h plugin old.past past) (sym is.back) little in
    record {
      may = record {
        open_now = ap (λ (s : StateValue). s.short) is.rest ∙ may.open_now;
        there = ap (λ (t : Task). is_there (task_run t) h new.past) task ∙ changed.there ∙ may.there;
        quiet = ap (λ (t : Task). asks_nothing (task_run t) h new.past) task ∙ changed.quiet ∙ may.quiet;
        caught_up = ap (λ (t : Task). wanted (task_run t) new.past) task ∙ changed.none may.caught_up;
        sets = is.attached;
        specs = is.filters;
      };
      returned = record {
        backs = subst (GoesOn (IsBackBy h) old.past) (sym is.back) (goes_once (IsBackBy h) old.past (GaveBack h plugin) refl);
        rest = is.rest;
        world = ap (λ (t : Task). world t.machine t.mode new.past) task ∙ changed.world;
        as_many = ap (λ (t : Task). length (plugins (task_run t) new.past).plugins) task ∙ changed.as_many;
      };
      owes = λ p. ap (λ (t : Task). owes (plugins (task_run t) new.past) h p) task ∙ changed.owes p;
    }

-- where the hart doesn't owe it
pub none_returned : (s : StateValue) (h : ℕ) → HasReturned h s s
none_returned s h = record { backs = goes_nowhere (IsBackBy h) s.past; rest = refl; world = refl; as_many = refl }

pub none_owed : (s : StateValue) (h plugin p : ℕ) → InOrder s.task (stored_of s) → owes s.registry.table h plugin ≡ false
    → owes (plugins (task_run s.task) s.past) h p ≡ (not (plugin == p) && owes (plugins (task_run s.task) s.past) h p)
none_owed s h plugin p order none =
    let r = plugins (task_run s.task) s.past in
    elim (cases_Bool (plugin == p)) [
      | inl at ↦
          let e : p ≡ plugin = grind (arith, nat_tests, at) in
          ap (owes r h) e ∙ ap (λ (x : Plugins). owes x h plugin) (sym order.plugins) ∙ none
          ∙ sym (ap (λ (b : Bool). not b && owes r h p) at)
      | inr off ↦ sym (ap (λ (b : Bool). not b && owes r h p) off)
    ]

-- All of them, up to a number.

pub record ReturnsSoFar (h place : ℕ) (old now : StateValue) (sets : List Attachment) (specs : List (ℕ × SetSpec)) : Type 0 where
  pub may : MayReturn h now sets specs
  pub returned : HasReturned h old now
  pub none : (p : ℕ) → 1 ≤ p → p ≤ place → owes (plugins (task_run now.task) now.past) h p ≡ false
  pub room : old.journal.spare ≤ now.journal.spare + place

pub returned_twice : (a b c : StateValue) (h : ℕ) → HasReturned h a b → HasReturned h b c → HasReturned h a c
returned_twice a b c h first next = record {
  backs = goes_on (IsBackBy h) (IsBackBy h) (IsBackBy h) a.past b.past c.past first.backs next.backs (λ i is. is) (λ i is. is);
  rest = next.rest
      ∙ ap (λ (s : StateValue). record s {
        past = c.past;
        journal = c.journal;
        registry = c.registry;
        waiting = c.waiting;
        arriving = c.arriving;
        parked = c.parked;
      }) first.rest;
  world = next.world ∙ first.world;
  as_many = next.as_many ∙ first.as_many;
}

lower : (plugin place p : ℕ) → plugin ≡ place + 1 → (plugin == p) ≡ false → p ≤ place + 1 → p ≤ place
lower plugin place p number off most = grind (arith, nat_tests, off)

and_none : (b : Bool) → (b && false) ≡ false
and_none true = refl
and_none false = refl

-- where one more was asked
pub one_more : (old mid new : StateValue) (h place : ℕ) (before : List Attachment) (filters : List (ℕ × SetSpec)) (sets : List Attachment)
    (specs : List (ℕ × SetSpec)) → ReturnsSoFar h place old mid before filters → MayReturn h new sets specs → HasReturned h mid new
    → ((p : ℕ) → owes (plugins (task_run new.task) new.past) h p
    ≡ (not (place + 1 == p) && owes (plugins (task_run mid.task) mid.past) h p))
    → mid.journal.spare ≤ new.journal.spare + 1 → ReturnsSoFar h (place + 1) old new sets specs
one_more old mid new h place before filters sets specs was may returned owed room = record {
  may = may;
  returned = returned_twice old mid new h was.returned returned;
  none = λ p one most. elim (cases_Bool (place + 1 == p)) [
    | inl at ↦ owed p ∙ ap (λ (b : Bool). not b && owes (plugins (task_run mid.task) mid.past) h p) at
    | inr off ↦
        owed p ∙ ap (λ (b : Bool). not (place + 1 == p) && b) (was.none p one (lower (place + 1) place p refl off most))
        ∙ and_none (not (place + 1 == p))
  ];
  room = omega (arith, was.room, room);
}

none_of : (f : ℕ → Bool) (a n : ℕ) → ((k : ℕ) → a ≤ k → k < a + n → f k ≡ false) → list_any f (range_with_len a n) ≡ false
none_of f a zero none = refl
none_of f a (suc n) none =
    ap (λ (b : Bool). b || list_any f (range_with_len (a + 1) n)) (none a (omega arith) (omega arith))
    ∙ none_of f (a + 1) n (λ k low high. none k (omega (arith, low)) (omega (arith, high)))

pub all_returned : (old now : StateValue) (h n : ℕ) (sets : List Attachment) (specs : List (ℕ × SetSpec)) → ReturnsSoFar h n old now sets
    specs
    → n ≡ length (plugins (task_run old.task) old.past).plugins → owes_any (task_run now.task) h now.past ≡ false
all_returned old now h n sets specs done number =
    let r = plugins (task_run now.task) now.past in
    none_of (λ p. owes r h p) 1 (length r.plugins)
    (λ p one most. done.none p one (omega (arith, most, number, done.returned.as_many)))

-- where none was given back so far and none is now, none was given back
pub none_more : (some gave : Bool) (old mid new : StateValue) (first now last : List Attachment)
    (before then' behind : List (ℕ × SetSpec))
    → (some ≡ false → (mid ≡ old) × (now ≡ first) × (then' ≡ before))
    → (gave ≡ false → (new ≡ mid) × (last ≡ now) × (behind ≡ then'))
    → (some || gave) ≡ false → (new ≡ old) × (last ≡ first) × (behind ≡ before)
none_more true gave old mid new first now last before then' behind so_far one none = absurd (false≢true (sym none))
none_more false gave old mid new first now last before then' behind so_far one none =
    ((one none).0 ∙ (so_far refl).0, (one none).1 ∙ (so_far refl).1, (one none).2 ∙ (so_far refl).2)

-- a Back stands in the journal, and nothing goes from it

pub one_written : (h plugin : ℕ) (old new : List Item) → new ≡ GaveBack h plugin ∷ old → HasWritten old new
one_written h plugin old new is = omega (arith, ap (λ (past : List Item). length (journaled past)) is)

pub written_so_far : (some gave : Bool) (old mid new : StateValue) (h : ℕ) → HasReturned h old mid → HasReturned h mid new
    → (some ≡ true → HasWritten old.past mid.past) → (gave ≡ true → HasWritten mid.past new.past)
    → (some || gave) ≡ true → HasWritten old.past new.past
written_so_far true gave old mid new h first next so_far one is =
    omega (arith, so_far refl, never_less (IsBackBy h) mid.past new.past next.backs)
written_so_far false gave old mid new h first next so_far one is =
    omega (arith, one is, never_less (IsBackBy h) old.past mid.past first.backs)
