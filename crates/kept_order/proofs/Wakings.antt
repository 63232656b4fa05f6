-- Parked harts: one without a start is as it was from the first, and a step of another hart gives it its start or leaves it alone.
use Rattle.std.proofs.Common.{◌≡◌, ◌==◌, ◌<◌, ◌∷◌, [], ◌++◌, ◌∙◌, ℕ, Bool, true, false, List, Option, Some, None}
use Rattle.std.proofs.Common.{refl, sym, ap, subst, arith, inl, inr}
use Rattle.std.specs.Prelude.{if◌then◌else◌, is_some}
use Rattle.std.proofs.lemmas.Bool.{cases_Bool, false≢true, lt-ltb}
use Rattle.std.proofs.lemmas.Bool.Decides.{nat_tests}
use Rattle.flat_model.specs.declared.effects.Done.{Done}
use Rattle.flat_model.specs.declared.effects.Done.TheVariants.{Goes, Fails, Leaves}
use Rattle.flat_model.specs.declared.journals.Item.{Item}
use Rattle.flat_model.specs.declared.journals.Item.TheVariants.{Step, Ordered, GaveBack, Left, Told, Got, Took}
use Rattle.flat_model.specs.declared.journals.Mode.{Mode}
use Rattle.flat_model.specs.Image.{Program, word_at}
use Rattle.flat_model.specs.Log.{party}
use Rattle.flat_model.specs.Step.{Stepped, after_done, is_over, step_of, step, step_at, awoken}
use Rattle.flat_model.specs.World.{Machine, Start, HartState, Shared, opening_start, parked_hart, started_hart, hart_by}
use Rattle.flat_model.specs.Worlds.{world, hart_of}
use Rattle.run_rules.specs.Laws.{AreOfOthers}
use Rattle.run_rules.proofs.Harts.{step_keeps, harts_move_by_their_steps}
use Rattle.run_rules.proofs.Keeping.{no_step}
use Rattle.run_order.specs.InOrder.{Task}
use Rattle.kept_order.specs.Waking.{MayWake, ParkedHartsWake}
use Rattle.kept_order.proofs.Gone.{stuck}

-- what a hart is by its start: without one it is parked as from the first, and with one it isn't parked
abbrev IsBy : Program → HartState → Option Start → Type 0
IsBy image hart None = hart ≡ parked_hart image
IsBy image hart (Some start) = hart.parked ≡ false

opens_by : (m : Machine) (h : ℕ) (o : Option Start) → IsBy m.image (hart_by m.image h m.harts o) o
opens_by m h None = refl
opens_by m h (Some start) = refl

-- a step parks no hart

done_parked : (limit : ℕ) (hart : HartState) (present ends : Bool) (done : Done)
    → (after_done limit hart present ends done).parked ≡ hart.parked
done_parked limit hart present ends (Goes rd value target) = refl
done_parked limit hart present ends (Fails kind) = refl
done_parked limit hart present ends (Leaves ending) = refl

still_parked : (m : Machine) (h : ℕ) (hart : HartState) (shared : Shared) → (step_of m h hart shared).hart.parked ≡ hart.parked
unfolding step_of
still_parked m h hart shared =
    elim (is_over hart shared) as (λ b.
    (if b then (record { hart = hart; shared = shared; events = [] }) else step_at m h hart shared (word_at m.image hart.pc)).hart.parked
    ≡ hart.parked) [
      | true ↦ refl
      | false ↦ done_parked m.limit hart _ _ _
    ]

own_by : (m : Machine) (k : ℕ) (hart : HartState) (shared : Shared) (o : Option Start) → shared.starts k ≡ o → IsBy m.image hart o
    → IsBy m.image (step_of m k hart shared).hart ((step_of m k hart shared).shared.starts k)
own_by m k hart shared None is by =
    let same = stuck m k hart shared (ap (λ (x : HartState). x.parked) by) in
    subst (λ (s : Stepped). IsBy m.image s.hart (s.shared.starts k)) (sym same)
    (subst (IsBy m.image hart) (sym is) by)
own_by m k hart shared (Some start) is by =
    subst (IsBy m.image (step_of m k hart shared).hart) (sym (step_keeps m k hart shared k start is)) (still_parked m k hart shared ∙ by)

other_by : (m : Machine) (k h : ℕ) (hart other : HartState) (shared : Shared) (o : Option Start) → shared.starts h ≡ o → IsBy m.image hart o
    → (o' : Option Start) → (step_of m k other shared).shared.starts h ≡ o' → IsBy m.image (awoken h m.harts o o' hart) o'
other_by m k h hart other shared None is by None is' = by
other_by m k h hart other shared None is by (Some start) is' = refl
other_by m k h hart other shared (Some start) is by None is' =
    let has = step_keeps m k other shared h start is in
    absurd cc
other_by m k h hart other shared (Some start) is by (Some later) is' = by

step_by : (m : Machine) (mode : Mode) (k h : ℕ) (past : List Item)
    → IsBy m.image (hart_of m mode past h) ((world m mode past).shared.starts h)
    → IsBy m.image (hart_of m mode (Step k ∷ past) h) ((world m mode (Step k ∷ past)).shared.starts h)
unfolding world step
step_by m mode k h past by =
    let w = world m mode past in
    let s = step_of m k (w.harts k) w.shared in
    let after = λ (b : Bool). if b then s.hart else awoken h m.harts (w.shared.starts h) (s.shared.starts h) (w.harts h) in
    elim (cases_Bool (h == k)) [
      | inl own ↦
          let e : h ≡ k = grind (arith, nat_tests, own) in
          let by' : IsBy m.image (w.harts k) (w.shared.starts k) = subst (λ (j : ℕ). IsBy m.image (w.harts j) (w.shared.starts j)) e by in
          let at : IsBy m.image s.hart (s.shared.starts k) = own_by m k (w.harts k) w.shared (w.shared.starts k) refl by' in
          let at' : IsBy m.image s.hart (s.shared.starts h) = subst (λ (j : ℕ). IsBy m.image s.hart (s.shared.starts j)) (sym e) at in
          subst (λ (b : Bool). IsBy m.image (after b) (s.shared.starts h)) (sym own) at'
      | inr off ↦
          subst (λ (b : Bool). IsBy m.image (after b) (s.shared.starts h)) (sym off)
          (other_by m k h (w.harts h) (w.harts k) w.shared (w.shared.starts h) refl by (s.shared.starts h) refl)
    ]

by_start : (m : Machine) (mode : Mode) (h : ℕ) (past : List Item) → h < m.harts
    → IsBy m.image (hart_of m mode past h) ((world m mode past).shared.starts h)
unfolding world
by_start m mode h [] low =
    let is = ap (λ (b : Bool). if b then opening_start m.image mode h else None) (lt-ltb h m.harts low) in
    subst (IsBy m.image (hart_by m.image h m.harts (opening_start m.image mode h))) (sym is) (opens_by m h (opening_start m.image mode h))
by_start m mode h (Step k ∷ past) low = step_by m mode k h past (by_start m mode h past low)
by_start m mode h (Ordered origin order ∷ past) low = by_start m mode h past low
by_start m mode h (GaveBack hart number ∷ past) low = by_start m mode h past low
by_start m mode h (Left hart ∷ past) low = by_start m mode h past low
by_start m mode h (Told party number ∷ past) low = by_start m mode h past low
by_start m mode h (Got hart number ∷ past) low = by_start m mode h past low
by_start m mode h (Took party number ∷ past) low = by_start m mode h past low

none_if_parked : (image : Program) (hart : HartState) (o : Option Start) → IsBy image hart o → hart.parked ≡ true → o ≡ None
none_if_parked image hart None by parked = refl
none_if_parked image hart (Some start) by parked = absurd (false≢true (sym by ∙ parked))

parked_as : (image : Program) (hart : HartState) (o : Option Start) → o ≡ None → IsBy image hart o → hart ≡ parked_hart image
parked_as image hart None none by = by
parked_as image hart (Some start) none by = absurd cc

-- Where others add to the log, its start comes with their steps.

abbrev Woken : Machine → Mode → ℕ → List Item → Type 0
Woken m mode h past = (start : Start) → (world m mode past).shared.starts h ≡ Some start → hart_of m mode past h ≡ started_hart h m.harts
    start

wakes : (m : Machine) (k h : ℕ) (hart other : HartState) (shared : Shared) (o : Option Start) → shared.starts h ≡ o
    → (start : Start) → (step_of m k other shared).shared.starts h ≡ Some start → (o ≡ Some start → hart ≡ started_hart h m.harts start)
    → awoken h m.harts o (Some start) hart ≡ started_hart h m.harts start
wakes m k h hart other shared None is start is' before = refl
wakes m k h hart other shared (Some first) is start is' before =
    let has = step_keeps m k other shared h first is in
    before (sym has ∙ is')

step_woken : (m : Machine) (mode : Mode) (k h : ℕ) (past : List Item) → (k == h) ≡ false → Woken m mode h past → Woken m mode h (Step k ∷
    past)
unfolding world step
step_woken m mode k h past other woken = λ start has.
    let w = world m mode past in
    let s = step_of m k (w.harts k) w.shared in
    let off : (h == k) ≡ false = grind (arith, nat_tests, other) in
    ap (λ (b : Bool). if b then s.hart else awoken h m.harts (w.shared.starts h) (s.shared.starts h) (w.harts h)) off
    ∙ ap (λ (o : Option Start). awoken h m.harts (w.shared.starts h) o (w.harts h)) has
    ∙ wakes m k h (w.harts h) (w.harts k) w.shared (w.shared.starts h) refl start has (woken start)

item_woken : (m : Machine) (mode : Mode) (h : ℕ) (x : Item) (past : List Item) → (party x == h) ≡ false
    → Woken m mode h past → Woken m mode h (x ∷ past)
unfolding world
item_woken m mode h (Step k) past other woken = step_woken m mode k h past other woken
item_woken m mode h (Ordered origin order) past other woken = woken
item_woken m mode h (GaveBack hart number) past other woken = woken
item_woken m mode h (Left hart) past other woken = woken
item_woken m mode h (Told who number) past other woken = woken
item_woken m mode h (Got hart number) past other woken = woken
item_woken m mode h (Took who number) past other woken = woken

all_woken : (m : Machine) (mode : Mode) (h : ℕ) (more past : List Item) → AreOfOthers h more → Woken m mode h past
    → Woken m mode h (more ++ past)
all_woken m mode h [] past others woken = woken
all_woken m mode h (x ∷ more) past others woken =
    item_woken m mode h x (more ++ past) others.0 (all_woken m mode h more past others.1 woken)

pub parked_harts_wake : ParkedHartsWake
parked_harts_wake t h more past low others parked =
    let m = t.machine in
    let none : (world m t.mode past).shared.starts h ≡ None =
    none_if_parked m.image (hart_of m t.mode past h) ((world m t.mode past).shared.starts h) (by_start m t.mode h past low) parked in
    record {
      asleep = λ still.
          parked_as m.image _ _ still (by_start m t.mode h (more ++ past) low) ∙ sym (parked_as m.image _ _ none (by_start m t.mode h past
          low));
      woken = all_woken m t.mode h more past others (λ start has. absurd cc);
    }
