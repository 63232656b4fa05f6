-- What a run on one thread keeps as its harts wake and step.
use Rattle.std.proofs.Common.{◌≡◌, ◌≢◌, ◌+◌, ◌*◌, ◌<◌, ◌≤◌, ◌==◌, ◌&&◌, ◌||◌, ◌∙◌, ℕ, Bool, true, false, not, nat_lt, List, [], ◌∷◌, ◌++◌}
use Rattle.std.proofs.Common.{length, inl, inr, Option, Some, None, is_some, refl, sym, ap, subst, length-append, length-set, arith, if◌then◌else◌}
use Rattle.std.specs.Prelude.{slice_index_or, slice_set}
use Rattle.std.proofs.lemmas.Bool.{cases_Bool, false≢true, or_parts, lt-ltb}
use Rattle.std.proofs.lemmas.Bool.Decides.{nat_tests}
use Rattle.std.proofs.lemmas.List.{get_or-set_same, get_or-set_other}
use Rattle.flat_model.specs.declared.events.Event.{Event}
use Rattle.flat_model.specs.declared.journals.Item.{Item}
use Rattle.flat_model.specs.declared.journals.Item.TheVariants.{Step}
use Rattle.flat_model.specs.declared.journals.Mode.{Mode}
use Rattle.flat_model.specs.Image.{Program}
use Rattle.flat_model.specs.Permission.{spans_of}
use Rattle.flat_model.specs.Step.{Stepped, step_of, step, is_over, awoken}
use Rattle.flat_model.specs.World.{Machine, HartState, Shared, Start, opening_start, opening_starts, hart_by, started_hart}
use Rattle.flat_model.specs.Worlds.{world, hart_of, next_step}
use Rattle.run_rules.proofs.Harts.{step_keeps}
use Rattle.guest_memory.specs.Memory.{MemoryState, IsOpening}
use Rattle.rv_exec.specs.Logged.{LogState}
use Rattle.rv_exec.specs.Sharing.{ServicesState, shared_of, starts_of, machine_on, AreOpening}
use Rattle.block_finder.specs.Caches.{MayServe}
use Rattle.lock_step.specs.Runs.{can_step}
use Rattle.lock_step.specs.Tellings.{all_told, of_hart}
use Rattle.lock_step.specs.Stepping.{HasStepped}
use Rattle.lock_step.specs.Kept.{woken, IsSeen, AreSeen, IsShared, IsKept, AreFirst}
use Rattle.lock_step.proofs.Tellings.{own_step, other_step, tells_some}

-- Waking.

awake_stays : (h harts : ℕ) (hart : HartState) (o : Option Start) → hart.parked ≡ false → woken h harts hart o ≡ hart
awake_stays h harts hart None awake = refl
awake_stays h harts hart (Some start) awake = ap (λ (b : Bool). if b then started_hart h harts start else hart) awake

woken_twice : (h harts : ℕ) (hart : HartState) (o : Option Start) → woken h harts (woken h harts hart o) o ≡ woken h harts hart o
woken_twice h harts hart None = refl
woken_twice h harts hart (Some start) = elim (cases_Bool hart.parked) [
  | inl parked ↦
      let is : woken h harts hart (Some start) ≡ started_hart h harts start =
      ap (λ (b : Bool). if b then started_hart h harts start else hart) parked in
      subst (λ (x : HartState). woken h harts x (Some start) ≡ x) (sym is) refl
  | inr awake ↦
      let is : woken h harts hart (Some start) ≡ hart = awake_stays h harts hart (Some start) awake in
      subst (λ (x : HartState). woken h harts x (Some start) ≡ x) (sym is) is
]

-- what holds of a hart and of one that begins holds of a hart once it is woken
by_waking : (P : HartState → Type 0) (h harts : ℕ) (hart : HartState) (o : Option Start) → P hart
    → ((start : Start) → o ≡ Some start → hart.parked ≡ true → P (started_hart h harts start)) → P (woken h harts hart o)
by_waking P h harts hart None here begins = here
by_waking P h harts hart (Some start) here begins = elim (cases_Bool hart.parked) [
  | inl parked ↦
      subst P (sym (ap (λ (b : Bool). if b then started_hart h harts start else hart) parked)) (begins start refl parked)
  | inr awake ↦ subst P (sym (awake_stays h harts hart (Some start) awake)) here
]

seen_woken : (m : Machine) (mode : Mode) (past : List Item) (h : ℕ) (hart : HartState) → 1 ≤ m.limit → IsSeen m mode past h hart
    → IsSeen m mode past h (woken h m.harts hart ((world m mode past).shared.starts h))
seen_woken m mode past h hart some seen =
    let o : Option Start = (world m mode past).shared.starts h in
    record {
      now = seen.now ∙ sym (woken_twice h m.harts hart o);
      parked = λ none. by_waking (λ x. x.parked ≡ true) h m.harts hart o (seen.parked none) (λ start is parked. absurd cc);
      unmoved = by_waking (λ x. x.parked ≡ true → x.steps ≡ 0) h m.harts hart o seen.unmoved (λ start is parked _. refl);
      below = by_waking (λ x. x.ending ≡ None → x.steps < m.limit) h m.harts hart o seen.below
          (λ start is parked _. omega (arith, some));
      within = by_waking (λ x. x.steps ≤ m.limit) h m.harts hart o seen.within (λ start is parked. omega arith);
      few = by_waking (λ x. length (of_hart h (all_told m mode past)) ≤ 6 * x.steps) h m.harts hart o seen.few
          (λ start is parked. let none = seen.unmoved parked in let few = seen.few in omega (arith, none, few));
    }

seen_set : (m : Machine) (mode : Mode) (past : List Item) (h : ℕ) (harts : List HartState) (hart : HartState) → length harts ≡ m.harts
    → ((k : ℕ) (d : HartState) → k < m.harts → k ≢ h → IsSeen m mode past k (slice_index_or harts k d)) → IsSeen m mode past h hart
    → AreSeen m mode past (slice_set harts h hart)
seen_set m mode past h harts hart all others own = λ k d low. elim (cases_Bool (k == h)) [
  | inl at ↦
      let e : k ≡ h = grind (arith, nat_tests, at) in
      let is : slice_index_or (slice_set harts h hart) k d ≡ hart =
      ap (λ (i : ℕ). slice_index_or (slice_set harts h hart) i d) e ∙ get_or-set_same harts h hart d (omega (arith, e, all, low)) in
      subst (IsSeen m mode past k) (sym is) (subst (λ (i : ℕ). IsSeen m mode past i hart) (sym e) own)
  | inr off ↦
      let apart : k ≢ h = λ e. let is : (k == h) ≡ true = grind (arith, nat_tests, e) in false≢true (sym off ∙ is) in
      subst (IsSeen m mode past k) (sym (get_or-set_other harts h k hart d apart)) (others k d low apart)
]

start_is : (m : Machine) (mode : Mode) (past : List Item) (memory : MemoryState) (services : ServicesState) (h : ℕ)
    → IsShared m mode past memory services → starts_of services h ≡ (world m mode past).shared.starts h
start_is m mode past memory services h shared = ap (λ (s : Shared). s.starts h) shared.shared

-- a hart that was woken by its start is the one of the world, and is kept
module _ (m : Machine) (mode : Mode) (past : List Item) (h : ℕ) (harts : List HartState) (memory : MemoryState) (services : ServicesState)
    (blocks : Option Program) (raw : LogState) (was hart : HartState) where
  pub record Looks : Type 0 where
    pub low : h < m.harts
    pub kept : IsKept m mode past harts memory services blocks raw
    pub there : was ≡ slice_index_or harts h was
    pub wakes : hart ≡ woken h m.harts was (starts_of services h)

  pub look_seen : Looks → IsSeen m mode past h hart
  look_seen l =
      let here : IsSeen m mode past h was = subst (IsSeen m mode past h) (sym l.there) (l.kept.seen h was l.low) in
      subst (IsSeen m mode past h) (sym (l.wakes ∙ ap (woken h m.harts was) (start_is m mode past memory services h l.kept.shared)))
      (seen_woken m mode past h was l.kept.some_step here)

  pub look_now : Looks → hart ≡ hart_of m mode past h
  look_now l =
      let here : IsSeen m mode past h was = subst (IsSeen m mode past h) (sym l.there) (l.kept.seen h was l.low) in
      l.wakes ∙ ap (woken h m.harts was) (start_is m mode past memory services h l.kept.shared) ∙ sym here.now

  pub look_kept : Looks → IsKept m mode past (slice_set harts h hart) memory services blocks raw
  look_kept l = record {
    some_step = l.kept.some_step;
    all = length-set harts h hart ∙ l.kept.all;
    seen = seen_set m mode past h harts hart l.kept.all (λ k d low apart. l.kept.seen k d low) (look_seen l);
    shared = l.kept.shared;
    serves = l.kept.serves;
    stored = l.kept.stored;
  }

  pub look_can : Looks → not ((hart.parked || is_some hart.ending) || is_some services.group) ≡ can_step m mode past h
  look_can l =
      ap (λ (x : HartState). not ((x.parked || is_some x.ending) || is_some services.group)) (look_now l)
      ∙ ap (λ (s : Shared). not (is_over (hart_of m mode past h) s)) l.kept.shared.shared
      ∙ ap (λ (b : Bool). b && not (is_over (hart_of m mode past h) (world m mode past).shared)) (sym (lt-ltb h m.harts l.low))

-- with more room for the output
pub roomier : (m : Machine) (mode : Mode) (past : List Item) (harts : List HartState) (memory : MemoryState)
    (services with_room : ServicesState) (blocks : Option Program) (raw : LogState)
    → IsKept m mode past harts memory services blocks raw → with_room ≡ record services { room = with_room.room }
    → IsKept m mode past harts memory with_room blocks raw
roomier m mode past harts memory services with_room blocks raw kept is =
    subst (λ (s : ServicesState). IsKept m mode past harts memory s blocks raw) (sym is) (record {
      some_step = kept.some_step;
      all = kept.all;
      seen = kept.seen;
      shared = record {
        shared = kept.shared.shared;
        places = kept.shared.places;
        harts = kept.shared.harts;
        spans = kept.shared.spans;
      };
      serves = kept.serves;
      stored = kept.stored;
    })

pub cannot : (m : Machine) (mode : Mode) (past : List Item) (h : ℕ) → m.harts ≤ h → can_step m mode past h ≡ false
cannot m mode past h high = let is : nat_lt h m.harts ≡ false = grind (arith, nat_tests, high) in
    ap (λ (b : Bool). b && not (is_over (hart_of m mode past h) (world m mode past).shared)) is

-- Stepping.

none_is : {A : Type 0} (o : Option A) → is_some o ≡ false → o ≡ None
none_is None none = refl
none_is (Some a) none = absurd cc

and_parts : (a b : Bool) → (a && b) ≡ true → (a ≡ true) × (b ≡ true)
and_parts true b is = (refl, is)
and_parts false b is = absurd cc

not_is : (a : Bool) → not a ≡ true → a ≡ false
not_is true is = absurd cc
not_is false is = refl

pub record Runs (m : Machine) (mode : Mode) (past : List Item) (h : ℕ) : Type 0 where
  pub low : h < m.harts
  pub goes : is_over (hart_of m mode past h) (world m mode past).shared ≡ false
  pub awake : (hart_of m mode past h).parked ≡ false
  pub running : (hart_of m mode past h).ending ≡ None
  pub going_on : (world m mode past).shared.group ≡ None

pub runs_by : (m : Machine) (mode : Mode) (past : List Item) (h : ℕ) → can_step m mode past h ≡ true → Runs m mode past h
runs_by m mode past h can =
    let w = world m mode past in
    let parts = and_parts (nat_lt h m.harts) (not (is_over (w.harts h) w.shared)) can in
    let goes : is_over (w.harts h) w.shared ≡ false = not_is (is_over (w.harts h) w.shared) parts.1 in
    let outer = or_parts ((w.harts h).parked || is_some (w.harts h).ending) (is_some w.shared.group) goes in
    let inner = or_parts (w.harts h).parked (is_some (w.harts h).ending) outer.0 in
    record {
      low = let is = parts.0 in grind (arith, nat_tests, is);
      goes = goes;
      awake = inner.0;
      running = none_is (w.harts h).ending inner.1;
      going_on = none_is w.shared.group outer.1;
    }

-- The world after a step of hart h.

made_hart : (m : Machine) (mode : Mode) (past : List Item) (h : ℕ) → hart_of m mode (Step h ∷ past) h ≡ (next_step m mode past h).hart
unfolding world step
made_hart m mode past h =
    let w = world m mode past in
    let s = step_of m h (w.harts h) w.shared in
    let is : (h == h) ≡ true = grind (arith, nat_tests) in
    ap (λ (b : Bool). if b then s.hart else awoken h m.harts (w.shared.starts h) (s.shared.starts h) (w.harts h)) is

made_shared : (m : Machine) (mode : Mode) (past : List Item) (h : ℕ) → (world m mode (Step h ∷ past)).shared ≡ (next_step m mode past h).shared
unfolding world step
made_shared m mode past h = refl

made_other : (m : Machine) (mode : Mode) (past : List Item) (h k : ℕ) → (k == h) ≡ false
    → hart_of m mode (Step h ∷ past) k
    ≡ awoken k m.harts ((world m mode past).shared.starts k) ((world m mode (Step h ∷ past)).shared.starts k) (hart_of m mode past k)
unfolding world step
made_other m mode past h k off =
    let w = world m mode past in
    let s = step_of m h (w.harts h) w.shared in
    ap (λ (b : Bool). if b then s.hart else awoken k m.harts (w.shared.starts k) (s.shared.starts k) (w.harts k)) off

starts_kept : (m : Machine) (mode : Mode) (past : List Item) (h k : ℕ) (start : Start) → (world m mode past).shared.starts k ≡ Some start
    → (world m mode (Step h ∷ past)).shared.starts k ≡ Some start
starts_kept m mode past h k start has =
    ap (λ (s : Shared). s.starts k) (made_shared m mode past h)
    ∙ step_keeps m h (hart_of m mode past h) (world m mode past).shared k start has

none_before : (m : Machine) (mode : Mode) (past : List Item) (h k : ℕ) (o : Option Start) → (world m mode past).shared.starts k ≡ o
    → (world m mode (Step h ∷ past)).shared.starts k ≡ None → (world m mode past).shared.starts k ≡ None
none_before m mode past h k None is none = is
none_before m mode past h k (Some start) is none = let has = starts_kept m mode past h k start is in absurd cc

wakes_as : (k harts : ℕ) (stored hart : HartState) (o o' : Option Start) → hart ≡ woken k harts stored o → (o ≡ None → stored.parked ≡ true)
    → ((start : Start) → o ≡ Some start → o' ≡ Some start) → awoken k harts o o' hart ≡ woken k harts stored o'
wakes_as k harts stored hart None None is parked keeps = is
wakes_as k harts stored hart None (Some start) is parked keeps =
    sym (ap (λ (b : Bool). if b then started_hart k harts start else stored) (parked refl))
wakes_as k harts stored hart (Some start) o' is parked keeps = is ∙ ap (woken k harts stored) (sym (keeps start refl))

-- a hart that another one's step leaves as it was looked at
other_seen : (m : Machine) (mode : Mode) (past : List Item) (h k : ℕ) (hart : HartState) → k ≢ h → IsSeen m mode past k hart
    → IsSeen m mode (Step h ∷ past) k hart
other_seen m mode past h k hart apart seen =
    let off : (k == h) ≡ false = grind (arith, nat_tests, apart) in
    let turned : (h == k) ≡ false = grind (arith, nat_tests, apart) in
    let o = (world m mode past).shared.starts k in
    let o' = (world m mode (Step h ∷ past)).shared.starts k in
    record {
      now = made_other m mode past h k off
          ∙ wakes_as k m.harts hart (hart_of m mode past k) o o' seen.now seen.parked (λ start is. starts_kept m mode past h k start is);
      parked = λ none. seen.parked (none_before m mode past h k o refl none);
      unmoved = seen.unmoved;
      below = seen.below;
      within = seen.within;
      few = subst (λ (l : List Event). length l ≤ 6 * hart.steps) (sym (other_step m mode k h past turned)) seen.few;
    }

-- what a step of hart h leaves
pub record Steps (m : Machine) (mode : Mode) (past : List Item) (h : ℕ) (hart new : HartState) (memory memory_left : MemoryState)
    (services services_left : ServicesState) (before after : LogState) : Type 0 where
  pub can : can_step m mode past h ≡ true
  pub now : hart ≡ hart_of m mode past h
  pub seen : IsSeen m mode past h hart
  pub shared : IsShared m mode past memory services
  pub empty : before.events ≡ []
  pub stored : before.kept ≡ true
  pub stepped : HasStepped (machine_on m.image memory m.limit) h hart new memory memory_left services services_left before after

module _ (m : Machine) (mode : Mode) (past : List Item) (h : ℕ) (hart new : HartState) (memory memory_left : MemoryState)
    (services services_left : ServicesState) (before after : LogState) where
  next_is : Steps m mode past h hart new memory memory_left services services_left before after
      → next_step m mode past h ≡ record { hart = new; shared = shared_of memory_left services_left; events = after.events }
  next_is s =
      let of_harts : ℕ → Machine = λ n. record { image = m.image; harts = n; limit = m.limit } in
      let given : after.events ≡ s.stepped.step.given = s.stepped.step.appended ∙ ap (λ (l : List Event). l ++ s.stepped.step.given) s.empty in
      ap (λ (x : HartState). step_of m h x (world m mode past).shared) (sym s.now)
      ∙ ap (λ (x : Shared). step_of m h hart x) (sym s.shared.shared)
      ∙ ap (λ (n : ℕ). step_of (of_harts n) h hart (shared_of memory services)) (sym s.shared.harts)
      ∙ s.stepped.step.step
      ∙ ap (λ (l : List Event). record { hart = new; shared = shared_of memory_left services_left; events = l }) (sym given)

  pub step_told : Steps m mode past h hart new memory memory_left services services_left before after
      → after.events ≡ (next_step m mode past h).events
  step_told s = ap (λ (x : Stepped). x.events) (sym (next_is s))

  pub step_some : Steps m mode past h hart new memory memory_left services services_left before after → 0 < length after.events
  step_some s =
      subst (λ (l : List Event). 0 < length l) (sym (step_told s))
      (tells_some m h (hart_of m mode past h) (world m mode past).shared (runs_by m mode past h s.can).goes)

  own_seen : Steps m mode past h hart new memory memory_left services services_left before after → IsSeen m mode (Step h ∷ past) h new
  own_seen s =
      let runs = runs_by m mode past h s.can in
      let did = s.stepped in
      let running : hart.ending ≡ None = ap (λ (x : HartState). x.ending) s.now ∙ runs.running in
      let awake : hart.parked ≡ false = ap (λ (x : HartState). x.parked) s.now ∙ runs.awake in
      let most : length after.events ≤ length before.events + 6 = did.few.most in
      let none : length before.events ≡ 0 = ap length s.empty in
      let few = s.seen.few in
      let below = s.seen.below running in
      let counted = did.counted in
      record {
        now = made_hart m mode past h ∙ ap (λ (x : Stepped). x.hart) (next_is s)
            ∙ sym (awake_stays h m.harts new ((world m mode (Step h ∷ past)).shared.starts h) did.awake);
        parked = λ none.
            let was = s.seen.parked (none_before m mode past h h ((world m mode past).shared.starts h) refl none) in
            absurd (false≢true (sym awake ∙ was));
        unmoved = λ parked. absurd (false≢true (sym did.awake ∙ parked));
        below = did.within_limit;
        within = omega (arith, below, counted);
        few = rw (own_step m mode h past)
            (let all = length-append (of_hart h (all_told m mode past)) (next_step m mode past h).events in
            let told = ap length (step_told s) in
            omega (arith, all, told, most, none, few, counted));
      }

  pub step_kept : (harts : List HartState) (blocks blocks_left : Option Program) (raw : LogState)
      → Steps m mode past h hart new memory memory_left services services_left before after
      → IsKept m mode past harts memory services blocks raw → MayServe blocks_left m.image
      → IsKept m mode (Step h ∷ past) (slice_set harts h new) memory_left services_left blocks_left after
  step_kept harts blocks blocks_left raw s kept serves =
      let did = s.stepped in
      record {
        some_step = kept.some_step;
        all = length-set harts h new ∙ kept.all;
        seen = seen_set m mode (Step h ∷ past) h harts new kept.all
            (λ k d low apart. other_seen m mode past h k (slice_index_or harts k d) apart (kept.seen k d low)) (own_seen s);
        shared = record {
          shared = sym (made_shared m mode past h ∙ ap (λ (x : Stepped). x.shared) (next_is s));
          places = did.places.starts ∙ s.shared.places;
          harts = did.layout.harts ∙ s.shared.harts;
          spans = did.layout.spans ∙ s.shared.spans ∙ ap (spans_of m.image) (sym did.layout.harts);
        };
        serves = serves;
        stored = did.kept ∙ s.stored;
      }

-- no hart has told more than 6 events a step
pub few_told : (m : Machine) (mode : Mode) (past : List Item) (harts : List HartState) (memory : MemoryState) (services : ServicesState)
    (blocks : Option Program) (raw : LogState) (d : HartState) → IsKept m mode past harts memory services blocks raw
    → (h : ℕ) → h < m.harts → length (of_hart h (all_told m mode past)) ≤ 6 * m.limit
few_told m mode past harts memory services blocks raw d kept h low =
    let seen = kept.seen h d low in
    let few = seen.few in let within = seen.within in omega (arith, few, within)

-- The first world.

first_seen : (m : Machine) (mode : Mode) (h : ℕ) (o : Option Start) (hart : HartState) → 1 ≤ m.limit
    → hart ≡ hart_by m.image h m.harts o → opening_start m.image mode h ≡ o → (world m mode []).shared.starts h ≡ o
    → IsSeen m mode [] h hart
unfolding world all_told
first_seen m mode h None hart some is starts has = record {
  now = ap (hart_by m.image h m.harts) starts ∙ sym is ∙ ap (woken h m.harts hart) (sym has);
  parked = λ _. ap (λ (x : HartState). x.parked) is;
  unmoved = λ _. ap (λ (x : HartState). x.steps) is;
  below = λ _. let none = ap (λ (x : HartState). x.steps) is in omega (arith, none, some);
  within = let none = ap (λ (x : HartState). x.steps) is in omega (arith, none, some);
  few = omega arith;
}
first_seen m mode h (Some start) hart some is starts has =
    let awake : hart.parked ≡ false = ap (λ (x : HartState). x.parked) is in
    record {
      now = ap (hart_by m.image h m.harts) starts ∙ sym is ∙ sym (awake_stays h m.harts hart (Some start) awake)
          ∙ ap (woken h m.harts hart) (sym has);
      parked = λ none. absurd cc;
      unmoved = λ parked. absurd (false≢true (sym awake ∙ parked));
      below = λ _. let none = ap (λ (x : HartState). x.steps) is in omega (arith, none, some);
      within = let none = ap (λ (x : HartState). x.steps) is in omega (arith, none, some);
      few = omega arith;
    }

pub first_kept : (image : Program) (n limit : ℕ) (mode : Mode) (harts : List HartState) (memory : MemoryState) (services : ServicesState)
    (blocks : Option Program) (raw : LogState) → 1 ≤ limit → AreFirst image mode n harts → IsOpening image n memory
    → AreOpening image mode n services → blocks ≡ None → raw.kept ≡ true
    → IsKept (record { image = image; harts = n; limit = limit }) mode [] harts memory services blocks raw
unfolding world
first_kept image n limit mode harts memory services blocks raw some first opening services_open fresh stored =
    let m : Machine = record { image = image; harts = n; limit = limit } in
    record {
      some_step = some;
      all = first.all;
      seen = λ h d low.
          let starts : opening_starts image mode n h ≡ opening_start image mode h =
          ap (λ (b : Bool). if b then opening_start image mode h else None) (lt-ltb h n low) in
          first_seen m mode h (opening_start image mode h) (slice_index_or harts h d) some (first.each h d low) refl starts;
      shared = record {
        shared = cc;
        places = services_open.count;
        harts = opening.count;
        spans = opening.spans ∙ ap (spans_of image) (sym opening.count);
      };
      serves = subst (λ (o : Option Program). MayServe o image) (sym fresh) tt;
      stored = stored;
    }
