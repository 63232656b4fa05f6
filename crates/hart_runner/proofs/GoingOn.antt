-- A Turn that goes on with further blocks.
use Rattle.std.proofs.Common.{◌≡◌, ◌+◌, ◌%◌, ◌^◌, ◌<◌, ◌≤◌, ◌++◌, ◌∙◌, ◌∷◌, [], ℕ, Bool, true, false, List, All, Option, Some, None}
use Rattle.std.proofs.Common.{refl, sym, ap, subst, append_assoc, append-nil, arith, zero, suc}
use Rattle.std.specs.Prelude.{is_some}
use Rattle.std.proofs.lemmas.Bool.{false≢true}
use Rattle.std.proofs.lemmas.List.Elements.{All-append}
use Rattle.flat_model.specs.declared.events.Event.{Event}
use Rattle.flat_model.specs.declared.journals.Item.{Item}
use Rattle.flat_model.specs.Image.{Program}
use Rattle.flat_model.specs.Log.{steps}
use Rattle.flat_model.specs.Step.{Stepped, steps_of}
use Rattle.flat_model.specs.World.{HartState, Shared}
use Rattle.flat_model.specs.Worlds.{world, hart_of, IsRunOf}
use Rattle.flat_model.proofs.Worlds.{runs_alone}
use Rattle.rv_exec.specs.Logged.{LogState}
use Rattle.instr_lists.specs.Sorts.{LiesIn}
use Rattle.run_rules.specs.Guest.{Run}
use Rattle.run_order.specs.InOrder.{Task, InOrder}
use Rattle.kept_order.specs.Lying.{GoesInside}
use Rattle.kept_order.proofs.InBlocks.{events_lie_in_blocks}
use Rattle.host_state.specs.MidTurns.{IsMidTurn}
use Rattle.host_state.specs.State.{StateValue, stored_of}
use Rattle.host_state.proofs.Rows.{in_a_row}
use Rattle.host_state.proofs.WholeBlocks.{joined}
use Rattle.hart_runner.specs.declared.tapes.Piece.{Piece}
use Rattle.hart_runner.specs.Stretches.{IsGoing, GoesOnBy, IsCommitted, IsPiece, LieAt, events_of}

-- Two rows of steps are one.

two_rows : (t : Task) (h n r : ℕ) (past mid : List Item) (x y : HartState) (a b : List Event) → mid ≡ steps h n past
    → x ≡ hart_of t.machine t.mode past h → y ≡ hart_of t.machine t.mode mid h
    → a ≡ (steps_of t.machine h n x (world t.machine t.mode past).shared).events
    → b ≡ (steps_of t.machine h r y (world t.machine t.mode mid).shared).events
    → a ++ b ≡ (steps_of t.machine h (n + r) x (world t.machine t.mode past).shared).events
two_rows t h n r past mid x y a b made is now first next =
    let m = t.machine in
    let shared = (world m t.mode past).shared in
    let s = steps_of m h n x shared in
    let alone : IsRunOf m t.mode h n past s =
    subst (λ (z : HartState). IsRunOf m t.mode h n past (steps_of m h n z shared)) (sym is) (runs_alone m t.mode h n past) in
    let hart : y ≡ s.hart = now ∙ (ap (λ (xs : List Item). hart_of m t.mode xs h) made ∙ alone.hart) in
    let left : (world m t.mode mid).shared ≡ s.shared = ap (λ (xs : List Item). (world m t.mode xs).shared) made ∙ alone.shared in
    let last : b ≡ (steps_of m h r s.hart s.shared).events =
    next ∙ ap (λ (z : HartState × Shared). (steps_of m h r z.0 z.1).events) (λ i. (hart i, left i)) in
    ap (λ (es : List Event). es ++ b) first
    ∙ (ap (λ (es : List Event). s.events ++ es) last ∙ sym (ap (λ (z : Stepped). z.events) (in_a_row m h n r x shared)))

pub same_turn : (run : Run) (h k : ℕ) (past : List Item) → IsMidTurn run h k past → IsMidTurn run h (k + 0) past
same_turn run h k past mid = subst (λ (n : ℕ). IsMidTurn run h n past) (let e : k ≡ k + 0 = omega arith in e) mid

pub nothing_more : (t : Task) (h : ℕ) (past : List Item) (hart : HartState) (has_sets : Bool) (first last : List Piece) → last ≡ first
    → hart ≡ hart_of t.machine t.mode past h → GoesOnBy t h 0 past past hart hart has_sets first last
unfolding steps_of
nothing_more t h past hart has_sets first last same is = record {
  told = [];
  made = refl;
  is = is;
  events = refl;
  heard = λ some. ap events_of same ∙ sym (append-nil (events_of first));
  each = λ all. subst (All (IsPiece t.machine.image)) (sym same) all;
}

pub goes_twice : (t : Task) (h n r : ℕ) (a b c : List Item) (x y z : HartState) (has_sets : Bool) (p q s : List Piece)
    → x ≡ hart_of t.machine t.mode a h → GoesOnBy t h n a b x y has_sets p q → GoesOnBy t h r b c y z has_sets q s
    → GoesOnBy t h (n + r) a c x z has_sets p s
goes_twice t h n r a b c x y z has_sets p q s is one two = record {
  told = one.told ++ two.told;
  made = two.made ∙ (ap (steps h r) one.made ∙ joined h n r a);
  is = two.is;
  events = two_rows t h n r a b x y one.told two.told one.made is one.is one.events two.events;
  heard = λ some.
      two.heard some
      ∙ (ap (λ (es : List Event). es ++ two.told) (one.heard some) ∙ append_assoc (events_of p) one.told two.told);
  each = λ all. two.each (one.each all);
}

-- One block more.

pub none_is : {A : Type 0} (o : Option A) → false ≡ is_some o → o ≡ None
none_is None is = refl
none_is (Some x) is = absurd (false≢true is)

pub events_on : (first : List Piece) (p : Piece) → events_of (first ++ p ∷ []) ≡ events_of first ++ p.raw.events
events_on [] p = append-nil p.raw.events
events_on (q ∷ first) p =
    ap (λ (es : List Event). q.raw.events ++ es) (events_on first p)
    ∙ sym (append_assoc q.raw.events (events_of first) p.raw.events)

one_piece : (image : Program) (p : Piece) → IsPiece image p → All (IsPiece image) (p ∷ [])
one_piece image p is zero d below = is
one_piece image p is (suc k) d below = absurd (omega (arith, below))

all_pieces : (image : Program) (has_sets : Bool) (first last : List Piece) (p : Piece) → (has_sets ≡ true → last ≡ first ++ p ∷ [])
    → (has_sets ≡ false → last ≡ first) → IsPiece image p → All (IsPiece image) first → All (IsPiece image) last
all_pieces image true first last p added same is all =
    subst (All (IsPiece image)) (sym (added refl)) (All-append (IsPiece image) first (p ∷ []) all (one_piece image p is))
all_pieces image false first last p added same is all = subst (All (IsPiece image)) (sym (same refl)) all

-- the hart told this in the block
pub lies_so : (t : Task) (h n : ℕ) (past : List Item) (x : HartState) (told : List Event)
    → told ≡ (steps_of t.machine h n x (world t.machine t.mode past).shared).events
    → ((j : ℕ) → j < n → GoesInside j (steps_of t.machine h j x (world t.machine t.mode past).shared).hart)
    → x.since ≡ 0 → x.pc % 4 ≡ 0 → x.pc < 2 ^ 64 → LieAt t.machine.image x.pc told
lies_so t h n past x told events inside since aligned small = λ block at.
    subst (λ (es : List Event). All (λ e. LiesIn block e.what) es) (sym events)
    (events_lie_in_blocks t.machine h n x (world t.machine t.mode past).shared block at since aligned small inside)

pub block_made : (t u : Task) (h n : ℕ) (old new : List Item) (x y : HartState) (has_sets : Bool) (first mid last : List Piece)
    (pc : ℕ) (raw : LogState) → u ≡ t → new ≡ steps h n old → y ≡ hart_of u.machine u.mode new h
    → raw.events ≡ (steps_of t.machine h n x (world t.machine t.mode old).shared).events
    → IsPiece t.machine.image (record { pc = pc; raw = raw }) → mid ≡ first
    → (has_sets ≡ true → last ≡ mid ++ record { pc = pc; raw = raw } ∷ []) → (has_sets ≡ false → last ≡ mid)
    → GoesOnBy t h n old new x y has_sets first last
block_made t u h n old new x y has_sets first mid last pc raw task made is events piece took added same =
    let p : Piece = record { pc = pc; raw = raw } in
    let added' : has_sets ≡ true → last ≡ first ++ p ∷ [] = λ some. added some ∙ ap (λ (ps : List Piece). ps ++ p ∷ []) took in
    record {
      told = raw.events;
      made = made;
      is = is ∙ ap (λ (v : Task). hart_of v.machine v.mode new h) task;
      events = events;
      heard = λ some. ap events_of (added' some) ∙ events_on first p;
      each = all_pieces t.machine.image has_sets first last p added' (λ none. same none ∙ took) piece;
    }

pub goes_still : (s now : StateValue) (h : ℕ) (hart : HartState) → now.task ≡ s.task
    → hart ≡ hart_of now.task.machine now.task.mode now.past h → hart.parked ≡ false → (hart.ending ≡ None → hart.since ≡ 0)
    → (hart.ending ≡ None → hart.steps < s.task.machine.limit) → (hart.ending ≡ None → now.services.group ≡ None) → IsGoing now h hart
goes_still s now h hart task is awake leaves within going = record {
  is = is;
  awake = awake;
  leaves = leaves;
  within_limit = λ runs. subst (λ (t : Task). hart.steps < t.machine.limit) (sym task) (within runs);
  going_on = going;
}

-- The whole Turn.

pub whole_turn : (h n r : ℕ) (old mid new : StateValue) (x y z : HartState) (first : List Event) (has_sets : Bool) (p q : List Piece)
    → x ≡ hart_of old.task.machine old.task.mode old.past h → IsCommitted h n old mid x y first
    → (gone : GoesOnBy mid.task h r mid.past new.past y z has_sets p q) → new.task ≡ mid.task → InOrder new.task (stored_of new)
    → IsGoing new h z → n + r ≤ 512 → IsCommitted h (n + r) old new x z (first ++ gone.told)
whole_turn h n r old mid new x y z first has_sets p q is one gone task order going most =
    let same : new.task ≡ old.task = task ∙ one.task in
    record {
      made = gone.made ∙ (ap (steps h r) one.made ∙ joined h n r old.past);
      some = omega (arith, one.some);
      most = most;
      is = going.is;
      events = two_rows old.task h n r old.past mid.past x y first gone.told one.made is
          (one.is ∙ ap (λ (t : Task). hart_of t.machine t.mode mid.past h) one.task) one.events
          (gone.events ∙ ap (λ (t : Task). (steps_of t.machine h r y (world t.machine t.mode mid.past).shared).events) one.task);
      legal = order.legal;
      state_log = order.state_log;
      task = same;
      awake = going.awake;
      leaves = going.leaves;
      within_limit = λ runs. subst (λ (t : Task). z.steps < t.machine.limit) same (going.within_limit runs);
    }

-- what the boxes are to hear of it
pub hears_all : (t : Task) (h r : ℕ) (old new : List Item) (y z : HartState) (first : List Event) (has_sets : Bool) (p q : List Piece)
    (gone : GoesOnBy t h r old new y z has_sets p q) → p ≡ [] → has_sets ≡ true → first ++ gone.told ≡ first ++ events_of q
hears_all t h r old new y z first has_sets p q gone none some =
    ap (λ (es : List Event). first ++ es) (sym (gone.heard some ∙ ap (λ (ps : List Piece). events_of ps ++ gone.told) none))

pub all_heard : (t : Task) (h r : ℕ) (old new : List Item) (y z : HartState) (has_sets : Bool) (p q : List Piece)
    → GoesOnBy t h r old new y z has_sets p q → p ≡ [] → All (IsPiece t.machine.image) q
all_heard t h r old new y z has_sets p q gone none = gone.each (subst (All (IsPiece t.machine.image)) (sym none) (λ k d below. absurd (omega (arith, below))))
