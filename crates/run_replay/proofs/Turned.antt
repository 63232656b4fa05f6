-- Turns that are followed, and those that break a rule.
use Rattle.std.proofs.Common.{◌≡◌, ◌==◌, ◌&&◌, ◌||◌, ◌+◌, ◌<◌, ◌≤◌, ◌++◌, ◌∷◌, [], ◌∙◌, ℕ, zero, suc, Bool, true, false, not, List}
use Rattle.std.proofs.Common.{Option, Some, None, refl, sym, ap, subst, arith, length, All, append_assoc}
use Rattle.std.specs.Prelude.{is_some, slice_set, min, slice_index_or, if◌then◌else◌, Result, Ok, Err, OnOk, IfOk}
use Rattle.std.specs.List.{list_all}
use Rattle.std.proofs.lemmas.Bool.{false≢true}
use Rattle.flat_model.specs.declared.plugins.Ask.{Ask}
use Rattle.flat_model.specs.declared.plugins.Ask.TheVariants.{Stay}
use Rattle.flat_model.specs.declared.events.Ending.{Ending}
use Rattle.flat_model.specs.declared.journals.Entry.TheVariants as entries
use Rattle.flat_model.specs.declared.journals.Item.{Item}
use Rattle.flat_model.specs.declared.journals.Item.TheVariants.{Step, Ordered, GaveBack, Left, Told, Got, Took}
use Rattle.flat_model.specs.declared.journals.Origin.TheVariants.{Start, Script, Asked, Control}
use Rattle.flat_model.specs.Image.{Program}
use Rattle.flat_model.specs.Log.{steps, journaled, party}
use Rattle.flat_model.specs.Registry.{Plugins, registry, plugin_of, is_closing}
use Rattle.flat_model.specs.World.{HartState, World}
use Rattle.flat_model.specs.Worlds.{world, hart_of, next_step}
use Rattle.block_finder.specs.Caches.{MayServe}
use Rattle.event_walk.specs.Matches.{classes_of}
use Rattle.watcher_api.specs.Acting.{acts_of, ask_of, walks_of, IsAbsent}
use Rattle.instr_lists.specs.Delivery.{acts_with, no_asks, each_walks}
use Rattle.baton_gate.specs.Logs.{GoesOn}
use Rattle.run_rules.specs.Guest.{Run, plugins}
use Rattle.run_rules.specs.Due.{turn_length, wanted, is_turning}
use Rattle.run_rules.specs.Laws.{AreOfOthers}
use Rattle.run_rules.specs.Legal.{Legal, is_there, may_step, owes_any, runs, passes_nothing_by, goes_on_in_time, numbers}
use Rattle.run_rules.specs.Places.{IsStateLog, place_of, is_with_hart, takes_all, taker}
use Rattle.run_rules.proofs.Turns.{plugins_keep, same, first_true, rest_true}
use Rattle.run_order.specs.Sets.{sets_for, is_closing_out}
use Rattle.run_order.specs.InOrder.{Task, InOrder, task_run}
use Rattle.kept_order.specs.Hearing.{specs_for}
use Rattle.kept_order.specs.Taking.{AreGots, LittleIsChanged}
use Rattle.kept_order.proofs.Gots.{gots_change_little}
use Rattle.kept_order.proofs.HeardTurns.{specs_are_of_sets}
use Rattle.host_state.specs.Scripting.{IsLineOf}
use Rattle.host_state.specs.State.{StateValue, stored_of}
use Rattle.host_state.specs.Taking.{IsGotBy}
use Rattle.replay_order.specs.Seats.{Seating, Sits}
use Rattle.replay_order.specs.Steps.{IsNoted}
use Rattle.replay_order.specs.Takes.{HasTaken}
use Rattle.replay_order.proofs.Entries.{broken_steps_break_turns}
use Rattle.replay_order.proofs.Steps.{steps_keep_seats}
use Rattle.replay_order.proofs.Takes.{takes_keep_seats}
use Rattle.run_replay.specs.declared.berths.Berth.{Berth}
use Rattle.run_replay.specs.declared.replays.Followed.{Followed}
use Rattle.run_replay.specs.declared.replays.Followed.TheVariants.{Went, Overdue, Breaks}
use Rattle.run_replay.specs.Following.{seating_of, IsBerth, IsPlaced, IsTurning, IsFollowing, IsFollowed, IsNext, IsLast, IsBreaking}
use Rattle.run_replay.specs.Lists.{AreLists}
use Rattle.run_replay.specs.Overdue.{IsTurn}
use Rattle.run_replay.specs.Turns.{MayTurn, HasGone, HasFollowedTurn, HasStepped, HasMade, CatchesUp, HasCaughtUp}
use Rattle.run_replay.proofs.Ahead.{steps_journaled, goes_journaled}
use Rattle.run_replay.proofs.Closings.{NoneOut, none_out_lines}
use Rattle.run_replay.proofs.Going.{GoesBy, goes_on, legal_then, state_then}
use Rattle.run_replay.proofs.Judged.{hart_low}
use Rattle.run_replay.proofs.Orders.{lines_keep_place}

pub still_ok : {A B : Type 0} (r : Result A B) (P Q : Type 0) → (P → Q) → OnOk r P → OnOk r Q
still_ok (Ok x) P Q f p = f p
still_ok (Err e) P Q f p = tt

-- What a Turn adds to a log.

pub gots_journaled : (h : ℕ) (more past : List Item) → All (IsGotBy h) more → journaled (more ++ past) ≡ journaled past
gots_journaled h [] past each = refl
gots_journaled h (Step hart ∷ more) past each = absurd (each 0 (Step hart) (omega arith))
gots_journaled h (Ordered origin order ∷ more) past each = absurd (each 0 (Ordered origin order) (omega arith))
gots_journaled h (GaveBack hart number ∷ more) past each = absurd (each 0 (GaveBack hart number) (omega arith))
gots_journaled h (Left hart ∷ more) past each = absurd (each 0 (Left hart) (omega arith))
gots_journaled h (Told who number ∷ more) past each = absurd (each 0 (Told who number) (omega arith))
gots_journaled h (Got hart number ∷ more) past each = gots_journaled h more past (λ k d low. each (suc k) d (omega (arith, low)))
gots_journaled h (Took who number ∷ more) past each = absurd (each 0 (Took who number) (omega arith))

pub are_gots : (h : ℕ) (more : List Item) → All (IsGotBy h) more → AreGots more
are_gots h [] each = tt
are_gots h (Step hart ∷ more) each = absurd (each 0 (Step hart) (omega arith))
are_gots h (Ordered origin order ∷ more) each = absurd (each 0 (Ordered origin order) (omega arith))
are_gots h (GaveBack hart number ∷ more) each = absurd (each 0 (GaveBack hart number) (omega arith))
are_gots h (Left hart ∷ more) each = absurd (each 0 (Left hart) (omega arith))
are_gots h (Told who number ∷ more) each = absurd (each 0 (Told who number) (omega arith))
are_gots h (Got hart number ∷ more) each = (tt, are_gots h more (λ k d low. each (suc k) d (omega (arith, low))))
are_gots h (Took who number ∷ more) each = absurd (each 0 (Took who number) (omega arith))

gots_own : (h g : ℕ) (more : List Item) → (h == g) ≡ false → All (IsGotBy h) more → AreOfOthers g more
gots_own h g [] off each = tt
gots_own h g (Step hart ∷ more) off each = absurd (each 0 (Step hart) (omega arith))
gots_own h g (Ordered origin order ∷ more) off each = absurd (each 0 (Ordered origin order) (omega arith))
gots_own h g (GaveBack hart number ∷ more) off each = absurd (each 0 (GaveBack hart number) (omega arith))
gots_own h g (Left hart ∷ more) off each = absurd (each 0 (Left hart) (omega arith))
gots_own h g (Told who number ∷ more) off each = absurd (each 0 (Told who number) (omega arith))
gots_own h g (Got hart number ∷ more) off each = (
  ap (λ (k : ℕ). k == g) (each 0 (Got hart number) (omega arith)) ∙ off,
  gots_own h g more off (λ k d low. each (suc k) d (omega (arith, low))),
)
gots_own h g (Took who number ∷ more) off each = absurd (each 0 (Took who number) (omega arith))

steps_own : (h g n : ℕ) (more : List Item) → (h == g) ≡ false → AreOfOthers g more → AreOfOthers g (steps h n more)
steps_own h g zero more off others = others
steps_own h g (suc n) more off others = (off, steps_own h g n more off others)

lines_own : (h g : ℕ) (lines more : List Item) → (h == g) ≡ false → All (IsLineOf h) lines → AreOfOthers g more → AreOfOthers g (lines ++ more)
lines_own h g [] more off each others = others
lines_own h g (Ordered (Script line who) order ∷ lines) more off each others = (
  ap (λ (k : ℕ). k == g) (each 0 (Ordered (Script line who) order) (omega arith)) ∙ off,
  lines_own h g lines more off (λ k d low. each (suc k) d (omega (arith, low))) others,
)
lines_own h g (Ordered Start order ∷ lines) more off each others = absurd (each 0 (Ordered Start order) (omega arith))
lines_own h g (Ordered (Asked hart number) order ∷ lines) more off each others =
    absurd (each 0 (Ordered (Asked hart number) order) (omega arith))
lines_own h g (Ordered (Control who) order ∷ lines) more off each others = absurd (each 0 (Ordered (Control who) order) (omega arith))
lines_own h g (Step hart ∷ lines) more off each others = absurd (each 0 (Step hart) (omega arith))
lines_own h g (GaveBack hart number ∷ lines) more off each others = absurd (each 0 (GaveBack hart number) (omega arith))
lines_own h g (Left hart ∷ lines) more off each others = absurd (each 0 (Left hart) (omega arith))
lines_own h g (Told who number ∷ lines) more off each others = absurd (each 0 (Told who number) (omega arith))
lines_own h g (Got hart number ∷ lines) more off each others = absurd (each 0 (Got hart number) (omega arith))
lines_own h g (Took who number ∷ lines) more off each others = absurd (each 0 (Took who number) (omega arith))

pub steps_before : (h n : ℕ) (more past : List Item) → steps h n (more ++ past) ≡ steps h n more ++ past
steps_before h zero more past = refl
steps_before h (suc n) more past = ap (λ (xs : List Item). Step h ∷ xs) (steps_before h n more past)

-- No closing goes out.

taker_steps : (p h n : ℕ) (past : List Item) → taker p (steps h n past) ≡ taker p past
unfolding taker
taker_steps p h zero past = refl
taker_steps p h (suc n) past = taker_steps p h n past

taker_gots : (p h : ℕ) (more past : List Item) → AreGots more → taker p (more ++ past) ≡ taker p past
unfolding taker
taker_gots p h [] past gots = refl
taker_gots p h (Got hart number ∷ more) past gots = taker_gots p h more past gots.1
taker_gots p h (Step hart ∷ more) past gots = absurd gots.0
taker_gots p h (Ordered origin order ∷ more) past gots = absurd gots.0
taker_gots p h (GaveBack hart number ∷ more) past gots = absurd gots.0
taker_gots p h (Left hart ∷ more) past gots = absurd gots.0
taker_gots p h (Told who number ∷ more) past gots = absurd gots.0
taker_gots p h (Took who number ∷ more) past gots = absurd gots.0

same_out : (t : Task) (h n p : ℕ) (more past : List Item) → AreGots more
    → is_closing_out (task_run t) p (steps h n (more ++ past)) ≡ is_closing_out (task_run t) p past
same_out t h n p more past gots =
    let run = task_run t in
    let now = steps h n (more ++ past) in
    let little : LittleIsChanged t past (more ++ past) = gots_change_little t more past gots in
    ap (λ (r : Plugins). is_closing (plugin_of r p).state && is_some (taker p now)) (plugins_keep run h n (more ++ past) ∙ little.plugins)
    ∙ ap (λ (o : Option ℕ). is_closing (plugin_of (plugins run past) p).state && is_some o)
    (taker_steps p h n (more ++ past) ∙ taker_gots p h more past gots)

-- what the rule of steps asks beside that the hart is there
abbrev may_then : Run → ℕ → List Item → Bool
may_then run h past =
    runs run h past
    && (not (owes_any run h past)
    && ((is_turning h past || passes_nothing_by run past) && list_all (goes_on_in_time run h past) (numbers (plugins run past))))

still_taken : (run : Run) (h : ℕ) (past : List Item) → takes_all run h (Step h ∷ past) ≡ takes_all run h past
unfolding place_of registry
still_taken run h past = refl

one_longer : (h : ℕ) (past : List Item) → turn_length h (Step h ∷ past) ≡ turn_length h past + 1
unfolding turn_length
one_longer h past = ap (λ (b : Bool). if b then turn_length h past + 1 else 0) (same h)

both : (run : Run) (h : ℕ) (past : List Item) → Legal run past → may_step run h past ≡ true → Legal run (Step h ∷ past)
unfolding Legal
both run h past legal may = (legal, may)

both_kept : (run : Run) (h : ℕ) (past : List Item) → IsStateLog run past → takes_all run h past ≡ true → IsStateLog run (Step h ∷ past)
unfolding IsStateLog
both_kept run h past kept taken = (kept, taken)

-- What breaks a rule.

without : (run : Run) (h : ℕ) (past : List Item) → is_there run h past ≡ false → may_step run h past ≡ false
without run h past off = ap (λ (b : Bool). b && may_then run h past) off

pub breaks_at : (s now : StateValue) (h made n : ℕ) → made < n → now.task ≡ s.task → now.past ≡ steps h made s.past
    → may_step (task_run now.task) h now.past ≡ false → IsBreaking (entries.Turn h n) s
breaks_at s now h made n below task gone off legal =
    let t = s.task in
    broken_steps_break_turns t.machine t.mode t.plan h made n now.past (journaled s.past) below
    (ap journaled gone ∙ steps_journaled h made s.past)
    (sym (ap (λ (x : Task). may_step (task_run x) h now.past) task) ∙ off) legal

pub breaks_first : (s : StateValue) (h n : ℕ) → 0 < n → may_step (task_run s.task) h s.past ≡ false → IsBreaking (entries.Turn h n) s
breaks_first s h n some off = breaks_at s s h 0 n some refl refl off

pub breaks_without : (s : StateValue) (h n : ℕ) → 0 < n → is_there (task_run s.task) h s.past ≡ false → IsBreaking (entries.Turn h n) s
breaks_without s h n some off = breaks_first s h n some (without (task_run s.task) h s.past off)

-- The same behind sets that were taken.

pub breaks_behind : (h n : ℕ) (old mid : StateValue) → mid.task ≡ old.task → GoesOn (IsGotBy h) old.past mid.past
    → IsBreaking (entries.Turn h n) mid → IsBreaking (entries.Turn h n) old
breaks_behind h n old mid task gots broken legal =
    let same : journaled mid.past ≡ journaled old.past = ap journaled gots.begins ∙ gots_journaled h gots.more old.past gots.later in
    broken (subst (λ (x : Task). Legal (task_run x) (steps h n (journaled mid.past))) (sym task)
    (subst (λ (xs : List Item). Legal (task_run old.task) (steps h n xs)) (sym same) legal))

last_behind : (h n : ℕ) (old mid now : StateValue) → mid.task ≡ old.task → GoesOn (IsGotBy h) old.past mid.past
    → now.task ≡ mid.task → now.past ≡ steps h n mid.past → journaled now.past ≡ steps h n (journaled old.past)
last_behind h n old mid now task gots on gone =
    ap journaled gone ∙ steps_journaled h n mid.past
    ∙ ap (steps h n) (ap journaled gots.begins ∙ gots_journaled h gots.more old.past gots.later)

module _ {W : Type 0} where
  -- One step.

  -- what a step makes of a hart's berth
  pub record IsStepMade (h : ℕ) (old new : StateValue) (b d : Berth W) (now : Option Program) (asks : List Ask) : Type 0 where
    pub task : new.task ≡ old.task
    pub past : new.past ≡ Step h ∷ old.past
    pub hart : d.hart ≡ hart_of new.task.machine new.task.mode new.past h
    pub awake : d.hart.parked ≡ false
    pub below : d.hart.ending ≡ None → d.hart.steps < old.task.machine.limit
    pub acts : acts_of d.attached ≡ acts_of b.attached
    pub walks : walks_of asks d.attached ≡ each_walks (classes_of old.task.machine.image) b.specs
        (next_step old.task.machine old.task.mode old.past h).events (walks_of no_asks b.attached)
    pub others : (p : ℕ) → 1 ≤ p → IsAbsent p b.attached → ask_of p asks ≡ Stay
    pub noted : IsNoted (seating_of b) (seating_of d) asks
    pub kept : d.raw.kept ≡ true
    pub cached : AreLists old.task.machine.image d.generation d.specs d.lists
    pub serves : MayServe now old.task.machine.image

  pub steps_on : (h made : ℕ) (old new : StateValue) (b d : Berth W) (were now : Option Program) (asks : List Ask)
      → IsTurning old.task h made old.past b were → InOrder old.task (stored_of old) → may_step (task_run old.task) h old.past ≡ true
      → IsStepMade h old new b d now asks → IsTurning new.task h (made + 1) new.past d now
  steps_on h made old new b d were now asks turning order may is =
      let t = old.task in
      let run = task_run t in
      let next = Step h ∷ old.past in
      let low = hart_low t h old.past (seating_of b) turning.berth.sits in
      let legal : Legal run next = both run h old.past order.legal may in
      let kept : IsStateLog run next = both_kept run h old.past order.state_log turning.taken in
      let hart : d.hart ≡ hart_of t.machine t.mode next h =
      is.hart ∙ ap (λ (x : Task). hart_of x.machine x.mode new.past h) is.task ∙ ap (λ (xs : List Item). hart_of t.machine t.mode xs h)
      is.past
      in
      let sits : Sits t h next (seating_of d) =
      steps_keep_seats t h old.past (seating_of b) (seating_of d) asks low legal kept turning.berth.sits hart is.awake is.below is.acts
      is.walks is.others is.noted in
      let then' : IsTurning t h (made + 1) next d now = record {
        berth = record { sits = sits; kept = is.kept; cached = is.cached };
        is = hart;
        caught_up = λ none. absurd (omega (arith, none));
        taken = still_taken run h old.past ∙ turning.taken;
        turn = one_longer h old.past ∙ ap (λ (n : ℕ). n + 1) turning.turn;
        serves = is.serves;
      } in
      subst (λ (x : Task). IsTurning x h (made + 1) new.past d now) (sym is.task)
      (subst (λ (xs : List Item). IsTurning t h (made + 1) xs d now) (sym is.past) then')

  -- Sets that are taken before.

  pub took_sets : (h : ℕ) (old new : StateValue) (b d : Berth W) → IsBerth old.task h old.past b → new.task ≡ old.task
      → GoesOn (IsGotBy h) old.past new.past → InOrder new.task (stored_of new)
      → d ≡ record b { attached = d.attached; specs = d.specs; generation = d.generation }
      → d.attached ≡ sets_for is_with_hart (task_run new.task) h new.past → d.specs ≡ specs_for (task_run new.task) h new.past
      → AreLists old.task.machine.image d.generation d.specs d.lists → IsBerth new.task h new.past d
  took_sets h old new b d berth task gots order rest sets filters cached =
      let t = old.task in
      let now = gots.more ++ old.past in
      let carry = λ (P : Task → List Item → Type 0) (is : P new.task new.past).
      subst (P t) gots.begins (subst (λ (x : Task). P x new.past) task is) in
      let taken : HasTaken t h now (seating_of b) (seating_of d) = record {
        hart = ap (λ (x : Berth W). x.hart) rest;
        asks = ap (λ (x : Berth W). x.asks.first) rest;
        since = ap (λ (x : Berth W). x.since) rest;
        sets = carry (λ x xs. d.attached ≡ sets_for is_with_hart (task_run x) h xs) sets;
        filters = carry (λ x xs. d.specs ≡ specs_for (task_run x) h xs) filters;
      } in
      let sits : Sits t h now (seating_of d) =
      takes_keep_seats t h gots.more old.past (seating_of b) (seating_of d) (hart_low t h old.past (seating_of b) berth.sits)
      (are_gots h gots.more gots.later) (carry (λ x xs. Legal (task_run x) xs) order.legal)
      (carry (λ x xs. IsStateLog (task_run x) xs) order.state_log) berth.sits taken in
      let is : IsBerth t h now d = record {
        sits = sits;
        kept = ap (λ (x : Berth W). x.raw.kept) rest ∙ berth.kept;
        cached = cached;
      } in
      subst (λ (x : Task). IsBerth x h new.past d) (sym task) (subst (λ (xs : List Item). IsBerth t h xs d) (sym gots.begins) is)

  -- so it is at the beginning of its Turn
  pub begins : (h : ℕ) (old new : StateValue) (b d : Berth W) (blocks : Option Program) → MayTurn h old b blocks → new.task ≡ old.task
      → GoesOn (IsGotBy h) old.past new.past → IsBerth new.task h new.past d → b.hart ≡ d.hart
      → b.hart ≡ hart_of old.task.machine old.task.mode old.past h
      → takes_all (task_run new.task) h new.past ≡ true → IsTurning new.task h 0 new.past d blocks
  begins h old new b d blocks may task gots berth same_hart is taken =
      let t = old.task in
      let little : LittleIsChanged t old.past (gots.more ++ old.past) =
      gots_change_little t gots.more old.past (are_gots h gots.more gots.later) in
      let changed : LittleIsChanged t old.past new.past = subst (LittleIsChanged t old.past) (sym gots.begins) little in
      record {
        berth = berth;
        is = sym same_hart ∙ is ∙ sym (ap (λ (w : World). w.harts h) changed.world)
            ∙ sym (ap (λ (x : Task). hart_of x.machine x.mode new.past h) task);
        caught_up = λ none. ap (λ (x : Task). wanted (task_run x) new.past) task ∙ changed.wanted ∙ may.caught_up;
        taken = taken;
        turn = changed.turn h ∙ may.anew;
        serves = subst (λ (x : Task). MayServe blocks x.machine.image) (sym task) may.serves;
      }

  -- Behind the sets that were taken.

  -- its steps are a Turn, behind which lines may be due
  pub is_turn : (h n : ℕ) (mid now : StateValue) (b d : Berth W) (were blocks : Option Program)
      → IsTurning mid.task h 0 mid.past b were → 0 < n → HasStepped h n mid now d blocks → IsTurn (task_run now.task) h n now.past
  is_turn h n mid now b d were blocks turning some made = record {
    before = mid.past;
    is = made.gone;
    some = some;
    anew = turning.turn;
    caught_up = ap (λ (x : Task). wanted (task_run x) mid.past) made.task ∙ turning.caught_up refl;
  }

  pub caught_up : (f : Followed) (h n : ℕ) (old mid now new : StateValue) (b : Berth W) (blocks : Option Program) → mid.task ≡ old.task
      → GoesOn (IsGotBy h) old.past mid.past → HasStepped h n mid now b blocks → HasCaughtUp f h now new
      → HasFollowedTurn f h n old new b blocks
  caught_up Went h n old mid now new b blocks task gots made did =
      let t = now.task in
      let lines = did.lines in
      let carry = λ (P : Task → List Item → Type 0) (is : P new.task new.past).
      subst (P t) lines.begins (subst (λ (x : Task). P x new.past) did.task is) in
      let low = hart_low t h now.past (seating_of b) made.berth.sits in
      let berth : IsBerth t h (lines.more ++ now.past) b =
      lines_keep_place t h h lines.more now.past (Some b) low lines.later (carry (λ x xs. Legal (task_run x) xs) did.order.legal)
      (carry (λ x xs. IsStateLog (task_run x) xs) did.order.state_log) made.berth in
      record {
        task = did.task ∙ made.task ∙ task;
        open_now = did.open_now;
        berth = subst (λ (x : Task). IsBerth x h new.past b) (sym did.task)
            (subst (λ (xs : List Item). IsBerth t h xs b) (sym lines.begins) berth);
        serves = subst (λ (x : Task). MayServe blocks x.machine.image) (sym did.task) made.serves;
        between = mid.past;
        gots = gots;
        gone = subst (λ (xs : List Item). GoesOn (IsLineOf h) xs new.past) made.gone lines;
        caught_up = did.caught_up;
      }
  caught_up Overdue h n old mid now new b blocks task gots made did =
      let last = last_behind h n old mid now task gots made.task made.gone in
      subst (λ (s : StateValue). IsLast (entries.Turn h n) old s) (sym did.0)
      (record { task = made.task ∙ task; items = last; overdue = did.1 })
  caught_up Breaks h n old mid now new b blocks task gots made did = absurd did

  pub caught_up_ok : {E : Type 0} (r : Result Followed E) (h n : ℕ) (old mid now new : StateValue) (b : Berth W) (blocks : Option Program)
      → mid.task ≡ old.task → GoesOn (IsGotBy h) old.past mid.past → HasStepped h n mid now b blocks
      → IfOk r (λ f. HasCaughtUp f h now new) → IfOk r (λ f. HasFollowedTurn f h n old new b blocks)
  caught_up_ok (Ok f) h n old mid now new b blocks task gots made did = caught_up f h n old mid now new b blocks task gots made did
  caught_up_ok (Err e) h n old mid now new b blocks task gots made did = tt

  -- The whole.

  pub follows : (f : Followed) (h n : ℕ) (old new : StateValue) (berths : List (Option (Berth W))) (b : Berth W)
      (were now : Option Program) → IsFollowing old berths were → InOrder new.task (stored_of new) → HasFollowedTurn f h n old new b now
      → IsFollowed f (entries.Turn h n) old new (slice_set berths h (Some b)) now
  follows Breaks h n old new berths b were now following order breaks = breaks
  follows Overdue h n old new berths b were now following order last = last
  follows Went h n old new berths b were now following order is =
      let t = old.task in
      let gots = is.gots in
      let lines = is.gone in
      let steps_made = steps h n gots.more in
      let more = lines.more ++ steps_made in
      let stepped : steps h n is.between ≡ steps_made ++ old.past =
      ap (steps h n) gots.begins ∙ steps_before h n gots.more old.past in
      let past : new.past ≡ more ++ old.past =
      lines.begins ∙ ap (λ (xs : List Item). lines.more ++ xs) stepped ∙ sym (append_assoc lines.more steps_made old.past) in
      let goes : GoesBy more old new = record { task = is.task; open_now = is.open_now; past = past; order = order } in
      let told : journaled (steps h n is.between) ≡ steps h n (journaled old.past) =
      steps_journaled h n is.between
      ∙ ap (steps h n) (ap journaled gots.begins ∙ gots_journaled h gots.more old.past gots.later) in
      let next : IsNext (entries.Turn h n) old new = record {
        task = is.task;
        party = h;
        items = subst (λ (xs : List Item). GoesOn (IsLineOf h) xs (journaled new.past)) told
            (goes_journaled h (steps h n is.between) new.past lines);
      } in
      let own : IsPlaced t h (more ++ old.past) (Some b) =
      subst (λ (xs : List Item). IsBerth t h xs b) past (subst (λ (x : Task). IsBerth x h new.past b) is.task is.berth) in
      let wants : wanted (task_run t) (more ++ old.past) ≡ None =
      subst (λ (xs : List Item). wanted (task_run t) xs ≡ None) past
      (subst (λ (x : Task). wanted (task_run x) new.past ≡ None) is.task is.caught_up) in
      let same_log = append_assoc lines.more steps_made old.past in
      let none : NoneOut (task_run t) (lines.more ++ (steps_made ++ old.past)) =
      none_out_lines (task_run t) h lines.more (steps_made ++ old.past) lines.later
      (subst (Legal (task_run t)) same_log (legal_then more old new goes))
      (subst (IsStateLog (task_run t)) same_log (state_then more old new goes))
      (λ p. ap (is_closing_out (task_run t) p) (sym (steps_before h n gots.more old.past))
      ∙ same_out t h n p gots.more old.past (are_gots h gots.more gots.later) ∙ following.none_out p) in (
        next,
        goes_on h more old new berths (Some b) were now following goes wants
            (λ g off. lines_own h g lines.more steps_made off lines.later
            (steps_own h g n gots.more off (gots_own h g gots.more off gots.later)))
            (λ p. subst (NoneOut (task_run t)) (sym same_log) none p)
            (subst (λ (x : Task). MayServe now x.machine.image) is.task is.serves) own,
      )

-- What a step needs.

pub may_make : (run : Run) (h : ℕ) (past : List Item) → Legal run past → may_step run h past ≡ true → Legal run (Step h ∷ past)
unfolding Legal
may_make run h past legal may = (legal, may)

none_ended : (o : Option Ending) → not (is_some o) ≡ true → o ≡ None
none_ended None is = refl
none_ended (Some e) is = absurd (false≢true is)

-- its hart has not ended
pub running : (t : Task) (h : ℕ) (past : List Item) (hart : HartState) → hart ≡ hart_of t.machine t.mode past h
    → may_step (task_run t) h past ≡ true → hart.ending ≡ None
running t h past hart is may =
    let run = task_run t in
    let goes : runs run h past ≡ true = first_true (runs run h past) _ (rest_true (is_there run h past) _ may) in
    let going : not (is_some (hart_of t.machine t.mode past h).ending) ≡ true =
    first_true _ _ (rest_true (not (hart_of t.machine t.mode past h).parked) _ goes) in
    ap (λ (x : HartState). x.ending) is ∙ none_ended (hart_of t.machine t.mode past h).ending going

-- a hart's sets have the acts of their filters
pub acts_fit : (t : Task) (h : ℕ) (past : List Item) (s : Seating) → Sits t h past s → acts_of s.sets ≡ acts_with s.filters
acts_fit t h past s sits =
    ap acts_of sits.sets ∙ specs_are_of_sets (task_run t) h past ∙ sym (ap acts_with sits.filters)
