-- What a walk gives and where it stands.
use Rattle.std.proofs.Common.{◌≡◌, ◌==◌, ◌+◌, ◌*◌, ◌<◌, ◌≤◌, ◌∙◌, ℕ, suc, true, false, List, [], ◌∷◌, ◌++◌, length, take, drop}
use Rattle.std.proofs.Common.{Option, Some, refl, sym, ap, subst, append_assoc, append-nil, length-append, add-one, arith, drop-cons}
use Rattle.std.specs.Prelude.{slice_get, slice_index_or}
use Rattle.std.proofs.lemmas.List.{take_all, drop_all}
use Rattle.std.proofs.lemmas.List.Elements.{filter-append}
use Rattle.std.proofs.lemmas.Option.{slice_get_past}
use Rattle.std.proofs.lemmas.Bool.{false≢true}
use Rattle.flat_model.specs.declared.events.Event.{Event}
use Rattle.flat_model.specs.declared.journals.Entry.{Entry}
use Rattle.flat_model.specs.declared.journals.Entry.TheVariants.{Turn}
use Rattle.flat_model.specs.declared.journals.Item.{Item}
use Rattle.flat_model.specs.declared.journals.Item.TheVariants.{Step}
use Rattle.flat_model.specs.declared.journals.Mode.{Mode}
use Rattle.flat_model.specs.Log.{log, steps}
use Rattle.flat_model.specs.World.{Machine}
use Rattle.flat_model.specs.Worlds.{next_step}
use Rattle.lock_step.specs.Runs.{can_step, IsRun}
use Rattle.lock_step.specs.Tellings.{all_told, of_hart}
use Rattle.lock_step.specs.Kept.{LoneState}
use Rattle.lock_step.specs.Positions.{steps_alone, with_made, so_far, HasMade, IsPlace, HasStep, IsWalking}
use Rattle.lock_step.specs.Walks.{WalkState, HasGiven, HasGivenAll, IsStuckAt, HasGivenOne, StuckIsNoRun}
use Rattle.lock_step.proofs.Alone.{alone_told, alone_can, alone_run}
use Rattle.lock_step.proofs.Extending.{Extends, log_extends, was_run, could_step, steps_run, opening_run}
use Rattle.lock_step.proofs.Extending.{at_start, before_start}

told_so_far : (run : LoneState) (es : List Entry) (place made passed : ℕ) (given : List Event) → IsWalking run es place made passed given
    → all_told run.machine run.mode (so_far es place made) ≡ given ++ drop passed run.events
told_so_far run es place made passed given w =
    sym (alone_told run.machine run.mode (so_far es place made)) ∙ ap (all_told run.machine run.mode) (sym w.past) ∙ w.told

run_so_far : (run : LoneState) (es : List Entry) (place made passed : ℕ) (given : List Event) → IsWalking run es place made passed given
    → IsRun run.machine run.mode (so_far es place made)
run_so_far run es place made passed given w =
    alone_run run.machine run.mode (so_far es place made) (subst (IsRun run.machine run.mode) w.past w.runs)

all_passed : (run : LoneState) (es : List Entry) (place made passed : ℕ) (given : List Event) → IsWalking run es place made passed given
    → length run.events ≤ passed → all_told run.machine run.mode run.past ≡ given
all_passed run es place made passed given w all =
    w.told ∙ ap (λ (l : List Event). given ++ l) (drop_all passed run.events all) ∙ append-nil given

pub given_of : (run : LoneState) (es : List Entry) (place made passed : ℕ) (given : List Event)
    → IsWalking run es place made passed given
    → HasGiven (record { machine = run.machine; mode = run.mode; entries = es; given = given })
given_of run es place made passed given w =
    let far : Extends (so_far es place made) (log es) = log_extends es place made w.at.steps in
    record {
      past = so_far es place made;
      more = far.more;
      begins = far.is;
      runs = run_so_far run es place made passed given w;
      left = drop passed run.events;
      told = told_so_far run es place made passed given w;
    }

-- a walk before its first step
pub opening_walking : (m : Machine) (mode : Mode) (es : List Entry)
    → IsWalking (record { machine = m; mode = mode; past = []; events = [] }) es 0 0 0 []
unfolding all_told
opening_walking m mode es =
    record {
      at = record { within = omega arith; steps = at_start (slice_get es 0) };
      past = sym (ap steps_alone (before_start (slice_get es 0) []));
      runs = opening_run m mode;
      some = omega arith;
      told = refl;
    }

-- the next event of the last step is given
pub gives : (run : LoneState) (es : List Entry) (place made passed : ℕ) (given : List Event) (e : Event)
    → IsWalking run es place made passed given → passed < length run.events → e ≡ slice_index_or run.events passed e
    → IsWalking run es place made (passed + 1) (given ++ e ∷ [])
gives run es place made passed given e w more is = record {
  at = w.at;
  past = w.past;
  runs = w.runs;
  some = omega (arith, more);
  told = w.told
      ∙ ap (λ (l : List Event). given ++ l) (drop-cons run.events passed e more
      ∙ ap (λ (x : Event). x ∷ drop (suc passed) run.events) (sym is)
      ∙ ap (λ (n : ℕ). e ∷ drop n run.events) (sym (add-one passed)))
      ∙ sym (append_assoc given (e ∷ []) (drop (passed + 1) run.events));
}

-- the walk goes on to another entry
pub seeks : (run : LoneState) (es : List Entry) (place made place' made' passed : ℕ) (given : List Event)
    → IsWalking run es place made passed given → IsPlace es place' made'
    → steps_alone (so_far es place' made') ≡ steps_alone (so_far es place made) → IsWalking run es place' made' passed given
seeks run es place made place' made' passed given w at same = record {
  at = at;
  past = w.past ∙ sym same;
  runs = w.runs;
  some = w.some;
  told = w.told;
}

-- all is given at the journal's end
pub ends : (run : LoneState) (es : List Entry) (place made passed : ℕ) (given : List Event)
    → IsWalking run es place made passed given → length run.events ≤ passed → place ≡ length es
    → HasGivenAll (record { machine = run.machine; mode = run.mode; entries = es; given = given })
ends run es place made passed given w all at_end =
    let no_entry = slice_get_past es place (omega (arith, at_end)) in
    let is : so_far es place made ≡ log es =
    ap (λ (o : Option Entry). with_made o made (log (take place es))) no_entry ∙ ap log (take_all place es (omega (arith, at_end))) in
    record {
      runs = subst (IsRun run.machine run.mode) is (run_so_far run es place made passed given w);
      told = ap (all_told run.machine run.mode) (sym is) ∙ sym (alone_told run.machine run.mode (so_far es place made))
          ∙ ap (all_told run.machine run.mode) (sym w.past) ∙ all_passed run es place made passed given w all;
    }

turn_so_far : (es : List Entry) (place made h n : ℕ) → slice_get es place ≡ Some (Turn h n)
    → so_far es place made ≡ steps h made (log (take place es))
turn_so_far es place made h n is = ap (λ (o : Option Entry). with_made o made (log (take place es))) is

-- the walk can't make the next step
pub sticks : (run : LoneState) (es : List Entry) (place made passed h n : ℕ) (given : List Event)
    → IsWalking run es place made passed given → length run.events ≤ passed → slice_get es place ≡ Some (Turn h n) → made < n
    → can_step run.machine run.mode run.past h ≡ false
    → IsStuckAt (record { machine = run.machine; mode = run.mode; entries = es; given = given }) place
sticks run es place made passed h n given w all is further cannot =
    let m = run.machine in
    let mode = run.mode in
    let turn = turn_so_far es place made h n is in
    record {
      hart = h;
      n = n;
      turn = is;
      k = made;
      further = further;
      runs = subst (IsRun m mode) turn (run_so_far run es place made passed given w);
      breaks = ap (λ (l : List Item). can_step m mode l h) (sym turn) ∙ sym (alone_can m mode (so_far es place made) h)
          ∙ ap (λ (l : List Item). can_step m mode l h) (sym w.past) ∙ cannot;
      told = ap (all_told m mode) (sym turn) ∙ sym (alone_told m mode (so_far es place made))
          ∙ ap (all_told m mode) (sym w.past) ∙ all_passed run es place made passed given w all;
    }

-- or makes it
pub steps_on : (run next : LoneState) (es : List Entry) (place made passed h n : ℕ) (given : List Event)
    → IsWalking run es place made passed given → length run.events ≤ passed → slice_get es place ≡ Some (Turn h n) → made < n
    → can_step run.machine run.mode run.past h ≡ true
    → next ≡ record run { past = Step h ∷ run.past; events = (next_step run.machine run.mode run.past h).events }
    → IsWalking next es place (made + 1) 0 given
unfolding all_told
steps_on run next es place made passed h n given w all is further can stepped =
    let m = run.machine in
    let mode = run.mode in
    let events = (next_step m mode run.past h).events in
    let after : LoneState = record run { past = Step h ∷ run.past; events = events } in
    let turn = turn_so_far es place made h n is in
    subst (λ (x : LoneState). IsWalking x es place (made + 1) 0 given) (sym stepped) (record {
      at = record {
        within = w.at.within;
        steps = subst (λ (o : Option Entry). HasMade o (made + 1)) (sym is) (omega (arith, further));
      };
      past = ap (λ (l : List Item). Step h ∷ l) (w.past ∙ ap steps_alone turn)
          ∙ ap (λ (k : ℕ). steps_alone (steps h k (log (take place es)))) (sym (add-one made))
          ∙ ap steps_alone (sym (turn_so_far es place (made + 1) h n is));
      runs = steps_run m mode h run.past w.runs can;
      some = omega arith;
      told = ap (λ (l : List Event). l ++ events) (all_passed run es place made passed given w all);
    })

-- no hart has been given more than it has told
pub few_given : (h most : ℕ) (told given left : List Event) → told ≡ given ++ left → length (of_hart h told) ≤ most
    → length (of_hart h given) ≤ most
few_given h most told given left is few =
    let parts = ap (λ (l : List Event). length (of_hart h l)) is
    ∙ ap length (filter-append (λ (e : Event). e.hart == h) given left) in
    let all = length-append (of_hart h given) (of_hart h left) in
    omega (arith, parts, all, few)

-- What a walk answers.

pub gives_on : (run : LoneState) (es : List Entry) (place made passed passed' : ℕ) (given given' : List Event) (e : Event)
    → IsWalking run es place made passed given → passed < length run.events → e ≡ slice_index_or run.events passed e
    → passed' ≡ passed + 1 → given' ≡ given ++ e ∷ [] → IsWalking run es place made passed' given'
gives_on run es place made passed passed' given given' e w more is passes gives_it =
    subst (λ (k : ℕ). IsWalking run es place made k given') (sym passes)
    (subst (λ (l : List Event). IsWalking run es place made (passed + 1) l) (sym gives_it)
    (gives run es place made passed given e w more is))

pub gives_one : (old : WalkState) (run : LoneState) (es : List Entry) (place made passed : ℕ) (given given' : List Event) (e : Event)
    → old ≡ record { machine = run.machine; mode = run.mode; entries = es; given = given }
    → IsWalking run es place made passed given → passed < length run.events → e ≡ slice_index_or run.events passed e
    → given' ≡ given ++ e ∷ []
    → ((h : ℕ) → h < run.machine.harts → length (of_hart h (all_told run.machine run.mode run.past)) ≤ 6 * run.machine.limit)
    → HasGivenOne old e (record { machine = run.machine; mode = run.mode; entries = es; given = given' })
gives_one old run es place made passed given given' e was w more is gives_it few =
    let next : IsWalking run es place made (passed + 1) given' = gives_on run es place made passed (passed + 1) given given' e w more is refl
    gives_it in
    record {
      one = subst (λ (o : WalkState). record { machine = run.machine; mode = run.mode; entries = es; given = given' }
          ≡ record o { given = o.given ++ e ∷ [] }) (sym was)
          (ap (λ (l : List Event). record { machine = run.machine; mode = run.mode; entries = es; given = l }) gives_it);
      given = given_of run es place made (passed + 1) given' next;
      few = λ h low. few_given h (6 * run.machine.limit) (all_told run.machine run.mode run.past) given' (drop (passed + 1) run.events)
          next.told (few h low);
    }

pub sticks_here : (run still : LoneState) (es : List Entry) (place made place' made' passed h : ℕ) (given : List Event) → still ≡ run
    → IsWalking run es place made passed given → length run.events ≤ passed → IsPlace es place' made'
    → steps_alone (so_far es place' made') ≡ steps_alone (so_far es place made) → HasStep es place' made' h
    → can_step run.machine run.mode run.past h ≡ false
    → IsStuckAt (record { machine = still.machine; mode = still.mode; entries = es; given = given }) place'
sticks_here run still es place made place' made' passed h given same w all at alike (n, turn, further) cannot =
    subst (λ (r : LoneState). IsStuckAt (record { machine = r.machine; mode = r.mode; entries = es; given = given }) place') (sym same)
    (sticks run es place' made' passed h n given (seeks run es place made place' made' passed given w at alike) all turn further cannot)

pub makes_one : (run still next : LoneState) (es : List Entry) (place made place' made' passed h : ℕ) (given : List Event) → still ≡ run
    → IsWalking run es place made passed given → length run.events ≤ passed → IsPlace es place' made'
    → steps_alone (so_far es place' made') ≡ steps_alone (so_far es place made) → HasStep es place' made' h
    → can_step run.machine run.mode run.past h ≡ true
    → next ≡ record still { past = Step h ∷ still.past; events = (next_step still.machine still.mode still.past h).events }
    → IsWalking next es place' (made' + 1) 0 given
makes_one run still next es place made place' made' passed h given same w all at alike (n, turn, further) can stepped =
    steps_on run next es place' made' passed h n given (seeks run es place made place' made' passed given w at alike) all turn further can
    (stepped ∙ ap (λ (r : LoneState). record r { past = Step h ∷ r.past; events = (next_step r.machine r.mode r.past h).events }) same)

pub view_stays : (old : WalkState) (run still next : LoneState) (es : List Entry) (h : ℕ) (given : List Event) → still ≡ run
    → record { machine = run.machine; mode = run.mode; entries = es; given = given } ≡ old
    → next ≡ record still { past = Step h ∷ still.past; events = (next_step still.machine still.mode still.past h).events }
    → old ≡ record { machine = next.machine; mode = next.mode; entries = es; given = given }
view_stays old run still next es h given same was stepped =
    let seen : LoneState → WalkState = λ r. record { machine = r.machine; mode = r.mode; entries = es; given = given } in
    sym was ∙ ap seen (sym same) ∙ ap seen (sym stepped)

-- a run has no step that can't be made
pub stuck_is_no_run : StuckIsNoRun
stuck_is_no_run w place stuck runs =
    let es = w.entries in
    let past = steps stuck.hart stuck.k (log (take place es)) in
    let has : HasMade (slice_get es place) (suc stuck.k) =
    subst (λ (o : Option Entry). HasMade o (suc stuck.k)) (sym stuck.turn) (let low = stuck.further in omega (arith, low)) in
    let far : Extends (Step stuck.hart ∷ past) (log es) =
    subst (λ (l : List Item). Extends l (log es)) (turn_so_far es place (suc stuck.k) stuck.hart stuck.n stuck.turn)
    (log_extends es place (suc stuck.k) has) in
    let can = could_step w.machine w.mode stuck.hart past (was_run w.machine w.mode (Step stuck.hart ∷ past) (log es) far runs) in
    false≢true (sym stuck.breaks ∙ can)
