-- The rule of a gate: what the queue holds and what each pass knows agree on one course of the value.
use Rattle.std.specs.Prelude.{◌≡◌, ◌≢◌, ℕ, ◌+◌, ◌<◌, ◌≤◌, true, false, List, [], ◌∷◌, ◌++◌, length}
use Rattle.std.specs.Prelude.{All, Some, None, count_by, ◌⊎◌}
use mathlib.Core.Option.{some}
use lib.ListN.{get_elem?}
use Rattle.crossbeam_queue.specs.Fifo.{Pushes, Pops}
use Rattle.crossbeam_queue.specs.Passes.{view, Pass as Place}
use Rattle.baton_gate.specs.declared.views.Ended.{Ended}
use Rattle.baton_gate.specs.declared.views.View.{View}
use Rattle.baton_gate.specs.declared.rule.Baton.{Baton}
use Rattle.baton_gate.specs.Logs.{Ahead, Within}

-- What the rule knows of the value: its log, the log and the frame that it began with, the number of parties, how many
-- passes were made, and which pass answers for each party.
pub record Course (I F : Type 0) : Type 0 where
  pub log : List I
  pub opening : List I
  pub frame : F
  pub parties : ℕ
  pub made : ℕ
  pub seat : ℕ → ℕ

module _ {I F : Type 0} where
  -- before the value is in the gate, the one pass has seen nothing
  abbrev pub unopened : View I F
  unopened = record { spent = false; holds = false; party = 0; made = 1; parties = 0; frame = None; opening = []; seen = []; ended = [] }

  -- the pass of party 0, once the value is in the gate
  abbrev pub opened : ℕ → F → List I → View I F
  opened parties frame log = record unopened { parties = parties; frame = Some frame; opening = log; seen = log }

  -- a pass that was joined into another
  abbrev pub spent_view : View I F
  spent_view = record { spent = true; holds = false; party = 0; made = 0; parties = 0; frame = None; opening = []; seen = []; ended = [] }

  -- after a take of a value with this log
  abbrev pub taken : View I F → List I → View I F
  taken v log = record v { holds = true; seen = log }

  -- after a give of a value with this log
  abbrev pub given : View I F → List I → View I F
  given v log = record v { holds = false; seen = log }

  -- after one more pass was made
  abbrev pub one_more : View I F → View I F
  one_more v = record v { made = v.made + 1 }

  -- that pass: it has the next number, and has seen the opening log
  abbrev pub newcomer : View I F → View I F
  newcomer v = record unopened { party = v.made; made = 0; parties = v.parties; frame = v.frame; opening = v.opening; seen = v.opening }

  -- what a pass stands for once it was joined into another
  abbrev pub ended_of : View I F → List (Ended I)
  ended_of w = (record { party = w.party; seen = w.seen }) ∷ w.ended

  -- after the pass that knows w was joined into the one that knows v
  abbrev pub joined : View I F → View I F → View I F
  joined v w = record v { ended = v.ended ++ ended_of w }

  -- how many passes hold the value
  abbrev pub holders : List (View I F) → ℕ
  holders views = count_by (λ (v : View I F). v.holds) views

module _ {S I F : Type 0} (log_of : S → List I) (party_of : I → ℕ) (frame_of : S → F) (caught_up : S → Type 0) where
  -- a party for which this pass answers: it has a number that was given out, and the log has nothing of it past what it saw
  pub record IsOf (c : Course I F) (port party : ℕ) (seen : List I) : Type 0 where
    pub seated : c.seat party ≡ port
    pub known : party < c.made
    pub ahead : Ahead party_of c.log party seen

  -- what a pass that is not spent knows, and the course
  pub record Fits (c : Course I F) (port : ℕ) (v : View I F) : Type 0 where
    pub frame : v.frame ≡ Some c.frame
    pub parties : v.parties ≡ c.parties
    pub opening : v.opening ≡ c.opening
    pub made : v.party ≡ 0 → v.made ≡ c.made
    pub holder : v.holds ≡ true → v.seen ≡ c.log
    pub own : IsOf c port v.party v.seen
    pub ended : All (λ (e : Ended I). IsOf c port e.party e.seen × (e.party ≢ v.party)) v.ended

  -- what the queue carries is what the course knows
  pub record IsAt (c : Course I F) (x : Baton S) : Type 0 where
    pub log : log_of x.state ≡ c.log
    pub frame : frame_of x.state ≡ c.frame
    pub ready : caught_up x.state
    pub count : x.parties ≡ c.parties

  -- The value is either in the queue or with one holder. All passes that are not spent fit its course.
  pub record Runs (c : Course I F) (items : List (Baton S)) (views : List (View I F)) : Type 0 where
    pub place : holders views + length items ≡ 1
    pub queued : All (IsAt c) items
    pub within : Within party_of c.log c.made c.opening
    pub few : c.made ≤ c.parties
    pub fits : (port : ℕ) (v : View I F) → get_elem? views port ≡ some v → v.spent ≡ false → Fits c port v

  -- the rule: the value is not in the gate yet, or it runs some course
  abbrev pub InCourse : List (Baton S) → List (View I F) → Type 0
  InCourse items views = ((items ≡ []) × (views ≡ unopened ∷ [])) ⊎ ((c : Course I F) × Runs c items views)

  -- what a take by a pass that knows v tells of the value
  pub record IsTaken (v : View I F) (x : S) : Type 0 where
    pub ready : caught_up x
    pub frame : v.frame ≡ Some (frame_of x)
    pub own : Ahead party_of (log_of x) v.party v.seen
    pub ended : All (λ (e : Ended I). Ahead party_of (log_of x) e.party e.seen) v.ended
    pub within : Within party_of (log_of x) v.parties v.opening

  -- at any moment the value may leave the queue by this pass, and then the pass knows what `then` says
  abbrev pub MayPop : Place (Baton S) (View I F) → (View I F → Baton S → View I F → Type 0) → Type 0
  MayPop place then = Pops InCourse place.id (view place) (then (view place))

  -- at any moment the value may enter the queue, where that has room for it, by this pass, and then the pass knows what `then` says
  abbrev pub MayPush : ℕ → Place (Baton S) (View I F) → Baton S → (View I F → Baton S → View I F → Type 0) → Type 0
  MayPush room place x then = Pushes InCourse room place.id (view place) x (then (view place) x)
