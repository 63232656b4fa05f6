-- The events of pieces, heard one after the other.
use Rattle.std.proofs.Common.{◌≡◌, ◌+◌, ◌-◌, ◌<◌, ◌≤◌, ◌++◌, ◌∙◌, [], ℕ, List, take, length, refl, sym, ap}
use Rattle.std.specs.Prelude.{slice_index_or, Result, Ok, Err, OnOk}
use Rattle.flat_model.specs.declared.events.Event.{Event}
use Rattle.flat_model.specs.declared.plugins.Ask.TheVariants.{Stay}
use Rattle.flat_model.specs.declared.plugins.SetSpec.{SetSpec}
use Rattle.flat_model.specs.Image.{Program}
use Rattle.event_walk.specs.Matches.{Classes, classes_of}
use Rattle.event_walk.specs.Walk.{Walk}
use Rattle.watcher_api.specs.declared.asks.Asks.{Asks}
use Rattle.watcher_api.specs.Acting.{acts_of, ask_of, walks_of, IsAbsent}
use Rattle.instr_lists.specs.Delivery.{no_asks, each_walks}
use Rattle.instr_lists.proofs.Events.{walk_on, none_walk, all_stay}
use Rattle.instr_lists.proofs.InARow.{take_here}
use Rattle.hart_runner.specs.declared.tapes.Piece.{Piece}
use Rattle.hart_runner.specs.Stretches.{events_of}
use Rattle.hart_runner.specs.declared.seats.Seat.{Seat}
use Rattle.hart_runner.specs.Turns.{HasHeard}
use Rattle.hart_runner.proofs.GoingOn.{events_on}
use Rattle.hart_runner.proofs.Lists.{none_heard}

pub none_yet : (classes : Classes) (sets : List (ℕ × SetSpec)) (ws : List Walk) → ws ≡ each_walks classes sets [] ws
none_yet classes sets ws = sym (none_walk classes sets ws)

-- one piece more
pub piece_more : (classes : Classes) (sets : List (ℕ × SetSpec)) (pieces : List Piece) (i : ℕ) (p : Piece) (now from next : List Walk)
    → i < length pieces → p ≡ slice_index_or pieces i p → now ≡ each_walks classes sets (events_of (take i pieces)) from
    → next ≡ each_walks classes sets p.raw.events now
    → next ≡ each_walks classes sets (events_of (take (i + 1) pieces)) from
piece_more classes sets pieces i p now from next below is so_far more =
    more
    ∙ (ap (each_walks classes sets p.raw.events) so_far
    ∙ (sym (walk_on classes sets (events_of (take i pieces)) p.raw.events from)
    ∙ ap (λ (es : List Event). each_walks classes sets es from)
    (sym (ap events_of (take_here pieces i p below is) ∙ events_on (take i pieces) p))))

-- behind the first block
pub hears_on : (image other : Program) (sets those : List (ℕ × SetSpec)) (first more : List Event) (ws mid last : List Walk)
    → other ≡ image → those ≡ sets → mid ≡ each_walks (classes_of image) sets first ws
    → last ≡ each_walks (classes_of other) those more mid → last ≡ each_walks (classes_of image) sets (first ++ more) ws
hears_on image other sets those first more ws mid last same are so_far on =
    on
    ∙ ((λ i. each_walks (classes_of (same i)) (are i) more (so_far i)) ∙ sym (walk_on (classes_of image) sets first more ws))

pub still_ok : {A B : Type 0} (r : Result A B) (P Q : Type 0) → (P → Q) → OnOk r P → OnOk r Q
still_ok (Ok x) P Q f p = f p
still_ok (Err e) P Q f p = tt

pub both_ok : {A B : Type 0} (r : Result A B) (P Q R : Type 0) → (P → Q → R) → OnOk r P → OnOk r Q → OnOk r R
both_ok (Ok x) P Q R f p q = f p q
both_ok (Err e) P Q R f p q = tt

-- Where a hart has no sets, and where it has some.

module _ {W : Type 0} where
  pub heard_none : (pieces : List Piece) (seat : Seat W) (asks : Asks) → length seat.attached ≡ 0 → asks.first ≡ no_asks
      → HasHeard pieces seat (record seat { asks = asks })
  heard_none pieces seat asks none quiet = record {
    acts = refl;
    walks = λ told all. none_heard (classes_of seat.image.value) seat.specs told asks.first no_asks seat.attached none;
    others = λ p one absent. ap (ask_of p) quiet ∙ all_stay 8 (p - 1);
    rest = refl;
  }

  pub heard_some : (pieces : List Piece) (seat new : Seat W) → 0 < length seat.attached
      → acts_of new.attached ≡ acts_of seat.attached → new ≡ record seat { attached = new.attached; asks = new.asks }
      → walks_of new.asks.first new.attached
      ≡ each_walks (classes_of seat.image.value) seat.specs (seat.raw.events ++ events_of pieces) (walks_of no_asks seat.attached)
      → ((p : ℕ) → 1 ≤ p → IsAbsent p seat.attached → ask_of p new.asks.first ≡ Stay)
      → HasHeard pieces seat new
  heard_some pieces seat new some acts same walks others = record {
    acts = acts;
    walks = λ told all.
        walks
        ∙ ap (λ (es : List Event). each_walks (classes_of seat.image.value) seat.specs es (walks_of no_asks seat.attached))
        (sym (all some));
    others = others;
    rest = same;
  }
