-- A hart whose boxes have heard its Turn is in order again.
use Rattle.std.proofs.Common.{◌≡◌, ◌<◌, ◌≤◌, ◌∙◌, ℕ, zero, suc, false, List, Option, Some, None, Result, Ok}
use Rattle.std.proofs.Common.{refl, sym, ap, subst}
use Rattle.std.specs.Prelude.{All, IsSome, IfOk, MatchOption}
use Rattle.std.proofs.lemmas.Bool.{false≢true}
use Rattle.flat_model.specs.declared.events.Event.{Event}
use Rattle.flat_model.specs.declared.plugins.Ask.{Ask}
use Rattle.flat_model.specs.declared.plugins.Ask.TheVariants.{Stay}
use Rattle.flat_model.specs.declared.plugins.SetSpec.{SetSpec}
use Rattle.flat_model.specs.declared.journals.Item.{Item}
use Rattle.flat_model.specs.declared.refusals.NoMemory.{NoMemory}
use Rattle.flat_model.specs.Image.{Program}
use Rattle.flat_model.specs.Log.{steps}
use Rattle.flat_model.specs.Registry.{registry}
use Rattle.flat_model.specs.Step.{steps_of}
use Rattle.flat_model.specs.World.{HartState}
use Rattle.flat_model.specs.Worlds.{world, hart_of}
use Rattle.block_finder.specs.Caches.{MayServe}
use Rattle.event_walk.specs.Matches.{classes_of}
use Rattle.watcher_api.specs.Acting.{acts_of, ask_of, walks_of, IsAbsent}
use Rattle.watcher_api.specs.Attachment.{Attachment}
use Rattle.instr_lists.specs.declared.kept_lists.KeptList.{KeptList}
use Rattle.instr_lists.specs.Delivery.{acts_with, no_asks, each_walks}
use Rattle.run_rules.specs.Guest.{Run}
use Rattle.run_rules.specs.Legal.{Legal, is_there}
use Rattle.run_rules.specs.Places.{IsStateLog, is_with_hart}
use Rattle.run_order.specs.Sets.{sets_for}
use Rattle.run_order.specs.InOrder.{Task, task_run}
use Rattle.kept_order.specs.Hearing.{HaveHeard, specs_for}
use Rattle.kept_order.proofs.Asking.{asks_wait}
use Rattle.kept_order.proofs.Gone.{there_low}
use Rattle.kept_order.proofs.HeardTurns.{specs_are_of_sets, turns_are_heard, turns_move_no_sets}
use Rattle.host_state.specs.Moving.{IsPrivateTurn}
use Rattle.hart_runner.specs.declared.going_ahead.Ahead as going
use Rattle.hart_runner.specs.declared.holding.Hold.{Hold}
use Rattle.hart_runner.specs.declared.holding.Hold.TheVariants as holds
use Rattle.hart_runner.specs.declared.runners.Turned.TheVariants.{Went}
use Rattle.hart_runner.specs.declared.seats.Seat.{Seat}
use Rattle.hart_runner.specs.declared.tapes.Piece.{Piece}
use Rattle.hart_runner.specs.Stretches.{IsPiece, LieAt}
use Rattle.hart_runner.specs.Holds.{HasTurned}
use Rattle.hart_runner.specs.Lists.{AreLists}
use Rattle.hart_runner.specs.Parts.{IsPart, IsStillPart}
use Rattle.hart_runner.specs.Seats.{IsSeated}
use Rattle.hart_runner.specs.Turns.{HasGone, HasHeard, HasLists, IsAhead, IsDone, IsTurned, MayHear, Sits, turned_of}
use Rattle.hart_runner.proofs.Between.{lists_again, regone, still_done, still_lists}

same_there : (run : Run) (h n : ℕ) (past : List Item) → is_there run h (steps h n past) ≡ is_there run h past
unfolding registry
same_there run h zero past = refl
same_there run h (suc n) past = same_there run h n past

-- what delivery leaves of the sets and of the asks
record AreHeard (image : Program) (sets : List Attachment) (filters : List (ℕ × SetSpec)) (told : List Event) (after : List Attachment)
    (asked : List Ask) : Type 0 where
  acts : acts_of after ≡ acts_of sets
  walks : walks_of asked after ≡ each_walks (classes_of image) filters told (walks_of no_asks sets)
  others : (p : ℕ) → 1 ≤ p → IsAbsent p sets → ask_of p asked ≡ Stay

heard_seated : (t : Task) (h : ℕ) (past : List Item) (hart : HartState) (sets : List Attachment) (filters : List (ℕ × SetSpec))
    (told : List Event) (after : List Attachment) (asked : List Ask) → HasTurned t h past hart sets filters told
    → AreHeard t.machine.image sets filters told after asked → IsSeated t h past hart after filters asked
heard_seated t h past hart sets filters told after asked turned heard =
    let run = task_run t in
    let n = turned.n in
    let before = turned.before in
    let first = sets_for is_with_hart run h before in
    let low : h < t.machine.harts = there_low run h before turned.there in
    let legal : Legal run (steps h n before) = turned.legal in
    let state : IsStateLog run (steps h n before) = turned.state_log in
    let lets = turned.lets_be in
    let told_by = (steps_of t.machine h n (hart_of t.machine t.mode before h) (world t.machine t.mode before).shared).events in
    let Is : List Attachment × List (ℕ × SetSpec) × List Event → Type 0 = λ y. AreHeard t.machine.image y.0 y.1 y.2 after asked in
    let did : AreHeard t.machine.image first (specs_for run h before) told_by after asked =
    subst Is (λ i. (turned.attached i, turned.specs i, turned.events i)) heard in
    let are : HaveHeard run h (steps h n before) after asked =
    turns_are_heard t h n before after asked low turned.some legal state turned.quiet did.acts did.walks in
    let asks = asks_wait run h n before after asked low turned.some legal state are did.others in
    record {
      there = lets.there ∙ same_there run h n before ∙ turned.there;
      hart = turned.is;
      attached = are.sets ∙ sym lets.sets;
      specs = turned.specs ∙ sym (turns_move_no_sets run h n before) ∙ sym lets.specs;
      asks = λ p one most live. asks p one most ∙ sym (lets.asks p one live);
      unasked = λ p one most off. asks p one most ∙ sym (lets.unasked p one (sym (lets.places p one) ∙ off));
      begins = turned.begins;
      below = turned.below;
      quiet = λ parked. absurd (false≢true (sym turned.awake ∙ parked));
    }

pub some_task : (o : Option Task) → IsSome o → (t : Task) × (o ≡ Some t)
some_task None some = absurd (false≢true some)
some_task (Some t) some = (t, refl)

module _ {W : Type 0} where
  hears_so : (t : Task) (h : ℕ) (seen taken now : List Item) (pieces : List Piece) (kept : List KeptList) (old new : Seat W)
      → Sits t h seen old → HasLists kept old
      → IsPart holds.Turned t taken now pieces old (Some new) → MayHear old.hart.pc pieces kept new
  hears_so t h seen taken now pieces kept old new sits lists is =
      let run = task_run t in
      let made = is.0.0 in
      let turned = made.turn in
      let image : new.image.value ≡ t.machine.image = ap (λ x. x.value) is.1.image ∙ sits.image in
      record {
        aligned = made.aligned;
        kept = is.1.kept ∙ sits.kept;
        lies = subst (λ (x : Program). LieAt x old.hart.pc new.raw.events) (sym image) made.lies;
        each = subst (λ (x : Program). All (IsPiece x) pieces) (sym image) made.each;
        cached = lists_again kept old new is.1 lists;
        acts = ap acts_of turned.attached ∙ specs_are_of_sets run new.no turned.before ∙ ap acts_with (sym turned.specs);
      }

  heard_done : (t : Task) (h : ℕ) (seen now : List Item) (pieces : List Piece) (old new last : Seat W) → Sits t h seen old
      → HasGone old.no seen now (λ taken. IsPart holds.Turned t taken now pieces old (Some new)) → HasHeard pieces new last
      → IsDone Went t h seen now (Some last)
  heard_done t h seen now pieces old new last sits gone heard =
      let keeps = gone.what.1 in
      let made = gone.what.0.0 in
      let same : last.no ≡ new.no = ap (λ s. s.no) heard.rest in
      let image : new.image.value ≡ t.machine.image = ap (λ x. x.value) keeps.image ∙ sits.image in
      let seated : IsSeated t new.no now new.hart last.attached new.specs last.asks.first =
      heard_seated t new.no now new.hart new.attached new.specs made.told last.attached last.asks.first made.turn
      (record {
        acts = heard.acts;
        walks = subst (λ (x : Program). walks_of last.asks.first last.attached
            ≡ each_walks (classes_of x) new.specs made.told (walks_of no_asks new.attached)) image (heard.walks made.told made.heard);
        others = heard.others;
      }) in
      let number : last.no ≡ h = same ∙ keeps.number ∙ sits.number in
      let again : Sits t h now last =
      record {
        number = number;
        seated = subst (λ (s : Seat W). IsSeated t s.no now s.hart s.attached s.specs s.asks.first) (sym heard.rest) seated;
        image = ap (λ s. s.image.value) heard.rest ∙ image;
        limit = ap (λ s. s.limit) heard.rest ∙ keeps.limit ∙ sits.limit;
        kept = ap (λ s. s.raw.kept) heard.rest ∙ keeps.kept ∙ sits.kept;
      } in
      record {
        gone = regone h old.no seen now (λ taken. IsPart holds.Turned t taken now pieces old (Some new)) (IsTurned Went t h now) sits.number
            (λ taken is. (ap (λ (k : ℕ). is_there (task_run t) k now) (sym number) ∙ again.seated.there, is.0.1)) gone;
        waits = λ e. absurd cc;
        placed = again;
      }

  -- What a turn knows of its seat, by a task that its pass carries.

  pub at_seat : (P : Seat W → Type 0) (place : Option (Seat W)) (seat : Seat W) → place ≡ Some seat → MatchOption place ⊥ P → P seat
  at_seat P place seat is all = subst (λ (x : Option (Seat W)). MatchOption x ⊥ P) is all

  -- the seat once its hart has gone ahead
  abbrev pub Ahead : Seat W → Seat W → Type 0
  Ahead seat mid = mid ≡ record seat { raw = mid.raw }

  sits_ahead : (t : Task) (h : ℕ) (seen : List Item) (seat mid : Seat W) → Ahead seat mid → mid.raw.kept ≡ seat.raw.kept
      → Sits t h seen seat → Sits t h seen mid
  sits_ahead t h seen seat mid same kept sits = record {
    number = ap (λ s. s.no) same ∙ sits.number;
    seated = subst (λ (s : Seat W). IsSeated t s.no seen s.hart s.attached s.specs s.asks.first) (sym same) sits.seated;
    image = ap (λ s. s.image.value) same ∙ sits.image;
    limit = ap (λ s. s.limit) same ∙ sits.limit;
    kept = kept ∙ sits.kept;
  }

  pub goes_ahead : (seat mid : Seat W) (ahead : going.Ahead) → Ahead seat mid → seat.hart.parked ≡ false → seat.hart.ending ≡ None
      → IsPrivateTurn seat.image.value seat.limit seat.no ahead.ran seat.hart ahead.hart mid.raw.events → IsAhead mid ahead
  goes_ahead seat mid ahead same awake running ran = record {
    awake = ap (λ s. s.hart.parked) same ∙ awake;
    running = ap (λ s. s.hart.ending) same ∙ running;
    ran = subst (λ (s : Seat W). IsPrivateTurn s.image.value s.limit s.no ahead.ran s.hart ahead.hart mid.raw.events) (sym same) ran;
  }

  pub serves_ahead : (cache : Option Program) (seat mid : Seat W) → Ahead seat mid → MayServe cache seat.image.value
      → MayServe cache mid.image.value
  serves_ahead cache seat mid same serves = subst (λ (s : Seat W). MayServe cache s.image.value) (sym same) serves

  pub served_ahead : (cache : Option Program) (seat mid : Seat W) → Ahead seat mid → MayServe cache mid.image.value
      → MayServe cache seat.image.value
  served_ahead cache seat mid same serves = subst (λ (s : Seat W). MayServe cache s.image.value) same serves

  pub lists_ahead : (kept : List KeptList) (seat mid : Seat W) → Ahead seat mid → HasLists kept seat → HasLists kept mid
  lists_ahead kept seat mid same are = subst (λ (s : Seat W). AreLists s.image.value s.generation s.specs kept) (sym same) are

  pub on_place : (P : Seat W → Type 0) (place : Option (Seat W)) (seat : Seat W) → place ≡ Some seat → P seat → MatchOption place ⊥ P
  on_place P place seat is p = subst (λ (x : Option (Seat W)). MatchOption x ⊥ P) (sym is) p

  abbrev pub SitAll : Option Task → ℕ → List Item → Option (Seat W) → Type 0
  SitAll o h seen place = (t : Task) → o ≡ Some t → MatchOption place ⊥ (Sits t h seen)

  pub sits_at : (o : Option Task) (h : ℕ) (seen : List Item) (place : Option (Seat W)) (seat mid : Seat W) → place ≡ Some seat
      → SitAll o h seen place → Ahead seat mid → mid.raw.kept ≡ seat.raw.kept → (t : Task) → o ≡ Some t → Sits t h seen mid
  sits_at o h seen place seat mid is all same kept t e = sits_ahead t h seen seat mid same kept (at_seat (Sits t h seen) place seat is
      (all t e))

  pub seat_sits : (o : Option Task) (h : ℕ) (seen : List Item) (place : Option (Seat W)) (seat : Seat W) → place ≡ Some seat
      → SitAll o h seen place → (t : Task) → o ≡ Some t → Sits t h seen seat
  seat_sits o h seen place seat is all t e = at_seat (Sits t h seen) place seat is (all t e)

  pub below_limit : (o : Option Task) (h : ℕ) (seen : List Item) (place : Option (Seat W)) (seat : Seat W) → IsSome o
      → place ≡ Some seat → SitAll o h seen place
      → MatchOption place ⊥ (λ seat. (seat.hart.parked ≡ false) × (seat.hart.ending ≡ None)) → seat.hart.steps < seat.limit
  below_limit o h seen place seat some is all runs =
      let task = some_task o some in
      let sits : Sits task.0 h seen seat = at_seat (Sits task.0 h seen) place seat is (all task.0 task.1) in
      let goes = at_seat (λ seat. (seat.hart.parked ≡ false) × (seat.hart.ending ≡ None)) place seat is runs in
      subst (λ (n : ℕ). seat.hart.steps < n) (sym sits.limit) (sits.seated.below goes.1)

  pub low_party : (o p : Option Task) (h k : ℕ) (seen : List Item) (mid : Seat W) → p ≡ o → k ≡ h
      → ((t : Task) → o ≡ Some t → Sits t h seen mid) → (t : Task) → p ≡ Some t → k < t.machine.harts
  low_party o p h k seen mid same number all t e =
      let sits = all t (sym same ∙ e) in
      subst (λ (n : ℕ). n < t.machine.harts) (sits.number ∙ sym number) (there_low (task_run t) mid.no seen sits.seated.there)

  -- what the hold of a hart that has gone ahead tells
  abbrev pub Gone : Option Task → Result Hold NoMemory → List Item → List Item → List Piece → Seat W → Option (Seat W) → Type 0
  Gone o r seen now pieces mid place =
      (t : Task) → o ≡ Some t → IfOk r (λ hold. HasGone mid.no seen now (λ taken. IsPart hold t taken now pieces mid place))

  gone_at : (o : Option Task) (r : Result Hold NoMemory) (hold : Hold) (seen now : List Item) (pieces : List Piece) (mid : Seat W)
      (place : Option (Seat W)) → r ≡ Ok hold → Gone o r seen now pieces mid place → (t : Task) → o ≡ Some t
      → HasGone mid.no seen now (λ taken. IsPart hold t taken now pieces mid place)
  gone_at o r hold seen now pieces mid place is gone t e =
      subst (λ (x : Result Hold NoMemory). IfOk x (λ hold. HasGone mid.no seen now (λ taken. IsPart hold t taken now pieces mid place))) is
      (gone t e)

  -- and by the place of the seat that it began with
  abbrev pub GoneFrom : Option Task → Result Hold NoMemory → List Item → List Item → List Piece → Option (Seat W) → Option (Seat W) → Type 0
  GoneFrom o r seen now pieces start place = (t : Task) → o ≡ Some t → MatchOption start ⊥ (λ seat. IfOk r (λ hold.
      HasGone seat.no seen now (λ taken. IsPart hold t taken now pieces seat place)))

  pub gone_from : (o : Option Task) (r : Result Hold NoMemory) (seen now : List Item) (pieces : List Piece) (start : Option (Seat W))
      (seat : Seat W) (place : Option (Seat W)) → start ≡ Some seat → GoneFrom o r seen now pieces start place
      → Gone o r seen now pieces seat place
  gone_from o r seen now pieces start seat place is gone t e =
      at_seat (λ seat. IfOk r (λ hold. HasGone seat.no seen now (λ taken. IsPart hold t taken now pieces seat place))) start seat is
      (gone t e)

  pub may_hear : (o : Option Task) (r : Result Hold NoMemory) (hold : Hold) (h : ℕ) (seen now : List Item) (pieces : List Piece)
      (kept : List KeptList) (seat : Seat W) (place : Option (Seat W)) → IsSome o → r ≡ Ok hold → hold ≡ holds.Turned
      → ((t : Task) → o ≡ Some t → Sits t h seen seat) → HasLists kept seat → Gone o r seen now pieces seat place
      → MatchOption place ⊥ (MayHear seat.hart.pc pieces kept)
  may_hear o r hold h seen now pieces kept seat None some is turned all are gone =
      let task = some_task o some in
      let did = gone_at o r hold seen now pieces seat None is gone task.0 task.1 in
      absurd (subst (λ (x : Hold). IsPart x task.0 did.taken now pieces seat None) turned did.what)
  may_hear o r hold h seen now pieces kept seat (Some new) some is turned all are gone =
      let task = some_task o some in
      let did = gone_at o r hold seen now pieces seat (Some new) is gone task.0 task.1 in
      hears_so task.0 h seen did.taken now pieces kept seat new (all task.0 task.1) are
      (subst (λ (x : Hold). IsPart x task.0 did.taken now pieces seat (Some new)) turned did.what)

  -- the cache of blocks serves the new seat
  pub serves_again : (o : Option Task) (r : Result Hold NoMemory) (hold : Hold) (seen now : List Item) (pieces : List Piece)
      (cache : Option Program) (seat : Seat W) (place : Option (Seat W)) → IsSome o → r ≡ Ok hold → hold ≡ holds.Turned
      → MayServe cache seat.image.value → Gone o r seen now pieces seat place
      → MatchOption place ⊥ (λ new. MayServe cache new.image.value)
  serves_again o r hold seen now pieces cache seat None some is turned serves gone =
      let task = some_task o some in
      let did = gone_at o r hold seen now pieces seat None is gone task.0 task.1 in
      absurd (subst (λ (x : Hold). IsPart x task.0 did.taken now pieces seat None) turned did.what)
  serves_again o r hold seen now pieces cache seat (Some new) some is turned serves gone =
      let task = some_task o some in
      let did = gone_at o r hold seen now pieces seat (Some new) is gone task.0 task.1 in
      let part : IsPart holds.Turned task.0 did.taken now pieces seat (Some new) =
      subst (λ (x : Hold). IsPart x task.0 did.taken now pieces seat (Some new)) turned did.what in
      subst (MayServe cache) (sym (ap (λ x. x.value) part.1.image)) serves

  -- and the old one again
  pub serves_back : (o : Option Task) (r : Result Hold NoMemory) (hold : Hold) (seen now : List Item) (pieces : List Piece)
      (cache : Option Program) (seat : Seat W) (place : Option (Seat W)) → IsSome o → r ≡ Ok hold → hold ≡ holds.Turned
      → MatchOption place ⊥ (λ new. MayServe cache new.image.value) → Gone o r seen now pieces seat place
      → MayServe cache seat.image.value
  serves_back o r hold seen now pieces cache seat None some is turned serves gone = absurd serves
  serves_back o r hold seen now pieces cache seat (Some new) some is turned serves gone =
      let task = some_task o some in
      let did = gone_at o r hold seen now pieces seat (Some new) is gone task.0 task.1 in
      let part : IsPart holds.Turned task.0 did.taken now pieces seat (Some new) =
      subst (λ (x : Hold). IsPart x task.0 did.taken now pieces seat (Some new)) turned did.what in
      subst (MayServe cache) (ap (λ x. x.value) part.1.image) serves

  pub all_done : (o : Option Task) (r : Result Hold NoMemory) (hold : Hold) (h : ℕ) (seen now : List Item) (pieces : List Piece)
      (seat : Seat W) (place last : Option (Seat W)) → r ≡ Ok hold → hold ≡ holds.Turned
      → ((t : Task) → o ≡ Some t → Sits t h seen seat) → Gone o r seen now pieces seat place
      → MatchOption place ⊥ (λ seat. MatchOption last ⊥ (HasHeard pieces seat)) → (t : Task) → o ≡ Some t → IsDone Went t h seen now last
  all_done o r hold h seen now pieces seat None last is turned all gone heard t e = absurd heard
  all_done o r hold h seen now pieces seat (Some new) None is turned all gone heard t e = absurd heard
  all_done o r hold h seen now pieces seat (Some new) (Some last) is turned all gone heard t e =
      heard_done t h seen now pieces seat new last (all t e)
      (subst (λ (x : Hold). HasGone seat.no seen now (λ taken. IsPart x t taken now pieces seat (Some new))) turned
      (gone_at o r hold seen now pieces seat (Some new) is gone t e)) heard

  -- where it made no Turn
  part_still : (hold : Hold) (t : Task) (taken now : List Item) (pieces : List Piece) (mid : Seat W) (place : Option (Seat W))
      → (hold ≡ holds.Turned → ⊥) → IsPart hold t taken now pieces mid place → IsStillPart hold t taken now mid place
  part_still holds.Turned t taken now pieces mid place other part = absurd (other refl)
  part_still holds.GaveBack t taken now pieces mid place other part = part
  part_still holds.Waits t taken now pieces mid place other part = part
  part_still holds.Leaves t taken now pieces mid place other part = part

  pub rest_done : (o : Option Task) (r : Result Hold NoMemory) (hold : Hold) (h : ℕ) (seen now : List Item) (pieces : List Piece)
      (mid : Seat W) (place : Option (Seat W)) → r ≡ Ok hold → (hold ≡ holds.Turned → ⊥)
      → ((t : Task) → o ≡ Some t → Sits t h seen mid) → Gone o r seen now pieces mid place
      → (t : Task) → o ≡ Some t → IsDone (turned_of hold) t h seen now place
  rest_done o r hold h seen now pieces mid place is other all gone t e =
      still_done hold place mid t h seen now (all t e)
      (regone mid.no mid.no seen now (λ taken. IsPart hold t taken now pieces mid place) (λ taken. IsStillPart hold t taken now mid place)
      refl
      (λ taken part. part_still hold t taken now pieces mid place other part) (gone_at o r hold seen now pieces mid place is gone t e))

  pub rest_lists : (o : Option Task) (r : Result Hold NoMemory) (hold : Hold) (seen now : List Item) (pieces : List Piece)
      (kept : List KeptList) (seat : Seat W) (place : Option (Seat W)) → IsSome o → r ≡ Ok hold
      → (hold ≡ holds.Turned → ⊥) → HasLists kept seat
      → Gone o r seen now pieces seat place → MatchOption place (Unit {0}) (HasLists kept)
  rest_lists o r hold seen now pieces kept seat place some is other are gone =
      let task = some_task o some in
      let did = gone_at o r hold seen now pieces seat place is gone task.0 task.1 in
      still_lists hold place seat task.0 did.taken now kept (part_still hold task.0 did.taken now pieces seat place other did.what) are

  -- The cache of blocks serves the task's image, which is the seat's.

  pub serves_seat : (o : Option Task) (h : ℕ) (seen : List Item) (place : Option (Seat W)) (cache : Option Program) → IsSome o
      → SitAll o h seen place → ((t : Task) → o ≡ Some t → MayServe cache t.machine.image)
      → MatchOption place ⊥ (λ seat. MayServe cache seat.image.value)
  serves_seat o h seen None cache some all serves = let task = some_task o some in absurd (all task.0 task.1)
  serves_seat o h seen (Some seat) cache some all serves =
      let task = some_task o some in
      let sits : Sits task.0 h seen seat = all task.0 task.1 in
      subst (MayServe cache) (sym sits.image) (serves task.0 task.1)

  pub serves_task : (o : Option Task) (h : ℕ) (seen : List Item) (place : Option (Seat W)) (cache : Option Program)
      → SitAll o h seen place → MatchOption place ⊥ (λ seat. MayServe cache seat.image.value)
      → (t : Task) → o ≡ Some t → MayServe cache t.machine.image
  serves_task o h seen None cache all serves t e = absurd serves
  serves_task o h seen (Some seat) cache all serves t e =
      let sits : Sits t h seen seat = all t e in
      subst (MayServe cache) sits.image serves
