use Rattle.std.proofs.Common.{◌≡◌, ◌∷◌, ◌∙◌, ℕ, true, List, Option, ap, sym, subst, refl}
use Rattle.std.specs.Prelude.{slice_index_or, slice_set}
use Rattle.flat_model.specs.declared.events.Event.{Event}
use Rattle.flat_model.specs.declared.journals.Item.{Item}
use Rattle.flat_model.specs.declared.journals.Item.TheVariants.{Step}
use Rattle.flat_model.specs.Image.{Program}
use Rattle.flat_model.specs.World.{Machine, Start}
use Rattle.flat_model.specs.Worlds.{next_step}
use Rattle.rv_exec.specs.Logged.{LogState}
use Rattle.block_finder.specs.Caches.{MayServe}
use Rattle.lock_step.specs.Runs.{can_step}
use Rattle.lock_step.specs.Kept.{LoneState, IsKept, woken}
use Rattle.lock_step.proofs.Keeping.{Looks, Steps, look_now, look_seen, roomier, runs_by, step_kept, step_some, step_told}
use Rattle.lock_step.proofs.lone_runs.LoneRun.step.Goals as goal

kept : (c : goal.Joined-this) → IsKept (record { image = c.self.inside.image.now; harts = c.self.inside.count; limit = c.self.inside.limit })
    c.self.inside.mode c.self.inside.past.items c.self.inside.harts.items c.self.inside.memory c.make_room.new.self c.self.inside.cache
    c.self.inside.raw
kept c =
    let was = c.self.inside in
    roomier (record { image = was.image.now; harts = was.count; limit = was.limit }) was.mode was.past.items was.harts.items was.memory
    was.services c.make_room.new.self was.cache was.raw c.self.invariant c.make_room.ensures.kept

steps : (c : goal.Joined-this) → Steps (record { image = c.self.inside.image.now; harts = c.self.inside.count; limit = c.self.inside.limit })
    c.self.inside.mode c.self.inside.past.items c.args.no c.wake.new.hart c.step_in.new.hart c.self.inside.memory c.step_in.new.memory
    c.make_room.new.self c.step_in.new.services c.clear.new.self c.step_in.new.raw
steps c =
    let was = c.self.inside in
    let m : Machine = record { image = was.image.now; harts = was.count; limit = was.limit } in
    let past = was.past.items in
    let services = c.make_room.new.self in
    let hart = c.wake.new.hart in
    let found = c.index_mut-hart.result.now in
    let can : can_step m was.mode past c.args.no ≡ true =
    subst (λ (s : LoneState). can_step s.machine s.mode s.past c.args.no ≡ true) (sym c.self.view_is) c.requires.can in
    let looks : Looks m was.mode past c.args.no was.harts.items was.memory services was.cache was.raw found hart = record {
      low = (runs_by m was.mode past c.args.no can).low;
      kept = kept c;
      there = c.index_mut-hart.ensures.value ∙ ap (λ (k : ℕ). slice_index_or was.harts.items k found) c.from-place.ensures;
      wakes = c.wake.ensures.woken ∙ ap (λ (o : Option Start). woken c.args.no m.harts found o) c.start_of-start.ensures.start;
    } in
    record {
      can = can;
      now = look_now m was.mode past c.args.no was.harts.items was.memory services was.cache was.raw found hart looks;
      seen = look_seen m was.mode past c.args.no was.harts.items was.memory services was.cache was.raw found hart looks;
      shared = (kept c).shared;
      empty = ap (λ (l : LogState). l.events) c.clear.ensures.empty;
      stored = ap (λ (l : LogState). l.kept) c.clear.ensures.empty ∙ c.self.invariant.stored;
      stepped = c.step_in.ensures.stepped;
    }

pub invariant_of-self-2 : goal.invariant_of-self-2
invariant_of-self-2 c =
    let was = c.self.inside in
    let m : Machine = record { image = was.image.now; harts = was.count; limit = was.limit } in
    let now = c.step_in.new in
    let next : IsKept m was.mode (Step c.args.no ∷ was.past.items) (slice_set was.harts.items c.args.no now.hart) now.memory now.services
    c.lookup.follows.lender-at-none now.raw =
    step_kept m was.mode was.past.items c.args.no c.wake.new.hart now.hart was.memory now.memory c.make_room.new.self now.services
    c.clear.new.self now.raw was.harts.items was.cache c.lookup.follows.lender-at-none was.raw (steps c) (kept c)
    (subst (λ (o : Option Program). MayServe o was.image.now) (sym c.lookup.follows.holds-at-none) refl) in
    subst (λ (past : List Item). IsKept m was.mode past (slice_set was.harts.items c.from-place.result now.hart) now.memory now.services
    c.lookup.follows.lender-at-none now.raw) (sym c.before-self-inside.ensures)
    (subst (λ (k : ℕ). IsKept m was.mode (Step c.args.no ∷ was.past.items) (slice_set was.harts.items k now.hart) now.memory now.services
    c.lookup.follows.lender-at-none now.raw) (sym c.from-place.ensures) next)

pub returns-clause-some : goal.returns-clause-some
returns-clause-some c =
    let was = c.self.inside in
    let now = c.step_in.new in
    step_some (record { image = was.image.now; harts = was.count; limit = was.limit }) was.mode was.past.items c.args.no c.wake.new.hart
    now.hart was.memory now.memory c.make_room.new.self now.services c.clear.new.self now.raw (steps c)

pub returns-clause-stepped : goal.returns-clause-stepped
returns-clause-stepped c =
    let was = c.self.inside in
    let m : Machine = record { image = was.image.now; harts = was.count; limit = was.limit } in
    let now = c.step_in.new in
    let past = was.past.items in
    let events = (next_step m was.mode past c.args.no).events in
    let told : now.raw.events ≡ events =
    step_told m was.mode past c.args.no c.wake.new.hart now.hart was.memory now.memory c.make_room.new.self now.services c.clear.new.self
    now.raw (steps c) in
    let made : List Item → List Event → LoneState = λ l es. record { machine = m; mode = was.mode; past = l; events = es } in
    subst (λ (s : LoneState). made c.before-self-inside.result.items now.raw.events
    ≡ record s { past = Step c.args.no ∷ s.past; events = (next_step s.machine s.mode s.past c.args.no).events }) c.self.view_is
    (ap (λ (l : List Item). made l now.raw.events) c.before-self-inside.ensures
    ∙ ap (λ (es : List Event). made (Step c.args.no ∷ past) es) told)
