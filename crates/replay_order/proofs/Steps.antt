-- What one step of a hart makes of its seat.
use Rattle.std.proofs.Common.{◌≡◌, ◌+◌, ◌-◌, ◌<◌, ◌≤◌, ◌∷◌, ◌∙◌, ℕ, Bool, true, false, List, refl, sym, ap, subst, arith}
use Rattle.std.proofs.Common.{length}
use Rattle.std.proofs.Common.{Option, Some, None}
use Rattle.std.specs.Prelude.{if◌then◌else◌, min, slice_index_or}
use Rattle.flat_model.specs.declared.events.Event.{Event}
use Rattle.flat_model.specs.declared.plugins.Ask.{Ask}
use Rattle.flat_model.specs.declared.plugins.Ask.TheVariants.{Stay}
use Rattle.flat_model.specs.declared.plugins.SetSpec.{SetSpec}
use Rattle.flat_model.specs.declared.journals.Item.{Item}
use Rattle.flat_model.specs.declared.journals.Item.TheVariants.{Step}
use Rattle.flat_model.specs.declared.limits.TheConstants.{BLOCK_WORDS}
use Rattle.flat_model.specs.Asks.{stays}
use Rattle.flat_model.specs.Registry.{Plugins, registry, plugin_of, sets_of}
use Rattle.flat_model.specs.Step.{steps_of}
use Rattle.flat_model.specs.World.{HartState, Start, started_hart}
use Rattle.flat_model.specs.Worlds.{world, next_step}
use Rattle.event_walk.specs.Matches.{classes_of}
use Rattle.event_walk.specs.Walk.{Walk, walk, first_ask}
use Rattle.watcher_api.specs.Attachment.{Attachment}
use Rattle.watcher_api.specs.Acting.{acts_of, ask_of, walk_of, walks_of, IsAbsent}
use Rattle.instr_lists.specs.Delivery.{no_asks, each_walks}
use Rattle.instr_lists.proofs.Events.{all_stay}
use Rattle.run_rules.specs.Guest.{Run, plugins}
use Rattle.run_rules.specs.Heard.{Progress, progress, progressed, is_listening, is_live, set_at, last_set, waiting, steps_since}
use Rattle.run_rules.specs.Legal.{Legal, is_there}
use Rattle.run_rules.specs.Places.{place_of, is_with_hart}
use Rattle.run_rules.proofs.Turns.{plugins_keep, same}
use Rattle.run_order.specs.Sets.{attachment_of}
use Rattle.run_order.specs.InOrder.{Task, task_run}
use Rattle.run_order.proofs.Installing.{last_made}
use Rattle.kept_order.specs.Hearing.{specs_for}
use Rattle.kept_order.proofs.HeardTurns.{place_keeps, turns_move_no_sets}
use Rattle.kept_order.proofs.Listening.{MaySteps, before_steps, set_is_live, last_set_listens, live_set_is_there, last_progress, waits_for}
use Rattle.kept_order.proofs.Walking.{told, walks_over, picked_walk}
use Rattle.replay_order.proofs.Known.{sets_known, sets_now, picked_absent}
use Rattle.replay_order.specs.Seats.{woken}
use Rattle.replay_order.specs.Steps.{HasHeardStep, StepsAreHeard, StepsKeepSeats}
use Rattle.replay_order.proofs.Seats.{live_low}
use Rattle.replay_order.proofs.Walks.{asking, walk_asking, first_stays}

abbrev events_of : Task → ℕ → List Item → List Event
events_of t h past = (next_step t.machine t.mode past h).events

told_one : (t : Task) (h : ℕ) (past : List Item) → told t h 1 past ≡ events_of t h past
unfolding steps_of
told_one t h past = refl

-- what a set makes of the step that hasn't asked yet
abbrev heard_by : Task → ℕ → List Item → ℕ → Walk
heard_by t h past k =
    let run = task_run t in
    walk (classes_of t.machine.image) (set_at run k (last_set (plugins run past) k) past).subs (events_of t h past)
    (walk_of (attachment_of run k h past) Stay)

-- what the log says of it
progress_now : (t : Task) (h : ℕ) (past : List Item) (k : ℕ) → Legal (task_run t) past → 1 ≤ k
    → k ≤ length (plugins (task_run t) past).plugins → is_live (plugin_of (plugins (task_run t) past) k).state ≡ true
    → (last_progress (task_run t) k h (Step h ∷ past) (plugins (task_run t) past)).walk
    ≡ asking (last_progress (task_run t) k h past (plugins (task_run t) past)).walk.asked (heard_by t h past k)
progress_now t h past k legal one most live =
    let run = task_run t in
    let r = plugins run past in
    let set = last_set r k in
    let spec = set_at run k set past in
    let classes = classes_of t.machine.image in
    let a = attachment_of run k h past in
    let x = (last_progress run k h past r).walk.asked in
    walks_over t spec k set h 1 past (last_set_listens run k past legal one most live)
    ∙ ap (λ (es : List Event). walk classes spec.subs es (walk_of a x)) (told_one t h past)
    ∙ ap (λ (y : Ask). walk classes spec.subs (events_of t h past) (walk_of a y)) (sym (first_stays x))
    ∙ walk_asking classes spec.subs (events_of t h past) x (walk_of a Stay)

abbrev walk_with : List (List Event) → List ℕ → Ask → Walk
walk_with hs column asked = record { heard = hs; column = column; asked = asked }

set_steps : (t : Task) (h : ℕ) (past : List Item) (k : ℕ) → h < t.machine.harts → MaySteps (task_run t) h past → 1 ≤ k
    → k < 1 + length (plugins (task_run t) past).plugins → is_with_hart (place_of (task_run t) k h past) ≡ true
    → walk (classes_of t.machine.image) (set_at (task_run t) k (last_set (plugins (task_run t) past) k) past).subs (events_of t h past)
    (walk_of (attachment_of (task_run t) k h past) (ask_of k no_asks))
    ≡ walk_of (last_made (task_run t) k h (sets_of (plugins (task_run t) past) k) (Step h ∷ past)) (heard_by t h past k).asked
set_steps t h past k low may one most with =
    let run = task_run t in
    let r = plugins run past in
    let spec = set_at run k (last_set r k) past in
    let few : k ≤ length r.plugins = omega (arith, most) in
    let now = progress_now t h past k may.legal one few (set_is_live run h k past low may one few with) in
    let v = heard_by t h past k in
    ap (λ (a : Ask). walk (classes_of t.machine.image) spec.subs (events_of t h past) (walk_of (attachment_of run k h past) a))
    (all_stay 8 (k - 1))
    ∙ ap (λ (hs : List (List Event)). walk_with hs v.column v.asked) (sym (ap (λ (w : Walk). w.heard) now))
    ∙ ap (λ (c : List ℕ). walk_with (last_progress run k h (Step h ∷ past) r).walk.heard c v.asked) (sym (ap (λ (w : Walk). w.column) now))

progress_step : (run : Run) (spec : SetSpec) (p set h : ℕ) (past : List Item) → is_listening (plugins run past) p set ≡ true
    → progress run spec p set h (Step h ∷ past)
    ≡ progressed run.guest.classes spec.subs (run.guest.next_events past h) (progress run spec p set h past)
unfolding progress
progress_step run spec p set h past listens = rw (same h) (rw listens refl)

abbrev since_by : Run → ℕ → ℕ → List Item → Plugins → ℕ
since_by run p h log r = (last_progress run p h log r).since

since_now : (t : Task) (h : ℕ) (past : List Item) (p : ℕ) → Legal (task_run t) past → 1 ≤ p
    → p ≤ length (plugins (task_run t) past).plugins → is_live (plugin_of (plugins (task_run t) past) p).state ≡ true
    → steps_since (task_run t) p h (Step h ∷ past)
    ≡ (if stays (waiting (task_run t) p h past) then 0 else steps_since (task_run t) p h past + 1)
since_now t h past p legal one most live =
    let run = task_run t in
    let r = plugins run past in
    let listens = last_set_listens run p past legal one most live in
    ap (since_by run p h (Step h ∷ past)) (plugins_keep run h 1 past)
    ∙ ap (λ (q : Progress). q.since) (progress_step run (set_at run p (last_set r p) past) p (last_set r p) h past listens)
    ∙ ap (λ (a : Ask). if stays a then 0 else steps_since run p h past + 1) (sym (waits_for run h p past past one most live refl))

pub steps_are_heard : StepsAreHeard
steps_are_heard t h past sets asks low legal state same_acts walked =
    let run = task_run t in
    let r = plugins run past in
    let now = Step h ∷ past in
    let some : 0 < 1 = omega arith in
    let may : MaySteps run h past = before_steps run h 1 past some legal state in
    let there : ℕ → Bool = λ k. is_with_hart (place_of run k h past) in
    let made : ℕ → Attachment = λ k. last_made run k h (sets_of r k) now in
    let ask : ℕ → Ask = λ k. (heard_by t h past k).asked in
    let each = picked_walk (classes_of t.machine.image) (events_of t h past) there (λ k. (k, set_at run k (last_set r k) past))
    (λ k. attachment_of run k h past) (λ k. walk_of (made k) (ask k)) 1 (length r.plugins)
    (λ k one most with. set_steps t h past k low may one most with) in
    let known = sets_known asks there (λ k. attachment_of run k h past) made ask 1 (length r.plugins) sets
    (λ k. refl) (λ k. refl) (λ k. refl) same_acts (walked ∙ each) in
    record {
      sets = known.0 ∙ sym (sets_now run h 1 past);
      asks = λ p one live.
          let most = live_low r p one live in
          let with = live_set_is_there run h p past low may one most live in
          waits_for run h p past now one most live (plugins_keep run h 1 past)
          ∙ ap (λ (w : Walk). w.asked) (progress_now t h past p may.legal one most live)
          ∙ ap (λ (x : Ask). first_ask x (ask p)) (sym (waits_for run h p past past one most live refl))
          ∙ ap (first_ask (waiting run p h past)) (sym (known.1 p one (omega (arith, most)) with));
      since = λ p one live. since_now t h past p may.legal one (live_low r p one live) live;
    }

-- The seat behind it.

awake_stays : (h harts : ℕ) (hart : HartState) (start : Option Start) → hart.parked ≡ false → woken h harts hart start ≡ hart
awake_stays h harts hart None awake = refl
awake_stays h harts hart (Some start) awake = ap (λ (b : Bool). if b then started_hart h harts start else hart) awake

capped : (n : ℕ) → min (min n BLOCK_WORDS + 1) BLOCK_WORDS ≡ min (n + 1) BLOCK_WORDS
capped n = omega arith

since_capped : (b : Bool) (noted old : ℕ) → (b ≡ false → noted ≡ min old BLOCK_WORDS)
    → (if b then 0 else min (noted + 1) BLOCK_WORDS) ≡ min (if b then 0 else old + 1) BLOCK_WORDS
since_capped true noted old is = refl
since_capped false noted old is = ap (λ (n : ℕ). min (n + 1) BLOCK_WORDS) (is refl) ∙ capped old

there_still : (run : Run) (h : ℕ) (past : List Item) → is_there run h past ≡ true → is_there run h (Step h ∷ past) ≡ true
unfolding registry
there_still run h past there = there

live_still : (run : Run) (h p : ℕ) (past : List Item) → is_live (plugin_of (plugins run (Step h ∷ past)) p).state ≡ true
    → is_live (plugin_of (plugins run past) p).state ≡ true
unfolding registry
live_still run h p past live = live

pub steps_keep_seats : StepsKeepSeats
steps_keep_seats t h past old new asks low legal state sits hart awake below same_acts walked others noted =
    let run = task_run t in
    let classes = classes_of t.machine.image in
    let es = events_of t h past in
    let now = Step h ∷ past in
    let some : 0 < 1 = omega arith in
    let may : MaySteps run h past = before_steps run h 1 past some legal state in
    let heard : HasHeardStep t h past new.sets asks = steps_are_heard t h past new.sets asks low legal state
    (same_acts ∙ ap acts_of sits.sets)
    (walked
    ∙ ap (λ (fs : List (ℕ × SetSpec)). each_walks classes fs es (walks_of no_asks old.sets)) sits.filters
    ∙ ap (λ (ss : List Attachment). each_walks classes (specs_for run h past) es (walks_of no_asks ss)) sits.sets) in
    let place : (p : ℕ) → is_with_hart (place_of run p h now) ≡ is_with_hart (place_of run p h past) = λ p. ap is_with_hart
    (place_keeps run p h 1 past) in
    record {
      there = there_still run h past sits.there;
      hart = sym hart ∙ sym (awake_stays h t.machine.harts new.hart ((world t.machine t.mode now).shared.starts h) awake);
      below = below;
      sets = heard.sets;
      filters = noted.filters ∙ sits.filters ∙ sym (turns_move_no_sets run h 1 past);
      quiet = λ p one few off.
          let was = sym (place p) ∙ off in
          let absent : IsAbsent p old.sets = subst (IsAbsent p) (sym sits.sets)
          (picked_absent (λ k. is_with_hart (place_of run k h past)) (λ k. attachment_of run k h past) p 1
          (length (plugins run past).plugins) (λ k. refl) was) in
          noted.first p one few
          ∙ ap (λ (a : Ask). first_ask a (ask_of p asks)) (sits.quiet p one few was)
          ∙ others p one absent;
      asks = λ p one few with live.
          let was = sym (place p) ∙ with in
          let lived = live_still run h p past live in
          noted.first p one few
          ∙ ap (λ (a : Ask). first_ask a (ask_of p asks)) (sits.asks p one few was lived)
          ∙ sym (heard.asks p one lived);
      since = λ p one few with live waits.
          let was = sym (place p) ∙ with in
          let lived = live_still run h p past live in
          noted.since p one few
          ∙ ap (λ (a : Ask). if stays a then 0 else min (slice_index_or old.since (p - 1) 0 + 1) BLOCK_WORDS)
          (sits.asks p one few was lived)
          ∙ since_capped (stays (waiting run p h past)) (slice_index_or old.since (p - 1) 0) (steps_since run p h past)
          (λ still. sits.since p one few was lived still)
          ∙ ap (λ (n : ℕ). min n BLOCK_WORDS) (sym (heard.since p one lived));
    }
