-- A state in which a box's ask became an order, and the loop over all asks of a hart.
use Rattle.std.proofs.Common.{◌≡◌, ◌==◌, ◌&&◌, ◌+◌, ◌<◌, ◌≤◌, ◌∷◌, ◌∙◌, ℕ, Bool, true, false, not, List, Option, Some, None}
use Rattle.std.proofs.Common.{refl, sym, ap, subst, arith, inl, inr, length}
use Rattle.std.specs.Prelude.{if◌then◌else◌, is_some}
use Rattle.std.specs.List.Sorted.{IsNonDecreasingBy}
use Rattle.std.proofs.lemmas.Bool.{cases_Bool, false≢true}
use Rattle.std.proofs.lemmas.Bool.Decides.{nat_tests}
use Rattle.flat_model.specs.declared.plugins.Ask.{Ask}
use Rattle.flat_model.specs.declared.plugins.Ask.TheVariants.{Stay}
use Rattle.flat_model.specs.declared.journals.How.{How}
use Rattle.flat_model.specs.declared.journals.How.TheVariants as how
use Rattle.flat_model.specs.declared.journals.Item.{Item}
use Rattle.flat_model.specs.declared.journals.Item.TheVariants.{Ordered}
use Rattle.flat_model.specs.declared.journals.Order.{Order}
use Rattle.flat_model.specs.declared.journals.Origin.TheVariants.{Asked}
use Rattle.flat_model.specs.Asks.{stays}
use Rattle.flat_model.specs.Log.{log}
use Rattle.flat_model.specs.Registry.{Plugins, plugin_of, refusal, after_order}
use Rattle.baton_gate.specs.Logs.{GoesOn}
use Rattle.baton_gate.proofs.LogLemmas.{goes_once, goes_on}
use Rattle.plug_registry.specs.State.{RegistryState}
use Rattle.run_journal.specs.Journal.{JournalState}
use Rattle.watcher_api.specs.Acting.{ask_of}
use Rattle.run_rules.specs.Guest.{plugins}
use Rattle.run_rules.specs.Due.{allowed, wanted}
use Rattle.run_rules.specs.Heard.{is_live, waiting}
use Rattle.run_rules.specs.Legal.{Legal, asked_order, asks_nothing}
use Rattle.run_rules.specs.Places.{withdraws}
use Rattle.run_order.specs.InOrder.{Task, task_run}
use Rattle.kept_order.specs.Ordering.{IsWithdrawal}
use Rattle.kept_order.specs.Withdrawing.{MovesNothing}
use Rattle.kept_order.proofs.Orders.{withdrawals_keep_order, same_long, withdrawal_names}
use Rattle.kept_order.proofs.Ranges.{all_of}
use Rattle.kept_order.proofs.Unplanned.{unplanned_orders_pass_nothing_by}
use Rattle.kept_order.proofs.Withdrawals.{withdrawals_move_nothing, asks_stand}
use Rattle.host_state.specs.Rooms.{HasRooms}
use Rattle.host_state.proofs.RoomKeeping.{withdrawn_rooms}
use Rattle.host_state.specs.Asking.{IsAskedBy, IsUnmoved, IsQuieted, withdrawal, asked_item}
use Rattle.host_state.specs.State.{StateValue, IsSound, stored_of}

-- One order.

-- a box on the hart asked for the withdrawal, and the plan wants nothing
pub record MayAsk (s : StateValue) (h plugin : ℕ) (by : How) : Type 0 where
  pub least : 1 ≤ plugin
  pub asked : asked_order plugin (waiting (task_run s.task) plugin h s.past) ≡ Some (withdrawal plugin by)
  pub none : wanted (task_run s.task) s.past ≡ None

pub may_ask : (s now : StateValue) (h plugin : ℕ) (by : How) → s ≡ now → 1 ≤ plugin
    → asked_order plugin (waiting (task_run now.task) plugin h now.past) ≡ Some (withdrawal plugin by)
    → wanted (task_run now.task) now.past ≡ None → MayAsk s h plugin by
may_ask s now h plugin by is least asked none =
    subst (λ (x : StateValue). MayAsk x h plugin by) (sym is) (record { least = least; asked = asked; none = none })

legal : (s : StateValue) (h plugin : ℕ) (by : How) → IsSound s → MayAsk s h plugin by
    → Legal (task_run s.task) (asked_item h plugin by ∷ s.past)
legal s h plugin by sound may =
    asks_stand (task_run s.task) h plugin (withdrawal plugin by) s.past sound.order.legal may.none may.least may.asked

is_allowed : (s : StateValue) (h plugin : ℕ) (by : How) → IsSound s → MayAsk s h plugin by
    → allowed (plugins (task_run s.task) s.past) (withdrawal plugin by) ≡ true
unfolding Legal
is_allowed s h plugin by sound may = (legal s h plugin by sound may).1.allowed

none_of : {A : Type 0} (o : Option A) → not (is_some o) ≡ true → o ≡ None
none_of None is = refl
none_of (Some a) is = absurd (false≢true is)

pub unrefused : (s : StateValue) (h plugin : ℕ) (by : How) (order : Order) → IsSound s → MayAsk s h plugin by → order ≡ withdrawal plugin by
    → refusal s.registry.table order ≡ None
unrefused s h plugin by order sound may is =
    ap (refusal s.registry.table) is ∙ ap (λ (r : Plugins). refusal r (withdrawal plugin by)) sound.order.plugins
    ∙ none_of (refusal (plugins (task_run s.task) s.past) (withdrawal plugin by)) (is_allowed s h plugin by sound may)

is_withdrawal : (plugin : ℕ) (by : How) → IsWithdrawal (withdrawal plugin by)
is_withdrawal plugin how.Reset = tt
is_withdrawal plugin how.Uninstall = tt

withdraws_it : (plugin : ℕ) (by : How) (p : ℕ) → withdraws (withdrawal plugin by) p ≡ (plugin == p)
withdraws_it plugin how.Reset p = refl
withdraws_it plugin how.Uninstall p = refl

same_boxes : (plugin : ℕ) (by : How) (r : Plugins) → (after_order (withdrawal plugin by) r).boxes ≡ r.boxes
same_boxes plugin how.Reset r = refl
same_boxes plugin how.Uninstall r = refl

-- what stands in the state then
pub record IsRecorded (s : StateValue) (h plugin : ℕ) (by : How) (items : List Item) (state : JournalState) (left : RegistryState)
    : Type 0 where
  pub past : items ≡ asked_item h plugin by ∷ s.past
  pub journal : log state.entries ≡ asked_item h plugin by ∷ log s.journal.entries
  pub plugins : left.table ≡ after_order (withdrawal plugin by) s.registry.table

-- by the orders that the calls were handed
pub recorded : (s : StateValue) (h plugin : ℕ) (by : How) (past : List Item) (journal : JournalState) (registry : RegistryState)
    (first second third : Order) → first ≡ withdrawal plugin by → second ≡ withdrawal plugin by → third ≡ withdrawal plugin by
    → registry.table ≡ after_order first s.registry.table → log journal.entries ≡ Ordered (Asked h plugin) second ∷ log s.journal.entries
    → past ≡ Ordered (Asked h plugin) third ∷ s.past → IsRecorded s h plugin by past journal registry
recorded s h plugin by past journal registry first second third a b c table entries items = record {
  past = items ∙ ap (λ (order : Order). Ordered (Asked h plugin) order ∷ s.past) c;
  journal = entries ∙ ap (λ (order : Order). Ordered (Asked h plugin) order ∷ log s.journal.entries) b;
  plugins = table ∙ ap (λ (order : Order). after_order order s.registry.table) a;
}

pub ordered : (s : StateValue) (h plugin : ℕ) (by : How) (past : List Item) (journal : JournalState) (registry : RegistryState)
    → IsSound s → MayAsk s h plugin by → IsRecorded s h plugin by past journal registry
    → IsSound (record s { past = past; journal = journal; registry = registry })
ordered s h plugin by past journal registry sound may b =
    let now : StateValue = record s { past = past; journal = journal; registry = registry } in
    let order = withdrawal plugin by in
    let is = is_withdrawal plugin by in
    let kept = withdrawals_keep_order s.task (Asked h plugin) order (stored_of s) (stored_of now) is sound.order
    (legal s h plugin by sound may) (record {
      past = b.past;
      journal = b.journal;
      shared = refl;
      plugins = b.plugins;
      waiting = refl;
      parked = refl;
      harts = refl;
      closers = refl;
    }) in
    let boxes = ap (λ (r : Plugins). r.boxes) b.plugins ∙ same_boxes plugin by s.registry.table in
    let long = ap (λ (r : Plugins). length r.plugins) b.plugins ∙ same_long s.registry.table order (withdrawal_names order is) in
    record {
      order = kept.order;
      arriving = sound.arriving ∙ sym kept.arrivals;
      limits = sound.limits;
      memory = sound.memory;
      places = sound.places;
      starts = sound.starts;
      boxes = omega (arith, boxes, sound.boxes);
      closers = omega (arith, long, sound.closers);
      rooms = subst (λ (xs : List Item). HasRooms (task_run s.task) xs s.rooms) (sym b.past)
          (withdrawn_rooms (task_run s.task) (Asked h plugin) order s.past s.rooms is sound.rooms);
      failed = sound.failed;
    }

-- what it leaves as it was
moves_nothing : (s : StateValue) (h plugin : ℕ) (by : How) → IsSound s → MayAsk s h plugin by
    → MovesNothing s.task h (withdrawal plugin by) s.past (asked_item h plugin by ∷ s.past)
moves_nothing s h plugin by sound may =
    withdrawals_move_nothing s.task h (Asked h plugin) (withdrawal plugin by) s.past (is_withdrawal plugin by)
    (is_allowed s h plugin by sound may)

still_live : (withdrawn live : Bool) → (not withdrawn && live) ≡ true → live ≡ true
still_live true live is = absurd (false≢true is)
still_live false live is = is

-- what holds of the log behind it
pub record IsBehind (s : StateValue) (h plugin : ℕ) (past : List Item) : Type 0 where
  pub unmoved : IsUnmoved s.task h s.past past
  pub quieted : IsQuieted s.task h plugin s.past past
  pub none : wanted (task_run s.task) past ≡ None

pub behind : (s now : StateValue) (h plugin : ℕ) (by : How) (past : List Item) (order : Order) → IsSound s → s ≡ now → 1 ≤ plugin
    → asked_order plugin (waiting (task_run now.task) plugin h now.past) ≡ Some (withdrawal plugin by)
    → wanted (task_run now.task) now.past ≡ None → IsNonDecreasingBy (λ t. t.when) s.task.plan.script
    → order ≡ withdrawal plugin by → past ≡ Ordered (Asked h plugin) order ∷ s.past → IsBehind s h plugin past
behind s now h plugin by past order sound view least asked none rising given items =
    let run = task_run s.task in
    let may = may_ask s now h plugin by view least asked none in
    let m = moves_nothing s h plugin by sound may in
    let is : past ≡ asked_item h plugin by ∷ s.past = items ∙ ap (λ (order : Order). Ordered (Asked h plugin) order ∷ s.past) given in
    subst (IsBehind s h plugin) (sym is) (record {
      unmoved = record { there = m.there; sets = m.sets; specs = m.specs; world = m.world; as_many = m.as_many };
      quieted = record {
        live = λ p one live. still_live (withdraws (withdrawal plugin by) p) _ (sym (m.live p one) ∙ live);
        asks = λ p one. m.asks p one
            ∙ ap (λ (b : Bool). if b then Stay else waiting run p h s.past) (withdraws_it plugin by p);
      };
      none = unplanned_orders_pass_nothing_by run (Asked h plugin) (withdrawal plugin by) s.past rising tt may.none;
    })

pub behind_now : (s now : StateValue) (h plugin : ℕ) (past : List Item) → s ≡ now → IsBehind s h plugin past → IsBehind now h plugin past
behind_now s now h plugin past is b = subst (λ (x : StateValue). IsBehind x h plugin past) is b

-- The asks of all plug-ins, up to a number.

pub record AsksSoFar (old now : StateValue) (h place : ℕ) (noted : List Ask) : Type 0 where
  pub asked : GoesOn (IsAskedBy h) old.past now.past
  pub rest : now ≡ record old { past = now.past; journal = now.journal; registry = now.registry }
  pub unmoved : IsUnmoved old.task h old.past now.past
  pub none : wanted (task_run now.task) now.past ≡ None
  pub quiet : (p : ℕ) → 1 ≤ p → p ≤ place → waiting (task_run now.task) p h now.past ≡ Stay
  pub asks : (p : ℕ) → place < p → is_live (plugin_of (plugins (task_run now.task) now.past) p).state ≡ true
      → ask_of p noted ≡ waiting (task_run now.task) p h now.past
  pub room : old.journal.spare ≤ now.journal.spare + place

-- an ask was recorded
pub one_asked : (h plugin : ℕ) (by : How) (past now : List Item) → now ≡ asked_item h plugin by ∷ past → GoesOn (IsAskedBy h) past now
one_asked h plugin by past now is = subst (GoesOn (IsAskedBy h) past) (sym is) (goes_once (IsAskedBy h) past (asked_item h plugin by) refl)

-- what one of them did
pub record IsOneOn (old new : StateValue) (h plugin : ℕ) : Type 0 where
  pub asked : GoesOn (IsAskedBy h) old.past new.past
  pub rest : new ≡ record old { past = new.past; journal = new.journal; registry = new.registry }
  pub unmoved : IsUnmoved old.task h old.past new.past
  pub quieted : IsQuieted old.task h plugin old.past new.past
  pub none : wanted (task_run new.task) new.past ≡ None
  pub room : old.journal.spare ≤ new.journal.spare + 1

unmoved_twice : (t : Task) (h : ℕ) (a b c : List Item) → IsUnmoved t h a b → IsUnmoved t h b c → IsUnmoved t h a c
unmoved_twice t h a b c u v = record {
  there = v.there ∙ u.there;
  sets = v.sets ∙ u.sets;
  specs = v.specs ∙ u.specs;
  world = v.world ∙ u.world;
  as_many = v.as_many ∙ u.as_many;
}

lower : (plugin place p : ℕ) → plugin ≡ place + 1 → (plugin == p) ≡ false → p ≤ place + 1 → p ≤ place
lower plugin place p number off most = grind (arith, nat_tests, off)

higher : (plugin place p : ℕ) → plugin ≡ place + 1 → place + 1 < p → (plugin == p) ≡ false
higher plugin place p number above = grind (arith, nat_tests)

pub next : (old mid new : StateValue) (h place plugin : ℕ) (noted : List Ask) → plugin ≡ place + 1 → AsksSoFar old mid h place noted
    → IsOneOn mid new h plugin → AsksSoFar old new h (place + 1) noted
next old mid new h place plugin noted number before one =
    let same : mid.task ≡ old.task = ap (λ (s : StateValue). s.task) before.rest in
    let task : new.task ≡ mid.task = ap (λ (s : StateValue). s.task) one.rest in
    let asks_now : (p : ℕ) → 1 ≤ p
    → waiting (task_run new.task) p h new.past ≡ (if plugin == p then Stay else waiting (task_run mid.task) p h mid.past) =
    λ p least. ap (λ (t : Task). waiting (task_run t) p h new.past) task ∙ one.quieted.asks p least in
    record {
      asked = goes_on (IsAskedBy h) (IsAskedBy h) (IsAskedBy h) old.past mid.past new.past before.asked one.asked (λ i is. is) (λ i is. is);
      rest = one.rest
          ∙ ap (λ (s : StateValue). record s { past = new.past; journal = new.journal; registry = new.registry }) before.rest;
      unmoved = unmoved_twice old.task h old.past mid.past new.past before.unmoved
          (subst (λ (t : Task). IsUnmoved t h mid.past new.past) same one.unmoved);
      none = one.none;
      quiet = λ p least most. elim (cases_Bool (plugin == p)) [
        | inl at ↦ asks_now p least ∙ ap (λ (b : Bool). if b then Stay else waiting (task_run mid.task) p h mid.past) at
        | inr off ↦
            asks_now p least ∙ ap (λ (b : Bool). if b then Stay else waiting (task_run mid.task) p h mid.past) off
            ∙ before.quiet p least (lower plugin place p number off most)
      ];
      asks = λ p above live.
          let off : (plugin == p) ≡ false = higher plugin place p number above in
          let least : 1 ≤ p = omega (arith, above) in
          let was =
          one.quieted.live p least (ap (λ (t : Task). is_live (plugin_of (plugins (task_run t) new.past) p).state) (sym task) ∙ live) in
          before.asks p (omega (arith, above)) was
          ∙ sym (asks_now p least ∙ ap (λ (b : Bool). if b then Stay else waiting (task_run mid.task) p h mid.past) off);
      room = omega (arith, before.room, one.room);
    }

-- once all were asked
pub all_quiet : (old now : StateValue) (h n : ℕ) (noted : List Ask) → AsksSoFar old now h n noted
    → n ≡ length (plugins (task_run old.task) old.past).plugins → asks_nothing (task_run now.task) h now.past ≡ true
all_quiet old now h n noted done number =
    let run = task_run now.task in
    let same : now.task ≡ old.task = ap (λ (s : StateValue). s.task) done.rest in
    let long : length (plugins run now.past).plugins ≡ length (plugins (task_run old.task) old.past).plugins =
    ap (λ (t : Task). length (plugins (task_run t) now.past).plugins) same ∙ done.unmoved.as_many in
    all_of (λ p. stays (waiting run p h now.past)) 1 (length (plugins run now.past).plugins)
    (λ p least most. ap stays (done.quiet p least (omega (arith, most, long, number))))
