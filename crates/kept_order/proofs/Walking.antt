-- The walks of a hart's sets over the events of its steps.
use Rattle.std.proofs.Common.{◌≡◌, ◌+◌, ◌≤◌, ◌<◌, ◌∷◌, [], ◌∙◌, ℕ, zero, suc, Bool, true, false, List}
use Rattle.std.proofs.Common.{Some, None, refl, sym, ap, arith}
use Rattle.std.specs.Prelude.{if◌then◌else◌}
use Rattle.std.specs.List.{filter_map, cons_option, range_with_len}
use Rattle.flat_model.specs.declared.events.Event.{Event}
use Rattle.flat_model.specs.declared.plugins.SetSpec.{SetSpec}
use Rattle.flat_model.specs.declared.journals.Item.{Item}
use Rattle.flat_model.specs.Log.{steps}
use Rattle.flat_model.specs.World.{HartState, Shared}
use Rattle.flat_model.specs.Step.{step_of, steps_of}
use Rattle.flat_model.specs.Worlds.{world, hart_of, next_step, IsRunOf}
use Rattle.flat_model.proofs.Worlds.{runs_alone}
use Rattle.event_walk.specs.Matches.{Classes, classes_of}
use Rattle.event_walk.specs.Walk.{Walk, walk, walk_from}
use Rattle.event_walk.proofs.Walks.{walks_in_a_row}
use Rattle.watcher_api.specs.Attachment.{Attachment}
use Rattle.watcher_api.specs.Acting.{walk_of, walks_of, ask_of}
use Rattle.instr_lists.specs.Delivery.{no_asks, each_hears, each_walks}
use Rattle.run_rules.specs.Guest.{plugins}
use Rattle.run_rules.specs.Heard.{progress, is_listening}
use Rattle.run_rules.proofs.Turns.{plugins_keep, same}
use Rattle.run_order.specs.InOrder.{Task, task_run}

-- the events of a hart's steps in a row
abbrev pub told : Task → ℕ → ℕ → List Item → List Event
told t h n past = (steps_of t.machine h n (hart_of t.machine t.mode past h) (world t.machine t.mode past).shared).events

-- a set that listens walks over them
pub walks_over : (t : Task) (spec : SetSpec) (plugin set h n : ℕ) (past : List Item)
    → is_listening (plugins (task_run t) past) plugin set ≡ true
    → (progress (task_run t) spec plugin set h (steps h n past)).walk
    ≡ walk (classes_of t.machine.image) spec.subs (told t h n past) (progress (task_run t) spec plugin set h past).walk
unfolding progress steps_of walk
walks_over t spec plugin set h zero past listens = refl
walks_over t spec plugin set h (suc n) past listens =
    let run = task_run t in
    let m = t.machine in
    let log = steps h n past in
    let classes = classes_of m.image in
    let from = (progress run spec plugin set h past).walk in
    let before = steps_of m h n (hart_of m t.mode past h) (world m t.mode past).shared in
    let alone : IsRunOf m t.mode h n past before = runs_alone m t.mode h n past in
    let still : is_listening (plugins run log) plugin set ≡ true =
    ap (λ r. is_listening r plugin set) (plugins_keep run h n past) ∙ listens in
    let next : (next_step m t.mode log h).events ≡ (step_of m h before.hart before.shared).events =
    ap (λ (k : HartState). (step_of m h k (world m t.mode log).shared).events) alone.hart
    ∙ ap (λ (s : Shared). (step_of m h before.hart s).events) alone.shared in
    rw (same h) (rw still (
    ap (walk classes spec.subs (next_step m t.mode log h).events) (walks_over t spec plugin set h n past listens)
    ∙ ap (λ (es : List Event). walk classes spec.subs es (walk classes spec.subs before.events from)) next
    ∙ sym (walks_in_a_row classes spec.subs before.events (step_of m h before.hart before.shared).events from)))

-- Several sets walk each by itself.

no_walks : (classes : Classes) (es : List Event) → each_walks classes [] es [] ≡ []
unfolding each_walks each_hears
no_walks classes [] = refl
no_walks classes (e ∷ es) = no_walks classes es

each_more : (classes : Classes) (s : ℕ × SetSpec) (sets : List (ℕ × SetSpec)) (es : List Event) (w : Walk) (ws : List Walk)
    → each_walks classes (s ∷ sets) es (w ∷ ws) ≡ walk classes s.1.subs es w ∷ each_walks classes sets es ws
unfolding each_walks each_hears walk
each_more classes s sets [] w ws = refl
each_more classes s sets (e ∷ es) w ws = each_more classes s sets es (walk_from classes e 0 s.1.subs w) (each_hears classes sets e ws)

-- what numbers give that pass a test
abbrev pub picked : {X : Type 0} → (ℕ → Bool) → (ℕ → X) → ℕ → ℕ → List X
picked test f a n = filter_map (λ k. if test k then Some (f k) else None) (range_with_len a n)

module _ (classes : Classes) (es : List Event) where
  one_walks : (there : Bool) (s : ℕ × SetSpec) (old : Attachment) (now : Walk)
      (sets : List (ℕ × SetSpec)) (olds : List Attachment) (nows : List Walk)
      → (there ≡ true → walk classes s.1.subs es (walk_of old (ask_of old.plugin no_asks)) ≡ now)
      → each_walks classes sets es (walks_of no_asks olds) ≡ nows
      → each_walks classes (cons_option (if there then Some s else None) sets) es
      (walks_of no_asks (cons_option (if there then Some old else None) olds))
      ≡ cons_option (if there then Some now else None) nows
  one_walks false s old now sets olds nows here rest = rest
  one_walks true s old now sets olds nows here rest =
      each_more classes s sets es (walk_of old (ask_of old.plugin no_asks)) (walks_of no_asks olds)
      ∙ ap (λ (w : Walk). w ∷ each_walks classes sets es (walks_of no_asks olds)) (here refl)
      ∙ ap (λ (ws : List Walk). now ∷ ws) rest

  pub picked_walk : (test : ℕ → Bool) (spec : ℕ → ℕ × SetSpec) (old : ℕ → Attachment) (now : ℕ → Walk) (a n : ℕ)
      → ((k : ℕ) → a ≤ k → k < a + n → test k ≡ true
      → walk classes (spec k).1.subs es (walk_of (old k) (ask_of (old k).plugin no_asks)) ≡ now k)
      → each_walks classes (picked test spec a n) es (walks_of no_asks (picked test old a n)) ≡ picked test now a n
  picked_walk test spec old now a zero each = no_walks classes es
  picked_walk test spec old now a (suc n) each =
      one_walks (test a) (spec a) (old a) (now a) (picked test spec (a + 1) n) (picked test old (a + 1) n) (picked test now (a + 1) n)
      (each a (omega arith) (omega arith))
      (picked_walk test spec old now (a + 1) n (λ k low high. each k (omega (arith, low)) (omega (arith, high))))
