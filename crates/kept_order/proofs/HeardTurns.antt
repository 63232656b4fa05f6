-- What the sets of a hart have made of its steps.
use Rattle.std.proofs.Common.{◌≡◌, ◌==◌, ◌+◌, ◌-◌, ◌<◌, ◌≤◌, ◌∷◌, [], ◌∙◌, ℕ, zero, suc, Bool, true, false, List}
use Rattle.std.proofs.Common.{Some, None, refl, sym, ap, arith, inl, inr, length, map}
use Rattle.std.specs.Prelude.{if◌then◌else◌, slice_index_or}
use Rattle.std.specs.List.{filter_map, cons_option}
use Rattle.std.proofs.lemmas.Bool.{cases_Bool, false≢true}
use Rattle.std.proofs.lemmas.Bool.Decides.{nat_tests}
use Rattle.flat_model.specs.declared.plugins.Act.{Act}
use Rattle.flat_model.specs.declared.plugins.Ask.{Ask}
use Rattle.flat_model.specs.declared.plugins.SetSpec.{SetSpec}
use Rattle.flat_model.specs.declared.plugins.Sub.{Sub}
use Rattle.flat_model.specs.declared.events.Event.{Event}
use Rattle.flat_model.specs.declared.journals.Item.{Item}
use Rattle.flat_model.specs.Log.{steps}
use Rattle.flat_model.specs.Registry.{Plugins, registry, sets_of}
use Rattle.event_walk.specs.Matches.{classes_of}
use Rattle.event_walk.specs.Walk.{Walk, walk}
use Rattle.watcher_api.specs.Attachment.{Attachment}
use Rattle.watcher_api.specs.Acting.{acts_of, ask_of, walk_of, walks_of, no_walk}
use Rattle.instr_lists.specs.Delivery.{no_asks, acts_with}
use Rattle.instr_lists.proofs.Events.{all_stay}
use Rattle.run_rules.specs.Guest.{Run, plugins}
use Rattle.run_rules.specs.Heard.{set_at, last_set}
use Rattle.run_rules.specs.Legal.{numbers, asks_nothing}
use Rattle.run_rules.specs.Places.{place_of, is_with_hart}
use Rattle.run_rules.proofs.Turns.{plugins_keep}
use Rattle.run_order.specs.Sets.{attachment_of, sets_for}
use Rattle.run_order.specs.InOrder.{Task, task_run}
use Rattle.run_order.proofs.Installing.{last_made}
use Rattle.kept_order.specs.Hearing.{spec_at, SpecsAreOfSets, TurnsAreHeard, TurnsMoveNoSets}
use Rattle.kept_order.proofs.Listening.{MaySteps, before_steps, set_is_live, set_is_installed, last_set_listens}
use Rattle.kept_order.proofs.Listening.{last_progress, waits_for, asked_none}
use Rattle.kept_order.proofs.Walking.{told, walks_over, picked, picked_walk}

-- Sets and their filters.

one_spec : (there : Bool) (a : Attachment) (s : ℕ × SetSpec) (sets : List Attachment) (specs : List (ℕ × SetSpec))
    → a.plugin ≡ s.0 → a.acts ≡ map (λ (sub : Sub). sub.act) s.1.subs → acts_of sets ≡ acts_with specs
    → acts_of (cons_option (if there then Some a else None) sets) ≡ acts_with (cons_option (if there then Some s else None) specs)
one_spec false a s sets specs number same rest = rest
one_spec true a s sets specs number same rest =
    ap (λ (k : ℕ). (k, a.acts) ∷ acts_of sets) number
    ∙ ap (λ (acts : List Act). (s.0, acts) ∷ acts_of sets) same
    ∙ ap (λ (all : List (ℕ × List Act)). (s.0, map (λ (sub : Sub). sub.act) s.1.subs) ∷ all) rest

all_specs : (run : Run) (h : ℕ) (past : List Item) (ks : List ℕ)
    → acts_of (filter_map (λ k. if is_with_hart (place_of run k h past) then Some (attachment_of run k h past) else None) ks)
    ≡ acts_with (filter_map (spec_at run h past) ks)
all_specs run h past [] = refl
all_specs run h past (k ∷ ks) =
    one_spec (is_with_hart (place_of run k h past)) (attachment_of run k h past) (k, set_at run k (last_set (plugins run past) k) past)
    (filter_map (λ j. if is_with_hart (place_of run j h past) then Some (attachment_of run j h past) else None) ks)
    (filter_map (spec_at run h past) ks) refl refl (all_specs run h past ks)

pub specs_are_of_sets : SpecsAreOfSets
specs_are_of_sets run h past = all_specs run h past (numbers (plugins run past))

-- Sets are known by their numbers and acts, and by where their walks have come.

abbrev built : ℕ → List Act → List (List Event) → List ℕ → Attachment
built plugin acts heard column = record { plugin = plugin; acts = acts; heard = heard; column = column }

set_is : (a b : Attachment) → a.plugin ≡ b.plugin → a.acts ≡ b.acts → a.heard ≡ b.heard → a.column ≡ b.column → a ≡ b
set_is a b number same heard column =
    ap (λ (k : ℕ). built k a.acts a.heard a.column) number
    ∙ ap (λ (acts : List Act). built b.plugin acts a.heard a.column) same
    ∙ ap (λ (events : List (List Event)). built b.plugin b.acts events a.column) heard
    ∙ ap (built b.plugin b.acts b.heard) column

module _ (asks : List Ask) where
  -- what the sets of these numbers asked for
  abbrev Asked : (ℕ → Bool) → (ℕ → Ask) → ℕ → ℕ → Type 0
  Asked test ask a n = (k : ℕ) → a ≤ k → k < a + n → test k ≡ true → ask_of k asks ≡ ask k

  one_known : (there : Bool) (sets : List Attachment) (old new : Attachment) (ask : Ask)
      (olds news : List Attachment) (walks : List Walk) (P : Type 0)
      → old.plugin ≡ new.plugin → old.acts ≡ new.acts
      → ((rest : List Attachment) → acts_of rest ≡ acts_of olds → walks_of asks rest ≡ walks → (rest ≡ news) × P)
      → acts_of sets ≡ acts_of (cons_option (if there then Some old else None) olds)
      → walks_of asks sets ≡ cons_option (if there then Some (walk_of new ask) else None) walks
      → (sets ≡ cons_option (if there then Some new else None) news) × (there ≡ true → ask_of new.plugin asks ≡ ask) × P
  one_known false sets old new ask olds news walks P number acts others same walked =
      let rest = others sets same walked in
      (rest.0, λ is. absurd (false≢true is), rest.1)
  one_known true [] old new ask olds news walks P number acts others same walked = absurd cc
  one_known true (s ∷ sets) old new ask olds news walks P number acts others same walked =
      let tail_acts : acts_of sets ≡ acts_of olds = cc in
      let tail_walks : walks_of asks sets ≡ walks = cc in
      let rest = others sets tail_acts tail_walks in
      let own : s.plugin ≡ new.plugin = ap (λ (l : List (ℕ × List Act)). (slice_index_or l 0 (0, [])).0) same ∙ number in
      let is : s ≡ new =
      set_is s new own (ap (λ (l : List (ℕ × List Act)). (slice_index_or l 0 (0, [])).1) same ∙ acts)
      (ap (λ (l : List Walk). (slice_index_or l 0 no_walk).heard) walked)
      (ap (λ (l : List Walk). (slice_index_or l 0 no_walk).column) walked) in (
        ap (λ (a : Attachment). a ∷ sets) is ∙ ap (λ (all : List Attachment). new ∷ all) rest.0,
        λ there. ap (λ (k : ℕ). ask_of k asks) (sym own) ∙ ap (λ (l : List Walk). (slice_index_or l 0 no_walk).asked) walked,
        rest.1,
      )

  sets_known : (test : ℕ → Bool) (old new : ℕ → Attachment) (ask : ℕ → Ask) (a n : ℕ) (sets : List Attachment)
      → ((k : ℕ) → (old k).plugin ≡ k) → ((k : ℕ) → (new k).plugin ≡ k) → ((k : ℕ) → (old k).acts ≡ (new k).acts)
      → acts_of sets ≡ acts_of (picked test old a n) → walks_of asks sets ≡ picked test (λ k. walk_of (new k) (ask k)) a n
      → (sets ≡ picked test new a n) × Asked test ask a n
  sets_known test old new ask a zero [] numbers news acts same walked = (refl, λ k low high. absurd (omega (arith, low, high)))
  sets_known test old new ask a zero (s ∷ sets) numbers news acts same walked = absurd cc
  sets_known test old new ask a (suc n) sets numbers news acts same walked =
      let one = one_known (test a) sets (old a) (new a) (ask a) (picked test old (a + 1) n) (picked test new (a + 1) n)
      (picked test (λ k. walk_of (new k) (ask k)) (a + 1) n) (Asked test ask (a + 1) n) (numbers a ∙ sym (news a)) (acts a)
      (λ rest rest_same rest_walked. sets_known test old new ask (a + 1) n rest numbers news acts rest_same rest_walked) same walked in (
        one.0,
        λ k low high is. elim (cases_Bool (a == k)) [
          | inl at ↦
              let e : a ≡ k = grind (arith, nat_tests, at) in
              ap (λ (j : ℕ). ask_of j asks) (sym (news a ∙ e)) ∙ one.1 (ap test e ∙ is) ∙ ap ask e
          | inr off ↦
              let above : a + 1 ≤ k = grind (arith, nat_tests, off, low) in
              one.2 k above (omega (arith, high)) is
        ],
      )

-- What steps make of the sets.

-- where sets are, while a hart steps
pub place_keeps : (run : Run) (plugin h n : ℕ) (past : List Item) → place_of run plugin h (steps h n past) ≡ place_of run plugin h past
unfolding place_of
place_keeps run plugin h zero past = refl
place_keeps run plugin h (suc n) past = place_keeps run plugin h n past

picked_keep : (run : Run) (h n : ℕ) (past : List Item) (f : ℕ → Attachment) (ks : List ℕ)
    → filter_map (λ k. if is_with_hart (place_of run k h (steps h n past)) then Some (f k) else None) ks
    ≡ filter_map (λ k. if is_with_hart (place_of run k h past) then Some (f k) else None) ks
unfolding place_of
picked_keep run h zero past f ks = refl
picked_keep run h (suc n) past f ks = picked_keep run h n past f ks

abbrev picked_of : Run → ℕ → List Item → Plugins → List Attachment
picked_of run h log r =
    filter_map (λ k. if is_with_hart (place_of run k h log) then Some (last_made run k h (sets_of r k) log) else None) (numbers r)

sets_now : (run : Run) (h n : ℕ) (past : List Item)
    → sets_for is_with_hart run h (steps h n past)
    ≡ picked (λ k. is_with_hart (place_of run k h past)) (λ k. last_made run k h (sets_of (plugins run past) k) (steps h n past)) 1
    (length (plugins run past).plugins)
sets_now run h n past =
    ap (picked_of run h (steps h n past)) (plugins_keep run h n past)
    ∙ picked_keep run h n past (λ k. last_made run k h (sets_of (plugins run past) k) (steps h n past)) (numbers (plugins run past))

-- a set that is with the hart walks over the events
set_walks : (t : Task) (h n : ℕ) (past : List Item) (k : ℕ) → h < t.machine.harts → MaySteps (task_run t) h past
    → asks_nothing (task_run t) h past ≡ true → 1 ≤ k → k < 1 + length (plugins (task_run t) past).plugins
    → is_with_hart (place_of (task_run t) k h past) ≡ true
    → walk (classes_of t.machine.image) (set_at (task_run t) k (last_set (plugins (task_run t) past) k) past).subs (told t h n past)
    (walk_of (attachment_of (task_run t) k h past) (ask_of k no_asks))
    ≡ (last_progress (task_run t) k h (steps h n past) (plugins (task_run t) past)).walk
set_walks t h n past k low may none one most with =
    let run = task_run t in
    let r = plugins run past in
    let set = last_set r k in
    let spec = set_at run k set past in
    let live = set_is_live run h k past low may one (omega (arith, most)) with in
    let begun : ask_of k no_asks ≡ (last_progress run k h past r).walk.asked =
    all_stay 8 (k - 1) ∙ sym (asked_none run h k past none one (omega (arith, most)) live) in
    ap (λ (a : Ask). walk (classes_of t.machine.image) spec.subs (told t h n past) (walk_of (attachment_of run k h past) a)) begun
    ∙ sym (walks_over t spec k set h n past (last_set_listens run k past may.legal one (omega (arith, most)) live))

pub turns_are_heard : TurnsAreHeard
turns_are_heard t h n past sets asks low some legal state none same heard =
    let run = task_run t in
    let r = plugins run past in
    let now = steps h n past in
    let may : MaySteps run h past = before_steps run h n past some legal state in
    let there : ℕ → Bool = λ k. is_with_hart (place_of run k h past) in
    let made : ℕ → Attachment = λ k. last_made run k h (sets_of r k) now in
    let ask : ℕ → Ask = λ k. (last_progress run k h now r).walk.asked in
    let walked = picked_walk (classes_of t.machine.image) (told t h n past) there (λ k. (k, set_at run k (last_set r k) past))
    (λ k. attachment_of run k h past) (λ k. (last_progress run k h now r).walk) 1 (length r.plugins)
    (λ k one most with. set_walks t h n past k low may none one most with) in
    let known = sets_known asks there (λ k. attachment_of run k h past) made ask 1 (length r.plugins) sets
    (λ k. refl) (λ k. refl) (λ k. refl) same (heard ∙ walked) in
    record {
      sets = known.0 ∙ sym (sets_now run h n past);
      asks = λ plugin one few with.
          let at : is_with_hart (place_of run plugin h past) ≡ true = ap is_with_hart (sym (place_keeps run plugin h n past)) ∙ with in
          let most : plugin ≤ length r.plugins = set_is_installed run h plugin past low may one at in
          known.1 plugin one (omega (arith, most)) at
          ∙ sym (waits_for run h plugin past now one most (set_is_live run h plugin past low may one most at) (plugins_keep run h n past));
    }

pub turns_move_no_sets : TurnsMoveNoSets
unfolding registry place_of
turns_move_no_sets run h zero past = refl
turns_move_no_sets run h (suc n) past = turns_move_no_sets run h n past
