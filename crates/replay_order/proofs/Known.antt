-- Sets that are known by where their walks have come, and sets that aren't among those that are picked.
use Rattle.std.proofs.Common.{◌≡◌, ◌≢◌, ◌==◌, ◌+◌, ◌<◌, ◌≤◌, ◌∷◌, [], ◌∙◌, ℕ, zero, suc, Bool, true, false, List}
use Rattle.std.proofs.Common.{Some, None, refl, sym, ap, arith, inl, inr, length}
use Rattle.std.specs.Prelude.{if◌then◌else◌, slice_index_or}
use Rattle.std.specs.List.{filter_map, cons_option}
use Rattle.std.proofs.lemmas.Bool.{cases_Bool, false≢true}
use Rattle.std.proofs.lemmas.Bool.Decides.{nat_tests}
use Rattle.flat_model.specs.declared.plugins.Act.{Act}
use Rattle.flat_model.specs.declared.plugins.Ask.{Ask}
use Rattle.flat_model.specs.declared.events.Event.{Event}
use Rattle.flat_model.specs.declared.journals.Item.{Item}
use Rattle.flat_model.specs.Log.{steps}
use Rattle.flat_model.specs.Registry.{Plugins, sets_of}
use Rattle.event_walk.specs.Walk.{Walk}
use Rattle.watcher_api.specs.Attachment.{Attachment}
use Rattle.watcher_api.specs.Acting.{acts_of, ask_of, walk_of, walks_of, no_walk, IsAbsent}
use Rattle.run_rules.specs.Guest.{Run, plugins}
use Rattle.run_rules.specs.Legal.{numbers}
use Rattle.run_rules.specs.Places.{place_of, is_with_hart}
use Rattle.run_rules.proofs.Turns.{plugins_keep}
use Rattle.run_order.specs.Sets.{sets_for}
use Rattle.run_order.proofs.Installing.{last_made}
use Rattle.kept_order.proofs.Walking.{picked}

-- Sets are known by their numbers and acts, and by where their walks have come.

abbrev built : ℕ → List Act → List (List Event) → List ℕ → Attachment
built plugin acts heard column = record { plugin = plugin; acts = acts; heard = heard; column = column }

set_is : (a b : Attachment) → a.plugin ≡ b.plugin → a.acts ≡ b.acts → a.heard ≡ b.heard → a.column ≡ b.column → a ≡ b
set_is a b number same heard column =
    ap (λ (k : ℕ). built k a.acts a.heard a.column) number
    ∙ ap (λ (acts : List Act). built b.plugin acts a.heard a.column) same
    ∙ ap (λ (events : List (List Event)). built b.plugin b.acts events a.column) heard
    ∙ ap (built b.plugin b.acts b.heard) column

module _ (asks : List Ask) where
  -- what the sets of these numbers asked for
  abbrev Asked : (ℕ → Bool) → (ℕ → Ask) → ℕ → ℕ → Type 0
  Asked test ask a n = (k : ℕ) → a ≤ k → k < a + n → test k ≡ true → ask_of k asks ≡ ask k

  one_known : (there : Bool) (sets : List Attachment) (old new : Attachment) (ask : Ask)
      (olds news : List Attachment) (walks : List Walk) (P : Type 0)
      → old.plugin ≡ new.plugin → old.acts ≡ new.acts
      → ((rest : List Attachment) → acts_of rest ≡ acts_of olds → walks_of asks rest ≡ walks → (rest ≡ news) × P)
      → acts_of sets ≡ acts_of (cons_option (if there then Some old else None) olds)
      → walks_of asks sets ≡ cons_option (if there then Some (walk_of new ask) else None) walks
      → (sets ≡ cons_option (if there then Some new else None) news) × (there ≡ true → ask_of new.plugin asks ≡ ask) × P
  one_known false sets old new ask olds news walks P number acts others same walked =
      let rest = others sets same walked in
      (rest.0, λ is. absurd (false≢true is), rest.1)
  one_known true [] old new ask olds news walks P number acts others same walked = absurd cc
  one_known true (s ∷ sets) old new ask olds news walks P number acts others same walked =
      let tail_acts : acts_of sets ≡ acts_of olds = cc in
      let tail_walks : walks_of asks sets ≡ walks = cc in
      let rest = others sets tail_acts tail_walks in
      let own : s.plugin ≡ new.plugin = ap (λ (l : List (ℕ × List Act)). (slice_index_or l 0 (0, [])).0) same ∙ number in
      let is : s ≡ new =
      set_is s new own (ap (λ (l : List (ℕ × List Act)). (slice_index_or l 0 (0, [])).1) same ∙ acts)
      (ap (λ (l : List Walk). (slice_index_or l 0 no_walk).heard) walked)
      (ap (λ (l : List Walk). (slice_index_or l 0 no_walk).column) walked) in (
        ap (λ (a : Attachment). a ∷ sets) is ∙ ap (λ (all : List Attachment). new ∷ all) rest.0,
        λ there. ap (λ (k : ℕ). ask_of k asks) (sym own) ∙ ap (λ (l : List Walk). (slice_index_or l 0 no_walk).asked) walked,
        rest.1,
      )

  pub sets_known : (test : ℕ → Bool) (old new : ℕ → Attachment) (ask : ℕ → Ask) (a n : ℕ) (sets : List Attachment)
      → ((k : ℕ) → (old k).plugin ≡ k) → ((k : ℕ) → (new k).plugin ≡ k) → ((k : ℕ) → (old k).acts ≡ (new k).acts)
      → acts_of sets ≡ acts_of (picked test old a n) → walks_of asks sets ≡ picked test (λ k. walk_of (new k) (ask k)) a n
      → (sets ≡ picked test new a n) × Asked test ask a n
  sets_known test old new ask a zero [] numbers news acts same walked = (refl, λ k low high. absurd (omega (arith, low, high)))
  sets_known test old new ask a zero (s ∷ sets) numbers news acts same walked = absurd cc
  sets_known test old new ask a (suc n) sets numbers news acts same walked =
      let one = one_known (test a) sets (old a) (new a) (ask a) (picked test old (a + 1) n) (picked test new (a + 1) n)
      (picked test (λ k. walk_of (new k) (ask k)) (a + 1) n) (Asked test ask (a + 1) n) (numbers a ∙ sym (news a)) (acts a)
      (λ rest rest_same rest_walked. sets_known test old new ask (a + 1) n rest numbers news acts rest_same rest_walked) same walked in (
        one.0,
        λ k low high is. elim (cases_Bool (a == k)) [
          | inl at ↦
              let e : a ≡ k = grind (arith, nat_tests, at) in
              ap (λ (j : ℕ). ask_of j asks) (sym (news a ∙ e)) ∙ one.1 (ap test e ∙ is) ∙ ap ask e
          | inr off ↦
              let above : a + 1 ≤ k = grind (arith, nat_tests, off, low) in
              one.2 k above (omega (arith, high)) is
        ],
      )

-- What steps make of the sets.

picked_keep : (run : Run) (h n : ℕ) (past : List Item) (f : ℕ → Attachment) (ks : List ℕ)
    → filter_map (λ k. if is_with_hart (place_of run k h (steps h n past)) then Some (f k) else None) ks
    ≡ filter_map (λ k. if is_with_hart (place_of run k h past) then Some (f k) else None) ks
unfolding place_of
picked_keep run h zero past f ks = refl
picked_keep run h (suc n) past f ks = picked_keep run h n past f ks

abbrev picked_of : Run → ℕ → List Item → Plugins → List Attachment
picked_of run h log r =
    filter_map (λ k. if is_with_hart (place_of run k h log) then Some (last_made run k h (sets_of r k) log) else None) (numbers r)

pub sets_now : (run : Run) (h n : ℕ) (past : List Item)
    → sets_for is_with_hart run h (steps h n past)
    ≡ picked (λ k. is_with_hart (place_of run k h past)) (λ k. last_made run k h (sets_of (plugins run past) k) (steps h n past)) 1
    (length (plugins run past).plugins)
sets_now run h n past =
    ap (picked_of run h (steps h n past)) (plugins_keep run h n past)
    ∙ picked_keep run h n past (λ k. last_made run k h (sets_of (plugins run past) k) (steps h n past)) (numbers (plugins run past))

-- a set isn't among those that are picked, where its own number isn't
also_absent : (a : Attachment) (sets : List Attachment) (plugin : ℕ) → a.plugin ≢ plugin → IsAbsent plugin sets → IsAbsent plugin (a ∷ sets)
also_absent a sets plugin off rest zero d within = off
also_absent a sets plugin off rest (suc i) d within = rest i d (omega (arith, within))

one_absent : (there : Bool) (a : Attachment) (sets : List Attachment) (plugin : ℕ)
    → (there ≡ true → a.plugin ≢ plugin) → IsAbsent plugin sets → IsAbsent plugin (cons_option (if there then Some a else None) sets)
one_absent false a sets plugin off rest = rest
one_absent true a sets plugin off rest = also_absent a sets plugin (off refl) rest

pub picked_absent : (test : ℕ → Bool) (f : ℕ → Attachment) (plugin a n : ℕ) → ((k : ℕ) → (f k).plugin ≡ k) → test plugin ≡ false
    → IsAbsent plugin (picked test f a n)
picked_absent test f plugin a zero numbers without = λ i d within. absurd (omega (arith, within))
picked_absent test f plugin a (suc n) numbers without =
    one_absent (test a) (f a) (picked test f (a + 1) n) plugin
    (λ there e. false≢true (sym without ∙ ap test (sym e ∙ numbers a) ∙ there))
    (picked_absent test f plugin (a + 1) n numbers without)
