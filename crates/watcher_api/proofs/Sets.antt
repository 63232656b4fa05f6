-- Attached sets of which one has acted, or one comes or goes.
use Rattle.std.proofs.Common.{◌≡◌, ◌<◌, ◌≤◌, ◌-◌, ◌∙◌, ℕ, List, [], length, map, refl, sym, ap, subst, arith, true}
use Rattle.std.proofs.Common.{◌⊎◌, inl, inr}
use Rattle.std.specs.Prelude.{slice_set, slice_index_or}
use Rattle.std.proofs.lemmas.List.{map-set, get_or-map, get_or-set_same, get_or-set_other, set-get_or, length-set, length-map, same_lists, get_or_default}
use Rattle.std.proofs.Math.ListN.{get_or-map as get_or-map'}
use Rattle.std.proofs.lemmas.List.Elements.{All-set}
use Rattle.std.proofs.lemmas.Bool.{cases_eq, cases_order}
use Rattle.std.proofs.Math.Seq.{map-set_same}
use Rattle.flat_model.specs.declared.events.Event.{Event}
use Rattle.flat_model.specs.declared.plugins.Ask.{Ask}
use Rattle.flat_model.specs.declared.plugins.Ask.TheVariants.{Stay}
use Rattle.event_walk.specs.Walk.{Walk, first_ask}
use Rattle.watcher_api.specs.Attachment.{Attachment, calls_at}
use Rattle.watcher_api.specs.Acting.{walk_of, act_in, HasActed, ask_of, walks_of, acts_of, acts_at, column_at, no_walk, with_act}
use Rattle.watcher_api.specs.Acting.{AreInOrder, AreNumbered}

order_of : (j k : ℕ) → (j ≡ k → ⊥) → (j < k) ⊎ (k < j)
order_of j k other = elim (cases_order j k) [ inl same ↦ absurd (other same) | inr apart ↦ apart ]

module _ (sets : List Attachment) (k : ℕ) (old new : Attachment) (below : k < length sets) (is : old ≡ slice_index_or sets k old)
    (number : new.plugin ≡ old.plugin) where
  pub numbers_kept : map (λ (a : Attachment). a.plugin) (slice_set sets k new) ≡ map (λ (a : Attachment). a.plugin) sets
  numbers_kept = map-set_same (λ (a : Attachment). a.plugin) sets k new old (number ∙ ap (λ (a : Attachment). a.plugin) is)

  plugin_kept : (j : ℕ) (d : Attachment) → (slice_index_or (slice_set sets k new) j d).plugin ≡ (slice_index_or sets j d).plugin
  plugin_kept j d =
      sym (get_or-map' (λ (a : Attachment). a.plugin) (slice_set sets k new) j d)
      ∙ (ap (λ l. slice_index_or l j d.plugin) numbers_kept ∙ get_or-map' (λ (a : Attachment). a.plugin) sets j d)

  pub ordered_set : AreInOrder sets → AreInOrder (slice_set sets k new)
  ordered_set order i j d first within =
      let long : j < length sets = omega (arith, within, length-set sets k new) in
      rw (plugin_kept i d, plugin_kept j d) (order i j d first long)

  pub numbered_set : AreNumbered sets → AreNumbered (slice_set sets k new)
  numbered_set numbered =
      All-set (λ (a : Attachment). (1 ≤ a.plugin) × (a.plugin ≤ 8)) sets k new
      (subst (λ p. (1 ≤ p) × (p ≤ 8)) (sym number)
      (subst (λ (a : Attachment). (1 ≤ a.plugin) × (a.plugin ≤ 8)) (sym is) (numbered k old below))) numbered

  pub acts_set : new.acts ≡ old.acts → acts_of (slice_set sets k new) ≡ acts_of sets
  acts_set same =
      map-set_same (λ (a : Attachment). (a.plugin, a.acts)) sets k new old
      (rw (number, same) refl ∙ ap (λ (a : Attachment). (a.plugin, a.acts)) is)

  acts_there : acts_at sets k ≡ old.acts
  acts_there = get_or-map (λ (a : Attachment). a.acts) sets k old [] below ∙ ap (λ (a : Attachment). a.acts) (sym is)

  column_there : column_at sets k ≡ old.column
  column_there = get_or-map (λ (a : Attachment). a.column) sets k old [] below ∙ ap (λ (a : Attachment). a.column) (sym is)

  -- two sets have different numbers
  apart : AreInOrder sets → (j : ℕ) (d : Attachment) → j < length sets → (j ≡ k → ⊥) → (slice_index_or sets j d).plugin ≡ old.plugin → ⊥
  apart order j d within other same =
      let at_k : (slice_index_or sets k d).plugin ≡ old.plugin =
      ap (λ (a : Attachment). a.plugin) (get_or_default sets k d old below ∙ sym is) in
      elim (order_of j k other) [
        | inl before ↦ let less = order j k d before below in omega (arith, less, at_k, same)
        | inr behind ↦ let more = order k j d behind within in omega (arith, more, at_k, same)
      ]

  module _ (asks : List Ask) (asked : Ask) (eight : length asks ≡ 8) (order : AreInOrder sets) (numbered : AreNumbered sets) where
    -- the others keep what they asked for
    others_keep : (j : ℕ) (d : Attachment) → j < length sets → (j ≡ k → ⊥)
        → ask_of (slice_index_or sets j d).plugin (slice_set asks (old.plugin - 1) asked) ≡ ask_of (slice_index_or sets j d).plugin asks
    others_keep j d within other =
        let differ = apart order j d within other in
        let one = (numbered j d within).0 in
        let two : 1 ≤ old.plugin = subst (λ (a : Attachment). 1 ≤ a.plugin) (sym is) (numbered k old below).0 in
        get_or-set_other asks (old.plugin - 1) ((slice_index_or sets j d).plugin - 1) asked Stay
        (λ same. differ (omega (arith, same, one, two)))

    at_place : (later : List Ask) → later ≡ slice_set asks (old.plugin - 1) asked → (j : ℕ) (d : Walk) → j < length sets
        → slice_index_or (slice_set (walks_of later sets) k (walk_of new asked)) j d
        ≡ slice_index_or (slice_set (walks_of asks sets) k (walk_of new asked)) j d
    at_place later is_later j d within =
        let f : Attachment → Walk = λ a. walk_of a (ask_of a.plugin later) in
        let g : Attachment → Walk = λ a. walk_of a (ask_of a.plugin asks) in
        elim (cases_eq j k) [
          | inl same ↦
              rw same
              (get_or-set_same (map f sets) k (walk_of new asked) d (omega (arith, below, length-map sets f))
              ∙ sym (get_or-set_same (map g sets) k (walk_of new asked) d (omega (arith, below, length-map sets g))))
          | inr other ↦
              let a : Attachment = slice_index_or sets j old in
              get_or-set_other (map f sets) k j (walk_of new asked) d other
              ∙ (get_or-map f sets j old d within
              ∙ (ap (walk_of a) (ap (ask_of a.plugin) is_later ∙ others_keep j old within other)
              ∙ (sym (get_or-map g sets j old d within)
              ∙ sym (get_or-set_other (map g sets) k j (walk_of new asked) d other))))
        ]

    pub walks_set : (later : List Ask) → later ≡ slice_set asks (old.plugin - 1) asked
        → walks_of later (slice_set sets k new) ≡ slice_set (walks_of asks sets) k (walk_of new asked)
    walks_set later is_later =
        let f : Attachment → Walk = λ a. walk_of a (ask_of a.plugin later) in
        let g : Attachment → Walk = λ a. walk_of a (ask_of a.plugin asks) in
        let two : 1 ≤ old.plugin = subst (λ (a : Attachment). 1 ≤ a.plugin) (sym is) (numbered k old below).0 in
        let three : old.plugin ≤ 8 = subst (λ (a : Attachment). a.plugin ≤ 8) (sym is) (numbered k old below).1 in
        let asked_here : ask_of new.plugin later ≡ asked =
        rw (number, is_later) (get_or-set_same asks (old.plugin - 1) asked Stay (omega (arith, two, three, eight))) in
        let here : f new ≡ walk_of new asked = ap (walk_of new) asked_here in
        map-set f sets k new
        ∙ (ap (slice_set (map f sets) k) here
        ∙ same_lists (slice_set (map f sets) k (walk_of new asked)) (slice_set (map g sets) k (walk_of new asked))
        (omega (arith, length-set (map f sets) k (walk_of new asked), length-set (map g sets) k (walk_of new asked), length-map sets f, length-map sets g))
        (λ j d within. at_place later is_later j d (omega (arith, within, length-set (map f sets) k (walk_of new asked), length-map sets f))))

-- the set at place k has acted, and what its box asked for is noted
pub acted_at : (sets : List Attachment) (k i : ℕ) (e : Event) (old new : Attachment) (asks later : List Ask) (ask : Ask)
    → k < length sets → old ≡ slice_index_or sets k old → HasActed i e old new ask
    → length asks ≡ 8 → AreInOrder sets → AreNumbered sets
    → later ≡ slice_set asks (old.plugin - 1) (first_ask (ask_of old.plugin asks) ask)
    → walks_of later (slice_set sets k new) ≡ with_act k i (act_in (acts_at sets k) i) e (walks_of asks sets)
acted_at sets k i e old new asks later ask below is has eight order numbered is_later =
    let asked : Ask = first_ask (ask_of old.plugin asks) ask in
    let g : Attachment → Walk = λ a. walk_of a (ask_of a.plugin asks) in
    let here : slice_index_or (walks_of asks sets) k no_walk ≡ walk_of old (ask_of old.plugin asks) =
    get_or-map g sets k old no_walk below ∙ ap g (sym is) in
    walks_set sets k old new below is has.number asks asked eight order numbered later is_later
    ∙ rw (acts_there sets k old new below is has.number, here, has.done (ask_of old.plugin asks)) refl

-- nothing has changed
pub refused_at : (sets : List Attachment) (k i : ℕ) (old new : Attachment)
    → k < length sets → old ≡ slice_index_or sets k old → new ≡ old
    → calls_at (act_in old.acts i) old.column ≡ true
    → (slice_set sets k new ≡ sets) × (calls_at (act_in (acts_at sets k) i) (column_at sets k) ≡ true)
refused_at sets k i old new below is same calls =
    let number : new.plugin ≡ old.plugin = ap (λ (a : Attachment). a.plugin) same in (
      rw (same, is) (set-get_or sets k old),
      rw (acts_there sets k old new below is number, column_there sets k old new below is number) calls,
    )

-- a subscription of the set at place k is one of its own
pub sub_there : (sets : List Attachment) (k i : ℕ) (old : Attachment) → k < length sets → old ≡ slice_index_or sets k old
    → i < length (acts_at sets k) → i < length old.acts
sub_there sets k i old below is within = omega (arith, within, ap length (acts_there sets k old old below is refl))
