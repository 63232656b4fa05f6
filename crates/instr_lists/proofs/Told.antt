-- The words of a block that were delivered without their events.
use Rattle.std.proofs.Common.{◌≡◌, ◌<◌, ◌+◌, ◌*◌, ◌∙◌, ◌∷◌, [], ℕ, zero, suc, List, length, map, take, All, Some}
use Rattle.std.proofs.Common.{true, refl, sym, ap, subst, arith}
use Rattle.std.specs.Prelude.{slice_index_or, flat_map}
use Rattle.std.proofs.lemmas.List.{take_all}
use Rattle.std.proofs.lemmas.List.Elements.{All-append}
use Rattle.flat_model.specs.declared.events.Event.{Event}
use Rattle.flat_model.specs.declared.events.What.{What}
use Rattle.flat_model.specs.declared.events.What.TheVariants as what
use Rattle.flat_model.specs.declared.plugins.Act.{Act}
use Rattle.flat_model.specs.declared.plugins.Ask.{Ask}
use Rattle.flat_model.specs.declared.plugins.Ask.TheVariants.{Stay}
use Rattle.flat_model.specs.declared.plugins.Filter.{Filter}
use Rattle.flat_model.specs.declared.plugins.SetSpec.{SetSpec}
use Rattle.flat_model.specs.Step.{as_events}
use Rattle.block_finder.specs.declared.blocks.Site.{Site}
use Rattle.block_finder.specs.Block.{Stretch}
use Rattle.event_walk.specs.Matches.{Classes, lets_through}
use Rattle.event_walk.specs.Walk.{Walk}
use Rattle.watcher_api.specs.Attachment.{Attachment}
use Rattle.watcher_api.specs.Acting.{acts_of, ask_of, walk_of, walks_of}
use Rattle.instr_lists.specs.declared.sorts.Sort.{Sort}
use Rattle.instr_lists.specs.declared.sorts.Sort.TheVariants.{Block, Insn}
use Rattle.instr_lists.specs.declared.slots.Slot.{Slot}
use Rattle.instr_lists.specs.Sorts.{passes, LiesIn}
use Rattle.instr_lists.specs.Slots.{slots_of}
use Rattle.instr_lists.specs.Lists.{Listed, HasClasses}
use Rattle.instr_lists.specs.Delivery.{acts_with, no_asks, each_hears, each_walks, all_act, IsThere}
use Rattle.instr_lists.specs.Silence.{adds_alone, acts_each, AllAdd, word_slots, code_slots, word_told, words_of, code_of, code_in}
use Rattle.instr_lists.proofs.Placing.{no_site, block_same, insn_same}
use Rattle.instr_lists.proofs.Hearing.{act_on, none_act}
use Rattle.instr_lists.proofs.OneEvent.{all_sets}
use Rattle.instr_lists.proofs.Events.{none_walk, table_is, as_many, of_sets}
use Rattle.instr_lists.proofs.Unstored.{asks_in, code_event, no_asks_then, of_code}
use Rattle.instr_lists.proofs.Adding.{same_adds, all_flat, sort_adds, word_adds}

-- what was asked for, by the numbers of the sets

by_number : (asks : List Ask) (sets : List Attachment)
    → asks_in (walks_of asks sets) ≡ map (λ (p : ℕ × List Act). ask_of p.0 asks) (acts_of sets)
by_number asks [] = refl
by_number asks (a ∷ sets) = ap (λ l. ask_of a.plugin asks ∷ l) (by_number asks sets)

head_or : List Ask → Ask
head_or [] = Stay
head_or (a ∷ asks) = a

tail_of : List Ask → List Ask
tail_of [] = []
tail_of (a ∷ asks) = asks

with_asks : (asks later : List Ask) (sets : List Attachment) → asks_in (walks_of asks sets) ≡ asks_in (walks_of later sets)
    → walks_of asks sets ≡ walks_of later sets
unfolding head_or tail_of
with_asks asks later [] same = refl
with_asks asks later (a ∷ sets) same =
    ap (λ x. walk_of a x ∷ walks_of asks sets) (ap head_or same)
    ∙ ap (λ l. walk_of a (ask_of a.plugin later) ∷ l) (with_asks asks later sets (ap tail_of same))

code_some : (block : Stretch) (words : ℕ) → 0 < words → code_of block words ≡ what.Block block.pc block.n ∷ words_of block words
code_some block zero some = absurd (omega (arith, some))
code_some block (suc k) some = refl

-- where no word was gone through
pub none_heard : (classes : Classes) (listed : Listed) (words : ℕ) (ws : List Walk) → words ≡ 0
    → ws ≡ each_walks classes listed.sets (as_events 0 0 (code_of listed.block words)) ws
none_heard classes listed words ws none =
    sym (ap (λ n. each_walks classes listed.sets (as_events 0 0 (code_of listed.block n)) ws) none ∙ none_walk classes listed.sets ws)

-- where some were
pub first_heard : (classes : Classes) (listed : Listed) (words : ℕ) (from between now : List Walk) → 0 < words
    → between ≡ each_hears classes listed.sets (code_event (what.Block listed.block.pc listed.block.n)) from
    → now ≡ each_walks classes listed.sets (as_events 0 0 (words_of listed.block words)) between
    → now ≡ each_walks classes listed.sets (as_events 0 0 (code_of listed.block words)) from
unfolding each_walks
first_heard classes listed words from between now some started went =
    went
    ∙ (ap (each_walks classes listed.sets (as_events 0 0 (words_of listed.block words))) started
    ∙ ap (λ l. each_walks classes listed.sets (as_events 0 0 l) from) (sym (code_some listed.block words some)))

-- all events of which these are what is told of the code
pub all_told : (listed : Listed) → adds_alone listed.block listed.sets ≡ true → (classes : Classes) → HasClasses classes listed.block
    → (raw : List Event) → All (λ (e : Event). LiesIn listed.block e.what) raw → (words : ℕ) → code_in raw ≡ code_of listed.block words
    → (old new : List Attachment) (asks : List Ask) → acts_of new ≡ acts_of old
    → walks_of asks new ≡ each_walks classes listed.sets (as_events 0 0 (code_of listed.block words)) (walks_of no_asks old)
    → walks_of no_asks new ≡ each_walks classes listed.sets raw (walks_of no_asks old)
all_told listed adds classes has raw lie words told old new asks same heard =
    let from = walks_of no_asks old in
    let there : walks_of asks new ≡ each_walks classes listed.sets raw from =
    heard
    ∙ (ap (λ l. each_walks classes listed.sets (as_events 0 0 l) from) (sym told)
    ∙ sym (of_code classes listed.block listed.sets has adds raw lie from)) in
    let asked : asks_in (walks_of no_asks new) ≡ asks_in (walks_of asks new) =
    by_number no_asks new
    ∙ (ap (map (λ (p : ℕ × List Act). ask_of p.0 no_asks)) same
    ∙ (sym (by_number no_asks old)
    ∙ (sym (no_asks_then classes listed.block listed.sets has adds raw lie from) ∙ ap asks_in (sym there)))) in
    with_asks no_asks asks new asked ∙ there

-- a block that is gone through, by the slots of its words

each_long : (classes : Classes) (e : Event) (sets : List (ℕ × SetSpec)) (ws : List Walk) → length (each_hears classes sets e ws) ≡ length ws
unfolding each_hears
each_long classes e [] ws = refl
each_long classes e (s ∷ sets) [] = refl
each_long classes e (s ∷ sets) (w ∷ ws) = ap suc (each_long classes e sets ws)

module _ (table : List (List Act)) (classes : Classes) (sets : List (ℕ × SetSpec)) (is : table ≡ acts_each sets) where
  by_slots : (e : Event) (w : What) (sort : Sort) (ws : List Walk) → AllAdd table (slots_of sets sort)
      → ((f : Filter) → passes f sort ≡ lets_through classes f w) → length ws ≡ length sets
      → all_act table e (slots_of sets sort) ws ≡ each_hears classes sets (code_event w) ws
  by_slots e w sort ws add same long =
      same_adds table e (code_event w) (slots_of sets sort) ws add
      ∙ all_sets table classes (code_event w) sort same 0 sets [] [] ws is refl refl long

  by_words : (e : Event) (sites : List Site) (ws : List Walk)
      → ((k : ℕ) → k < length sites → AllAdd table (word_slots sets (slice_index_or sites k no_site)))
      → ((k : ℕ) → k < length sites → classes (slice_index_or sites k no_site).pc ≡ Some (slice_index_or sites k no_site).class)
      → length ws ≡ length sets
      → all_act table e (flat_map (word_slots sets) sites) ws ≡ each_walks classes sets (as_events 0 0 (map word_told sites)) ws
  unfolding each_walks
  by_words e [] ws add those long = none_act table e ws
  by_words e (s ∷ sites) ws add those long =
      let next = each_hears classes sets (code_event (word_told s)) ws in
      act_on table e (word_slots sets s) (flat_map (word_slots sets) sites) ws
      ∙ (ap (all_act table e (flat_map (word_slots sets) sites))
      (by_slots e (word_told s) (Insn s.pc s.class) ws (add 0 (omega arith))
      (λ f. insn_same classes f s.pc s.pc s.word s.class refl (those 0 (omega arith))) long)
      ∙ by_words e sites next (λ k below. add (suc k) (omega (arith, below))) (λ k below. those (suc k) (omega (arith, below)))
      (each_long classes (code_event (word_told s)) sets ws ∙ long))

whole_walk : (table : List (List Act)) (classes : Classes) (listed : Listed) (e : Event) (ws : List Walk) → table ≡ acts_each listed.sets
    → adds_alone listed.block listed.sets ≡ true → HasClasses classes listed.block → length ws ≡ length listed.sets
    → (sites : List Site) → listed.block.sites ≡ sites
    → all_act table e (code_slots listed.sets sites) ws
    ≡ each_walks classes listed.sets (as_events 0 0 (code_of listed.block (length sites))) ws
unfolding each_walks
whole_walk table classes listed e ws is adds has long [] these = none_act table e ws
whole_walk table classes listed e ws is adds has long (s ∷ sites) these =
    let block = listed.block in
    let sets = listed.sets in
    let start = what.Block block.pc block.n in
    let below : 0 < length block.sites = omega (arith, ap length these) in
    let first : slice_index_or block.sites 0 no_site ≡ s = ap (λ (l : List Site). slice_index_or l 0 no_site) these in
    let place : s.pc ≡ block.pc =
    sym (ap (λ (x : Site). x.pc) first) ∙ (has.places 0 no_site below ∙ (let z : block.pc + 4 * 0 ≡ block.pc = omega arith in z)) in
    let all : words_of block (length (s ∷ sites)) ≡ map word_told (s ∷ sites) =
    ap (λ (l : List Site). map word_told (take (length (s ∷ sites)) l)) these
    ∙ ap (map word_told) (take_all (length (s ∷ sites)) (s ∷ sites) (omega arith)) in
    let next = each_hears classes sets (code_event start) ws in
    act_on table e (slots_of sets (Block s.pc)) (flat_map (word_slots sets) (s ∷ sites)) ws
    ∙ (ap (all_act table e (flat_map (word_slots sets) (s ∷ sites)))
    (by_slots table classes sets is e start (Block s.pc) ws
    (subst (λ (l : List (List Act)). AllAdd l (slots_of sets (Block s.pc))) (sym is)
    (sort_adds block sets 0 0 (Block s.pc) below (omega arith) (ap (λ (x : Site). Block x.pc) first) adds))
    (λ f. block_same classes f block.pc s.pc block.n place) long)
    ∙ (by_words table classes sets is e (s ∷ sites) next
    (subst (λ (l : List Site). (k : ℕ) → k < length l → AllAdd table (word_slots sets (slice_index_or l k no_site))) these
    (λ k here. subst (λ (l : List (List Act)). AllAdd l (word_slots sets (slice_index_or block.sites k no_site))) (sym is)
    (word_adds block sets k here adds)))
    (subst (λ (l : List Site). (k : ℕ) → k < length l
    → classes (slice_index_or l k no_site).pc ≡ Some (slice_index_or l k no_site).class) these
    (λ k here. ap classes (has.places k no_site here) ∙ has.those k no_site here))
    (each_long classes (code_event start) sets ws ∙ long)
    ∙ ap (λ l. each_walks classes sets (as_events 0 0 l) next) (sym all)))

pub whole_heard : (attached : List Attachment) (listed : Listed) (slots : List Slot) (asks : List Ask) (now : List Walk)
    → acts_of attached ≡ acts_with listed.sets → adds_alone listed.block listed.sets ≡ true
    → slots ≡ code_slots listed.sets listed.block.sites
    → ((e : Event) → now ≡ all_act (map (λ (a : Attachment). a.acts) attached) e slots (walks_of asks attached))
    → (classes : Classes) → HasClasses classes listed.block
    → now ≡ each_walks classes listed.sets (as_events 0 0 (code_of listed.block (length listed.block.sites))) (walks_of asks attached)
whole_heard attached listed slots asks now these adds is acted classes has =
    let e = code_event what.Init in
    let table = map (λ (a : Attachment). a.acts) attached in
    acted e
    ∙ (ap (λ l. all_act table e l (walks_of asks attached)) is
    ∙ whole_walk table classes listed e (walks_of asks attached) (table_is attached listed.sets these) adds has
    (as_many asks attached listed.sets these) listed.block.sites refl)

code_there : (sets : List (ℕ × SetSpec)) (sites : List Site) → All (IsThere (acts_each sets)) (code_slots sets sites)
code_there sets [] = λ n d below. absurd (omega (arith, below))
code_there sets (s ∷ sites) =
    All-append (IsThere (acts_each sets)) (slots_of sets (Block s.pc)) (flat_map (word_slots sets) (s ∷ sites))
    (of_sets (Block s.pc) sets [] 0 refl)
    (all_flat (IsThere (acts_each sets)) (word_slots sets) (s ∷ sites) no_site
    (λ k below. of_sets (Insn (slice_index_or (s ∷ sites) k no_site).pc (slice_index_or (s ∷ sites) k no_site).class) sets [] 0 refl))

pub whole_there : (attached : List Attachment) (listed : Listed) (slots : List Slot) → acts_of attached ≡ acts_with listed.sets
    → slots ≡ code_slots listed.sets listed.block.sites → All (IsThere (map (λ (a : Attachment). a.acts) attached)) slots
whole_there attached listed slots these is =
    subst (λ (l : List (List Act)). All (IsThere l) slots) (sym (table_is attached listed.sets these))
    (subst (λ (l : List Slot). All (IsThere (acts_each listed.sets)) l) (sym is) (code_there listed.sets listed.block.sites))
