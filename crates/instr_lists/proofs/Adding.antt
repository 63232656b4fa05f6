-- Slots whose acts all add.
use Rattle.std.proofs.Common.{◌≡◌, ◌<◌, ◌+◌, ◌*◌, ◌∙◌, ◌++◌, ◌∷◌, ◌&&◌, ◌||◌, [], ℕ, zero, suc, true, false, List, length, map, take}
use Rattle.std.proofs.Common.{refl, sym, ap, subst, arith, All, append_assoc}
use Rattle.std.specs.Prelude.{slice_index_or, slice_set, flat_map, if◌then◌else◌, not, Result, Ok, Err, IsOk, MatchResult}
use Rattle.std.specs.List.{list_all}
use Rattle.std.proofs.lemmas.List.{map-append, get_or_default}
use Rattle.std.proofs.lemmas.List.Elements.{All-append}
use Rattle.flat_model.specs.declared.events.Event.{Event}
use Rattle.flat_model.specs.declared.events.What.{What}
use Rattle.flat_model.specs.declared.events.What.TheVariants as what
use Rattle.flat_model.specs.declared.plugins.Act.{Act}
use Rattle.flat_model.specs.declared.plugins.Act.TheVariants.{Call, Inline, Cond}
use Rattle.flat_model.specs.declared.plugins.Ask.{Ask}
use Rattle.flat_model.specs.declared.plugins.SetSpec.{SetSpec}
use Rattle.flat_model.specs.declared.plugins.Sub.{Sub}
use Rattle.flat_model.specs.declared.refusals.NoMemory.{NoMemory}
use Rattle.flat_model.specs.Step.{as_events}
use Rattle.block_finder.specs.declared.blocks.Site.{Site}
use Rattle.block_finder.specs.Block.{Stretch}
use Rattle.event_walk.specs.Matches.{Classes}
use Rattle.event_walk.specs.Walk.{Walk}
use Rattle.watcher_api.specs.Attachment.{Attachment, calls_at}
use Rattle.watcher_api.specs.Acting.{acts_of, walks_of, act_in, with_act, no_walk}
use Rattle.instr_lists.specs.declared.sorts.Sort.{Sort}
use Rattle.instr_lists.specs.declared.sorts.Sort.TheVariants.{Init, Block, Insn}
use Rattle.instr_lists.specs.declared.slots.Slot.{Slot}
use Rattle.instr_lists.specs.Sorts.{passes, site_sorts, sorts_of, IsInside}
use Rattle.instr_lists.specs.Lists.{Listed, HasClasses, IsPlaceOf, AreHeard}
use Rattle.instr_lists.specs.Slots.{slots_in, slots_from, slots_of}
use Rattle.instr_lists.specs.Delivery.{acts_with, act_at, all_act, each_hears, each_walks, StopsAtSlot}
use Rattle.instr_lists.specs.Silence.{is_add, is_code_sort, only_adds, adds_alone, acts_each, AllAdd}
use Rattle.instr_lists.specs.Silence.{word_slots, code_slots, word_told, words_of}
use Rattle.instr_lists.proofs.OneEvent.{acts_in, act_here, one_longer, looked_in}
use Rattle.instr_lists.proofs.InARow.{take_here}
use Rattle.instr_lists.proofs.Events.{table_is, hears, walk_on}
use Rattle.instr_lists.proofs.Placing.{block_place, insn_place, no_site, at_word, inside_place}
use Rattle.instr_lists.proofs.Unstored.{wrong, left, right, all_at, of_each, code_event, moved_by}

-- what an add does is the same at each event, and it calls no box

no_call : (act : Act) (column : List ℕ) → is_add act ≡ true → calls_at act column ≡ true → ⊥
no_call (Call kind) column is calls = wrong is
no_call (Inline op entry imm) column is calls = wrong calls
no_call (Cond cond entry imm then_store kind) column is calls = wrong is

after : {X : Type 0} (P : X → Type 0) (x : X) (xs : List X) → All P (x ∷ xs) → All P xs
after P x xs all n d below = all (suc n) d (omega (arith, below))

before : {X : Type 0} (P : X → Type 0) (x : X) (xs : List X) → P x → All P xs → All P (x ∷ xs)
before P x xs here all zero d below = here
before P x xs here all (suc n) d below = all n d (omega (arith, below))

pub same_adds : (table : List (List Act)) (e f : Event) (slots : List Slot) (ws : List Walk) → AllAdd table slots
    → all_act table e slots ws ≡ all_act table f slots ws
unfolding all_act
same_adds table e f [] ws add = refl
same_adds table e f (slot ∷ slots) ws add =
    let act = act_at table slot in
    let first : is_add act ≡ true = add 0 slot (omega arith) in
    ap (λ w. all_act table e slots (slice_set ws slot.set w)) (moved_by act slot.sub e f (slice_index_or ws slot.set no_walk) first)
    ∙ same_adds table e f slots (with_act slot.set slot.sub act f ws) (after (λ (s : Slot). is_add (act_at table s) ≡ true) slot slots add)

pub never_stops : (table : List (List Act)) (e : Event) (slots : List Slot) (from now : List Walk) → AllAdd table slots
    → StopsAtSlot table e slots from now → ⊥
never_stops table e slots from now add stop =
    let zero' : Slot = record { set = 0; sub = 0 } in
    let slot = slice_index_or slots stop.place zero' in
    no_call (act_at table slot) (slice_index_or now slot.set no_walk).column (add stop.place zero' stop.within) (stop.calls zero')

pub is_done : (table : List (List Act)) (e : Event) (slots : List Slot) (from now : List Walk) → AllAdd table slots
    → (r : Result (Unit {0}) NoMemory) → MatchResult r (λ _. now ≡ all_act table e slots from) (λ _. StopsAtSlot table e slots from now)
    → IsOk r × (now ≡ all_act table e slots from)
is_done table e slots from now add (Ok u) done = (refl, done)
is_done table e slots from now add (Err why) stop = absurd (never_stops table e slots from now add stop)

-- the slots of a sort at which subscriptions only add

in_one : (table : List (List Act)) (sort : Sort) (k : ℕ) (subs front : List Sub) (i : ℕ) → length front ≡ i
    → slice_index_or table k [] ≡ acts_in (front ++ subs) → list_all (only_adds sort) subs ≡ true
    → AllAdd table (slots_in k i sort subs)
unfolding slots_in
in_one table sort k [] front i long there adds = λ n d below. absurd (omega (arith, below))
in_one table sort k (s ∷ subs) front i long there adds =
    let slot : Slot = record { set = k; sub = i } in
    let rest = slots_in k (i + 1) sort subs in
    let P = λ (x : Slot). is_add (act_at table x) ≡ true in
    let act : act_at table slot ≡ s.act = ap (λ l. act_in l i) there ∙ act_here front s subs i long in
    let next = in_one table sort k subs (front ++ s ∷ []) (i + 1) (one_longer front s i long)
    (there ∙ ap acts_in (sym (append_assoc front (s ∷ []) subs)))
    (right (only_adds sort s) (list_all (only_adds sort) subs) adds) in
    elim (passes s.filter sort) as (λ b. (not b || (is_code_sort sort && is_add s.act)) ≡ true
    → AllAdd table (if b then slot ∷ rest else rest)) [
      | true ↦ λ is. before P slot rest (ap is_add act ∙ right (is_code_sort sort) (is_add s.act) is) next
      | false ↦ λ is. next
    ] (left (only_adds sort s) (list_all (only_adds sort) subs) adds)

in_sets : (sort : Sort) (table : List (List Act)) (k : ℕ) (sets : List (ℕ × SetSpec)) (ahead : List (List Act))
    → table ≡ ahead ++ acts_each sets → length ahead ≡ k → of_each (only_adds sort) sets ≡ true → AllAdd table (slots_from k sort sets)
unfolding slots_from
in_sets sort table k [] ahead is long adds = λ n d below. absurd (omega (arith, below))
in_sets sort table k (s ∷ sets) ahead is long adds =
    let mine = list_all (only_adds sort) s.1.subs in
    let others = of_each (only_adds sort) sets in
    All-append (λ (x : Slot). is_add (act_at table x) ≡ true) (slots_in k 0 sort s.1.subs) (slots_from (k + 1) sort sets)
    (in_one table sort k s.1.subs [] 0 refl (looked_in table k ahead s sets is long) (left mine others adds))
    (in_sets sort table (k + 1) sets (ahead ++ acts_in s.1.subs ∷ [])
    (is ∙ sym (append_assoc ahead (acts_in s.1.subs ∷ []) (acts_each sets)))
    (one_longer ahead (acts_in s.1.subs) k long) (right mine others adds))

pub slots_add : (block : Stretch) (sets : List (ℕ × SetSpec)) (place : ℕ) → place < length (sorts_of block.sites)
    → adds_alone block sets ≡ true → AllAdd (acts_each sets) (slots_of sets (slice_index_or (sorts_of block.sites) place Init))
slots_add block sets place within adds =
    let sort = slice_index_or (sorts_of block.sites) place Init in
    in_sets sort (acts_each sets) 0 sets [] refl refl
    (all_at (λ (x : Sort). of_each (only_adds x) sets) (sorts_of block.sites) place Init within adds)

-- where the slots of the code stand

pub record StandsAt (listed : Listed) (place : ℕ) (slots : List Slot) : Type 0 where
  pub within : place < length (sorts_of listed.block.sites)
  pub list : slots ≡ slots_of listed.sets (slice_index_or (sorts_of listed.block.sites) place Init)

pub standing : (block : Stretch) (sets : List (ℕ × SetSpec)) (sorts : List Sort) (place : ℕ) (slots : List Slot)
    → sorts ≡ sorts_of block.sites → place < length sorts → slots ≡ slots_of sets (slice_index_or sorts place Init)
    → StandsAt (record { block = block; sets = sets }) place slots
standing block sets sorts place slots these within list = record {
  within = subst (λ (l : List Sort). place < length l) these within;
  list = list ∙ ap (λ (l : List Sort). slots_of sets (slice_index_or l place Init)) these;
}

heard_at : (listed : Listed) (w : What) (place : ℕ) (slots : List Slot) → StandsAt listed place slots → IsPlaceOf listed.block w place
    → AreHeard listed w slots
heard_at listed w place slots stands is = record {
  sort = slice_index_or (sorts_of listed.block.sites) place Init;
  list = stands.list;
  same = is.same;
}

pub stand_add : (listed : Listed) (place : ℕ) (slots : List Slot) → StandsAt listed place slots
    → adds_alone listed.block listed.sets ≡ true → AllAdd (acts_each listed.sets) slots
stand_add listed place slots stands adds =
    subst (λ (l : List Slot). AllAdd (acts_each listed.sets) l) (sym stands.list)
    (slots_add listed.block listed.sets place stands.within adds)

pub start_heard : (listed : Listed) (slots : List Slot) → 0 < length listed.block.sites → StandsAt listed 0 slots
    → (n : ℕ) → AreHeard listed (what.Block listed.block.pc n) slots
start_heard listed slots some stands n =
    let in' : IsInside listed.block listed.block.pc = record { word = 0; within = some; place = omega arith } in
    heard_at listed (what.Block listed.block.pc n) 0 slots stands (block_place listed.block listed.block.pc 0 in' n (omega arith))

pub word_heard : (listed : Listed) (k : ℕ) (slots : List Slot) → k < length listed.block.sites → StandsAt listed (5 * k + 1) slots
    → (word : ℕ) → AreHeard listed (what.Insn (listed.block.pc + 4 * k) word) slots
word_heard listed k slots within stands word =
    let in' : IsInside listed.block (listed.block.pc + 4 * k) = record { word = k; within = within; place = refl } in
    heard_at listed (what.Insn (listed.block.pc + 4 * k) word) (5 * k + 1) slots stands
    (insn_place listed.block (listed.block.pc + 4 * k) (5 * k + 1) in' word refl)

-- sets that are attached, whose acts at these slots add

pub attached_add : (attached : List Attachment) (sets : List (ℕ × SetSpec)) (slots : List Slot) → acts_of attached ≡ acts_with sets
    → AllAdd (acts_each sets) slots → AllAdd (map (λ (a : Attachment). a.acts) attached) slots
attached_add attached sets slots these add = subst (λ (l : List (List Act)). AllAdd l slots) (sym (table_is attached sets these)) add

pub added : (attached : List Attachment) (listed : Listed) (slots : List Slot) (asks : List Ask) (now : List Walk) (w : What)
    → acts_of attached ≡ acts_with listed.sets → AreHeard listed w slots
    → ((e : Event) → now ≡ all_act (map (λ (a : Attachment). a.acts) attached) e slots (walks_of asks attached))
    → (classes : Classes) → HasClasses classes listed.block → (e : Event) → e.what ≡ w
    → now ≡ each_hears classes listed.sets e (walks_of asks attached)
added attached listed slots asks now w these heard acted classes has e is =
    hears attached listed e slots asks now these (subst (λ (x : What). AreHeard listed x slots) (sym is) heard) (Ok tt)
    (acted e) classes has

-- the events of words, one word after the other

pub word_more : (classes : Classes) (sets : List (ℕ × SetSpec)) (block : Stretch) (k : ℕ) (d : Site) (ws : List Walk)
    → k < length block.sites
    → each_walks classes sets (as_events 0 0 (words_of block (k + 1))) ws
    ≡ each_hears classes sets (code_event (word_told (slice_index_or block.sites k d)))
    (each_walks classes sets (as_events 0 0 (words_of block k)) ws)
unfolding each_walks
word_more classes sets block k d ws below =
    let s = slice_index_or block.sites k d in
    let step : words_of block (k + 1) ≡ words_of block k ++ word_told s ∷ [] =
    ap (map word_told) (take_here block.sites k s below (get_or_default block.sites k d s below))
    ∙ map-append word_told (take k block.sites) (s ∷ []) in
    ap (λ l. each_walks classes sets (as_events 0 0 l) ws) step
    ∙ (ap (λ l. each_walks classes sets l ws) (map-append code_event (words_of block k) (word_told s ∷ []))
    ∙ walk_on classes sets (as_events 0 0 (words_of block k)) (code_event (word_told s) ∷ []) ws)

-- the slots of a whole block

pub all_flat : {X Y : Type 0} (P : Y → Type 0) (f : X → List Y) (xs : List X) (d : X)
    → ((k : ℕ) → k < length xs → All P (f (slice_index_or xs k d))) → All P (flat_map f xs)
all_flat P f [] d each = λ n e below. absurd (omega (arith, below))
all_flat P f (x ∷ xs) d each =
    All-append P (f x) (flat_map f xs) (each 0 (omega arith)) (all_flat P f xs d (λ k below. each (suc k) (omega (arith, below))))

pub sort_adds : (block : Stretch) (sets : List (ℕ × SetSpec)) (k j : ℕ) (sort : Sort) → k < length block.sites → j < 5
    → slice_index_or (site_sorts (slice_index_or block.sites k no_site)) j Init ≡ sort
    → adds_alone block sets ≡ true → AllAdd (acts_each sets) (slots_of sets sort)
sort_adds block sets k j sort below small is adds =
    subst (λ (x : Sort). AllAdd (acts_each sets) (slots_of sets x)) (at_word block.sites k j (5 * k + j) below small refl ∙ is)
    (slots_add block sets (5 * k + j) (inside_place block.sites k j (5 * k + j) below small refl) adds)

pub word_adds : (block : Stretch) (sets : List (ℕ × SetSpec)) (k : ℕ) → k < length block.sites → adds_alone block sets ≡ true
    → AllAdd (acts_each sets) (word_slots sets (slice_index_or block.sites k no_site))
word_adds block sets k below adds =
    let s = slice_index_or block.sites k no_site in
    sort_adds block sets k 1 (Insn s.pc s.class) below (omega arith) refl adds

words_add : (block : Stretch) (sets : List (ℕ × SetSpec)) → adds_alone block sets ≡ true
    → AllAdd (acts_each sets) (flat_map (word_slots sets) block.sites)
words_add block sets adds =
    all_flat (λ (x : Slot). is_add (act_at (acts_each sets) x) ≡ true) (word_slots sets) block.sites no_site
    (λ k below. word_adds block sets k below adds)

whole_adds : (block : Stretch) (sets : List (ℕ × SetSpec)) (sites : List Site) → block.sites ≡ sites → adds_alone block sets ≡ true
    → AllAdd (acts_each sets) (code_slots sets sites)
whole_adds block sets [] is adds = λ n d below. absurd (omega (arith, below))
whole_adds block sets (s ∷ sites) is adds =
    All-append (λ (x : Slot). is_add (act_at (acts_each sets) x) ≡ true) (slots_of sets (Block s.pc))
    (flat_map (word_slots sets) (s ∷ sites))
    (sort_adds block sets 0 0 (Block s.pc) (omega (arith, ap length is)) (omega arith)
    (ap (λ (l : List Site). Block (slice_index_or l 0 no_site).pc) is) adds)
    (subst (λ (l : List Site). AllAdd (acts_each sets) (flat_map (word_slots sets) l)) is (words_add block sets adds))

pub whole_add : (block : Stretch) (sets : List (ℕ × SetSpec)) (slots : List Slot) → slots ≡ code_slots sets block.sites
    → adds_alone block sets ≡ true → AllAdd (acts_each sets) slots
whole_add block sets slots is adds =
    subst (λ (l : List Slot). AllAdd (acts_each sets) l) (sym is) (whole_adds block sets block.sites refl adds)
