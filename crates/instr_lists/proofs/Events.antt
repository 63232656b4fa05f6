-- Events one after the other, for attached sets.
use Rattle.std.proofs.Common.{◌≡◌, ◌<◌, ◌+◌, ◌-◌, ◌∙◌, ◌++◌, ◌∷◌, [], ℕ, zero, suc, true, false, List, length, map, take, drop}
use Rattle.std.proofs.Common.{refl, sym, ap, subst, arith, append_assoc, All, Some, MatchResult, length-append}
use Rattle.std.specs.Prelude.{slice_index_or, if◌then◌else◌, replicate, option_map, Result, Ok, Err}
use Rattle.std.proofs.lemmas.List.{length-map, take-append-drop, get_or_default}
use Rattle.std.proofs.lemmas.List.Elements.{All-append}
use Rattle.std.proofs.Math.Seq.{get_or-append_seam}
use Rattle.flat_model.specs.declared.events.Event.{Event}
use Rattle.flat_model.specs.declared.events.What.{What}
use Rattle.flat_model.specs.declared.plugins.Act.{Act}
use Rattle.flat_model.specs.declared.plugins.Ask.{Ask}
use Rattle.flat_model.specs.declared.plugins.Ask.TheVariants.{Stay}
use Rattle.flat_model.specs.declared.plugins.SetSpec.{SetSpec}
use Rattle.flat_model.specs.declared.plugins.Sub.{Sub}
use Rattle.flat_model.specs.declared.refusals.NoMemory.{NoMemory}
use Rattle.flat_model.specs.Image.{Program}
use Rattle.flat_model.specs.Instruction.{word_class}
use Rattle.block_finder.specs.Block.{Stretch, IsBlock}
use Rattle.event_walk.specs.Matches.{Classes, classes_of}
use Rattle.event_walk.specs.Walk.{Walk}
use Rattle.watcher_api.specs.Attachment.{Attachment, calls_at}
use Rattle.watcher_api.specs.Acting.{acts_of, act_in, walks_of, no_walk}
use Rattle.instr_lists.specs.declared.slots.Slot.{Slot}
use Rattle.instr_lists.specs.declared.sorts.Sort.{Sort}
use Rattle.instr_lists.specs.Sorts.{passes}
use Rattle.instr_lists.specs.Slots.{slots_in, slots_from}
use Rattle.instr_lists.specs.Lists.{Listed, HasClasses, AreHeard}
use Rattle.instr_lists.specs.Delivery.{acts_with, no_asks, act_at, IsThere, all_act, each_hears, each_walks}
use Rattle.instr_lists.specs.Delivery.{StopsAmong, StopsAtCall, StopsAtSlot, StopsIn}
use Rattle.instr_lists.proofs.InARow.{take_here}
use Rattle.instr_lists.proofs.Resolving.{drop_here}
use Rattle.instr_lists.proofs.Hearing.{acts_alone}
use Rattle.instr_lists.specs.Silence.{acts_each}
use Rattle.instr_lists.proofs.OneEvent.{acts_in, act_front, one_longer, all_sets, in_sets}

-- the acts of sets that are attached are those of the sets

with_alone : (sets : List (ℕ × SetSpec)) → map (λ (p : ℕ × List Act). p.1) (acts_with sets) ≡ acts_each sets
with_alone [] = refl
with_alone (s ∷ sets) = ap (λ l. acts_in s.1.subs ∷ l) (with_alone sets)

pub table_is : (attached : List Attachment) (sets : List (ℕ × SetSpec)) → acts_of attached ≡ acts_with sets
    → map (λ (a : Attachment). a.acts) attached ≡ acts_each sets
table_is attached sets these = sym (acts_alone attached) ∙ (ap (map (λ (p : ℕ × List Act). p.1)) these ∙ with_alone sets)

pub as_many : (asks : List Ask) (attached : List Attachment) (sets : List (ℕ × SetSpec)) → acts_of attached ≡ acts_with sets
    → length (walks_of asks attached) ≡ length sets
as_many asks attached sets these =
    let table = table_is attached sets these in
    omega (
      arith,
      ap length table,
      length-map attached (λ (a : Attachment). a.acts),
      length-map sets (λ (s : ℕ × SetSpec). acts_in s.1.subs),
      length-map attached (λ (a : Attachment). (let w : Walk = record { heard = a.heard; column = a.column; asked = slice_index_or asks (a.plugin - 1) Stay } in w)),
    )

-- the slots name subscriptions of the sets

record IsOf (k i m : ℕ) (slot : Slot) : Type 0 where
  set : slot.set ≡ k
  sub : slot.sub < i + m

front : (k i m : ℕ) (slot : Slot) (rest : List Slot) → IsOf k i m slot → All (IsOf k i m) rest → All (IsOf k i m) (slot ∷ rest)
front k i m slot rest first others zero d below = first
front k i m slot rest first others (suc n) d below = others n d (omega (arith, below))

of_one : (k i : ℕ) (sort : Sort) (subs : List Sub) → All (IsOf k i (length subs)) (slots_in k i sort subs)
unfolding slots_in
of_one k i sort [] = λ n d below. absurd (omega (arith, below))
of_one k i sort (s ∷ subs) =
    let slot : Slot = record { set = k; sub = i } in
    let rest = slots_in k (i + 1) sort subs in
    let next = of_one k (i + 1) sort subs in
    let wider : All (IsOf k i (length (s ∷ subs))) rest =
    λ n d below. record { set = (next n d below).set; sub = omega (arith, (next n d below).sub) } in
    elim (passes s.filter sort) as (λ b. All (IsOf k i (length (s ∷ subs))) (if b then slot ∷ rest else rest)) [
      | true ↦ front k i (length (s ∷ subs)) slot rest (record { set = refl; sub = omega arith }) wider
      | false ↦ wider
    ]

pub of_sets : (sort : Sort) (sets : List (ℕ × SetSpec)) (before : List (List Act)) (k : ℕ) → length before ≡ k
    → All (IsThere (before ++ acts_each sets)) (slots_from k sort sets)
unfolding slots_from
of_sets sort [] before k long = λ n d below. absurd (omega (arith, below))
of_sets sort (s ∷ sets) before k long =
    let table = before ++ acts_each (s ∷ sets) in
    let mine = slots_in k 0 sort s.1.subs in
    let one = of_one k 0 sort s.1.subs in
    let there : slice_index_or table k [] ≡ acts_in s.1.subs =
    subst (λ n. slice_index_or table n [] ≡ acts_in s.1.subs) long (get_or-append_seam before (acts_in s.1.subs) (acts_each sets) []) in
    let first : All (IsThere table) mine = λ n d below.
    (let r = one n d below in
    record {
      set = omega (arith, r.set, long, length-append before (acts_each (s ∷ sets)));
      sub = omega (
        arith,
        r.sub,
        ap (λ j. length (slice_index_or table j [])) r.set,
        ap length there,
        length-map s.1.subs (λ (x : Sub). x.act),
      );
    }) in
    let others : All (IsThere table) (slots_from (k + 1) sort sets) =
    subst (λ l. All (IsThere l) (slots_from (k + 1) sort sets)) (append_assoc before (acts_in s.1.subs ∷ []) (acts_each sets))
    (of_sets sort sets (before ++ acts_in s.1.subs ∷ []) (k + 1) (one_longer before (acts_in s.1.subs) k long)) in
    All-append (IsThere table) mine (slots_from (k + 1) sort sets) first others

pub slots_there : (attached : List Attachment) (listed : Listed) (what : What) (slots : List Slot) → acts_of attached ≡ acts_with listed.sets
    → AreHeard listed what slots → All (IsThere (map (λ (a : Attachment). a.acts) attached)) slots
slots_there attached listed what slots these heard =
    subst (λ l. All (IsThere l) slots) (sym (table_is attached listed.sets these))
    (subst (λ l. All (IsThere (acts_each listed.sets)) l) (sym heard.list) (of_sets heard.sort listed.sets [] 0 refl))

-- one event

look_up : (ahead : List (ℕ × SetSpec)) (set : ℕ × SetSpec) (behind : List (ℕ × SetSpec))
    → slice_index_or (acts_each (ahead ++ set ∷ behind)) (length ahead) [] ≡ acts_in set.1.subs
look_up [] set behind = refl
look_up (s ∷ ahead) set behind = look_up ahead set behind

module _ (attached : List Attachment) (listed : Listed) (e : Event) (slots : List Slot) (asks : List Ask) (now : List Walk)
    (these : acts_of attached ≡ acts_with listed.sets) (heard : AreHeard listed e.what slots) where
  pub hears : (r : Result (Unit {0}) NoMemory)
      → MatchResult r (λ _. now ≡ all_act (map (λ (a : Attachment). a.acts) attached) e slots (walks_of asks attached))
      (λ _. StopsAtSlot (map (λ (a : Attachment). a.acts) attached) e slots (walks_of asks attached) now)
      → MatchResult r (λ _. (classes : Classes) → HasClasses classes listed.block → now ≡ each_hears classes listed.sets e (walks_of asks attached))
      (λ _. (classes : Classes) → HasClasses classes listed.block → StopsAtCall classes listed.sets e (walks_of asks attached) now)
  hears (Ok u) done = λ classes has.
      let table = map (λ (a : Attachment). a.acts) attached in
      done
      ∙ (ap (λ l. all_act table e l (walks_of asks attached)) heard.list
      ∙ all_sets table classes e heard.sort (λ f. heard.same classes has f) 0 listed.sets [] [] (walks_of asks attached)
      (table_is attached listed.sets these) refl refl (as_many asks attached listed.sets these))
  hears (Err why) stop = λ classes has.
      let table = map (λ (a : Attachment). a.acts) attached in
      let from = walks_of asks attached in
      let list = slots_from 0 heard.sort listed.sets in
      let inside : stop.place < length list = omega (arith, stop.within, ap length heard.list) in
      let r = in_sets table classes e heard.sort (λ f. heard.same classes has f) 0 listed.sets [] stop.place [] from
      (table_is attached listed.sets these) refl refl (as_many asks attached listed.sets these) inside in
      let zero' : Slot = record { set = 0; sub = 0 } in
      let at : Slot = record { set = length r.ahead; sub = length r.first } in
      let slot : slice_index_or slots stop.place zero' ≡ at =
      ap (λ l. slice_index_or l stop.place zero') heard.list
      ∙ (r.slot zero' ∙ ap (λ (j : ℕ). (let t : Slot = record { set = j; sub = length r.first } in t))
      (let z : 0 + length r.ahead ≡ length r.ahead = omega arith in z)) in
      let act : act_at table at ≡ r.sub.act =
      ap (λ l. act_in (slice_index_or l (length r.ahead) []) (length r.first)) (table_is attached listed.sets these ∙ ap acts_each r.parts)
      ∙ (ap (λ l. act_in l (length r.first)) (look_up r.ahead r.set r.behind ∙ ap acts_in r.subs)
      ∙ act_front r.first r.sub r.last) in
      record {
        ahead = r.ahead;
        set = r.set;
        behind = r.behind;
        parts = r.parts;
        first = r.first;
        sub = r.sub;
        last = r.last;
        subs = r.subs;
        matching = sym (heard.same classes has r.sub.filter) ∙ r.matching;
        calls = subst (λ a. calls_at a (slice_index_or now (length r.ahead) no_walk).column ≡ true) act
            (subst (λ (s : Slot). calls_at (act_at table s) (slice_index_or now s.set no_walk).column ≡ true) slot (stop.calls zero'));
        came = stop.came ∙ (ap (λ l. all_act table e (take stop.place l) from) heard.list ∙ r.came);
      }

-- several events

pub walk_on : (classes : Classes) (sets : List (ℕ × SetSpec)) (es fs : List Event) (ws : List Walk)
    → each_walks classes sets (es ++ fs) ws ≡ each_walks classes sets fs (each_walks classes sets es ws)
unfolding each_walks
walk_on classes sets [] fs ws = refl
walk_on classes sets (e ∷ es) fs ws = walk_on classes sets es fs (each_hears classes sets e ws)

pub walk_more : (classes : Classes) (sets : List (ℕ × SetSpec)) (raw : List Event) (i : ℕ) (d : Event) (ws : List Walk) → i < length raw
    → each_walks classes sets (take (i + 1) raw) ws ≡ each_hears classes sets (slice_index_or raw i d) (each_walks classes sets (take i raw) ws)
unfolding each_walks
walk_more classes sets raw i d ws below =
    let e = slice_index_or raw i d in
    ap (λ l. each_walks classes sets l ws) (take_here raw i e below (get_or_default raw i d e below))
    ∙ walk_on classes sets (take i raw) (e ∷ []) ws

pub none_walk : (classes : Classes) (sets : List (ℕ × SetSpec)) (ws : List Walk) → each_walks classes sets [] ws ≡ ws
unfolding each_walks
none_walk classes sets ws = refl

pub all_stay : (m n : ℕ) → slice_index_or (replicate m Stay) n Stay ≡ Stay
all_stay zero n = refl
all_stay (suc m) zero = refl
all_stay (suc m) (suc n) = all_stay m n

pub has_classes : (image : Program) (block : Stretch) → IsBlock image block.pc block → HasClasses (classes_of image) block
has_classes image block is = record {
  places = λ k d below. (is.sites k d below).place;
  those = λ k d below. ap (option_map word_class) (is.sites k d below).present ∙ ap Some (sym (is.sites k d below).class);
}

-- where an event was refused
pub stops_at : (classes : Classes) (sets : List (ℕ × SetSpec)) (raw : List Event) (i : ℕ) (d : Event) (between from now : List Walk)
    → i < length raw → between ≡ each_walks classes sets (take i raw) from
    → StopsAtCall classes sets (slice_index_or raw i d) between now
    → StopsAmong classes sets raw from now
stops_at classes sets raw i d between from now below walked stops = record {
  before = take i raw;
  event = slice_index_or raw i d;
  after = drop (i + 1) raw;
  events = sym (take-append-drop i raw)
      ∙ ap (λ l. take i raw ++ l) (drop_here raw i (slice_index_or raw i d) below (get_or_default raw i d (slice_index_or raw i d) below));
  stops = subst (λ ws. StopsAtCall classes sets (slice_index_or raw i d) ws now) walked stops;
}

-- where nobody had asked
pub stops_first : (classes : Classes) (sets : List (ℕ × SetSpec)) (raw : List Event) (old new : List Attachment) (first later : List Ask)
    → first ≡ no_asks → StopsAmong classes sets raw (walks_of first old) (walks_of later new) → StopsIn classes sets raw old new
stops_first classes sets raw old new first later none stops = record {
  before = stops.before;
  event = stops.event;
  after = stops.after;
  events = stops.events;
  asks = later;
  stops = subst (λ (l : List Ask). StopsAtCall classes sets stops.event (each_walks classes sets stops.before (walks_of l old))
      (walks_of later new)) none stops.stops;
}
