-- The slots of an event, carried out one after the other, are the walk of each set at that event.
use Rattle.std.proofs.Common.{◌≡◌, ◌<◌, ◌+◌, ◌-◌, ◌∙◌, ◌++◌, ◌∷◌, [], ℕ, zero, suc, true, false, List, length, map, take}
use Rattle.std.proofs.Common.{refl, sym, ap, subst, arith, append_assoc, inl, inr, length-append}
use Rattle.std.specs.Prelude.{slice_index_or, slice_set, if◌then◌else◌}
use Rattle.std.proofs.lemmas.List.{take-append-le, get_or_append_left, get_or-append-add}
use Rattle.std.proofs.lemmas.Bool.{cases_lt}
use Rattle.std.proofs.Math.Seq.{get_or-append_seam}
use Rattle.flat_model.specs.declared.events.Event.{Event}
use Rattle.flat_model.specs.declared.plugins.Act.{Act}
use Rattle.flat_model.specs.declared.plugins.Filter.{Filter}
use Rattle.flat_model.specs.declared.plugins.SetSpec.{SetSpec}
use Rattle.flat_model.specs.declared.plugins.Sub.{Sub}
use Rattle.event_walk.specs.Matches.{Classes, matches}
use Rattle.event_walk.specs.Walk.{Walk, walk_from, walk_sub, acts}
use Rattle.watcher_api.specs.Acting.{act_in, with_act, no_walk}
use Rattle.instr_lists.specs.declared.slots.Slot.{Slot}
use Rattle.instr_lists.specs.declared.sorts.Sort.{Sort}
use Rattle.instr_lists.specs.Sorts.{passes}
use Rattle.instr_lists.specs.Slots.{slots_in, slots_from}
use Rattle.instr_lists.specs.Delivery.{all_act, each_hears, has_come}
use Rattle.instr_lists.specs.Silence.{acts_each}
use Rattle.instr_lists.proofs.Hearing.{act_on}

set_seam : {X : Type 0} (xs : List X) (y z : X) (ys : List X) → slice_set (xs ++ y ∷ ys) (length xs) z ≡ xs ++ z ∷ ys
set_seam [] y z ys = refl
set_seam (x ∷ xs) y z ys = ap (λ l. x ∷ l) (set_seam xs y z ys)

act_seam : (k i : ℕ) (act : Act) (e : Event) (xs : List Walk) (w : Walk) (ws : List Walk) → length xs ≡ k
    → with_act k i act e (xs ++ w ∷ ws) ≡ xs ++ acts act i e w ∷ ws
act_seam k i act e xs w ws long =
    subst (λ n. with_act n i act e (xs ++ w ∷ ws) ≡ xs ++ acts act i e w ∷ ws) long
    (ap (λ v. slice_set (xs ++ w ∷ ws) (length xs) (acts act i e v)) (get_or-append_seam xs w ws no_walk)
    ∙ set_seam xs w (acts act i e w) ws)

abbrev pub acts_in : List Sub → List Act
acts_in subs = map (λ (s : Sub). s.act) subs

pub act_front : (front : List Sub) (s : Sub) (back : List Sub) → act_in (acts_in (front ++ s ∷ back)) (length front) ≡ s.act
act_front [] s back = refl
act_front (f ∷ front) s back = act_front front s back

pub act_here : (front : List Sub) (s : Sub) (back : List Sub) (i : ℕ) → length front ≡ i → act_in (acts_in (front ++ s ∷ back)) i ≡ s.act
act_here front s back i long = subst (λ n. act_in (acts_in (front ++ s ∷ back)) n ≡ s.act) long (act_front front s back)

pub one_longer : {X : Type 0} (xs : List X) (x : X) (n : ℕ) → length xs ≡ n → length (xs ++ x ∷ []) ≡ n + 1
one_longer xs x n long = omega (arith, long, length-append xs (x ∷ []))

take_over : {X : Type 0} (xs ys : List X) (m : ℕ) → take (length xs + m) (xs ++ ys) ≡ xs ++ take m ys
take_over [] ys m = let e : 0 + m ≡ m = omega arith in rw e refl
take_over (x ∷ xs) ys m =
    let e : length (x ∷ xs) + m ≡ suc (length xs + m) = omega arith in
    rw e (ap (λ l. x ∷ l) (take_over xs ys m))

pub looked_in : (table : List (List Act)) (k : ℕ) (before : List (List Act)) (s : ℕ × SetSpec) (sets : List (ℕ × SetSpec))
    → table ≡ before ++ acts_each (s ∷ sets) → length before ≡ k → slice_index_or table k [] ≡ acts_in s.1.subs
looked_in table k before s sets is long =
    ap (λ l. slice_index_or l k []) is
    ∙ subst (λ n. slice_index_or (before ++ acts_each (s ∷ sets)) n [] ≡ acts_in s.1.subs) long
    (get_or-append_seam before (acts_in s.1.subs) (acts_each sets) [])

-- the acts of a set at place k, from its subscription i on, of which those in front come before
record InOne (acts' : List (List Act)) (classes : Classes) (e : Event) (sort : Sort) (k i n : ℕ) (subs : List Sub) (slots : List Slot)
    (xs : List Walk) (w : Walk) (ws : List Walk) : Type 0 where
  first : List Sub
  sub : Sub
  last : List Sub
  parts : subs ≡ first ++ sub ∷ last
  slot : (d : Slot) → slice_index_or slots n d ≡ record { set = k; sub = i + length first }
  matching : passes sub.filter sort ≡ true
  came : all_act acts' e (take n slots) (xs ++ w ∷ ws) ≡ xs ++ walk_from classes e i first w ∷ ws

pub record InSets (acts' : List (List Act)) (classes : Classes) (e : Event) (sort : Sort) (k n : ℕ) (sets : List (ℕ × SetSpec))
    (slots : List Slot) (xs ws : List Walk) : Type 0 where
  pub ahead : List (ℕ × SetSpec)
  pub set : ℕ × SetSpec
  pub behind : List (ℕ × SetSpec)
  pub parts : sets ≡ ahead ++ set ∷ behind
  pub first : List Sub
  pub sub : Sub
  pub last : List Sub
  pub subs : set.1.subs ≡ first ++ sub ∷ last
  pub slot : (d : Slot) → slice_index_or slots n d ≡ record { set = k + length ahead; sub = length first }
  pub matching : passes sub.filter sort ≡ true
  pub came : all_act acts' e (take n slots) (xs ++ ws) ≡ xs ++ has_come classes ahead first e ws

module _ (table : List (List Act)) (classes : Classes) (e : Event) (sort : Sort)
    (same : (f : Filter) → passes f sort ≡ matches classes f e) where
  -- one subscription that passes, and one that doesn't
  passed : (k i : ℕ) (front : List Sub) (s : Sub) (subs : List Sub) (xs : List Walk) (w : Walk) (ws : List Walk)
      → length front ≡ i → length xs ≡ k → slice_index_or table k [] ≡ acts_in (front ++ s ∷ subs) → passes s.filter sort ≡ true
      → with_act k i (act_in (slice_index_or table k []) i) e (xs ++ w ∷ ws) ≡ xs ++ walk_sub classes e i s w ∷ ws
  passed k i front s subs xs w ws long len there is =
      let act : act_in (slice_index_or table k []) i ≡ s.act = ap (λ l. act_in l i) there ∙ act_here front s subs i long in
      ap (λ a. with_act k i a e (xs ++ w ∷ ws)) act
      ∙ (act_seam k i s.act e xs w ws len
      ∙ ap (λ b. xs ++ (if b then acts s.act i e w else w) ∷ ws) (sym (sym (same s.filter) ∙ is)))

  passed_over : (i : ℕ) (s : Sub) (w : Walk) → passes s.filter sort ≡ false → w ≡ walk_sub classes e i s w
  passed_over i s w is = ap (λ b. if b then acts s.act i e w else w) (sym (sym (same s.filter) ∙ is))

  further : (front : List Sub) (s : Sub) (subs : List Sub) (k : ℕ) → slice_index_or table k [] ≡ acts_in (front ++ s ∷ subs)
      → slice_index_or table k [] ≡ acts_in ((front ++ s ∷ []) ++ subs)
  further front s subs k there = there ∙ ap acts_in (sym (append_assoc front (s ∷ []) subs))

  one_set : (k : ℕ) (subs front : List Sub) (i : ℕ) (xs : List Walk) (w : Walk) (ws : List Walk)
      → length front ≡ i → length xs ≡ k → slice_index_or table k [] ≡ acts_in (front ++ subs)
      → all_act table e (slots_in k i sort subs) (xs ++ w ∷ ws) ≡ xs ++ walk_from classes e i subs w ∷ ws
  unfolding all_act slots_in walk_from
  one_set k [] front i xs w ws long len there = refl
  one_set k (s ∷ subs) front i xs w ws long len there =
      let slot : Slot = record { set = k; sub = i } in
      let rest = slots_in k (i + 1) sort subs in
      let next = one_set k subs (front ++ s ∷ []) (i + 1) xs (walk_sub classes e i s w) ws (one_longer front s i long) len
      (further front s subs k there) in
      elim (passes s.filter sort) as (λ b. passes s.filter sort ≡ b
      → all_act table e (if b then slot ∷ rest else rest) (xs ++ w ∷ ws)
      ≡ xs ++ walk_from classes e (i + 1) subs (walk_sub classes e i s w) ∷ ws) [
        | true ↦ λ is. ap (all_act table e rest) (passed k i front s subs xs w ws long len there is) ∙ next
        | false ↦ λ is. ap (λ v. all_act table e rest (xs ++ v ∷ ws)) (passed_over i s w is) ∙ next
      ] refl

  -- an act inside a set
  at_once : (k i : ℕ) (s : Sub) (subs : List Sub) (rest : List Slot) (xs : List Walk) (w : Walk) (ws : List Walk)
      → passes s.filter sort ≡ true
      → InOne table classes e sort k i 0 (s ∷ subs) (record { set = k; sub = i } ∷ rest) xs w ws
  unfolding all_act walk_from
  at_once k i s subs rest xs w ws is =
      record {
        first = [];
        sub = s;
        last = subs;
        parts = refl;
        slot = λ d. ap (λ (j : ℕ). (let t : Slot = record { set = k; sub = j } in t)) (let z : i ≡ i + 0 = omega arith in z);
        matching = is;
        came = refl;
      }

  later : (k i n : ℕ) (s : Sub) (subs : List Sub) (rest : List Slot) (xs : List Walk) (w : Walk) (ws : List Walk)
      → with_act k i (act_in (slice_index_or table k []) i) e (xs ++ w ∷ ws) ≡ xs ++ walk_sub classes e i s w ∷ ws
      → InOne table classes e sort k (i + 1) n subs rest xs (walk_sub classes e i s w) ws
      → InOne table classes e sort k i (suc n) (s ∷ subs) (record { set = k; sub = i } ∷ rest) xs w ws
  unfolding all_act walk_from
  later k i n s subs rest xs w ws acted r =
      record {
        first = s ∷ r.first;
        sub = r.sub;
        last = r.last;
        parts = ap (λ l. s ∷ l) r.parts;
        slot = λ d. r.slot d ∙ ap (λ (j : ℕ). (let t : Slot = record { set = k; sub = j } in t))
            (let z : i + 1 + length r.first ≡ i + length (s ∷ r.first) = omega arith in z);
        matching = r.matching;
        came = ap (all_act table e (take n rest)) acted ∙ r.came;
      }

  skipped : (k i n : ℕ) (s : Sub) (subs : List Sub) (rest : List Slot) (xs : List Walk) (w : Walk) (ws : List Walk)
      → w ≡ walk_sub classes e i s w
      → InOne table classes e sort k (i + 1) n subs rest xs (walk_sub classes e i s w) ws
      → InOne table classes e sort k i n (s ∷ subs) rest xs w ws
  unfolding all_act walk_from
  skipped k i n s subs rest xs w ws stays r =
      record {
        first = s ∷ r.first;
        sub = r.sub;
        last = r.last;
        parts = ap (λ l. s ∷ l) r.parts;
        slot = λ d. r.slot d ∙ ap (λ (j : ℕ). (let t : Slot = record { set = k; sub = j } in t))
            (let z : i + 1 + length r.first ≡ i + length (s ∷ r.first) = omega arith in z);
        matching = r.matching;
        came = ap (λ v. all_act table e (take n rest) (xs ++ v ∷ ws)) stays ∙ r.came;
      }

  in_one : (k : ℕ) (subs front : List Sub) (i n : ℕ) (xs : List Walk) (w : Walk) (ws : List Walk)
      → length front ≡ i → length xs ≡ k → slice_index_or table k [] ≡ acts_in (front ++ subs)
      → n < length (slots_in k i sort subs)
      → InOne table classes e sort k i n subs (slots_in k i sort subs) xs w ws
  unfolding slots_in
  in_one k [] front i n xs w ws long len there below = absurd (omega (arith, below))
  in_one k (s ∷ subs) front i zero xs w ws long len there below =
      let slot : Slot = record { set = k; sub = i } in
      let rest = slots_in k (i + 1) sort subs in
      elim (passes s.filter sort) as (λ b. passes s.filter sort ≡ b → 0 < length (if b then slot ∷ rest else rest)
      → InOne table classes e sort k i 0 (s ∷ subs) (if b then slot ∷ rest else rest) xs w ws) [
        | true ↦ λ is below'. at_once k i s subs rest xs w ws is
        | false ↦ λ is below'. skipped k i 0 s subs rest xs w ws (passed_over i s w is)
            (in_one k subs (front ++ s ∷ []) (i + 1) 0 xs (walk_sub classes e i s w) ws (one_longer front s i long) len
            (further front s subs k there) below')
      ] refl below
  in_one k (s ∷ subs) front i (suc n) xs w ws long len there below =
      let slot : Slot = record { set = k; sub = i } in
      let rest = slots_in k (i + 1) sort subs in
      elim (passes s.filter sort) as (λ b. passes s.filter sort ≡ b → suc n < length (if b then slot ∷ rest else rest)
      → InOne table classes e sort k i (suc n) (s ∷ subs) (if b then slot ∷ rest else rest) xs w ws) [
        | true ↦ λ is below'. later k i n s subs rest xs w ws (passed k i front s subs xs w ws long len there is)
            (in_one k subs (front ++ s ∷ []) (i + 1) n xs (walk_sub classes e i s w) ws (one_longer front s i long) len
            (further front s subs k there) (omega (arith, below')))
        | false ↦ λ is below'. skipped k i (suc n) s subs rest xs w ws (passed_over i s w is)
            (in_one k subs (front ++ s ∷ []) (i + 1) (suc n) xs (walk_sub classes e i s w) ws (one_longer front s i long) len
            (further front s subs k there) below')
      ] refl below

  -- all sets from one on

  pub all_sets : (k : ℕ) (sets : List (ℕ × SetSpec)) (before : List (List Act)) (xs ws : List Walk)
      → table ≡ before ++ acts_each sets → length before ≡ k → length xs ≡ k → length ws ≡ length sets
      → all_act table e (slots_from k sort sets) (xs ++ ws) ≡ xs ++ each_hears classes sets e ws
  unfolding all_act slots_from each_hears
  all_sets k [] before xs ws is long len many = refl
  all_sets k (s ∷ sets) before xs [] is long len many = absurd (omega (arith, many))
  all_sets k (s ∷ sets) before xs (w ∷ ws) is long len many =
      let subs = s.1.subs in
      let now = walk_from classes e 0 subs w in
      let mine = slots_in k 0 sort subs in
      let others = slots_from (k + 1) sort sets in
      act_on table e mine others (xs ++ w ∷ ws)
      ∙ (ap (all_act table e others) (one_set k subs [] 0 xs w ws refl len (looked_in table k before s sets is long)
      ∙ sym (append_assoc xs (now ∷ []) ws))
      ∙ (all_sets (k + 1) sets (before ++ acts_in subs ∷ []) (xs ++ now ∷ []) ws
      (is ∙ sym (append_assoc before (acts_in subs ∷ []) (acts_each sets)))
      (one_longer before (acts_in subs) k long) (one_longer xs now k len) (omega (arith, many))
      ∙ append_assoc xs (now ∷ []) (each_hears classes sets e ws)))

  pub in_sets : (k : ℕ) (sets : List (ℕ × SetSpec)) (before : List (List Act)) (n : ℕ) (xs ws : List Walk)
      → table ≡ before ++ acts_each sets → length before ≡ k → length xs ≡ k → length ws ≡ length sets
      → n < length (slots_from k sort sets)
      → InSets table classes e sort k n sets (slots_from k sort sets) xs ws
  unfolding slots_from has_come
  in_sets k [] before n xs ws is long len many below = absurd (omega (arith, below))
  in_sets k (s ∷ sets) before n xs [] is long len many below = absurd (omega (arith, many))
  in_sets k (s ∷ sets) before n xs (w ∷ ws) is long len many below =
      let subs = s.1.subs in
      let now = walk_from classes e 0 subs w in
      let mine = slots_in k 0 sort subs in
      let others = slots_from (k + 1) sort sets in
      elim (cases_lt n (length mine)) [
        | inl inside ↦
            let r = in_one k subs [] 0 n xs w ws refl len (looked_in table k before s sets is long) inside in
            record {
              ahead = [];
              set = s;
              behind = sets;
              parts = refl;
              first = r.first;
              sub = r.sub;
              last = r.last;
              subs = r.parts;
              slot = λ d. get_or_append_left mine others d n inside
                  ∙ (r.slot d
                  ∙ (ap (λ (j : ℕ). (let t : Slot = record { set = k; sub = j } in t)) (let z : 0 + length r.first ≡ length r.first = omega arith in z)
                  ∙ ap (λ (j : ℕ). (let t : Slot = record { set = j; sub = length r.first } in t)) (let z : k ≡ k + 0 = omega arith in z)));
              matching = r.matching;
              came = ap (λ l. all_act table e l (xs ++ w ∷ ws)) (take-append-le n mine others (omega (arith, inside))) ∙ r.came;
            }
        | inr outside ↦
            let m = n - length mine in
            let split : n ≡ length mine + m = omega (arith, outside) in
            let r = in_sets (k + 1) sets (before ++ acts_in subs ∷ []) m (xs ++ now ∷ []) ws
            (is ∙ sym (append_assoc before (acts_in subs ∷ []) (acts_each sets)))
            (one_longer before (acts_in subs) k long) (one_longer xs now k len) (omega (arith, many))
            (omega (arith, below, outside, length-append mine others)) in
            record {
              ahead = s ∷ r.ahead;
              set = r.set;
              behind = r.behind;
              parts = ap (λ l. s ∷ l) r.parts;
              first = r.first;
              sub = r.sub;
              last = r.last;
              subs = r.subs;
              slot = λ d. ap (λ j. slice_index_or (mine ++ others) j d) split
                  ∙ (get_or-append-add mine others m d
                  ∙ (r.slot d
                  ∙ ap (λ (j : ℕ). (let t : Slot = record { set = j; sub = length r.first } in t))
                  (let z : k + 1 + length r.ahead ≡ k + length (s ∷ r.ahead) = omega arith in z)));
              matching = r.matching;
              came = ap (λ j. all_act table e (take j (mine ++ others)) (xs ++ w ∷ ws)) split
                  ∙ (ap (λ l. all_act table e l (xs ++ w ∷ ws)) (take_over mine others m)
                  ∙ (act_on table e mine (take m others) (xs ++ w ∷ ws)
                  ∙ (ap (all_act table e (take m others)) (one_set k subs [] 0 xs w ws refl len (looked_in table k before s sets is long)
                  ∙ sym (append_assoc xs (now ∷ []) ws))
                  ∙ (r.came ∙ append_assoc xs (now ∷ []) (has_come classes r.ahead r.first e ws)))));
            }
      ]
