-- Events that need not be stored: those that nothing hears, and those of the code where all that is done is to add.
use Rattle.std.proofs.Common.{◌≡◌, ◌<◌, ◌+◌, ◌*◌, ◌∙◌, ◌∷◌, ◌&&◌, ◌||◌, [], ℕ, zero, suc, Bool, true, false, List, length, map}
use Rattle.std.proofs.Common.{refl, sym, ap, subst, arith, All}
use Rattle.std.specs.Prelude.{slice_index_or, if◌then◌else◌, cond, not}
use Rattle.std.specs.List.{list_all}
use Rattle.flat_model.specs.declared.events.Event.{Event}
use Rattle.flat_model.specs.declared.events.What.{What}
use Rattle.flat_model.specs.declared.events.What.TheVariants as what
use Rattle.flat_model.specs.declared.plugins.Act.{Act}
use Rattle.flat_model.specs.declared.plugins.Act.TheVariants.{Call, Inline, Cond}
use Rattle.flat_model.specs.declared.plugins.Ask.{Ask}
use Rattle.flat_model.specs.declared.plugins.SetSpec.{SetSpec}
use Rattle.flat_model.specs.declared.plugins.Sub.{Sub}
use Rattle.flat_model.specs.Step.{as_events}
use Rattle.block_finder.specs.Block.{Stretch}
use Rattle.event_walk.specs.Matches.{Classes, matches}
use Rattle.event_walk.specs.Walk.{Walk, walk_from, acts}
use Rattle.instr_lists.specs.declared.sorts.Sort.{Sort}
use Rattle.instr_lists.specs.declared.sorts.Sort.TheVariants.{Init}
use Rattle.instr_lists.specs.Sorts.{sorts_of, LiesIn}
use Rattle.instr_lists.specs.Lists.{HasClasses, IsPlaceOf}
use Rattle.instr_lists.specs.Delivery.{each_hears, each_walks}
use Rattle.instr_lists.specs.Silence.{is_add, is_code, is_code_sort, is_deaf, only_adds, is_silent, adds_alone, code_in}
use Rattle.instr_lists.proofs.Placing.{block_place, insn_place, mem_place, init_place, sys_place, ret_place, exit_place}
use Rattle.instr_lists.proofs.Placing.{at_word, access_at, after_words, no_site}

pub wrong : {A : Type 0} → false ≡ true → A
wrong is = absurd (subst (λ v. elim v as (λ _. Type 0) [ true ↦ ⊥ | false ↦ Unit {0} ]) is tt)

pub left : (a b : Bool) → (a && b) ≡ true → a ≡ true
left true b is = refl
left false b is = is

pub right : (a b : Bool) → (a && b) ≡ true → b ≡ true
right true b is = is
right false b is = wrong is

pub all_at : {X : Type 0} (p : X → Bool) (xs : List X) (i : ℕ) (d : X) → i < length xs → list_all p xs ≡ true
    → p (slice_index_or xs i d) ≡ true
all_at p [] i d below all = absurd (omega (arith, below))
all_at p (x ∷ xs) zero d below all = left (p x) (list_all p xs) all
all_at p (x ∷ xs) (suc i) d below all = all_at p xs i d (omega (arith, below)) (right (p x) (list_all p xs) all)

all_same : {X : Type 0} (p q : X → Bool) (xs : List X) → ((x : X) → p x ≡ q x) → list_all p xs ≡ list_all q xs
all_same p q [] same = refl
all_same p q (x ∷ xs) same = ap (λ b. b && list_all p xs) (same x) ∙ ap (λ b. q x && b) (all_same p q xs same)

-- the sort of an event

record HasSort (block : Stretch) (w : What) : Type 0 where
  place : ℕ
  stands : IsPlaceOf block w place
  code : is_code_sort (slice_index_or (sorts_of block.sites) place Init) ≡ is_code w

has_sort : (block : Stretch) (w : What) → LiesIn block w → HasSort block w
has_sort block (what.Block pc n) in' = record {
  place = 5 * in'.word;
  stands = block_place block pc (5 * in'.word) in' n refl;
  code = ap is_code_sort (at_word block.sites in'.word 0 (5 * in'.word) in'.within (omega arith) (omega arith));
}
has_sort block (what.Insn pc word) in' = record {
  place = 5 * in'.word + 1;
  stands = insn_place block pc (5 * in'.word + 1) in' word refl;
  code = ap is_code_sort (at_word block.sites in'.word 1 (5 * in'.word + 1) in'.within (omega arith) refl);
}
has_sort block (what.Mem pc addr shift signed rw read written) at =
    let in' = at.inside in
    record {
      place = 5 * in'.word + (1 + rw);
      stands = mem_place block pc (5 * in'.word + (1 + rw)) in' addr shift signed rw read written at.least at.most refl;
      code = ap is_code_sort
          (at_word block.sites in'.word (1 + rw) (5 * in'.word + (1 + rw)) in'.within (omega (arith, at.most)) refl
          ∙ access_at (slice_index_or block.sites in'.word no_site) rw at.least at.most);
    }
has_sort block what.Init in' = record {
  place = 5 * length block.sites;
  stands = init_place block (length block.sites) refl;
  code = ap (λ m. is_code_sort (slice_index_or (sorts_of block.sites) m Init))
      (let e : 5 * length block.sites ≡ 5 * length block.sites + 0 = omega arith in e)
      ∙ ap is_code_sort (after_words block (length block.sites) refl 0 (omega arith));
}
has_sort block (what.Sys number a0 a1 a2) in' = record {
  place = 5 * length block.sites + 1;
  stands = sys_place block (length block.sites) refl number a0 a1 a2;
  code = ap is_code_sort (after_words block (length block.sites) refl 1 (omega arith));
}
has_sort block (what.SysRet number result) in' = record {
  place = 5 * length block.sites + 2;
  stands = ret_place block (length block.sites) refl number result;
  code = ap is_code_sort (after_words block (length block.sites) refl 2 (omega arith));
}
has_sort block (what.Exit ending) in' = record {
  place = 5 * length block.sites + 3;
  stands = exit_place block (length block.sites) refl ending;
  code = ap is_code_sort (after_words block (length block.sites) refl 3 (omega arith));
}

-- what subscriptions hear of an event

abbrev deaf_to : Classes → Event → Sub → Bool
deaf_to classes e sub = not (matches classes sub.filter e)

abbrev adds_to : Classes → Event → Sub → Bool
adds_to classes e sub = not (matches classes sub.filter e) || (is_code e.what && is_add sub.act)

abbrev pub of_each : (Sub → Bool) → List (ℕ × SetSpec) → Bool
of_each test sets = list_all (λ s. list_all test s.1.subs) sets

each_same : (p q : Sub → Bool) (sets : List (ℕ × SetSpec)) → ((sub : Sub) → p sub ≡ q sub) → of_each p sets ≡ of_each q sets
each_same p q sets same =
    all_same (λ (s : ℕ × SetSpec). list_all p s.1.subs) (λ (s : ℕ × SetSpec). list_all q s.1.subs) sets (λ s. all_same p q s.1.subs same)

module _ (classes : Classes) (block : Stretch) (sets : List (ℕ × SetSpec)) (has : HasClasses classes block) (e : Event)
    (lies : LiesIn block e.what) where
  quiet_at : is_silent block sets ≡ true → of_each (deaf_to classes e) sets ≡ true
  quiet_at silent =
      let h = has_sort block e.what lies in
      let sort = slice_index_or (sorts_of block.sites) h.place Init in
      sym (each_same (is_deaf sort) (deaf_to classes e) sets (λ sub. ap not (h.stands.same classes has sub.filter)))
      ∙ all_at (λ (x : Sort). of_each (is_deaf x) sets) (sorts_of block.sites) h.place Init h.stands.within silent

  adds_at : adds_alone block sets ≡ true → of_each (adds_to classes e) sets ≡ true
  adds_at adds =
      let h = has_sort block e.what lies in
      let sort = slice_index_or (sorts_of block.sites) h.place Init in
      sym (each_same (only_adds sort) (adds_to classes e) sets
      (λ sub. ap (λ b. not b || (is_code_sort sort && is_add sub.act)) (h.stands.same classes has sub.filter)
      ∙ ap (λ b. not (matches classes sub.filter e) || (b && is_add sub.act)) h.code))
      ∙ all_at (λ (x : Sort). of_each (only_adds x) sets) (sorts_of block.sites) h.place Init h.stands.within adds

-- an event of the code without its hart and its step
abbrev pub code_event : What → Event
code_event w = record { hart = 0; step = 0; what = w }

-- an event that nothing hears

unheard : (classes : Classes) (e : Event) (i : ℕ) (subs : List Sub) (w : Walk) → list_all (deaf_to classes e) subs ≡ true
    → walk_from classes e i subs w ≡ w
unfolding walk_from
unheard classes e i [] w deaf = refl
unheard classes e i (s ∷ subs) w deaf =
    let next = unheard classes e (i + 1) subs w (right (deaf_to classes e s) (list_all (deaf_to classes e) subs) deaf) in
    elim (matches classes s.filter e) as (λ b. not b ≡ true
    → walk_from classes e (i + 1) subs (if b then acts s.act i e w else w) ≡ w) [
      | true ↦ λ is. wrong is
      | false ↦ λ is. next
    ] (left (deaf_to classes e s) (list_all (deaf_to classes e) subs) deaf)

each_unheard : (classes : Classes) (e : Event) (sets : List (ℕ × SetSpec)) (ws : List Walk) → of_each (deaf_to classes e) sets ≡ true
    → each_hears classes sets e ws ≡ ws
unfolding each_hears
each_unheard classes e [] ws deaf = refl
each_unheard classes e (s ∷ sets) [] deaf = refl
each_unheard classes e (s ∷ sets) (w ∷ ws) deaf =
    let mine = list_all (deaf_to classes e) s.1.subs in
    let others = of_each (deaf_to classes e) sets in
    ap (λ v. v ∷ each_hears classes sets e ws) (unheard classes e 0 s.1.subs w (left mine others deaf))
    ∙ ap (λ l. w ∷ l) (each_unheard classes e sets ws (right mine others deaf))

later : (P : Event → Type 0) (e : Event) (es : List Event) → All P (e ∷ es) → All P es
later P e es all n d below = all (suc n) d (omega (arith, below))

pub skipped : (classes : Classes) (block : Stretch) (sets : List (ℕ × SetSpec)) → HasClasses classes block → is_silent block sets ≡ true
    → (es : List Event) → All (λ (e : Event). LiesIn block e.what) es → (ws : List Walk) → each_walks classes sets es ws ≡ ws
unfolding each_walks
skipped classes block sets has silent [] lie ws = refl
skipped classes block sets has silent (e ∷ es) lie ws =
    let first : LiesIn block e.what = lie 0 e (omega arith) in
    ap (each_walks classes sets es) (each_unheard classes e sets ws (quiet_at classes block sets has e first silent))
    ∙ skipped classes block sets has silent es (later (λ (x : Event). LiesIn block x.what) e es lie) ws

-- an event at which all that is done is to add

kept_by : (act : Act) (i : ℕ) (e : Event) (w : Walk) → is_add act ≡ true → (acts act i e w).asked ≡ w.asked
kept_by (Call kind) i e w is = wrong is
kept_by (Inline op entry imm) i e w is = refl
kept_by (Cond cond entry imm then_store kind) i e w is = wrong is

pub moved_by : (act : Act) (i : ℕ) (e f : Event) (w : Walk) → is_add act ≡ true → acts act i e w ≡ acts act i f w
moved_by (Call kind) i e f w is = wrong is
moved_by (Inline op entry imm) i e f w is = refl
moved_by (Cond cond entry imm then_store kind) i e f w is = wrong is

-- nobody asks then
keeps_ask : (classes : Classes) (e : Event) (i : ℕ) (subs : List Sub) (w : Walk) → list_all (adds_to classes e) subs ≡ true
    → (walk_from classes e i subs w).asked ≡ w.asked
unfolding walk_from
keeps_ask classes e i [] w adds = refl
keeps_ask classes e i (s ∷ subs) w adds =
    let rest = right (adds_to classes e s) (list_all (adds_to classes e) subs) adds in
    elim (matches classes s.filter e) as (λ b. (not b || (is_code e.what && is_add s.act)) ≡ true
    → (walk_from classes e (i + 1) subs (if b then acts s.act i e w else w)).asked ≡ w.asked) [
      | true ↦ λ is. keeps_ask classes e (i + 1) subs (acts s.act i e w) rest
          ∙ kept_by s.act i e w (right (is_code e.what) (is_add s.act) is)
      | false ↦ λ is. keeps_ask classes e (i + 1) subs w rest
    ] (left (adds_to classes e s) (list_all (adds_to classes e) subs) adds)

-- and its hart and its step are the same to all
same_at : (classes : Classes) (e : Event) (i : ℕ) (subs : List Sub) (w : Walk) → list_all (adds_to classes e) subs ≡ true
    → walk_from classes e i subs w ≡ walk_from classes (code_event e.what) i subs w
unfolding walk_from
same_at classes e i [] w adds = refl
same_at classes e i (s ∷ subs) w adds =
    let f = code_event e.what in
    let rest = right (adds_to classes e s) (list_all (adds_to classes e) subs) adds in
    elim (matches classes s.filter e) as (λ b. (not b || (is_code e.what && is_add s.act)) ≡ true
    → walk_from classes e (i + 1) subs (if b then acts s.act i e w else w)
    ≡ walk_from classes f (i + 1) subs (if b then acts s.act i f w else w)) [
      | true ↦ λ is. same_at classes e (i + 1) subs (acts s.act i e w) rest
          ∙ ap (walk_from classes f (i + 1) subs) (moved_by s.act i e f w (right (is_code e.what) (is_add s.act) is))
      | false ↦ λ is. same_at classes e (i + 1) subs w rest
    ] (left (adds_to classes e s) (list_all (adds_to classes e) subs) adds)

abbrev pub asks_in : List Walk → List Ask
asks_in ws = map (λ (w : Walk). w.asked) ws

each_keeps_ask : (classes : Classes) (e : Event) (sets : List (ℕ × SetSpec)) (ws : List Walk) → of_each (adds_to classes e) sets ≡ true
    → asks_in (each_hears classes sets e ws) ≡ asks_in ws
unfolding each_hears
each_keeps_ask classes e [] ws adds = refl
each_keeps_ask classes e (s ∷ sets) [] adds = refl
each_keeps_ask classes e (s ∷ sets) (w ∷ ws) adds =
    let mine = list_all (adds_to classes e) s.1.subs in
    let others = of_each (adds_to classes e) sets in
    ap (λ a. a ∷ asks_in (each_hears classes sets e ws)) (keeps_ask classes e 0 s.1.subs w (left mine others adds))
    ∙ ap (λ l. w.asked ∷ l) (each_keeps_ask classes e sets ws (right mine others adds))

each_same_at : (classes : Classes) (e : Event) (sets : List (ℕ × SetSpec)) (ws : List Walk) → of_each (adds_to classes e) sets ≡ true
    → each_hears classes sets e ws ≡ each_hears classes sets (code_event e.what) ws
unfolding each_hears
each_same_at classes e [] ws adds = refl
each_same_at classes e (s ∷ sets) [] adds = refl
each_same_at classes e (s ∷ sets) (w ∷ ws) adds =
    let mine = list_all (adds_to classes e) s.1.subs in
    let others = of_each (adds_to classes e) sets in
    let f = code_event e.what in
    ap (λ v. v ∷ each_hears classes sets e ws) (same_at classes e 0 s.1.subs w (left mine others adds))
    ∙ ap (λ l. walk_from classes f 0 s.1.subs w ∷ l) (each_same_at classes e sets ws (right mine others adds))

or_none : (b : Bool) → b ≡ (b || false)
or_none true = refl
or_none false = refl

no_code : (classes : Classes) (e : Event) (sets : List (ℕ × SetSpec)) → is_code e.what ≡ false → of_each (adds_to classes e) sets ≡ true
    → of_each (deaf_to classes e) sets ≡ true
no_code classes e sets other adds =
    each_same (deaf_to classes e) (adds_to classes e) sets
    (λ sub. or_none (not (matches classes sub.filter e))
    ∙ ap (λ b. not (matches classes sub.filter e) || (b && is_add sub.act)) (sym other))
    ∙ adds

module _ (classes : Classes) (block : Stretch) (sets : List (ℕ × SetSpec)) (has : HasClasses classes block)
    (adds : adds_alone block sets ≡ true) where
  pub no_asks_then : (es : List Event) → All (λ (e : Event). LiesIn block e.what) es → (ws : List Walk)
      → asks_in (each_walks classes sets es ws) ≡ asks_in ws
  unfolding each_walks
  no_asks_then [] lie ws = refl
  no_asks_then (e ∷ es) lie ws =
      no_asks_then es (later (λ (x : Event). LiesIn block x.what) e es lie) (each_hears classes sets e ws)
      ∙ each_keeps_ask classes e sets ws (adds_at classes block sets has e (lie 0 e (omega arith)) adds)

  -- what events tell of the code is all that is heard of them
  pub of_code : (es : List Event) → All (λ (e : Event). LiesIn block e.what) es → (ws : List Walk)
      → each_walks classes sets es ws ≡ each_walks classes sets (as_events 0 0 (code_in es)) ws
  unfolding each_walks
  of_code [] lie ws = refl
  of_code (e ∷ es) lie ws =
      let here = adds_at classes block sets has e (lie 0 e (omega arith)) adds in
      let next = of_code es (later (λ (x : Event). LiesIn block x.what) e es lie) in
      elim (is_code e.what) as (λ b. is_code e.what ≡ b
      → each_walks classes sets es (each_hears classes sets e ws)
      ≡ each_walks classes sets (as_events 0 0 (cond b (e.what ∷ code_in es) (code_in es))) ws) [
        | true ↦ λ is. ap (each_walks classes sets es) (each_same_at classes e sets ws here)
            ∙ next (each_hears classes sets (code_event e.what) ws)
        | false ↦ λ is. ap (each_walks classes sets es) (each_unheard classes e sets ws (no_code classes e sets is here)) ∙ next ws
      ] refl
