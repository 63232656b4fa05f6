-- What the boxes that a whole state has tally.
use Rattle.std.proofs.Common.{◌≡◌, ◌==◌, ◌+◌, ◌<◌, ◌≤◌, ◌++◌, ◌∙◌, ℕ, zero, suc, true, false, List, [], ◌∷◌, Option, Some, None, inl, inr}
use Rattle.std.proofs.Common.{length, map, refl, sym, ap, subst, arith}
use Rattle.std.specs.Prelude.{Vec, IsSome, filter, slice_get, slice_index_or, option_map, option_and_then, is_some}
use Rattle.std.specs.Global.{Global}
use Rattle.std.specs.List.{range_with_len, flat_map, filter_map, cons_option}
use Rattle.std.proofs.lemmas.Bool.{cases_Bool, false≢true}
use Rattle.std.proofs.lemmas.Bool.Decides.{nat_tests}
use Rattle.std.proofs.lemmas.List.{map-append}
use Rattle.std.proofs.lemmas.List.Elements.{filter-append}
use Rattle.std.proofs.lemmas.List.FromFn.{map-range_with_len_more}
use Rattle.std.proofs.lemmas.Option.{slice_get-map}
use Rattle.flat_model.specs.declared.events.Event.{Event}
use Rattle.flat_model.specs.declared.plugins.Act.{Act}
use Rattle.flat_model.specs.declared.plugins.Kind.{Kind}
use Rattle.flat_model.specs.declared.plugins.Row.{Row}
use Rattle.flat_model.specs.declared.plugins.SetSpec.{SetSpec}
use Rattle.flat_model.specs.declared.plugins.Sub.{Sub}
use Rattle.watcher_api.specs.declared.closers.Parked.{Parked}
use Rattle.watcher_api.specs.Attachment.{Attachment, box_at, box_with, called_kind}
use Rattle.watcher_api.specs.Heard.{Heard}
use Rattle.watcher_api.specs.Tallies.{rows}
use Rattle.run_rules.specs.Guest.{plugins}
use Rattle.run_rules.specs.Heard.{Progress, progress, set_at, heard, last_set}
use Rattle.run_rules.specs.Legal.{Legal}
use Rattle.flat_model.specs.Registry.{sets_of, ending_of}
use Rattle.event_walk.specs.Walk.{heard_by}
use Rattle.run_order.specs.Sets.{boxes_back, attachment_of, harts_of}
use Rattle.run_order.specs.InOrder.{task_run}
use Rattle.run_order.proofs.Shelves.{map_same}
use Rattle.kept_order.specs.Summing.{made_of, set_made}
use Rattle.host_state.specs.Registered.{registered, called_by, rows_if, box_rows}
use Rattle.host_state.specs.State.{StateValue, IsSound}
use Rattle.host_state.proofs.KeptSums.{spec_is, is_last}

-- one list more
pub lists_next : (tallies : ℕ → List Row) (hart : ℕ) (lists : List (Vec Row Global)) (list : Vec Row Global)
    → map (λ v. v.items) lists ≡ map tallies (range_with_len 0 hart) → list.items ≡ tallies hart
    → map (λ v. v.items) (lists ++ list ∷ []) ≡ map tallies (range_with_len 0 (hart + 1))
lists_next tallies hart lists list so_far more =
    map-append (λ (v : Vec Row Global). v.items) lists (list ∷ [])
    ∙ ap (λ (ls : List (List Row)). ls ++ list.items ∷ []) so_far
    ∙ ap (λ (l : List Row). map tallies (range_with_len 0 hart) ++ l ∷ []) more
    ∙ sym (map-range_with_len_more tallies 0 hart hart (omega arith))

-- a box that is there
pub box_missing : (box : Option Heard) → IsSome box → None ≡ box → ⊥
box_missing box there none = absurd (false≢true (subst (λ (o : Option Heard). IsSome o) (sym none) there))

pub box_tallied : (box : Option Heard) (watcher : Heard) (list : List Row) → Some watcher ≡ box → list ≡ rows watcher.kind watcher.events
    → list ≡ box_rows box
box_tallied box watcher list there is = is ∙ ap box_rows there

-- the box of a set as the log has it
with_kind : (kind : Option Kind) (events : List Event)
    → box_rows (option_map (λ k. record { kind = k; events = events }) kind) ≡ rows_if kind events
with_kind None events = refl
with_kind (Some kind) events = refl

chosen : (events : List Event) (sub : Option Sub)
    → option_and_then (box_with events) (option_map (λ s. s.act) sub)
    ≡ option_map (λ kind. record { kind = kind; events = events }) (option_and_then (λ s. called_kind s.act) sub)
chosen events None = refl
chosen events (Some sub) = refl

box_made : (plugin sub : ℕ) (spec : SetSpec) (p : Progress)
    → box_at sub (made_of plugin spec p) ≡ option_map (λ kind. record { kind = kind; events = heard_by p.walk sub }) (called_by spec sub)
box_made plugin sub spec p =
    ap (option_and_then (box_with (heard_by p.walk sub))) (slice_get-map (λ (s : Sub). s.act) spec.subs sub)
    ∙ chosen (heard_by p.walk sub) (slice_get spec.subs sub)

pub rows_made : (plugin sub : ℕ) (spec : SetSpec) (p : Progress)
    → box_rows (box_at sub (made_of plugin spec p)) ≡ rows_if (called_by spec sub) (heard_by p.walk sub)
rows_made plugin sub spec p = ap box_rows (box_made plugin sub spec p) ∙ with_kind (called_by spec sub) (heard_by p.walk sub)

some_kind : (kind : Option Kind) (events : List Event) → IsSome kind
    → IsSome {T = Heard} (option_map (λ k. record { kind = k; events = events }) kind)
some_kind None events there = absurd (false≢true there)
some_kind (Some kind) events there = refl

pub box_there : (plugin sub : ℕ) (spec : SetSpec) (p : Progress) → IsSome (called_by spec sub) → IsSome (box_at sub (made_of plugin spec p))
box_there plugin sub spec p there =
    subst (λ (o : Option Heard). IsSome o) (sym (box_made plugin sub spec p)) (some_kind (called_by spec sub) (heard_by p.walk sub) there)

-- The boxes of a subscription among all that came back.

abbrev box_back : ℕ → ℕ → Heard → Parked Heard
box_back h i b = record { hart = h; sub = i; watcher = b }

abbrev of_sub : ℕ → List (Parked Heard) → List (Parked Heard)
of_sub q boxes = filter (λ b. b.sub == q) boxes

skips : (box : Option Heard) (h i q : ℕ) (rest : List (Parked Heard)) → (i == q) ≡ false
    → of_sub q (cons_option (option_map (box_back h i) box) rest) ≡ of_sub q rest
skips None h i q rest off = refl
skips (Some box) h i q rest off = rw off refl

takes : (box : Option Heard) (h i q : ℕ) (rest : List (Parked Heard)) → (i == q) ≡ true → of_sub q rest ≡ []
    → of_sub q (cons_option (option_map (box_back h i) box) rest) ≡ cons_option (option_map (box_back h i) box) []
takes None h i q rest is none = none
takes (Some box) h i q rest is none = rw is (ap (λ (bs : List (Parked Heard)). box_back h i box ∷ bs) none)

abbrev boxes_in : (ℕ → Option Heard) → ℕ → ℕ → ℕ → List (Parked Heard)
boxes_in boxes h a n = filter_map (λ i. option_map (box_back h i) (boxes i)) (range_with_len a n)

passed : (boxes : ℕ → Option Heard) (h q a n : ℕ) → q < a → of_sub q (boxes_in boxes h a n) ≡ []
passed boxes h q a zero past = refl
passed boxes h q a (suc n) past =
    let off : (a == q) ≡ false = grind (arith, nat_tests, past) in
    skips (boxes a) h a q (boxes_in boxes h (a + 1) n) off ∙ passed boxes h q (a + 1) n (omega (arith, past))

found : (boxes : ℕ → Option Heard) (h q a n : ℕ) → a ≤ q → q < a + n
    → of_sub q (boxes_in boxes h a n) ≡ cons_option (option_map (box_back h q) (boxes q)) []
found boxes h q a zero least most = absurd (omega (arith, least, most))
found boxes h q a (suc n) least most =
    elim (cases_Bool (a == q)) [
      | inl own ↦
          let at : a ≡ q = grind (arith, nat_tests, own) in
          takes (boxes a) h a q (boxes_in boxes h (a + 1) n) own (passed boxes h q (a + 1) n (omega (arith, at)))
          ∙ ap (λ (i : ℕ). cons_option (option_map (box_back h i) (boxes i)) []) at
      | inr off ↦
          let above : a + 1 ≤ q = grind (arith, nat_tests, off, least) in
          skips (boxes a) h a q (boxes_in boxes h (a + 1) n) off ∙ found boxes h q (a + 1) n above (omega (arith, most))
    ]

some_within : (acts : List Act) (events : List Event) (k : ℕ) → IsSome (option_and_then (box_with events) (slice_get acts k))
    → k < length acts
some_within [] events k there = absurd (false≢true there)
some_within (act ∷ acts) events zero there = omega arith
some_within (act ∷ acts) events (suc k) there = omega (arith, some_within acts events k there)

abbrev tallied : List (Parked Heard) → List (List Row)
tallied boxes = map (λ b. rows b.watcher.kind b.watcher.events) boxes

one_row : (box : Option Heard) (h i : ℕ) → IsSome box → tallied (cons_option (option_map (box_back h i) box) []) ≡ box_rows box ∷ []
one_row None h i there = absurd (false≢true there)
one_row (Some box) h i there = refl

own_row : (a : Attachment) (h q : ℕ) → IsSome (box_at q a) → tallied (of_sub q (boxes_back h a)) ≡ box_rows (box_at q a) ∷ []
own_row a h q there =
    ap tallied (found (λ i. box_at i a) h q 0 (length a.acts) (omega arith)
    (omega (arith, some_within a.acts (slice_index_or a.heard q []) q there)))
    ∙ one_row (box_at q a) h q there

pub told_rows : (sets : ℕ → Attachment) (harts : List ℕ) (q : ℕ) → ((h : ℕ) → IsSome (box_at q (sets h)))
    → tallied (of_sub q (flat_map (λ h. boxes_back h (sets h)) harts)) ≡ map (λ h. box_rows (box_at q (sets h))) harts
told_rows sets [] q there = refl
told_rows sets (h ∷ harts) q there =
    let first = boxes_back h (sets h) in
    let others = flat_map (λ k. boxes_back k (sets k)) harts in
    ap tallied (filter-append (λ (b : Parked Heard). b.sub == q) first others)
    ∙ map-append (λ (b : Parked Heard). rows b.watcher.kind b.watcher.events) (of_sub q first) (of_sub q others)
    ∙ ap (λ (ls : List (List Row)). ls ++ tallied (of_sub q others)) (own_row (sets h) h q (there h))
    ∙ ap (λ (ls : List (List Row)). box_rows (box_at q (sets h)) ∷ ls) (told_rows sets harts q there)

-- `s` is the state's value, and `v` the value of its parts
module _ (s v : StateValue) (is : v ≡ s) (i : IsSound v) (plugin place sub : ℕ) where
  abbrev rows_for : ℕ → List Row
  rows_for h = rows_if (called_by (registered s plugin place) sub) (heard (task_run s.task) plugin place sub h s.past)

  abbrev made_rows : ℕ → ℕ → List Row
  made_rows k h = box_rows (box_at sub (set_made (task_run s.task) plugin k h s.past))

  all_rows : map (made_rows place) (harts_of (task_run s.task)) ≡ map rows_for (harts_of (task_run s.task))
  all_rows =
      let run = task_run s.task in
      let spec = set_at run plugin place s.past in
      map_same (made_rows place) rows_for 0 run.harts (λ h low high. rows_made plugin sub spec (progress run spec plugin place h s.past)
      ∙ ap (λ (sp : SetSpec). rows_if (called_by sp sub) (heard run plugin place sub h s.past)) (sym (spec_is s v is i plugin place)))

  module _ (calls : IsSome (called_by (registered s plugin place) sub)) where
    box_of : (h : ℕ) → IsSome (box_at sub (set_made (task_run s.task) plugin place h s.past))
    box_of h =
        let run = task_run s.task in
        let spec = set_at run plugin place s.past in
        box_there plugin sub spec (progress run spec plugin place h s.past)
        (subst (λ (sp : SetSpec). IsSome (called_by sp sub)) (spec_is s v is i plugin place) calls)

    -- a set that has ended, whose boxes are in a notice
    pub rows_told : (boxes : List (Parked Heard)) (lists : List (List Row))
        → boxes ≡ flat_map (λ h. boxes_back h (set_made (task_run s.task) plugin place h s.past)) (harts_of (task_run s.task))
        → lists ≡ tallied (of_sub sub boxes) → lists ≡ map rows_for (harts_of (task_run s.task))
    rows_told boxes lists has is_all =
        is_all ∙ ap (λ (bs : List (Parked Heard)). tallied (of_sub sub bs)) has
        ∙ told_rows (λ h. set_made (task_run s.task) plugin place h s.past) (harts_of (task_run s.task)) sub box_of ∙ all_rows

    -- the last set of a plug-in that is Live
    module _ (legal : Legal (task_run s.task) s.past) (low : place < length (sets_of s.registry.table plugin))
        (none : is_some (ending_of v.registry.table plugin place) ≡ false) where
      at : place ≡ last_set (plugins (task_run s.task) s.past) plugin
      at = is_last s v is i plugin place legal low none

      pub box_of_last : (h : ℕ) → IsSome (box_at sub (attachment_of (task_run s.task) plugin h s.past))
      box_of_last h = subst (λ (k : ℕ). IsSome (box_at sub (set_made (task_run s.task) plugin k h s.past))) at (box_of h)

      pub rows_of_last : (lists : List (List Row))
          → lists ≡ map (λ h. box_rows (box_at sub (attachment_of (task_run s.task) plugin h s.past))) (harts_of (task_run s.task))
          → lists ≡ map rows_for (harts_of (task_run s.task))
      rows_of_last lists is_all =
          is_all ∙ ap (λ (k : ℕ). map (made_rows k) (harts_of (task_run s.task))) (sym at) ∙ all_rows
