-- The boxes of a set's acts, as they are parked one after the other.
use Rattle.std.proofs.Common.{◌≡◌, ◌+◌, ◌≤◌, ◌∷◌, [], ◌++◌, ◌∙◌, ℕ, zero, suc, Bool, true, List, Option, Some, None}
use Rattle.std.proofs.Common.{refl, sym, ap, subst, arith, length, map, append_assoc, append-nil, length-append, cond}
use Rattle.std.specs.Prelude.{slice_get, slice_index_or, option_map, option_and_then, is_some}
use Rattle.std.specs.List.{cons_option, filter_map, range_with_len}
use Rattle.std.proofs.lemmas.List.{length-map, nil_from_length}
use Rattle.std.proofs.lemmas.List.Sums.{sum_by-cons}
use Rattle.flat_model.specs.declared.events.Event.{Event}
use Rattle.flat_model.specs.declared.plugins.Act.{Act}
use Rattle.flat_model.specs.declared.plugins.Act.TheVariants as act
use Rattle.flat_model.specs.declared.plugins.Sub.{Sub}
use Rattle.flat_model.specs.Acts.{calls, calling}
use Rattle.watcher_api.specs.declared.closers.Parked.{Parked}
use Rattle.watcher_api.specs.declared.held_acts.HeldAct.{HeldAct}
use Rattle.watcher_api.specs.declared.held_acts.HeldAct.TheVariants.{Call, Inline, Cond}
use Rattle.watcher_api.specs.Attachment.{Attachment, box_with}
use Rattle.watcher_api.specs.HeldActs.{act_of, heard_of}
use Rattle.watcher_api.specs.Heard.{Heard}
use Rattle.run_order.specs.Sets.{boxes_back}
use Rattle.host_state.specs.Closing.{box_of, parked_box, boxes_in}

cons_append : {A : Type 0} (o : Option A) (xs : List A) → cons_option o xs ≡ cons_option o [] ++ xs
cons_append None xs = refl
cons_append (Some x) xs = refl

-- one act more is done
pub boxes_next : (h i : ℕ) (x : HeldAct Heard) (acts rest : List (HeldAct Heard)) (old new all : List (Parked Heard)) → acts ≡ x ∷ rest
    → new ≡ old ++ cons_option (option_map (parked_box h i) (box_of x)) [] → old ++ boxes_in h i acts ≡ all
    → new ++ boxes_in h (i + 1) rest ≡ all
boxes_next h i x acts rest old new all is more last =
    let one = cons_option (option_map (parked_box h i) (box_of x)) [] in
    ap (λ (bs : List (Parked Heard)). bs ++ boxes_in h (i + 1) rest) more
    ∙ append_assoc old one (boxes_in h (i + 1) rest)
    ∙ ap (λ (bs : List (Parked Heard)). old ++ bs) (sym (cons_append (option_map (parked_box h i) (box_of x)) (boxes_in h (i + 1) rest)))
    ∙ ap (λ (xs : List (HeldAct Heard)). old ++ boxes_in h i xs) (sym is) ∙ last

some_more : (h i : ℕ) (o : Option Heard) (bs : List (Parked Heard)) → is_some o ≡ true
    → 1 ≤ length (cons_option (option_map (parked_box h i) o) bs)
some_more h i None bs some = absurd cc
some_more h i (Some b) bs some = omega arith

-- a box that comes next has its place
pub box_next : (h i : ℕ) (x : HeldAct Heard) (acts rest : List (HeldAct Heard)) → acts ≡ x ∷ rest → is_some (box_of x) ≡ true
    → 1 ≤ length (boxes_in h i acts)
box_next h i x acts rest is some =
    subst (λ (xs : List (HeldAct Heard)). 1 ≤ length (boxes_in h i xs)) (sym is) (some_more h i (box_of x) (boxes_in h (i + 1) rest) some)

-- and then none is left
pub boxes_last : (h i n : ℕ) (acts : List (HeldAct Heard)) (boxes all : List (Parked Heard)) → n ≡ length acts → n ≡ 0
    → boxes ++ boxes_in h i acts ≡ all → boxes ≡ all
boxes_last h i n acts boxes all long none last =
    sym (append-nil boxes)
    ∙ ap (λ (xs : List (HeldAct Heard)). boxes ++ boxes_in h i xs) (sym (nil_from_length acts (sym long ∙ none))) ∙ last

pub long_as : (xs others ys rest : List (Parked Heard)) → xs ++ ys ≡ others ++ rest → length xs + length ys ≡ length others + length rest
long_as xs others ys rest same =
    sym (length-append xs ys) ∙ ap (λ (bs : List (Parked Heard)). length bs) same ∙ length-append others rest

-- The boxes of acts are those of the set.

box_is : (x : HeldAct Heard) → box_with (heard_of x) (act_of x) ≡ box_of x
box_is (Call watcher) = refl
box_is (Inline op entry imm) = refl
box_is (Cond cond entry imm then_store watcher) = refl

-- the box of an act at an index
box_held : (held : List (HeldAct Heard)) (k : ℕ)
    → option_and_then (box_with (slice_index_or (map heard_of held) k [])) (slice_get (map act_of held) k)
    ≡ option_and_then box_of (slice_get held k)
box_held [] k = refl
box_held (x ∷ xs) zero = box_is x
box_held (x ∷ xs) (suc k) = box_held xs k

gathered : (h i : ℕ) (f : ℕ → Option Heard) (held : List (HeldAct Heard))
    → ((k : ℕ) → f (i + k) ≡ option_and_then box_of (slice_get held k))
    → filter_map (λ j. option_map (parked_box h j) (f j)) (range_with_len i (length held)) ≡ boxes_in h i held
gathered h i f [] same = refl
gathered h i f (x ∷ xs) same =
    ap (λ (o : Option Heard). cons_option (option_map (parked_box h i) o)
    (filter_map (λ j. option_map (parked_box h j) (f j)) (range_with_len (i + 1) (length xs))))
    (ap f {x = i} {y = i + 0} (omega arith) ∙ same 0)
    ∙ ap (cons_option (option_map (parked_box h i) (box_of x)))
    (gathered h (i + 1) f xs (λ k. ap f {x = i + 1 + k} {y = i + suc k} (omega arith) ∙ same (suc k)))

pub as_many : (a : Attachment) (held : List (HeldAct Heard)) → map act_of held ≡ a.acts → length held ≡ length a.acts
as_many a held acts = sym (length-map held act_of) ∙ ap (λ (xs : List Act). length xs) acts

abbrev box_from : List Act → List (List Event) → ℕ → Option Heard
box_from acts heard i = option_and_then (box_with (slice_index_or heard i [])) (slice_get acts i)

abbrev back_from : ℕ → List Act → List (List Event) → ℕ → List (Parked Heard)
back_from h acts heard n = filter_map (λ i. option_map (parked_box h i) (box_from acts heard i)) (range_with_len 0 n)

pub boxes_are : (h : ℕ) (a : Attachment) (held : List (HeldAct Heard)) → map act_of held ≡ a.acts → map heard_of held ≡ a.heard
    → boxes_in h 0 held ≡ boxes_back h a
boxes_are h a held acts heard =
    sym (gathered h 0 (box_from (map act_of held) (map heard_of held)) held
    (λ k. ap (box_from (map act_of held) (map heard_of held)) {x = 0 + k} {y = k} (omega arith) ∙ box_held held k))
    ∙ ap (λ (n : ℕ). back_from h (map act_of held) (map heard_of held) n) (as_many a held acts)
    ∙ ap (λ (xs : List Act). back_from h xs (map heard_of held) (length a.acts)) acts
    ∙ ap (λ (es : List (List Event)). back_from h a.acts es (length a.acts)) heard

-- A set has no more boxes than its subscriptions call.

kind_called : (events : List Event) (a : Act) → is_some (box_with events a) ≡ calls a
kind_called events (act.Call kind) = refl
kind_called events (act.Inline op entry imm) = refl
kind_called events (act.Cond cond entry imm then_store kind) = refl

one_at_most : (h i : ℕ) (o : Option Heard) (called : Bool) (bs : List (Parked Heard)) (n : ℕ) → is_some o ≡ called → length bs ≤ n
    → length (cons_option (option_map (parked_box h i) o) bs) ≤ cond called 1 0 + n
one_at_most h i None called bs n is few = subst (λ (b : Bool). length bs ≤ cond b 1 0 + n) is (omega (arith, few))
one_at_most h i (Some w) called bs n is few = subst (λ (b : Bool). length (parked_box h i w ∷ bs) ≤ cond b 1 0 + n) is (omega (arith, few))

few_boxes : (h i : ℕ) (f : ℕ → Option Heard) (events : ℕ → List Event) (subs : List Sub)
    → ((k : ℕ) → f (i + k) ≡ option_and_then (box_with (events (i + k))) (slice_get (map (λ s. s.act) subs) k))
    → length (filter_map (λ j. option_map (parked_box h j) (f j)) (range_with_len i (length (map (λ s. s.act) subs)))) ≤ calling subs
few_boxes h i f events [] same = omega arith
few_boxes h i f events (s ∷ subs) same =
    rw (sum_by-cons (λ (x : Sub). cond (calls x.act) 1 0) s subs)
    (one_at_most h i (f i) (calls s.act) _ (calling subs)
    (ap is_some (ap f {x = i} {y = i + 0} (omega arith) ∙ same 0) ∙ kind_called (events (i + 0)) s.act)
    (few_boxes h (i + 1) f events subs
    (λ k. ap f {x = i + 1 + k} {y = i + suc k} (omega arith) ∙ same (suc k)
    ∙ ap (λ (j : ℕ). option_and_then (box_with (events j)) (slice_get (map (λ s. s.act) subs) k))
    {x = i + suc k} {y = i + 1 + k} (omega arith))))

pub boxes_are_few : (h : ℕ) (a : Attachment) (subs : List Sub) → a.acts ≡ map (λ s. s.act) subs → length (boxes_back h a) ≤ calling subs
boxes_are_few h a subs acts =
    subst (λ (xs : List Act). length (back_from h xs a.heard (length xs)) ≤ calling subs) (sym acts)
    (few_boxes h 0 (box_from (map (λ s. s.act) subs) a.heard) (λ i. slice_index_or a.heard i []) subs
    (λ k. ap (λ (j : ℕ). option_and_then (box_with (slice_index_or a.heard j [])) (slice_get (map (λ s. s.act) subs) j))
    {x = 0 + k} {y = k} (omega arith)
    ∙ ap (λ (j : ℕ). option_and_then (box_with (slice_index_or a.heard j [])) (slice_get (map (λ s. s.act) subs) k)) {x = k} {y = 0 + k}
    (omega arith)))
