-- What a walk over the installs of a plan knows.
use Rattle.std.proofs.Common.{◌≡◌, ◌+◌, ◌<◌, ◌≤◌, ℕ, Bool, true, false, List, [], ◌∷◌, ◌++◌, length, get_or, take, map, Option, Some, None}
use Rattle.std.proofs.Common.{refl, ap, sym, subst, ◌∙◌, arith, ⊎_elim}
use Rattle.std.proofs.lemmas.Bool.{cases_lt}
use Rattle.std.proofs.lemmas.Bool.Decides.{nat_tests}
use Rattle.std.specs.Prelude.{◌↔◌, nat_lt, if◌then◌else◌, position, is_some, option_map}
use Rattle.std.specs.List.{range_with_len, position_or_len}
use Rattle.std.specs.Option.{option_and_then}
use Rattle.std.proofs.lemmas.List.{map_more, length_push}
use Rattle.std.proofs.lemmas.List.Sums.{position_or_len_is}
use Rattle.std.proofs.lemmas.List.FromFn.{get_or-range_with_len, length-range_with_len}
use Rattle.std.proofs.lemmas.Option.{slice_get_read}
use Rattle.flat_model.specs.declared.plugins.SetSpec.{SetSpec}
use Rattle.flat_model.specs.declared.journals.Item.{Item}
use Rattle.flat_model.specs.declared.journals.Entry.{Entry}
use Rattle.flat_model.specs.declared.journals.Order.TheVariants.{Install}
use Rattle.flat_model.specs.declared.orders.OrderRefusal.{OrderRefusal}
use Rattle.flat_model.specs.declared.limits.TheConstants.{RACK_BOXES}
use Rattle.flat_model.specs.Log.{log, log_from, with_entry}
use Rattle.flat_model.specs.Registry.{Plugins, no_plugins, registry, refusal, after_order}
use Rattle.plug_registry.specs.Installs.{start_order, after_installs, refusal_at, AreAllowed, first_refused}

-- the first k installs are allowed, and the registry is the one after them
pub record IsAt (harts : ℕ) (installs : List SetSpec) (k : ℕ) (r : Plugins) : Type 0 where
  pub allowed : (j : ℕ) → j < k → refusal_at harts installs j ≡ None
  pub table : r ≡ after_installs harts (take k installs)
  pub count : length r.plugins ≡ k

log_push : (past : List Item) (es : List Entry) (e : Entry) → log_from past (es ++ e ∷ []) ≡ with_entry e (log_from past es)
log_push past [] e = refl
log_push past (x ∷ es) e = log_push (with_entry x past) es e

placed_more : (harts : ℕ) (es : List Entry) (spec : SetSpec)
    → registry harts RACK_BOXES (log (es ++ start_order spec ∷ [])) ≡ after_order (Install spec) (registry harts RACK_BOXES (log es))
unfolding registry
placed_more harts es spec = ap (registry harts RACK_BOXES) (log_push [] es (start_order spec))

pub at_first : (harts : ℕ) (installs : List SetSpec) (r : Plugins) → r ≡ no_plugins harts RACK_BOXES → IsAt harts installs 0 r
unfolding registry
at_first harts installs r e = record { allowed = λ j lt. absurd (omega (arith, lt)); table = e; count = ap (λ p. length p.plugins) e }

-- the refusal of the next install is that of the registry at hand
there : (harts : ℕ) (installs : List SetSpec) (k : ℕ) (r : Plugins) (spec : SetSpec) → IsAt harts installs k r → k < length installs
    → spec ≡ get_or installs k spec → refusal_at harts installs k ≡ refusal r (Install spec)
unfolding refusal_at
there harts installs k r spec at lt is =
    ap (option_and_then (λ s. refusal (after_installs harts (take k installs)) (Install s))) (slice_get_read installs (length installs) k spec refl lt is)
    ∙ ap (λ p. refusal p (Install spec)) (sym at.table)

allowed_next : (f : ℕ → Option OrderRefusal) (k j : ℕ) → ((i : ℕ) → i < k → f i ≡ None) → f k ≡ None → j < k + 1 → f j ≡ None
allowed_next f k j before here below =
    ⊎_elim (λ less. before j less) (λ most. let same : k ≡ j = omega arith in subst (λ i. f i ≡ None) same here) (cases_lt j k)

pub at_next : (harts : ℕ) (installs : List SetSpec) (k : ℕ) (r next : Plugins) (spec : SetSpec) → IsAt harts installs k r → k < length installs
    → spec ≡ get_or installs k spec → None ≡ refusal r (Install spec) → next ≡ after_order (Install spec) r → IsAt harts installs (k + 1) next
at_next harts installs k r next spec at lt is allowed placed =
    let here = there harts installs k r spec at lt is ∙ sym allowed in
    let more : map start_order (take (k + 1) installs) ≡ map start_order (take k installs) ++ start_order spec ∷ [] =
    map_more start_order installs k spec lt ∙ ap (λ s. map start_order (take k installs) ++ start_order s ∷ []) (sym is) in
    let table : next ≡ after_installs harts (take (k + 1) installs) =
    placed ∙ ap (after_order (Install spec)) at.table ∙ sym (ap (λ es. registry harts RACK_BOXES (log es)) more ∙ placed_more harts (map start_order (take k installs)) spec) in
    let count : length next.plugins ≡ k + 1 = ap (λ p. length p.plugins) placed ∙ length_push r.plugins _ ∙ ap (λ n. n + 1) at.count in
    record { allowed = λ j below. allowed_next (refusal_at harts installs) k j at.allowed here below; table = table; count = count }

counted : (n j : ℕ) → j < n → get_or (range_with_len 0 n) j 0 ≡ j
counted n j lt = let same : 0 + j ≡ j = omega arith in get_or-range_with_len 0 n j 0 lt ∙ same

first_at : (p : ℕ → Bool) (n k : ℕ) → k < n → ((j : ℕ) → j < k → p j ≡ false) → p k ≡ true → position p (range_with_len 0 n) ≡ Some k
first_at p n k lt fails passes =
    let size = length-range_with_len 0 n in
    let at : position_or_len p (range_with_len 0 n) ≡ k = position_or_len_is p (range_with_len 0 n) k 0 (omega (arith, size))
    (λ j below. ap p (counted n j (omega arith)) ∙ fails j below)
    (λ _. ap p (counted n k lt) ∙ passes) in
    grind (arith, at, size)

not_below : (m n : ℕ) → n ≤ m → nat_lt m n ≡ false
not_below m n le = grind (arith, nat_tests)

none_at : (p : ℕ → Bool) (n : ℕ) → ((j : ℕ) → j < n → p j ≡ false) → position p (range_with_len 0 n) ≡ None
none_at p n fails =
    let size = length-range_with_len 0 n in
    let at : position_or_len p (range_with_len 0 n) ≡ n = position_or_len_is p (range_with_len 0 n) n 0 (omega (arith, size))
    (λ j below. ap p (counted n j below) ∙ fails j below)
    (λ within. absurd (omega (arith, size))) in
    let past = not_below (position_or_len p (range_with_len 0 n)) (length (range_with_len 0 n)) (omega (arith, at, size)) in
    ap (λ b. if b then Some (position_or_len p (range_with_len 0 n)) else None) past

pub refused_here : (harts : ℕ) (installs : List SetSpec) (k : ℕ) (r : Plugins) (spec : SetSpec) (why : OrderRefusal) → IsAt harts installs k r
    → k < length installs → spec ≡ get_or installs k spec → Some why ≡ refusal r (Install spec)
    → Some (length r.plugins, why) ≡ first_refused harts installs
unfolding first_refused
refused_here harts installs k r spec why at lt is refused =
    let here : refusal_at harts installs k ≡ Some why = there harts installs k r spec at lt is ∙ sym refused in
    let first = first_at (λ i. is_some (refusal_at harts installs i)) (length installs) k lt (λ j below. ap is_some (at.allowed j below)) (ap is_some here) in
    ap (λ n. Some (n, why)) at.count
    ∙ sym (ap (option_and_then (λ i. option_map (λ w. (i, w)) (refusal_at harts installs i))) first ∙ ap (option_map (λ w. (k, w))) here)

pub all_allowed : (harts : ℕ) (installs : List SetSpec) (k : ℕ) (r : Plugins) → IsAt harts installs k r → length installs ≤ k
    → None ≡ first_refused harts installs
unfolding first_refused
all_allowed harts installs k r at le =
    let none = none_at (λ i. is_some (refusal_at harts installs i)) (length installs) (λ j below. ap is_some (at.allowed j (omega arith))) in
    sym (ap (option_and_then (λ i. option_map (λ w. (i, w)) (refusal_at harts installs i))) none)

pub not_all_allowed : (harts : ℕ) (installs : List SetSpec) (k : ℕ) (r : Plugins) (spec : SetSpec) (why : OrderRefusal) → IsAt harts installs k r
    → k < length installs → spec ≡ get_or installs k spec → Some why ≡ refusal r (Install spec)
    → (found : ℕ × OrderRefusal) → (Some found ≡ None) ↔ AreAllowed harts installs
not_all_allowed harts installs k r spec why at lt is refused found =
    let none : (all : AreAllowed harts installs) → Some why ≡ None =
    λ all. refused ∙ sym (there harts installs k r spec at lt is) ∙ all k lt in
    (λ e. absurd cc, λ all. absurd (let h = none all in cc))

abbrev nothing : Option (ℕ × OrderRefusal)
nothing = None

pub each_allowed : (harts : ℕ) (installs : List SetSpec) (k : ℕ) (r : Plugins) → IsAt harts installs k r → length installs ≤ k
    → (nothing ≡ None) ↔ AreAllowed harts installs
each_allowed harts installs k r at le = (λ e i lt. at.allowed i (omega arith), λ all. refl)
