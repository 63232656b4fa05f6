-- What caches were touched at, after one event more.
use Rattle.std.proofs.Common.{◌≡◌, ℕ, zero, suc, ◌<◌, ◌==◌, Bool, true, false, cond, if◌then◌else◌, List, [], ◌∷◌, ◌++◌, length, map}
use Rattle.std.proofs.Common.{slice_get, slice_set, slice_index_or, take, Some, refl, sym, ap, ◌∙◌, append-nil, arith}
use Rattle.std.specs.List.{filter, flat_map}
use Rattle.std.specs.Prelude.{Result, Ok, Err, OnErr}
use Rattle.std.proofs.lemmas.Bool.Decides.{nat_tests}
use Rattle.std.proofs.lemmas.Grind.{flat_map-append}
use Rattle.std.proofs.lemmas.List.Elements.{filter-append}
use Rattle.std.proofs.lemmas.List.{take_all, length-map}
use Rattle.std.specs.List.{All}
use Rattle.flat_model.specs.declared.events.Event.{Event}
use Rattle.flat_model.specs.declared.events.What.{What}
use Rattle.flat_model.specs.declared.events.What.TheVariants as what
use Rattle.cache_model.specs.Hits.{Shape}
use Rattle.cache_model.specs.Touches.{touched_by, touches, touches_of}
use Rattle.cache_model.proofs.Sets.{at_place}
use Rattle.cache_model.specs.Studies.{Touched, Studied, with_touches, behind_hart, with_lines, IsOf}

get-behind : (h k : ℕ) (lines : List ℕ) (harts : List (List ℕ)) (own : List ℕ) → slice_get harts k ≡ Some own
    → slice_get (behind_hart h lines harts) k ≡ Some (own ++ (if h == k then lines else []))
get-behind h k lines [] own at = cc
get-behind zero zero lines (x ∷ harts) own at = let is : x ≡ own = cc in ap (λ ls. Some (ls ++ lines)) is
get-behind zero (suc k) lines (x ∷ harts) own at =
    let other : (zero == suc k) ≡ false = grind (arith, nat_tests) in rw other (rw (append-nil own) at)
get-behind (suc h) zero lines (x ∷ harts) own at =
    let other : (suc h == zero) ≡ false = grind (arith, nat_tests) in rw other (rw (append-nil own) at)
get-behind (suc h) (suc k) lines (x ∷ harts) own at =
    let less : (suc h == suc k) ≡ (h == k) = grind (arith, nat_tests) in rw less (get-behind h k lines harts own at)

pub length-behind : (h : ℕ) (lines : List ℕ) (harts : List (List ℕ)) → length (behind_hart h lines harts) ≡ length harts
length-behind h lines [] = refl
length-behind zero lines (own ∷ harts) = refl
length-behind (suc h) lines (own ∷ harts) = ap suc (length-behind h lines harts)

behind-none : (h : ℕ) (harts : List (List ℕ)) → behind_hart h [] harts ≡ harts
behind-none h [] = refl
behind-none zero (own ∷ harts) = ap (λ ls. ls ∷ harts) (append-nil own)
behind-none (suc h) (own ∷ harts) = ap (λ rest. own ∷ rest) (behind-none h harts)

-- an event that touches nothing leaves all as it was
pub with-none : (studied : Studied) (h : ℕ) → with_lines studied h [] [] ≡ studied
with-none studied h =
    let first = λ (harts : List (List ℕ)). let s : Studied = record studied { harts = harts; shared = studied.shared ++ [] } in s in
    let second = λ (shared : List ℕ). let s : Studied = record studied { shared = shared } in s in
    ap first (behind-none h studied.harts) ∙ ap second (append-nil studied.shared)

one_touches : (line k : ℕ) (e : Event)
    → flat_map (λ (e : Event). touched_by line e.what) (cond (e.hart == k) (e ∷ []) [])
    ≡ (if e.hart == k then touched_by line e.what else [])
one_touches line k e = elim (e.hart == k) as (λ y. flat_map (λ (e : Event). touched_by line e.what) (cond y (e ∷ []) [])
    ≡ (if y then touched_by line e.what else [])) [ true ↦ append-nil (touched_by line e.what) | false ↦ refl ]

touches_of-push : (line k : ℕ) (events : List Event) (e : Event)
    → touches_of line k (events ++ e ∷ []) ≡ touches_of line k events ++ (if e.hart == k then touched_by line e.what else [])
touches_of-push line k events e =
    let told : Event → List ℕ = λ e. touched_by line e.what in
    let own : Event → Bool = λ e. e.hart == k in
    ap (flat_map told) (filter-append own events (e ∷ []))
    ∙ flat_map-append told (filter own events) (filter own (e ∷ []))
    ∙ ap (λ ls. touches_of line k events ++ ls) (one_touches line k e)

touches-push : (line : ℕ) (events : List Event) (e : Event)
    → touches line (events ++ e ∷ []) ≡ touches line events ++ touched_by line e.what
touches-push line events e =
    flat_map-append (λ (e : Event). touched_by line e.what) events (e ∷ [])
    ∙ ap (λ ls. touches line events ++ ls) (append-nil (touched_by line e.what))

-- an event more
pub is_of_more : (events : List Event) (old : Studied) (e : Event) → IsOf events old
    → IsOf (events ++ e ∷ []) (with_lines old e.hart (touched_by old.shape.line e.what) (touched_by old.shape.line e.what))
is_of_more events old e is = let line = old.shape.line in record {
  harts = λ k within.
      let there : k < length old.harts = rw (length-behind e.hart (touched_by line e.what) old.harts) at within in
      get-behind e.hart k (touched_by line e.what) old.harts (touches_of line k events) (is.harts k there)
      ∙ ap Some (sym (touches_of-push line k events e));
  shared = ap (λ ls. ls ++ touched_by line e.what) is.shared ∙ sym (touches-push line events e);
}

-- the cache of a hart, among all
pub touches-set : (all : List Touched) (h : ℕ) (own new : Touched) (lines : List ℕ)
    → slice_get all h ≡ Some own → new ≡ with_touches own lines
    → map (λ c. c.touches) (slice_set all h new) ≡ behind_hart h lines (map (λ c. c.touches) all)
touches-set [] h own new lines at is = cc
touches-set (x ∷ all) zero own new lines at is =
    let first : x ≡ own = cc in
    ap (λ (c : Touched). c.touches ∷ map (λ (c : Touched). c.touches) all) is
    ∙ ap (λ (c : Touched). (c.touches ++ lines) ∷ map (λ (c : Touched). c.touches) all) (sym first)
touches-set (x ∷ all) (suc h) own new lines at is = ap (λ rest. x.touches ∷ rest) (touches-set all h own new lines at is)

-- what caches show
abbrev pub shown : List Touched → Touched → Studied
shown all shared = record { shape = shared.shape; harts = map (λ c. c.touches) all; shared = shared.touches }

pub gained : (all : List Touched) (shared : Touched) (now : Studied) (h : ℕ) (own new new_shared : Touched) (lines more : List ℕ)
    → shown all shared ≡ now → slice_get all h ≡ Some own → new ≡ with_touches own lines → new_shared ≡ with_touches shared more
    → shown (slice_set all h new) new_shared ≡ with_lines now h lines more
gained all shared now h own new new_shared lines more shows at is is_shared =
    ap (shown (slice_set all h new)) is_shared
    ∙ ap (λ (harts : List (List ℕ)). let s : Studied = record { shape = shared.shape; harts = harts; shared = shared.touches ++ more } in s)
    (touches-set all h own new lines at is)
    ∙ ap (λ (s : Studied). with_lines s h lines more) shows

-- the cache of hart h and the shared one are touched, each at lines that go by the size of a line
pub accessed : (all : List Touched) (shared : Touched) (now : Studied) (h : ℕ) (own new new_shared : Touched) (lines more : ℕ → List ℕ)
    → shown all shared ≡ now → All (λ c. c.shape ≡ shared.shape) all → h < length now.harts → own ≡ slice_index_or all h own
    → new ≡ with_touches own (lines own.shape.line) → new_shared ≡ with_touches shared (more shared.shape.line)
    → shown (slice_set all h new) new_shared ≡ with_lines now h (lines now.shape.line) (more now.shape.line)
accessed all shared now h own new new_shared lines more shows alike one_of read is is_shared =
    let as_many : length all ≡ length now.harts =
    sym (length-map all (λ (c : Touched). c.touches)) ∙ ap (λ (s : Studied). length s.harts) shows in
    let within : h < length all = omega arith in
    let shared_shape : shared.shape ≡ now.shape = ap (λ (s : Studied). s.shape) shows in
    let own_shape : own.shape ≡ now.shape = ap (λ (t : Touched). t.shape) read ∙ alike h own within ∙ shared_shape in
    gained all shared now h own new new_shared (lines now.shape.line) (more now.shape.line) shows (at_place all h own within read)
    (is ∙ ap (λ (s : Shape). with_touches own (lines s.line)) own_shape)
    (is_shared ∙ ap (λ (s : Shape). with_touches shared (more s.line)) shared_shape)

pub on_err : {X E P : Type 0} (r : Result X E) → P → OnErr r P
on_err (Ok x) fact = tt
on_err (Err e) fact = fact

-- a cache that isn't touched
pub untouched : (cache : Touched) (lines : List ℕ) → cache ≡ with_touches cache (take zero lines)
untouched cache lines =
    ap (λ (ls : List ℕ). let t : Touched = record cache { touches = ls } in t) (sym (append-nil cache.touches))

pub in_full : (cache new : Touched) (lines : List ℕ) → new ≡ with_touches cache lines → new ≡ with_touches cache (take (length lines) lines)
in_full cache new lines is = is ∙ ap (with_touches cache) (sym (take_all (length lines) lines (omega arith)))

-- events without an access
pub quiet : (line : ℕ) (event : What)
    → ((pc addr shift : ℕ) (signed : Bool) (rw read written : ℕ) → event ≡ what.Mem pc addr shift signed rw read written → ⊥)
    → touched_by line event ≡ []
quiet line (what.Mem pc addr shift signed rw read written) other = absurd (other pc addr shift signed rw read written refl)
quiet line _ other = refl

pub quietly : (now : Studied) (h line : ℕ) (event : What) → touched_by line event ≡ []
    → now ≡ with_lines now h (touched_by line event) (touched_by line event)
quietly now h line event none = rw none (sym (with-none now h))

-- caches in which nothing was touched
pub none_touched : (all : List Touched) → All (λ c. c.touches ≡ []) all → (h : ℕ) → h < length (map (λ (c : Touched). c.touches) all)
    → slice_get (map (λ (c : Touched). c.touches) all) h ≡ Some []
none_touched [] fresh h within = absurd (omega (arith, within))
none_touched (x ∷ all) fresh zero within = ap Some (fresh zero x (omega arith))
none_touched (x ∷ all) fresh (suc h) within =
    none_touched all (λ k d below. fresh (suc k) d (omega (arith, below))) h (omega (arith, within))
