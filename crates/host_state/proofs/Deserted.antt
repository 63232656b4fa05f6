-- Where each hart has left or is parked, a parked hart is finished.
use Rattle.std.proofs.Common.{◌≡◌, ◌&&◌, ◌||◌, ◌<◌, ℕ, Bool, true, false, not, List, Option, Some, None, length}
use Rattle.std.proofs.Common.{refl, sym, ap, subst, ◌∙◌, arith, inl, inr, ◌⊎◌}
use Rattle.std.specs.Prelude.{is_some, slice_index_or, if◌then◌else◌}
use Rattle.std.specs.List.{list_all, range_with_len}
use Rattle.std.proofs.lemmas.Bool.{cases_Bool, false≢true}
use Rattle.std.proofs.lemmas.List.FromFn.{get_or-map-range_with_len, length-map-range_with_len}
use Rattle.flat_model.specs.declared.journals.Item.{Item}
use Rattle.flat_model.specs.World.{HartState, Start, Shared}
use Rattle.flat_model.specs.Worlds.{world, hart_of}
use Rattle.flat_model.specs.Registry.{has_left}
use Rattle.run_rules.specs.Guest.{plugins}
use Rattle.run_rules.specs.Legal.{is_idle, is_finished}
use Rattle.run_order.specs.InOrder.{Task, hart_kept, task_run}
use Rattle.rv_exec.specs.Sharing.{starts_of}
use Rattle.kept_order.proofs.Gone.{unstarted, left_is_finished}
use Rattle.kept_order.proofs.Ranges.{all_of}
use Rattle.host_state.specs.Idling.{is_out}
use Rattle.host_state.specs.State.{StateValue, IsSound}

idle_if : (ended over parked all : Bool) → over ≡ false → (ended || (over || (parked && all))) ≡ true → (parked || ended) ≡ true
idle_if ended true parked all quiet is = absurd (false≢true (sym quiet))
idle_if true false true all quiet is = refl
idle_if true false false all quiet is = refl
idle_if false false true all quiet is = refl
idle_if false false false all quiet is = is

finished_by : (ended over parked all : Bool) → parked ≡ true → (over ≡ false → all ≡ true) → (ended || (over || (parked && all))) ≡ true
finished_by true over parked all is rest = refl
finished_by false true parked all is rest = refl
finished_by false false true all is rest = rest refl
finished_by false false false all is rest = absurd (false≢true is)

has_left_if : (t : Task) (past : List Item) (h : ℕ) → is_some (hart_kept t past h) ≡ true → has_left (plugins (task_run t) past) h ≡ true
has_left_if t past h is =
    elim (cases_Bool (has_left (plugins (task_run t) past) h)) [
      | inl gone ↦ gone
      | inr there ↦
          let kept = λ (b : Bool). is_some (if b then Some (hart_of t.machine t.mode past h) else None) in
          absurd (false≢true (sym (ap kept there) ∙ is))
    ]

no_start : (o : Option Start) → not (is_some o) ≡ true → o ≡ None
no_start None is = refl
no_start (Some start) is = absurd (false≢true is)

either : (a b : Bool) → (a || b) ≡ true → (a ≡ true) ⊎ (b ≡ true)
either true b is = inl refl
either false b is = inr is

or_true : (a b : Bool) → a ≡ true → (a || b) ≡ true
or_true true b is = refl
or_true false b is = absurd (false≢true is)

-- a hart that is out, where the group hasn't ended, is idle
out_idle : (s : StateValue) → IsSound s → (h : ℕ) → h < s.task.machine.harts → is_out s.services.starts s.harts h ≡ true
    → is_some (world s.task.machine s.task.mode s.past).shared.group ≡ false → is_idle (task_run s.task) s.past h ≡ true
out_idle s sound h low out quiet =
    let t = s.task in
    let run = task_run t in
    let w = world t.machine t.mode s.past in
    let kept : slice_index_or s.harts h None ≡ hart_kept t s.past h =
    ap (λ (harts : List (Option HartState)). slice_index_or harts h None) sound.order.harts
    ∙ get_or-map-range_with_len (hart_kept t s.past) 0 t.machine.harts h h None low (omega arith) in
    let start : starts_of s.services h ≡ w.shared.starts h = ap (λ (x : Shared). x.starts h) sound.order.shared in
    elim (either (is_some (slice_index_or s.harts h None)) (not (is_some (starts_of s.services h))) out) [
      | inl there ↦
          let gone = has_left_if t s.past h (ap (λ (o : Option HartState). is_some o) (sym kept) ∙ there) in
          idle_if (run.guest.has_ended s.past h) (run.guest.is_over s.past) (run.guest.is_parked s.past h)
          (list_all (is_idle run s.past) (range_with_len 0 run.harts)) quiet (left_is_finished t h s.past low sound.order.legal gone)
      | inr none ↦
          let is : w.shared.starts h ≡ None = sym start ∙ no_start (starts_of s.services h) none in
          or_true (run.guest.is_parked s.past h) (run.guest.has_ended s.past h) (unstarted t.machine t.mode h s.past low is).parked
    ]

pub deserted : (s : StateValue) → IsSound s → ((h : ℕ) → h < length s.harts → is_out s.services.starts s.harts h ≡ true)
    → (h : ℕ) → h < s.task.machine.harts → (hart_of s.task.machine s.task.mode s.past h).parked ≡ true
    → is_finished (task_run s.task) h s.past ≡ true
deserted s sound out h low parked =
    let t = s.task in
    let run = task_run t in
    let count : length s.harts ≡ t.machine.harts =
    ap (λ (harts : List (Option HartState)). length harts) sound.order.harts ∙ length-map-range_with_len (hart_kept t s.past) 0
    t.machine.harts in
    finished_by (run.guest.has_ended s.past h) (run.guest.is_over s.past) (run.guest.is_parked s.past h)
    (list_all (is_idle run s.past) (range_with_len 0 run.harts)) parked
    (λ quiet. all_of (is_idle run s.past) 0 run.harts (λ k least most.
    let below : k < t.machine.harts = omega (arith, most) in
    out_idle s sound k below (out k (omega (arith, count))) quiet))

pub as_many : (s : StateValue) → IsSound s → length s.services.starts ≡ length s.harts
as_many s sound =
    sound.starts ∙ sym (ap (λ (harts : List (Option HartState)). length harts) sound.order.harts
    ∙ length-map-range_with_len (hart_kept s.task s.past) 0 s.task.machine.harts)

-- the same, where starts and harts were read from the state
pub deserted_in : (s : StateValue) → IsSound s → (starts : List (Option Start)) (harts : List (Option HartState))
    → starts ≡ s.services.starts → harts ≡ s.harts → ((h : ℕ) → h < length harts → is_out starts harts h ≡ true)
    → (h : ℕ) → h < s.task.machine.harts → (hart_of s.task.machine s.task.mode s.past h).parked ≡ true
    → is_finished (task_run s.task) h s.past ≡ true
deserted_in s sound starts harts e f out =
    let P : List (Option Start) × List (Option HartState) → Type 0 = λ y. (h : ℕ) → h < length y.1 → is_out y.0 y.1 h ≡ true in
    deserted s sound (subst P (λ i. (e i, f i)) out)
