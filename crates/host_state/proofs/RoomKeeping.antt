-- Each plug-in keeps its room while its set hasn't gone out.
use Rattle.std.proofs.Common.{◌≡◌, ◌≢◌, ◌==◌, ◌&&◌, ◌+◌, ◌-◌, ◌<◌, ◌≤◌, ◌∷◌, [], ◌++◌, ◌∙◌, ℕ, zero, suc, Bool, true, false, List}
use Rattle.std.proofs.Common.{refl, sym, ap, subst, arith, inl, inr, length}
use Rattle.std.proofs.Common.{get_or-set_same, get_or-set_other}
use Rattle.std.specs.Prelude.{if◌then◌else◌, slice_set, slice_index_or}
use Rattle.std.proofs.lemmas.Bool.{cases_Bool, false≢true}
use Rattle.std.proofs.lemmas.Bool.Decides.{nat_tests}
use Rattle.std.proofs.lemmas.List.{length-set, length-map, length_push}
use Rattle.flat_model.specs.declared.plugins.SetSpec.{SetSpec}
use Rattle.flat_model.specs.declared.journals.Item.{Item}
use Rattle.flat_model.specs.declared.journals.Item.TheVariants.{Step, Ordered, GaveBack, Left, Told, Got, Took}
use Rattle.flat_model.specs.declared.journals.Order.{Order}
use Rattle.flat_model.specs.declared.journals.Order.TheVariants.{Install, Register}
use Rattle.flat_model.specs.declared.journals.Origin.{Origin}
use Rattle.flat_model.specs.declared.journals.PlugState.{PlugState}
use Rattle.flat_model.specs.declared.journals.PlugState.TheVariants.{Live, Idle, Resetting, Leaving, Gone}
use Rattle.flat_model.specs.Log.{steps}
use Rattle.flat_model.specs.Registry.{registry, plugin_of, done_state, without_hart, is_closing, is_complete, has_left}
use Rattle.run_rules.specs.Guest.{Run, plugins}
use Rattle.run_rules.specs.Legal.{Legal}
use Rattle.run_rules.specs.Places.{Place, Nowhere, Waiting, WithHart, Parked, Out, IsStateLog}
use Rattle.run_rules.specs.Places.{place_of, got, given_back, left, taken, fits_in, fits}
use Rattle.run_rules.proofs.Fitting.{complete, installed_from, places_fit, number_is}
use Rattle.kept_order.specs.Ordering.{IsWithdrawal}
use Rattle.kept_order.proofs.Orders.{withdrawal_names, registers_none, same_long}
use Rattle.host_state.specs.Rooms.{Room, no_room, IsRoomFor, is_kept, HasRooms}

-- A set that is kept behind an item was kept before, where the item registers none.

abbrev Kept : Place → Type 0
Kept place = is_kept place ≡ true

given_back_kept : (place : Place) → Kept (given_back place) → Kept place
given_back_kept Nowhere is = is
given_back_kept Waiting is = refl
given_back_kept WithHart is = refl
given_back_kept Parked is = refl
given_back_kept Out is = is

got_kept : (place : Place) → Kept (got place) → Kept place
got_kept Nowhere is = is
got_kept Waiting is = refl
got_kept WithHart is = refl
got_kept Parked is = refl
got_kept Out is = is

left_kept : (place : Place) → Kept (left place) → Kept place
left_kept Nowhere is = is
left_kept Waiting is = refl
left_kept WithHart is = refl
left_kept Parked is = refl
left_kept Out is = is

moved_if : (f : Place → Place) → ((place : Place) → Kept (f place) → Kept place) → (test : Bool) (place : Place)
    → Kept (if test then f place else place) → Kept place
moved_if f keeps true place is = keeps place is
moved_if f keeps false place is = is

stays_kept : (place : Place) → Kept place → Kept place
stays_kept place is = is

told_kept : (test : Bool) (place : Place) → Kept (if test then Nowhere else place) → Kept place
told_kept true place is = absurd (false≢true is)
told_kept false place is = is

-- rooms stay where plug-ins are as many and no set is kept that wasn't
stay : (run : Run) (past now : List Item) (rooms : List Room) → length (plugins run now).plugins ≡ length (plugins run past).plugins
    → ((plugin h : ℕ) → 1 ≤ plugin → Kept (place_of run plugin h now) → Kept (place_of run plugin h past))
    → HasRooms run past rooms → HasRooms run now rooms
stay run past now rooms long keeps has = record {
  count = has.count ∙ sym long;
  each = λ plugin h one low is. has.each plugin h one low (keeps plugin h one is);
}

-- before any item there is none
pub no_rooms : (run : Run) → HasRooms run [] []
unfolding registry place_of
no_rooms run = record { count = refl; each = λ plugin h one low is. absurd (false≢true is) }

pub step_rooms : (run : Run) (h n : ℕ) (past : List Item) (rooms : List Room) → HasRooms run past rooms
    → HasRooms run (steps h n past) rooms
unfolding registry place_of
step_rooms run h zero past rooms has = has
step_rooms run h (suc n) past rooms has =
    stay run (steps h n past) (Step h ∷ steps h n past) rooms refl (λ plugin k one is. is) (step_rooms run h n past rooms has)

pub back_rooms : (run : Run) (h plugin : ℕ) (past : List Item) (rooms : List Room) → HasRooms run past rooms
    → HasRooms run (GaveBack h plugin ∷ past) rooms
unfolding registry place_of
back_rooms run h plugin past rooms has =
    let r = plugins run past in
    let p = plugin_of r plugin in
    stay run past (GaveBack h plugin ∷ past) rooms (length-set r.plugins (plugin - 1) (record p { owing = slice_set p.owing h false }))
    (λ q k one is. moved_if given_back given_back_kept ((h == k) && (plugin == q)) (place_of run q k past) is) has

pub left_rooms : (run : Run) (h : ℕ) (past : List Item) (rooms : List Room) → HasRooms run past rooms → HasRooms run (Left h ∷ past) rooms
unfolding registry place_of
left_rooms run h past rooms has =
    stay run past (Left h ∷ past) rooms (length-map (plugins run past).plugins (without_hart h))
    (λ q k one is. moved_if left left_kept (h == k) (place_of run q k past) is) has

pub got_rooms : (run : Run) (h plugin : ℕ) (past : List Item) (rooms : List Room) → HasRooms run past rooms
    → HasRooms run (Got h plugin ∷ past) rooms
unfolding registry place_of
got_rooms run h plugin past rooms has =
    stay run past (Got h plugin ∷ past) rooms refl
    (λ q k one is. moved_if got got_kept ((h == k) && (plugin == q)) (place_of run q k past) is) has

pub told_rooms : (run : Run) (party plugin : ℕ) (past : List Item) (rooms : List Room) → HasRooms run past rooms
    → HasRooms run (Told party plugin ∷ past) rooms
unfolding registry place_of
told_rooms run party plugin past rooms has =
    let r = plugins run past in
    let p = plugin_of r plugin in
    stay run past (Told party plugin ∷ past) rooms (length-set r.plugins (plugin - 1) (record p { state = done_state p.state }))
    (λ q k one is. told_kept (plugin == q) (place_of run q k past) is) has

pub withdrawn_rooms : (run : Run) (origin : Origin) (order : Order) (past : List Item) (rooms : List Room) → IsWithdrawal order
    → HasRooms run past rooms → HasRooms run (Ordered origin order ∷ past) rooms
unfolding registry place_of
withdrawn_rooms run origin order past rooms is has =
    stay run past (Ordered origin order ∷ past) rooms (same_long (plugins run past) order (withdrawal_names order is))
    (λ q k one kept. subst (λ (b : Bool). Kept (if b then Waiting else place_of run q k past))
    (registers_none (plugins run past) order q is) kept) has

-- Rooms with one more, for a plug-in that is installed.

append_other : (rooms : List Room) (x : Room) (i : ℕ) → i ≢ length rooms
    → slice_index_or (rooms ++ x ∷ []) i no_room ≡ slice_index_or rooms i no_room
append_other [] x zero off = absurd (off refl)
append_other [] x (suc i) off = refl
append_other (r ∷ rooms) x zero off = refl
append_other (r ∷ rooms) x (suc i) off = append_other rooms x i (λ e. off (ap suc e))

append_last : (rooms : List Room) (x : Room) (i : ℕ) → i ≡ length rooms → slice_index_or (rooms ++ x ∷ []) i no_room ≡ x
append_last [] x zero at = refl
append_last [] x (suc i) at = absurd (omega (arith, at))
append_last (r ∷ rooms) x zero at = absurd (omega (arith, at))
append_last (r ∷ rooms) x (suc i) at = append_last rooms x i (omega (arith, at))

pub install_rooms : (run : Run) (origin : Origin) (spec : SetSpec) (past : List Item) (rooms : List Room) (room : Room)
    → IsRoomFor run.harts room → HasRooms run past rooms → HasRooms run (Ordered origin (Install spec) ∷ past) (rooms ++ room ∷ [])
unfolding registry place_of
install_rooms run origin spec past rooms room fits has =
    let r = plugins run past in
    let now = Ordered origin (Install spec) ∷ past in
    record {
      count = length_push rooms room ∙ ap (λ (n : ℕ). n + 1) has.count ∙ sym (length_push r.plugins _);
      each = λ plugin h one low is. elim (cases_Bool ((length r.plugins + 1) == plugin)) [
        | inl own ↦
            subst (IsRoomFor run.harts)
            (sym (append_last rooms room (plugin - 1) (omega (arith, has.count, number_is (length r.plugins + 1) plugin own)))) fits
        | inr off ↦
            let apart : (plugin - 1) ≢ length rooms = grind (arith, nat_tests, off, one, has.count) in
            subst (IsRoomFor run.harts) (sym (append_other rooms room (plugin - 1) apart))
            (has.each plugin h one low
            (subst (λ (b : Bool). Kept (if b then Waiting else place_of run plugin h past)) off is))
      ];
    }

-- A plug-in that registers a set more is given room again.

pub register_rooms : (run : Run) (origin : Origin) (plugin : ℕ) (spec : SetSpec) (past : List Item) (rooms : List Room) (room : Room)
    → 1 ≤ plugin → plugin - 1 < length rooms → IsRoomFor run.harts room → HasRooms run past rooms
    → HasRooms run (Ordered origin (Register plugin spec) ∷ past) (slice_set rooms (plugin - 1) room)
unfolding registry place_of
register_rooms run origin plugin spec past rooms room from within fits has = record {
  count = length-set rooms (plugin - 1) room ∙ has.count ∙ sym (same_long (plugins run past) (Register plugin spec) tt);
  each = λ q h one low is. elim (cases_Bool (plugin == q)) [
    | inl own ↦
        subst (λ (k : ℕ). IsRoomFor run.harts (slice_index_or (slice_set rooms (plugin - 1) room) (k - 1) no_room)) (number_is plugin q own)
        (subst (IsRoomFor run.harts) (sym (get_or-set_same rooms (plugin - 1) room no_room within)) fits)
    | inr off ↦
        let apart : (q - 1) ≢ (plugin - 1) = grind (arith, nat_tests, off, one, from) in
        subst (IsRoomFor run.harts) (sym (get_or-set_other rooms (plugin - 1) (q - 1) room no_room apart))
        (has.each q h one low (subst (λ (b : Bool). Kept (if b then Waiting else place_of run q h past)) off is))
  ];
}

-- A closing takes the room of its plug-in.

taken_kept : (place : Place) → Kept (taken place) → place ≡ WithHart
taken_kept Nowhere is = absurd (false≢true is)
taken_kept Waiting is = absurd (false≢true is)
taken_kept WithHart is = refl
taken_kept Parked is = absurd (false≢true is)
taken_kept Out is = absurd (false≢true is)

owed_by_none : (state : PlugState) (gone : Bool) → is_closing state ≡ true → fits WithHart state false gone ≡ true → ⊥
owed_by_none Live gone closing fit = absurd (false≢true closing)
owed_by_none Idle gone closing fit = absurd (false≢true closing)
owed_by_none Resetting gone closing fit = absurd (false≢true fit)
owed_by_none Leaving gone closing fit = absurd (false≢true fit)
owed_by_none Gone gone closing fit = absurd (false≢true closing)

-- no hart has the set of a plug-in that is complete
with_no_hart : (run : Run) (plugin h : ℕ) (past : List Item) → h < run.harts → Legal run past → IsStateLog run past
    → is_complete (plugins run past) plugin ≡ true → place_of run plugin h past ≢ WithHart
with_no_hart run plugin h past low legal state is there =
    let r = plugins run past in
    let c = complete r plugin h is in
    let fit : fits_in r (place_of run plugin h past) plugin h ≡ true =
    places_fit run plugin h past (installed_from r plugin c.0) low legal state in
    owed_by_none (plugin_of r plugin).state (has_left r h) c.1
    (ap (λ (b : Bool). fits WithHart (plugin_of r plugin).state b (has_left r h)) (sym c.2)
    ∙ ap (λ (q : Place). fits_in r q plugin h) (sym there) ∙ fit)

pub took_rooms : (run : Run) (party plugin : ℕ) (past : List Item) (rooms left : List Room) → Legal run past → IsStateLog run past
    → is_complete (plugins run past) plugin ≡ true → length left ≡ length rooms
    → ((k : ℕ) → k ≢ (plugin - 1) → slice_index_or left k no_room ≡ slice_index_or rooms k no_room)
    → HasRooms run past rooms → HasRooms run (Took party plugin ∷ past) left
unfolding registry place_of
took_rooms run party plugin past rooms left legal state is long others has =
    let one = installed_from (plugins run past) plugin (complete (plugins run past) plugin 0 is).0 in
    record {
      count = long ∙ has.count;
      each = λ q h from low kept. elim (cases_Bool (plugin == q)) [
        | inl own ↦
            let same : plugin ≡ q = number_is plugin q own in
            let here : Kept (taken (place_of run q h past)) =
            subst (λ (b : Bool). Kept (if b then taken (place_of run q h past) else place_of run q h past)) own kept in
            absurd (with_no_hart run plugin h past low legal state is
            (ap (λ (k : ℕ). place_of run k h past) same ∙ taken_kept (place_of run q h past) here))
        | inr off ↦
            let apart : (q - 1) ≢ (plugin - 1) = grind (arith, nat_tests, off, one, from) in
            subst (IsRoomFor run.harts) (sym (others (q - 1) apart))
            (has.each q h from low
            (subst (λ (b : Bool). Kept (if b then taken (place_of run q h past) else place_of run q h past)) off kept))
      ];
    }
