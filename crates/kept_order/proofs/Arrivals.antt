-- Sets that wait for harts, with their filters.
use Rattle.std.proofs.Common.{◌≡◌, ◌==◌, ◌&&◌, ◌+◌, ◌-◌, ◌<◌, ◌≤◌, ◌∷◌, [], ◌++◌, ◌∙◌, ℕ, zero, suc, Bool, true, false, List}
use Rattle.std.proofs.Common.{Option, Some, None, refl, sym, ap, arith, length, map}
use Rattle.std.specs.Prelude.{if◌then◌else◌, slice_index_or, slice_set}
use Rattle.std.specs.List.{range_with_len}
use Rattle.std.proofs.lemmas.Bool.{and_left, and_right}
use Rattle.std.proofs.lemmas.Bool.Decides.{nat_tests}
use Rattle.std.proofs.lemmas.List.{length-append, length-map, map-append}
use Rattle.flat_model.specs.declared.plugins.SetSpec.{SetSpec}
use Rattle.flat_model.specs.declared.journals.Item.{Item}
use Rattle.flat_model.specs.declared.journals.Item.TheVariants.{Ordered, Left, Got}
use Rattle.flat_model.specs.declared.journals.Order.TheVariants.{Install}
use Rattle.flat_model.specs.declared.journals.Origin.{Origin}
use Rattle.flat_model.specs.Log.{steps}
use Rattle.flat_model.specs.Registry.{registry, plugin_of, sets_of, without_hart}
use Rattle.run_rules.specs.Guest.{Run, plugins}
use Rattle.run_rules.specs.Heard.{no_set, is_live, last_set, set_at}
use Rattle.run_rules.specs.Due.{allowed}
use Rattle.run_rules.specs.Legal.{Legal, is_there}
use Rattle.run_rules.specs.Places.{Place, Waiting, WithHart, place_of, is_waiting, is_with_hart, registers, got}
use Rattle.run_rules.proofs.Growing.{fresh}
use Rattle.run_rules.proofs.Keeping.{left_sets, order_sets}
use Rattle.run_rules.proofs.Turns.{rest_true}
use Rattle.run_order.proofs.Shelves.{map_same}
use Rattle.run_order.proofs.Installing.{range_more, map_one, new_sets}
use Rattle.run_order.proofs.Taking.{map_set, map_at, waiting_is, off_place, own_place}
use Rattle.run_order.proofs.Leaving.{same_waiting}
use Rattle.kept_order.specs.Hearing.{specs_for}
use Rattle.kept_order.specs.Arriving.{arrival_at, arrivals, ArrivalsStay, InstallsArrive, TakesArrive}
use Rattle.kept_order.proofs.Numbered.{all_given, one_more}

-- the set that a plug-in registered last
abbrev pub last_spec : List SetSpec → SetSpec
last_spec sets = slice_index_or sets (length sets - 1) no_set

abbrev spec_of : Run → List Item → ℕ → SetSpec
spec_of run past plugin = set_at run plugin (last_set (plugins run past) plugin) past

abbrev row : Run → List Item → ℕ → List (Option SetSpec)
row run past plugin = map (arrival_at run past plugin) (range_with_len 0 run.harts)

-- a place with the same sets, where the set waits as before
pub same_arrival : (run : Run) (past now : List Item) (p j : ℕ) → sets_of (plugins run now) p ≡ sets_of (plugins run past) p
    → is_waiting (place_of run p j now) ≡ is_waiting (place_of run p j past) → arrival_at run now p j ≡ arrival_at run past p j
same_arrival run past now p j sets waits =
    ap (λ (b : Bool). if b then Some (spec_of run now p) else None) waits
    ∙ ap (λ (ss : List SetSpec). if is_waiting (place_of run p j past) then Some (last_spec ss) else None) sets

-- all rows, where each place is as before
same_arrivals : (run : Run) (past now : List Item) → length (plugins run now).plugins ≡ length (plugins run past).plugins
    → ((p j : ℕ) → arrival_at run now p j ≡ arrival_at run past p j) → arrivals run now ≡ arrivals run past
same_arrivals run past now long same =
    ap (λ (n : ℕ). map (row run now) (range_with_len 1 n)) long
    ∙ map_same (row run now) (row run past) 1 (length (plugins run past).plugins)
    (λ p one most. map_same (arrival_at run now p) (arrival_at run past p) 0 run.harts (λ j least low. same p j))

-- Steps, and harts that leave.

steps_keep : (run : Run) (h n : ℕ) (past : List Item) → arrivals run (steps h n past) ≡ arrivals run past
unfolding place_of registry
steps_keep run h zero past = refl
steps_keep run h (suc n) past = steps_keep run h n past

leave_keeps : (run : Run) (h : ℕ) (past : List Item) → arrivals run (Left h ∷ past) ≡ arrivals run past
unfolding registry
leave_keeps run h past =
    same_arrivals run past (Left h ∷ past) (length-map (plugins run past).plugins (without_hart h))
    (λ p j. same_arrival run past (Left h ∷ past) p j (left_sets (plugins run past) h p) (same_waiting run h p j past))

pub arrivals_stay : ArrivalsStay
arrivals_stay run h n past = (steps_keep run h n past, leave_keeps run h past)

-- Installs.

new_arrival : (run : Run) (origin : Origin) (spec : SetSpec) (past : List Item) (h : ℕ)
    → arrival_at run (Ordered origin (Install spec) ∷ past) (length (plugins run past).plugins + 1) h ≡ Some spec
unfolding place_of registry
new_arrival run origin spec past h =
    let r = plugins run past in
    let at : registers r (Install spec) (length r.plugins + 1) ≡ true = grind (arith, nat_tests) in
    rw at (ap (λ (sets : List SetSpec). Some (last_spec sets)) (new_sets r spec))

old_arrival : (run : Run) (origin : Origin) (spec : SetSpec) (past : List Item) (p j : ℕ)
    → 1 ≤ p → p < 1 + length (plugins run past).plugins → allowed (plugins run past) (Install spec) ≡ true
    → arrival_at run (Ordered origin (Install spec) ∷ past) p j ≡ arrival_at run past p j
unfolding place_of registry
old_arrival run origin spec past p j one most is =
    let off : registers (plugins run past) (Install spec) p ≡ false = grind (arith, nat_tests, most) in
    same_arrival run past (Ordered origin (Install spec) ∷ past) p j
    (order_sets (plugins run past) (Install spec) p one is off) (rw off refl)

pub installs_arrive : InstallsArrive
unfolding Legal registry
installs_arrive run origin spec past legal state =
    let r = plugins run past in
    let n = length r.plugins in
    let now = Ordered origin (Install spec) ∷ past in
    let long : length (r.plugins ++ fresh r spec ∷ []) ≡ suc n = omega (arith, length-append r.plugins (fresh r spec ∷ [])) in
    ap (λ (k : ℕ). map (row run now) (range_with_len 1 k)) long
    ∙ ap (map (row run now)) (range_more 1 n)
    ∙ map-append (row run now) (range_with_len 1 n) ((1 + n) ∷ [])
    ∙ ap (λ rows. rows ++ row run now (1 + n) ∷ [])
    (map_same (row run now) (row run past) 1 n
    (λ p one most. map_same (arrival_at run now p) (arrival_at run past p) 0 run.harts
    (λ j low high. old_arrival run origin spec past p j one most legal.1.allowed)))
    ∙ ap (λ last. arrivals run past ++ last ∷ [])
    (ap (row run now) {x = 1 + n} {y = n + 1} (omega arith)
    ∙ map_one (Some spec) (arrival_at run now (n + 1)) 0 run.harts (λ j low high. new_arrival run origin spec past j))

-- Takes.

other_arrival : (run : Run) (h plugin p j : ℕ) (past : List Item) → ((h == j) && (plugin == p)) ≡ false
    → arrival_at run (Got h plugin ∷ past) p j ≡ arrival_at run past p j
unfolding registry
other_arrival run h plugin p j past off =
    same_arrival run past (Got h plugin ∷ past) p j refl (ap is_waiting (off_place run h plugin p j past off))

-- the row of the plug-in has one place changed
row_set : (run : Run) (h plugin : ℕ) (past : List Item) → h < run.harts → arrival_at run (Got h plugin ∷ past) plugin h ≡ None
    → row run (Got h plugin ∷ past) plugin ≡ slice_set (row run past plugin) h None
row_set run h plugin past low gone =
    map_set (arrival_at run past plugin) (arrival_at run (Got h plugin ∷ past) plugin) 0 run.harts h low
    (λ j off. other_arrival run h plugin plugin j past (and_left (h == j) (plugin == plugin) (grind (arith, nat_tests, off))))
    ∙ ap (slice_set (row run past plugin) h) (ap (arrival_at run (Got h plugin ∷ past) plugin) {x = 0 + h} {y = h} (omega arith) ∙ gone)

-- what the hart has, by the places of its sets
specs_by : (run : Run) (h plugin : ℕ) (past : List Item) → specs_for run h (Got h plugin ∷ past)
    ≡ all_given (λ p. is_with_hart (place_of run p h (Got h plugin ∷ past))) (λ p. (p, spec_of run past p)) 1
    (length (plugins run past).plugins)
unfolding registry
specs_by run h plugin past = refl

pub takes_arrive : TakesArrive
unfolding registry
takes_arrive run h plugin past legal state one most low may =
    let r = plugins run past in
    let n = length r.plugins in
    let now = Got h plugin ∷ past in
    let waits : is_waiting (place_of run plugin h past) ≡ true =
    rest_true (is_live (plugin_of r plugin).state) _ (rest_true (is_there run h past) _ may) in
    let at : place_of run plugin h past ≡ Waiting = waiting_is (place_of run plugin h past) waits in
    let moved : place_of run plugin h now ≡ WithHart = own_place run h plugin past ∙ ap got at in
    let gone : arrival_at run now plugin h ≡ None =
    ap (λ (p : Place). if is_waiting p then Some (spec_of run now plugin) else None) moved in
    let index : plugin - 1 < n = omega (arith, one, most) in
    let number : 1 + (plugin - 1) ≡ plugin = omega (arith, one) in
    let here : row run now (1 + (plugin - 1)) ≡ slice_set (slice_index_or (arrivals run past) (plugin - 1) []) h None =
    ap (row run now) number ∙ row_set run h plugin past low gone
    ∙ ap (λ (xs : List (Option SetSpec)). slice_set xs h None)
    (sym (map_at (row run past) 1 n (plugin - 1) [] index ∙ ap (row run past) number)) in
    record {
      taken = ap (λ (b : Bool). if b then Some (spec_of run past plugin) else None) waits;
      left = map_set (row run past) (row run now) 1 n (plugin - 1) index
          (λ p off. map_same (arrival_at run now p) (arrival_at run past p) 0 run.harts
          (λ j least high. other_arrival run h plugin p j past
          (and_right (h == j) (plugin == p) (grind (arith, nat_tests, off, number)))))
          ∙ ap (slice_set (arrivals run past) (plugin - 1)) here;
      had = specs_by run h plugin past
          ∙ one_more (λ (s : ℕ × SetSpec). s.0) (λ p. is_with_hart (place_of run p h past)) (λ p. is_with_hart (place_of run p h now))
          (λ p. (p, spec_of run past p)) plugin 1 n (λ p. refl)
          (λ p off. ap is_with_hart (off_place run h plugin p h past (and_right (h == h) (plugin == p) (grind (arith, nat_tests, off)))))
          (ap is_with_hart at) (ap is_with_hart moved) one (omega (arith, most));
    }
