-- The sets of a plug-in grow in number, so that a set is registered once.
use Rattle.std.proofs.Common.{◌≡◌, ◌==◌, ◌&&◌, ◌-◌, ◌≤◌, ◌∷◌, [], ◌++◌, ◌∙◌, ℕ, zero, suc, Bool, true, false, not, List}
use Rattle.std.proofs.Common.{refl, arith, nat_lt, nat_le, length, map}
use Rattle.std.specs.Prelude.{if◌then◌else◌, slice_index_or, slice_set, is_some, replicate}
use Rattle.std.proofs.lemmas.Bool.{and_left, and_right, le-ltb, false≢true}
use Rattle.std.proofs.lemmas.Bool.Decides.{nat_tests}
use Rattle.std.proofs.lemmas.List.{length-append, length-set, length-map}
use Rattle.flat_model.specs.declared.plugins.SetSpec.{SetSpec}
use Rattle.flat_model.specs.declared.journals.Item.{Item}
use Rattle.flat_model.specs.declared.journals.Item.TheVariants.{Step, Ordered, GaveBack, Left, Told, Got, Took}
use Rattle.flat_model.specs.declared.journals.Order.{Order}
use Rattle.flat_model.specs.declared.journals.Order.TheVariants.{Install, Register, Reset, Uninstall}
use Rattle.flat_model.specs.Registry.{Plugins, Plugin, no_plugin, plugin_of, is_installed, sets_of, registry, after_order}
use Rattle.flat_model.specs.Registry.{with_plugin, without_hart, with_set, withdrawn, done_state, ending_of}
use Rattle.flat_model.specs.declared.journals.PlugState.TheVariants.{Live, Resetting, Leaving}
use Rattle.flat_model.specs.declared.journals.How.TheVariants as how
use Rattle.run_rules.specs.Guest.{Run, plugins}
use Rattle.run_rules.specs.Heard.{progress, opening_progress, is_listening}
use Rattle.run_rules.specs.Laws.{LaterSetsHearNothing}

-- how many sets the plug-in at a place has
abbrev pub sets_at : List Plugin → ℕ → ℕ
sets_at ps i = length (slice_index_or ps i no_plugin).sets

set_grows : (ps : List Plugin) (k : ℕ) (x : Plugin) (i : ℕ) → sets_at ps k ≤ length x.sets → sets_at ps i ≤ sets_at (slice_set ps k x) i
set_grows [] k x i le = omega arith
set_grows (p ∷ ps) zero x zero le = le
set_grows (p ∷ ps) zero x (suc i) le = omega arith
set_grows (p ∷ ps) (suc k) x zero le = omega arith
set_grows (p ∷ ps) (suc k) x (suc i) le = set_grows ps k x i le

append_grows : (ps : List Plugin) (x : Plugin) (i : ℕ) → sets_at ps i ≤ sets_at (ps ++ x ∷ []) i
append_grows [] x i = omega arith
append_grows (p ∷ ps) x zero = omega arith
append_grows (p ∷ ps) x (suc i) = append_grows ps x i

leave_grows : (ps : List Plugin) (hart i : ℕ) → sets_at ps i ≤ sets_at (map (without_hart hart) ps) i
leave_grows [] hart i = omega arith
leave_grows (p ∷ ps) hart zero = omega arith
leave_grows (p ∷ ps) hart (suc i) = leave_grows ps hart i

-- from one registry to the next
pub record Grows (old new : Plugins) : Type 0 where
  pub more : length old.plugins ≤ length new.plugins
  pub sets : (i : ℕ) → sets_at old.plugins i ≤ sets_at new.plugins i

place_grows : (r : Plugins) (number : ℕ) (p : Plugin) → sets_at r.plugins (number - 1) ≤ length p.sets → Grows r (with_plugin r number p)
place_grows r number p le = record {
  more = omega (arith, length-set r.plugins (number - 1) p);
  sets = λ i. set_grows r.plugins (number - 1) p i le;
}

-- a plug-in that has just been installed
abbrev pub fresh : Plugins → SetSpec → Plugin
fresh r spec = record { state = Live; sets = spec ∷ []; endings = []; owing = replicate r.harts false }

order_grows : (r : Plugins) (order : Order) → Grows r (after_order order r)
order_grows r (Install spec) = record {
  more = omega (arith, length-append r.plugins (fresh r spec ∷ []));
  sets = λ i. append_grows r.plugins (fresh r spec) i;
}
order_grows r (Register number spec) =
    let p = plugin_of r number in
    let g : Grows r (with_plugin r number (with_set p spec)) =
    place_grows r number (with_set p spec) (omega (arith, length-append p.sets (spec ∷ []))) in
    record { more = g.more; sets = g.sets }
order_grows r (Reset number) =
    place_grows r number (withdrawn (plugin_of r number) Resetting how.Reset r.gone) (omega arith)
order_grows r (Uninstall number) =
    place_grows r number (withdrawn (plugin_of r number) Leaving how.Uninstall r.gone) (omega arith)

pub item_grows : (run : Run) (x : Item) (past : List Item) → Grows (plugins run past) (plugins run (x ∷ past))
unfolding registry
item_grows run (Step hart) past = record { more = omega arith; sets = λ i. omega arith }
item_grows run (Ordered origin order) past = order_grows (plugins run past) order
item_grows run (GaveBack hart number) past =
    let r = plugins run past in
    place_grows r number (record (plugin_of r number) { owing = slice_set (plugin_of r number).owing hart false }) (omega arith)
item_grows run (Left hart) past =
    let ps = (plugins run past).plugins in
    record { more = omega (arith, length-map ps (without_hart hart)); sets = λ i. leave_grows ps hart i }
item_grows run (Told party number) past =
    let r = plugins run past in
    place_grows r number (record (plugin_of r number) { state = done_state (plugin_of r number).state }) (omega arith)
item_grows run (Got hart number) past = record { more = omega arith; sets = λ i. omega arith }
item_grows run (Took party number) past = record { more = omega arith; sets = λ i. omega arith }

-- how many sets the plug-in with a number has
there_most : (old new : Bool) (first second : List SetSpec) → (old ≡ true → new ≡ true) → length first ≤ length second
    → length (if old then first else []) ≤ length (if new then second else [])
there_most false new first second keeps le = omega arith
there_most true true first second keeps le = le
there_most true false first second keeps le = absurd (false≢true (keeps refl))

installed_still : (number least most : ℕ) → least ≤ most
    → (nat_lt 0 number && nat_le number least) ≡ true → (nat_lt 0 number && nat_le number most) ≡ true
installed_still number least most le is = grind (arith, nat_tests, le, is)

sets_grow : (old new : Plugins) (number : ℕ) → Grows old new → length (sets_of old number) ≤ length (sets_of new number)
sets_grow old new number g =
    there_most (is_installed old number) (is_installed new number) (plugin_of old number).sets (plugin_of new number).sets
    (installed_still number (length old.plugins) (length new.plugins) g.more) (g.sets (number - 1))

-- a set with a place behind the last isn't listening
listens_none : (r : Plugins) (plugin set : ℕ) → length (sets_of r plugin) ≤ set → is_listening r plugin set ≡ false
listens_none r plugin set le = and_left (nat_lt set (length (sets_of r plugin))) (not (is_some (ending_of r plugin set))) (le-ltb set (length (sets_of r plugin)) le)

pub step_none : (run : Run) (spec : SetSpec) (plugin set h hart : ℕ) (past : List Item)
    → is_listening (plugins run past) plugin set ≡ false
    → progress run spec plugin set h (Step hart ∷ past) ≡ progress run spec plugin set h past
unfolding progress
step_none run spec plugin set h hart past none =
    rw (and_right (hart == h) (is_listening (plugins run past) plugin set) none) refl

nothing : (run : Run) (spec : SetSpec) (plugin set h : ℕ) (x : Item) (past : List Item)
    → length (sets_of (plugins run past) plugin) ≤ set → progress run spec plugin set h past ≡ opening_progress spec
    → progress run spec plugin set h (x ∷ past) ≡ opening_progress spec
unfolding progress
nothing run spec plugin set h (Step hart) past le is =
    step_none run spec plugin set h hart past (listens_none (plugins run past) plugin set le) ∙ is
nothing run spec plugin set h (Ordered origin order) past le is = is
nothing run spec plugin set h (GaveBack hart number) past le is = is
nothing run spec plugin set h (Left hart) past le is = is
nothing run spec plugin set h (Told party number) past le is = is
nothing run spec plugin set h (Got hart number) past le is = is
nothing run spec plugin set h (Took party number) past le is = is

pub later_sets_hear_nothing : LaterSetsHearNothing
unfolding progress
later_sets_hear_nothing run spec plugin set h [] le = refl
later_sets_hear_nothing run spec plugin set h (x ∷ past) le =
    let before : length (sets_of (plugins run past) plugin) ≤ set =
    omega (arith, le, sets_grow (plugins run past) (plugins run (x ∷ past)) plugin (item_grows run x past)) in
    nothing run spec plugin set h x past before (later_sets_hear_nothing run spec plugin set h past before)
