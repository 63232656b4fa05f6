-- What a log knows that holds the plan's orders alone: nobody has made a step, left, taken a set or asked for anything.
use Rattle.std.proofs.Common.{◌≡◌, ◌∷◌, ◌∙◌, ◌&&◌, ◌<◌, ℕ, zero, suc, Bool, true, false, not, List, [], Option, Some, None, refl, sym, ap, subst, arith, nat_lt}
use Rattle.std.specs.Prelude.{map, if◌then◌else◌, replicate, slice_index_or, All}
use Rattle.std.specs.List.{filter_map, cons_option}
use Rattle.std.proofs.lemmas.Bool.{lt-ltb}
use Rattle.std.proofs.lemmas.List.Elements.{All-nil, All-cons, All-head, All-tail, All-append, All-weaker}
use Rattle.flat_model.specs.declared.plugins.Ask.{Ask}
use Rattle.flat_model.specs.declared.plugins.Ask.TheVariants.{Stay}
use Rattle.flat_model.specs.declared.plugins.SetSpec.{SetSpec}
use Rattle.flat_model.specs.declared.journals.Mode.{Mode}
use Rattle.flat_model.specs.declared.journals.Item.{Item}
use Rattle.flat_model.specs.declared.journals.Item.TheVariants.{Step, Ordered, GaveBack, Left, Told, Got, Took}
use Rattle.flat_model.specs.declared.journals.Order.{Order}
use Rattle.flat_model.specs.declared.journals.Order.TheVariants.{Install, Register, Reset, Uninstall}
use Rattle.flat_model.specs.declared.journals.Origin.{Origin}
use Rattle.flat_model.specs.declared.journals.Origin.TheVariants.{Start, Script, Asked, Control}
use Rattle.flat_model.specs.declared.limits.TheConstants.{NO_PARTY}
use Rattle.flat_model.specs.Log.{log, log_from}
use Rattle.flat_model.specs.Registry.{Plugins, registry, after_order, is_installed, plugin_of, is_hart, has_left}
use Rattle.flat_model.specs.World.{Machine, World}
use Rattle.flat_model.specs.Worlds.{world}
use Rattle.plug_registry.specs.Installs.{start_order}
use Rattle.run_rules.specs.Guest.{Run, plugins}
use Rattle.run_rules.specs.Heard.{progress, waiting, last_set, set_at, is_live}
use Rattle.run_rules.specs.Legal.{is_there, numbers}
use Rattle.run_rules.specs.Places.{Place, Waiting, registers, place_of, is_with_hart}
use Rattle.run_order.specs.Sets.{sets_for, placed_at, attachment_of}
use Rattle.kept_order.specs.Hearing.{specs_for, spec_at}
use Rattle.kept_order.proofs.Gone.{as_many}
use Rattle.baton_gate.specs.Logs.{GoesOn}
use Rattle.host_state.specs.Scripting.{IsLineOf}
use Rattle.host_core.specs.Runs.{IsOfPlan, IsPlanned, IsGivenInside, IsUncontrolled}

-- the installs of a plan are such a log
from_installs : (past : List Item) (specs : List SetSpec) → All IsPlanned past → All IsPlanned (log_from past (map start_order specs))
from_installs past [] all = all
from_installs past (spec ∷ specs) all =
    from_installs (Ordered Start (Install spec) ∷ past) specs (All-cons IsPlanned (Ordered Start (Install spec)) past tt all)

installs_are_planned : (past : List Item) (specs : List SetSpec) → past ≡ log (map start_order specs) → All IsPlanned past
installs_are_planned past specs is = subst (λ (xs : List Item). All IsPlanned xs) (sym is) (from_installs [] specs (All-nil IsPlanned))

line_planned : (h : ℕ) (i : Item) → IsLineOf h i → IsPlanned i
line_planned h (Step hart) is = absurd is
line_planned h (Ordered Start order) is = tt
line_planned h (Ordered (Script line party) order) is = tt
line_planned h (Ordered (Asked hart plugin) order) is = absurd is
line_planned h (Ordered (Control party) order) is = absurd is
line_planned h (GaveBack hart plugin) is = absurd is
line_planned h (Left hart) is = absurd is
line_planned h (Told party plugin) is = absurd is
line_planned h (Got hart plugin) is = absurd is
line_planned h (Took party plugin) is = absurd is

-- and with the lines of its script behind them
pub opening_is_planned : (past : List Item) (specs : List SetSpec) → GoesOn (IsLineOf NO_PARTY) (log (map start_order specs)) past
    → All IsPlanned past
opening_is_planned past specs goes =
    subst (λ (xs : List Item). All IsPlanned xs) (sym goes.begins)
    (All-append IsPlanned goes.more (log (map start_order specs))
    (All-weaker (IsLineOf NO_PARTY) IsPlanned (line_planned NO_PARTY) goes.more goes.later) (installs_are_planned _ specs refl))

inside : (origin : Origin) → IsOfPlan origin → IsGivenInside origin
inside Start is = tt
inside (Script line party) is = tt
inside (Asked hart plugin) is = tt
inside (Control party) is = is

uncontrolled : (x : Item) → IsPlanned x → IsUncontrolled x
uncontrolled (Step hart) is = tt
uncontrolled (Ordered origin order) is = inside origin is
uncontrolled (GaveBack hart plugin) is = tt
uncontrolled (Left hart) is = tt
uncontrolled (Told party plugin) is = tt
uncontrolled (Got hart plugin) is = tt
uncontrolled (Took party plugin) is = tt

pub all_uncontrolled : (past : List Item) → All IsPlanned past → All IsUncontrolled past
all_uncontrolled past all k d below = uncontrolled _ (all k d below)

-- what no order changes is as it was at first
by_orders : (P : List Item → Type 0) → P [] → ((origin : Origin) (order : Order) (past : List Item) → P past → P (Ordered origin order ∷ past))
    → (past : List Item) → All IsPlanned past → P past
by_orders P none next [] all = none
by_orders P none next (Ordered origin order ∷ past) all =
    next origin order past (by_orders P none next past (All-tail IsPlanned (Ordered origin order) past all))
by_orders P none next (Step hart ∷ past) all = absurd (All-head IsPlanned (Step hart) past all)
by_orders P none next (GaveBack hart plugin ∷ past) all = absurd (All-head IsPlanned (GaveBack hart plugin) past all)
by_orders P none next (Left hart ∷ past) all = absurd (All-head IsPlanned (Left hart) past all)
by_orders P none next (Told party plugin ∷ past) all = absurd (All-head IsPlanned (Told party plugin) past all)
by_orders P none next (Got hart plugin ∷ past) all = absurd (All-head IsPlanned (Got hart plugin) past all)
by_orders P none next (Took party plugin ∷ past) all = absurd (All-head IsPlanned (Took party plugin) past all)

pub same_world : (m : Machine) (mode : Mode) (past : List Item) → All IsPlanned past → world m mode past ≡ world m mode []
unfolding world
same_world m mode = by_orders (λ past. world m mode past ≡ world m mode []) refl (λ origin order past is. is)

-- every hart is there
order_gone : (order : Order) (r : Plugins) → (after_order order r).gone ≡ r.gone
order_gone (Install spec) r = refl
order_gone (Register number spec) r = refl
order_gone (Reset number) r = refl
order_gone (Uninstall number) r = refl

none_gone : (run : Run) (past : List Item) → All IsPlanned past → (plugins run past).gone ≡ replicate run.harts false
unfolding registry
none_gone run =
    by_orders (λ past. (plugins run past).gone ≡ replicate run.harts false) refl
    (λ origin order past is. order_gone order (plugins run past) ∙ is)

none_of : (n h : ℕ) → slice_index_or (replicate n false) h false ≡ false
none_of zero h = refl
none_of (suc n) zero = refl
none_of (suc n) (suc h) = none_of n h

both_true : (a b : Bool) → a ≡ true → b ≡ false → (a && not b) ≡ true
both_true true false one two = refl
both_true false b one two = one
both_true true true one two = sym two

pub all_there : (run : Run) (h : ℕ) (past : List Item) → All IsPlanned past → h < run.harts → is_there run h past ≡ true
all_there run h past all low =
    both_true (is_hart (plugins run past) h) (has_left (plugins run past) h)
    (ap (λ (n : ℕ). nat_lt h n) (as_many run past) ∙ lt-ltb h run.harts low)
    (ap (λ (gone : List Bool). slice_index_or gone h false) (none_gone run past all) ∙ none_of run.harts h)

-- nobody has asked
asks_not : (run : Run) (set : SetSpec) (plugin k h : ℕ) (past : List Item) → All IsPlanned past
    → (progress run set plugin k h past).walk.asked ≡ Stay
unfolding progress
asks_not run set plugin k h =
    by_orders (λ past. (progress run set plugin k h past).walk.asked ≡ Stay) refl (λ origin order past is. is)

either : (b : Bool) (ask : Ask) → ask ≡ Stay → (if b then ask else Stay) ≡ Stay
either true ask is = is
either false ask is = refl

pub nobody_waits : (run : Run) (plugin h : ℕ) (past : List Item) → All IsPlanned past → waiting run plugin h past ≡ Stay
nobody_waits run plugin h past all =
    let set = last_set (plugins run past) plugin in
    either (is_installed (plugins run past) plugin && is_live (plugin_of (plugins run past) plugin).state)
    (progress run (set_at run plugin set past) plugin set h past).walk.asked
    (asks_not run (set_at run plugin set past) plugin set h past all)

-- no set is with a hart
waits_or_was : (b : Bool) (place : Place) → is_with_hart place ≡ false → is_with_hart (if b then Waiting else place) ≡ false
waits_or_was true place is = refl
waits_or_was false place is = is

has_none : (run : Run) (plugin h : ℕ) (past : List Item) → All IsPlanned past → is_with_hart (place_of run plugin h past) ≡ false
unfolding place_of
has_none run plugin h =
    by_orders (λ past. is_with_hart (place_of run plugin h past) ≡ false) refl
    (λ origin order past is. waits_or_was (registers (plugins run past) order plugin) (place_of run plugin h past) is)

all_none : {A B : Type 0} (f : A → Option B) (xs : List A) → ((x : A) → f x ≡ None) → filter_map f xs ≡ []
all_none f [] none = refl
all_none f (x ∷ xs) none = ap (λ o. cons_option o (filter_map f xs)) (none x) ∙ all_none f xs none

pub no_sets : (run : Run) (h : ℕ) (past : List Item) → All IsPlanned past → [] ≡ sets_for is_with_hart run h past
no_sets run h past all =
    sym (all_none (λ plugin. placed_at is_with_hart run past plugin h) (numbers (plugins run past))
    (λ plugin. ap (λ (b : Bool). if b then Some (attachment_of run plugin h past) else None) (has_none run plugin h past all)))

pub no_specs : (run : Run) (h : ℕ) (past : List Item) → All IsPlanned past → [] ≡ specs_for run h past
no_specs run h past all =
    sym (all_none (spec_at run h past) (numbers (plugins run past))
    (λ plugin. ap (λ (b : Bool). if b then Some (plugin, set_at run plugin (last_set (plugins run past) plugin) past) else None)
    (has_none run plugin h past all)))
