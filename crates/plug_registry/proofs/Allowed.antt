-- What follows where an order is not refused.
use Rattle.std.proofs.Common.{◌≡◌, ◌<◌, ◌≤◌, ℕ, true, refl, arith, length, Option, Some, None}
use Rattle.flat_model.specs.declared.journals.PlugState.{PlugState}
use Rattle.flat_model.specs.declared.journals.PlugState.TheVariants.{Live, Idle, Resetting, Leaving, Gone}
use Rattle.flat_model.specs.declared.limits.TheConstants.{PLUGINS_MOST, CALLING_MOST}
use Rattle.flat_model.specs.Acts.{calling}
use Rattle.flat_model.specs.declared.plugins.SetSpec.{SetSpec}
use Rattle.flat_model.specs.declared.journals.Order.{Order}
use Rattle.flat_model.specs.declared.journals.Order.TheVariants.{Install, Register, Reset, Uninstall}
use Rattle.flat_model.specs.declared.orders.OrderRefusal.{OrderRefusal}
use Rattle.flat_model.specs.declared.orders.OrderRefusal.TheVariants.{State}
use Rattle.std.specs.Prelude.{not, is_some}
use Rattle.flat_model.specs.Registry.{Plugins, first, boxes_of, is_installed, plugin_of, next_state, refused_if, count_refusal}
use Rattle.flat_model.specs.Registry.{state_refusal, size_refusal, range_refusal, entry_refusal, set_refusal, box_refusal, refusal}

first-none : (a b : Option OrderRefusal) → first a b ≡ None → (a ≡ None) × (b ≡ None)
first-none None b e = (refl, e)
first-none (Some why) b e = cc

few_of : (r : Plugins) → count_refusal r ≡ None → length r.plugins < PLUGINS_MOST
unfolding count_refusal
few_of r e = grind arith

calling_of_size : (spec : SetSpec) → size_refusal spec ≡ None → calling spec.subs ≤ CALLING_MOST
unfolding size_refusal
calling_of_size spec e = grind arith

calling_of : (spec : SetSpec) → set_refusal spec ≡ None → calling spec.subs ≤ CALLING_MOST
unfolding set_refusal
calling_of spec e = calling_of_size spec (first-none (size_refusal spec) (first (range_refusal spec) (entry_refusal spec)) e).0

boxes_of_allowed : (r : Plugins) (spec : SetSpec) → box_refusal r spec ≡ None → boxes_of r spec ≤ r.boxes
unfolding box_refusal
boxes_of_allowed r spec e = grind arith

installed_of : (r : Plugins) (order : Order) (number : ℕ) → state_refusal r order number ≡ None → is_installed r number ≡ true
unfolding state_refusal
installed_of r order number e = grind arith

register_from : (plugin : ℕ) (spec : SetSpec) (state : PlugState) (why : OrderRefusal)
    → refused_if (not (is_some (next_state (Register plugin spec) state))) why ≡ None → state ≡ Idle
register_from plugin spec Live why e = cc
register_from plugin spec Idle why e = refl
register_from plugin spec Resetting why e = cc
register_from plugin spec Leaving why e = cc
register_from plugin spec Gone why e = cc

reset_from : (plugin : ℕ) (state : PlugState) (why : OrderRefusal)
    → refused_if (not (is_some (next_state (Reset plugin) state))) why ≡ None → state ≡ Live
reset_from plugin Live why e = refl
reset_from plugin Idle why e = cc
reset_from plugin Resetting why e = cc
reset_from plugin Leaving why e = cc
reset_from plugin Gone why e = cc

by_state : (r : Plugins) (order : Order) (number : ℕ) → state_refusal r order number ≡ None
    → refused_if (not (is_some (next_state order (plugin_of r number).state))) (State number (plugin_of r number).state) ≡ None
unfolding state_refusal
by_state r order number e = let h = installed_of r order number e in grind arith

-- what an install that is allowed may rely on
pub record MayInstall (r : Plugins) (spec : SetSpec) : Type 0 where
  pub few : length r.plugins < PLUGINS_MOST
  pub few_call : calling spec.subs ≤ CALLING_MOST
  pub boxes : boxes_of r spec ≤ r.boxes

pub may_install : (r : Plugins) (spec : SetSpec) → refusal r (Install spec) ≡ None → MayInstall r spec
unfolding refusal
may_install r spec e = let h = first-none (count_refusal r) (first (set_refusal spec) (box_refusal r spec)) e in
    let s = first-none (set_refusal spec) (box_refusal r spec) h.1 in
    record { few = few_of r h.0; few_call = calling_of spec s.0; boxes = boxes_of_allowed r spec s.1 }

-- what a register that is allowed may rely on
pub record MayRegister (r : Plugins) (number : ℕ) (spec : SetSpec) : Type 0 where
  pub installed : is_installed r number ≡ true
  pub idle : (plugin_of r number).state ≡ Idle
  pub few_call : calling spec.subs ≤ CALLING_MOST
  pub boxes : boxes_of r spec ≤ r.boxes

pub may_register : (r : Plugins) (number : ℕ) (spec : SetSpec) → refusal r (Register number spec) ≡ None → MayRegister r number spec
unfolding refusal
may_register r number spec e = let h = first-none (state_refusal r (Register number spec) number) (first (set_refusal spec) (box_refusal r spec)) e in
    let s = first-none (set_refusal spec) (box_refusal r spec) h.1 in
    record {
      installed = installed_of r _ number h.0;
      idle = register_from number spec _ _ (by_state r (Register number spec) number h.0);
      few_call = calling_of spec s.0;
      boxes = boxes_of_allowed r spec s.1;
    }

-- what a reset that is allowed may rely on
pub record MayReset (r : Plugins) (number : ℕ) : Type 0 where
  pub installed : is_installed r number ≡ true
  pub live : (plugin_of r number).state ≡ Live

pub may_reset : (r : Plugins) (number : ℕ) → refusal r (Reset number) ≡ None → MayReset r number
unfolding refusal
may_reset r number e = record { installed = installed_of r _ number e; live = reset_from number _ _ (by_state r (Reset number) number e) }

pub may_uninstall : (r : Plugins) (number : ℕ) → refusal r (Uninstall number) ≡ None → is_installed r number ≡ true
unfolding refusal
may_uninstall r number e = installed_of r _ number e
