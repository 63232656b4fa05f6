-- The installs of a plan, which are placed one after the other before all steps.
use Rattle.std.specs.Prelude.{◌≡◌, ◌<◌, ℕ, List, length, map, take, position, slice_get, Option, None, option_map, is_some}
use Rattle.std.specs.List.{range_with_len}
use Rattle.std.specs.Option.{option_and_then}
use Rattle.flat_model.specs.declared.plugins.SetSpec.{SetSpec}
use Rattle.flat_model.specs.declared.journals.Order.TheVariants.{Install}
use Rattle.flat_model.specs.declared.journals.Origin.TheVariants.{Start}
use Rattle.flat_model.specs.declared.journals.Entry.{Entry}
use Rattle.flat_model.specs.declared.journals.Entry.TheVariants.{Order}
use Rattle.flat_model.specs.declared.orders.OrderRefusal.{OrderRefusal}
use Rattle.flat_model.specs.declared.limits.TheConstants.{RACK_BOXES}
use Rattle.flat_model.specs.Log.{log}
use Rattle.flat_model.specs.Registry.{Plugins, registry, refusal}

abbrev pub start_order : SetSpec → Entry
start_order spec = Order Start (Install spec)

-- the plug-ins of a run of so many harts, once these installs were placed
abbrev pub after_installs : ℕ → List SetSpec → Plugins
after_installs harts installs = registry harts RACK_BOXES (log (map start_order installs))

-- why the install with an index, from 0, isn't allowed once those before it were placed; None where it is allowed
unfoldable pub refusal_at : ℕ → List SetSpec → ℕ → Option OrderRefusal
refusal_at harts installs i =
    option_and_then (λ spec. refusal (after_installs harts (take i installs)) (Install spec)) (slice_get installs i)

-- each install is allowed once those before it were placed
abbrev pub AreAllowed : ℕ → List SetSpec → Type 0
AreAllowed harts installs = (i : ℕ) → i < length installs → refusal_at harts installs i ≡ None

-- the least index of an install that isn't allowed, and why; None where each is allowed
unfoldable pub first_refused : ℕ → List SetSpec → Option (ℕ × OrderRefusal)
first_refused harts installs =
    option_and_then (λ i. option_map (λ why. (i, why)) (refusal_at harts installs i))
    (position (λ i. is_some (refusal_at harts installs i)) (range_with_len 0 (length installs)))
