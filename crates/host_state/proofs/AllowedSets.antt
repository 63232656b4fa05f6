-- What an attached set is made of, where the registry allows the order that brings it.
use Rattle.std.proofs.Common.{◌≡◌, ◌≤◌, ◌<◌, ℕ, Bool, false, List, length, get_or, All, Option, Some, None, refl, arith}
use Rattle.std.specs.Prelude.{position, nat_le, unwrap_or, is_some, ◌&&◌, IfSome}
use Rattle.std.specs.List.{position_or_len}
use Rattle.std.proofs.lemmas.Bool.Decides.{nat_tests}
use Rattle.std.proofs.lemmas.List.Sums.{fails_before_first}
use Rattle.flat_model.specs.declared.plugins.SetSpec.{SetSpec}
use Rattle.flat_model.specs.declared.journals.Order.TheVariants.{Install, Register}
use Rattle.flat_model.specs.declared.limits.TheConstants.{SUBS_MOST}
use Rattle.flat_model.specs.declared.orders.OrderRefusal.{OrderRefusal}
use Rattle.flat_model.specs.Registry.{Plugins, first, entry_of, has_bad_entry, size_refusal, range_refusal, entry_refusal}
use Rattle.flat_model.specs.Registry.{set_refusal, box_refusal, count_refusal, state_refusal, refusal}
use Rattle.watcher_api.specs.Attachment.{IsWithin}

-- few subscriptions, whose acts name entries of the set
pub record IsAttachable (spec : SetSpec) : Type 0 where
  pub subs : length spec.subs ≤ SUBS_MOST
  pub entries : All (λ s. IsWithin spec.entries s.act) spec.subs

first_none : (a b : Option OrderRefusal) → first a b ≡ None → (a ≡ None) × (b ≡ None)
first_none None b e = (refl, e)
first_none (Some why) b e = cc

few_subs : (spec : SetSpec) → size_refusal spec ≡ None → length spec.subs ≤ SUBS_MOST
unfolding size_refusal
few_subs spec none = grind arith

-- where nothing passes a test, everything fails it
none_passes : {X : Type 0} (p : X → Bool) (xs : List X) → position p xs ≡ None → length xs ≤ position_or_len p xs
none_passes p xs none = grind (arith, nat_tests)

entry_within : (entries : ℕ) (named : Option ℕ) → (is_some named && nat_le entries (unwrap_or named 0)) ≡ false
    → IfSome named (λ entry. entry < entries)
entry_within entries None bad = tt
entry_within entries (Some entry) bad = grind (arith, nat_tests)

no_bad_entry : (spec : SetSpec) → entry_refusal spec ≡ None → position (has_bad_entry spec.entries) spec.subs ≡ None
unfolding entry_refusal
no_bad_entry spec none = grind arith

all_within : (spec : SetSpec) → entry_refusal spec ≡ None → All (λ s. IsWithin spec.entries s.act) spec.subs
all_within spec none k d below =
    let far = none_passes (has_bad_entry spec.entries) spec.subs (no_bad_entry spec none) in
    entry_within spec.entries (entry_of (get_or spec.subs k d).act)
    (fails_before_first (has_bad_entry spec.entries) spec.subs k d (omega (arith, far, below)))

pub attachable : (spec : SetSpec) → set_refusal spec ≡ None → IsAttachable spec
unfolding set_refusal
attachable spec none =
    let size = first_none (size_refusal spec) (first (range_refusal spec) (entry_refusal spec)) none in
    let range = first_none (range_refusal spec) (entry_refusal spec) size.1 in
    record { subs = few_subs spec size.0; entries = all_within spec range.1 }

pub install_attachable : (r : Plugins) (spec : SetSpec) → refusal r (Install spec) ≡ None → IsAttachable spec
unfolding refusal
install_attachable r spec none =
    let count = first_none (count_refusal r) (first (set_refusal spec) (box_refusal r spec)) none in
    attachable spec (first_none (set_refusal spec) (box_refusal r spec) count.1).0

pub register_attachable : (r : Plugins) (plugin : ℕ) (spec : SetSpec) → refusal r (Register plugin spec) ≡ None → IsAttachable spec
unfolding refusal
register_attachable r plugin spec none =
    let state = first_none (state_refusal r (Register plugin spec) plugin) (first (set_refusal spec) (box_refusal r spec)) none in
    attachable spec (first_none (set_refusal spec) (box_refusal r spec) state.1).0
