-- A hart that has left owes no Back, so a plug-in that is being withdrawn is complete once every hart has left.
use Rattle.std.proofs.Common.{◌≡◌, ◌≢◌, ◌+◌, ◌-◌, ◌<◌, ◌∷◌, [], ◌++◌, ◌∙◌, ℕ, zero, suc, Bool, true, false, not, List}
use Rattle.std.proofs.Common.{refl, sym, ap, arith, length, map, replicate}
use Rattle.std.specs.Prelude.{slice_index_or, slice_set}
use Rattle.std.specs.List.{list_any}
use Rattle.std.proofs.lemmas.List.{get_or-set_other}
use Rattle.std.proofs.lemmas.List.Folds.{list_any_none}
use Rattle.flat_model.specs.declared.journals.How.TheVariants as how
use Rattle.flat_model.specs.declared.journals.Item.{Item}
use Rattle.flat_model.specs.declared.journals.Item.TheVariants.{Step, Ordered, GaveBack, Left, Told, Got, Took}
use Rattle.flat_model.specs.declared.journals.Order.{Order}
use Rattle.flat_model.specs.declared.journals.Order.TheVariants.{Install, Register, Reset, Uninstall}
use Rattle.flat_model.specs.declared.journals.PlugState.TheVariants.{Resetting, Leaving}
use Rattle.flat_model.specs.Registry.{Plugin, Plugins, no_plugin, registry, plugin_of, has_left, after_order, with_set}
use Rattle.flat_model.specs.Registry.{withdrawn, without_hart, done_state}
use Rattle.run_rules.specs.Guest.{Run, plugins}
use Rattle.run_rules.proofs.Fitting.{left_at}
use Rattle.run_rules.proofs.Growing.{fresh}
use Rattle.kept_order.proofs.Leaves.{knows_harts}

-- each hart that still owes a Back, at one of these places, is one of the n harts, and hasn't left
abbrev Frees : ℕ → List Bool → List Bool → Type 0
Frees n gone owing = (h : ℕ) → (h < n → slice_index_or gone h false ≡ true) → slice_index_or owing h false ≡ false

abbrev FreesAll : ℕ → List Bool → List Plugin → Type 0
FreesAll n gone ps = (i : ℕ) → Frees n gone (slice_index_or ps i no_plugin).owing

set_frees : (n : ℕ) (gone : List Bool) (ps : List Plugin) (k : ℕ) (x : Plugin) → Frees n gone x.owing → FreesAll n gone ps
    → FreesAll n gone (slice_set ps k x)
set_frees n gone [] k x free all i = all i
set_frees n gone (p ∷ ps) zero x free all zero = free
set_frees n gone (p ∷ ps) zero x free all (suc i) = all (suc i)
set_frees n gone (p ∷ ps) (suc k) x free all zero = all zero
set_frees n gone (p ∷ ps) (suc k) x free all (suc i) = set_frees n gone ps k x free (λ j. all (suc j)) i

append_frees : (n : ℕ) (gone : List Bool) (ps : List Plugin) (x : Plugin) → Frees n gone x.owing → FreesAll n gone ps
    → FreesAll n gone (ps ++ x ∷ [])
append_frees n gone [] x free all zero = free
append_frees n gone [] x free all (suc i) = λ h left. refl
append_frees n gone (p ∷ ps) x free all zero = all zero
append_frees n gone (p ∷ ps) x free all (suc i) = append_frees n gone ps x free (λ j. all (suc j)) i

none_yet : (n h : ℕ) → slice_index_or (replicate n false) h false ≡ false
none_yet zero h = refl
none_yet (suc n) zero = refl
none_yet (suc n) (suc h) = none_yet n h

none_else : (gone : List Bool) (h : ℕ) → (h < length gone → slice_index_or gone h false ≡ true)
    → slice_index_or (map not gone) h false ≡ false
none_else [] h left = refl
none_else (b ∷ bs) zero left = ap not (left (omega arith))
none_else (b ∷ bs) (suc h) left = none_else bs h (λ below. left (omega (arith, below)))

order_frees : (n : ℕ) (r : Plugins) (order : Order) → length r.gone ≡ n → FreesAll n r.gone r.plugins
    → FreesAll n (after_order order r).gone (after_order order r).plugins
order_frees n r (Install spec) count all = append_frees n r.gone r.plugins (fresh r spec) (λ h left. none_yet r.harts h) all
order_frees n r (Register number spec) count all =
    set_frees n r.gone r.plugins (number - 1) (with_set (plugin_of r number) spec) (all (number - 1)) all
order_frees n r (Reset number) count all =
    set_frees n r.gone r.plugins (number - 1) (withdrawn (plugin_of r number) Resetting how.Reset r.gone)
    (λ h left. none_else r.gone h (λ below. left (omega (arith, below, count)))) all
order_frees n r (Uninstall number) count all =
    set_frees n r.gone r.plugins (number - 1) (withdrawn (plugin_of r number) Leaving how.Uninstall r.gone)
    (λ h left. none_else r.gone h (λ below. left (omega (arith, below, count)))) all

-- a place that is cleared, and the others
cleared : (bs : List Bool) (k h : ℕ) → (k ≢ h → slice_index_or bs h false ≡ false) → slice_index_or (slice_set bs k false) h false ≡ false
cleared [] k h other = refl
cleared (b ∷ bs) zero zero other = refl
cleared (b ∷ bs) zero (suc h) other = other (λ e. omega (arith, e))
cleared (b ∷ bs) (suc k) zero other = other (λ e. omega (arith, e))
cleared (b ∷ bs) (suc k) (suc h) other = cleared bs k h (λ off. other (λ e. off (omega (arith, e))))

leave_frees : (n k : ℕ) (gone : List Bool) (ps : List Plugin) → FreesAll n gone ps
    → FreesAll n (slice_set gone k true) (map (without_hart k) ps)
leave_frees n k gone ps all i h left =
    ap (λ (p : Plugin). slice_index_or p.owing h false) (left_at k ps i)
    ∙ cleared (slice_index_or ps i no_plugin).owing k h
    (λ off. all i h (λ low. sym (get_or-set_other gone k h true false (λ e. off (sym e))) ∙ left low))

owes_none_left : (run : Run) (past : List Item) → FreesAll run.harts (plugins run past).gone (plugins run past).plugins
unfolding registry
owes_none_left run [] i = λ h left. refl
owes_none_left run (Step hart ∷ past) i = owes_none_left run past i
owes_none_left run (Ordered origin order ∷ past) i =
    order_frees run.harts (plugins run past) order (knows_harts run past).gone (owes_none_left run past) i
owes_none_left run (GaveBack hart number ∷ past) i =
    let r = plugins run past in
    let p = plugin_of r number in
    set_frees run.harts r.gone r.plugins (number - 1) (record p { owing = slice_set p.owing hart false })
    (λ h left. cleared p.owing hart h (λ off. owes_none_left run past (number - 1) h left)) (owes_none_left run past) i
owes_none_left run (Left hart ∷ past) i =
    leave_frees run.harts hart (plugins run past).gone (plugins run past).plugins (owes_none_left run past) i
owes_none_left run (Told party number ∷ past) i =
    let r = plugins run past in
    let p = plugin_of r number in
    set_frees run.harts r.gone r.plugins (number - 1) (record p { state = done_state p.state }) (owes_none_left run past (number - 1))
    (owes_none_left run past) i
owes_none_left run (Got hart number ∷ past) i = owes_none_left run past i
owes_none_left run (Took party number ∷ past) i = owes_none_left run past i

in_range : (bs : List Bool) (k : ℕ) (d : Bool) → k < length bs → slice_index_or bs k false ≡ false → slice_index_or bs k d ≡ false
in_range [] k d below is = absurd (omega (arith, below))
in_range (b ∷ bs) zero d below is = is
in_range (b ∷ bs) (suc k) d below is = in_range bs k d (omega (arith, below)) is

-- once every hart has left, no plug-in waits for a Back
pub nobody_owes : (run : Run) (past : List Item) (plugin : ℕ) → ((h : ℕ) → h < run.harts → has_left (plugins run past) h ≡ true)
    → list_any (λ owed. owed) (plugin_of (plugins run past) plugin).owing ≡ false
nobody_owes run past plugin left =
    let owing = (plugin_of (plugins run past) plugin).owing in
    list_any_none (λ (owed : Bool). owed) owing
    (λ k d below. in_range owing k d below (owes_none_left run past (plugin - 1) k (left k)))
