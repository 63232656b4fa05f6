-- Each order of a legal journal fits its file: its set has few subscriptions.
use Rattle.std.proofs.Common.{◌≡◌, ◌≤◌, ℕ, zero, suc, true, List, [], ◌∷◌, length, All, Option, Some, None, refl, sym, subst}
use Rattle.std.proofs.Common.{arith}
use Rattle.std.specs.Prelude.{not, is_some}
use Rattle.std.proofs.lemmas.List.Elements.{All-cons}
use Rattle.flat_model.specs.declared.journals.Entry.{Entry}
use Rattle.flat_model.specs.declared.journals.Entry.TheVariants as entries
use Rattle.flat_model.specs.declared.journals.Item.{Item}
use Rattle.flat_model.specs.declared.journals.Item.TheVariants.{Step, Ordered, GaveBack, Left, Told, Got, Took}
use Rattle.flat_model.specs.declared.journals.Order.{Order}
use Rattle.flat_model.specs.declared.journals.Order.TheVariants.{Install, Register, Reset, Uninstall}
use Rattle.flat_model.specs.declared.orders.OrderRefusal.{OrderRefusal}
use Rattle.flat_model.specs.declared.plugins.SetSpec.{SetSpec}
use Rattle.flat_model.specs.Log.{log, log_from, with_entry, steps, journaled}
use Rattle.flat_model.specs.Registry.{Plugins, first, set_refusal, size_refusal, box_refusal, count_refusal, state_refusal, refusal}
use Rattle.journal_file.specs.Spelling.{HasFewSubs, HasFewSubsIn}
use Rattle.run_rules.specs.Guest.{Run, plugins}
use Rattle.run_rules.specs.Legal.{Legal}

first_none : (a b : Option OrderRefusal) → first a b ≡ None → (a ≡ None) × (b ≡ None)
first_none None b e = (refl, e)
first_none (Some why) b e = cc

few_set : (spec : SetSpec) → set_refusal spec ≡ None → length spec.subs ≤ 255
unfolding set_refusal size_refusal
few_set spec none = grind arith

few_order : (r : Plugins) (order : Order) → refusal r order ≡ None → HasFewSubs order
unfolding refusal
few_order r (Install spec) none =
    few_set spec (first_none (set_refusal spec) (box_refusal r spec)
    (first_none (count_refusal r) (first (set_refusal spec) (box_refusal r spec)) none).1).0
few_order r (Register plugin spec) none =
    few_set spec (first_none (set_refusal spec) (box_refusal r spec)
    (first_none (state_refusal r (Register plugin spec) plugin) (first (set_refusal spec) (box_refusal r spec)) none).1).0
few_order r (Reset plugin) none = tt
few_order r (Uninstall plugin) none = tt

-- an order of a log
abbrev HasFewIn : Item → Type 0
HasFewIn (Step hart) = Unit {0}
HasFewIn (Ordered origin order) = HasFewSubs order
HasFewIn (GaveBack hart plugin) = Unit {0}
HasFewIn (Left hart) = Unit {0}
HasFewIn (Told party plugin) = Unit {0}
HasFewIn (Got hart plugin) = Unit {0}
HasFewIn (Took party plugin) = Unit {0}

abbrev AllFew : List Item → Type 0
AllFew [] = Unit {0}
AllFew (x ∷ past) = HasFewIn x × AllFew past

none_is : (o : Option OrderRefusal) → not (is_some o) ≡ true → o ≡ None
none_is None is = refl
none_is (Some why) is = cc

legal_few : (run : Run) (past : List Item) → Legal run past → AllFew past
unfolding Legal
legal_few run [] legal = tt
legal_few run (Step h ∷ past) legal = (tt, legal_few run past legal.0)
legal_few run (Ordered origin order ∷ past) legal =
    (few_order (plugins run past) order (none_is (refusal (plugins run past) order) legal.1.allowed), legal_few run past legal.0)
legal_few run (GaveBack h plugin ∷ past) legal = (tt, legal_few run past legal.0)
legal_few run (Left h ∷ past) legal = (tt, legal_few run past legal.0)
legal_few run (Told party plugin ∷ past) legal = (tt, legal_few run past legal.0)
legal_few run (Got h plugin ∷ past) legal = (tt, legal_few run past legal.0)
legal_few run (Took party plugin ∷ past) legal = (tt, legal_few run past legal.0)

journaled_few : (past : List Item) → AllFew past → AllFew (journaled past)
journaled_few [] few = tt
journaled_few (Step h ∷ past) few = (tt, journaled_few past few.1)
journaled_few (Ordered origin order ∷ past) few = (few.0, journaled_few past few.1)
journaled_few (GaveBack h plugin ∷ past) few = (tt, journaled_few past few.1)
journaled_few (Left h ∷ past) few = (tt, journaled_few past few.1)
journaled_few (Told party plugin ∷ past) few = (tt, journaled_few past few.1)
journaled_few (Got h plugin ∷ past) few = journaled_few past few.1
journaled_few (Took party plugin ∷ past) few = journaled_few past few.1

steps_few : (h n : ℕ) (past : List Item) → AllFew (steps h n past) → AllFew past
steps_few h zero past few = few
steps_few h (suc n) past few = steps_few h n past few.1

entry_few : (e : Entry) (past : List Item) → AllFew (with_entry e past) → HasFewSubsIn e × AllFew past
entry_few (entries.Turn h n) past few = (tt, steps_few h n past few)
entry_few (entries.Order origin order) past few = (few.0, few.1)
entry_few (entries.Back h plugin) past few = (tt, few.1)
entry_few (entries.Leave h) past few = (tt, few.1)
entry_few (entries.Done party plugin) past few = (tt, few.1)

abbrev EachFew : List Entry → Type 0
EachFew [] = Unit {0}
EachFew (e ∷ es) = HasFewSubsIn e × EachFew es

log_few : (past : List Item) (es : List Entry) → AllFew (log_from past es) → EachFew es × AllFew past
log_few past [] few = (tt, few)
log_few past (e ∷ es) few =
    let rest = log_few (with_entry e past) es few in
    let this = entry_few e past rest.1 in
    ((this.0, rest.0), this.1)

all_few : (es : List Entry) → EachFew es → All HasFewSubsIn es
all_few [] few = λ k d below. absurd (omega arith)
all_few (e ∷ es) few = All-cons HasFewSubsIn e es few.0 (all_few es few.1)

-- the entries of a journal whose log is that of a legal one
pub entries_few : (run : Run) (past : List Item) (es : List Entry) → Legal run past → log es ≡ journaled past → All HasFewSubsIn es
entries_few run past es legal is =
    all_few es (log_few [] es (subst AllFew (sym is) (journaled_few past (legal_few run past legal)))).0
