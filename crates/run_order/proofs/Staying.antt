-- What a runner holds stays as it is while others add to the log.
use Rattle.std.proofs.Common.{◌≡◌, ◌+◌, ◌-◌, ◌<◌, ◌≤◌, ◌∷◌, [], ◌++◌, ◌∙◌, ℕ, zero, suc, Bool, true, false, List}
use Rattle.std.proofs.Common.{Option, Some, None, refl, sym, ap, arith, length, map}
use Rattle.std.specs.Prelude.{if◌then◌else◌, slice_index_or}
use Rattle.std.proofs.lemmas.Bool.{false≢true}
use Rattle.std.specs.List.{filter_map, cons_option, range_with_len}
use Rattle.flat_model.specs.declared.plugins.SetSpec.{SetSpec}
use Rattle.flat_model.specs.declared.journals.Item.{Item}
use Rattle.flat_model.specs.Registry.{Plugin, no_plugin, plugin_of, sets_of, has_left}
use Rattle.watcher_api.specs.Attachment.{Attachment}
use Rattle.run_rules.specs.Guest.{Run, plugins}
use Rattle.run_rules.specs.Heard.{Progress, progress, no_set}
use Rattle.run_rules.specs.Legal.{Legal}
use Rattle.run_rules.specs.Places.{IsStateLog, place_of, is_with_hart, fits, fits_in, owed_by}
use Rattle.run_rules.proofs.Fitting.{beyond, places_fit}
use Rattle.run_rules.proofs.Growing.{item_grows}
use Rattle.flat_model.specs.declared.journals.PlugState.TheVariants.{Gone}
use Rattle.run_rules.specs.Laws.{AreOfOthers, KeepsSet, NoneSteps}
use Rattle.run_rules.proofs.Keeping.{others_leave_sets_alone, no_step, gone_none}
use Rattle.run_rules.proofs.Harts.{harts_move_by_their_steps}
use Rattle.run_order.specs.Sets.{attachment_of, placed_at}
use Rattle.run_order.specs.Laws.{SetsStay, HartStays}

no_steps : (h : ℕ) (more : List Item) → AreOfOthers h more → NoneSteps h more
no_steps h [] others = tt
no_steps h (x ∷ more) others = (no_step h x others.0, no_steps h more others.1)

pub hart_stays : HartStays
hart_stays t h more past start others has =
    (harts_move_by_their_steps t.machine t.mode h more past start (no_steps h more others) has).hart

-- the set that is the last of these, as a log has made it
abbrev last_made : Run → ℕ → ℕ → List SetSpec → List Item → Attachment
last_made run plugin h sets log =
    let spec = slice_index_or sets (length sets - 1) no_set in
    let p = progress run spec plugin (length sets - 1) h log in
    record { plugin = plugin; acts = map (λ s. s.act) spec.subs; heard = p.walk.heard; column = p.walk.column }

abbrev pub made_by : ℕ → SetSpec → Progress → Attachment
made_by plugin spec p = record { plugin = plugin; acts = map (λ s. s.act) spec.subs; heard = p.walk.heard; column = p.walk.column }

-- a set that is with the hart is the same, by what keeps it
attached_same : (run : Run) (plugin h : ℕ) (past now : List Item) → KeepsSet run plugin h past now
    → is_with_hart (place_of run plugin h past) ≡ true → attachment_of run plugin h now ≡ attachment_of run plugin h past
attached_same run plugin h past now keeps with =
    let sets = sets_of (plugins run past) plugin in
    let spec = slice_index_or sets (length sets - 1) no_set in
    ap (λ (ss : List SetSpec). last_made run plugin h ss now) (keeps.sets with)
    ∙ ap (made_by plugin spec) (keeps.heard spec (length sets - 1))

either_same : (now past : Bool) (x y : Attachment) → now ≡ past → (past ≡ true → x ≡ y)
    → (if now then Some x else None) ≡ (if past then Some y else None)
either_same true true x y same is = ap (λ (z : Attachment). Some z) (is refl)
either_same false false x y same is = refl
either_same true false x y same is = absurd (false≢true (sym same))
either_same false true x y same is = absurd (Rattle.std.proofs.lemmas.Bool.false≢true same)

placed_same : (run : Run) (plugin h : ℕ) (past now : List Item) → KeepsSet run plugin h past now
    → placed_at is_with_hart run now plugin h ≡ placed_at is_with_hart run past plugin h
placed_same run plugin h past now keeps =
    either_same (is_with_hart (place_of run plugin h now)) (is_with_hart (place_of run plugin h past))
    (attachment_of run plugin h now) (attachment_of run plugin h past) keeps.there (attached_same run plugin h past now keeps)

-- no set of a plug-in that isn't installed is with a hart
none_beyond : (run : Run) (plugin h : ℕ) (past : List Item) → length (plugins run past).plugins < plugin → h < run.harts
    → Legal run past → IsStateLog run past → placed_at is_with_hart run past plugin h ≡ None
none_beyond run plugin h past far low legal state =
    let r = plugins run past in
    let none : plugin_of r plugin ≡ no_plugin = beyond r.plugins (plugin - 1) (omega (arith, far)) in
    let f : fits_in r (place_of run plugin h past) plugin h ≡ true = places_fit run plugin h past (omega (arith, far)) low legal state in
    let at_none : fits (place_of run plugin h past) Gone (owed_by r plugin h) (has_left r h) ≡ true =
    ap (λ (p : Plugin). fits (place_of run plugin h past) p.state (owed_by r plugin h) (has_left r h)) (sym none) ∙ f in
    ap (λ (b : Bool). if b then Some (attachment_of run plugin h past) else None)
    (gone_none (place_of run plugin h past) (owed_by r plugin h) (has_left r h) at_none)

-- what is gathered of more numbers, where the ones past the first n give nothing
more_give_none : (f : ℕ → Option Attachment) (a n m : ℕ) → n ≤ m → ((k : ℕ) → a + n ≤ k → f k ≡ None)
    → filter_map f (range_with_len a m) ≡ filter_map f (range_with_len a n)
more_give_none f a zero zero le none = refl
more_give_none f a (suc n) zero le none = absurd (omega (arith, le))
more_give_none f a zero (suc m) le none =
    ap (λ (o : Option Attachment). cons_option o (filter_map f (range_with_len (a + 1) m))) (none a (omega arith))
    ∙ more_give_none f (a + 1) zero m (omega arith) (λ k far. none k (omega (arith, far)))
more_give_none f a (suc n) (suc m) le none =
    ap (cons_option (f a)) (more_give_none f (a + 1) n m (omega (arith, le)) (λ k far. none k (omega (arith, far))))

gives_same : (f g : ℕ → Option Attachment) (a n : ℕ) → ((k : ℕ) → a ≤ k → f k ≡ g k)
    → filter_map f (range_with_len a n) ≡ filter_map g (range_with_len a n)
gives_same f g a zero same = refl
gives_same f g a (suc n) same =
    ap (λ (o : Option Attachment). cons_option o (filter_map f (range_with_len (a + 1) n))) (same a (omega arith))
    ∙ ap (cons_option (g a)) (gives_same f g (a + 1) n (λ k far. same k (omega (arith, far))))

-- plug-ins are never fewer than before
never_fewer : (run : Run) (more past : List Item) → length (plugins run past).plugins ≤ length (plugins run (more ++ past)).plugins
never_fewer run [] past = omega arith
never_fewer run (x ∷ more) past = omega (arith, never_fewer run more past, (item_grows run x (more ++ past)).more)

legal_before : (run : Run) (more past : List Item) → Legal run (more ++ past) → Legal run past
unfolding Legal
legal_before run [] past legal = legal
legal_before run (x ∷ more) past legal = legal_before run more past legal.0

state_before : (run : Run) (more past : List Item) → IsStateLog run (more ++ past) → IsStateLog run past
unfolding IsStateLog
state_before run [] past state = state
state_before run (x ∷ more) past state = state_before run more past state.0

pub sets_stay : SetsStay
sets_stay run h more past low others legal state =
    let now = more ++ past in
    let n = length (plugins run past).plugins in
    let m = length (plugins run now).plugins in
    gives_same (λ plugin. placed_at is_with_hart run now plugin h) (λ plugin. placed_at is_with_hart run past plugin h) 1 m
    (λ plugin one. placed_same run plugin h past now (others_leave_sets_alone run plugin h more past one low others legal state))
    ∙ more_give_none (λ plugin. placed_at is_with_hart run past plugin h) 1 n m (never_fewer run more past)
    (λ plugin far. none_beyond run plugin h past (omega (arith, far)) low (legal_before run more past legal) (state_before run more past state))
