-- A set that has just been registered.
use Rattle.std.proofs.Common.{◌≡◌, ◌<◌, ◌≤◌, ◌+◌, ◌∙◌, ℕ, Bool, true, List, ◌++◌, length, map, take, drop, cond}
use Rattle.std.proofs.Common.{sym, ap, subst, arith, All}
use Rattle.std.specs.Prelude.{slice_index_or}
use Rattle.std.proofs.lemmas.List.{take_all, length-map, take-append-drop}
use Rattle.std.proofs.lemmas.List.Sums.{count_by_more_yes, sum_by-append}
use Rattle.std.proofs.Math.ListN.{get_or-map}
use Rattle.flat_model.specs.declared.plugins.Filter.{Filter}
use Rattle.flat_model.specs.declared.plugins.Sub.{Sub}
use Rattle.flat_model.specs.Acts.{calls, calling}
use Rattle.watcher_api.specs.declared.held_acts.HeldAct.{HeldAct}
use Rattle.watcher_api.specs.Heard.{Heard}
use Rattle.watcher_api.specs.Attachment.{IsWithin}
use Rattle.watcher_api.specs.HeldActs.{act_of}

-- before a calling subscription fewer call than in all
pub one_more : (subs : List Sub) (i : ℕ) (s : Sub) → i < length subs → s ≡ slice_index_or subs i s → calls s.act ≡ true
    → calling (take i subs) < calling subs
one_more subs i s below is does =
    let p : Sub → Bool = λ x. calls x.act in
    let f : Sub → ℕ = λ x. cond (p x) 1 0 in
    let here : p (slice_index_or subs i s) ≡ true = subst (λ (x : Sub). calls x.act ≡ true) is does in
    let more : calling (take (i + 1) subs) ≡ calling (take i subs) + 1 = count_by_more_yes p subs i s below here in
    let parts : calling (take (i + 1) subs ++ drop (i + 1) subs) ≡ calling (take (i + 1) subs) + calling (drop (i + 1) subs) =
    sum_by-append f (take (i + 1) subs) (drop (i + 1) subs) in
    let whole : calling (take (i + 1) subs ++ drop (i + 1) subs) ≡ calling subs = ap calling (take-append-drop (i + 1) subs) in
    omega (arith, more, parts, whole)

no_filter : Filter
no_filter = record { kinds = 0; lo = 0; hi = 0; classes = 0; rw = 0 }

-- the acts with their boxes are those of the subscriptions
pub all_within : (n k : ℕ) (held : List (HeldAct Heard)) (subs : List Sub) → length subs ≤ k
    → map act_of held ≡ map (λ (s : Sub). s.act) (take k subs)
    → All (λ (s : Sub). IsWithin n s.act) subs → All (λ h. IsWithin n (act_of h)) held
all_within n k held subs whole same all j d below =
    let acts : map act_of held ≡ map (λ (s : Sub). s.act) subs = same ∙ ap (map (λ (s : Sub). s.act)) (take_all k subs whole) in
    let long : length held ≡ length subs = omega (arith, ap length acts, length-map held act_of, length-map subs (λ (s : Sub). s.act)) in
    let there : j < length subs = omega (arith, below, long) in
    let e : Sub = record { filter = no_filter; act = act_of d } in
    let one : act_of (slice_index_or held j d) ≡ (slice_index_or subs j e).act =
    sym (get_or-map act_of held j d) ∙ (ap (λ l. slice_index_or l j (act_of d)) acts ∙ get_or-map (λ (s : Sub). s.act) subs j e) in
    subst (IsWithin n) (sym one) (all j e there)

pub as_long : (k : ℕ) (held : List (HeldAct Heard)) (subs : List Sub) → length subs ≤ k
    → map act_of held ≡ map (λ (s : Sub). s.act) (take k subs) → length held ≡ length subs
as_long k held subs whole same =
    let acts : map act_of held ≡ map (λ (s : Sub). s.act) subs = same ∙ ap (map (λ (s : Sub). s.act)) (take_all k subs whole) in
    omega (arith, ap length acts, length-map held act_of, length-map subs (λ (s : Sub). s.act))
