-- A set that has just been installed.
use Rattle.std.proofs.Common.{◌≡◌, ◌+◌, ◌-◌, ◌<◌, ◌≤◌, ◌∷◌, [], ◌++◌, ◌∙◌, ℕ, zero, suc, Bool, true, false, List}
use Rattle.std.proofs.Common.{Option, Some, None, refl, sym, ap, subst, arith, length, map, nat_lt, nat_le}
use Rattle.std.specs.Prelude.{if◌then◌else◌, slice_index_or, replicate}
use Rattle.std.specs.List.{range_with_len}
use Rattle.std.proofs.lemmas.Bool.{false≢true, lt-ltb, le-leb, lt-leb, and_right}
use Rattle.std.specs.Cmp.Derive.{both_true}
use Rattle.std.proofs.lemmas.Bool.Decides.{nat_tests}
use Rattle.std.proofs.lemmas.List.{length-append, map-append}
use Rattle.flat_model.specs.declared.plugins.SetSpec.{SetSpec}
use Rattle.flat_model.specs.declared.journals.Item.{Item}
use Rattle.flat_model.specs.declared.journals.Item.TheVariants.{Ordered}
use Rattle.flat_model.specs.declared.journals.Order.TheVariants.{Install}
use Rattle.flat_model.specs.declared.journals.Origin.{Origin}
use Rattle.flat_model.specs.Registry.{Plugins, Plugin, registry, plugin_of, sets_of, is_installed, after_order}
use Rattle.watcher_api.specs.Attachment.{Attachment, opening}
use Rattle.run_rules.specs.Guest.{Run, plugins}
use Rattle.run_rules.specs.Heard.{progress, no_set}
use Rattle.run_rules.specs.Due.{allowed}
use Rattle.run_rules.specs.Legal.{Legal}
use Rattle.run_rules.specs.Places.{Place, place_of, is_waiting, is_parked, registers}
use Rattle.run_rules.proofs.Fitting.{append_last}
use Rattle.run_rules.proofs.Growing.{fresh, later_sets_hear_nothing}
use Rattle.run_rules.proofs.Keeping.{order_sets}
use Rattle.run_order.specs.Sets.{attachment_of, placed_at, shelf}
use Rattle.run_order.specs.Laws.{InstallsWait}
use Rattle.run_order.proofs.Shelves.{map_same}
use Rattle.run_order.proofs.Staying.{made_by}

-- a range that is one longer has one number more at its end
pub range_more : (a n : ℕ) → range_with_len a (suc n) ≡ range_with_len a n ++ (a + n) ∷ []
range_more a zero = ap (λ (k : ℕ). k ∷ []) (omega arith)
range_more a (suc n) =
    ap (λ (ks : List ℕ). a ∷ ks) (range_more (a + 1) n ∙ ap (λ (k : ℕ). range_with_len (a + 1) n ++ k ∷ []) (omega arith))

pub map_one : {A : Type 0} (x : A) (f : ℕ → A) (a n : ℕ) → ((k : ℕ) → a ≤ k → k < a + n → f k ≡ x)
    → map f (range_with_len a n) ≡ replicate n x
map_one x f a zero is = refl
map_one x f a (suc n) is =
    ap (λ y. y ∷ map f (range_with_len (a + 1) n)) (is a (omega arith) (omega arith))
    ∙ ap (λ ys. x ∷ ys) (map_one x f (a + 1) n (λ k low high. is k (omega (arith, low)) (omega (arith, high))))

-- the sets of a plug-in with these, and of one that isn't there
sets_when : (installed : Bool) (sets : List SetSpec) → installed ≡ true → (if installed then sets else []) ≡ sets
sets_when true sets is = refl
sets_when false sets is = absurd (false≢true is)

sets_unless : (installed : Bool) (sets : List SetSpec) → installed ≡ false → (if installed then sets else []) ≡ []
sets_unless true sets is = absurd (false≢true (sym is))
sets_unless false sets is = refl

-- the plug-in that an install adds
pub new_sets : (r : Plugins) (spec : SetSpec) → sets_of (after_order (Install spec) r) (length r.plugins + 1) ≡ spec ∷ []
new_sets r spec =
    let q = after_order (Install spec) r in
    let n = length r.plugins in
    let is : plugin_of q (n + 1) ≡ fresh r spec = append_last r.plugins (fresh r spec) (n + 1 - 1) (omega arith) in
    let there : is_installed q (n + 1) ≡ true =
    both_true (lt-ltb 0 (n + 1) (omega arith)) (le-leb (n + 1) (length q.plugins) (omega (arith, length-append r.plugins (fresh r spec ∷ [])))) in
    sets_when (is_installed q (n + 1)) (plugin_of q (n + 1)).sets there ∙ ap (λ (p : Plugin). p.sets) is

no_sets : (r : Plugins) → sets_of r (length r.plugins + 1) ≡ []
no_sets r =
    let n = length r.plugins in
    sets_unless (is_installed r (n + 1)) (plugin_of r (n + 1)).sets
    (and_right (nat_lt 0 (n + 1)) (nat_le (n + 1) n) (lt-leb (n + 1) n (omega arith)))

abbrev pub last_made : Run → ℕ → ℕ → List SetSpec → List Item → Attachment
last_made run plugin h sets log =
    let spec = slice_index_or sets (length sets - 1) no_set in
    let p = progress run spec plugin (length sets - 1) h log in
    record { plugin = plugin; acts = map (λ s. s.act) spec.subs; heard = p.walk.heard; column = p.walk.column }

new_attachment : (run : Run) (origin : Origin) (spec : SetSpec) (past : List Item) (h : ℕ)
    → attachment_of run (length (plugins run past).plugins + 1) h (Ordered origin (Install spec) ∷ past)
    ≡ opening (length (plugins run past).plugins + 1) spec
unfolding registry progress
new_attachment run origin spec past h =
    let r = plugins run past in
    let n = length r.plugins in
    let none : length (sets_of r (n + 1)) ≤ 0 = omega (arith, ap (λ (sets : List SetSpec). length sets) (no_sets r)) in
    ap (λ (sets : List SetSpec). last_made run (n + 1) h sets past) (new_sets r spec)
    ∙ ap (made_by (n + 1) spec) (later_sets_hear_nothing run spec (n + 1) 0 h past none)

-- the last row
new_waiting : (run : Run) (origin : Origin) (spec : SetSpec) (past : List Item) (n h : ℕ) → n ≡ length (plugins run past).plugins + 1
    → placed_at is_waiting run (Ordered origin (Install spec) ∷ past) n h ≡ Some (opening n spec)
unfolding place_of
new_waiting run origin spec past n h is =
    let at : registers (plugins run past) (Install spec) n ≡ true = grind (arith, nat_tests, is) in
    let same : attachment_of run n h (Ordered origin (Install spec) ∷ past) ≡ opening n spec =
    subst (λ (k : ℕ). attachment_of run k h (Ordered origin (Install spec) ∷ past) ≡ opening k spec) (sym is)
    (new_attachment run origin spec past h) in
    rw at (ap (λ (a : Attachment). Some a) same)

new_parked : (run : Run) (origin : Origin) (spec : SetSpec) (past : List Item) (n h : ℕ) → n ≡ length (plugins run past).plugins + 1
    → placed_at is_parked run (Ordered origin (Install spec) ∷ past) n h ≡ None
unfolding place_of
new_parked run origin spec past n h is =
    let at : registers (plugins run past) (Install spec) n ≡ true = grind (arith, nat_tests, is) in
    rw at refl

-- the other rows
old_attachment : (run : Run) (origin : Origin) (spec : SetSpec) (past : List Item) (plugin h : ℕ)
    → sets_of (after_order (Install spec) (plugins run past)) plugin ≡ sets_of (plugins run past) plugin
    → attachment_of run plugin h (Ordered origin (Install spec) ∷ past) ≡ attachment_of run plugin h past
unfolding registry progress
old_attachment run origin spec past plugin h same = ap (λ (sets : List SetSpec). last_made run plugin h sets past) same

old_placed : (test : Place → Bool) (run : Run) (origin : Origin) (spec : SetSpec) (past : List Item) (plugin h : ℕ)
    → 1 ≤ plugin → plugin < 1 + length (plugins run past).plugins → allowed (plugins run past) (Install spec) ≡ true
    → placed_at test run (Ordered origin (Install spec) ∷ past) plugin h ≡ placed_at test run past plugin h
unfolding place_of
old_placed test run origin spec past plugin h one most is =
    let off : registers (plugins run past) (Install spec) plugin ≡ false = grind (arith, nat_tests, most) in
    let same = old_attachment run origin spec past plugin h (order_sets (plugins run past) (Install spec) plugin one is off) in
    rw off (ap (λ (a : Attachment). if test (place_of run plugin h past) then Some a else None) same)

abbrev row : (Place → Bool) → Run → List Item → ℕ → List (Option Attachment)
row test run past plugin = map (placed_at test run past plugin) (range_with_len 0 run.harts)

-- a shelf with one row more
shelf_more : (test : Place → Bool) (run : Run) (origin : Origin) (spec : SetSpec) (past : List Item) (x : Option Attachment)
    → allowed (plugins run past) (Install spec) ≡ true
    → ((h : ℕ) → placed_at test run (Ordered origin (Install spec) ∷ past) (length (plugins run past).plugins + 1) h ≡ x)
    → shelf test run (Ordered origin (Install spec) ∷ past) ≡ shelf test run past ++ replicate run.harts x ∷ []
unfolding registry
shelf_more test run origin spec past x is last =
    let r = plugins run past in
    let n = length r.plugins in
    let now = Ordered origin (Install spec) ∷ past in
    let long : length (r.plugins ++ fresh r spec ∷ []) ≡ suc n = omega (arith, length-append r.plugins (fresh r spec ∷ [])) in
    ap (λ (k : ℕ). map (row test run now) (range_with_len 1 k)) long
    ∙ ap (map (row test run now)) (range_more 1 n)
    ∙ map-append (row test run now) (range_with_len 1 n) ((1 + n) ∷ [])
    ∙ ap (λ rows. rows ++ row test run now (1 + n) ∷ [])
    (map_same (row test run now) (row test run past) 1 n
    (λ p one most. map_same (placed_at test run now p) (placed_at test run past p) 0 run.harts
    (λ j low high. old_placed test run origin spec past p j one most is)))
    ∙ ap (λ one. shelf test run past ++ one ∷ [])
    (ap (row test run now) {x = 1 + n} {y = n + 1} (omega arith)
    ∙ map_one x (placed_at test run now (n + 1)) 0 run.harts (λ j low high. last j))

pub installs_wait : InstallsWait
unfolding Legal
installs_wait run origin spec past legal state =
    let n = length (plugins run past).plugins in (
      shelf_more is_waiting run origin spec past (Some (opening (n + 1) spec)) legal.1.allowed
          (λ h. new_waiting run origin spec past (n + 1) h refl),
      shelf_more is_parked run origin spec past None legal.1.allowed (λ h. new_parked run origin spec past (n + 1) h refl),
    )
