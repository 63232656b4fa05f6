-- What the closer of a plug-in was told of each set that has ended.
use Rattle.std.proofs.Common.{◌≡◌, ◌≢◌, ◌==◌, ◌&&◌, ◌+◌, ◌-◌, ◌<◌, ◌≤◌, ◌∷◌, [], ◌++◌, ◌∙◌, ℕ, zero, suc, Bool, true, false, not, List}
use Rattle.std.proofs.Common.{Option, Some, None, refl, sym, ap, subst, arith, inl, inr, nat_lt, nat_le, length, map, append-nil}
use Rattle.std.specs.Prelude.{if◌then◌else◌, slice_set, slice_get, slice_index_or, is_some}
use Rattle.std.specs.List.{flat_map}
use Rattle.std.proofs.lemmas.Bool.{cases_Bool, cases_lt, false≢true, and_right}
use Rattle.std.proofs.lemmas.Bool.Decides.{nat_tests}
use Rattle.std.proofs.lemmas.List.{length-append, get_or_append_left, get_or_past}
use Rattle.std.proofs.lemmas.Option.{slice_get-get_or}
use Rattle.std.proofs.Math.Seq.{get_or-append_seam}
use Rattle.flat_model.specs.declared.plugins.SetSpec.{SetSpec}
use Rattle.flat_model.specs.declared.journals.How.{How}
use Rattle.flat_model.specs.declared.journals.How.TheVariants as how
use Rattle.flat_model.specs.declared.journals.Item.{Item}
use Rattle.flat_model.specs.declared.journals.Item.TheVariants.{Step, Ordered, GaveBack, Left, Told, Got, Took}
use Rattle.flat_model.specs.declared.journals.Order.{Order}
use Rattle.flat_model.specs.declared.journals.Order.TheVariants.{Install, Register, Reset, Uninstall}
use Rattle.flat_model.specs.declared.journals.PlugState.{PlugState}
use Rattle.flat_model.specs.declared.journals.PlugState.TheVariants.{Live, Idle, Resetting, Leaving, Gone}
use Rattle.flat_model.specs.Registry.{Plugins, Plugin, no_plugin, plugin_of, sets_of, is_installed, registry, after_order, after_done}
use Rattle.flat_model.specs.Registry.{with_plugin, with_set, withdrawn, done_state, ending_by, ending_of, next_state}
use Rattle.flat_model.specs.Registry.{owes, is_closing, is_complete, is_withdrawing, withdraws}
use Rattle.watcher_api.specs.Attachment.{Attachment}
use Rattle.run_rules.specs.Guest.{Run, plugins}
use Rattle.run_rules.specs.Due.{allowed}
use Rattle.run_rules.specs.Heard.{progress, set_at, no_set, is_live, is_listening}
use Rattle.run_rules.specs.Legal.{Legal, Rule}
use Rattle.run_rules.specs.Laws.{EndingsFit}
use Rattle.run_rules.proofs.Endings.{endings_go_with_states}
use Rattle.run_rules.proofs.Fitting.{register_admitted, reset_admitted, uninstall_admitted, complete, number_is, append_last, append_other}
use Rattle.run_rules.proofs.Fitting.{other_place, same_place, left_at, installed_from, installed_within}
use Rattle.run_rules.proofs.Growing.{fresh, step_none, sets_at, item_grows}
use Rattle.run_rules.proofs.Turns.{first_true}
use Rattle.run_order.specs.Sets.{Notice, attachment_of, harts_of, boxes_back, notice_of, notices_of}
use Rattle.kept_order.specs.Summing.{made_of, set_made, HasSet, EndedSetsAreTold}
use Rattle.kept_order.proofs.Ends.{last_ending}
use mathlib.Core.Path.{fun_ext}

-- How many notices there are, by a plug-in's state and how its last set has ended: one for each set that has ended, but that one which is
-- being withdrawn, and one more where the plug-in was uninstalled while Idle.

abbrev CountsIn : PlugState → ℕ → ℕ → Option How → Type 0
CountsIn Live n sets last = n + 1 ≡ sets
CountsIn Idle n sets last = (n ≡ sets) × (last ≡ Some how.Reset) × (1 ≤ sets)
CountsIn Resetting n sets last = (n + 1 ≡ sets) × (last ≡ Some how.Reset)
CountsIn Leaving n sets None = ⊥
CountsIn Leaving n sets (Some how.Reset) = (n ≡ sets) × (1 ≤ sets)
CountsIn Leaving n sets (Some how.Uninstall) = n + 1 ≡ sets
CountsIn Gone n sets last = (sets ≤ n) × (sets ≡ 0 → n ≡ 0)

abbrev Counts : ℕ → Plugin → Type 0
Counts n p = CountsIn p.state n (length p.sets) (last_ending p)

registered : (s : PlugState) (n sets : ℕ) (last : Option How) (q : ℕ) (spec : SetSpec)
    → is_some (next_state (Register q spec) s) ≡ true → CountsIn s n sets last → n + 1 ≡ sets + 1
registered Live n sets last q spec some c = absurd (false≢true some)
registered Idle n sets last q spec some c = omega (arith, c.0)
registered Resetting n sets last q spec some c = absurd (false≢true some)
registered Leaving n sets last q spec some c = absurd (false≢true some)
registered Gone n sets last q spec some c = absurd (false≢true some)

last_of : (endings : List How) (h : How) → slice_get (endings ++ h ∷ []) (length endings) ≡ Some h
last_of [] h = refl
last_of (x ∷ endings) h = last_of endings h

ended_by : (endings : List How) (h : How) (sets : ℕ) → length endings + 1 ≡ sets → slice_get (endings ++ h ∷ []) (sets - 1) ≡ Some h
ended_by endings h sets long =
    ap (slice_get (endings ++ h ∷ [])) {x = sets - 1} {y = length endings} (omega (arith, long)) ∙ last_of endings h

reset : (s : PlugState) (n sets : ℕ) (endings : List How) (q : ℕ) → is_some (next_state (Reset q) s) ≡ true
    → (is_live s ≡ true → length endings + 1 ≡ sets) → CountsIn s n sets (slice_get endings (sets - 1))
    → CountsIn Resetting n sets (slice_get (endings ++ ending_by s how.Reset) (sets - 1))
reset Live n sets endings q some long c = (c, ended_by endings how.Reset sets (long refl))
reset Idle n sets endings q some long c = absurd (false≢true some)
reset Resetting n sets endings q some long c = absurd (false≢true some)
reset Leaving n sets endings q some long c = absurd (false≢true some)
reset Gone n sets endings q some long c = absurd (false≢true some)

uninstalled : (s : PlugState) (n sets : ℕ) (endings : List How) (q : ℕ) → is_some (next_state (Uninstall q) s) ≡ true
    → (is_live s ≡ true → length endings + 1 ≡ sets) → CountsIn s n sets (slice_get endings (sets - 1))
    → CountsIn Leaving n sets (slice_get (endings ++ ending_by s how.Uninstall) (sets - 1))
uninstalled Live n sets endings q some long c =
    subst (CountsIn Leaving n sets) (sym (ended_by endings how.Uninstall sets (long refl))) c
uninstalled Idle n sets endings q some long c =
    subst (CountsIn Leaving n sets) (sym (ap (λ (hs : List How). slice_get hs (sets - 1)) (append-nil endings) ∙ c.1)) (c.0, c.2)
uninstalled Resetting n sets endings q some long c = absurd (false≢true some)
uninstalled Leaving n sets endings q some long c = absurd (false≢true some)
uninstalled Gone n sets endings q some long c = absurd (false≢true some)

told : (s : PlugState) (n sets : ℕ) (last : Option How) → is_closing s ≡ true → CountsIn s n sets last
    → CountsIn (done_state s) (n + 1) sets last
told Live n sets last closing c = absurd (false≢true closing)
told Idle n sets last closing c = absurd (false≢true closing)
told Resetting n sets last closing c = (c.0, c.1, omega (arith, c.0))
told Leaving n sets None closing c = absurd c
told Leaving n sets (Some how.Reset) closing c = (omega (arith, c.0), λ none. absurd (omega (arith, c.1, none)))
told Leaving n sets (Some how.Uninstall) closing c = (omega (arith, c), λ none. absurd (omega (arith, c, none)))
told Gone n sets last closing c = absurd (false≢true closing)

-- a plug-in that an item changes, and one that it doesn't
placed : (P : Plugin → Type 0) (r : Plugins) (number plugin : ℕ) (p : Plugin) → is_installed r number ≡ true → 1 ≤ plugin
    → P (plugin_of r plugin) → (P (plugin_of r number) → P p) → P (plugin_of (with_plugin r number p) plugin)
placed P r number plugin p installed one old new =
    elim (cases_Bool (number == plugin)) [
      | inl at ↦
          let e : number ≡ plugin = number_is number plugin at in
          subst (λ (n : ℕ). P (plugin_of (with_plugin r number p) n)) e
          (subst P (sym (same_place r number p (installed_within r number installed)))
          (new (subst (λ (n : ℕ). P (plugin_of r n)) (sym e) old)))
      | inr off ↦ subst P (sym (other_place r number plugin p (installed_from r number installed) one off)) old
    ]

abbrev AllFit : Plugins → Type 0
AllFit r = (q : ℕ) → 1 ≤ q → EndingsFit (plugin_of r q)

order_counts : (r : Plugins) (order : Order) (plugin n : ℕ) → 1 ≤ plugin → allowed r order ≡ true → AllFit r
    → Counts n (plugin_of r plugin) → Counts n (plugin_of (after_order order r) plugin)
order_counts r (Install spec) plugin n one is fit c =
    elim (cases_Bool (length r.plugins + 1 == plugin)) [
      | inl at ↦
          let e : plugin - 1 ≡ length r.plugins = omega (arith, number_is (length r.plugins + 1) plugin at) in
          let absent : plugin_of r plugin ≡ no_plugin = get_or_past r.plugins (plugin - 1) no_plugin (omega (arith, e)) in
          let none : Counts n no_plugin = subst (Counts n) absent c in
          subst (Counts n) (sym (append_last r.plugins (fresh r spec) (plugin - 1) e)) (ap (λ (k : ℕ). k + 1) (none.1 refl))
      | inr off ↦
          let apart : (plugin - 1) ≢ length r.plugins = λ e. grind (arith, nat_tests, off, e, one) in
          subst (Counts n) (sym (append_other r.plugins (fresh r spec) (plugin - 1) apart)) c
    ]
order_counts r (Register number spec) plugin n one is fit c =
    let a = register_admitted r number spec is in
    let p = plugin_of r number in
    placed (Counts n) r number plugin (with_set p spec) a.0 one c
    (λ old. registered p.state n (length p.sets) (last_ending p) number spec a.1 old ∙ sym (length-append p.sets (spec ∷ [])))
order_counts r (Reset number) plugin n one is fit c =
    let a = reset_admitted r number is in
    let p = plugin_of r number in
    placed (Counts n) r number plugin (withdrawn p Resetting how.Reset r.gone) a.0 one c
    (reset p.state n (length p.sets) p.endings number a.1 (fit number (installed_from r number a.0)).0)
order_counts r (Uninstall number) plugin n one is fit c =
    let a = uninstall_admitted r number is in
    let p = plugin_of r number in
    placed (Counts n) r number plugin (withdrawn p Leaving how.Uninstall r.gone) a.0 one c
    (uninstalled p.state n (length p.sets) p.endings number a.1 (fit number (installed_from r number a.0)).0)

one_more : (notices : List Notice) (n : Notice) → length notices + 1 ≡ length (notices ++ n ∷ [])
one_more notices n = omega (arith, length-append notices (n ∷ []))

item_counts : (run : Run) (plugin : ℕ) (x : Item) (past : List Item) → 1 ≤ plugin → Rule run x past → AllFit (plugins run past)
    → Counts (length (notices_of run plugin past)) (plugin_of (plugins run past) plugin)
    → Counts (length (notices_of run plugin (x ∷ past))) (plugin_of (plugins run (x ∷ past)) plugin)
unfolding registry notices_of
item_counts run plugin (Step hart) past one rule fit c = c
item_counts run plugin (Ordered origin order) past one rule fit c =
    order_counts (plugins run past) order plugin (length (notices_of run plugin past)) one rule.allowed fit c
item_counts run plugin (GaveBack hart number) past one rule fit c =
    let r = plugins run past in
    let p = plugin_of r number in
    placed (Counts (length (notices_of run plugin past))) r number plugin (record p { owing = slice_set p.owing hart false })
    (first_true (is_installed r number) _ (first_true (owes r hart number) _ rule)) one c (λ same. same)
item_counts run plugin (Left hart) past one rule fit c =
    subst (Counts (length (notices_of run plugin past))) (sym (left_at hart (plugins run past).plugins (plugin - 1))) c
item_counts run plugin (Told party number) past one rule fit c =
    let r = plugins run past in
    let p = plugin_of r number in
    let now = record p { state = done_state p.state } in
    let done = complete r number 0 (first_true (is_complete r number) _ rule) in
    let notices = notices_of run plugin past in
    elim (cases_Bool (number == plugin)) [
      | inl at ↦
          let e : number ≡ plugin = number_is number plugin at in
          let own : Counts (length notices) p = subst (λ (n : ℕ). Counts (length notices) (plugin_of r n)) (sym e) c in
          let next : Counts (length notices + 1) now = told p.state (length notices) (length p.sets) (last_ending p) done.1 own in
          rw at (subst (λ (n : ℕ). Counts n (plugin_of (after_done number r) plugin)) (one_more notices (notice_of run plugin past))
          (subst (λ (n : ℕ). Counts (length notices + 1) (plugin_of (after_done number r) n)) e
          (subst (Counts (length notices + 1)) (sym (same_place r number now (installed_within r number done.0))) next)))
      | inr off ↦
          rw off (subst (Counts (length notices)) (sym (other_place r number plugin now (installed_from r number done.0) one off)) c)
    ]
item_counts run plugin (Got hart number) past one rule fit c = c
item_counts run plugin (Took party number) past one rule fit c = c

opening_counts : (run : Run) (plugin : ℕ) → Counts (length (notices_of run plugin [])) (plugin_of (plugins run []) plugin)
unfolding registry notices_of
opening_counts run plugin = (omega arith, λ none. refl)

notices_count : (run : Run) (plugin : ℕ) (past : List Item) → 1 ≤ plugin → Legal run past
    → Counts (length (notices_of run plugin past)) (plugin_of (plugins run past) plugin)
unfolding Legal
notices_count run plugin [] one legal = opening_counts run plugin
notices_count run plugin (x ∷ past) one legal =
    item_counts run plugin x past one legal.1 (λ q low. endings_go_with_states run q past low legal.0)
    (notices_count run plugin past one legal.0)

-- A set that has been registered keeps its place.

abbrev set_in : List Plugin → ℕ → ℕ → SetSpec
set_in ps i k = slice_index_or (slice_index_or ps i no_plugin).sets k no_set

abbrev KeepsSets : List Plugin → List Plugin → Type 0
KeepsSets ps qs = (i k : ℕ) → k < sets_at ps i → set_in qs i k ≡ set_in ps i k

set_keeps : (ps : List Plugin) (j : ℕ) (x : Plugin)
    → ((k : ℕ) → k < sets_at ps j → slice_index_or x.sets k no_set ≡ set_in ps j k) → KeepsSets ps (slice_set ps j x)
set_keeps [] j x same i k low = refl
set_keeps (p ∷ ps) zero x same zero k low = same k low
set_keeps (p ∷ ps) zero x same (suc i) k low = refl
set_keeps (p ∷ ps) (suc j) x same zero k low = refl
set_keeps (p ∷ ps) (suc j) x same (suc i) k low = set_keeps ps j x same i k low

append_keeps : (ps : List Plugin) (x : Plugin) → KeepsSets ps (ps ++ x ∷ [])
append_keeps [] x i k low = absurd (omega (arith, low))
append_keeps (p ∷ ps) x zero k low = refl
append_keeps (p ∷ ps) x (suc i) k low = append_keeps ps x i k low

order_keeps : (r : Plugins) (order : Order) → KeepsSets r.plugins (after_order order r).plugins
order_keeps r (Install spec) = append_keeps r.plugins (fresh r spec)
order_keeps r (Register number spec) =
    let p = plugin_of r number in
    set_keeps r.plugins (number - 1) (with_set p spec) (λ k low. get_or_append_left p.sets (spec ∷ []) no_set k low)
order_keeps r (Reset number) =
    set_keeps r.plugins (number - 1) (withdrawn (plugin_of r number) Resetting how.Reset r.gone) (λ k low. refl)
order_keeps r (Uninstall number) =
    set_keeps r.plugins (number - 1) (withdrawn (plugin_of r number) Leaving how.Uninstall r.gone) (λ k low. refl)

item_keeps : (run : Run) (x : Item) (past : List Item) → KeepsSets (plugins run past).plugins (plugins run (x ∷ past)).plugins
unfolding registry
item_keeps run (Step hart) past = λ i k low. refl
item_keeps run (Ordered origin order) past = order_keeps (plugins run past) order
item_keeps run (GaveBack hart number) past =
    let r = plugins run past in
    let p = plugin_of r number in
    set_keeps r.plugins (number - 1) (record p { owing = slice_set p.owing hart false }) (λ k low. refl)
item_keeps run (Left hart) past = λ i k low.
    ap (λ (p : Plugin). slice_index_or p.sets k no_set) (left_at hart (plugins run past).plugins i)
item_keeps run (Told party number) past =
    let r = plugins run past in
    let p = plugin_of r number in
    set_keeps r.plugins (number - 1) (record p { state = done_state p.state }) (λ k low. refl)
item_keeps run (Got hart number) past = λ i k low. refl
item_keeps run (Took party number) past = λ i k low. refl

installed_if : (r : Plugins) (plugin k : ℕ) → 1 ≤ plugin → k < length (plugin_of r plugin).sets → is_installed r plugin ≡ true
installed_if r plugin k one low =
    elim (cases_lt (plugin - 1) (length r.plugins)) [
      | inl within ↦ grind (arith, nat_tests, one, within)
      | inr beyond ↦
          let none : plugin_of r plugin ≡ no_plugin = get_or_past r.plugins (plugin - 1) no_plugin beyond in
          absurd (omega (arith, subst (λ (p : Plugin). k < length p.sets) none low))
    ]

installed_more : (plugin least most : ℕ) → least ≤ most → (nat_lt 0 plugin && nat_le plugin least) ≡ true
    → (nat_lt 0 plugin && nat_le plugin most) ≡ true
installed_more plugin least most le is = grind (arith, nat_tests, le, is)

abbrev spec_if : Bool → List SetSpec → ℕ → SetSpec
spec_if installed sets k = slice_index_or (if installed then sets else []) k no_set

same_set : (run : Run) (plugin k : ℕ) (x : Item) (past : List Item) → 1 ≤ plugin → k < length (plugin_of (plugins run past) plugin).sets
    → set_at run plugin k (x ∷ past) ≡ set_at run plugin k past
same_set run plugin k x past one low =
    let r = plugins run past in
    let now = plugins run (x ∷ past) in
    let was : is_installed r plugin ≡ true = installed_if r plugin k one low in
    let is : is_installed now plugin ≡ true =
    installed_more plugin (length r.plugins) (length now.plugins) (item_grows run x past).more was in
    ap (λ (b : Bool). spec_if b (plugin_of now plugin).sets k) is ∙ item_keeps run x past (plugin - 1) k low
    ∙ ap (λ (b : Bool). spec_if b (plugin_of r plugin).sets k) (sym was)

-- A set that has ended hears nothing more.

unheard : (r : Plugins) (plugin k : ℕ) → is_installed r plugin ≡ true → k < length (plugin_of r plugin).endings
    → is_listening r plugin k ≡ false
unheard r plugin k installed below =
    let endings = (plugin_of r plugin).endings in
    let some : is_some (ending_of r plugin k) ≡ true =
    ap (λ (b : Bool). is_some (if b then slice_get endings k else None)) installed
    ∙ ap is_some (slice_get-get_or endings k how.Reset below) in
    and_right (nat_lt k (length (sets_of r plugin))) (not (is_some (ending_of r plugin k))) (ap not some)

hears_no_more : (run : Run) (spec : SetSpec) (plugin set h : ℕ) (x : Item) (past : List Item)
    → is_listening (plugins run past) plugin set ≡ false
    → progress run spec plugin set h (x ∷ past) ≡ progress run spec plugin set h past
unfolding progress
hears_no_more run spec plugin set h (Step hart) past none = step_none run spec plugin set h hart past none
hears_no_more run spec plugin set h (Ordered origin order) past none = refl
hears_no_more run spec plugin set h (GaveBack hart number) past none = refl
hears_no_more run spec plugin set h (Left hart) past none = refl
hears_no_more run spec plugin set h (Told party number) past none = refl
hears_no_more run spec plugin set h (Got hart number) past none = refl
hears_no_more run spec plugin set h (Took party number) past none = refl

abbrev Has : Run → ℕ → ℕ → List Item → Notice → Type 0
Has run plugin set past n = HasSet (harts_of run) (λ h. set_made run plugin set h past) n

still_has : (run : Run) (plugin k : ℕ) (x : Item) (past : List Item) (n : Notice) → 1 ≤ plugin
    → k < length (plugin_of (plugins run past) plugin).sets → k < length (plugin_of (plugins run past) plugin).endings
    → Has run plugin k past n → Has run plugin k (x ∷ past) n
still_has run plugin k x past n one low below has =
    let r = plugins run past in
    let none : is_listening r plugin k ≡ false = unheard r plugin k (installed_if r plugin k one low) below in
    let spec = set_at run plugin k past in
    subst (λ (sets : ℕ → Attachment). HasSet (harts_of run) sets n) (fun_ext (λ h. sym
    (ap (λ (s : SetSpec). made_of plugin s (progress run s plugin k h (x ∷ past))) (same_set run plugin k x past one low)
    ∙ ap (made_of plugin spec) (hears_no_more run spec plugin k h x past none)))) has

-- Each notice has the set at its place.

ended_many : (s : PlugState) (n sets endings k : ℕ) (last : Option How) → CountsIn s n sets last
    → (is_live s ≡ true → endings + 1 ≡ sets) → (is_live s ≡ false → endings ≡ sets) → k < n → k < sets → k < endings
ended_many Live n sets endings k last c live dead below low = omega (arith, c, live refl, below)
ended_many Idle n sets endings k last c live dead below low = omega (arith, dead refl, low)
ended_many Resetting n sets endings k last c live dead below low = omega (arith, dead refl, low)
ended_many Leaving n sets endings k last c live dead below low = omega (arith, dead refl, low)
ended_many Gone n sets endings k last c live dead below low = omega (arith, dead refl, low)

-- a set for which there is a notice was there before
order_within : (r : Plugins) (order : Order) (plugin n k : ℕ) → 1 ≤ plugin → allowed r order ≡ true
    → Counts n (plugin_of r plugin) → k < n → k < length (plugin_of (after_order order r) plugin).sets
    → k < length (plugin_of r plugin).sets
order_within r (Install spec) plugin n k one is c below =
    elim (cases_Bool (length r.plugins + 1 == plugin)) [
      | inl at ↦
          let e : plugin - 1 ≡ length r.plugins = omega (arith, number_is (length r.plugins + 1) plugin at) in
          let absent : plugin_of r plugin ≡ no_plugin = get_or_past r.plugins (plugin - 1) no_plugin (omega (arith, e)) in
          let none : Counts n no_plugin = subst (Counts n) absent c in
          λ low. absurd (omega (arith, none.1 refl, below))
      | inr off ↦
          let apart : (plugin - 1) ≢ length r.plugins = λ e. grind (arith, nat_tests, off, e, one) in
          subst (λ (p : Plugin). k < length p.sets) (append_other r.plugins (fresh r spec) (plugin - 1) apart)
    ]
order_within r (Register number spec) plugin n k one is c below =
    let a = register_admitted r number spec is in
    let p = plugin_of r number in
    elim (cases_Bool (number == plugin)) [
      | inl at ↦
          let e : number ≡ plugin = number_is number plugin at in
          let own : Counts n p = subst (λ (i : ℕ). Counts n (plugin_of r i)) (sym e) c in
          let long : n + 1 ≡ length p.sets + 1 = registered p.state n (length p.sets) (last_ending p) number spec a.1 own in
          λ low. subst (λ (i : ℕ). k < length (plugin_of r i).sets) e (omega (arith, long, below))
      | inr off ↦
          subst (λ (q : Plugin). k < length q.sets)
          (other_place r number plugin (with_set p spec) (installed_from r number a.0) one off)
    ]
order_within r (Reset number) plugin n k one is c below =
    placed (λ p. k < length p.sets → k < length (plugin_of r plugin).sets) r number plugin
    (withdrawn (plugin_of r number) Resetting how.Reset r.gone) (reset_admitted r number is).0 one (λ low. low) (λ same. same)
order_within r (Uninstall number) plugin n k one is c below =
    placed (λ p. k < length p.sets → k < length (plugin_of r plugin).sets) r number plugin
    (withdrawn (plugin_of r number) Leaving how.Uninstall r.gone) (uninstall_admitted r number is).0 one (λ low. low) (λ same. same)

item_within : (run : Run) (plugin k : ℕ) (x : Item) (past : List Item) → 1 ≤ plugin → Rule run x past
    → Counts (length (notices_of run plugin past)) (plugin_of (plugins run past) plugin) → k < length (notices_of run plugin past)
    → k < length (plugin_of (plugins run (x ∷ past)) plugin).sets → k < length (plugin_of (plugins run past) plugin).sets
unfolding registry
item_within run plugin k (Step hart) past one rule c below = λ low. low
item_within run plugin k (Ordered origin order) past one rule c below =
    order_within (plugins run past) order plugin (length (notices_of run plugin past)) k one rule.allowed c below
item_within run plugin k (GaveBack hart number) past one rule c below =
    let r = plugins run past in
    let p = plugin_of r number in
    placed (λ q. k < length q.sets → k < length (plugin_of r plugin).sets) r number plugin
    (record p { owing = slice_set p.owing hart false })
    (first_true (is_installed r number) _ (first_true (owes r hart number) _ rule)) one (λ low. low) (λ same. same)
item_within run plugin k (Left hart) past one rule c below =
    subst (λ (p : Plugin). k < length p.sets) (left_at hart (plugins run past).plugins (plugin - 1))
item_within run plugin k (Told party number) past one rule c below =
    let r = plugins run past in
    let p = plugin_of r number in
    placed (λ q. k < length q.sets → k < length (plugin_of r plugin).sets) r number plugin (record p { state = done_state p.state })
    (complete r number 0 (first_true (is_complete r number) _ rule)).0 one (λ low. low) (λ same. same)
item_within run plugin k (Got hart number) past one rule c below = λ low. low
item_within run plugin k (Took party number) past one rule c below = λ low. low

-- what is told of a set that is withdrawn is the last
told_last : (s : PlugState) (n sets : ℕ) (last : Option How) → is_closing s ≡ true → CountsIn s n sets last → n < sets
    → (n + 1 ≡ sets) × (withdraws s last ≡ true)
told_last Live n sets last closing c low = absurd (false≢true closing)
told_last Idle n sets last closing c low = absurd (false≢true closing)
told_last Resetting n sets last closing c low = (c.0, refl)
told_last Leaving n sets None closing c low = absurd c
told_last Leaving n sets (Some how.Reset) closing c low = absurd (omega (arith, c.0, low))
told_last Leaving n sets (Some how.Uninstall) closing c low = (c, refl)
told_last Gone n sets last closing c low = absurd (false≢true closing)

closing_dead : (s : PlugState) → is_closing s ≡ true → is_live s ≡ false
closing_dead Live closing = absurd (false≢true closing)
closing_dead Idle closing = refl
closing_dead Resetting closing = refl
closing_dead Leaving closing = refl
closing_dead Gone closing = refl

-- the notice of a set that is withdrawn has it
notice_has : (run : Run) (plugin : ℕ) (past : List Item) → is_withdrawing (plugins run past) plugin ≡ true
    → HasSet (harts_of run) (λ h. attachment_of run plugin h past) (notice_of run plugin past)
notice_has run plugin past is = record {
  boxes = ap (λ (b : Bool). flat_map (λ h. boxes_back h (attachment_of run plugin h past)) (if b then harts_of run else [])) is;
  columns = ap (λ (b : Bool). map (λ h. record { hart = h; column = (attachment_of run plugin h past).column })
      (if b then harts_of run else [])) is;
}

abbrev AllTold : Run → ℕ → List Item → Type 0
AllTold run plugin past = (k : ℕ) (d : Notice) → k < length (notices_of run plugin past)
    → k < length (plugin_of (plugins run past) plugin).sets
    → Has run plugin k past (slice_index_or (notices_of run plugin past) k d)

-- an item after which there are the same notices
same_told : (run : Run) (plugin : ℕ) (x : Item) (past : List Item) → 1 ≤ plugin → Rule run x past
    → EndingsFit (plugin_of (plugins run past) plugin)
    → Counts (length (notices_of run plugin past)) (plugin_of (plugins run past) plugin)
    → notices_of run plugin (x ∷ past) ≡ notices_of run plugin past → AllTold run plugin past → AllTold run plugin (x ∷ past)
same_told run plugin x past one rule fit c same all k d below low =
    let notices = notices_of run plugin past in
    let p = plugin_of (plugins run past) plugin in
    let under : k < length notices = subst (λ (ns : List Notice). k < length ns) same below in
    let within : k < length p.sets = item_within run plugin k x past one rule c under low in
    let has : Has run plugin k (x ∷ past) (slice_index_or notices k d) =
    still_has run plugin k x past (slice_index_or notices k d) one within
    (ended_many p.state (length notices) (length p.sets) (length p.endings) k (last_ending p) c fit.0 fit.1 under within)
    (all k d under within) in
    subst (λ (ns : List Notice). Has run plugin k (x ∷ past) (slice_index_or ns k d)) (sym same) has

-- a Done, after which there is one more
next_told : (run : Run) (plugin party : ℕ) (past : List Item) → 1 ≤ plugin → Rule run (Told party plugin) past
    → EndingsFit (plugin_of (plugins run past) plugin)
    → Counts (length (notices_of run plugin past)) (plugin_of (plugins run past) plugin)
    → AllTold run plugin past → (k : ℕ) (d : Notice) → k < length (notices_of run plugin past ++ notice_of run plugin past ∷ [])
    → k < length (plugin_of (plugins run past) plugin).sets
    → Has run plugin k (Told party plugin ∷ past) (slice_index_or (notices_of run plugin past ++ notice_of run plugin past ∷ []) k d)
next_told run plugin party past one rule fit c all k d below low =
    let now = Told party plugin ∷ past in
    let notices = notices_of run plugin past in
    let last = notice_of run plugin past in
    let r = plugins run past in
    let p = plugin_of r plugin in
    let done = complete r plugin 0 (first_true (is_complete r plugin) _ rule) in
    let dead : length p.endings ≡ length p.sets = fit.1 (closing_dead p.state done.1) in
    let within : k < length p.endings = omega (arith, dead, low) in
    elim (cases_lt k (length notices)) [
      | inl under ↦
          subst (Has run plugin k now) (sym (get_or_append_left notices (last ∷ []) d k under))
          (still_has run plugin k (Told party plugin) past (slice_index_or notices k d) one low within (all k d under low))
      | inr over ↦
          let at : k ≡ length notices = omega (arith, over, below, length-append notices (last ∷ [])) in
          let t = told_last p.state (length notices) (length p.sets) (last_ending p) done.1 c (omega (arith, at, low)) in
          let listed : length (sets_of r plugin) ≡ length p.sets = ap (λ (b : Bool). length (if b then p.sets else [])) done.0 in
          let place : length (sets_of r plugin) - 1 ≡ k = omega (arith, at, t.0, listed) in
          let is : is_withdrawing r plugin ≡ true = ap (λ (b : Bool). b && withdraws p.state (last_ending p)) done.0 ∙ t.1 in
          let has : Has run plugin k past last = subst (λ (i : ℕ). Has run plugin i past last) place (notice_has run plugin past is) in
          let stands : slice_index_or (notices ++ last ∷ []) k d ≡ last =
          ap (λ (i : ℕ). slice_index_or (notices ++ last ∷ []) i d) at ∙ get_or-append_seam notices last [] d in
          subst (Has run plugin k now) (sym stands)
          (still_has run plugin k (Told party plugin) past last one low within has)
    ]

own_notices : (run : Run) (plugin party : ℕ) (past : List Item)
    → notices_of run plugin (Told party plugin ∷ past) ≡ notices_of run plugin past ++ notice_of run plugin past ∷ []
unfolding notices_of
own_notices run plugin party past =
    let own : (plugin == plugin) ≡ true = grind (arith, nat_tests) in
    rw own refl

other_notices : (run : Run) (plugin party number : ℕ) (past : List Item) → (number == plugin) ≡ false
    → notices_of run plugin (Told party number ∷ past) ≡ notices_of run plugin past
unfolding notices_of
other_notices run plugin party number past off = rw off refl

done_told : (run : Run) (plugin party : ℕ) (past : List Item) → 1 ≤ plugin → Rule run (Told party plugin) past
    → EndingsFit (plugin_of (plugins run past) plugin)
    → Counts (length (notices_of run plugin past)) (plugin_of (plugins run past) plugin)
    → AllTold run plugin past → AllTold run plugin (Told party plugin ∷ past)
unfolding registry
done_told run plugin party past one rule fit c all k d below low =
    let r = plugins run past in
    let p = plugin_of r plugin in
    let done = complete r plugin 0 (first_true (is_complete r plugin) _ rule) in
    let own = own_notices run plugin party past in
    let within : k < length p.sets =
    subst (λ (q : Plugin). k < length q.sets)
    (same_place r plugin (record p { state = done_state p.state }) (installed_within r plugin done.0)) low in
    subst (λ (ns : List Notice). Has run plugin k (Told party plugin ∷ past) (slice_index_or ns k d)) (sym own)
    (next_told run plugin party past one rule fit c all k d (subst (λ (ns : List Notice). k < length ns) own below) within)

abbrev IsNext : Run → ℕ → List Item → Item → Type 0
IsNext run plugin past x = Rule run x past → AllTold run plugin (x ∷ past)

item_told : (run : Run) (plugin : ℕ) (x : Item) (past : List Item) → 1 ≤ plugin → Rule run x past
    → EndingsFit (plugin_of (plugins run past) plugin)
    → Counts (length (notices_of run plugin past)) (plugin_of (plugins run past) plugin)
    → AllTold run plugin past → AllTold run plugin (x ∷ past)
unfolding notices_of
item_told run plugin (Step hart) past one rule fit c all = same_told run plugin (Step hart) past one rule fit c refl all
item_told run plugin (Ordered origin order) past one rule fit c all =
    same_told run plugin (Ordered origin order) past one rule fit c refl all
item_told run plugin (GaveBack hart number) past one rule fit c all =
    same_told run plugin (GaveBack hart number) past one rule fit c refl all
item_told run plugin (Left hart) past one rule fit c all = same_told run plugin (Left hart) past one rule fit c refl all
item_told run plugin (Told party number) past one rule fit c all =
    elim (cases_Bool (number == plugin)) [
      | inl at ↦
          subst (λ (n : ℕ). IsNext run plugin past (Told party n)) (sym (number_is number plugin at))
          (λ own. done_told run plugin party past one own fit c all) rule
      | inr off ↦ same_told run plugin (Told party number) past one rule fit c (other_notices run plugin party number past off) all
    ]
item_told run plugin (Got hart number) past one rule fit c all = same_told run plugin (Got hart number) past one rule fit c refl all
item_told run plugin (Took party number) past one rule fit c all =
    same_told run plugin (Took party number) past one rule fit c refl all

none_told : (run : Run) (plugin : ℕ) → AllTold run plugin []
unfolding notices_of
none_told run plugin k d below low = absurd (omega (arith, below))

all_told : (run : Run) (plugin : ℕ) (past : List Item) → 1 ≤ plugin → Legal run past → AllTold run plugin past
unfolding Legal
all_told run plugin [] one legal = none_told run plugin
all_told run plugin (x ∷ past) one legal =
    item_told run plugin x past one legal.1 (endings_go_with_states run plugin past one legal.0)
    (notices_count run plugin past one legal.0) (all_told run plugin past one legal.0)

-- Each set that has ended has its notice, once no withdrawal goes on.

told_many : (s : PlugState) (n sets endings k : ℕ) (last : Option How) → is_closing s ≡ false → CountsIn s n sets last
    → (is_live s ≡ true → endings + 1 ≡ sets) → (is_live s ≡ false → endings ≡ sets) → k < endings → (k < n) × (k < sets)
told_many Live n sets endings k last still c live dead below = (omega (arith, c, live refl, below), omega (arith, live refl, below))
told_many Idle n sets endings k last still c live dead below = (omega (arith, c.0, dead refl, below), omega (arith, dead refl, below))
told_many Resetting n sets endings k last still c live dead below = absurd (false≢true (sym still))
told_many Leaving n sets endings k last still c live dead below = absurd (false≢true (sym still))
told_many Gone n sets endings k last still c live dead below = (omega (arith, c.0, dead refl, below), omega (arith, dead refl, below))

some_within : {A : Type 0} (xs : List A) (k : ℕ) → is_some (slice_get xs k) ≡ true → k < length xs
some_within [] k some = absurd (false≢true some)
some_within (x ∷ xs) zero some = omega arith
some_within (x ∷ xs) (suc k) some = omega (arith, some_within xs k some)

ended_within : (installed : Bool) (endings : List How) (k : ℕ)
    → is_some (if installed then slice_get endings k else None) ≡ true → k < length endings
ended_within true endings k some = some_within endings k some
ended_within false endings k some = absurd (false≢true some)

pub ended_sets_are_told : EndedSetsAreTold
ended_sets_are_told run plugin set past one legal still ended =
    let r = plugins run past in
    let p = plugin_of r plugin in
    let fit : EndingsFit p = endings_go_with_states run plugin past one legal in
    let t = told_many p.state (length (notices_of run plugin past)) (length p.sets) (length p.endings) set (last_ending p) still
    (notices_count run plugin past one legal) fit.0 fit.1 (ended_within (is_installed r plugin) p.endings set ended) in
    record { there = t.0; notice = λ d. all_told run plugin past one legal set d t.0 t.1 }
