-- A set that is spelt by parts that keep the rules breaks no rule of sets.
use Rattle.std.proofs.Common.{◌≡◌, ◌≤◌, ◌^◌, ◌-◌, ◌||◌, ◌∷◌, [], ◌∙◌, ℕ, Bool, false, not, List}
use Rattle.std.proofs.Common.{Option, Some, None, refl, ap, arith, cond, length, map, nat_lt}
use Rattle.std.specs.Prelude.{option_map, unwrap_or, position}
use Rattle.std.specs.List.{AllZip, AllByRecursion, position_or_len}
use Rattle.std.proofs.lemmas.Bool.{or_from, cond-true, cond-false, le-ltb, lt-leb}
use Rattle.std.proofs.lemmas.List.{length-map}
use Rattle.flat_model.specs.declared.orders.OrderRefusal.TheVariants.{TooManySubs, TooManyEntries, BadRange, BadEntry}
use Rattle.flat_model.specs.Acts.{calling}
use Rattle.flat_model.specs.Registry.{first, refused_if, has_bad_range, has_bad_entry, entry_at, size_refusal, range_refusal, entry_refusal}
use Rattle.flat_model.specs.Registry.{set_refusal}
use Rattle.run_script.specs.declared.heads.Head.{Head}
use Rattle.run_script.specs.declared.heads.Head.TheVariants.{Boxed, Inline, When}
use Rattle.run_script.specs.declared.items.Item.{Item}
use Rattle.run_script.specs.declared.items.Item.TheVariants.{Kinds, Pc, Class, Rw, Quota, Asks, Then}
use Rattle.run_script.specs.declared.items.Items.{Items}
use Rattle.run_script.specs.declared.items.Span.{Span}
use Rattle.run_script.specs.Heads.{sub_of, entries_of}
use Rattle.run_script.specs.Grammar.{Part, SpellsHead, SpellsPart, SpellsWord}
use Rattle.run_script.specs.Parts.{pc_in, given, items_of, part_sub, entries_in, set_of, IsInRange, KeepsItemRules, KeepsRules}

passes_none : {A : Type 0} (p : A → Bool) (xs : List A) → AllByRecursion (λ x. p x ≡ false) xs → position_or_len p xs ≡ length xs
passes_none p [] each = refl
passes_none p (x ∷ xs) each =
    let ih = passes_none p xs each.1 in
    cond-true _ _ _ (ap not each.0) ∙ omega (arith, ih)

none_passes : {A : Type 0} (p : A → Bool) (xs : List A) → AllByRecursion (λ x. p x ≡ false) xs → position p xs ≡ None
none_passes p xs each =
    let past : length xs ≤ position_or_len p xs = omega (arith, passes_none p xs each) in
    cond-false _ _ _ (le-ltb _ _ past)

abbrev Within : Option Span → Type 0
Within None = Unit {0}
Within (Some span) = span.lo ≤ span.hi

pc_within : (items : List Item) → AllByRecursion IsInRange items → Within (given pc_in items)
pc_within [] each = tt
pc_within (Kinds bits ∷ items) each = pc_within items each.1
pc_within (Pc span ∷ items) each = each.0
pc_within (Class bits ∷ items) each = pc_within items each.1
pc_within (Rw rw ∷ items) each = pc_within items each.1
pc_within (Quota n ∷ items) each = pc_within items each.1
pc_within (Asks ask ∷ items) each = pc_within items each.1
pc_within (Then n ∷ items) each = pc_within items each.1

abbrev all_addresses : Span
all_addresses = record { lo = 0; hi = 2 ^ 64 - 1 }

in_order : (pc : Option Span) → Within pc → nat_lt (unwrap_or pc all_addresses).hi (unwrap_or pc all_addresses).lo ≡ false
in_order None within = refl
in_order (Some span) within = le-ltb span.hi span.lo within

sub_in_order : (part : Part) → KeepsItemRules part → has_bad_range (part_sub part) ≡ false
sub_in_order part rules = in_order (given pc_in part.items) (pc_within part.items rules.range)

subs_in_order : (parts : List Part) → AllByRecursion KeepsItemRules parts
    → AllByRecursion (λ s. has_bad_range s ≡ false) (map part_sub parts)
subs_in_order [] rules = tt
subs_in_order (p ∷ ps) rules = (sub_in_order p rules.0, subs_in_order ps rules.1)

entry_within : (entries : ℕ) (head : Head) (items : Items) → entries_of head ≤ entries → has_bad_entry entries (sub_of head items) ≡ false
entry_within entries (Boxed kind) items h = refl
entry_within entries (Inline op entry imm) items h = lt-leb entries entry (omega (arith, h))
entry_within entries (When cond entry imm kind) items h = lt-leb entries entry (omega (arith, h))

entries_within : (entries : ℕ) (parts : List Part) → entries_in parts ≤ entries
    → AllByRecursion (λ s. has_bad_entry entries s ≡ false) (map part_sub parts)
entries_within entries [] h = tt
entries_within entries (p ∷ ps) h =
    (entry_within entries p.head (items_of p.items) (omega (arith, h)), entries_within entries ps (omega (arith, h)))

head_entries : (head : Head) (text : List ℕ) → SpellsHead head text → entries_of head ≤ 64
head_entries (Boxed kind) text s = omega arith
head_entries (Inline op entry imm) text s = omega (arith, s.2.small)
head_entries (When cond entry imm kind) text s = omega (arith, s.5.small)

few_entries : (parts : List Part) (texts : List (List ℕ)) → AllZip SpellsPart parts texts → entries_in parts ≤ 64
few_entries [] [] each = omega arith
few_entries [] (t ∷ ts) each = absurd each
few_entries (p ∷ ps) [] each = absurd each
few_entries (p ∷ ps) (t ∷ ts) each = omega (arith, head_entries p.head each.0.head each.0.head_spelt, few_entries ps ts each.1)

pub breaks_none : (parts : List Part) (text : List ℕ) → SpellsWord parts text → KeepsRules parts → set_refusal (set_of parts) ≡ None
unfolding set_refusal size_refusal range_refusal entry_refusal
breaks_none parts text word rules =
    let set = set_of parts in
    let subs : length set.subs ≤ 16 = omega (arith, rules.subs, length-map parts part_sub) in
    let size : (nat_lt 16 (length set.subs) || nat_lt 2 (calling set.subs)) ≡ false =
    or_from _ _ (le-ltb 16 (length set.subs) subs) (le-ltb 2 (calling set.subs) rules.boxes) in
    let entries : nat_lt 64 set.entries ≡ false = le-ltb 64 set.entries (few_entries parts word.texts word.each) in
    let range = none_passes has_bad_range set.subs (subs_in_order parts rules.items) in
    let named = none_passes (has_bad_entry set.entries) set.subs (entries_within set.entries parts (omega arith)) in
    ap (λ b. first (first (refused_if b (TooManySubs (length set.subs) (calling set.subs)))
    (refused_if (nat_lt 64 set.entries) (TooManyEntries set.entries))) (first (range_refusal set) (entry_refusal set))) size
    ∙ (ap (λ b. first (refused_if b (TooManyEntries set.entries)) (first (range_refusal set) (entry_refusal set))) entries
    ∙ (ap (λ o. first (option_map (λ i. BadRange i) o) (entry_refusal set)) range
    ∙ ap (λ o. option_map (λ i. BadEntry i (entry_at set.subs i) set.entries) o) named))
