-- Orders that are one part by part are one, and each is one with itself.
use Rattle.std.proofs.Common.{◌≡◌, ◌==◌, ◌∙◌, ◌&&◌, ℕ, Bool, true, List, [], ◌∷◌, Option, Some, None, refl, ap, subst, eqb-true, eq-eqb}
use Rattle.std.proofs.Math.Bool.{Bool-set}
use Rattle.std.proofs.lemmas.Bool.{and_parts, and_from, false≢true}
use Rattle.flat_model.specs.Asks.{stays}
use Rattle.flat_model.specs.declared.plugins.Act.{Act}
use Rattle.flat_model.specs.declared.plugins.Act.TheVariants.{Call, Inline, Cond}
use Rattle.flat_model.specs.declared.plugins.Ask.{Ask}
use Rattle.flat_model.specs.declared.plugins.Ask.TheVariants as ask
use Rattle.flat_model.specs.declared.plugins.Cond.{Cond as Condition}
use Rattle.flat_model.specs.declared.plugins.Cond.TheVariants as cond
use Rattle.flat_model.specs.declared.plugins.Filter.{Filter}
use Rattle.flat_model.specs.declared.plugins.Kind.{Kind}
use Rattle.flat_model.specs.declared.plugins.KindName.{KindName}
use Rattle.flat_model.specs.declared.plugins.KindName.TheVariants as name
use Rattle.flat_model.specs.declared.plugins.Op.{Op}
use Rattle.flat_model.specs.declared.plugins.Op.TheVariants as op
use Rattle.flat_model.specs.declared.plugins.SetSpec.{SetSpec}
use Rattle.flat_model.specs.declared.plugins.Sub.{Sub}
use Rattle.flat_model.specs.declared.journals.Order.{Order}
use Rattle.flat_model.specs.declared.journals.Order.TheVariants.{Install, Register, Reset, Uninstall}
use Rattle.flat_model.specs.declared.journals.Origin.{Origin}
use Rattle.flat_model.specs.declared.journals.Origin.TheVariants.{Start, Script, Asked, Control}
use Rattle.worked_journals.specs.Same.{same_option, same_ask, same_op, same_condition, same_name, same_kind, same_act, same_filter, same_sub, same_subs}
use Rattle.worked_journals.specs.Same.{same_set, same_order, same_origin}

-- What is the same is one.

option_one : (a b : Option ℕ) → same_option a b ≡ true → a ≡ b
option_one None None p = refl
option_one (Some a) (Some b) p = ap Some (eqb-true a b p)
option_one _ _ p = absurd (false≢true p)

ask_one : (a b : Ask) → same_ask a b ≡ true → a ≡ b
ask_one ask.Stay ask.Stay p = refl
ask_one ask.Reset ask.Reset p = refl
ask_one ask.Uninstall ask.Uninstall p = refl
ask_one _ _ p = absurd (false≢true p)

op_one : (a b : Op) → same_op a b ≡ true → a ≡ b
op_one op.Add op.Add p = refl
op_one op.Store op.Store p = refl
op_one _ _ p = absurd (false≢true p)

condition_one : (a b : Condition) → same_condition a b ≡ true → a ≡ b
condition_one cond.Never cond.Never p = refl
condition_one cond.Always cond.Always p = refl
condition_one cond.Eq cond.Eq p = refl
condition_one cond.Ne cond.Ne p = refl
condition_one cond.Lt cond.Lt p = refl
condition_one cond.Le cond.Le p = refl
condition_one cond.Gt cond.Gt p = refl
condition_one cond.Ge cond.Ge p = refl
condition_one _ _ p = absurd (false≢true p)

name_one : (a b : KindName) → same_name a b ≡ true → a ≡ b
name_one name.Counts name.Counts p = refl
name_one name.Hot name.Hot p = refl
name_one name.Mem name.Mem p = refl
name_one name.Exec name.Exec p = refl
name_one name.Classes name.Classes p = refl
name_one name.Pages name.Pages p = refl
name_one (name.Own a) (name.Own b) p = ap name.Own (eqb-true a b p)
name_one _ _ p = absurd (false≢true p)

-- that a kind asks exactly where it has a quota can be shown in one way alone
kind_of_parts : (n m : KindName) (q r : ℕ) (a b : Ask) (given : stays a ≡ (q == 0)) (shown : stays b ≡ (r == 0)) → n ≡ m → q ≡ r → a ≡ b
    → ◌≡◌ {A = Kind} (record { name = n; quota = q; ask = a; asks_at_quota = given }) (record { name = m; quota = r; ask = b; asks_at_quota = shown })
kind_of_parts n m q r a b given shown names quotas asks =
    let P0 : (given : stays a ≡ (q == 0)) (shown : stays a ≡ (q == 0))
    → ◌≡◌ {A = Kind} (record { name = n; quota = q; ask = a; asks_at_quota = given }) (record { name = n; quota = q; ask = a; asks_at_quota = shown })
    = λ given shown. let with_proof : (stays a ≡ (q == 0)) → Kind = λ p. record { name = n; quota = q; ask = a; asks_at_quota = p } in
    ap with_proof (Bool-set (stays a) (q == 0) given shown) in
    let P1 : (given : stays a ≡ (q == 0)) (shown : stays b ≡ (q == 0))
    → ◌≡◌ {A = Kind} (record { name = n; quota = q; ask = a; asks_at_quota = given }) (record { name = n; quota = q; ask = b; asks_at_quota = shown })
    = subst (λ b. (given : stays a ≡ (q == 0)) (shown : stays b ≡ (q == 0))
    → ◌≡◌ {A = Kind} (record { name = n; quota = q; ask = a; asks_at_quota = given }) (record { name = n; quota = q; ask = b; asks_at_quota = shown })) asks P0 in
    let P2 : (given : stays a ≡ (q == 0)) (shown : stays b ≡ (r == 0))
    → ◌≡◌ {A = Kind} (record { name = n; quota = q; ask = a; asks_at_quota = given }) (record { name = n; quota = r; ask = b; asks_at_quota = shown })
    = subst (λ r. (given : stays a ≡ (q == 0)) (shown : stays b ≡ (r == 0))
    → ◌≡◌ {A = Kind} (record { name = n; quota = q; ask = a; asks_at_quota = given }) (record { name = n; quota = r; ask = b; asks_at_quota = shown })) quotas P1 in
    P2 given shown ∙ ap (λ m. record { name = m; quota = r; ask = b; asks_at_quota = shown }) names

kind_one : (a b : Kind) → same_kind a b ≡ true → a ≡ b
kind_one a b p =
    let parts = and_parts (same_name a.name b.name) _ p in
    let more = and_parts (a.quota == b.quota) (same_ask a.ask b.ask) parts.1 in
    kind_of_parts a.name b.name a.quota b.quota a.ask b.ask a.asks_at_quota b.asks_at_quota
    (name_one a.name b.name parts.0) (eqb-true a.quota b.quota more.0) (ask_one a.ask b.ask more.1)

act_one : (a b : Act) → same_act a b ≡ true → a ≡ b
act_one (Call a) (Call b) p = ap Call (kind_one a b p)
act_one (Inline o a i) (Inline q b j) p =
    let parts = and_parts (same_op o q) _ p in
    let more = and_parts (a == b) (i == j) parts.1 in
    ap (λ x. Inline x a i) (op_one o q parts.0) ∙ (ap (λ x. Inline q x i) (eqb-true a b more.0) ∙ ap (λ x. Inline q b x) (eqb-true i j more.1))
act_one (Cond o a i s k) (Cond q b j t l) p =
    let c = and_parts (same_condition o q) _ p in
    let e = and_parts (a == b) _ c.1 in
    let m = and_parts (i == j) _ e.1 in
    let x = and_parts (same_option s t) (same_kind k l) m.1 in
    ap (λ x. Cond x a i s k) (condition_one o q c.0) ∙ (ap (λ x. Cond q x i s k) (eqb-true a b e.0) ∙ (ap (λ x. Cond q b x s k) (eqb-true i j m.0)
    ∙ (ap (λ x. Cond q b j x k) (option_one s t x.0) ∙ ap (λ x. Cond q b j t x) (kind_one k l x.1))))
act_one _ _ p = absurd (false≢true p)

filter_one : (a b : Filter) → same_filter a b ≡ true → a ≡ b
filter_one a b p =
    let k = and_parts (a.kinds == b.kinds) _ p in
    let l = and_parts (a.lo == b.lo) _ k.1 in
    let h = and_parts (a.hi == b.hi) _ l.1 in
    let c = and_parts (a.classes == b.classes) (a.rw == b.rw) h.1 in
    let at : (kinds lo hi classes rw : ℕ) → Filter = λ kinds lo hi classes rw. record { kinds = kinds; lo = lo; hi = hi; classes = classes; rw = rw } in
    ap (λ x. at x a.lo a.hi a.classes a.rw) (eqb-true a.kinds b.kinds k.0)
    ∙ (ap (λ x. at b.kinds x a.hi a.classes a.rw) (eqb-true a.lo b.lo l.0)
    ∙ (ap (λ x. at b.kinds b.lo x a.classes a.rw) (eqb-true a.hi b.hi h.0)
    ∙ (ap (λ x. at b.kinds b.lo b.hi x a.rw) (eqb-true a.classes b.classes c.0)
    ∙ ap (λ x. at b.kinds b.lo b.hi b.classes x) (eqb-true a.rw b.rw c.1))))

sub_one : (a b : Sub) → same_sub a b ≡ true → a ≡ b
sub_one a b p =
    let parts = and_parts (same_filter a.filter b.filter) (same_act a.act b.act) p in
    let at : Filter → Act → Sub = λ filter act. record { filter = filter; act = act } in
    ap (λ x. at x a.act) (filter_one a.filter b.filter parts.0) ∙ ap (λ x. at b.filter x) (act_one a.act b.act parts.1)

subs_one : (a b : List Sub) → same_subs a b ≡ true → a ≡ b
subs_one [] [] p = refl
subs_one (a ∷ xs) (b ∷ ys) p =
    let parts = and_parts (same_sub a b) (same_subs xs ys) p in
    ap (λ x. x ∷ xs) (sub_one a b parts.0) ∙ ap (λ x. b ∷ x) (subs_one xs ys parts.1)
subs_one _ _ p = absurd (false≢true p)

set_one : (a b : SetSpec) → same_set a b ≡ true → a ≡ b
set_one a b p =
    let parts = and_parts (a.entries == b.entries) (same_subs a.subs b.subs) p in
    let at : ℕ → List Sub → SetSpec = λ entries subs. record { entries = entries; subs = subs } in
    ap (λ x. at x a.subs) (eqb-true a.entries b.entries parts.0) ∙ ap (λ x. at b.entries x) (subs_one a.subs b.subs parts.1)

pub order_one : (a b : Order) → same_order a b ≡ true → a ≡ b
order_one (Install s) (Install t) p = ap Install (set_one s t p)
order_one (Register q s) (Register r t) p =
    let parts = and_parts (q == r) (same_set s t) p in
    ap (λ x. Register x s) (eqb-true q r parts.0) ∙ ap (λ x. Register r x) (set_one s t parts.1)
order_one (Reset q) (Reset r) p = ap Reset (eqb-true q r p)
order_one (Uninstall q) (Uninstall r) p = ap Uninstall (eqb-true q r p)
order_one _ _ p = absurd (false≢true p)

pub origin_one : (a b : Origin) → same_origin a b ≡ true → a ≡ b
origin_one Start Start p = refl
origin_one (Script l q) (Script m r) p =
    let parts = and_parts (l == m) (q == r) p in ap (λ x. Script x q) (eqb-true l m parts.0) ∙ ap (λ x. Script m x) (eqb-true q r parts.1)
origin_one (Asked l q) (Asked m r) p =
    let parts = and_parts (l == m) (q == r) p in ap (λ x. Asked x q) (eqb-true l m parts.0) ∙ ap (λ x. Asked m x) (eqb-true q r parts.1)
origin_one (Control q) (Control r) p = ap Control (eqb-true q r p)
origin_one _ _ p = absurd (false≢true p)

-- Each is the same as itself.

self : (n : ℕ) → (n == n) ≡ true
self n = eq-eqb n n refl

two : (x y : Bool) → x ≡ true → y ≡ true → (x && y) ≡ true
two x y = and_from x y

option_self : (a : Option ℕ) → same_option a a ≡ true
option_self None = refl
option_self (Some a) = self a

ask_self : (a : Ask) → same_ask a a ≡ true
ask_self ask.Stay = refl
ask_self ask.Reset = refl
ask_self ask.Uninstall = refl

op_self : (a : Op) → same_op a a ≡ true
op_self op.Add = refl
op_self op.Store = refl

condition_self : (a : Condition) → same_condition a a ≡ true
condition_self cond.Never = refl
condition_self cond.Always = refl
condition_self cond.Eq = refl
condition_self cond.Ne = refl
condition_self cond.Lt = refl
condition_self cond.Le = refl
condition_self cond.Gt = refl
condition_self cond.Ge = refl

name_self : (a : KindName) → same_name a a ≡ true
name_self name.Counts = refl
name_self name.Hot = refl
name_self name.Mem = refl
name_self name.Exec = refl
name_self name.Classes = refl
name_self name.Pages = refl
name_self (name.Own a) = self a

kind_self : (a : Kind) → same_kind a a ≡ true
kind_self a = two _ _ (name_self a.name) (two _ _ (self a.quota) (ask_self a.ask))

act_self : (a : Act) → same_act a a ≡ true
act_self (Call k) = kind_self k
act_self (Inline o a i) = two _ _ (op_self o) (two _ _ (self a) (self i))
act_self (Cond o a i s k) = two _ _ (condition_self o) (two _ _ (self a) (two _ _ (self i) (two _ _ (option_self s) (kind_self k))))

filter_self : (a : Filter) → same_filter a a ≡ true
filter_self a = two _ _ (self a.kinds) (two _ _ (self a.lo) (two _ _ (self a.hi) (two _ _ (self a.classes) (self a.rw))))

subs_self : (a : List Sub) → same_subs a a ≡ true
subs_self [] = refl
subs_self (a ∷ xs) = two _ _ (two _ _ (filter_self a.filter) (act_self a.act)) (subs_self xs)

set_self : (a : SetSpec) → same_set a a ≡ true
set_self a = two _ _ (self a.entries) (subs_self a.subs)

pub order_self : (a : Order) → same_order a a ≡ true
order_self (Install s) = set_self s
order_self (Register q s) = two _ _ (self q) (set_self s)
order_self (Reset q) = self q
order_self (Uninstall q) = self q

pub origin_self : (a : Origin) → same_origin a a ≡ true
origin_self Start = refl
origin_self (Script l q) = two _ _ (self l) (self q)
origin_self (Asked h q) = two _ _ (self h) (self q)
origin_self (Control q) = self q
