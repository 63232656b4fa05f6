-- What a set that has asked before makes of events: the same, but that its first ask stays.
use Rattle.std.proofs.Common.{◌≡◌, ◌+◌, ◌∷◌, [], ◌∙◌, ℕ, Bool, true, false, List, Option, Some, None, refl, ap, length}
use Rattle.std.specs.Prelude.{if◌then◌else◌, slice_index}
use Rattle.flat_model.specs.declared.events.Event.{Event}
use Rattle.flat_model.specs.declared.plugins.Act.{Act}
use Rattle.flat_model.specs.declared.plugins.Act.TheVariants.{Call, Inline, Cond}
use Rattle.flat_model.specs.declared.plugins.Ask.{Ask}
use Rattle.flat_model.specs.declared.plugins.Ask.TheVariants.{Stay, Reset, Uninstall}
use Rattle.flat_model.specs.declared.plugins.Kind.{Kind}
use Rattle.flat_model.specs.declared.plugins.Sub.{Sub}
use Rattle.flat_model.specs.Columns.{holds}
use Rattle.flat_model.specs.Kinds.{ask_at}
use Rattle.event_walk.specs.Matches.{Classes, matches}
use Rattle.event_walk.specs.Walk.{Walk, first_ask, hears, then_stores, acts, walk_sub, walk_from, walk, heard_by}

-- a walk that was begun with an ask
abbrev pub asking : Ask → Walk → Walk
asking x w = record { heard = w.heard; column = w.column; asked = first_ask x w.asked }

first_first : (x y z : Ask) → first_ask (first_ask x y) z ≡ first_ask x (first_ask y z)
first_first Stay y z = refl
first_first Reset y z = refl
first_first Uninstall y z = refl

hears_asking : (kind : Kind) (i : ℕ) (e : Event) (x : Ask) (w : Walk) → hears kind i e (asking x w) ≡ asking x (hears kind i e w)
hears_asking kind i e x w =
    ap (λ (a : Ask). record { heard = (hears kind i e w).heard; column = w.column; asked = a })
    (first_first x w.asked (ask_at kind (length (heard_by w i) + 1)))

stores_asking : (then_store : Option ℕ) (entry : ℕ) (x : Ask) (w : Walk)
    → then_stores then_store entry (asking x w) ≡ asking x (then_stores then_store entry w)
stores_asking None entry x w = refl
stores_asking (Some value) entry x w = refl

either_asking : (b : Bool) (x : Ask) (u v : Walk) (w : Walk) → u ≡ asking x v → (if b then u else asking x w) ≡ asking x
    (if b then v else w)
either_asking true x u v w is = is
either_asking false x u v w is = refl

acts_asking : (act : Act) (i : ℕ) (e : Event) (x : Ask) (w : Walk) → acts act i e (asking x w) ≡ asking x (acts act i e w)
acts_asking (Call kind) i e x w = hears_asking kind i e x w
acts_asking (Inline op entry imm) i e x w = refl
acts_asking (Cond cond entry imm then_store kind) i e x w =
    either_asking (holds cond (slice_index w.column entry) imm) x (then_stores then_store entry (hears kind i e (asking x w)))
    (then_stores then_store entry (hears kind i e w)) w
    (ap (then_stores then_store entry) (hears_asking kind i e x w) ∙ stores_asking then_store entry x (hears kind i e w))

from_asking : (classes : Classes) (e : Event) (i : ℕ) (subs : List Sub) (x : Ask) (w : Walk)
    → walk_from classes e i subs (asking x w) ≡ asking x (walk_from classes e i subs w)
unfolding walk_from
from_asking classes e i [] x w = refl
from_asking classes e i (s ∷ subs) x w =
    ap (walk_from classes e (i + 1) subs)
    (either_asking (matches classes s.filter e) x (acts s.act i e (asking x w)) (acts s.act i e w) w (acts_asking s.act i e x w))
    ∙ from_asking classes e (i + 1) subs x (walk_sub classes e i s w)

pub walk_asking : (classes : Classes) (subs : List Sub) (es : List Event) (x : Ask) (w : Walk)
    → walk classes subs es (asking x w) ≡ asking x (walk classes subs es w)
unfolding walk
walk_asking classes subs [] x w = refl
walk_asking classes subs (e ∷ es) x w =
    ap (walk classes subs es) (from_asking classes e 0 subs x w) ∙ walk_asking classes subs es x (walk_from classes e 0 subs w)

pub first_stays : (x : Ask) → first_ask x Stay ≡ x
first_stays Stay = refl
first_stays Reset = refl
first_stays Uninstall = refl
