-- Whether two orders are one: whether each part of them is.
use Rattle.std.specs.Prelude.{ℕ, ◌==◌, ◌&&◌, Bool, true, false, List, [], ◌∷◌, Option, Some, None}
use Rattle.flat_model.specs.declared.plugins.Act.{Act}
use Rattle.flat_model.specs.declared.plugins.Act.TheVariants.{Call, Inline, Cond}
use Rattle.flat_model.specs.declared.plugins.Ask.{Ask}
use Rattle.flat_model.specs.declared.plugins.Ask.TheVariants as ask
use Rattle.flat_model.specs.declared.plugins.Cond.{Cond as Condition}
use Rattle.flat_model.specs.declared.plugins.Cond.TheVariants as cond
use Rattle.flat_model.specs.declared.plugins.Filter.{Filter}
use Rattle.flat_model.specs.declared.plugins.Kind.{Kind}
use Rattle.flat_model.specs.declared.plugins.KindName.{KindName}
use Rattle.flat_model.specs.declared.plugins.KindName.TheVariants as name
use Rattle.flat_model.specs.declared.plugins.Op.{Op}
use Rattle.flat_model.specs.declared.plugins.Op.TheVariants as op
use Rattle.flat_model.specs.declared.plugins.SetSpec.{SetSpec}
use Rattle.flat_model.specs.declared.plugins.Sub.{Sub}
use Rattle.flat_model.specs.declared.journals.Order.{Order}
use Rattle.flat_model.specs.declared.journals.Order.TheVariants.{Install, Register, Reset, Uninstall}
use Rattle.flat_model.specs.declared.journals.Origin.{Origin}
use Rattle.flat_model.specs.declared.journals.Origin.TheVariants.{Start, Script, Asked, Control}

abbrev pub same_option : Option ℕ → Option ℕ → Bool
same_option None None = true
same_option (Some a) (Some b) = a == b
same_option _ _ = false

abbrev pub same_ask : Ask → Ask → Bool
same_ask ask.Stay ask.Stay = true
same_ask ask.Reset ask.Reset = true
same_ask ask.Uninstall ask.Uninstall = true
same_ask _ _ = false

abbrev pub same_op : Op → Op → Bool
same_op op.Add op.Add = true
same_op op.Store op.Store = true
same_op _ _ = false

abbrev pub same_condition : Condition → Condition → Bool
same_condition cond.Never cond.Never = true
same_condition cond.Always cond.Always = true
same_condition cond.Eq cond.Eq = true
same_condition cond.Ne cond.Ne = true
same_condition cond.Lt cond.Lt = true
same_condition cond.Le cond.Le = true
same_condition cond.Gt cond.Gt = true
same_condition cond.Ge cond.Ge = true
same_condition _ _ = false

abbrev pub same_name : KindName → KindName → Bool
same_name name.Counts name.Counts = true
same_name name.Hot name.Hot = true
same_name name.Mem name.Mem = true
same_name name.Exec name.Exec = true
same_name name.Classes name.Classes = true
same_name name.Pages name.Pages = true
same_name (name.Own a) (name.Own b) = a == b
same_name _ _ = false

abbrev pub same_kind : Kind → Kind → Bool
same_kind a b = same_name a.name b.name && (a.quota == b.quota && same_ask a.ask b.ask)

abbrev pub same_act : Act → Act → Bool
same_act (Call a) (Call b) = same_kind a b
same_act (Inline o a i) (Inline p b j) = same_op o p && (a == b && i == j)
same_act (Cond o a i s k) (Cond p b j t l) = same_condition o p && (a == b && (i == j && (same_option s t && same_kind k l)))
same_act _ _ = false

abbrev pub same_filter : Filter → Filter → Bool
same_filter a b = a.kinds == b.kinds && (a.lo == b.lo && (a.hi == b.hi && (a.classes == b.classes && a.rw == b.rw)))

abbrev pub same_sub : Sub → Sub → Bool
same_sub a b = same_filter a.filter b.filter && same_act a.act b.act

abbrev pub same_subs : List Sub → List Sub → Bool
same_subs [] [] = true
same_subs (a ∷ as') (b ∷ bs) = same_sub a b && same_subs as' bs
same_subs _ _ = false

abbrev pub same_set : SetSpec → SetSpec → Bool
same_set a b = a.entries == b.entries && same_subs a.subs b.subs

abbrev pub same_order : Order → Order → Bool
same_order (Install s) (Install t) = same_set s t
same_order (Register p s) (Register q t) = p == q && same_set s t
same_order (Reset p) (Reset q) = p == q
same_order (Uninstall p) (Uninstall q) = p == q
same_order _ _ = false

abbrev pub same_origin : Origin → Origin → Bool
same_origin Start Start = true
same_origin (Script l p) (Script m q) = l == m && p == q
same_origin (Asked h p) (Asked i q) = h == i && p == q
same_origin (Control p) (Control q) = p == q
same_origin _ _ = false
