-- Walks of a set over events.
use Rattle.std.proofs.Common.{◌+◌, ◌∷◌, [], ◌++◌, ◌∙◌, ℕ, Bool, true, false, List, Option, Some, None, refl}
use Rattle.std.specs.Prelude.{if◌then◌else◌, slice_index}
use Rattle.std.proofs.lemmas.List.{length-set}
use Rattle.flat_model.specs.declared.events.Event.{Event}
use Rattle.flat_model.specs.declared.plugins.Act.{Act}
use Rattle.flat_model.specs.declared.plugins.Act.TheVariants.{Call, Inline, Cond}
use Rattle.flat_model.specs.declared.plugins.Kind.{Kind}
use Rattle.flat_model.specs.declared.plugins.Sub.{Sub}
use Rattle.flat_model.specs.Columns.{holds, op_result}
use Rattle.event_walk.specs.Matches.{Classes, matches}
use Rattle.event_walk.specs.Walk.{Walk, walk, walk_from, walk_sub, acts, hears, heard_by, then_stores, WalksInARow, KeepsSizes, KeepsItsSizes}

pub walks_in_a_row : WalksInARow
unfolding walk
walks_in_a_row classes subs [] fs w = refl
walks_in_a_row classes subs (e ∷ es) fs w = walks_in_a_row classes subs es fs (walk_from classes e 0 subs w)

kept : (w : Walk) → KeepsSizes w w
kept w = record { subs = refl; entries = refl }

then_kept : (u v w : Walk) → KeepsSizes u v → KeepsSizes v w → KeepsSizes u w
then_kept u v w first second = record { subs = second.subs ∙ first.subs; entries = second.entries ∙ first.entries }

hears_keeps : (kind : Kind) (i : ℕ) (e : Event) (w : Walk) → KeepsSizes w (hears kind i e w)
hears_keeps kind i e w = record { subs = length-set w.heard i (heard_by w i ++ e ∷ []); entries = refl }

stores_keeps : (then_store : Option ℕ) (entry : ℕ) (w : Walk) → KeepsSizes w (then_stores then_store entry w)
stores_keeps None entry w = kept w
stores_keeps (Some value) entry w = record { subs = refl; entries = length-set w.column entry value }

either_keeps : (test : Bool) (old u v : Walk) → KeepsSizes old u → KeepsSizes old v → KeepsSizes old (if test then u else v)
either_keeps true old u v first second = first
either_keeps false old u v first second = second

acts_keeps : (act : Act) (i : ℕ) (e : Event) (w : Walk) → KeepsSizes w (acts act i e w)
acts_keeps (Call kind) i e w = hears_keeps kind i e w
acts_keeps (Inline op entry imm) i e w = record { subs = refl; entries = length-set w.column entry (op_result op (slice_index w.column entry) imm) }
acts_keeps (Cond cond entry imm then_store kind) i e w =
    let heard = hears kind i e w in
    either_keeps (holds cond (slice_index w.column entry) imm) w (then_stores then_store entry heard) w
    (then_kept w heard (then_stores then_store entry heard) (hears_keeps kind i e w) (stores_keeps then_store entry heard)) (kept w)

from_keeps : (classes : Classes) (e : Event) (i : ℕ) (subs : List Sub) (w : Walk) → KeepsSizes w (walk_from classes e i subs w)
unfolding walk_from
from_keeps classes e i [] w = kept w
from_keeps classes e i (s ∷ subs) w =
    let now = walk_sub classes e i s w in
    then_kept w now (walk_from classes e (i + 1) subs now)
    (either_keeps (matches classes s.filter e) w (acts s.act i e w) w (acts_keeps s.act i e w) (kept w))
    (from_keeps classes e (i + 1) subs now)

pub keeps_its_sizes : KeepsItsSizes
unfolding walk
keeps_its_sizes classes subs [] w = kept w
keeps_its_sizes classes subs (e ∷ es) w =
    let now = walk_from classes e 0 subs w in
    then_kept w now (walk classes subs es now) (from_keeps classes e 0 subs w) (keeps_its_sizes classes subs es now)
