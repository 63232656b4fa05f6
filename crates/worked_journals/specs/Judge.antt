-- The judge of journals. It looks at the entries one after the other, and at each asks whether it keeps its rule after those
-- before it.
use Rattle.std.specs.Prelude.{ℕ, zero, suc, ◌≡◌, ◌&&◌, not, Bool, true, false, List, [], ◌∷◌, Option, Some, None, option_map, is_some}
use Rattle.std.specs.Prelude.{if◌then◌else◌}
use Rattle.std.specs.List.{list_any, list_all, range_with_len}
use Rattle.flat_model.specs.declared.journals.Entry.{Entry}
use Rattle.flat_model.specs.declared.journals.Entry.TheVariants as entries
use Rattle.flat_model.specs.declared.journals.Item.{Item}
use Rattle.flat_model.specs.declared.journals.Item.TheVariants.{Step, Ordered, GaveBack, Left, Told, Got, Took}
use Rattle.flat_model.specs.declared.journals.Order.{Order}
use Rattle.flat_model.specs.declared.journals.Origin.{Origin}
use Rattle.flat_model.specs.declared.journals.Origin.TheVariants.{Start, Script, Asked, Control}
use Rattle.flat_model.specs.Log.{log, with_entry, steps}
use Rattle.flat_model.specs.Registry.{is_hart, has_left, is_closing}
use Rattle.run_rules.specs.Guest.{Run, plugins}
use Rattle.run_rules.specs.Heard.{waiting}
use Rattle.run_rules.specs.Due.{allowed, wanted, in_time}
use Rattle.run_rules.specs.Legal.{may_step, may_give_back, may_leave, may_tell, asked_order, passes_nothing_by, Whole, IsBrokenAt}
use Rattle.worked_journals.specs.Same.{same_origin, same_order}

-- whether an item is this order
abbrev pub is_ordered : Origin → Order → Option Item → Bool
is_ordered origin order None = false
is_ordered origin order (Some (Step hart)) = false
is_ordered origin order (Some (Ordered by other)) = same_origin by origin && same_order other order
is_ordered origin order (Some (GaveBack hart plugin)) = false
is_ordered origin order (Some (Left hart)) = false
is_ordered origin order (Some (Told party plugin)) = false
is_ordered origin order (Some (Got hart plugin)) = false
is_ordered origin order (Some (Took party plugin)) = false

abbrev pub is_order : Order → Option Order → Bool
is_order order None = false
is_order order (Some other) = same_order other order

abbrev pub is_given : Run → Origin → Order → List Item → Bool
is_given run Start order past = is_ordered Start order (wanted run past)
is_given run (Script line party) order past = is_ordered (Script line party) order (wanted run past) && in_time run line past
is_given run (Asked h plugin) order past = passes_nothing_by run past && is_order order (asked_order plugin (waiting run plugin h past))
is_given run (Control party) order past = passes_nothing_by run past && not (is_hart (plugins run past) party)

abbrev pub may_order : Run → Origin → Order → List Item → Bool
may_order run origin order past = allowed (plugins run past) order && is_given run origin order past

-- whether n steps of a hart keep their rule
unfoldable pub may_turn : Run → ℕ → ℕ → List Item → Bool
may_turn run h zero past = true
may_turn run h (suc n) past = may_turn run h n past && may_step run h (steps h n past)

-- whether an entry keeps its rule
unfoldable pub is_kept : Run → Entry → List Item → Bool
is_kept run (entries.Turn h n) past = may_turn run h n past
is_kept run (entries.Order origin order) past = may_order run origin order past
is_kept run (entries.Back h plugin) past = may_give_back run h plugin past
is_kept run (entries.Leave h) past = may_leave run h past
is_kept run (entries.Done party plugin) past = may_tell run party plugin past

-- whether a journal may end here
unfoldable pub may_end : Run → List Item → Bool
may_end run past =
    not (is_some (wanted run past))
    && (list_all (λ h. has_left (plugins run past) h) (range_with_len 0 run.harts)
    && not (list_any (λ p. is_closing p.state) (plugins run past).plugins))

-- where entries break a rule, counted from the first of them; None where they make a journal whole
unfoldable pub judge_from : Run → List Item → List Entry → Option ℕ
judge_from run past [] = if may_end run past then None else Some 0
judge_from run past (e ∷ es) = elim (is_kept run e past) as (λ b. Option ℕ) [
  | true ↦ option_map (λ place. suc place) (judge_from run (with_entry e past) es)
  | false ↦ Some 0
]

abbrev pub judge : Run → List Entry → Option ℕ
judge run es = judge_from run [] es

-- what the judge says is what the rules mean, and the other way round: so a journal that isn't whole has one place
pub record IsJudged (run : Run) (es : List Entry) : Type 0 where
  pub whole : judge run es ≡ None → Whole run (log es)
  pub broken : (place : ℕ) → judge run es ≡ Some place → IsBrokenAt run es place
  pub finds_whole : Whole run (log es) → judge run es ≡ None
  pub finds_broken : (place : ℕ) → IsBrokenAt run es place → judge run es ≡ Some place

abbrev pub JudgesExactly : Type 0
JudgesExactly = (run : Run) (es : List Entry) → IsJudged run es
