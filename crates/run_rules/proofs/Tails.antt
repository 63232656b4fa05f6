-- What the items that a log gains leave as it was.
use Rattle.std.proofs.Common.{◌≡◌, ◌∷◌, [], ◌++◌, ◌∙◌, ℕ, false, List, refl}
use Rattle.flat_model.specs.declared.plugins.SetSpec.{SetSpec}
use Rattle.flat_model.specs.declared.journals.Item.{Item}
use Rattle.flat_model.specs.declared.journals.Item.TheVariants.{Step, Ordered, GaveBack, Left, Told, Got, Took}
use Rattle.run_rules.specs.Guest.{Run}
use Rattle.run_rules.specs.Heard.{progress}
use Rattle.run_rules.specs.Laws.{steps_by, HearsByStepsAlone}

-- one item
pub hears_none : (run : Run) (spec : SetSpec) (plugin set h : ℕ) (x : Item) (past : List Item)
    → steps_by h x ≡ false → progress run spec plugin set h (x ∷ past) ≡ progress run spec plugin set h past
unfolding progress
hears_none run spec plugin set h (Step hart) past other = rw other refl
hears_none run spec plugin set h (Ordered origin order) past other = refl
hears_none run spec plugin set h (GaveBack hart number) past other = refl
hears_none run spec plugin set h (Left hart) past other = refl
hears_none run spec plugin set h (Told party number) past other = refl
hears_none run spec plugin set h (Got hart number) past other = refl
hears_none run spec plugin set h (Took party number) past other = refl

pub hears_by_steps_alone : HearsByStepsAlone
hears_by_steps_alone run spec plugin set h [] past none = refl
hears_by_steps_alone run spec plugin set h (x ∷ more) past none =
    hears_none run spec plugin set h x (more ++ past) none.0 ∙ hears_by_steps_alone run spec plugin set h more past none.1
