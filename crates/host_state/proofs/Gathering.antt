-- Sets that a hart takes, one after the other.
use Rattle.std.proofs.lemmas.Bool.{false≢true}
use Rattle.std.proofs.Common.{◌≡◌, ◌==◌, ◌+◌, ◌≤◌, ◌∷◌, [], ◌∙◌, ℕ, suc, true, false, List, All, inl, Bool, ◌||◌, refl, sym}
use Rattle.std.proofs.Common.{inr, length, refl, sym, ap, subst, arith}
use Rattle.std.proofs.lemmas.Bool.{cases_Bool}
use Rattle.std.proofs.lemmas.Bool.Decides.{nat_tests}
use Rattle.flat_model.specs.declared.plugins.SetSpec.{SetSpec}
use Rattle.flat_model.specs.declared.journals.Item.{Item}
use Rattle.flat_model.specs.declared.journals.Item.TheVariants.{Step, Ordered, GaveBack, Left, Told, Got, Took}
use Rattle.watcher_api.specs.Attachment.{Attachment, with_set}
use Rattle.baton_gate.specs.Logs.{GoesOn}
use Rattle.baton_gate.proofs.LogLemmas.{goes_once, goes_on, goes_same}
use Rattle.run_rules.specs.Legal.{is_there, owes_any}
use Rattle.run_rules.specs.Places.{is_with_hart, may_get, takes_all}
use Rattle.run_order.specs.Sets.{sets_for}
use Rattle.run_order.specs.InOrder.{Task, task_run}
use Rattle.kept_order.specs.Hearing.{specs_for}
use Rattle.kept_order.specs.Arriving.{with_spec}
use Rattle.kept_order.specs.Taking.{AreGots, LittleIsChanged, StillHolds}
use Rattle.kept_order.proofs.Gots.{gots_change_little, gots_keep_harts_going}
use Rattle.kept_order.proofs.Takes.{taken_is_all}
use Rattle.host_state.specs.State.{StateValue, IsSound}
use Rattle.host_state.specs.Taking.{IsGotBy, IsTakenOut, HasAttached}
use Rattle.host_state.proofs.WaitingSets.{own_none, still_none}

-- A log that goes on by a hart's takes.

are_gots : (h : ℕ) (more : List Item) → All (IsGotBy h) more → AreGots more
are_gots h [] each = tt
are_gots h (Step hart ∷ more) each = absurd (each 0 (Step hart) (omega arith))
are_gots h (Ordered origin order ∷ more) each = absurd (each 0 (Ordered origin order) (omega arith))
are_gots h (GaveBack hart number ∷ more) each = absurd (each 0 (GaveBack hart number) (omega arith))
are_gots h (Left hart ∷ more) each = absurd (each 0 (Left hart) (omega arith))
are_gots h (Told party number ∷ more) each = absurd (each 0 (Told party number) (omega arith))
are_gots h (Got hart number ∷ more) each = (tt, are_gots h more (λ k d low. each (suc k) d (omega (arith, low))))
are_gots h (Took party number ∷ more) each = absurd (each 0 (Took party number) (omega arith))

pub little_changed : (t : Task) (h : ℕ) (past now : List Item) → GoesOn (IsGotBy h) past now → LittleIsChanged t past now
little_changed t h past now gots =
    subst (LittleIsChanged t past) (sym gots.begins) (gots_change_little t gots.more past (are_gots h gots.more gots.later))

pub holds_still : (t : Task) (h : ℕ) (past now : List Item) → GoesOn (IsGotBy h) past now → StillHolds t h past now
holds_still t h past now gots =
    subst (StillHolds t h past) (sym gots.begins) (gots_keep_harts_going t h gots.more past (are_gots h gots.more gots.later))

-- A set that was taken, and put to the others.

module _ (h plugin : ℕ) (old new : StateValue) (set : Attachment) (spec : SetSpec) (taken : IsTakenOut h plugin old new set spec) where
  same_task : new.task ≡ old.task
  same_task = ap (λ (s : StateValue). s.task) taken.rest

  pub one_attached : (number : ℕ) (sets : List Attachment) (specs : List (ℕ × SetSpec)) → number ≡ set.plugin
      → sets ≡ sets_for is_with_hart (task_run old.task) h old.past → specs ≡ specs_for (task_run old.task) h old.past
      → HasAttached h old new (with_set set sets) (with_spec (number, spec) specs)
  one_attached number sets specs is these filters = record {
    gots = goes_same (IsGotBy h) old.past (Got h plugin ∷ old.past) new.past (goes_once (IsGotBy h) old.past (Got h plugin) refl)
        (sym taken.past);
    rest = taken.rest;
    attached = ap (with_set set) these ∙ sym taken.sets ∙ ap (λ (t : Task). sets_for is_with_hart (task_run t) h new.past) (sym same_task);
    filters = ap (with_spec (number, spec)) filters
        ∙ ap (λ (k : ℕ). with_spec (k, spec) (specs_for (task_run old.task) h old.past)) (is ∙ taken.number)
        ∙ sym taken.specs ∙ ap (λ (t : Task). specs_for (task_run t) h new.past) (sym same_task);
  }

  may_now : (p : ℕ) → may_get (task_run new.task) h p new.past ≡ may_get (task_run old.task) h p (Got h plugin ∷ old.past)
  may_now p =
      ap (λ (t : Task). may_get (task_run t) h p new.past) same_task
      ∙ ap (λ (past : List Item). may_get (task_run old.task) h p past) taken.past

  pub own_taken : may_get (task_run new.task) h plugin new.past ≡ false
  own_taken = may_now plugin ∙ own_none (task_run old.task) h plugin old.past

  pub others_as_before : (p : ℕ) → may_get (task_run old.task) h p old.past ≡ false → may_get (task_run new.task) h p new.past ≡ false
  others_as_before p none = may_now p ∙ still_none (task_run old.task) h plugin p old.past none

-- One after the other.

pub more_attached : (h : ℕ) (old between new : StateValue) (some sets : List Attachment) (few specs : List (ℕ × SetSpec))
    → HasAttached h old between some few → HasAttached h between new sets specs → HasAttached h old new sets specs
more_attached h old between new some sets few specs first next = record {
  gots = goes_on (IsGotBy h) (IsGotBy h) (IsGotBy h) old.past between.past new.past first.gots next.gots (λ i got. got) (λ i got. got);
  rest = next.rest
      ∙ ap (λ (s : StateValue). record s { past = new.past; waiting = new.waiting; arriving = new.arriving }) first.rest;
  attached = next.attached;
  filters = next.filters;
}

module _ (h : ℕ) (old new : StateValue) (sets : List Attachment) (specs : List (ℕ × SetSpec)) (has : HasAttached h old new sets specs) where
  tasks : new.task ≡ old.task
  tasks = ap (λ (s : StateValue). s.task) has.rest

  pub there_still : is_there (task_run old.task) h old.past ≡ true → is_there (task_run new.task) h new.past ≡ true
  there_still there =
      ap (λ (t : Task). is_there (task_run t) h new.past) tasks ∙ (holds_still old.task h old.past new.past has.gots).there there

  pub owes_still : owes_any (task_run old.task) h old.past ≡ false → owes_any (task_run new.task) h new.past ≡ false
  owes_still none =
      ap (λ (t : Task). owes_any (task_run t) h new.past) tasks ∙ (holds_still old.task h old.past new.past has.gots).owes_none none

  pub same_count : length new.registry.table.plugins ≡ length old.registry.table.plugins
  same_count = ap (λ (s : StateValue). length s.registry.table.plugins) has.rest

-- all that waited was taken
pub all_taken : (s : StateValue) (h : ℕ) → IsSound s → is_there (task_run s.task) h s.past ≡ true
    → owes_any (task_run s.task) h s.past ≡ false
    → ((p : ℕ) → 1 ≤ p → p ≤ length s.registry.table.plugins → may_get (task_run s.task) h p s.past ≡ false)
    → takes_all (task_run s.task) h s.past ≡ true
all_taken s h sound there owes none =
    taken_is_all (task_run s.task) h s.past sound.order.legal sound.order.state_log there owes
    (λ p one most. none p one (omega (arith, most, ap (λ r. length r.plugins) sound.order.plugins)))

-- one plug-in further on
pub none_more : (old new : StateValue) (h k : ℕ)
    → ((p : ℕ) → may_get (task_run old.task) h p old.past ≡ false → may_get (task_run new.task) h p new.past ≡ false)
    → ((p : ℕ) → 1 ≤ p → p ≤ k → may_get (task_run old.task) h p old.past ≡ false)
    → may_get (task_run new.task) h (k + 1) new.past ≡ false
    → (p : ℕ) → 1 ≤ p → p ≤ k + 1 → may_get (task_run new.task) h p new.past ≡ false
none_more old new h k others none own p one most =
    elim (cases_Bool (p == (k + 1))) [
      | inl at ↦ ap (λ (n : ℕ). may_get (task_run new.task) h n new.past) (let e : p ≡ k + 1 = grind (arith, nat_tests, at) in e) ∙ own
      | inr off ↦ others p (none p one (grind (arith, nat_tests, off, most)))
    ]

-- where nothing came so far and nothing comes now, nothing came
pub no_more : (some came : Bool) (first now last : List Attachment) (before then' behind : List (ℕ × SetSpec))
    → (some ≡ false → (now ≡ first) × (then' ≡ before)) → (came ≡ false → (last ≡ now) × (behind ≡ then'))
    → (some || came) ≡ false → (last ≡ first) × (behind ≡ before)
no_more true came first now last before then' behind so_far one none = absurd (false≢true (sym none))
no_more false came first now last before then' behind so_far one none =
    ((one none).0 ∙ (so_far refl).0, (one none).1 ∙ (so_far refl).1)
