-- Lines of the script that were placed behind a Turn.
use Rattle.std.proofs.Common.{◌≡◌, ◌∙◌, ℕ, true, List, None, sym, ap, subst, inl, inr}
use Rattle.flat_model.specs.declared.journals.Item.{Item}
use Rattle.flat_model.specs.declared.journals.Item.TheVariants.{Step, Ordered, GaveBack, Left, Told, Got, Took}
use Rattle.flat_model.specs.declared.journals.Origin.{Origin}
use Rattle.flat_model.specs.declared.journals.Origin.TheVariants.{Start, Script, Asked, Control}
use Rattle.flat_model.specs.Log.{party, giver}
use Rattle.baton_gate.specs.Logs.{GoesOn}
use Rattle.baton_gate.proofs.LogLemmas.{goes_weaker, goes_same}
use Rattle.run_order.specs.InOrder.{Task}
use Rattle.host_state.specs.Scripting.{IsLineOf, IsOfScript, LetsAllBe}
use Rattle.host_state.specs.State.{StateValue, IsCaughtUp}
use Rattle.hart_runner.specs.Stretches.{HasPlaced}
use Rattle.hart_runner.proofs.Logs.{IsNoStep, same_total}

script_own : (h : ℕ) (origin : Origin) → IsOfScript h origin → giver origin ≡ h
script_own h Start is = absurd is
script_own h (Script line who) is = is
script_own h (Asked hart plugin) is = absurd is
script_own h (Control who) is = absurd is

line_own : (h : ℕ) (i : Item) → IsLineOf h i → party i ≡ h
line_own h (Step hart) is = absurd is
line_own h (Ordered origin order) is = script_own h origin is
line_own h (GaveBack hart plugin) is = absurd is
line_own h (Left hart) is = absurd is
line_own h (Told who plugin) is = absurd is
line_own h (Got hart plugin) is = absurd is
line_own h (Took who plugin) is = absurd is

line_still : (h : ℕ) (i : Item) → IsLineOf h i → IsNoStep i
line_still h (Step hart) is = absurd is
line_still h (Ordered origin order) is = tt
line_still h (GaveBack hart plugin) is = absurd is
line_still h (Left hart) is = absurd is
line_still h (Told who plugin) is = absurd is
line_still h (Got hart plugin) is = absurd is
line_still h (Took who plugin) is = absurd is

pub has_placed : (h : ℕ) (old new : StateValue) → GoesOn (IsLineOf h) old.past new.past → LetsAllBe old.task old.past new.past
    → IsCaughtUp new → new.task ≡ old.task → HasPlaced h old new
has_placed h old new placed lets caught_up task = record {
  own = goes_weaker (IsLineOf h) (λ i. party i ≡ h) old.past new.past placed (line_own h);
  total = same_total (IsLineOf h) (line_still h) old.past new.past placed;
  lets_be = lets;
  caught_up = caught_up;
  task = task;
}

-- where the hart failed behind the last of them
pub failed_placed : (h : ℕ) (old mid new : StateValue) → GoesOn (IsLineOf h) old.past mid.past → LetsAllBe old.task old.past mid.past
    → mid.task ≡ old.task → new.past ≡ mid.past → new.task ≡ mid.task → new.short ≡ true → HasPlaced h old new
failed_placed h old mid new placed lets task past same short =
    has_placed h old new (goes_same (IsLineOf h) old.past mid.past new.past placed (sym past))
    (subst (λ (xs : List Item). LetsAllBe old.task old.past xs) (sym past) lets) (inl short) (same ∙ task)
