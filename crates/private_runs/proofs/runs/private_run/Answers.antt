use Rattle.std.proofs.Common.{rules, ◌+◌, inl, inr, is_some, ◌≡◌, ◌<◌, ◌≤◌, None, length, arith, refl, sym, ap, ◌∙◌}
use Rattle.flat_model.specs.Image.{word_at}
use Rattle.flat_model.specs.World.{HartState}
use Rattle.flat_model.specs.Effect.{word_touches_shared}
use Rattle.rv_exec.specs.Logged.{LogState}
use Rattle.private_runs.specs.Runs.{GoesOn, Stops}
use Rattle.private_runs.proofs.Extending.{no_steps, one_more, none_of_run, more_of_run, did_lone}
use Rattle.private_runs.proofs.Extending.{is_none, shared_next, no_longer, starts, started, not_started}
use Rattle.private_runs.proofs.Telling.{TellsAlone, tells_alone, run_few, run_few_on}
use Rattle.private_runs.proofs.runs.private_run.Goals as goal
use Rattle.private_runs.proofs.runs.private_run.Goals.{then-is_some-via-then-is_some, then-is_some-via-else-is_some+then-hart-eq0}

pub loop-made-init : goal.loop-made-init
loop-made-init c = record {
  steps = no_steps c.args.image.now c.args.limit c.args.no c.args.hart.now c.args.raw.now.events;
  private = none_of_run c.args.image.now c.args.limit c.args.no c.args.hart.now;
  running = search rules;
  below = search rules;
  awake = search rules;
  block = search rules;
  inside = search rules;
  kept = search rules;
  counted = search rules;
  pc = search rules;
  since = search rules;
  unchanged = search rules;
  untold = search rules;
  few = search rules;
}

same_long : (a b : LogState) → a ≡ b → length a.events ≤ length b.events
same_long a b is = rw is (omega arith)

-- the step that was made belongs to the run
one_step : (c : goal.Joined-then-is_some) → GoesOn c.args.image.now c.loop-made.made c.loop-made.hart
one_step c = record {
  running = c.loop-made.invariant.running;
  lone = did_lone (word_touches_shared (word_at c.args.image.now c.loop-made.hart.pc)) c.in_default.ensures.shared;
  inside = c.loop-made.invariant.inside;
}

pub returns-then-is_some-clause-steps : goal.returns-then-is_some-clause-steps
returns-then-is_some-clause-steps c =
    one_more c.args.image.now c.args.limit c.args.no c.loop-made.made c.args.hart.now c.loop-made.hart c.private_step.new.hart
    c.args.raw.now.events c.loop-made.raw.events c.private_step.new.raw.events c.loop-made.invariant.steps (c.in_default.ensures.step refl)

pub returns-then-is_some-clause-few : goal.returns-then-is_some-clause-few
returns-then-is_some-clause-few c =
    let so_far = c.loop-made.invariant in
    let tells : TellsAlone c.loop-made.hart c.private_step.new.hart c.loop-made.raw.events c.private_step.new.raw.events =
    tells_alone c.args.image.now c.args.limit c.args.no c.loop-made.hart c.private_step.new.hart
    c.loop-made.raw.events c.private_step.new.raw.events so_far.awake so_far.running (one_step c).lone (c.in_default.ensures.step refl) in
    run_few c.loop-made.made (length c.args.raw.now.events) c.loop-made.hart c.private_step.new.hart c.loop-made.raw.events
    c.private_step.new.raw.events tells (λ some. omega arith) so_far.inside
    (λ none. same_long c.loop-made.raw c.args.raw.now (so_far.untold none)) so_far.few

pub returns-in-Shared-clause-greatest : goal.returns-in-Shared-clause-greatest
returns-in-Shared-clause-greatest c =
    no_longer c.args.image.now c.args.limit c.args.no c.args.most c.loop-made.made c.args.hart.now c.loop-made.hart
    c.args.raw.now.events c.loop-made.raw.events c.loop-made.invariant.steps
    (inr (inr (inr (shared_next (word_touches_shared (word_at c.args.image.now c.loop-made.hart.pc)) c.in-Shared.ensures.shared))))

-- the hart has ended, or its next step starts a block
stops_here : (c : goal.Joined-then-is_some) → Stops c.args.image.now c.args.most (c.loop-made.made + 1) c.private_step.new.hart
stops_here c =
    elim c.then-is_some.branch [
      | then-is_some-via-then-is_some w ↦
          inr (inl (sym (ap (λ (h : HartState). is_some h.ending) c.hart.view_is) ∙ (sym c.is_some.ensures ∙ w.if-is_some.true)))
      | then-is_some-via-else-is_some+then-hart-eq0 w ↦
          let e : c.hart.inside.since ≡ c.private_step.new.hart.since = ap (λ (h : HartState). h.since) c.hart.view_is in
          let some : 0 < c.loop-made.made + 1 = omega arith in
          inr (inr (inl (some, starts c.private_step.new.hart (sym e ∙ w.if-hart-eq0.true))))
    ]

pub returns-then-is_some-clause-greatest : goal.returns-then-is_some-clause-greatest
returns-then-is_some-clause-greatest c =
    no_longer c.args.image.now c.args.limit c.args.no c.args.most (c.loop-made.made + 1) c.args.hart.now c.private_step.new.hart
    c.args.raw.now.events c.private_step.new.raw.events (returns-then-is_some-clause-steps c) (stops_here c)

pub loop-made-preserved : goal.loop-made-preserved
loop-made-preserved c =
    let so_far = c.loop-made.invariant in
    let step = c.in_default.ensures.step refl in
    let goes : GoesOn c.args.image.now c.loop-made.made c.loop-made.hart = record {
      running = so_far.running;
      lone = did_lone (word_touches_shared (word_at c.args.image.now c.loop-made.hart.pc)) c.in_default.ensures.shared;
      inside = so_far.inside;
    } in
    let tells : TellsAlone c.loop-made.hart c.private_step.new.hart c.loop-made.raw.events c.private_step.new.raw.events =
    tells_alone c.args.image.now c.args.limit c.args.no c.loop-made.hart c.private_step.new.hart
    c.loop-made.raw.events c.private_step.new.raw.events so_far.awake so_far.running goes.lone step in
    let running : c.private_step.new.hart.ending ≡ None =
    sym (ap (λ (h : HartState). h.ending) c.hart.view_is)
    ∙ is_none c.hart.inside.ending (sym c.is_some.ensures ∙ c.if-is_some.false) in
    let on : 0 < c.private_step.new.hart.since =
    let e : c.hart.inside.since ≡ c.private_step.new.hart.since = ap (λ (h : HartState). h.since) c.hart.view_is in
    omega (arith, c.if-hart-eq0.false) in
    record {
      steps = one_more c.args.image.now c.args.limit c.args.no c.loop-made.made c.args.hart.now c.loop-made.hart c.private_step.new.hart
          c.args.raw.now.events c.loop-made.raw.events c.private_step.new.raw.events so_far.steps step;
      private = more_of_run c.args.image.now c.args.limit c.args.no c.loop-made.made c.args.hart.now c.loop-made.hart
          c.args.raw.now.events c.loop-made.raw.events so_far.private so_far.steps goes;
      running = running;
      below = c.in_default.ensures.within_limit running;
      awake = search rules;
      block = λ starts. absurd (started c.private_step.new.hart starts on);
      inside = λ _. not_started c.private_step.new.hart on;
      kept = search rules;
      counted = let n = c.in_default.ensures.counted refl in omega arith;
      pc = let n = (c.in_default.ensures.straight refl).next running on in omega arith;
      since = let n = (c.in_default.ensures.straight refl).counted running on in omega arith;
      unchanged = λ none. absurd (omega arith);
      untold = λ none. absurd (omega arith);
      few = run_few_on c.loop-made.made (length c.args.raw.now.events) c.loop-made.hart c.private_step.new.hart c.loop-made.raw.events
          c.private_step.new.raw.events tells (λ some. omega arith) so_far.inside
          (λ none. same_long c.loop-made.raw c.args.raw.now (so_far.untold none)) so_far.few running;
    }
