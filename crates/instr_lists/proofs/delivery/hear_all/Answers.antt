use Rattle.std.proofs.Common.{◌≡◌, ◌∙◌, [], List, map, refl, sym, ap, subst, slice_index_or}
use Rattle.flat_model.specs.declared.plugins.Act.{Act}
use Rattle.watcher_api.specs.Attachment.{Attachment}
use Rattle.watcher_api.specs.Acting.{walks_of, act_in, with_act}
use Rattle.instr_lists.specs.declared.slots.Slot.{Slot}
use Rattle.instr_lists.specs.Delivery.{act_at, all_act, StopsAtSlot}
use Rattle.instr_lists.proofs.Hearing.{by_err, same_acts, absent_same, sub_there, act_more, none_act, stops}
use Rattle.instr_lists.proofs.delivery.hear_all.Goals as goal

pub loop-slot-init : goal.loop-slot-init
loop-slot-init g c =
    let acts = map (λ (a : Attachment). a.acts) c.args.attached.now in
    record {
      same = refl;
      others = λ p one absent. refl;
      acted = sym (none_act acts c.args.e.now (walks_of c.args.asks.now.first c.args.attached.now));
    }

pub hear-requires-clause-sub : goal.hear-requires-clause-sub
hear-requires-clause-sub g c =
    sub_there c.loop-slot.attached c.args.attached.now c.args.slots.now c.loop-slot.slot-index (record { set = 0; sub = 0 })
    c.loop-slot.invariant.same c.requires.there c.loop-slot-test.true

pub returns-in_err-hear-clause-acted : goal.returns-in_err-hear-clause-acted
returns-in_err-hear-clause-acted g c =
    let acts = map (λ (a : Attachment). a.acts) c.args.attached.now in
    let from = walks_of c.args.asks.now.first c.args.attached.now in
    let slots = c.args.slots.now in
    let e = c.args.e.now in
    let done = c.in_err-hear.ensures.done in
    let zero' : Slot = record { set = 0; sub = 0 } in
    let stopped = stops acts e slots c.loop-slot.slot-index zero' c.loop-slot.attached c.loop-slot.asks.first from c.loop-slot-test.true
    (same_acts c.loop-slot.attached c.args.attached.now c.loop-slot.invariant.same) c.requires.there done.2 c.loop-slot.invariant.acted in
    let now : walks_of c.loop-slot.asks.first c.loop-slot.attached ≡ walks_of c.hear.new.asks.first c.hear.new.self =
    ap (λ l. walks_of l c.loop-slot.attached) (sym done.1) ∙ ap (walks_of c.hear.new.asks.first) (sym done.0) in
    by_err (λ _. walks_of c.hear.new.asks.first c.hear.new.self ≡ all_act acts e slots from)
    (λ _. StopsAtSlot acts e slots from (walks_of c.hear.new.asks.first c.hear.new.self))
    c.from_residual.result c.from_residual.ensures.0
    (λ _. subst (StopsAtSlot acts e slots from) now stopped)

pub loop-slot-preserved : goal.loop-slot-preserved
loop-slot-preserved g c =
    let acts = map (λ (a : Attachment). a.acts) c.args.attached.now in
    let from = walks_of c.args.asks.now.first c.args.attached.now in
    let slots = c.args.slots.now in
    let e = c.args.e.now in
    let i = c.loop-slot.slot-index in
    let kept = c.loop-slot.invariant in
    let hear = c.in_ok-hear.ensures in
    let zero' : Slot = record { set = 0; sub = 0 } in
    let slot = slice_index_or slots i zero' in
    let lists = same_acts c.loop-slot.attached c.args.attached.now kept.same in
    record {
      same = hear.same ∙ kept.same;
      others = λ p one absent.
          hear.others p one (absent_same p c.loop-slot.attached c.args.attached.now kept.same absent) ∙ kept.others p one absent;
      acted = hear.done
          ∙ (ap (λ (l : List (List Act)). with_act slot.set slot.sub (act_in (slice_index_or l slot.set []) slot.sub) e
          (walks_of c.loop-slot.asks.first c.loop-slot.attached)) lists
          ∙ (ap (with_act slot.set slot.sub (act_at acts slot) e) kept.acted
          ∙ sym (act_more acts e slots i zero' from c.loop-slot-test.true)));
    }
