use Rattle.std.proofs.Common.{◌≡◌, ◌<◌, ◌-◌, ◌∙◌, length, drop, take, sym, ap, subst, arith, slice_index_or}
use Rattle.instr_lists.specs.declared.sorts.Sort.TheVariants.{Init}
use Rattle.instr_lists.specs.Slots.{slots_of}
use Rattle.instr_lists.specs.Lists.{Resolved}
use Rattle.instr_lists.proofs.InARow.{some_of, none_of, nothing, list_of_none, list_len, list_fits, list_is}
use Rattle.instr_lists.proofs.lists.Lists.get.Goals as goal

pub returns-then-is_empty : goal.returns-then-is_empty
returns-then-is_empty c =
    let in' = c.self.inside in
    let below : c.args.place < length in'.sorts.items =
    subst (λ (v : Resolved). c.args.place < length v.sorts) (sym c.self.view_is) c.requires.there in
    let none : length in'.slots.items ≡ 0 = omega (arith, none_of _ (sym c.if-is_empty.ensures), in'.slots.ok.0) in
    let empty = nothing in'.slots.items none in
    record {
      list = subst (λ (v : Resolved). c.deref.result.now ≡ slots_of v.sets (slice_index_or v.sorts c.args.place Init)) c.self.view_is
          (c.deref.ensures.value ∙ (empty
          ∙ sym (list_of_none in'.sets.items in'.sorts.items in'.slots.items in'.starts.items c.self.invariant.0 c.args.place below empty)));
    }

pub split_at-requires : goal.split_at-requires
split_at-requires c =
    let in' = c.self.inside in
    let below : c.args.place < length in'.sorts.items =
    subst (λ (v : Resolved). c.args.place < length v.sorts) (sym c.self.view_is) c.requires.there in
    let more : 0 < length in'.slots.items = omega (arith, some_of _ (sym c.if-is_empty.ensures), in'.slots.ok.0) in
    let fits = list_fits in'.sets.items in'.sorts.items in'.slots.items in'.starts.items c.self.invariant.0 c.args.place below more
    c.index-start.result.now c.index-end.result.now c.index-start.ensures c.index-end.ensures in
    let len = list_len in'.sets.items in'.sorts.items in'.slots.items in'.starts.items c.self.invariant.0 c.args.place below more
    c.index-start.result.now c.index-end.result.now c.index-start.ensures c.index-end.ensures in
    omega (arith, fits, len, ap length c.deref-2.ensures.value)

pub overflow_sub-end : goal.overflow_sub-end
overflow_sub-end c =
    let in' = c.self.inside in
    let below : c.args.place < length in'.sorts.items =
    subst (λ (v : Resolved). c.args.place < length v.sorts) (sym c.self.view_is) c.requires.there in
    let more : 0 < length in'.slots.items = omega (arith, some_of _ (sym c.if-is_empty.ensures), in'.slots.ok.0) in
    let len = list_len in'.sets.items in'.sorts.items in'.slots.items in'.starts.items c.self.invariant.0 c.args.place below more
    c.index-start.result.now c.index-end.result.now c.index-start.ensures c.index-end.ensures in
    omega (arith, len)

pub split_at-requires-2 : goal.split_at-requires-2
split_at-requires-2 c =
    let in' = c.self.inside in
    let below : c.args.place < length in'.sorts.items =
    subst (λ (v : Resolved). c.args.place < length v.sorts) (sym c.self.view_is) c.requires.there in
    let more : 0 < length in'.slots.items = omega (arith, some_of _ (sym c.if-is_empty.ensures), in'.slots.ok.0) in
    let fits = list_fits in'.sets.items in'.sorts.items in'.slots.items in'.starts.items c.self.invariant.0 c.args.place below more
    c.index-start.result.now c.index-end.result.now c.index-start.ensures c.index-end.ensures in
    omega (arith, fits, ap length c.deref-2.ensures.value, c.split_at.ensures.back_len)

pub returns : goal.returns
returns c =
    let in' = c.self.inside in
    let below : c.args.place < length in'.sorts.items =
    subst (λ (v : Resolved). c.args.place < length v.sorts) (sym c.self.view_is) c.requires.there in
    let more : 0 < length in'.slots.items = omega (arith, some_of _ (sym c.if-is_empty.ensures), in'.slots.ok.0) in
    let start = c.index-start.result.now in
    let end = c.index-end.result.now in
    let cut : c.split_at-2.result.0.now ≡ take (end - start) (drop start in'.slots.items) =
    c.split_at-2.ensures.front ∙ ap (take (end - start)) (c.split_at.ensures.back ∙ ap (drop start) c.deref-2.ensures.value) in
    record {
      list = subst (λ (v : Resolved). c.split_at-2.result.0.now ≡ slots_of v.sets (slice_index_or v.sorts c.args.place Init)) c.self.view_is
          (cut ∙ list_is in'.sets.items in'.sorts.items in'.slots.items in'.starts.items c.self.invariant.0 c.args.place below more
          start end c.index-start.ensures c.index-end.ensures);
    }
