use Rattle.std.proofs.Common.{◌<◌, ◌∙◌, length, refl, sym, ap, arith}
use Rattle.std.specs.Prelude.{slice_index_or}
use Rattle.watcher_api.specs.Acting.{walks_of}
use Rattle.instr_lists.specs.Delivery.{each_hears}
use Rattle.instr_lists.specs.Silence.{word_told}
use Rattle.instr_lists.proofs.Placing.{no_site}
use Rattle.instr_lists.proofs.Events.{none_walk}
use Rattle.instr_lists.proofs.Unstored.{code_event}
use Rattle.instr_lists.proofs.Adding.{word_more}
use Rattle.instr_lists.proofs.words.add_words.Goals as goal

pub loop-k-init : goal.loop-k-init
loop-k-init g c = record {
  same = refl;
  heard = λ classes has. sym (none_walk classes c.args.list.now.sets (walks_of c.args.asks.now.first c.args.attached.now));
}

pub loop-k-preserved : goal.loop-k-preserved
loop-k-preserved g c =
    let listed = c.args.list.now in
    let k = c.loop-k.k in
    let kept = c.loop-k.invariant in
    let site = slice_index_or listed.block.sites k no_site in
    let below : k < length listed.block.sites = omega (arith, c.loop-k-test.true, c.requires.within) in
    record {
      same = c.add_word.ensures.same ∙ kept.same;
      heard = λ classes has.
          c.add_word.ensures.heard classes has (code_event (word_told site)) site.word
          (ap (λ pc. (word_told (record site { pc = pc }))) (has.places k no_site below))
          ∙ (ap (each_hears classes listed.sets (code_event (word_told site))) (kept.heard classes has)
          ∙ sym (word_more classes listed.sets listed.block k no_site (walks_of c.args.asks.now.first c.args.attached.now) below));
    }
