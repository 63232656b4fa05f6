use Rattle.std.proofs.Common.{refl, sym, arith}
use Rattle.code_listing.proofs.Extending.{lines_none, lines_next}
use Rattle.code_listing.proofs.entries.put_from.Goals as goal

pub loop-word-init : goal.loop-word-init
loop-word-init c = record {
  aligned = c.requires.aligned;
  lines = lines_none c.args.what c.args.image.now c.args.first c.args.text.now.items;
}

pub loop-word-preserved : goal.loop-word-preserved
loop-word-preserved c = record {
  aligned = omega arith;
  lines =
      lines_next c.args.what c.args.image.now c.args.first c.loop-word.pc c.in-Some.word c.in_ok-words.words _ c.args.text.now.items c.loop-word.text.items
      c.put_entry.new.text.items c.loop-word.invariant.lines (sym c.in-Some.ensures.word) c.in_ok-words.ensures.words refl c.in_ok-words.ensures.text;
}

pub returns : goal.returns
returns c = record {
  text = record {
    last = c.loop-word.pc;
    lines = c.loop-word.invariant.lines;
    stops = sym c.in_default.ensures.word;
  };
}
