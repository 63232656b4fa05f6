use Rattle.std.proofs.Common.{◌≡◌, ◌+◌, ◌*◌, ◌∙◌, ◌++◌, ◌∷◌, [], length, refl, sym, ap, arith}
use Rattle.flat_model.specs.Blocks.{length_of}
use Rattle.block_finder.specs.Block.{IsSite}
use Rattle.block_finder.specs.Walks.{next_pc}
use Rattle.block_finder.proofs.Computed.{length_is_computed}
use Rattle.block_finder.proofs.Sites.{sites_push, length_push}
use Rattle.block_finder.proofs.finding.find.Goals as goal

-- the next word stands behind those so far
pub loop-site-preserved : goal.loop-site-preserved
loop-site-preserved c =
    let image = c.args.image.now in
    let kept = c.loop-site.invariant in
    let before = c.loop-site.sites.items in
    let at : next_pc c.loop-site.walk ≡ c.args.pc + 4 * length before = omega (arith, kept.first, kept.count) in
    let is : IsSite image (c.args.pc + 4 * length before) c.in-Some.site = rw (← at) c.in-Some.ensures.site in
    let grown : c.push.new.self.items ≡ before ++ c.in-Some.site ∷ [] = c.in_ok-push.ensures.items in
    record {
      first = c.in-Some.ensures.first ∙ kept.first;
      within = c.in-Some.ensures.within;
      count = ap length grown ∙ (length_push before c.in-Some.site ∙ omega (arith, kept.count, c.in-Some.ensures.place));
      placed = rw grown (sites_push image c.args.pc before c.in-Some.site kept.placed is);
      all = c.in-Some.ensures.to_come ∙ kept.all;
    }

pub returns : goal.returns
returns c =
    let image = c.args.image.now in
    let n = c.next.new.self.place in
    let kept = c.loop-site.invariant in
    let all : n ≡ length_of image c.args.pc = omega (arith, kept.all, c.in_default.ensures.to_come, c.in_default.ensures.site) in
    record {
      block = record {
        place = refl;
        long = rw all (length_is_computed image c.args.pc c.requires.aligned);
        computed = all;
        all = kept.count ∙ sym c.in_default.ensures.place;
        sites = kept.placed;
      };
    }
