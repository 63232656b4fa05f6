use Rattle.flat_model.proofs.images.Image.word.Goals as goal

pub code_region-requires : goal.code_region-requires
code_region-requires c = record {
  apart = rw c.deref.ensures.value c.self.invariant.apart;
  low = rw c.deref.ensures.value c.self.invariant.low;
}
