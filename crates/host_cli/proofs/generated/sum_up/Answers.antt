use Rattle.std.proofs.Common.{◌∙◌, refl}
use Rattle.host_cli.specs.Generated.{summed, cut_short, unmade}
use Rattle.host_cli.proofs.Printed.{says_as, stops_as}
use Rattle.host_cli.proofs.generated.sum_up.Goals as goal

pub returns-in_default : goal.returns-in_default
returns-in_default g c =
    record {
      ends = rw c.refuse_for_memory.ensures.status
          (unmade (record { same = refl; faultless = refl }) c.refuse_for_memory.ensures.told);
    }

pub returns-in-Ok-put_text_pieces : goal.returns-in-Ok-put_text_pieces
returns-in-Ok-put_text_pieces g c =
    record {
      ends = rw c.status.ensures.status
          (summed (says_as _ c.as_slice.result.now _ (c.as_slice.ensures.value ∙ c.in-Ok.ensures.text) c.in-Ok-put_text_pieces.ensures.put)
          (record { same = refl; faultless = refl }));
    }

pub returns : goal.returns
returns g c =
    record {
      ends =
          cut_short (stops_as _ c.as_slice.result.now _ (c.as_slice.ensures.value ∙ c.in-Ok.ensures.text) c.in-Err.ensures.put)
          (record { same = refl; faultless = refl });
    }
