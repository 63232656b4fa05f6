-- The end of a run among files that inputs were read from before: what was read changed none.
use Rattle.std.proofs.Common.{◌≡◌, ℕ, Bool, List, Option, subst}
use Rattle.host_state.specs.State.{StateValue}
use Rattle.host_cli.specs.Ends.{RunEnds}
use Rattle.host_cli.specs.Files.{FilesAround}
use Rattle.host_cli.specs.Sinks.{Around}

abbrev around_by : Bool → (List ℕ → Option (List ℕ)) → (List ℕ → Option (List ℕ)) → ℕ → ℕ → ℕ → ℕ → FilesAround
around_by told before now reads reads_now writes writes_now = record {
  told = told;
  before = before;
  now = now;
  reads_before = reads;
  reads_now = reads_now;
  writes_before = writes;
  writes_now = writes_now;
}

pub from_earlier : (s : StateValue) (journal : Option (List ℕ)) (out report : Around) (status : ℕ) (told_then told : Bool)
    (then before now : List ℕ → Option (List ℕ)) (reads_then reads reads_now writes_then writes writes_now : ℕ)
    → told_then ≡ told → then ≡ before → reads_then ≡ reads → writes_then ≡ writes
    → RunEnds s journal (around_by told_then then now reads_then reads_now writes_then writes_now) out report status
    → RunEnds s journal (around_by told before now reads reads_now writes writes_now) out report status
from_earlier s journal out report status told_then told then before now reads_then reads reads_now writes_then writes writes_now t b r w ends =
    subst (λ (x : ℕ). RunEnds s journal (around_by told before now reads reads_now x writes_now) out report status) w
    (subst (λ (x : ℕ). RunEnds s journal (around_by told before now x reads_now writes_then writes_now) out report status) r
    (subst (λ (x : List ℕ → Option (List ℕ)). RunEnds s journal (around_by told x now reads_then reads_now writes_then writes_now) out report status) b
    (subst (λ (x : Bool). RunEnds s journal (around_by x then now reads_then reads_now writes_then writes_now) out report status) t ends)))
