use Rattle.std.proofs.Common.{◌≡◌, ℕ, ◌<◌, slice_index_or}
use Rattle.watcher_api.specs.Attachment.{Attachment}
use Rattle.watcher_api.proofs.attached.Attached.position.Given as goal

abbrev pub invariant-loop-place : goal.invariant-loop-place
invariant-loop-place g l = (k : ℕ) (d : Attachment) → k < l.place → (slice_index_or l.self k d).plugin ≡ l.plugin → ⊥
