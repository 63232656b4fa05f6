use Rattle.std.proofs.Common.{ℕ, ◌<◌, slice_index_or}
use Rattle.flat_model.specs.declared.plugins.Sub.{Sub}
use Rattle.watcher_api.specs.Attachment.{IsWithin}
use Rattle.watcher_api.proofs.attached_sets.names_its_entries.Given as goal

abbrev pub invariant-loop-sub : goal.invariant-loop-sub
invariant-loop-sub l = (k : ℕ) (d : Sub) → k < l.sub-index → IsWithin l.spec.entries (slice_index_or l.spec.subs k d).act
