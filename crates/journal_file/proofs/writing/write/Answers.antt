use Rattle.std.proofs.Common.{◌≡◌, ◌++◌, List, Option, Some, Ok, append_assoc, length, ap, subst, ◌∙◌, sym}
use Rattle.std.specs.List.{flat_map}
use Rattle.flat_model.specs.declared.journals.Entry.{Entry}
use Rattle.flat_model.specs.Log.{IsJoined}
use Rattle.journal_file.specs.Head.{Head, FileState}
use Rattle.journal_file.specs.Spelling.{entry, header, head_bytes, spelling, AreEntries}
use Rattle.journal_file.specs.Reading.{file_at}
use Rattle.journal_file.proofs.Recordings.{file_again}
use Rattle.journal_file.proofs.writing.write.Goals as goal

abbrev made : Option Head → List Entry → FileState
made head es = record { head = head; entries = es }

pub returns-clause-again : goal.returns-clause-again
returns-clause-again c =
    let es = c.entries-entries.result.now in
    let head = Some c.args.head.now in
    let fits : AreEntries es = record { count = c.put_header.ensures.fits; each = c.in_ok-put_entries.ensures.fits; joined = subst IsJoined (sym c.entries-entries.ensures.entries) c.entries-entries.ensures.joined } in
    let one : c.put_header.new.out.items ≡ header 2 (length es) = c.in_ok-put_header.ensures.spelled ∙ ap (λ t. t ++ header 2 (length es)) c.in_ok-out.ensures.items in
    let two : c.put_head.new.out.items ≡ header 2 (length es) ++ head_bytes head = c.in_ok-put_head.ensures.spelled ∙ ap (λ t. t ++ head_bytes head) one in
    let whole : c.put_entries.new.out.items ≡ spelling head es = c.in_ok-put_entries.ensures.spelled ∙ ap (λ t. t ++ flat_map entry es) two
    ∙ append_assoc (header 2 (length es)) (head_bytes head) (flat_map entry es) in
    let file : FileState = record { head = head; entries = es } in
    ap file_at whole ∙ file_again file (record { head = c.put_head.ensures.fits; entries = fits })
    ∙ ap (λ v. Ok (made head v)) c.entries-entries.ensures.entries
