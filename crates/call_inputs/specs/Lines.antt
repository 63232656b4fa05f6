-- The status and the printed line of each refusal; `docs/top-call.md` lists them.
use Rattle.std.specs.Prelude.{ℕ, List, ◌++◌, codes}
use Rattle.std.specs.Fmt.{decimal}
use Rattle.flat_model.specs.Texts.{hex}
use Rattle.flat_model.specs.declared.journals.Mode.{Mode}
use Rattle.flat_model.specs.declared.journals.Mode.TheVariants.{All, First}
use Rattle.elf_image.specs.declared.refusals.ImageRefusal.{ImageRefusal}
use Rattle.elf_image.specs.declared.refusals.ImageRefusal.TheVariants as images
use Rattle.journal_file.specs.declared.refusal.FileRefusal.{FileRefusal}
use Rattle.journal_file.specs.declared.refusal.FileRefusal.TheVariants as journals
use Rattle.journal_file.specs.Head.{Head}
use Rattle.run_script.specs.declared.refusals.ScriptRefusal.{ScriptRefusal}
use Rattle.run_script.specs.declared.refusals.SpecRefusal.{SpecRefusal}
use Rattle.run_script.specs.Texts.{spec_text, script_text}
use Rattle.call_inputs.specs.declared.refusals.InstallRefusal.{InstallRefusal}
use Rattle.call_inputs.specs.declared.refusals.InstallRefusal.TheVariants.{Full, FewBoxes}
use Rattle.call_inputs.specs.declared.refusals.Refusal.{Refusal}
use Rattle.call_inputs.specs.declared.refusals.Refusal.TheVariants.{Usage, CannotRead, TooLong, Image, Word, Install, Script, Journal}
use Rattle.call_inputs.specs.declared.refusals.Refusal.TheVariants.{OtherRun, NotThisRun, OutOfMemory}
use Rattle.call_inputs.specs.Causes.{limit_of}

abbrev pub refusal_status : Refusal → ℕ
refusal_status Usage = 2
refusal_status (CannotRead input) = 3
refusal_status (TooLong input) = 3
refusal_status (Image refusal) = 4
refusal_status (Word number refusal) = 5
refusal_status (Install number refusal) = 5
refusal_status (Script refusal) = 5
refusal_status (Journal refusal) = 5
refusal_status (OtherRun head) = 5
refusal_status (NotThisRun place) = 5
refusal_status OutOfMemory = 7

abbrev pub index_text : List ℕ → ℕ → List ℕ → List ℕ
index_text before index after = before ++ (decimal index ++ after)

abbrev pub pair_text : List ℕ → ℕ → List ℕ → ℕ → List ℕ
pair_text before first between second = before ++ (decimal first ++ (between ++ decimal second))

-- the text of each rule that an ELF file breaks
abbrev pub image_text : ImageRefusal → List ℕ
image_text (images.Short need got) = pair_text (codes "file too short: need ") need (codes ", got ") got
image_text images.NotElf = codes "not ELF"
image_text images.NotRv64 = codes "not little-endian ELF64 for RISC-V"
image_text images.NotStatic = codes "not a static executable"
image_text images.Compressed = codes "compressed instructions"
image_text (images.BadHeaders size) = index_text (codes "program header size ") size (codes "")
image_text (images.HeadersPastEnd need got) = pair_text (codes "program headers past the end: need ") need (codes ", got ") got
image_text (images.Interpreted index) = index_text (codes "needs an interpreter: header ") index (codes "")
image_text (images.TooMany count) = index_text (codes "") count (codes " loadable segments")
image_text (images.SegmentPastEnd index) = index_text (codes "segment ") index (codes " past the end of the file")
image_text (images.SizesCross index) = index_text (codes "segment ") index (codes " larger in the file than in memory")
image_text (images.AddressRange index) = index_text (codes "segment ") index (codes " out of the address range")
image_text (images.WritableCode index) = index_text (codes "segment ") index (codes " writable and executable")
image_text (images.Overlap first second) = pair_text (codes "segments ") first (codes " and ") second ++ codes " overlap"
image_text (images.TooLarge bytes) = index_text (codes "") bytes (codes " bytes of memory")
image_text (images.EntryNotCode entry) = codes "entry 0x" ++ (hex 16 entry ++ codes " is not code")

-- why a set can't be installed
abbrev pub install_text : InstallRefusal → List ℕ
install_text Full = codes "full"
install_text (FewBoxes need left) = pair_text (codes "needs ") need (codes " boxes, ") left ++ codes " left"

-- the text of each rule that a journal file breaks
abbrev pub journal_text : FileRefusal → List ℕ
journal_text (journals.Short place) = index_text (codes "too short at entry ") place (codes "")
journal_text journals.Magic = codes "not a journal"
journal_text (journals.Version got) = index_text (codes "version ") got (codes "")
journal_text journals.BadHead = codes "bad head"
journal_text (journals.BadEntry place byte) = pair_text (codes "bad byte ") byte (codes " at entry ") place
journal_text (journals.Extra bytes) = index_text (codes "") bytes (codes " bytes too many")

abbrev pub mode_text : Mode → List ℕ
mode_text All = codes "all"
mode_text First = codes "first"

-- what a journal file says of its run
abbrev pub head_text : Head → List ℕ
head_text head =
    pair_text (codes "made with harts ") head.harts (codes " limit ") head.limit ++ (codes " start " ++ mode_text head.mode)

-- the text of a refusal, for the input of this name
abbrev pub refusal_text : List ℕ → Refusal → List ℕ
refusal_text name Usage = codes "usage: tcg_host run, replay, blocks, disas or self"
refusal_text name (CannotRead input) = codes "tcg_host: cannot read " ++ name
refusal_text name (TooLong input) = (codes "tcg_host: " ++ name) ++ index_text (codes " is longer than ") (limit_of input) (codes " bytes")
refusal_text name (Image refusal) = codes "tcg_host: image: " ++ image_text refusal
refusal_text name (Word number refusal) =
    pair_text (codes "tcg_host: plug-in ") number (codes ": column ") refusal.column ++ (codes ": " ++ spec_text refusal.rule)
refusal_text name (Install number refusal) = index_text (codes "tcg_host: plug-in ") number (codes ": ") ++ install_text refusal
refusal_text name (Script refusal) =
    pair_text (codes "tcg_host: script ") refusal.line (codes ":") refusal.column ++ (codes ": " ++ script_text refusal.rule)
refusal_text name (Journal refusal) = codes "tcg_host: journal: " ++ journal_text refusal
refusal_text name (OtherRun head) = codes "tcg_host: journal: " ++ head_text head
refusal_text name (NotThisRun place) = index_text (codes "tcg_host: journal: not a run of this image at entry ") place (codes "")
refusal_text name OutOfMemory = codes "tcg_host: out of memory"

abbrev pub refusal_line : List ℕ → Refusal → List ℕ
refusal_line name refusal = refusal_text name refusal ++ codes "\n"
