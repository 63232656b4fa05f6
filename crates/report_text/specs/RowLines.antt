-- The report's lines of a set's entries and of its boxes' rows; `docs/plug-ins.md`, "Report", lists them.
use Rattle.std.specs.Prelude.{ℕ, ◌*◌, ◌/◌, ◌%◌, ◌^◌, ◌==◌, Bool, true, false, if◌then◌else◌, List, [], ◌∷◌, ◌++◌, slice_index_or, codes}
use Rattle.std.specs.Prelude.{Option, Some, None}
use Rattle.std.specs.Fmt.{decimal}
use Rattle.flat_model.specs.declared.journals.How.{How}
use Rattle.flat_model.specs.declared.journals.How.TheVariants as how
use Rattle.flat_model.specs.declared.limits.TheConstants.{PAGE_BYTES, READS_AND_WRITES, WRITES}
use Rattle.flat_model.specs.declared.plugins.KindName.{KindName}
use Rattle.flat_model.specs.declared.plugins.KindName.TheVariants.{Counts, Hot, Mem, Exec, Classes, Pages, Own}
use Rattle.flat_model.specs.declared.plugins.Row.{Row}
use Rattle.flat_model.specs.Texts.{hex}

-- how a set ended; one that didn't was live to the end
abbrev pub state_word : Option How → List ℕ
state_word None = codes "live"
state_word (Some how.Reset) = codes "reset"
state_word (Some how.Uninstall) = codes "gone"

abbrev pub kind_word : KindName → List ℕ
kind_word Counts = codes "counts"
kind_word Hot = codes "hot"
kind_word Mem = codes "mem"
kind_word Exec = codes "exec"
kind_word Classes = codes "classes"
kind_word Pages = codes "pages"
kind_word (Own number) = codes "own"

-- the kinds of event by the numbers of their bits in a filter; no text for a number that is none's
abbrev pub event_word : ℕ → List ℕ
event_word number =
    slice_index_or
    (codes "init" ∷ codes "block" ∷ codes "insn" ∷ codes "mem" ∷ codes "sys" ∷ codes "sysret" ∷ codes "exit" ∷ []) number []

-- the classes of words by the numbers of their bits in a filter; no text for a number that is none's
abbrev pub class_word : ℕ → List ℕ
class_word number =
    slice_index_or
    (codes "alu" ∷ codes "muldiv" ∷ codes "load" ∷ codes "store" ∷ codes "branch" ∷ codes "jump" ∷ codes "atomic"
    ∷ codes "system" ∷ codes "illegal" ∷ []) number []

-- What the row of an access packs into its c: the shift, the sign, the direction and the hart.

abbrev pub shift_of : ℕ → ℕ
shift_of c = c % 4

abbrev pub is_signed : ℕ → Bool
is_signed c = c / 4 % 2 == 1

abbrev pub direction_of : ℕ → ℕ
direction_of c = c / 8 % 4

abbrev pub hart_in : ℕ → ℕ
hart_in c = c / 256

-- what an access is called, by its direction and its sign
abbrev pub access_word : ℕ → Bool → List ℕ
access_word direction signed =
    if direction == READS_AND_WRITES then codes "amo"
    else (if direction == WRITES then codes "store" else (if signed then codes "sload" else codes "load"))

-- a value in hexadecimal behind what it is
abbrev pub tagged_text : List ℕ → ℕ → List ℕ
tagged_text tag value = tag ++ hex 16 value

abbrev pub both_text : ℕ → ℕ → List ℕ
both_text read written = tagged_text (codes " read 0x") read ++ tagged_text (codes " written 0x") written

abbrev pub one_text : ℕ → List ℕ
one_text value = tagged_text (codes " value 0x") value

-- the value of an access, or both of one that reads and writes
abbrev pub value_text : ℕ → ℕ → ℕ → List ℕ
value_text direction read written =
    if direction == READS_AND_WRITES then both_text read written
    else (if direction == WRITES then one_text written else one_text read)

-- The line of a row, by its kind.

unfoldable pub named_line : List ℕ → ℕ → List ℕ
named_line name number = name ++ (codes " " ++ (decimal number ++ codes "\n"))

unfoldable pub hot_line : Row → List ℕ
hot_line row =
    codes "block 0x" ++ (hex 16 row.key ++ (codes " runs " ++ (decimal row.a ++ (codes " insns " ++ (decimal row.b ++ codes "\n")))))

-- where an access went, how many bytes, and what it moved
unfoldable pub moved_text : Row → List ℕ
moved_text row =
    codes " addr 0x" ++ (hex 16 row.key ++ (codes " size " ++ (decimal (2 ^ shift_of row.c)
    ++ (value_text (direction_of row.c) row.a row.d ++ codes "\n"))))

unfoldable pub mem_line : Row → List ℕ
mem_line row =
    codes "hart " ++ (decimal (hart_in row.c) ++ (codes " pc 0x" ++ (hex 16 row.b ++ (codes " "
    ++ (access_word (direction_of row.c) (is_signed row.c) ++ moved_text row)))))

-- what was executed
unfoldable pub word_text : Row → List ℕ
word_text row = codes " pc 0x" ++ (hex 16 row.key ++ (codes " word 0x" ++ (hex 8 row.a ++ codes "\n")))

unfoldable pub exec_line : Row → List ℕ
exec_line row = codes "hart " ++ (decimal row.c ++ (codes " step " ++ (decimal row.b ++ word_text row)))

-- the page's first address; a page's number is below 2^52
unfoldable pub page_line : Row → List ℕ
page_line row =
    codes "page 0x" ++ (hex 16 (row.key * PAGE_BYTES % 2 ^ 64)
    ++ (codes " loads " ++ (decimal row.a ++ (codes " stores " ++ (decimal row.b ++ codes "\n")))))

abbrev pub row_line : KindName → Row → List ℕ
row_line Counts row = named_line (event_word row.key) row.a
row_line Hot row = hot_line row
row_line Mem row = mem_line row
row_line Exec row = exec_line row
row_line Classes row = named_line (class_word row.key) row.a
row_line Pages row = page_line row
row_line (Own number) row = codes "\n"

-- The lines of a set. Plug-ins and sets are numbered from 1, entries and subscriptions from 0.

unfoldable pub set_line : ℕ → ℕ → Option How → List ℕ
set_line plugin set ending =
    codes "plugin " ++ (decimal plugin ++ (codes " set " ++ (decimal set ++ (codes " " ++ (state_word ending ++ codes "\n")))))

unfoldable pub entry_line : ℕ → ℕ → List ℕ
entry_line entry sum = codes "entry " ++ (decimal entry ++ (codes " sum " ++ (decimal sum ++ codes "\n")))

unfoldable pub sub_line : ℕ → KindName → List ℕ
sub_line sub name = codes "sub " ++ (decimal sub ++ (codes " " ++ (kind_word name ++ codes "\n")))
