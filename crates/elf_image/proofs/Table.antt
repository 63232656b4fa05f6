-- Steps over the program header table.
use Rattle.std.proofs.Common.{◌≡◌, ℕ, suc, ◌+◌, ◌-◌, ◌*◌, ◌<◌, ◌≤◌, cond, Bool, List, [], ◌∷◌, filter}
use Rattle.std.proofs.Common.{find, Some, None, ◌∙◌, ◌≢◌, eq-eqb}
use Rattle.std.proofs.Common.{refl, arith}
use Rattle.std.proofs.lemmas.Bool.{ne_eqb}
use Rattle.elf_image.specs.declared.format.TheConstants.{PROGRAM_HEADER_BYTES, PT_LOAD, PT_INTERP}
use Rattle.elf_image.specs.declared.headers.ProgramHeader.{ProgramHeader}
use Rattle.elf_image.specs.Fields.{e_phoff, header_at, headers_from, is_load, is_interpreter}

-- what is left of the table is the header at the place, and what is left behind it
pub headers_more : (file : List ℕ) (count index : ℕ) → index < count
    → headers_from file index (count - index) ≡ header_at file (e_phoff file + PROGRAM_HEADER_BYTES * index) index ∷ headers_from file (index + 1) (count - (index + 1))
unfolding headers_from
headers_more file count index below =
    let left : count - index ≡ suc (count - (index + 1)) = omega arith in
    let next : index + 1 ≡ suc index = omega arith in
    rw (left, next) refl

-- nothing is left past the end
pub headers_none : (file : List ℕ) (count index : ℕ) → count ≤ index → headers_from file index (count - index) ≡ []
unfolding headers_from
headers_none file count index past =
    let left : count - index ≡ 0 = omega arith in
    rw left refl

-- the loadable ones of what is left
pub filter_more : (file : List ℕ) (count index : ℕ) (h : ProgramHeader) → index < count
    → h ≡ header_at file (e_phoff file + PROGRAM_HEADER_BYTES * index) index
    → filter is_load (headers_from file index (count - index)) ≡ cond (is_load h) (h ∷ filter is_load (headers_from file (index + 1) (count - (index + 1)))) (filter is_load (headers_from file (index + 1) (count - (index + 1))))
filter_more file count index h below is = rw (headers_more file count index below, is) refl

pub filter_none : (file : List ℕ) (count index : ℕ) → count ≤ index → filter is_load (headers_from file index (count - index)) ≡ []
filter_none file count index past = rw (headers_none file count index past) refl

-- a loadable one is the first of those that are left
pub taken : (file : List ℕ) (count index : ℕ) (h : ProgramHeader) → index < count
    → h ≡ header_at file (e_phoff file + PROGRAM_HEADER_BYTES * index) index → h.kind ≡ PT_LOAD
    → filter is_load (headers_from file index (count - index)) ≡ h ∷ filter is_load (headers_from file (index + 1) (count - (index + 1)))
taken file count index h below is load = filter_more file count index h below is ∙ rw (eq-eqb h.kind PT_LOAD load) refl

-- any other is none of them
pub passed : (file : List ℕ) (count index : ℕ) (h : ProgramHeader) → index < count
    → h ≡ header_at file (e_phoff file + PROGRAM_HEADER_BYTES * index) index → h.kind ≢ PT_LOAD
    → filter is_load (headers_from file index (count - index)) ≡ filter is_load (headers_from file (index + 1) (count - (index + 1)))
passed file count index h below is other = filter_more file count index h below is ∙ rw (ne_eqb h.kind PT_LOAD other) refl

-- the first of what is left that passes a test
pub find_more : (test : ProgramHeader → Bool) (file : List ℕ) (count index : ℕ) (h : ProgramHeader) → index < count
    → h ≡ header_at file (e_phoff file + PROGRAM_HEADER_BYTES * index) index
    → find test (headers_from file index (count - index)) ≡ cond (test h) (Some h) (find test (headers_from file (index + 1) (count - (index + 1))))
find_more test file count index h below is = rw (headers_more file count index below, is) refl

-- an interpreter's header is the first of those that are left
pub found : (file : List ℕ) (count index : ℕ) (h : ProgramHeader) → index < count
    → h ≡ header_at file (e_phoff file + PROGRAM_HEADER_BYTES * index) index → h.kind ≡ PT_INTERP
    → find is_interpreter (headers_from file index (count - index)) ≡ Some h
found file count index h below is here = find_more is_interpreter file count index h below is ∙ rw (eq-eqb h.kind PT_INTERP here) refl

-- any other is not
pub not_found : (file : List ℕ) (count index : ℕ) (h : ProgramHeader) → index < count
    → h ≡ header_at file (e_phoff file + PROGRAM_HEADER_BYTES * index) index → h.kind ≢ PT_INTERP
    → find is_interpreter (headers_from file index (count - index)) ≡ find is_interpreter (headers_from file (index + 1) (count - (index + 1)))
not_found file count index h below is other = find_more is_interpreter file count index h below is ∙ rw (ne_eqb h.kind PT_INTERP other) refl

pub find_none : (test : ProgramHeader → Bool) (file : List ℕ) (count index : ℕ) → count ≤ index
    → find test (headers_from file index (count - index)) ≡ None
find_none test file count index past = rw (headers_none file count index past) refl

pub header_index : (file : List ℕ) (offset index : ℕ) → (header_at file offset index).index ≡ index
unfolding header_at
header_index file offset index = refl
