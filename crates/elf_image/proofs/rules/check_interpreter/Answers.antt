use Rattle.std.proofs.Common.{◌≡◌, ◌+◌, ◌*◌, ◌∙◌, find, Some, None, sym, ap, refl}
use Rattle.elf_image.specs.declared.format.TheConstants.{PROGRAM_HEADER_BYTES}
use Rattle.elf_image.specs.declared.refusals.ImageRefusal.TheVariants.{Interpreted}
use Rattle.elf_image.specs.Fields.{e_phoff, headers, is_interpreter}
use Rattle.elf_image.specs.Rules.{no_interpreter}
use Rattle.elf_image.proofs.Table.{found, not_found, find_none, header_index}
use Rattle.elf_image.proofs.rules.check_interpreter.Goals as goal

pub loop-index-preserved : goal.loop-index-preserved
loop-index-preserved c =
    let e = not_found c.args.file.now c.header_count-index-end.result c.loop-index.index c.header.result c.loop-index-test.true c.header.ensures c.if-header-eq-PT_INTERP.false in
    record { end = c.loop-index.invariant.end; rest = sym e ∙ c.loop-index.invariant.rest }

pub returns-then-header-eq-PT_INTERP : goal.returns-then-header-eq-PT_INTERP
unfolding no_interpreter
returns-then-header-eq-PT_INTERP c =
    let file = c.args.file.now in
    let e = found file c.header_count-index-end.result c.loop-index.index c.header.result c.loop-index-test.true c.header.ensures c.if-header-eq-PT_INTERP.true in
    let same : find is_interpreter (headers file) ≡ Some c.header.result = sym c.loop-index.invariant.rest ∙ e in
    let place = ap (λ h. h.index) c.header.ensures ∙ header_index file (e_phoff file + PROGRAM_HEADER_BYTES * c.loop-index.index) c.loop-index.index in
    rw same (ap (λ n. Some (Interpreted n)) place)

pub returns : goal.returns
unfolding no_interpreter
returns c =
    let file = c.args.file.now in
    let none = find_none is_interpreter file c.header_count-index-end.result c.loop-index.index c.loop-index-test.false in
    let same : find is_interpreter (headers file) ≡ None = sym c.loop-index.invariant.rest ∙ none in
    rw same refl
