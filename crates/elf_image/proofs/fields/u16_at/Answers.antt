use Rattle.std.proofs.Common.{◌∙◌, ap}
use Rattle.byteorder.specs.Endian.{little_number}
use Rattle.elf_image.proofs.Numbers.{u16_read}
use Rattle.elf_image.proofs.fields.u16_at.Goals as goal

pub returns : goal.returns
returns c = c.read_u16.ensures ∙ ap (little_number 2) c.split_at.ensures.back ∙ u16_read c.args.file.now c.args.offset
