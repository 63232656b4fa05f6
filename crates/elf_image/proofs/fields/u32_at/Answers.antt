use Rattle.std.proofs.Common.{◌∙◌, ap}
use Rattle.byteorder.specs.Endian.{little_number}
use Rattle.elf_image.proofs.Numbers.{u32_read}
use Rattle.elf_image.proofs.fields.u32_at.Goals as goal

pub returns : goal.returns
returns c = c.read_u32.ensures ∙ ap (little_number 4) c.split_at.ensures.back ∙ u32_read c.args.file.now c.args.offset
