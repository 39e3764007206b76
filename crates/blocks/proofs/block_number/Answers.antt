-- `block_number` meets its contract: four bytes stand there, and any number of four bytes is taken. Assumes nothing.
use mathlib.Core.Path.{◌∙◌}
use Rattle.crc.proofs.Laws.{bytes_of_lem}
use Rattle.blocks.proofs.Ways.{number_is}
use Rattle.blocks.proofs.block_number.Goals as goal

pub returns : goal.returns
returns c =
    let block = c.args.block.now in
    c.unwrap_or.ensures ∙ number_is block c.requires (bytes_of_lem block c.type_inv.block) c.read_number.result c.read_number.ensures.0
