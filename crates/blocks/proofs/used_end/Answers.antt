-- `used_end` meets its contract: two bytes stand there, and any number of two bytes is read. Assumes nothing.
use native.Mathlib.Omega.{arith}
use Rattle.crc.proofs.Laws.{bytes_of_lem}
use Rattle.codec.proofs.Numbers.{number-got, number-not}
use Rattle.blocks.proofs.used_end.Goals as goal

pub returns-in_default : goal.returns-in_default
returns-in_default c =
    let block = c.args.block.now in
    absurd (number-not 2 65535 block 4 (bytes_of_lem block c.type_inv.block) (omega arith) (omega arith)
    c.read_word.result _ c.in_default.is c.read_word.ensures.0)

pub returns-then-used-gt-MAX_USED : goal.returns-then-used-gt-MAX_USED
returns-then-used-gt-MAX_USED c =
    let block = c.args.block.now in
    let used-is = number-got 2 65535 block 4 (bytes_of_lem block c.type_inv.block) (omega arith) (omega arith) _
    c.read_word.result c.in-Ok.is c.read_word.ensures.0 in
    omega arith

pub returns : goal.returns
returns c =
    let block = c.args.block.now in
    let used-is = number-got 2 65535 block 4 (bytes_of_lem block c.type_inv.block) (omega arith) (omega arith) _
    c.read_word.result c.in-Ok.is c.read_word.ensures.0 in
    (omega arith, omega arith)
