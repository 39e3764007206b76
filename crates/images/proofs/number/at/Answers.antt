-- `number::at` meets its contract. Assumes nothing.
use Rattle.crc.proofs.Laws.{bytes_of_lem}
use Rattle.images.proofs.NumberLaws.{at-got, at-not}
use Rattle.images.proofs.number.at.Goals as goal

pub returns-in-Ok : goal.returns-in-Ok
returns-in-Ok c =
    let given = c.args in
    let image = given.image.now in
    at-got image (bytes_of_lem image c.type_inv.image) given.place given.width c.read_number.result
    c.read_number.ensures.0 _ c.in-Ok.is

pub returns-in-Err : goal.returns-in-Err
returns-in-Err c =
    let given = c.args in
    let image = given.image.now in
    at-not image (bytes_of_lem image c.type_inv.image) given.place given.width c.read_number.result
    c.read_number.ensures.0 _ c.in-Err.is
