-- `open_argument` meets its contract: the argument stands behind the program's name, and the file is named by all of it. Assumes nothing.
use lib.Seq.{length-take-le}
use Rattle.console.proofs.NameLaws.{argument_named, sized_named}
use Rattle.console.proofs.open_argument.Goals as goal

pub returns-in-File : goal.returns-in-File
returns-in-File c =
    let named = argument_named _ _ _ _ c.in-Some.ensures c.in-Ok.len c.arg.new.buf c.in-Ok.ensures.bound in
    sized_named c.open_file.result named (rw (length-take-le _ _ named.fits) at c.open_file.ensures)
