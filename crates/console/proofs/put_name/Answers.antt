-- `put_name` meets its contract: three puts, one behind the other, where all have room. Assumes nothing.
use borrow.Author.Rules.{rules}
use Rattle.console.proofs.NameLaws.{name_put}
use Rattle.console.proofs.put_name.Goals as goal

pub returns : goal.returns
returns c =
    let given = c.args in
    name_put given.program.now given.what.now given.name.now _ _ _ (search rules)
    c.put_bytes.ensures c.put_bytes-2.ensures c.put_bytes-3.ensures
