-- The popup of fields that nothing stops, zeros after it. Assumes nothing.
use Rattle.families.proofs.PutFields.{popup-put}
use Rattle.families.proofs.fields.put.Goals as goal

pub returns : goal.returns
returns c = popup-put c.args.fields c.requires
    c.put_all-len.new.out c.put_all-len.result c.put_all-len.ensures.0
    c.put_all-len.ensures.1
