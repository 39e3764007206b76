-- `reader::read_text` meets its contract. Assumes nothing.
use mathlib.Core.Path.{sym, ◌∙◌}
use native.Mathlib.Omega.{arith}
use lib.ListN.{length-drop}
use Rattle.codec.proofs.Texts.{text_none, text_some, text_over, text_is}
use Rattle.codec.proofs.reader.read_text.Goals as goal

pub returns-in_default : goal.returns-in_default
returns-in_default c = (sym (text_none _ _ (sym c.in_default.is ∙ (rw c.all_but.ensures at c.zero_in.ensures))), tt)

pub returns-then-most-len : goal.returns-then-most-len
returns-then-most-len c =
    let t = text_some _ _ (sym c.in-Some.is ∙ (rw c.all_but.ensures at c.zero_in.ensures)) in
    (sym (text_over _ _ _ t.0 t.1 c.if-most-len.true), tt)

pub returns : goal.returns
returns c =
    let t = text_some _ _ (sym c.in-Some.is ∙ (rw c.all_but.ensures at c.zero_in.ensures)) in
    let l = length-drop c.args.at c.args.bytes.now in
    (text_is _ _ _ t.0 t.1 c.if-most-len.false, (omega (arith, t.1), omega arith))
