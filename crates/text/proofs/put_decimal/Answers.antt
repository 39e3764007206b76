-- `put_decimal` meets its contract: what the digits leave of their array is the word. Assumes nothing.
use mathlib.Core.List.{append-nil}
use mathlib.Core.Path.{◌≡◌, ◌∙◌}
use native.Mathlib.Omega.{arith}
use lib.ListN.{length}
use Rattle.text.specs.Pieces.{decimal, most_digits}
use Rattle.text.proofs.Before.{ends-part}
use Rattle.text.proofs.Digits.{decimal_is, digits_fit}
use borrow.Author.Rules.{rules}
use Rattle.text.proofs.put_decimal.Goals as goal

pub write_digits-start-requires : goal.write_digits-start-requires
write_digits-start-requires c = (digits_fit c.args.number c.ranges.number.fits, omega arith)

pub returns : goal.returns
returns c =
    let given = c.args in
    let put = c.write_digits-start in
    let all : length put.new.buf ≡ most_digits = search rules in
    rw (ends-part (decimal given.number) put.result most_digits put.new.buf all
    (put.ensures.written ∙ append-nil _ ∙ decimal_is given.number c.ranges.number.fits)) at c.put_word.ensures
