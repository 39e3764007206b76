-- `put_numbered` meets its contract: what the digits leave of their array, with the line's end behind them, is put where the word has room
-- before it. Assumes nothing.
use Prim.Native.Nat.{ℕ, ◌+◌}
use mathlib.Core.List.{List, ◌++◌}
use mathlib.Core.Path.{◌≡◌, ap, ◌∙◌}
use native.Mathlib.Omega.{arith}
use lib.ListN.{length, length-append}
use Rattle.text.specs.Pieces.{decimal, newline, most_digits}
use Rattle.text.proofs.Before.{room-short, before-not, before_two, ends-length, ends-part}
use Rattle.text.proofs.Digits.{decimal_is, digits_fit}
use borrow.Author.Rules.{rules}
use Rattle.text.proofs.put_numbered.Goals as goal

pub write_digits-digits-requires : goal.write_digits-digits-requires
write_digits-digits-requires c = (digits_fit c.args.number c.ranges.number.fits, omega arith)

pub returns-then-at-word : goal.returns-then-at-word
returns-then-at-word c =
    let given = c.args in
    let put = c.write_digits-digits in
    let end = decimal given.number ++ newline in
    let after = put.ensures.written ∙ ap (λ (ds : List ℕ). ds ++ newline) (decimal_is given.number c.ranges.number.fits) in
    let all : length put.new.buf ≡ most_digits + 1 = search rules in
    let size = ends-length end put.result (most_digits + 1) put.new.buf all after in
    before-not (given.word.now ++ end) given.at given.text.now
    (room-short (given.word.now ++ end) given.at given.text.now
    (omega (arith, c.if-at-word.true, length-append given.word.now end)))

pub returns : goal.returns
returns c =
    let given = c.args in
    let put = c.write_digits-digits in
    let end = decimal given.number ++ newline in
    let after = put.ensures.written ∙ ap (λ (ds : List ℕ). ds ++ newline) (decimal_is given.number c.ranges.number.fits) in
    let all : length put.new.buf ≡ most_digits + 1 = search rules in
    let size = ends-length end put.result (most_digits + 1) put.new.buf all after in
    before_two (omega (arith, c.if-at-word.false, length-append given.word.now end))
    (rw (ends-part end put.result (most_digits + 1) put.new.buf all after) at c.put_word-place.ensures)
    c.put_word.ensures
