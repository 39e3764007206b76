-- The text constructor: a zero byte, too long, or the text of the bytes. Assumes nothing.
use native.Mathlib.Omega.{arith}
use mathlib.Core.Path.{sym, ◌∙◌}
use Rattle.families.proofs.TextLaws.{new-long, new-text, new-zero}
use Rattle.families.proofs.text.CommandString.new.Goals as goal

pub returns-then-not-all_nonzero : goal.returns-then-not-all_nonzero
returns-then-not-all_nonzero c = rw (new-zero c.args.bytes.now (sym c.all_nonzero.ensures ∙ c.if-not-all_nonzero.true))

pub returns-then-bytes-gt-MAX_COMMAND_STRING_LEN : goal.returns-then-bytes-gt-MAX_COMMAND_STRING_LEN
returns-then-bytes-gt-MAX_COMMAND_STRING_LEN c =
    rw (new-long c.args.bytes.now (sym c.all_nonzero.ensures ∙ c.if-not-all_nonzero.false) (omega (arith, c.if-bytes-gt-MAX_COMMAND_STRING_LEN.true)))

pub returns : goal.returns
returns c =
    new-text c.args.bytes.now c.of.result (sym c.all_nonzero.ensures ∙ c.if-not-all_nonzero.false) (omega (arith, c.if-bytes-gt-MAX_COMMAND_STRING_LEN.false)) c.of.ensures
