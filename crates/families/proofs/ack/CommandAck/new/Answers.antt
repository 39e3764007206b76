-- The ACK constructor: too long, the action, a zero byte, or the ACK. Assumes nothing.
use mathlib.Core.Path.{sym, ◌∙◌}
use Rattle.families.specs.Ack.{ack_with}
use Rattle.families.proofs.Acks.{new-long, new_action, new-got, new-zero}
use Rattle.families.proofs.ack.CommandAck.new.Goals as goal

pub returns-then-information-gt-MAX_ACK_INFORMATION_LEN : goal.returns-then-information-gt-MAX_ACK_INFORMATION_LEN
returns-then-information-gt-MAX_ACK_INFORMATION_LEN c =
    rw (new-long (ack_with c.args.command_id c.args.sub_command_id c.args.action) c.args.information.now c.if-information-gt-MAX_ACK_INFORMATION_LEN.true)

pub returns-then-action-gt1 : goal.returns-then-action-gt1
returns-then-action-gt1 c =
    rw (new_action (ack_with c.args.command_id c.args.sub_command_id c.args.action) c.args.information.now c.if-information-gt-MAX_ACK_INFORMATION_LEN.false c.if-action-gt1.true)

pub returns-then-not-all_nonzero : goal.returns-then-not-all_nonzero
returns-then-not-all_nonzero c =
    rw (new-zero (ack_with c.args.command_id c.args.sub_command_id c.args.action) c.args.information.now
    c.if-information-gt-MAX_ACK_INFORMATION_LEN.false c.if-action-gt1.false (sym c.all_nonzero.ensures ∙ c.if-not-all_nonzero.true))

pub returns : goal.returns
returns c =
    rw (new-got (ack_with c.args.command_id c.args.sub_command_id c.args.action) c.args.information.now
    c.if-information-gt-MAX_ACK_INFORMATION_LEN.false c.if-action-gt1.false (sym c.all_nonzero.ensures ∙ c.if-not-all_nonzero.false)) c.with_information.ensures
