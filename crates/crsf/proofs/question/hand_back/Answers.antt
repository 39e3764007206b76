-- `question::hand_back` meets its contract. Assumes nothing.
use Rattle.std.specs.Prelude.{Ok}
use mathlib.Core.Path.{ap, ◌∙◌}
use Rattle.questions.specs.declared.Reply.{Reply}
use Rattle.questions.specs.Kept.{told_reply}
use Rattle.questions.specs.Table.{opened, processed, cancelled, expired}
use Rattle.crsf.proofs.Questioned.{told, not-told}
use Rattle.crsf.proofs.question.hand_back.Goals as goal

pub returns-in-Opened : goal.returns-in-Opened
returns-in-Opened c =
    told c.args.reply c.args.question c.args.image.now _ opened _ (ap told_reply c.in-Ok.is ∙ ap (λ (r : Reply). told_reply (Ok r)) c.in-Opened.is)
    c.keep.ensures.value c.keep.ensures.image_after

pub returns-in-Processed : goal.returns-in-Processed
returns-in-Processed c =
    told c.args.reply c.args.question c.args.image.now _ processed _ (ap told_reply c.in-Ok.is ∙ ap (λ (r : Reply). told_reply (Ok r)) c.in-Processed.is)
    c.keep-in-Processed.ensures.value c.keep-in-Processed.ensures.image_after

pub returns-in-Cancelled : goal.returns-in-Cancelled
returns-in-Cancelled c =
    told c.args.reply c.args.question c.args.image.now _ cancelled _ (ap told_reply c.in-Ok.is ∙ ap (λ (r : Reply). told_reply (Ok r)) c.in-Cancelled.is)
    c.keep-in-Cancelled.ensures.value c.keep-in-Cancelled.ensures.image_after

pub returns-in-Expired : goal.returns-in-Expired
returns-in-Expired c =
    told c.args.reply c.args.question c.args.image.now _ expired _ (ap told_reply c.in-Ok.is ∙ ap (λ (r : Reply). told_reply (Ok r)) c.in-Expired.is)
    c.keep-in-Expired.ensures.value c.keep-in-Expired.ensures.image_after

pub returns-in-Err : goal.returns-in-Err
returns-in-Err c = not-told c.args.reply c.args.question c.args.image.now c.in-Err.why _ c.in-Err.is c.from.ensures
