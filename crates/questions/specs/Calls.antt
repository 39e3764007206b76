-- Any calls, one after the other, on what is kept. Assumes nothing.
use Rattle.std.specs.Prelude.{List, [], ◌∷◌}
use Rattle.codec.specs.Sheet.{Answer}
use Rattle.questions.specs.Table.{Call, Told}
use Rattle.questions.specs.Kept.{reply_to, kept_after}
use Rattle.questions.specs.declared.Question.{Question}

abbrev pub kept_next : Question → Call → Question
kept_next q c = kept_after q c (reply_to q c)

abbrev pub replies : Question → List Call → List (Answer Told)
replies q [] = []
replies q (c ∷ cs) = reply_to q c ∷ replies (kept_next q c) cs

abbrev pub kept_last : Question → List Call → Question
kept_last q [] = q
kept_last q (c ∷ cs) = kept_last (kept_next q c) cs
