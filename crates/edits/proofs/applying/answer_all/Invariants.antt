-- `applying::answer_all` meets its contract. Assumes nothing.
use mathlib.Core.Path.{◌≡◌}
use mathlib.Core.List.{◌++◌}
use lib.ListN.{replicate, drop}
use Rattle.edits.proofs.applying.answer_all.Given as goal

abbrev pub invariant-loop-answer : goal.invariant-loop-answer
invariant-loop-answer l = l.answers ≡ replicate l.answer-index l.number ++ drop l.answer-index l.initial.answers
