-- `applying::apply_each` meets its contract: what is left of the list is to do. Assumes nothing.
use mathlib.Core.Path.{◌≡◌}
use lib.ListN.{length}
use Rattle.std.specs.Iterator.Adapters.{enumerate_source, enumerate_count}
use Rattle.std.specs.Slice.Iter.{chunks_exact_rest, chunks_exact_size}
use Rattle.edits.specs.Opened.{Opened}
use Rattle.edits.proofs.Turns.{Turns}
use Rattle.edits.proofs.applying.apply_each.Given as goal

abbrev pub invariant-loop-done : goal.invariant-loop-done
invariant-loop-done l = record {
  payload_length : length l.payload ≡ length l.initial.payload;
  answers_length : length l.answers ≡ length l.initial.answers;
  opened : Opened l.payload l.layout;
  size : chunks_exact_size (enumerate_source l.done-iterator) ≡ 8;
  turns : Turns l.edits l.initial.payload l.initial.answers l.payload l.answers (enumerate_count l.done-iterator)
      (chunks_exact_rest (enumerate_source l.done-iterator));
}
