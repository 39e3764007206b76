-- `line::put_text` meets its contract: the event's text, as it stands at the end of its array, is put. Assumes nothing.
use native.Mathlib.Omega.{arith}
use mathlib.Core.Path.{◌≡◌}
use lib.ListN.{length}
use Rattle.text.proofs.Before.{ends-part}
use Rattle.replay_lines.specs.Text.{longest_text, text_of}
use borrow.Author.Rules.{rules}
use Rattle.replay_lines.proofs.line.put_text.Goals as goal

pub returns : goal.returns
returns c =
    let given = c.args in
    let put = c.put_event-start in
    let all : length put.new.text ≡ longest_text = search rules in record {
      put = rw (ends-part (text_of given.event) put.result longest_text put.new.text all put.ensures.bytes)
          at c.put_behind.ensures;
      longest = omega (arith, put.ensures.start);
    }
