-- `put_end` meets its contract: the closing line, as it stands at the end of its array, is put. Assumes nothing.
use native.Mathlib.Omega.{arith}
use mathlib.Core.Path.{refl}
use Rattle.text.proofs.Digits.{end_length}
use Rattle.text.proofs.Before.{before-within, first_part}
use Rattle.replay_lines.specs.Text.{longest_text}
use Rattle.replay_lines.proofs.TextLaws.{end_some, front_none, front_put}
use Rattle.replay_lines.proofs.put_end.Goals as goal

pub returns-then-len-eq0 : goal.returns-then-len-eq0
returns-then-len-eq0 c =
    let blocks = c.args.blocks in
    let last = end_length blocks (omega arith) in
    let put = first_part {n = longest_text} refl c.put_numbered-start.ensures (omega arith) in
    front_none (end_some blocks) (rw put at c.put_behind-len.ensures) c.if-len-eq0.true

pub returns : goal.returns
returns c =
    let blocks = c.args.blocks in
    let last = end_length blocks (omega arith) in
    let put = first_part {n = longest_text} refl c.put_numbered-start.ensures (omega arith) in
    front_put (end_some blocks) (rw put at c.put_behind-len.ensures) c.if-len-eq0.false

pub slice_bounds-put_behind-count : goal.slice_bounds-put_behind-count
slice_bounds-put_behind-count c = before-within c.put_numbered-start.ensures

pub slice_bounds-put_behind-start : goal.slice_bounds-put_behind-start
slice_bounds-put_behind-start c = before-within c.put_numbered-start.ensures
