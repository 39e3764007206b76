-- `put_closing` meets its contract: the closing line has room. Assumes nothing.
use native.Mathlib.Omega.{arith}
use mathlib.Core.List.{List, []}
use mathlib.Core.Path.{ap, sym}
use Rattle.codec.specs.Sheet.{Answer}
use Rattle.codec.specs.Refusals.{value_in}
use Rattle.listing.specs.Parts.{text_of_lines}
use Rattle.listing.specs.declared.line.Line.{Line}
use Rattle.listing.proofs.Parts.{closing-text, closing_not_refused}
use Rattle.crsf_list.proofs.put_closing.Goals as goal

pub returns-in-Ok-render : goal.returns-in-Ok-render
returns-in-Ok-render c =
    let given = c.args in
    let p = closing-text given.state c.in-Ok.line c.render.result given.text.now _ (sym c.in-Ok.ensures) c.render.ensures
    c.in-Ok-render.len c.requires c.in-Ok-render.is in
    record { fits = p.0; bytes = p.1 }

pub returns-in-Err-render : goal.returns-in-Err-render
returns-in-Err-render c =
    let given = c.args in
    absurd (closing_not_refused given.state c.in-Ok.line c.render.result given.text.now _ (sym c.in-Ok.ensures) c.render.ensures _ c.requires c.in-Err-render.is)

-- no line: of a state beyond its limits
pub returns-in-Err : goal.returns-in-Err
returns-in-Err c = record {
  fits = omega arith;
  bytes = ap (λ (a : Answer (List Line)). text_of_lines (value_in [] a)) c.in-Err.ensures;
}
