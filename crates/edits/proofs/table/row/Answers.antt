-- `table::row` meets its contract. Assumes nothing.
use Prim.Native.Nat.{◌<◌, ◌^◌}
use mathlib.Core.Path.{ap, sym, subst, ◌∙◌}
use Rattle.std.specs.Prelude.{Some}
use Rattle.edits.specs.Table.{place_in, row_from, no_line}
use Rattle.edits.specs.declared.table.Field.{Field}
use Rattle.edits.specs.declared.table.FieldRow.{FieldRow}
use Rattle.edits.proofs.Indexed.{row_at_lem, place_small}
use Rattle.edits.proofs.Search.{index_small, row_in_lem, row_out, row_none}
use Rattle.edits.proofs.table.row.Goals as goal

pub returns-in_err-index : goal.returns-in_err-index
returns-in_err-index c =
    c.from_residual.ensures ∙ row_none c.args.field c.args.layout (sym c.in_err-index.was ∙ c.index_of.ensures)

pub line-requires : goal.line-requires
line-requires c = index_small c.args.field c.args.layout c.in_ok-index.index (sym c.in_ok-index.was ∙ c.index_of.ensures)

pub placed-requires : goal.placed-requires
placed-requires c =
    subst (λ (x : Field). place_in x c.args.layout.near c.args.layout.far < 2 ^ 64) (sym c.line.ensures)
    (place_small c.in_ok-index.index no_line c.args.layout.near c.args.layout.far
    (index_small c.args.field c.args.layout c.in_ok-index.index (sym c.in_ok-index.was ∙ c.index_of.ensures)) c.requires.0 c.requires.1)

pub returns : goal.returns
returns c =
    let found = sym c.in_ok-index.was ∙ c.index_of.ensures in
    let small = index_small c.args.field c.args.layout c.in_ok-index.index found in
    let same = row_at_lem c.in_ok-index.index no_line c.args.layout.near c.args.layout.far small in
    ap (λ (r : FieldRow). Some r)
    (c.placed.ensures ∙ ap (λ (x : Field). row_from x c.args.layout.near c.args.layout.far) c.line.ensures ∙ same)
    ∙ row_in_lem c.args.field c.args.layout c.in_ok-index.index found (sym c.has_row.ensures ∙ c.if-not-has_row.false)

pub returns-then-not-has_row : goal.returns-then-not-has_row
returns-then-not-has_row c =
    row_out c.args.field c.args.layout c.in_ok-index.index (sym c.in_ok-index.was ∙ c.index_of.ensures)
    (sym c.has_row.ensures ∙ c.if-not-has_row.true)
