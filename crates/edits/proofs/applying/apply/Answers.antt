-- `applying::apply` meets its contract. Assumes nothing.
use mathlib.Core.Path.{◌≡◌, sym, ◌∙◌}
use native.Mathlib.Omega.{arith}
use Rattle.std.specs.Prelude.{Err}
use Rattle.std.proofs.Common.{rules}
use Rattle.codec.specs.declared.refusal.Refusal.TheVariants.{NoSuchField}
use Rattle.edits.proofs.Applied.{Row, places-small, answers_none, row_of_lem, answers-low, answers-high, fits, accepts}
use Rattle.edits.proofs.applying.apply.Goals as goal
use Rattle.edits.proofs.applying.apply.Goals.{In_ok-row, then-number-row-via-then-number-row, then-number-row-via-else-number-row+then-row-number}

-- the row that was told
told : (c : In_ok-row) → Row c.args.field c.args.number c.requires c.in_ok-row.row
told c = row_of_lem c.args.field c.args.number c.requires c.in_ok-row.row (sym c.in_ok-row.ensures.ok_part ∙ c.row.ensures)

pub row-requires : goal.row-requires
row-requires c = places-small c.args.field c.args.number c.requires

pub returns-in_err-row : goal.returns-in_err-row
returns-in_err-row c =
    let none = c.in_err-row.ensures.ok_part in
    let r : c.from_residual.result ≡ Err NoSuchField = search rules in
    (rw r (answers_none c.args.field c.args.number c.requires (sym none ∙ c.row.ensures)), c.requires)

pub returns-then-number-row : goal.returns-then-number-row
returns-then-number-row c =
    let row = told (goal.at.returns-then-number-row c).In_ok-row in (
      elim c.then-number-row.branch [
        | then-number-row-via-then-number-row w ↦ answers-low c.args.field c.args.number c.requires row w.if-number-row.true
        | then-number-row-via-else-number-row+then-row-number w ↦ answers-high c.args.field c.args.number c.requires row
            (omega (arith, w.if-number-row.false)) w.if-row-number.true
      ],
      c.requires,
    )

pub change-requires : goal.change-requires
change-requires c =
    fits c.args.field c.args.number c.requires (told (goal.at.change-requires c).In_ok-row) (omega (arith, c.if-number-row.false))
    (omega (arith, c.if-row-number.false))

pub returns : goal.returns
returns c =
    accepts c.args.field c.args.number c.requires (told (goal.at.returns c).In_ok-row) (omega (arith, c.if-number-row.false))
    (omega (arith, c.if-row-number.false)) _ c.change.ensures
