-- The head of a popup, put. Assumes nothing.
use mathlib.Core.Path.{◌≡◌}
use native.Mathlib.Omega.{arith}
use lib.ListN.{length}
use Rattle.families.proofs.PutFields.{head-put}
use borrow.Author.Rules.{rules}
use Rattle.families.proofs.fields.put_head.Goals as goal

pub returns : goal.returns
returns c =
    let long : (length c.args.header.bytes ≡ 51) × (length c.args.info.bytes ≡ 51) = (search rules, search rules) in (
      head-put c.args.out.now c.put_text-info_at.new.out c.put_text-timeout_at.new.out
          c.args.header c.args.info c.args.timeout c.put_text-info_at.result
          c.put_text-timeout_at.result c.bit_of-close_byte.result c.args.close
          long c.requires.0 (search rules) c.bit_of-close_byte.ensures
          c.put_text-info_at.ensures.0 c.put_text-info_at.ensures.1
          c.put_text-timeout_at.ensures.0 c.put_text-timeout_at.ensures.1,
      omega (arith, c.put_text-info_at.ensures.1, c.put_text-timeout_at.ensures.1),
    )
