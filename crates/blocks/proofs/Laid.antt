-- A block that is laid out is sound, with its number and its payloads. Assumes nothing.
use Prim.Native.Nat.{ℕ, zero, suc, ◌+◌, ◌-◌, ◌<◌, ◌≤◌}
use mathlib.Core.List.{List, [], ◌∷◌, ◌++◌, append_assoc}
use mathlib.Core.Path.{◌≡◌, refl, ap, sym, ◌∙◌}
use native.Mathlib.Omega.{arith}
use borrow.Author.Tests.{le-ltb, le-leb, eq-eqb}
use lib.ListN.{length, take, drop, replicate, length-append, length-replicate}
use lib.Seq.{take_at, get_or_at, take-append_seam, drop-append_seam, drop-drop}
use Rattle.crc.specs.Check.{command_polynomial, check_of}
use Rattle.codec.specs.Sheet.{got}
use Rattle.codec.specs.Digits.{bytes_of}
use Rattle.codec.proofs.Digits.{length-bytes_of, number-bytes}
use Rattle.families.specs.Text.{padded}
use Rattle.families.proofs.TextLaws.{zeros-replicate}
use Rattle.blocks.specs.Block.{block_number, used_count, used_bytes, filler, check_byte, block_check, records_from, records_of}
use Rattle.blocks.specs.Laid.{laid_records, unclosed, closed_by, block_of, placed_from, AllHold}

-- ---- the records, one behind the other
laid_from : (f at : ℕ) (ps : List (List ℕ)) → AllHold ps → length (laid_records ps) < f
    → records_from f at (laid_records ps) ≡ got (placed_from at ps)
laid_from zero at ps h l = absurd (omega arith)
laid_from (suc f) at [] h l = refl
laid_from (suc f) at (p ∷ ps) (g, h) l =
    let s = laid_records ps in
    let n : length (p ++ s) ≡ length p + length s = length-append p s in
    rw (
      le-ltb (length p) 4 g.0,
      le-ltb 60 (length p) g.1,
      le-ltb (length (p ++ s)) (length p) (omega arith),
      drop-append_seam p s,
      take-append_seam p s,
      laid_from f (at + suc (length p)) ps h (omega arith),
    )

-- ---- 511 bytes and their check
module _ (o : List ℕ) (size : length o ≡ 511) where
  abbrev last : List ℕ
  last = check_of command_polynomial o ∷ []

  pub closed-length : length (closed_by o) ≡ 512
  closed-length = rw (length-append o last, size)

  pub closed_front : take 511 (closed_by o) ≡ o
  closed_front = take_at o last 511 size

  pub closed-check : check_byte (closed_by o) ≡ block_check (closed_by o)
  closed-check = get_or_at o (check_of command_polynomial o) [] 0 511 size ∙ ap (λ (f : List ℕ). check_of command_polynomial f) (sym closed_front)

-- ---- the parts of a block
module _ (n : ℕ) (ps : List (List ℕ)) (low : n < 4294967296) (hold : AllHold ps) (room : length (laid_records ps) ≤ 505) where
  abbrev s : List ℕ
  s = laid_records ps

  -- what follows the number, and the used count, up to the check
  abbrev filled : List ℕ
  filled = padded 505 s

  abbrev counted : List ℕ
  counted = bytes_of 2 (length s) ++ filled

  abbrev closing : List ℕ
  closing = check_of command_polynomial (unclosed n ps) ∷ []

  filled-length : length filled ≡ 505
  filled-length = rw (length-append s (replicate (505 - length s) 0), length-replicate) (omega arith)

  unclosed-length : length (unclosed n ps) ≡ 511
  unclosed-length =
      rw (
        length-append (bytes_of 4 n) counted,
        length-bytes_of 4 n,
        length-append (bytes_of 2 (length s)) filled,
        length-bytes_of 2 (length s),
        filled-length,
      )

  used_is : used_count (block_of n ps) ≡ length s
  used_is = number-bytes 2 (length s) (omega arith)

  records_are : used_bytes (block_of n ps) ≡ s
  records_are =
      ap (λ (k : ℕ). take k (filled ++ closing)) used_is
      ∙ rw (append_assoc s (replicate (505 - length s) 0) closing) (take-append_seam s (replicate (505 - length s) 0 ++ closing))

  filler_is : filler (block_of n ps) ≡ replicate (505 - length s) 0
  filler_is =
      ap (λ (k : ℕ). drop (6 + k) (take 511 (block_of n ps))) used_is
      ∙ ap (λ (o : List ℕ). drop (6 + length s) o) (closed_front (unclosed n ps) unclosed-length)
      ∙ sym (drop-drop (length s) 6 (unclosed n ps))
      ∙ drop-append_seam s (replicate (505 - length s) 0)

  pub laid-number : block_number (block_of n ps) ≡ n
  laid-number = number-bytes 4 n low

  pub laid-sound : records_of (block_of n ps) ≡ got (placed_from 6 ps)
  unfolding records_of
  laid-sound =
      rw (
        eq-eqb (length (block_of n ps)) 512 (closed-length (unclosed n ps) unclosed-length),
        eq-eqb (check_byte (block_of n ps)) (block_check (block_of n ps)) (closed-check (unclosed n ps) unclosed-length),
        records_are,
        filler_is,
        used_is,
        le-leb (length s) 505 room,
        laid_from (suc (length s)) 6 ps hold (omega arith),
        zeros-replicate (505 - length s),
      )
