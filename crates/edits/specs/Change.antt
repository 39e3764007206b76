-- The bytes of a payload as the code changes them. For the contracts of private functions: nobody has to believe this file. Assumes
-- nothing.
use Rattle.std.specs.Prelude.{ℕ, ◌+◌, ◌-◌, ◌^◌, ◌<◌, ◌≤◌, List, length, take, drop, get_or, set, replicate}
use Rattle.std.proofs.lemmas.List.Edits.{sets}
use Rattle.crc.specs.Polynomial.{plus}
use Rattle.crc.specs.Check.{command_polynomial, check_from}
use Rattle.codec.specs.Digits.{number_of, bytes_of}
use Rattle.codec.specs.Edit.{replaced}
use Rattle.edits.specs.declared.table.FieldRow.{FieldRow}

-- w bytes at a place
abbrev pub held : List ℕ → ℕ → ℕ → List ℕ
held s at w = take w (drop at s)

-- the field of m values, in units of u, of the number in w bytes at a place: n put there
abbrev pub patched : List ℕ → ℕ → ℕ → ℕ → ℕ → ℕ → List ℕ
patched s at w u m n = sets s at (bytes_of w (replaced u m (number_of (held s at w)) n))

-- what the code asks for that: one to four bytes, before the check; a unit and values; a number that four bytes hold
pub record FieldTakes (s : List ℕ) (at w u m n : ℕ) : Type 0 where
  pub some : 0 < w
  pub few : w ≤ 4
  pub there : at + w < length s
  pub counts : 0 < u
  pub values : 0 < m
  pub fits : replaced u m (number_of (held s at w)) n < 2 ^ 32

-- the check of s renewed into t, in which the w bytes at a place became others
abbrev pub renewal : List ℕ → List ℕ → ℕ → ℕ → ℕ
renewal s t at w =
    plus (get_or s (length s - 1) 0)
    (check_from command_polynomial (plus (check_from command_polynomial 0 (held s at w)) (check_from command_polynomial 0 (held t at w)))
    (replicate (length s - 1 - (at + w)) 0))

-- n put there, and the check renewed
abbrev pub changed : List ℕ → ℕ → ℕ → ℕ → ℕ → ℕ → List ℕ
changed s at w u m n = set (patched s at w u m n) (length s - 1) (renewal s (patched s at w u m n) at w)

-- ---- of the field that a row tells
abbrev pub RowTakes : List ℕ → FieldRow → ℕ → Type 0
RowTakes s r n = FieldTakes s r.place r.width r.unit r.many n

abbrev pub row_patched : List ℕ → FieldRow → ℕ → List ℕ
row_patched s r n = patched s r.place r.width r.unit r.many n

abbrev pub row_changed : List ℕ → FieldRow → ℕ → List ℕ
row_changed s r n = changed s r.place r.width r.unit r.many n
