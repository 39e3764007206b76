-- The payloads marked in document 01, of the definitions: in each the last byte is the check.
-- Assumes nothing.
use mathlib.Core.Path.{◌≡◌, refl}
use mathlib.Core.List.{List, [], ◌∷◌, map}
use Prim.Native.Nat.{ℕ, ◌-◌}
use lib.ListN.{length, get_or}
use Rattle.crc.specs.Polynomial.{remainder}
use Rattle.crc.specs.Check.{check_of, typed_check, payload_check}

-- M1; M2; M3 before and after its edit; M5
abbrev pub marked : List (List ℕ)
marked =
    (0xC8 ∷ 0xEA ∷ 0x01 ∷ 0x01 ∷ 0xFE ∷ [])
    ∷ (0xC8 ∷ 0xEA ∷ 0x01 ∷ 0x01 ∷ 0x00 ∷ 0xFE ∷ [])
    ∷ (0xC8 ∷ 0xEA ∷ 0x08 ∷ 0x02 ∷ 0x16 ∷ 0xA8 ∷ 0x0E ∷ [])
    ∷ (0xC8 ∷ 0xEA ∷ 0x08 ∷ 0x02 ∷ 0x13 ∷ 0x88 ∷ 0x90 ∷ [])
    ∷ (0xC8 ∷ 0xEA ∷ 0x01 ∷ 0x22 ∷ [])
    ∷ (0xC8 ∷ 0xEA ∷ 0x02 ∷ 0x56 ∷ [])
    ∷ (0xC8 ∷ 0xEA ∷ 0x03 ∷ 0xEC ∷ [])
    ∷ []

last_of_lem : List ℕ → ℕ
last_of_lem p = get_or p (length p - 1) 0

marked_right : map payload_check marked ≡ map last_of_lem marked
unfolding typed_check check_of remainder last_of_lem
marked_right = refl
