-- The code's steps, and a turn of the loop over the bytes.
-- Assumes nothing.
use mathlib.Core.Path.{◌≡◌, sym, ap, ap₂, ◌∙◌}
use mathlib.Core.List.{List}
use Prim.Native.Nat.{ℕ, ◌+◌, ◌-◌, ◌*◌, ◌/◌, ◌<◌, ◌≤◌}
use native.Mathlib.Nat.{zero-mul, one-mul, zero-add}
use native.Mathlib.Numerals.{add-one}
use native.Mathlib.Omega.{arith}
use lib.Bits.{bit_xor, xor_zero_r, xor_block}
use lib.ListN.{length, drop, get_or, drop_of_length-le}
use lib.Seq.{drop-cons}
use Rattle.crc.specs.Polynomial.{Degree8}
use Rattle.crc.specs.Steps.{step, steps, worked}

pub step_small : (g r : ℕ) → r < 128 → r * 2 ≡ step g r
unfolding step
step_small g r h = let e : r / 128 ≡ 0 = omega arith in sym (rw (e, zero-mul, xor_zero_r))

-- g - 256 is g without its x^8
pub step_large : {g : ℕ} → Degree8 g → (r : ℕ) → 128 ≤ r → r < 256 → bit_xor ((r - 128) * 2) (g - 256) ≡ step g r
unfolding step
step_large {g} d r l h =
    let e : r / 128 * g ≡ 1 * 256 + (g - 256) = ap (λ (t : ℕ). t * g) {y = 1} (omega arith) ∙ one-mul g ∙ omega arith in
    let t : r * 2 ≡ 1 * 256 + (r - 128) * 2 = omega arith in
    sym (ap₂ bit_xor t e ∙ xor_block 8 1 1 ((r - 128) * 2) (g - 256) (omega arith) (omega arith) ∙ zero-add _)

-- whichever way the eight steps are worked
pub turn : (g s r i x : ℕ) (bs : List ℕ) → worked g s bs ≡ worked g r (drop i bs) → x ≡ steps g 8 (bit_xor r (get_or bs i 0))
    → i < length bs → worked g s bs ≡ worked g x (drop (i + 1) bs)
unfolding worked
turn g s r i x bs e d h = e ∙ rw (d, add-one, drop-cons bs i 0)

pub done : (g s r i : ℕ) (bs : List ℕ) → worked g s bs ≡ worked g r (drop i bs) → length bs ≤ i → r ≡ worked g s bs
unfolding worked
done g s r i bs e h = sym (e ∙ rw (drop_of_length-le bs h))
