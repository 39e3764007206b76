-- What other crates cite of the check.
-- Assumes nothing.
use mathlib.Core.Path.{◌≡◌, sym, ap, ◌∙◌}
use mathlib.Core.List.{List, [], ◌∷◌, ◌++◌}
use Prim.Native.Nat.{ℕ, zero, suc, ◌*◌, ◌-◌, ◌<◌, ◌^◌}
use native.Mathlib.Nat.{zero-mul}
use lib.Bits.{xor_lt}
use lib.Dec.{lit<, lit≤}
use lib.ListN.{get_or, length, take}
use mir.Val.{Fits}
use mir.Syntax.{w8}
use Rattle.crc.specs.Polynomial.{x, plus, Degree8, Remainder}
use Rattle.crc.specs.Check.{command_polynomial, Bytes, message, started_message, check_of, check_from, all_but_last, typed_check}
use Rattle.crc.specs.Steps.{steps, worked}
use Rattle.crc.proofs.Remainders.{remainder_is}
use Rattle.crc.proofs.Worked.{steps_low, worked_is_check}

-- ---- bytes
-- a slice's elements, each known to fit, are bytes
pub bytes_of_lem : (bs : List ℕ) → ((i : ℕ) → Fits w8 (get_or bs i 0)) → Bytes bs
bytes_of_lem [] h = tt
bytes_of_lem (b ∷ bs) h = ((h 0).fits, bytes_of_lem bs (λ i. h (suc i)))

pub bytes_take : (n : ℕ) (bs : List ℕ) → Bytes bs → Bytes (take n bs)
bytes_take zero bs h = tt
bytes_take (suc n) [] h = tt
bytes_take (suc n) (b ∷ bs) (hb, h) = (hb, bytes_take n bs h)

pub bytes_append : (cs bs : List ℕ) → Bytes cs → Bytes bs → Bytes (cs ++ bs)
bytes_append [] bs hc hb = hb
bytes_append (c ∷ cs) bs (hc, hcs) hb = (hc, bytes_append cs bs hcs hb)

-- ---- the check is the remainder, and there is one remainder only (`one-remainder`)
pub from_zero : (g : ℕ) (bs : List ℕ) → check_from g 0 bs ≡ check_of g bs
unfolding check_from check_of
from_zero g bs = simp zero-mul

module _ {g : ℕ} (d : Degree8 g) where
  pub check_is_remainder : (bs : List ℕ) → Remainder g (message bs * x ^ 8) (check_of g bs)
  unfolding check_of
  check_is_remainder bs = remainder_is d (message bs * x ^ 8)

  pub from_is_remainder : (s : ℕ) (bs : List ℕ) → Remainder g (started_message s bs) (check_from g s bs)
  unfolding check_from
  from_is_remainder s bs = remainder_is d (started_message s bs)

  pub check-low : (s : ℕ) (bs : List ℕ) → check_from g s bs < 256
  check-low s bs = (from_is_remainder s bs).low

  -- ---- byte after byte
  pub check_none : (s : ℕ) → s < 256 → check_from g s [] ≡ s
  unfolding worked
  check_none s hs = sym (worked_is_check d s [] hs tt)

  pub check-next : (s b : ℕ) (bs : List ℕ) → s < 256 → b < 256 → Bytes bs → check_from g s (b ∷ bs) ≡ check_from g (steps g 8 (plus s b)) bs
  unfolding worked
  check-next s b bs hs hb hbs =
      sym (worked_is_check d s (b ∷ bs) hs (hb, hbs)) ∙ worked_is_check d (steps g 8 (plus s b)) bs (steps_low d 8 (plus s b) (xor_lt 8 s b hs hb)) hbs

  -- the check of two parts: that of the second, from that of the first
  pub check_append : (s : ℕ) (cs bs : List ℕ) → s < 256 → Bytes cs → Bytes bs → check_from g s (cs ++ bs) ≡ check_from g (check_from g s cs) bs
  check_append s [] bs hs hc hb = ap (λ (t : ℕ). check_from g t bs) (sym (check_none s hs))
  check_append s (c ∷ cs) bs hs (hc, hcs) hb =
      check-next s c (cs ++ bs) hs hc (bytes_append cs bs hcs hb)
      ∙ check_append (steps g 8 (plus s c)) cs bs (steps_low d 8 (plus s c) (xor_lt 8 s c hs hc)) hcs hb
      ∙ ap (λ (t : ℕ). check_from g t bs) (sym (check-next s c cs hs hc hcs))

-- ---- the command's polynomial
abbrev pub command : Degree8 command_polynomial
command = record { least = lit≤ tt; most = lit< tt }

-- "the remainder of the message, times x^8", the message being the frame's type and all payload bytes but the last
pub payload_check_is_remainder : (t : ℕ) (p : List ℕ) → Remainder command_polynomial (message (t ∷ all_but_last p) * x ^ 8) (typed_check t p)
unfolding typed_check
payload_check_is_remainder t p = check_is_remainder command (t ∷ all_but_last p)

-- a payload's check goes on from that of the type
pub payload-check_from : (t : ℕ) (p : List ℕ) → t < 256 → Bytes p
    → typed_check t p ≡ check_from command_polynomial (steps command_polynomial 8 (plus 0 t)) (all_but_last p)
unfolding typed_check
payload-check_from t p l h =
    sym (from_zero command_polynomial (t ∷ all_but_last p))
    ∙ check-next command 0 t (all_but_last p) (lit< tt) l (bytes_take (length p - 1) p h)
