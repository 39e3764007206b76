-- A number of w bytes at a place, read with the whole range of that width: it is there, and is the number of those bytes. Assumes nothing.
use Rattle.std.specs.Prelude.{Result, Ok, Err}
use Prim.Native.Nat.{ℕ, ◌+◌, ◌*◌, ◌^◌, ◌<◌, ◌≤◌}
use mathlib.Core.List.{List, [], ◌∷◌}
use mathlib.Core.Path.{◌≡◌, refl, ◌∙◌}
use native.Mathlib.Omega.{arith}
use lib.ListN.{length, take, drop, length-drop}
use lib.Seq.{length-take-le}
use borrow.Author.Tests.{le-ltb}
use Rattle.crc.specs.Check.{Bytes}
use Rattle.crc.proofs.Laws.{bytes_take}
use Rattle.codec.specs.Digits.{number_of}
use Rattle.codec.specs.Sheet.{field, got, refused, number}
use Rattle.codec.specs.Reading.{read_item}
use Rattle.codec.specs.Told.{told_number, width_of}
use Rattle.codec.specs.declared.refusal.Refusal.{Refusal}
use Rattle.codec.specs.declared.reader.Width.{Width}
use Rattle.codec.specs.declared.reader.Width.TheVariants.{One, Two, Three, Four}
use Rattle.codec.proofs.Forth.{bytes_drop, bytes-number}
use Rattle.codec.proofs.Items.{number_is_lem, item-short, ltb-zero}

module _ (w high : ℕ) (s : List ℕ) (at : ℕ) (o : Bytes s) (there : at + w ≤ length s) (all : 2 ^ (8 * w) ≤ high + 1) where
  number-there : read_item (number w 0 high) (drop at s) ≡ got (number_of (take w (drop at s)) ∷ [])
  number-there =
      let t = take w (drop at s) in
      let l : length t ≡ w = length-take-le w (drop at s) (rw length-drop (omega arith)) in
      let m = (bytes-number t w l (bytes_take w (drop at s) (bytes_drop at s o))).1 in
      number_is_lem w 0 high s at (number_of t) there (refl, m) ∙ rw (ltb-zero (number_of t), le-ltb high (number_of t) (omega arith))

  pub number-got : (n : ℕ) (r : Result ℕ Refusal) → r ≡ Ok n → told_number r ≡ read_item (number w 0 high) (drop at s)
      → n ≡ number_of (take w (drop at s))
  number-got n r e t = let k : told_number (Ok n) ≡ got (number_of (take w (drop at s)) ∷ []) = rw e at t ∙ number-there in cc

  pub number-not : (r : Result ℕ Refusal) (k : Refusal) → r ≡ Err k → told_number r ≡ read_item (number w 0 high) (drop at s) → ⊥
  number-not r k e t =
      let f : told_number (Err k) ≡ got (number_of (take w (drop at s)) ∷ []) = rw e at t ∙ number-there in
      let z : ◌≡◌ {A = ℕ} 0 1 = cc in omega arith

-- where they are not all there, none is read
pub number_short : (w high : ℕ) (s : List ℕ) (at : ℕ) → 0 < w → length s < at + w
    → (n : ℕ) (r : Result ℕ Refusal) → r ≡ Ok n → told_number r ≡ read_item (number w 0 high) (drop at s) → ⊥
number_short w high s at p h n r e t =
    let f : told_number (Ok n) ≡ refused 1 0 = rw e at t ∙ item-short w (field (8 * w) 0 high ∷ []) s at p h in
    let z : ◌≡◌ {A = ℕ} 0 1 = cc in omega arith

-- any number of a width's bytes is within the range of four, and a width has a byte
pub in_four : (w : Width) → 2 ^ (8 * width_of w) ≤ 4294967295 + 1
in_four One = omega arith
in_four Two = omega arith
in_four Three = omega arith
in_four Four = omega arith

pub has_byte : (w : Width) → 0 < width_of w
has_byte One = omega arith
has_byte Two = omega arith
has_byte Three = omega arith
has_byte Four = omega arith
