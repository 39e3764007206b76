-- Every byte is a pit byte. Assumes nothing.
use Prim.Native.Nat.{ℕ, ◌/◌, ◌%◌, ◌<◌, ◌≤◌}
use mathlib.Core.Bool.{Bool, true, false}
use mathlib.Core.List.{List, [], ◌∷◌}
use mathlib.Core.Path.{◌≡◌, refl, sym, ◌∙◌}
use mathlib.Core.Logic.{⊎_elim}
use native.Mathlib.Omega.{arith}
use native.Mathlib.Nat.{div-one, eq-zero-or-pos}
use lib.Dec.{eqb, ltb}
use borrow.Author.Tests.{le-ltb, lt-ltb, eq-eqb, ne_eqb}
use Rattle.codec.specs.Digits.{split}
use Rattle.codec.specs.Sheet.{field, byte, got, refused}
use Rattle.codec.specs.Reading.{read_item}
use Rattle.codec.specs.Writing.{ok_item}
use Rattle.codec.specs.Told.{bit}
use Rattle.codec.proofs.Items.{judged, ltb-zero}
use Rattle.codec.proofs.Packed.{packed-got, packed-not}
use Rattle.families.specs.Sheets.{pit}

pub bit-of : (n : ℕ) → bit (eqb (n % 2) 1) ≡ n % 2
bit-of n =
    ⊎_elim (λ (h : n % 2 ≡ 0). rw (ne_eqb (n % 2) 1 (λ z. omega arith)) (sym h))
    (λ (h : 0 < n % 2). let e : n % 2 ≡ 1 = omega arith in rw (eq-eqb (n % 2) 1 e) (sym e))
    (eq-zero-or-pos (n % 2))

pit-judged : (p : ℕ) → judged (field 4 0 15 ∷ field 2 0 3 ∷ field 1 0 1 ∷ []) p ≡ got (split (4 ∷ 2 ∷ 1 ∷ []) p)
pit-judged p =
    simp (div-one, ltb-zero, le-ltb 15 (p / 8 % 16) (omega arith), le-ltb 3 (p / 2 % 4) (omega arith), le-ltb 1 (p % 2) (omega arith))

pub pit-got : (s : List ℕ) (p : ℕ) → got (p ∷ []) ≡ read_item byte s → read_item pit s ≡ got (split (4 ∷ 2 ∷ 1 ∷ []) p)
pit-got s p h = packed-got 1 (field 4 0 15 ∷ field 2 0 3 ∷ field 1 0 1 ∷ []) s p refl (sym h) ∙ pit-judged p

pub pit-not : (s : List ℕ) (k : ℕ) → refused k 0 ≡ read_item byte s → read_item pit s ≡ refused k 0
pit-not s k h = packed-not 1 (field 4 0 15 ∷ field 2 0 3 ∷ field 1 0 1 ∷ []) s k 0 (sym h)

-- the tests of the code
bit-small : (b : Bool) → ltb 1 (bit b) ≡ false
bit-small true = refl
bit-small false = refl

pub switch_over : (switch control : ℕ) (b : Bool) → 15 < switch → false ≡ ok_item pit (switch ∷ control ∷ bit b ∷ [])
switch_over switch control b h = rw (ltb-zero switch, lt-ltb 15 switch h)

pub control_over : (switch control : ℕ) (b : Bool) → switch ≤ 15 → 3 < control → false ≡ ok_item pit (switch ∷ control ∷ bit b ∷ [])
control_over switch control b h l = rw (ltb-zero switch, le-ltb 15 switch h, ltb-zero control, lt-ltb 3 control l)

pub both_in : (switch control : ℕ) (b : Bool) → switch ≤ 15 → control ≤ 3 → true ≡ ok_item pit (switch ∷ control ∷ bit b ∷ [])
both_in switch control b h l = rw (ltb-zero switch, le-ltb 15 switch h, ltb-zero control, le-ltb 3 control l, ltb-zero (bit b), bit-small b)
