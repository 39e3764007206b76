-- A colour from the number of its three bytes, judged. Assumes nothing.
use Prim.Native.Nat.{ℕ}
use mathlib.Core.Bool.{Bool, true, false}
use mathlib.Core.List.{List, [], ◌∷◌}
use mathlib.Core.Path.{◌≡◌, refl, sym}
use Rattle.codec.specs.Pick.{pick}
use Rattle.codec.specs.Digits.{split}
use Rattle.codec.specs.Sheet.{Field, field, number, got, refused}
use Rattle.codec.specs.Reading.{read_item}
use Rattle.codec.specs.Writing.{ok_item}
use Rattle.codec.proofs.Packed.{packed-got, packed-not}
use Rattle.families.specs.Sheets.{colour}

abbrev fields : List Field
fields = field 9 0 359 ∷ field 7 0 100 ∷ field 8 0 100 ∷ []

-- its three values, and whether they are in their ranges
colour_judged : (s : List ℕ) (n : ℕ) (v : List ℕ) (o : Bool) → got (n ∷ []) ≡ read_item (number 3 0 16777215) s → v ≡ split (9 ∷ 7 ∷ 8 ∷ []) n
    → o ≡ ok_item colour v → pick o (got v) (refused 2 0) ≡ read_item colour s
colour_judged s n v o h e f = rw f (rw e (sym (packed-got 3 fields s n refl (sym h))))

pub colour_got : (s : List ℕ) (n : ℕ) (v : List ℕ) (o : Bool) → got (n ∷ []) ≡ read_item (number 3 0 16777215) s → v ≡ split (9 ∷ 7 ∷ 8 ∷ []) n
    → o ≡ ok_item colour v → o ≡ true → got v ≡ read_item colour s
colour_got s n v o h e f g = rw g at (colour_judged s n v o h e f)

pub colour_bad : (s : List ℕ) (n : ℕ) (v : List ℕ) (o : Bool) → got (n ∷ []) ≡ read_item (number 3 0 16777215) s → v ≡ split (9 ∷ 7 ∷ 8 ∷ []) n
    → o ≡ ok_item colour v → o ≡ false → refused 2 0 ≡ read_item colour s
colour_bad s n v o h e f g = rw g at (colour_judged s n v o h e f)

pub colour_not : (s : List ℕ) (k : ℕ) → refused k 0 ≡ read_item (number 3 0 16777215) s → refused k 0 ≡ read_item colour s
colour_not s k h = sym (packed-not 3 fields s k 0 (sym h))
