-- A number in an image: that of its bytes, where they are all there; a flag. Assumes nothing.
use Rattle.std.specs.Prelude.{Result}
use Prim.Native.Nat.{ℕ, ◌+◌, ◌≤◌}
use mathlib.Core.Bool.{Bool, true, false}
use mathlib.Core.List.{List}
use mathlib.Core.Path.{◌≡◌, refl}
use lib.ListN.{length, take, drop}
use lib.Dec.{ltb}
use borrow.Author.Tests.{le-ltb, ltb-true, ltb-false}
use Rattle.std.specs.declared.result.Result.TheVariants.{Ok, Err}
use Rattle.crc.specs.Check.{Bytes}
use Rattle.codec.specs.Pick.{pick}
use Rattle.codec.specs.Digits.{number_of}
use Rattle.codec.specs.Sheet.{number}
use Rattle.codec.specs.Reading.{read_item}
use Rattle.codec.specs.Told.{told_number, width_of}
use Rattle.codec.specs.declared.refusal.Refusal.{Refusal}
use Rattle.codec.specs.declared.refusal.Refusal.TheVariants.{RecordNotMade}
use Rattle.codec.specs.declared.reader.Width.{Width}
use Rattle.codec.proofs.Numbers.{number-got, number-not, number_short, in_four, has_byte}
use Rattle.images.specs.Number.{number_at}

pub number-there : (s : List ℕ) (at w : ℕ) → at + w ≤ length s → number_at s at w ≡ number_of (take w (drop at s))
number-there s at w h = rw (le-ltb (length s) (at + w) h)

-- ---- the ways through reading
module _ (s : List ℕ) (o : Bytes s) (at : ℕ) (width : Width) (r : (Result ℕ Refusal))
    (told : told_number r ≡ read_item (number (width_of width) 0 4294967295) (drop at s)) where
  pub at-got : (n : ℕ) → r ≡ Ok n → n ≡ number_at s at (width_of width)
  at-got n e = by (ltb (length s) (at + width_of width)) refl
    where
      by : (b : Bool) → ltb (length s) (at + width_of width) ≡ b → n ≡ pick b 0 (number_of (take (width_of width) (drop at s)))
      by true h =
          absurd (number_short (width_of width) 4294967295 s at (has_byte width) (ltb-true (length s) (at + width_of width) h) n r e told)
      by false h =
          number-got (width_of width) 4294967295 s at o (ltb-false (length s) (at + width_of width) h) (in_four width) n r e told

  pub at-not : (why : Refusal) → r ≡ Err why → 0 ≡ number_at s at (width_of width)
  at-not why e = by (ltb (length s) (at + width_of width)) refl
    where
      by : (b : Bool) → ltb (length s) (at + width_of width) ≡ b → 0 ≡ pick b 0 (number_of (take (width_of width) (drop at s)))
      by true h = refl
      by false h =
          absurd (number-not (width_of width) 4294967295 s at o (ltb-false (length s) (at + width_of width) h) (in_four width) r why e told)

-- ---- what is read if a test says so
module _ {A : Type 0} (x : A) where
  pub read-ok : (t : Bool) (a : A) → pick t (Ok x) (Err RecordNotMade) ≡ Ok a → (t ≡ true) × (a ≡ x)
  read-ok true a h = (refl, cc)
  read-ok false a h = absurd (cc)

  pub read-not : (t : Bool) (r : Refusal) → pick t (Ok x) (Err RecordNotMade) ≡ Err r → (t ≡ false) × (r ≡ RecordNotMade)
  read-not true r h = absurd (cc)
  read-not false r h = (refl, cc)
