-- A text that was read is in its range: so many bytes at most, none of them zero. Assumes nothing.
use Prim.Native.Nat.{ℕ, ◌+◌, ◌<◌, ◌≤◌}
use mathlib.Core.Bool.{Bool, true, false}
use mathlib.Core.List.{List}
use mathlib.Core.Path.{◌≡◌, refl, sym}
use native.Mathlib.Omega.{arith}
use lib.ListN.{length, take, drop, length-drop}
use lib.Seq.{length-take-le}
use lib.Dec.{ltb}
use borrow.Author.Tests.{ltb-false}
use Rattle.codec.specs.Pick.{pick}
use Rattle.codec.specs.Sheet.{text, got, refused}
use Rattle.codec.specs.Reading.{before0, shorter, read_item}
use Rattle.codec.specs.Writing.{nonzero}
use Rattle.codec.proofs.There.{before-nonzero}

range_by : (least most : ℕ) (s v : List ℕ) (a b d : Bool) → ltb most (length (before0 s)) ≡ b
    → pick a (pick b (refused 1 0) (pick d (refused 2 0) (got (before0 s)))) (refused 1 0) ≡ got v → (length v ≤ most) × (nonzero v ≡ true)
range_by least most s v false b d q h = let z : ◌≡◌ {A = ℕ} 0 1 = cc in absurd (omega arith)
range_by least most s v true true d q h = let z : ◌≡◌ {A = ℕ} 0 1 = cc in absurd (omega arith)
range_by least most s v true false true q h = let z : ◌≡◌ {A = ℕ} 0 1 = cc in absurd (omega arith)
range_by least most s v true false false q h =
    let e : v ≡ before0 s = cc in
    (rw e (ltb-false most (length (before0 s)) q), rw e (before-nonzero s))

pub text_range : (least most : ℕ) (s v : List ℕ) → read_item (text least most) s ≡ got v → (length v ≤ most) × (nonzero v ≡ true)
unfolding read_item
text_range least most s v h =
    range_by least most s v (ltb (length (before0 s)) (length s)) (ltb most (length (before0 s))) (shorter least (before0 s)) refl h

-- the same of the n bytes at a place
pub text-most : (most : ℕ) (s : List ℕ) (at n : ℕ) → at + n < length s → got (take n (drop at s)) ≡ read_item (text 0 most) (drop at s) → n ≤ most
text-most most s at n l h =
    let k : n ≤ length (drop at s) = rw length-drop (omega arith) in
    rw (length-take-le n (drop at s) k) at (text_range 0 most (drop at s) (take n (drop at s)) (sym h)).0
