-- Values whose types keep them in range. Assumes nothing.
use Rattle.std.specs.Prelude.{Result}
use Rattle.codec.specs.declared.refusal.Refusal.{Refusal}
use Prim.Native.Nat.{ℕ, ◌<◌}
use mathlib.Core.Bool.{Bool, true, false}
use mathlib.Core.List.{List, [], ◌∷◌}
use mathlib.Core.Path.{◌≡◌}
use native.Mathlib.Omega.{arith}
use lib.ListN.{length}
use borrow.Author.Tests.{le-ltb}
use Rattle.codec.specs.Sheet.{Row, said, byte, word, long, flag}
use Rattle.codec.specs.Writing.{items_of, write_body, ok_items, stop_room, stop_in_order, stop_values_first}
use Rattle.codec.specs.Told.{bit, Writes}
use Rattle.codec.proofs.Items.{ltb-zero}
use Rattle.codec.proofs.Writes.{room-writes, values-writes}
use Rattle.codec.proofs.Packed.{byte-item}

pub byte_in : (p : ℕ) → p < 256 → ok_items (byte ∷ []) ((p ∷ []) ∷ []) ≡ true
byte_in p h = rw (ltb-zero p, le-ltb 255 p (omega arith))

pub byte-long : (p b : ℕ) → p < 256 → b < 4294967296 → ok_items (byte ∷ long ∷ []) ((p ∷ []) ∷ (b ∷ []) ∷ []) ≡ true
byte-long p b h l = rw (ltb-zero p, le-ltb 255 p (omega arith), ltb-zero b, le-ltb 4294967295 b (omega arith))

pub byte_word : (p b : ℕ) → p < 256 → b < 65536 → ok_items (byte ∷ word ∷ []) ((p ∷ []) ∷ (b ∷ []) ∷ []) ≡ true
byte_word p b h l = rw (ltb-zero p, le-ltb 255 p (omega arith), ltb-zero b, le-ltb 65535 b (omega arith))

pub byte_flag : (p : ℕ) (b : Bool) → p < 256 → ok_items (byte ∷ flag ∷ []) ((p ∷ []) ∷ (bit b ∷ []) ∷ []) ≡ true
byte_flag p true h = rw (ltb-zero p, le-ltb 255 p (omega arith))
byte_flag p false h = rw (ltb-zero p, le-ltb 255 p (omega arith))

-- a body of a sub-command and one byte
pub with_byte : (rs : List Row) (sub p : ℕ) (s s' : List ℕ) (r : Result ℕ Refusal) → items_of rs sub ≡ byte ∷ [] → p < 256
    → Writes (stop_room (length s) 2) (sub ∷ p ∷ []) r s s'
    → Writes (stop_in_order rs (length s) (said sub ((p ∷ []) ∷ []))) (write_body rs (said sub ((p ∷ []) ∷ []))) r s s'
with_byte rs sub p s s' r e h g =
    room-writes rs sub ((p ∷ []) ∷ []) (sub ∷ p ∷ []) s s' r (rw e (byte_in p h)) (rw (e, byte-item p h)) g

-- the same, of a family that looks at values first
pub with_byte_first : (rs : List Row) (sub p : ℕ) (s s' : List ℕ) (r : Result ℕ Refusal) → items_of rs sub ≡ byte ∷ [] → p < 256
    → Writes (stop_room (length s) 2) (sub ∷ p ∷ []) r s s'
    → Writes (stop_values_first rs (length s) (said sub ((p ∷ []) ∷ []))) (write_body rs (said sub ((p ∷ []) ∷ []))) r s s'
with_byte_first rs sub p s s' r e h g =
    values-writes rs sub ((p ∷ []) ∷ []) (sub ∷ p ∷ []) s s' r (rw e (byte_in p h)) (rw (e, byte-item p h)) g
