-- `reader::number_at` meets its contract. Assumes nothing.
use Prim.Native.Nat.{◌*◌, ◌^◌, ◌<◌}
use mathlib.Core.Path.{◌≡◌}
use lib.ListN.{take}
use Rattle.codec.specs.Digits.{number_of}
use Rattle.codec.proofs.reader.number_at.Given as goal

abbrev pub invariant-loop-byte : goal.invariant-loop-byte
invariant-loop-byte l = (l.n < 2 ^ (8 * l.byte-index)) × (l.n ≡ number_of (take l.byte-index l.byte-items))
