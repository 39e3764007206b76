-- Wrong answers that the contract rules out: the definition that it names, worked out for an input where the wrong answer would be
-- another. That no other answer is allowed there is in OneAnswer.antt. Assumes nothing.
use Prim.Native.Nat.{ℕ, ◌≤◌}
use mathlib.Core.List.{List, [], ◌∷◌, ◌++◌}
use mathlib.Core.Path.{◌≡◌, refl, sym, subst}
use native.Mathlib.Omega.{arith}
use lib.ListN.{length, replicate}
use Rattle.crc.specs.Polynomial.{remainder}
use Rattle.crc.specs.Check.{check_of, Bytes}
use Rattle.crc.proofs.Zeros.{bytes-zeros}
use Rattle.commands.specs.Reading.{read_command}
use Rattle.commands.specs.Writing.{payload_of, stop_writing}
use Rattle.commands.proofs.Examples.{disarm, m1, m1_read}
use Rattle.commands.proofs.Known.{read_short}
use Rattle.commands.proofs.Forth.{read_writable}
use Rattle.commands.proofs.Promised.{payload-laid}
use Rattle.images.specs.Word.{WritesOut}

-- a refused payload changes no byte
pub again_refused_keeps : WritesOut (read_command []) 1 (7 ∷ 8 ∷ []) (7 ∷ 8 ∷ [])
again_refused_keeps = rw (read_short [] (omega arith)) (refl, refl)

-- M1 again: the count stands in bits 8-15, and the byte behind keeps its own
m1-laid : payload_of disarm ≡ m1
unfolding check_of remainder
m1-laid = payload-laid disarm refl refl (bytes-zeros 55) refl

m1-fits : stop_writing disarm 6 ≡ 0
m1-fits =
    let y : Bytes m1 = (omega arith, (omega arith, (omega arith, (omega arith, (omega arith, tt))))) in
    let k : length (payload_of disarm) ≤ 6 = subst (λ (p : List ℕ). length p ≤ 6) (sym m1-laid) (omega arith) in
    (read_writable m1 disarm y m1_read).1.1 6 k

pub again_m1 : WritesOut (read_command m1) 0x500 (replicate 6 7) (m1 ++ 7 ∷ [])
again_m1 = rw (m1_read, m1-fits, m1-laid) (refl, refl)
