-- `ack::written_len` meets its contract. Assumes nothing.
use native.Mathlib.Omega.{arith}
use Prim.Native.Nat.{ℕ, ◌+◌}
use mathlib.Core.Path.{ap, sym, ◌∙◌}
use lib.ListN.{take}
use Rattle.families.proofs.Acks.{ack_size}
use Rattle.families.proofs.ack.written_len.Goals as goal

pub returns : goal.returns
returns c =
    let given = c.args in
    let stored = c.stored_len.ensures in record {
      value = ap (λ (n : ℕ). n + 4) stored.value ∙ sym (ack_size given.ack (take given.len given.bytes.now));
      upper_bound = omega (arith, stored.upper_bound);
    }
