-- `DirectCommands::written_len` meets its contract: the payload is four bytes longer than its body. Assumes nothing.
use Prim.Native.Nat.{ℕ, ◌+◌}
use mathlib.Core.Path.{ap, sym, ◌∙◌}
use Rattle.commands.proofs.Laid.{payload-length}
use Rattle.commands.proofs.DirectCommands.written_len.Goals as goal

pub returns : goal.returns
returns c =
    ap (λ (n : ℕ). n + 4) c.body_len.ensures.value ∙ sym (payload-length c.args.self)
