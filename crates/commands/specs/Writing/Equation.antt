-- What the shut names stand for, for this crate's own proofs: no crate above cites it. Assumes nothing.
use Rattle.std.specs.Prelude.{ℕ, ◌≡◌, refl}
use Rattle.commands.specs.Writing.{layout_of, writing_order, payload_of, stop_writing}
use Rattle.commands.specs.declared.DirectCommands.{DirectCommands}

pub payload_is : (c : DirectCommands) → payload_of c ≡ layout_of c
unfolding payload_of
payload_is c = refl

pub stop_is : (c : DirectCommands) (n : ℕ) → stop_writing c n ≡ writing_order c n
unfolding stop_writing
stop_is c n = refl
