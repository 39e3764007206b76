-- `reader::all_but` meets its contract. Assumes nothing.
use mathlib.Core.Path.{◌≡◌, sym, ◌∙◌}
use mathlib.Core.List.{List}
use Prim.Native.Nat.{ℕ, ◌-◌, ◌≤◌}
use native.Mathlib.Omega.{arith}
use lib.ListN.{length, take, drop, length-drop, drop_of_length-le}
use lib.Seq.{take_all}
use Rattle.codec.proofs.reader.all_but.Goals as goal

-- the part of a list from a place to its end is all that is behind
all-behind : (n : ℕ) (l : List ℕ) → take (length l - n) (drop n l) ≡ drop n l
all-behind n l = let e = length-drop n l in take_all (length l - n) (drop n l) (omega arith)

-- where there are fewer, nothing is
none_behind : (n : ℕ) (l : List ℕ) → length l ≤ n → take (length l - length l) (drop (length l) l) ≡ drop n l
none_behind n l h = all-behind (length l) l ∙ (drop_of_length-le l {i = length l} (omega arith) ∙ sym (drop_of_length-le l {i = n} h))

pub returns-then-len-n : goal.returns-then-len-n
returns-then-len-n c = none_behind c.args.n c.args.s.now (omega arith)

pub returns : goal.returns
returns c = all-behind c.args.n c.args.s.now
