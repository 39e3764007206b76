-- A piece put in front of what stands in a text from a place on, and a whole text behind one that waits. Assumes nothing.
use Rattle.std.specs.Prelude.{ℕ, ◌+◌, ◌-◌, ◌≤◌, Bool, false, List, ◌≡◌, length, take, drop, ltb, leb}
use Rattle.std.proofs.lemmas.List.Edits.{sets}
use Rattle.codec.specs.Pick.{pick}
use Rattle.codec.specs.Writing.{put_at}

-- the word w has room in t before the place `at`
abbrev pub room_before : List ℕ → ℕ → List ℕ → Bool
room_before w at t = pick (ltb at (length w)) false (leb at (length t))

-- PUTTING the word w in front of what stands in t from `at` on answers r, where it starts, and leaves t'; without room nothing changes
pub record PutsBefore (w : List ℕ) (at r : ℕ) (t t' : List ℕ) : Type 0 where
  pub start : r ≡ pick (room_before w at t) (at - length w) at
  pub leaves : t' ≡ pick (room_before w at t) (sets t (at - length w) w) t

-- PUTTING the text w at a place of s, where all of it has room, answers r, its length, and leaves s'; else r is 0 and nothing changes
pub record PutsBehind (w : List ℕ) (at r : ℕ) (s s' : List ℕ) : Type 0 where
  pub count : r ≡ pick (ltb (length s) (at + length w)) 0 (length w)
  pub leaves : s' ≡ put_at s at w

-- For contracts of private functions above, nobody has to believe what follows. The text w stands in t from r to its end
pub record EndsWith (w : List ℕ) (r : ℕ) (t : List ℕ) : Type 0 where
  pub start : r + length w ≡ length t
  pub bytes : drop r t ≡ w

-- the first n bytes of t are these: what is handed to be written
pub record Front (n : ℕ) (t w : List ℕ) : Type 0 where
  pub fits : n ≤ length t
  pub bytes : take n t ≡ w
