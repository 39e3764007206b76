-- Any two answers that a public function's contract allows coincide, and so do the bytes that it leaves in a lent slice. `Post` is
-- the contract as the check reads it from the source, and no copy of it. Assumes nothing.
use Prim.Native.Nat.{ℕ}
use mathlib.Core.List.{List}
use mathlib.Core.Path.{◌≡◌, sym, ◌∙◌}
use contract.Lifetimes.{Lfts}
use borrow.Fn.Kinds.{Dens, res_t, ended_of}
use denote.Triple.Clauses.{AtExit}
use Rattle.text.specs.Putting.{PutsBefore, PutsBehind}
use Rattle.text.proofs.put_word.Reads as put_word
use Rattle.text.proofs.put_word.Kinds as put-word-kinds
use Rattle.text.proofs.put_decimal.Reads as put-decimal
use Rattle.text.proofs.put_decimal.Kinds as put-decimal-kinds
use Rattle.text.proofs.put_hex.Reads as put-hex
use Rattle.text.proofs.put_hex.Kinds as put-hex-kinds
use Rattle.text.proofs.put_numbered.Reads as put-numbered
use Rattle.text.proofs.put_numbered.Kinds as put-numbered-kinds
use Rattle.text.proofs.put_behind.Reads as put-behind
use Rattle.text.proofs.put_behind.Kinds as put-behind-kinds

before_fixed : {w t p q : List ℕ} {at x y : ℕ} → PutsBefore w at x t p → PutsBefore w at y t q → (x ≡ y) × (p ≡ q)
before_fixed g h = (g.start ∙ sym h.start, g.leaves ∙ sym h.leaves)

behind_fixed : {w s p q : List ℕ} {at x y : ℕ} → PutsBehind w at x s p → PutsBehind w at y s q → (x ≡ y) × (p ≡ q)
behind_fixed g h = (g.count ∙ sym h.count, g.leaves ∙ sym h.leaves)

pub put_word_one : (κs : Lfts 2) (a : Dens κs put-word-kinds.ps) (x y : (res_t put-word-kinds.r κs).Denot)
    (s t : AtExit (ended_of 2 put-word-kinds.ps put-word-kinds.r) κs)
    → put_word.Post κs a x s → put_word.Post κs a y t → (x ≡ y) × (s.0.now ≡ t.0.now)
put_word_one κs a x y s t p q = before_fixed p q

pub put_decimal_one : (κs : Lfts 1) (a : Dens κs put-decimal-kinds.ps) (x y : (res_t put-decimal-kinds.r κs).Denot)
    (s t : AtExit (ended_of 1 put-decimal-kinds.ps put-decimal-kinds.r) κs)
    → put-decimal.Post κs a x s → put-decimal.Post κs a y t → (x ≡ y) × (s.0.now ≡ t.0.now)
put_decimal_one κs a x y s t p q = before_fixed p q

pub put_hex_one : (κs : Lfts 1) (a : Dens κs put-hex-kinds.ps) (x y : (res_t put-hex-kinds.r κs).Denot)
    (s t : AtExit (ended_of 1 put-hex-kinds.ps put-hex-kinds.r) κs)
    → put-hex.Post κs a x s → put-hex.Post κs a y t → (x ≡ y) × (s.0.now ≡ t.0.now)
put_hex_one κs a x y s t p q = before_fixed p q

pub put_numbered_one : (κs : Lfts 2) (a : Dens κs put-numbered-kinds.ps) (x y : (res_t put-numbered-kinds.r κs).Denot)
    (s t : AtExit (ended_of 2 put-numbered-kinds.ps put-numbered-kinds.r) κs)
    → put-numbered.Post κs a x s → put-numbered.Post κs a y t → (x ≡ y) × (s.0.now ≡ t.0.now)
put_numbered_one κs a x y s t p q = before_fixed p q

pub put_behind_one : (κs : Lfts 2) (a : Dens κs put-behind-kinds.ps) (x y : (res_t put-behind-kinds.r κs).Denot)
    (s t : AtExit (ended_of 2 put-behind-kinds.ps put-behind-kinds.r) κs)
    → put-behind.Post κs a x s → put-behind.Post κs a y t → (x ≡ y) × (s.0.now ≡ t.0.now)
put_behind_one κs a x y s t p q = behind_fixed p q
