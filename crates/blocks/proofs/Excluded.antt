-- Empty programs that the contracts exclude: each is asked to meet its contract at one or two blocks, and nowhere else. `Post` is the
-- contract as the check reads it from the source, and no copy of it. Assumes nothing.
use Rattle.std.specs.Prelude.{Option, None, Result, Ok, Err}
use Prim.Native.Nat.{ℕ}
use mathlib.Core.List.{List, [], ◌∷◌, ◌++◌}
use mathlib.Core.Path.{◌≡◌, ap, ◌∙◌}
use native.Mathlib.Omega.{arith}
use contract.Lifetimes.{Lfts}
use borrow.Fn.Kinds.{Dens, ended_of}
use denote.Triple.Clauses.{AtExit}
use lib.Dec.{lit<, lit≤}
use lib.ListN.{replicate}
use Rattle.codec.specs.Sheet.{got}
use Rattle.blocks.specs.Walk.{opening, opening_of, told_judged, record_at, told_walked}
use Rattle.blocks.specs.Laid.{block_of}
use Rattle.blocks.specs.declared.Damage.{Damage}
use Rattle.blocks.specs.declared.Sound.{Sound}
use Rattle.blocks.specs.declared.Record.{Record}
use Rattle.blocks.proofs.Laid.{laid-sound, laid-number}
use Rattle.blocks.proofs.Walks.{sound-opens}
use Rattle.blocks.proofs.RuledOut.{zero_block, zeros-sound, residue_zero, two_records, first_of_two}
use Rattle.blocks.proofs.judge.Reads as judge
use Rattle.blocks.proofs.judge.Kinds as judge-kinds
use Rattle.blocks.proofs.record_at.Reads as record-at
use Rattle.blocks.proofs.record_at.Kinds as record-at-kinds

-- block 1, without a record
one_sound : opening_of (block_of 1 []) ≡ got (opening 1 0)
one_sound =
    sound-opens (block_of 1 []) [] (laid-sound 1 [] (lit< tt) tt (lit≤ tt))
    ∙ ap (λ (n : ℕ). got (opening n 0)) (laid-number 1 [] (lit< tt) tt (lit≤ tt))

module _ (κs : Lfts 1) where
  -- the contract of judge allows this answer to these bytes
  abbrev pub Judges : List ℕ → Result Sound Damage → Type 0
  Judges b x =
      (a : Dens κs judge-kinds.ps)
      × ((s : AtExit (ended_of 1 judge-kinds.ps judge-kinds.r) κs) × ((a.0.now ≡ b) × judge.Post κs a x s))

  -- that of record_at, to these bytes and this place
  abbrev pub WalksTo : List ℕ → ℕ → Option Record → Type 0
  WalksTo b at x =
      (a : Dens κs record-at-kinds.ps)
      × ((s : AtExit (ended_of 1 record-at-kinds.ps record-at-kinds.r) κs) × ((a.0.now ≡ b) × ((a.1.0 ≡ at) × record-at.Post κs a x s)))

  judges : (b : List ℕ) (x : Result Sound Damage) → Judges b x → told_judged x ≡ opening_of b
  judges b x (a, (s, (h, m))) = m ∙ ap (λ (c : List ℕ). opening_of c) h

  walks_to : (b : List ℕ) (at : ℕ) (x : Option Record) → WalksTo b at x → told_walked x ≡ record_at b at
  walks_to b at x (a, (s, (h, (i, m)))) = m ∙ ap (λ (c : List ℕ). record_at c a.1.0) h ∙ ap (λ (p : ℕ). record_at b p) i

  -- ---- every block damaged: 512 zeros are not
  pub damages_all : (d : Damage) → Judges zero_block (Err d) → ⊥
  damages_all d h =
      let e = judges zero_block (Err d) h ∙ zeros-sound in
      let z : ◌≡◌ {A = ℕ} 0 1 = cc in omega arith

  -- ---- none damaged: one with a wrong check is
  pub damages_none : (n first : ℕ) → Judges (replicate 511 0 ++ 0xDD ∷ []) (Ok (record { number = n; first = first })) → ⊥
  damages_none n first h =
      let e = judges (replicate 511 0 ++ 0xDD ∷ []) (Ok (record { number = n; first = first })) h ∙ residue_zero.1 in
      let z : ◌≡◌ {A = ℕ} 0 1 = cc in omega arith

  -- ---- one fixed number: not of blocks 0 and 1
  pub numbers_one : (n i j : ℕ) → Judges zero_block (Ok (record { number = n; first = i })) → Judges (block_of 1 []) (Ok (record { number = n; first = j })) → ⊥
  numbers_one n i j h g =
      let e = judges zero_block (Ok (record { number = n; first = i })) h ∙ zeros-sound in
      let f = judges (block_of 1 []) (Ok (record { number = n; first = j })) g ∙ one_sound in
      let p : n ≡ 0 = cc in
      let q : n ≡ 1 = cc in
      omega arith

  -- ---- no record anywhere: one stands at place 6
  pub finds_none : (check : ℕ) → WalksTo (two_records check) 6 None → ⊥
  finds_none check h =
      let e = walks_to (two_records check) 6 None h ∙ first_of_two check in
      let z : ◌≡◌ {A = ℕ} 0 1 = cc in omega arith
