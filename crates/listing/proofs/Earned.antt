-- No count that is not earned: the records consumed fix the listing's. Assumes nothing.
use Rattle.std.specs.Prelude.{Option, Some, Result, Ok}
use Prim.Native.Nat.{ℕ, zero, suc, ◌+◌, ◌-◌, ◌<◌}
use mathlib.Core.Bool.{Bool, true, false}
use mathlib.Core.List.{List, [], ◌∷◌}
use mathlib.Core.Path.{◌≡◌, refl, ap, sym, subst, ◌∙◌}
use native.Mathlib.Omega.{arith}
use native.Mathlib.Nat.{add-zero}
use borrow.Author.Tests.{ltb-true, ltb-false}
use contract.Lifetimes.{Lfts}
use borrow.Fn.Kinds.{Dens, res_t, ended_of}
use denote.Triple.Clauses.{AtExit}
use lib.ListN.{length, take, drop, get_or, length-drop}
use lib.Dec.{ltb, leb, eqb}
use Rattle.crc.specs.Check.{Bytes}
use Rattle.codec.specs.Pick.{pick}
use Rattle.codec.specs.Sheet.{Answer, got, refused}
use Rattle.codec.specs.Writing.{counted}
use Rattle.codec.specs.declared.refusal.Refusal.{Refusal}
use Rattle.families.specs.Payload.{family_id}
use Rattle.commands.specs.Reading.{read_command}
use Rattle.commands.specs.Writing.{payload_of, stop_writing}
use Rattle.commands.specs.declared.DirectCommands.{DirectCommands}
use Rattle.commands.proofs.Forth.{read_fits}
use Rattle.listing.specs.Listing.{line_of, lines_from, listing}
use Rattle.listing.specs.Step.{Stepped, lines_of, told_step, told_next, in_limits, opened, go_on, step_of}
use Rattle.listing.specs.declared.line.Line.{Line}
use Rattle.listing.specs.declared.line.Line.TheVariants.{Read, Refused, Cut, End}
use Rattle.listing.specs.declared.Listing.{Listing}
use Rattle.listing.specs.declared.Step.{Step}
use Rattle.listing.proofs.StepLaws.{goes_none, goes-line}
use Rattle.listing.proofs.Listing.next.Reads as next
use Rattle.listing.proofs.Listing.next.Kinds as next-kinds

-- ---- the listing: records are numbered 0, 1, 2 .. in turn, and the closing line has the number of those before it
abbrev pub Numbered : ℕ → List Line → Type 0
Numbered k [] = ⊥
Numbered k (Read n f w ∷ ls) = (n ≡ k) × Numbered (suc k) ls
Numbered k (Refused n w ∷ ls) = (n ≡ k) × Numbered (suc k) ls
Numbered k (Cut n ∷ ls) = (n ≡ k) × (ls ≡ [])
Numbered k (End n ∷ ls) = (n ≡ k) × (ls ≡ [])

one_more : (k : ℕ) (a : Answer DirectCommands) (ls : List Line) → Numbered (suc k) ls → Numbered k (line_of k a ∷ ls)
one_more k (got c) ls h = (refl, h)
one_more k (refused n p) ls h = (refl, h)

either : (t : Bool) (k : ℕ) (a b : List Line) → Numbered k a → Numbered k b → Numbered k (pick t a b)
either true k a b p q = p
either false k a b p q = q

numbered-from : (f k : ℕ) (s : List ℕ) → length s < f → Numbered k (lines_from f k s)
numbered-from zero k s h = absurd (omega arith)
numbered-from (suc f) k [] h = (refl, refl)
numbered-from (suc f) k (n ∷ s) h =
    let d : length (drop n s) < f = rw length-drop (omega arith) in
    either (ltb (length s) n) k _ _ (refl, refl) (one_more k (read_command (take n s)) (lines_from f (suc k) (drop n s))
    (numbered-from f (suc k) (drop n s) d))

pub listing-numbered : (s : List ℕ) → Numbered 0 (listing s)
listing-numbered s = numbered-from (suc (length s)) 0 s (omega arith)

-- ---- the step: a record is counted where its line is given, and nowhere else
abbrev pub earned : Answer (List Line) → ℕ
earned (got ls) = length ls
earned (refused n p) = 0

data Counts (k : ℕ) (x : Stepped) : Type 0 where
  counts : x.state.count ≡ k + earned x.says → Counts k x

whichever : (t : Bool) (k : ℕ) (a b : Stepped) → Counts k a → Counts k b → Counts k (pick t a b)
whichever true k a b p q = p
whichever false k a b p q = q

goes-counts : (s : Listing) (i : List ℕ) (at : ℕ) → Counts s.count (go_on s i at)
goes-counts s i at = by (ltb (length i - at) (s.wanted - s.held)) refl
  where
    by : (t : Bool) → ltb (length i - at) (s.wanted - s.held) ≡ t → Counts s.count (go_on s i at)
    by true e = subst (λ (x : Stepped). Counts s.count x)
        (sym (goes_none s i at (ltb-true (length i - at) (s.wanted - s.held) e))) (counts (sym (add-zero s.count)))
    by false e = subst (λ (x : Stepped). Counts s.count x)
        (sym (goes-line s i at (ltb-false (length i - at) (s.wanted - s.held) e))) (counts refl)

step_is : (s : Listing) (i : List ℕ) (at : ℕ) → Counts s.count (step_of s i at)
step_is s i at =
    whichever (in_limits s) s.count _ _
    (whichever (leb (length i) at) s.count _ _ (counts (sym (add-zero s.count)))
    (whichever (eqb s.wanted 0) s.count _ _ (goes-counts (opened s.count (get_or i at 0)) i (at + 1)) (goes-counts s i at)))
    (counts (sym (add-zero s.count)))

count_in_lem : (k : ℕ) (x : Stepped) → Counts k x → x.state.count ≡ k + earned x.says
count_in_lem k x (counts e) = e

pub step_counts : (s : Listing) (i : List ℕ) (at : ℕ) → (step_of s i at).state.count ≡ s.count + earned (step_of s i at).says
step_counts s i at = count_in_lem s.count (step_of s i at) (step_is s i at)

-- of the contract: whatever it allows has earned its count
pub next-earned : (κs : Lfts 1) (a : Dens κs next-kinds.ps) (x : (res_t next-kinds.r κs).Denot)
    (s : AtExit (ended_of 1 next-kinds.ps next-kinds.r) κs)
    → next.Post κs a x s → (told_next a.0 a.1.1.0 x).state.count ≡ a.0.count + earned (told_next a.0 a.1.1.0 x).says
next-earned κs a x s p = subst (λ (y : Stepped). y.state.count ≡ a.0.count + earned y.says) (sym p)
    (step_counts a.0 a.1.0.now a.1.1.0)

-- so a step that gives a line and leaves the count as it was is ruled out
pub not_uncounted : (κs : Lfts 1) (a : Dens κs next-kinds.ps) (x : (res_t next-kinds.r κs).Denot)
    (s : AtExit (ended_of 1 next-kinds.ps next-kinds.r) κs) (y : Step) (l : Line)
    → next.Post κs a x s → x ≡ Ok y → y.line ≡ Some l → y.state.count ≡ a.0.count → ⊥
not_uncounted κs a x s y l p h e f =
    let k : (told_step y).state.count ≡ a.0.count + earned (told_step y).says =
    subst (λ (z : Result Step Refusal). (told_next a.0 a.1.1.0 z).state.count ≡ a.0.count + earned (told_next a.0 a.1.1.0 z).says) h
    (next-earned κs a x s p) in
    let g : y.state.count ≡ a.0.count + 1 = k ∙ ap (λ (o : Option Line). a.0.count + earned (got (lines_of o))) e in
    omega arith

-- ---- "The last number in a read line is the written length": the count that writing gives
pub written-length : (k : ℕ) (p : List ℕ) (c : DirectCommands) → Bytes p → read_command p ≡ got c
    → (n : ℕ) × ((line_of k (read_command p) ≡ Read k (family_id c.payload) n)
    × (counted (stop_writing c 60) (length (payload_of c)) ≡ got n))
written-length k p c y h =
    let n = length (payload_of c) in
    (n, (ap (λ (a : Answer DirectCommands). line_of k a) h, ap (λ (m : ℕ). counted m n) (read_fits p c y h).1))
