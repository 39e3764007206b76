-- Document 01, "How tight the contracts are": the empty programs that demand 3 excludes. Each is asked to meet the contract at M3, and
-- nowhere else. `Post` is the contract as the check reads it from the source, and no copy of it. Assumes nothing.
use Prim.Native.Nat.{ℕ}
use mathlib.Core.List.{List, [], ◌∷◌}
use mathlib.Core.Path.{◌≡◌, ap, sym, ◌∙◌}
use native.Mathlib.Omega.{arith}
use lib.ListN.{length, get_or}
use contract.Lifetimes.{Lfts}
use borrow.Fn.Kinds.{Dens, ended_of}
use denote.Triple.Clauses.{AtExit}
use Rattle.commands.specs.Writing.{payload_of}
use Rattle.commands.proofs.Examples.{frequency, m3}
use Rattle.edits.specs.Edit.{Edit, edit, edit_command, bytes_left, edits_in, stop_list, left_by, bytes_after}
use Rattle.edits.specs.Demand.{with_edits}
use Rattle.edits.proofs.Examples.{m3', m3-laid, m3'-laid, m3-sound}
use Rattle.edits.proofs.AnyEdits.{demanded, bytes_at_end}
use Rattle.edits.proofs.edit.Reads as one
use Rattle.edits.proofs.edit.Kinds as one-kinds
use Rattle.edits.proofs.edit_list.Reads as list
use Rattle.edits.proofs.edit_list.Kinds as list-kinds

-- on M3: field 20 to 5000, then to 5800 again, with an answer byte each
abbrev and_back : List ℕ
and_back = 0 ∷ 0 ∷ 0 ∷ 20 ∷ 0 ∷ 0 ∷ 0x13 ∷ 0x88 ∷ 0 ∷ 0 ∷ 0 ∷ 20 ∷ 0 ∷ 0 ∷ 0x16 ∷ 0xA8 ∷ []

abbrev room : List ℕ
room = 0 ∷ 0 ∷ []

-- what edits leave of M3
leave : (es : List Edit) → bytes_after m3 es ≡ payload_of (with_edits (frequency 5800) es)
leave es =
    ap (λ (p : List ℕ). bytes_after p es) (sym m3-laid) ∙ bytes_at_end (frequency 5800) (payload_of (frequency 5800)) es
    (demanded (frequency 5800) m3-sound es)

module _ (κs : Lfts 1) where
  -- the contract of `edit` allows, for a payload, a field and a number, these bytes to be left
  abbrev pub Edits : List ℕ → ℕ → ℕ → List ℕ → Type 0
  Edits p f n q =
      (a : Dens κs one-kinds.ps)
      × ((x : ℕ) × ((s : AtExit (ended_of 1 one-kinds.ps one-kinds.r) κs)
      × ((a.0.now ≡ p) × ((a.1.0 ≡ f) × ((a.1.1.0 ≡ n) × ((s.0.now ≡ q) × one.Post κs a x s))))))

  -- ---- "An edit that changes nothing"
  pub changes_nothing : Edits m3 20 5000 m3 → ⊥
  changes_nothing (a, (x, (s, (e, (f, (n, (q, m))))))) =
      let left : m3 ≡ bytes_left m3 (edit_command m3 20 5000) =
      sym q ∙ m.1 ∙ ap (λ (p : List ℕ). bytes_left p (edit_command p a.1.0 a.1.1.0)) e
      ∙ ap (λ (k : ℕ). bytes_left m3 (edit_command m3 k a.1.1.0)) f
      ∙ ap (λ (k : ℕ). bytes_left m3 (edit_command m3 20 k)) n in
      let z = ap (λ (p : List ℕ). get_or p 4 0) (left ∙ (leave (edit 20 5000 ∷ []) ∙ m3'-laid)) in
      omega arith

module _ (κs : Lfts 3) where
  -- that of `edit_list`, for a payload, edits and answer bytes
  abbrev pub Lists : List ℕ → List ℕ → List ℕ → List ℕ → Type 0
  Lists p es r q =
      (a : Dens κs list-kinds.ps)
      × ((x : ℕ) × ((s : AtExit (ended_of 3 list-kinds.ps list-kinds.r) κs)
      × ((a.0.now ≡ p) × ((a.1.0.now ≡ es) × ((a.1.1.0.now ≡ r) × ((s.0.now ≡ q) × list.Post κs a x s))))))

  -- ---- "a list of edits where only the first is carried out"
  pub only-first : Lists m3 and_back room m3' → ⊥
  only-first (a, (x, (s, (e, (f, (r, (q, m))))))) =
      let by : List ℕ → List ℕ → List ℕ → List ℕ = λ p es b. left_by (stop_list (length es) (length b)) p (edits_in es) in
      let left : m3' ≡ bytes_after m3 (edits_in and_back) =
      sym q ∙ m.1.0 ∙ ap (λ (p : List ℕ). by p a.1.0.now a.1.1.0.now) e
      ∙ ap (λ (l : List ℕ). by m3 l a.1.1.0.now) f ∙ ap (λ (b : List ℕ). by m3 and_back b) r in
      let z = ap (λ (p : List ℕ). get_or p 4 0) (left ∙ (leave (edits_in and_back) ∙ m3-laid)) in
      omega arith
