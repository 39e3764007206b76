-- Demand 3 of whatever meets the contracts of `edit` and `edit_list`, on a payload that the writer wrote. `Post` is the contract as the
-- check reads it from the source, and no copy of it. Assumes nothing.
use Prim.Native.Nat.{ℕ, ◌<◌}
use mathlib.Core.List.{List, [], ◌∷◌, map}
use mathlib.Core.Path.{◌≡◌, refl, ap, ap₂, sym, subst, ◌∙◌}
use lib.ListN.{length}
use lib.Seq.{sets}
use contract.Lifetimes.{Lfts}
use borrow.Fn.Kinds.{Dens, res_t, ended_of}
use denote.Triple.Clauses.{AtExit}
use Rattle.codec.specs.Writing.{leaves}
use Rattle.codec.specs.Refusals.{number_in}
use Rattle.commands.specs.Writing.{payload_of, stop_writing}
use Rattle.commands.specs.declared.DirectCommands.{DirectCommands}
use Rattle.commands.proofs.Back.{Typed}
use Rattle.edits.specs.Edit.{Edit, edit, edit_command, bytes_left, edits_in, stop_list, left_by, bytes_after, numbers_of}
use Rattle.edits.specs.Demand.{with_edits, numbers_for, OnlyThose, Done, done, done_from, DemandedOf}
use Rattle.edits.proofs.AnyEdits.{any_edits, bytes_at_end, numbers_are, only_those}
use Rattle.edits.proofs.edit.Reads as one
use Rattle.edits.proofs.edit.Kinds as one-kinds
use Rattle.edits.proofs.edit_list.Reads as list
use Rattle.edits.proofs.edit_list.Kinds as list-kinds

-- ---- `edit`, called for one edit after the other
-- a call: what the function was handed, what it answered, and what it left, all that is known of it being its contract
pub record Call (κs : Lfts 1) : Type 0 where
  pub given : Dens κs one-kinds.ps
  pub answer : (res_t one-kinds.r κs).Denot
  pub left : AtExit (ended_of 1 one-kinds.ps one-kinds.r) κs
  pub meets : one.Post κs given answer left

module _ (κs : Lfts 1) where
  abbrev pub edit_of : Call κs → Edit
  edit_of k = edit k.given.1.0 k.given.1.1.0

  abbrev pub done_by : Call κs → Done
  done_by k = done k.given.1.0 k.given.1.1.0 k.answer k.left.0.now

  -- each is handed the bytes that the one before it left, the first these
  abbrev pub InTurn : List ℕ → List (Call κs) → Type 0
  InTurn p [] = Unit {0}
  InTurn p (k ∷ ks) = (k.given.0.now ≡ p) × InTurn k.left.0.now ks

  as_defined : (p : List ℕ) (ks : List (Call κs)) → InTurn p ks → map done_by ks ≡ done_from p (map edit_of ks)
  as_defined p [] h = refl
  as_defined p (k ∷ ks) h =
      let f = k.given.1.0 in
      let n = k.given.1.1.0 in
      let r : k.answer ≡ number_in (edit_command p f n) = k.meets.0 ∙ ap (λ (s : List ℕ). number_in (edit_command s f n)) h.0 in
      let q : k.left.0.now ≡ bytes_left p (edit_command p f n) = k.meets.1
      ∙ ap (λ (s : List ℕ). bytes_left s (edit_command s f n)) h.0 in
      ap₂ (λ (x : Done) (l : List Done). x ∷ l) (ap₂ (λ (x : ℕ) (s : List ℕ). done f n x s) r q)
      (as_defined k.left.0.now ks h.1 ∙ ap (λ (s : List ℕ). done_from s (map edit_of ks)) q)

  -- THE theorem: after each call the bytes are those that the writer makes afresh of the command with the accepted edits so far; the
  -- answer is 0, 7 or 8 as demanded; only the bytes that hold the field, and the last, differ
  pub edits_demanded : (c : DirectCommands) (room : ℕ) → c.dst_addr < 256 → c.src_addr < 256 → Typed c → stop_writing c room ≡ 0
      → (ks : List (Call κs)) → InTurn (payload_of c) ks → DemandedOf c (payload_of c) (map done_by ks)
  edits_demanded c room d s t w ks h =
      subst (DemandedOf c (payload_of c)) (sym (as_defined (payload_of c) ks h)) (any_edits c room d s t w (map edit_of ks))

-- ---- `edit_list`: at the end of the list the payload is what the writer makes afresh of the command with the accepted edits, each
-- answer byte says whether the command so far had the field and the range, and only bytes that hold one of the fields, and the last,
-- differ
pub list_demanded : (κs : Lfts 3) (a : Dens κs list-kinds.ps) (x : (res_t list-kinds.r κs).Denot)
    (s : AtExit (ended_of 3 list-kinds.ps list-kinds.r) κs)
    → list.Post κs a x s
    → (c : DirectCommands) (room : ℕ) → c.dst_addr < 256 → c.src_addr < 256 → Typed c → stop_writing c room ≡ 0
    → a.0.now ≡ payload_of c
    → stop_list (length a.1.0.now) (length a.1.1.0.now) ≡ 0
    → (x ≡ 0)
    × ((s.0.now ≡ payload_of (with_edits c (edits_in a.1.0.now)))
    × ((s.1.1.0.now ≡ sets a.1.1.0.now 0 (numbers_for c (edits_in a.1.0.now)))
    × OnlyThose c (edits_in a.1.0.now) a.0.now s.0.now))
list_demanded κs a x s h c room d r t w e k =
    let es = edits_in a.1.0.now in
    let m = any_edits c room d r t w es in
    let left : s.0.now ≡ bytes_after (payload_of c) es = h.1.0 ∙ ap (λ (n : ℕ). left_by n a.0.now es) k
    ∙ ap (λ (p : List ℕ). bytes_after p es) e in (
      h.0 ∙ k,
      (
        left ∙ bytes_at_end c (payload_of c) es m,
        (
          h.1.1 ∙ ap (λ (n : ℕ). leaves n (numbers_of a.0.now es) a.1.1.0.now) k
              ∙ ap (λ (p : List ℕ). sets a.1.1.0.now 0 (numbers_of p es)) e
              ∙ ap (λ (l : List ℕ). sets a.1.1.0.now 0 l) (numbers_are c (payload_of c) es m),
          there es a.0.now s.0.now e left (only_those c (payload_of c) es m),
        ),
      ),
    )
  where
    there : (es : List Edit) (p q : List ℕ) → p ≡ payload_of c → q ≡ bytes_after (payload_of c) es
        → OnlyThose c es (payload_of c) (bytes_after (payload_of c) es) → OnlyThose c es p q
    there es p q e g o =
        subst (λ (x : List ℕ). OnlyThose c es x q) (sym e) (subst (λ (y : List ℕ). OnlyThose c es (payload_of c) y) (sym g) o)
