-- Document 01, "How tight the contracts are": the empty programs that demand 2 excludes. Each is asked to meet the contract at M1, or at
-- M1 and M3, and nowhere else. `Post` is the contract as the check reads it from the source, and no copy of it. Assumes nothing.
use Rattle.std.specs.Prelude.{Result, Ok, Err}
use Prim.Native.Nat.{ℕ}
use mathlib.Core.List.{List, [], ◌∷◌, ◌++◌}
use mathlib.Core.Path.{◌≡◌, refl, ap, sym, subst, ◌∙◌}
use native.Mathlib.Omega.{arith}
use lib.ListN.{length, replicate, get_or}
use lib.Seq.{sets}
use contract.Lifetimes.{Lfts}
use borrow.Fn.Kinds.{Dens, ended_of}
use denote.Triple.Clauses.{AtExit}
use Rattle.crc.specs.Polynomial.{remainder}
use Rattle.crc.specs.Check.{check_of}
use Rattle.codec.specs.Sheet.{Answer, got}
use Rattle.codec.specs.Refusals.{outcome_number}
use Rattle.codec.specs.Told.{Writes}
use Rattle.codec.specs.declared.refusal.Refusal.{Refusal}
use Rattle.codec.proofs.Outcomes.{gives_one}
use Rattle.codec.proofs.Writes.{refusal_some, written_told, written-told, out_told, free}
use Rattle.families.specs.Payload.{family_id}
use Rattle.commands.specs.Command.{blank_command}
use Rattle.commands.specs.Reading.{read_command, CommandIs}
use Rattle.commands.specs.Writing.{layout_of, writing_order, payload_of, stop_writing}
use Rattle.commands.specs.Writing.Equation.{payload_is, stop_is}
use Rattle.commands.specs.declared.DirectCommands.{DirectCommands}
use Rattle.commands.proofs.Examples.{disarm, frequency, m1, m3, m1_read, m3_read}
use Rattle.commands.proofs.DirectCommands.from_bytes.Reads as read
use Rattle.commands.proofs.DirectCommands.from_bytes.Kinds as read-kinds
use Rattle.commands.proofs.DirectCommands.to_bytes.Reads as write
use Rattle.commands.proofs.DirectCommands.to_bytes.Kinds as write-kinds

-- a buffer with room for both examples
abbrev room : List ℕ
room = replicate 7 0

-- where nothing stops it, a writer counts its bytes and puts them in front
earned : (r : Result ℕ Refusal) (w s s' : List ℕ) → Writes 0 w r s s' → (r ≡ Ok (length w)) × (s' ≡ sets s 0 w)
earned r w s s' h = (sym (written-told r) ∙ ap written_told (out_told r 0 (length w) h.0), h.1)

-- the command that an answer holds: with a refusal the blank one
abbrev pub command_in : Result DirectCommands Refusal → DirectCommands
command_in (Ok c) = c
command_in (Err r) = blank_command

module _ (κs : Lfts 1) where
  -- the contract of from_bytes allows this answer to these bytes
  abbrev pub Reads : List ℕ → Result DirectCommands Refusal → Type 0
  Reads p x = (a : Dens κs read-kinds.ps) × ((s : AtExit (ended_of 1 read-kinds.ps read-kinds.r) κs) × ((a.0.now ≡ p) × read.Post κs a x s))

  -- that of to_bytes allows, for a command and a buffer, this answer and these bytes left in the buffer
  abbrev pub Leaves : DirectCommands → List ℕ → Result ℕ Refusal → List ℕ → Type 0
  Leaves c s x s' =
      (a : Dens κs write-kinds.ps)
      × ((t : AtExit (ended_of 1 write-kinds.ps write-kinds.r) κs) × ((a.0 ≡ c) × ((a.1.0.now ≡ s) × ((t.1.0.now ≡ s') × write.Post κs a x t))))

  -- ---- M1 and M3, read and written
  reads : (p : List ℕ) (c : DirectCommands) (x : Result DirectCommands Refusal) → read_command p ≡ got c → Reads p x → x ≡ Ok c
  reads p c x e (a, (s, (h, m))) =
      gives_one (λ d. d) (got c) x (Ok c) (subst (λ (r : Answer DirectCommands). CommandIs r x) e (subst (λ (q : List ℕ). CommandIs (read_command q) x) h m)) refl

  writes : (c : DirectCommands) (s s' : List ℕ) (x : Result ℕ Refusal) → Leaves c s x s' → Writes (stop_writing c (length s)) (payload_of c) x s s'
  writes c s s' x (a, (t, (e, (f, (g, m))))) =
      subst (λ (d : DirectCommands). Writes (stop_writing d (length s)) (payload_of d) x s s') e
      (subst (λ (b : List ℕ). Writes (stop_writing a.0 (length b)) (payload_of a.0) x b s') f
      (subst (λ (b : List ℕ). Writes (stop_writing a.0 (length a.1.0.now)) (payload_of a.0) x a.1.0.now b) g m))

  leaves : (c : DirectCommands) (s' : List ℕ) (x : Result ℕ Refusal) → Leaves c room x s' → Writes (writing_order c (length room)) (layout_of c) x room s'
  leaves c s' x h =
      subst (λ (w : List ℕ). Writes (writing_order c (length room)) w x room s') (payload_is c)
      (subst (λ (n : ℕ). Writes n (payload_of c) x room s') (stop_is c (length room)) (writes c room s' x h))

  write_m1 : (x : Result ℕ Refusal) (s' : List ℕ) → Leaves disarm room x s' → (x ≡ Ok 5) × (s' ≡ m1 ++ 0 ∷ 0 ∷ [])
  unfolding check_of remainder
  write_m1 x s' h = earned x m1 room s' (leaves disarm s' x h)

  write_m3 : (x : Result ℕ Refusal) (s' : List ℕ) → Leaves (frequency 5800) room x s' → (x ≡ Ok 7) × (s' ≡ m3)
  unfolding check_of remainder
  write_m3 x s' h = earned x m3 room s' (leaves (frequency 5800) s' x h)

  -- ---- "Refusing everything": M1 is not refused
  pub refuses_all : (x : Result DirectCommands Refusal) (why : Refusal) → x ≡ Err why → Reads m1 x → ⊥
  refuses_all x why turned h =
      let l = refusal_some why in
      let e = ap outcome_number (sym turned ∙ reads m1 disarm x m1_read h) in
      omega arith

  -- ---- "answering one fixed command": not to both. Whatever stands in place of a command beside a refusal counts as the blank one.
  pub answers_one : (x y : Result DirectCommands Refusal) → command_in x ≡ command_in y → Reads m1 x → Reads m3 y → ⊥
  answers_one x y one h g =
      let e =
      ap (λ (c : DirectCommands). family_id c.payload)
      (sym (ap command_in (reads m1 disarm x m1_read h)) ∙ one ∙ ap command_in (reads m3 (frequency 5800) y m3_read g)) in
      omega arith

  -- ---- "or payload": not of both, in the same buffer
  pub leaves_one : (x y : Result ℕ Refusal) (s' : List ℕ) → Leaves disarm room x s' → Leaves (frequency 5800) room y s' → ⊥
  leaves_one x y s' h g =
      let e = ap (λ (s : List ℕ). get_or s 2 0) (sym (write_m1 x s' h).1 ∙ (write_m3 y s' g).1) in
      omega arith

  -- ---- "A count not earned": one fixed count; a count of bytes that were not put; any count but the payload's length
  pub counts_one : (n : ℕ) (s t : List ℕ) → Leaves disarm room (Ok n) s → Leaves (frequency 5800) room (Ok n) t → ⊥
  counts_one n s t h g =
      let e = counted n 5 (write_m1 (Ok n) s h).0 in
      let f = counted n 7 (write_m3 (Ok n) t g).0 in
      omega arith
    where
      counted : (a b : ℕ) → ◌≡◌ {A = Result ℕ Refusal} (Ok a) (Ok b) → a ≡ b
      counted a b e = cc

  pub counts_unwritten : (n : ℕ) → Leaves disarm room (Ok n) room → ⊥
  counts_unwritten n h =
      let e = ap (λ (s : List ℕ). get_or s 2 0) (sym (write_m1 (Ok n) room h).1) in
      omega arith

  pub counts_other : (c : DirectCommands) (s s' : List ℕ) (n : ℕ) → (n ≡ length (payload_of c) → ⊥) → Leaves c s (Ok n) s' → ⊥
  counts_other c s s' n other h = other
      (free (stop_writing c (length s)) n (length (payload_of c))
      (out_told (Ok n) (stop_writing c (length s)) (length (payload_of c)) (writes c s s' (Ok n) h).0)).1
