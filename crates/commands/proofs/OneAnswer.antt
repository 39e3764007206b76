-- Any two answers that a public function's contract allows coincide, and so do the bytes that it leaves in a lent slice. `Post` is
-- the contract as the check reads it from the source, and no copy of it. Assumes nothing.
use mathlib.Core.Path.{◌≡◌, refl, sym, ◌∙◌}
use lib.ListN.{length}
use contract.Lifetimes.{Lfts}
use borrow.Fn.Kinds.{Dens, res_t, ended_of}
use denote.Triple.Clauses.{AtExit}
use Rattle.codec.proofs.Outcomes.{gives_one, told_one}
use Rattle.codec.proofs.Writes.{writes_one}
use Rattle.commands.specs.Reading.{read_command}
use Rattle.commands.specs.Writing.{payload_of, stop_writing}
use Rattle.commands.specs.Kind.{Kind, kind}
use Rattle.commands.specs.declared.kind.KindRead.{KindRead}
use Rattle.commands.proofs.DirectCommands.blank.Reads as blank
use Rattle.commands.proofs.DirectCommands.blank.Kinds as blank-kinds
use Rattle.commands.proofs.DirectCommands.from_bytes.Reads as read
use Rattle.commands.proofs.DirectCommands.from_bytes.Kinds as read-kinds
use Rattle.commands.proofs.DirectCommands.to_bytes.Reads as write
use Rattle.commands.proofs.DirectCommands.to_bytes.Kinds as write-kinds
use Rattle.commands.proofs.DirectCommands.written_len.Reads as len
use Rattle.commands.proofs.DirectCommands.written_len.Kinds as len-kinds
use Rattle.commands.proofs.kind.read.Reads as kind-read
use Rattle.commands.proofs.kind.read.Kinds as kind-read-kinds

pub blank_one : (κs : Lfts 0) (a : Dens κs blank-kinds.ps) (x y : (res_t blank-kinds.r κs).Denot) (s t : AtExit (ended_of 0 blank-kinds.ps blank-kinds.r) κs)
    → blank.Post κs a x s → blank.Post κs a y t → x ≡ y
blank_one κs a x y s t p q = p ∙ sym q

pub from_bytes_one : (κs : Lfts 1) (a : Dens κs read-kinds.ps) (x y : (res_t read-kinds.r κs).Denot) (s t : AtExit (ended_of 1 read-kinds.ps read-kinds.r) κs)
    → read.Post κs a x s → read.Post κs a y t → x ≡ y
from_bytes_one κs a x y s t p q = gives_one (λ c. c) (read_command a.0.now) x y p q

pub to_bytes_one : (κs : Lfts 1) (a : Dens κs write-kinds.ps) (x y : (res_t write-kinds.r κs).Denot) (s t : AtExit (ended_of 1 write-kinds.ps write-kinds.r) κs)
    → write.Post κs a x s → write.Post κs a y t → (x ≡ y) × (s.1.0.now ≡ t.1.0.now)
to_bytes_one κs a x y s t p q =
    let buffer = a.1.0.now in
    writes_one (stop_writing a.0 (length buffer)) (payload_of a.0) x y buffer s.1.0.now t.1.0.now p q

-- what a kind says tells it
abbrev kind_in : Kind → KindRead
kind_in (kind p n) = record { payload = p; len = n }

pub kind_one : (κs : Lfts 1) (a : Dens κs kind-read-kinds.ps) (x y : (res_t kind-read-kinds.r κs).Denot)
    (s t : AtExit (ended_of 1 kind-read-kinds.ps kind-read-kinds.r) κs)
    → kind-read.Post κs a x s → kind-read.Post κs a y t → x ≡ y
kind_one κs a x y s t p q = told_one (λ k. kind k.payload k.len) kind_in (λ k. refl) x y _ p q

pub written_len_one : (κs : Lfts 0) (a : Dens κs len-kinds.ps) (x y : (res_t len-kinds.r κs).Denot) (s t : AtExit (ended_of 0 len-kinds.ps len-kinds.r) κs)
    → len.Post κs a x s → len.Post κs a y t → x ≡ y
written_len_one κs a x y s t p q = p ∙ sym q
