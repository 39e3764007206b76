-- Any two answers that the contract of a public function of texts or ACKs allows coincide, and so does the lent body. `Post` is the
-- contract as the check reads it from the source, and no copy of it. Assumes nothing.
use mathlib.Core.Path.{◌≡◌, sym, ◌∙◌}
use lib.ListN.{length, take}
use contract.Lifetimes.{Lfts}
use borrow.Fn.Kinds.{Dens, res_t, ended_of}
use denote.Triple.Clauses.{AtExit}
use Rattle.codec.specs.Writing.{write_items}
use Rattle.codec.proofs.Outcomes.{gives_one}
use Rattle.codec.proofs.Writes.{writes_one}
use Rattle.families.specs.Text.{text_of, new_text}
use Rattle.families.specs.Ack.{ack_items, read_ack, ack_with, ack_says, stop_ack, new_ack, acked}
use Rattle.families.proofs.text.CommandString.new.Reads as new-text
use Rattle.families.proofs.text.CommandString.new.Kinds as new-text-kinds
use Rattle.families.proofs.text.all_zero.Reads as all-zero
use Rattle.families.proofs.text.all_zero.Kinds as all-zero-kinds
use Rattle.families.proofs.text.made_bytes.Reads as Made-bytes
use Rattle.families.proofs.text.made_bytes.Kinds as made-bytes-kinds
use Rattle.families.proofs.ack.CommandAck.new.Reads as new-ack
use Rattle.families.proofs.ack.CommandAck.new.Kinds as new-ack-kinds
use Rattle.families.proofs.ack.read.Reads as read
use Rattle.families.proofs.ack.read.Kinds as read-kinds
use Rattle.families.proofs.ack.write_to.Reads as write-to
use Rattle.families.proofs.ack.write_to.Kinds as write-to-kinds
use Rattle.families.proofs.ack.made.Reads as made
use Rattle.families.proofs.ack.made.Kinds as made-kinds

-- ---- the functions
pub new_text_one : (κs : Lfts 1) (a : Dens κs new-text-kinds.ps) (x y : (res_t new-text-kinds.r κs).Denot)
    (s t : AtExit (ended_of 1 new-text-kinds.ps new-text-kinds.r) κs)
    → new-text.Post κs a x s → new-text.Post κs a y t → x ≡ y
new_text_one κs a x y s t p q = gives_one text_of (new_text a.0.now) x y p q

pub all_zero_one : (κs : Lfts 1) (a : Dens κs all-zero-kinds.ps) (x y : (res_t all-zero-kinds.r κs).Denot)
    (s t : AtExit (ended_of 1 all-zero-kinds.ps all-zero-kinds.r) κs)
    → all-zero.Post κs a x s → all-zero.Post κs a y t → x ≡ y
all_zero_one κs a x y s t p q = p ∙ sym q

pub made_bytes_one : (κs : Lfts 1) (a : Dens κs made-bytes-kinds.ps) (x y : (res_t made-bytes-kinds.r κs).Denot)
    (s t : AtExit (ended_of 1 made-bytes-kinds.ps made-bytes-kinds.r) κs)
    → Made-bytes.Post κs a x s → Made-bytes.Post κs a y t → x ≡ y
made_bytes_one κs a x y s t p q = p ∙ sym q

pub new_ack_one : (κs : Lfts 1) (a : Dens κs new-ack-kinds.ps) (x y : (res_t new-ack-kinds.r κs).Denot)
    (s t : AtExit (ended_of 1 new-ack-kinds.ps new-ack-kinds.r) κs)
    → new-ack.Post κs a x s → new-ack.Post κs a y t → x ≡ y
new_ack_one κs a x y s t p q = gives_one acked (new_ack (ack_with a.0 a.1.0 a.1.1.0) a.1.1.1.0.now) x y p q

pub read_one : (κs : Lfts 1) (a : Dens κs read-kinds.ps) (x y : (res_t read-kinds.r κs).Denot) (s t : AtExit (ended_of 1 read-kinds.ps read-kinds.r) κs)
    → read.Post κs a x s → read.Post κs a y t → x ≡ y
read_one κs a x y s t p q = gives_one acked (read_ack a.0.now) x y p q

pub write_to_one : (κs : Lfts 2) (a : Dens κs write-to-kinds.ps) (x y : (res_t write-to-kinds.r κs).Denot)
    (s t : AtExit (ended_of 2 write-to-kinds.ps write-to-kinds.r) κs)
    → write-to.Post κs a x s → write-to.Post κs a y t → (x ≡ y) × (s.1.1.1.0.now ≡ t.1.1.1.0.now)
write_to_one κs a x y s t p q =
    let b = a.1.1.1.0.now in
    let v = ack_says a.0 (take a.1.1.0 a.1.0.now) in
    writes_one (stop_ack (length b) v) (write_items ack_items v) x y b s.1.1.1.0.now t.1.1.1.0.now p q

pub made_one : (κs : Lfts 1) (a : Dens κs made-kinds.ps) (x y : (res_t made-kinds.r κs).Denot) (s t : AtExit (ended_of 1 made-kinds.ps made-kinds.r) κs)
    → made.Post κs a x s → made.Post κs a y t → x ≡ y
made_one κs a x y s t p q = p ∙ sym q
