-- Any two lengths that the contract of a family's `written_len` allows coincide. `Post` is the contract as the check reads it from the
-- source, and no copy of it. Assumes nothing.
use mathlib.Core.Path.{◌≡◌, sym, ◌∙◌}
use contract.Lifetimes.{Lfts}
use borrow.Fn.Kinds.{Dens, res_t, ended_of}
use denote.Triple.Clauses.{AtExit}
use Rattle.families.proofs.fc.written_len.Reads as fc-len
use Rattle.families.proofs.fc.written_len.Kinds as fc-len-kinds
use Rattle.families.proofs.osd.written_len.Reads as osd-len
use Rattle.families.proofs.osd.written_len.Kinds as osd-len-kinds
use Rattle.families.proofs.vtx.written_len.Reads as vtx-len
use Rattle.families.proofs.vtx.written_len.Kinds as vtx-len-kinds
use Rattle.families.proofs.led.written_len.Reads as led-len
use Rattle.families.proofs.led.written_len.Kinds as led-len-kinds
use Rattle.families.proofs.general.written_len.Reads as general-len
use Rattle.families.proofs.general.written_len.Kinds as general-len-kinds
use Rattle.families.proofs.crossfire.written_len.Reads as crossfire-len
use Rattle.families.proofs.crossfire.written_len.Kinds as crossfire-len-kinds
use Rattle.families.proofs.flow_control.written_len.Reads as flow-len
use Rattle.families.proofs.flow_control.written_len.Kinds as flow-len-kinds
use Rattle.families.proofs.screen.written_len.Reads as screen-len
use Rattle.families.proofs.screen.written_len.Kinds as screen-len-kinds
use Rattle.families.proofs.ack.written_len.Reads as ack-len
use Rattle.families.proofs.ack.written_len.Kinds as ack-len-kinds

pub fc_len_one : (κs : Lfts 0) (a : Dens κs fc-len-kinds.ps) (x y : (res_t fc-len-kinds.r κs).Denot)
    (s t : AtExit (ended_of 0 fc-len-kinds.ps fc-len-kinds.r) κs)
    → fc-len.Post κs a x s → fc-len.Post κs a y t → x ≡ y
fc_len_one κs a x y s t p q = p.0 ∙ sym q.0

pub osd_len_one : (κs : Lfts 0) (a : Dens κs osd-len-kinds.ps) (x y : (res_t osd-len-kinds.r κs).Denot)
    (s t : AtExit (ended_of 0 osd-len-kinds.ps osd-len-kinds.r) κs)
    → osd-len.Post κs a x s → osd-len.Post κs a y t → x ≡ y
osd_len_one κs a x y s t p q = p.0 ∙ sym q.0

pub vtx_len_one : (κs : Lfts 0) (a : Dens κs vtx-len-kinds.ps) (x y : (res_t vtx-len-kinds.r κs).Denot)
    (s t : AtExit (ended_of 0 vtx-len-kinds.ps vtx-len-kinds.r) κs)
    → vtx-len.Post κs a x s → vtx-len.Post κs a y t → x ≡ y
vtx_len_one κs a x y s t p q = p.0 ∙ sym q.0

pub led_len_one : (κs : Lfts 0) (a : Dens κs led-len-kinds.ps) (x y : (res_t led-len-kinds.r κs).Denot)
    (s t : AtExit (ended_of 0 led-len-kinds.ps led-len-kinds.r) κs)
    → led-len.Post κs a x s → led-len.Post κs a y t → x ≡ y
led_len_one κs a x y s t p q = p.0 ∙ sym q.0

pub general_len_one : (κs : Lfts 0) (a : Dens κs general-len-kinds.ps) (x y : (res_t general-len-kinds.r κs).Denot)
    (s t : AtExit (ended_of 0 general-len-kinds.ps general-len-kinds.r) κs)
    → general-len.Post κs a x s → general-len.Post κs a y t → x ≡ y
general_len_one κs a x y s t p q = p.0 ∙ sym q.0

pub crossfire_len_one : (κs : Lfts 0) (a : Dens κs crossfire-len-kinds.ps) (x y : (res_t crossfire-len-kinds.r κs).Denot)
    (s t : AtExit (ended_of 0 crossfire-len-kinds.ps crossfire-len-kinds.r) κs)
    → crossfire-len.Post κs a x s → crossfire-len.Post κs a y t → x ≡ y
crossfire_len_one κs a x y s t p q = p.0 ∙ sym q.0

pub flow_len_one : (κs : Lfts 0) (a : Dens κs flow-len-kinds.ps) (x y : (res_t flow-len-kinds.r κs).Denot)
    (s t : AtExit (ended_of 0 flow-len-kinds.ps flow-len-kinds.r) κs)
    → flow-len.Post κs a x s → flow-len.Post κs a y t → x ≡ y
flow_len_one κs a x y s t p q = p.0 ∙ sym q.0

pub screen_len_one : (κs : Lfts 1) (a : Dens κs screen-len-kinds.ps) (x y : (res_t screen-len-kinds.r κs).Denot)
    (s t : AtExit (ended_of 1 screen-len-kinds.ps screen-len-kinds.r) κs)
    → screen-len.Post κs a x s → screen-len.Post κs a y t → x ≡ y
screen_len_one κs a x y s t p q = p.0 ∙ sym q.0

pub ack_len_one : (κs : Lfts 1) (a : Dens κs ack-len-kinds.ps) (x y : (res_t ack-len-kinds.r κs).Denot)
    (s t : AtExit (ended_of 1 ack-len-kinds.ps ack-len-kinds.r) κs)
    → ack-len.Post κs a x s → ack-len.Post κs a y t → x ≡ y
ack_len_one κs a x y s t p q = p.0 ∙ sym q.0
