-- Any two answers that a public function's contract allows coincide, and so do the bytes that it leaves in a lent slice. `Post` is
-- the contract as the check reads it from the source, and no copy of it. Assumes nothing.
use mathlib.Core.Path.{◌≡◌, sym, ◌∙◌}
use contract.Lifetimes.{Lfts}
use borrow.Fn.Kinds.{Dens, res_t, ended_of}
use denote.Triple.Clauses.{AtExit}
use Rattle.codec.proofs.Outcomes.{told_one}
use Rattle.codec.proofs.Writes.{written_fixed}
use Rattle.families.specs.Fc.{fc_says, fc_of}
use Rattle.families.specs.Osd.{osd_says, osd_of}
use Rattle.families.specs.Vtx.{vtx_says, vtx_of}
use Rattle.families.specs.Led.{led_says, led_of}
use Rattle.families.specs.General.{general_says, general_of}
use Rattle.families.specs.Crossfire.{crossfire_says, crossfire_of}
use Rattle.families.specs.FlowControl.{flow_says, flow_of}
use Rattle.families.proofs.Inverse.{fc_of_lem, osd_of_lem, vtx_of_lem, led_of_lem, general_of_lem, crossfire_of_lem, flow_of_lem}
use Rattle.families.proofs.fc.read.Reads as fc-read
use Rattle.families.proofs.fc.read.Kinds as fc-read-kinds
use Rattle.families.proofs.fc.write_to.Reads as fc-write-to
use Rattle.families.proofs.fc.write_to.Kinds as fc-write-to-kinds
use Rattle.families.proofs.osd.read.Reads as osd-read
use Rattle.families.proofs.osd.read.Kinds as osd-read-kinds
use Rattle.families.proofs.osd.write_to.Reads as osd-write-to
use Rattle.families.proofs.osd.write_to.Kinds as osd-write-to-kinds
use Rattle.families.proofs.vtx.read.Reads as vtx-read
use Rattle.families.proofs.led.read.Reads as led-read
use Rattle.families.proofs.general.read.Reads as general-read
use Rattle.families.proofs.vtx.read.Kinds as vtx-read-kinds
use Rattle.families.proofs.led.read.Kinds as led-read-kinds
use Rattle.families.proofs.general.read.Kinds as general-read-kinds
use Rattle.families.proofs.vtx.write_to.Reads as vtx-write-to
use Rattle.families.proofs.led.write_to.Reads as led-write-to
use Rattle.families.proofs.general.write_to.Reads as general-write-to
use Rattle.families.proofs.vtx.write_to.Kinds as vtx-write-to-kinds
use Rattle.families.proofs.led.write_to.Kinds as led-write-to-kinds
use Rattle.families.proofs.general.write_to.Kinds as general-write-to-kinds
use Rattle.families.proofs.crossfire.read.Reads as crossfire-read
use Rattle.families.proofs.crossfire.read.Kinds as crossfire-read-kinds
use Rattle.families.proofs.crossfire.write_to.Reads as crossfire-write-to
use Rattle.families.proofs.crossfire.write_to.Kinds as crossfire-write-to-kinds
use Rattle.families.proofs.flow_control.read.Reads as flow-read
use Rattle.families.proofs.flow_control.read.Kinds as flow-read-kinds
use Rattle.families.proofs.flow_control.write_to.Reads as flow-write-to
use Rattle.families.proofs.flow_control.write_to.Kinds as flow-write-to-kinds
use Rattle.families.proofs.payload.command_id.Reads as command-id
use Rattle.families.proofs.payload.command_id.Kinds as command-id-kinds

-- ---- 0x01 FC
pub fc_read_one : (κs : Lfts 1) (a : Dens κs fc-read-kinds.ps) (x y : (res_t fc-read-kinds.r κs).Denot)
    (s t : AtExit (ended_of 1 fc-read-kinds.ps fc-read-kinds.r) κs)
    → fc-read.Post κs a x s → fc-read.Post κs a y t → x ≡ y
fc_read_one κs a x y s t p q = told_one fc_says fc_of fc_of_lem x y _ p q

pub fc_write_to_one : (κs : Lfts 1) (a : Dens κs fc-write-to-kinds.ps) (x y : (res_t fc-write-to-kinds.r κs).Denot)
    (s t : AtExit (ended_of 1 fc-write-to-kinds.ps fc-write-to-kinds.r) κs)
    → fc-write-to.Post κs a x s → fc-write-to.Post κs a y t → (x ≡ y) × (s.1.0.now ≡ t.1.0.now)
fc_write_to_one κs a x y s t p q = (written_fixed x y _ p.0 q.0, p.1 ∙ sym q.1)

-- ---- 0x05 OSD
pub osd_read_one : (κs : Lfts 1) (a : Dens κs osd-read-kinds.ps) (x y : (res_t osd-read-kinds.r κs).Denot)
    (s t : AtExit (ended_of 1 osd-read-kinds.ps osd-read-kinds.r) κs)
    → osd-read.Post κs a x s → osd-read.Post κs a y t → x ≡ y
osd_read_one κs a x y s t p q = told_one osd_says osd_of osd_of_lem x y _ p q

pub osd_write_to_one : (κs : Lfts 1) (a : Dens κs osd-write-to-kinds.ps) (x y : (res_t osd-write-to-kinds.r κs).Denot)
    (s t : AtExit (ended_of 1 osd-write-to-kinds.ps osd-write-to-kinds.r) κs)
    → osd-write-to.Post κs a x s → osd-write-to.Post κs a y t → (x ≡ y) × (s.1.0.now ≡ t.1.0.now)
osd_write_to_one κs a x y s t p q = (written_fixed x y _ p.0 q.0, p.1 ∙ sym q.1)

-- ---- 0x08 VTX
pub vtx_read_one : (κs : Lfts 1) (a : Dens κs vtx-read-kinds.ps) (x y : (res_t vtx-read-kinds.r κs).Denot)
    (s t : AtExit (ended_of 1 vtx-read-kinds.ps vtx-read-kinds.r) κs)
    → vtx-read.Post κs a x s → vtx-read.Post κs a y t → x ≡ y
vtx_read_one κs a x y s t p q = told_one vtx_says vtx_of vtx_of_lem x y _ p q

pub vtx_write_to_one : (κs : Lfts 1) (a : Dens κs vtx-write-to-kinds.ps) (x y : (res_t vtx-write-to-kinds.r κs).Denot)
    (s t : AtExit (ended_of 1 vtx-write-to-kinds.ps vtx-write-to-kinds.r) κs)
    → vtx-write-to.Post κs a x s → vtx-write-to.Post κs a y t → (x ≡ y) × (s.1.0.now ≡ t.1.0.now)
vtx_write_to_one κs a x y s t p q = (written_fixed x y _ p.0 q.0, p.1 ∙ sym q.1)

-- ---- 0x09 LED
pub led_read_one : (κs : Lfts 1) (a : Dens κs led-read-kinds.ps) (x y : (res_t led-read-kinds.r κs).Denot)
    (s t : AtExit (ended_of 1 led-read-kinds.ps led-read-kinds.r) κs)
    → led-read.Post κs a x s → led-read.Post κs a y t → x ≡ y
led_read_one κs a x y s t p q = told_one led_says led_of led_of_lem x y _ p q

pub led_write_to_one : (κs : Lfts 1) (a : Dens κs led-write-to-kinds.ps) (x y : (res_t led-write-to-kinds.r κs).Denot)
    (s t : AtExit (ended_of 1 led-write-to-kinds.ps led-write-to-kinds.r) κs)
    → led-write-to.Post κs a x s → led-write-to.Post κs a y t → (x ≡ y) × (s.1.0.now ≡ t.1.0.now)
led_write_to_one κs a x y s t p q = (written_fixed x y _ p.0 q.0, p.1 ∙ sym q.1)

-- ---- 0x0A General
pub general_read_one : (κs : Lfts 1) (a : Dens κs general-read-kinds.ps) (x y : (res_t general-read-kinds.r κs).Denot)
    (s t : AtExit (ended_of 1 general-read-kinds.ps general-read-kinds.r) κs)
    → general-read.Post κs a x s → general-read.Post κs a y t → x ≡ y
general_read_one κs a x y s t p q = told_one general_says general_of general_of_lem x y _ p q

pub general_write_to_one : (κs : Lfts 1) (a : Dens κs general-write-to-kinds.ps)
    (x y : (res_t general-write-to-kinds.r κs).Denot)
    (s t : AtExit (ended_of 1 general-write-to-kinds.ps general-write-to-kinds.r) κs)
    → general-write-to.Post κs a x s → general-write-to.Post κs a y t → (x ≡ y) × (s.1.0.now ≡ t.1.0.now)
general_write_to_one κs a x y s t p q = (written_fixed x y _ p.0 q.0, p.1 ∙ sym q.1)

-- ---- 0x10 Crossfire
pub crossfire_read_one : (κs : Lfts 1) (a : Dens κs crossfire-read-kinds.ps)
    (x y : (res_t crossfire-read-kinds.r κs).Denot)
    (s t : AtExit (ended_of 1 crossfire-read-kinds.ps crossfire-read-kinds.r) κs)
    → crossfire-read.Post κs a x s → crossfire-read.Post κs a y t → x ≡ y
crossfire_read_one κs a x y s t p q = told_one crossfire_says crossfire_of crossfire_of_lem x y _ p q

pub crossfire_write_to_one : (κs : Lfts 1) (a : Dens κs crossfire-write-to-kinds.ps)
    (x y : (res_t crossfire-write-to-kinds.r κs).Denot)
    (s t : AtExit (ended_of 1 crossfire-write-to-kinds.ps crossfire-write-to-kinds.r) κs)
    → crossfire-write-to.Post κs a x s → crossfire-write-to.Post κs a y t → (x ≡ y) × (s.1.0.now ≡ t.1.0.now)
crossfire_write_to_one κs a x y s t p q = (written_fixed x y _ p.0 q.0, p.1 ∙ sym q.1)

-- ---- 0x20 Flow control
pub flow_read_one : (κs : Lfts 1) (a : Dens κs flow-read-kinds.ps) (x y : (res_t flow-read-kinds.r κs).Denot)
    (s t : AtExit (ended_of 1 flow-read-kinds.ps flow-read-kinds.r) κs)
    → flow-read.Post κs a x s → flow-read.Post κs a y t → x ≡ y
flow_read_one κs a x y s t p q = told_one flow_says flow_of flow_of_lem x y _ p q

pub flow_write_to_one : (κs : Lfts 1) (a : Dens κs flow-write-to-kinds.ps) (x y : (res_t flow-write-to-kinds.r κs).Denot)
    (s t : AtExit (ended_of 1 flow-write-to-kinds.ps flow-write-to-kinds.r) κs)
    → flow-write-to.Post κs a x s → flow-write-to.Post κs a y t → (x ≡ y) × (s.1.0.now ≡ t.1.0.now)
flow_write_to_one κs a x y s t p q = (written_fixed x y _ p.0 q.0, p.1 ∙ sym q.1)

-- ---- the enum of families
pub command_id_one : (κs : Lfts 0) (a : Dens κs command-id-kinds.ps) (x y : (res_t command-id-kinds.r κs).Denot)
    (s t : AtExit (ended_of 0 command-id-kinds.ps command-id-kinds.r) κs)
    → command-id.Post κs a x s → command-id.Post κs a y t → x ≡ y
command_id_one κs a x y s t p q = p ∙ sym q
