-- `opening::judge` meets its contract. Assumes nothing.
use mathlib.Core.Path.{refl}
use Rattle.crc.proofs.Laws.{bytes_of_lem}
use Rattle.edits.proofs.AsWritten.{judged, judged_vtx}
use Rattle.edits.proofs.opening.judge.Goals as goal

pub returns-in-Fc : goal.returns-in-Fc
returns-in-Fc c =
    judged c.args.command _ c.args.stored c.args.payload.now _ _
    c.in-Fc.is c.alone.ensures refl
    (bytes_of_lem c.args.payload.now c.type_inv.payload) c.fits.ensures

pub returns-in-Osd : goal.returns-in-Osd
returns-in-Osd c =
    judged c.args.command _ c.args.stored c.args.payload.now _ _
    c.in-Osd.is c.of_osd.ensures refl
    (bytes_of_lem c.args.payload.now c.type_inv.payload) c.fits-in-Osd.ensures

pub returns-in-Vtx : goal.returns-in-Vtx
returns-in-Vtx c =
    judged_vtx c.args.command _ c.args.stored c.args.payload.now _
    c.in-Vtx.is
    (bytes_of_lem c.args.payload.now c.type_inv.payload) c.judge_vtx.ensures

pub returns-in-Led : goal.returns-in-Led
returns-in-Led c =
    judged c.args.command _ c.args.stored c.args.payload.now _ _
    c.in-Led.is c.of_led.ensures refl
    (bytes_of_lem c.args.payload.now c.type_inv.payload) c.fits-in-Led.ensures

pub returns-in-General : goal.returns-in-General
returns-in-General c =
    judged c.args.command _ c.args.stored c.args.payload.now _ _
    c.in-General.is c.of_general.ensures refl
    (bytes_of_lem c.args.payload.now c.type_inv.payload) c.fits-in-General.ensures

pub returns-in-Crossfire : goal.returns-in-Crossfire
returns-in-Crossfire c =
    judged c.args.command _ c.args.stored c.args.payload.now _ _
    c.in-Crossfire.is c.of_crossfire.ensures refl
    (bytes_of_lem c.args.payload.now c.type_inv.payload) c.fits-in-Crossfire.ensures

pub returns-in-FlowControl : goal.returns-in-FlowControl
returns-in-FlowControl c =
    judged c.args.command _ c.args.stored c.args.payload.now _ _
    c.in-FlowControl.is c.of_flow.ensures refl
    (bytes_of_lem c.args.payload.now c.type_inv.payload) c.fits-in-FlowControl.ensures

pub returns-in-Screen : goal.returns-in-Screen
returns-in-Screen c =
    judged c.args.command _ c.args.stored c.args.payload.now _ _
    c.in-Screen.is c.of_screen.ensures refl
    (bytes_of_lem c.args.payload.now c.type_inv.payload) c.fits-in-Screen.ensures

pub returns-in-Ack : goal.returns-in-Ack
returns-in-Ack c =
    judged c.args.command _ c.args.stored c.args.payload.now _ _
    c.in-Ack.is c.of_ack.ensures refl
    (bytes_of_lem c.args.payload.now c.type_inv.payload) c.fits-in-Ack.ensures
