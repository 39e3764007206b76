-- `Replay::go_on` meets its contract: the record lies within the block. Assumes nothing.
use native.Mathlib.Omega.{arith}
use Rattle.replay.specs.Step.{after_step}
use mathlib.Core.Path.{ap}
use Rattle.replay.specs.declared.Event.{Event}
use Rattle.replay.proofs.Cases.{goes_none, goes_record, goes-within}
use borrow.Author.Rules.{rules}
use Rattle.replay.proofs.Replay.go_on.Goals as goal

pub returns-in_default : goal.returns-in_default
returns-in_default c = goes_none c.args.self c.args.block.now c.record_at.result c.record_at.ensures c.in_default.is

pub returns : goal.returns
returns c =
    goes_record c.args.self c.args.block.now c.record_at.result c.record_at.ensures c.in-Some.record c.in-Some.is _
    (ap (λ (e : Event). after_step (record { started = c.args.self.started; number = c.args.self.number; place = c.in-Some.record.next }) e)
    c.record_event.ensures)

pub overflow_add-place : goal.overflow_add-place
overflow_add-place c =
    let within = goes-within c.args.block.now c.args.self.place c.in-Some.record c.record_at.result c.record_at.ensures c.in-Some.is in
    record { fits = omega (arith, within.0, within.1.0, within.1.1) }

pub slice_bounds-record_event-count : goal.slice_bounds-record_event-count
slice_bounds-record_event-count c =
    let within = goes-within c.args.block.now c.args.self.place c.in-Some.record c.record_at.result c.record_at.ensures c.in-Some.is in
    let low = within.0 in
    let high = within.1.0 in
    let size = within.1.1 in
    search rules

pub slice_bounds-record_event-start : goal.slice_bounds-record_event-start
slice_bounds-record_event-start c =
    let within = goes-within c.args.block.now c.args.self.place c.in-Some.record c.record_at.result c.record_at.ensures c.in-Some.is in
    let low = within.0 in
    let high = within.1.0 in
    let size = within.1.1 in
    search rules

pub slice_bounds-record_event-end : goal.slice_bounds-record_event-end
slice_bounds-record_event-end c =
    let within = goes-within c.args.block.now c.args.self.place c.in-Some.record c.record_at.result c.record_at.ensures c.in-Some.is in
    let low = within.0 in
    let high = within.1.0 in
    let size = within.1.1 in
    search rules
