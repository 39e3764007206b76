-- A block replayed: too short an event, no replay, a refusal, or both images. Assumes nothing.
use Rattle.crsf.proofs.Replayed.{event-short, no-state, replay_room, step-refused, step_taken}
use Rattle.crsf.proofs.log.crsf_replay.Goals as goal

pub returns-then-event-lt-EVENT_SIZE : goal.returns-then-event-lt-EVENT_SIZE
returns-then-event-lt-EVENT_SIZE c =
    let given = c.args in
    event-short given.position given.block.now given.replay.now given.event.now _ c.if-event-lt-EVENT_SIZE.true c.refused.ensures

pub returns-in-Err : goal.returns-in-Err
returns-in-Err c =
    let given = c.args in
    no-state given.position given.block.now given.replay.now given.event.now c.if-event-lt-EVENT_SIZE.false
    c.from.result c.from.ensures c.in-Err.why _ c.in-Err.is c.refused-in-Err.ensures

pub returns-in-Ok-next : goal.returns-in-Ok-next
returns-in-Ok-next c =
    let given = c.args in
    step_taken given.position given.block.now given.replay.now given.event.now c.if-event-lt-EVENT_SIZE.false
    c.from.result c.from.ensures c.in-Ok.state c.in-Ok.is c.in-Ok-next.step _ _ c.in-Ok-next.ensures
    c.hand_out.ensures.replay_after c.hand_out.ensures.event_after

pub hand_out-requires : goal.hand_out-requires
hand_out-requires c =
    let given = c.args in (
      replay_room given.position given.block.now given.replay.now given.event.now c.if-event-lt-EVENT_SIZE.false
          c.from.result c.from.ensures c.in-Ok.state c.in-Ok.is,
      c.if-event-lt-EVENT_SIZE.false,
    )

pub returns-in-Err-next : goal.returns-in-Err-next
returns-in-Err-next c =
    let given = c.args in
    step-refused given.position given.block.now given.replay.now given.event.now c.if-event-lt-EVENT_SIZE.false
    c.from.result c.from.ensures c.in-Ok.state c.in-Ok.is c.in-Err-next.why _ c.in-Err-next.ensures c.refused-in-Err-next.ensures
