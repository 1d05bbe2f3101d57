use Rattle.list_machine.specs.Seeing.{pulled_reacts, pulled_writes}
use Rattle.handler_calls.proofs.HandledCalls.{request_handled, turn_handled, request_attended, turn_attended, handler_there}
use Rattle.handler_calls.proofs.handling.handle.Goals as goal

pub returns-in-Request-clause-handled : goal.returns-in-Request-clause-handled
returns-in-Request-clause-handled g c whole = request_handled
    (pulled_reacts g.H.Handler.plain g.H.Handler.reacts) (pulled_writes g.H.Handler.plain g.H.Handler.writes)
    c.args.front.now c.args.entry c.in-Request.request c.in-Request.call c.in-Request.handler c.on_event-end.new.self c.wake.new.self c.on_event-end.new.front c.rest.new.self c.args.event.now c.on_event-end.result
    (g.H.Handler.lines c.args.notes.now) (g.H.Handler.lines c.on_event-end.new.notes)
    c.in-Request.is c.wake.ensures c.rest.ensures (c.on_event-end.ensures.reacts whole) c.on_event-end.ensures.becomes (c.on_event-end.ensures.writes whole) whole

pub returns-in-Request-clause-attended : goal.returns-in-Request-clause-attended
returns-in-Request-clause-attended g c = request_attended
    c.args.front.now c.args.entry c.in-Request.request c.in-Request.call c.in-Request.handler c.on_event-end.new.self c.wake.new.self c.on_event-end.new.front c.rest.new.self
    c.in-Request.is c.wake.ensures c.rest.ensures c.on_event-end.ensures.becomes c.requires.attended

pub returns-in-Some-clause-handled : goal.returns-in-Some-clause-handled
returns-in-Some-clause-handled g c whole = turn_handled
    (pulled_reacts g.H.Handler.plain g.H.Handler.reacts) (pulled_writes g.H.Handler.plain g.H.Handler.writes)
    c.args.front.now c.args.entry c.in-Turn.cursor c.in-Turn.call c.in-Some.handler c.on_event-end-in-Some.new.self c.wake.new.self c.lend_handler.new.self c.on_event-end-in-Some.new.front c.return_handler.new.self c.rest-in-Some.new.self
    c.args.event.now c.on_event-end-in-Some.result (g.H.Handler.lines c.args.notes.now) (g.H.Handler.lines c.on_event-end-in-Some.new.notes)
    c.in-Turn.is c.wake.ensures c.in-Some.ensures.lent c.in-Some.ensures.left c.return_handler.ensures c.rest-in-Some.ensures
    (c.on_event-end-in-Some.ensures.reacts whole) c.on_event-end-in-Some.ensures.becomes (c.on_event-end-in-Some.ensures.writes whole) whole

pub returns-in-Some-clause-attended : goal.returns-in-Some-clause-attended
returns-in-Some-clause-attended g c = turn_attended
    c.args.front.now c.in-Turn.cursor c.in-Turn.call c.on_event-end-in-Some.new.self c.wake.new.self c.lend_handler.new.self c.on_event-end-in-Some.new.front c.return_handler.new.self c.rest-in-Some.new.self
    c.wake.ensures c.in-Some.ensures.left c.return_handler.ensures c.rest-in-Some.ensures c.on_event-end-in-Some.ensures.becomes c.requires.attended

pub unreachable-requires : goal.unreachable-requires
unreachable-requires g c = handler_there c.args.front.now c.wake.new.self c.args.entry c.in-Turn.cursor c.in-Turn.call c.in-Turn.is c.wake.ensures c.in-None.ensures.lent c.requires.attended c.requires.own
