use Rattle.connection_queues.specs.Machine.{unhandled}
use Rattle.desk_steps.specs.Desks.{changes_in}
use Rattle.idb_desk.specs.Parts.{desk_state_of}
use Rattle.desk_steps.proofs.Laws.{handled_there}
use Rattle.idb_desk.proofs.making.make_handle.Goals as goal

pub returns-in-Some : goal.returns-in-Some
returns-in-Some c = handled_there (desk_state_of c.args.parts.now) c.args.client c.in-Some.who (unhandled c.args.parts.now.queues.names (changes_in c.args.parts.now.board.clients.items c.args.client)) c.handle_change.new.clients.items c.as_slice.result.now c.handled.new.self c.settle_of.new.queues c.in-Some.ensures.first c.handle_change.ensures.left c.as_slice.ensures.value c.handled.ensures c.settle_of.ensures
