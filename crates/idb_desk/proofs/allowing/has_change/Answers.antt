use Rattle.std.proofs.Common.{List, ap, sym, ◌∙◌}
use Rattle.name_queues.specs.declared.ids.ConnId.{ConnId}
use Rattle.connection_queues.specs.Machine.{unhandled}
use Rattle.desk_steps.specs.Desks.{ClientStand}
use Rattle.desk_steps.specs.Refusals.{has_some}
use Rattle.desk_steps.proofs.Laws.{client_there_in, client_nowhere_in}
use Rattle.idb_desk.proofs.allowing.has_change.Goals as goal

pub returns-in-Some : goal.returns-in-Some
returns-in-Some c = c.has_unhandled.ensures ∙ ap (λ (whos : List ConnId). has_some (unhandled c.args.parts.now.queues.names whos)) c.changes.ensures ∙ ap (λ (x : ClientStand). has_some (unhandled c.args.parts.now.queues.names x.changes)) (sym (client_there_in c.args.client c.args.parts.now.board.clients.items c.as_slice-clients.result.now c.in-Some.place c.index-clients-place.result c.as_slice-clients.ensures.value c.in-Some.ensures c.index-clients-place.is))

pub returns-in-None : goal.returns-in-None
returns-in-None c = ap (λ (x : ClientStand). has_some (unhandled c.args.parts.now.queues.names x.changes)) (sym (client_nowhere_in c.args.client c.args.parts.now.board.clients.items c.as_slice-clients.result.now c.as_slice-clients.ensures.value c.in-None.ensures))
