use Rattle.std.proofs.Common.{◌∙◌, length, ap, sym}
use Rattle.desk_steps.specs.Desks.{ClientStand}
use Rattle.desk_steps.proofs.Laws.{client_there, client_nowhere}
use Rattle.idb_desk.proofs.clients.asked_by.Goals as goal

pub returns-in-Some : goal.returns-in-Some
returns-in-Some c = c.asked.ensures ∙ ap (λ (x : ClientStand). length x.requests) (sym (client_there c.args.client c.args.clients.now c.in-Some.place c.index-clients-place.result c.in-Some.ensures c.index-clients-place.is))

pub returns-in-None : goal.returns-in-None
returns-in-None c = ap (λ (x : ClientStand). length x.requests) (sym (client_nowhere c.args.client c.args.clients.now c.in-None.ensures))
