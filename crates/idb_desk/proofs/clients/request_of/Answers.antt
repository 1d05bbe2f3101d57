use Rattle.std.proofs.Common.{◌∙◌, ap, sym}
use Rattle.desk_steps.specs.Desks.{ClientStand, request_in}
use Rattle.desk_steps.proofs.Laws.{client_there, client_nowhere, none_in}
use Rattle.idb_desk.proofs.clients.request_of.Goals as goal

pub returns-in-Some : goal.returns-in-Some
returns-in-Some c = c.request.ensures ∙ ap (λ (x : ClientStand). request_in x.requests c.args.who.request) (sym (client_there c.args.who.client c.args.clients.now c.in-Some.place c.index-clients-place.result c.in-Some.ensures c.index-clients-place.is))

pub returns-in-None : goal.returns-in-None
returns-in-None c = sym (none_in c.args.who.request) ∙ ap (λ (x : ClientStand). request_in x.requests c.args.who.request) (sym (client_nowhere c.args.who.client c.args.clients.now c.in-None.ensures))
