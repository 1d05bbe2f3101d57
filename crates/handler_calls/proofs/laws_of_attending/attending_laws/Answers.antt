use Rattle.std.proofs.Common.{false}
use Rattle.handler_calls.proofs.Attending.{attended_fresh, becomes_attended, attended_rest, attended_throw}
use Rattle.handler_calls.proofs.laws_of_attending.attending_laws.Goals as goal

pub returns-clause-fresh : goal.returns-clause-fresh
returns-clause-fresh g c mode schema scope = attended_fresh mode schema scope

pub returns-clause-calls : goal.returns-clause-calls
returns-clause-calls g c front last b a = becomes_attended (λ number. false) front last b a

pub returns-clause-rested : goal.returns-clause-rested
returns-clause-rested g c front a = attended_rest front a

pub returns-clause-threw : goal.returns-clause-threw
returns-clause-threw g c front a = attended_throw front a
