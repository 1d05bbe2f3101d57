use Rattle.request_lists.specs.Fronts.{new_front}
use Rattle.placed_calls.proofs.Fitting.{becomes_fit, handled_fit}
use Rattle.placed_calls.proofs.laws_of_calls.fitting_laws.Goals as goal

pub returns-clause-body : goal.returns-clause-body
returns-clause-body g c mode schema scope body b = becomes_fit (new_front mode schema scope) body b (record { waiting = tt; cursors = tt })

pub returns-clause-handled : goal.returns-clause-handled
returns-clause-handled g c front last entry event how lines h f = handled_fit g.H.Handler.reacts g.H.Handler.writes front entry event last how lines h f
