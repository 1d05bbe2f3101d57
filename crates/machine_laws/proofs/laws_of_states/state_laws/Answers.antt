use Rattle.std.proofs.Common.{ap, sym, ◌∙◌}
use Rattle.item_changes.specs.Effects.{made_all, finds_all}
use Rattle.list_machine.proofs.Laws.{goes_keeps, Below}
use Rattle.machine_laws.proofs.Checking.{KeyLaws}
use Rattle.machine_laws.proofs.Keeping.{state_fresh, turn_state, run_state}
use Rattle.machine_laws.proofs.laws_of_states.state_laws.Goals as goal

pub returns-clause-body : goal.returns-clause-body
returns-clause-body g c mode schema scope before body b is shows raised =
    let laws : KeyLaws = record { formed = c.conversion_laws.ensures.key; shallow = c.conversion_laws.ensures.shallow } in
    state_fresh laws mode schema scope before body b is shows raised

pub returns-clause-turn : goal.returns-clause-turn
returns-clause-turn g c old new lines t is =
    let below : Below = record { storing_leaves = c.leaving_laws.ensures.storing; deleting_leaves = c.leaving_laws.ensures.deleting; clearing_leaves = c.leaving_laws.ensures.clearing } in
    let laws : KeyLaws = record { formed = c.conversion_laws.ensures.key; shallow = c.conversion_laws.ensures.shallow } in
    turn_state below laws g.H.Handler.reacts g.H.Handler.writes old new lines t is

pub returns-clause-changes : goal.returns-clause-changes
returns-clause-changes g c old new lines t is =
    let below : Below = record { storing_leaves = c.leaving_laws.ensures.storing; deleting_leaves = c.leaving_laws.ensures.deleting; clearing_leaves = c.leaving_laws.ensures.clearing } in
    let laws : KeyLaws = record { formed = c.conversion_laws.ensures.key; shallow = c.conversion_laws.ensures.shallow } in
    let last = run_state below laws g.H.Handler.reacts g.H.Handler.writes old new lines t is in
    let keeps = goes_keeps g.H.Handler.reacts g.H.Handler.writes old new lines t in
    (last, ap (finds_all new.changes) (sym keeps.before) ∙ last.noted.find, ap (made_all new.changes) (sym keeps.before) ∙ last.noted.make)
