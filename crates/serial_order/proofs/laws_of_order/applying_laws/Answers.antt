use Rattle.machine_laws.proofs.Laws.{Below, KeyLaws}
use Rattle.serial_order.proofs.Applying.{leaves_made, each_applies}
use Rattle.serial_order.proofs.laws_of_order.applying_laws.Goals as goal

pub returns-clause-leaves : goal.returns-clause-leaves
returns-clause-leaves g c items body turns changes kept by_host fits run =
    let below : Below = record { storing_leaves = c.leaving_laws.ensures.storing; deleting_leaves = c.leaving_laws.ensures.deleting; clearing_leaves = c.leaving_laws.ensures.clearing } in
    let laws : KeyLaws = record { formed = c.conversion_laws.ensures.key; shallow = c.conversion_laws.ensures.shallow } in
    leaves_made g.H.Handler.reacts g.H.Handler.writes below laws items body turns changes kept by_host fits run

pub returns-clause-applies : goal.returns-clause-applies
returns-clause-applies g c items finish fits s =
    let below : Below = record { storing_leaves = c.leaving_laws.ensures.storing; deleting_leaves = c.leaving_laws.ensures.deleting; clearing_leaves = c.leaving_laws.ensures.clearing } in
    let laws : KeyLaws = record { formed = c.conversion_laws.ensures.key; shallow = c.conversion_laws.ensures.shallow } in
    each_applies g.H.Handler.reacts g.H.Handler.writes below laws items finish fits s
