use Rattle.desk_steps.specs.declared.steps.DeskStep.TheVariants as step
use Rattle.idb_desk.specs.Steps.{with_step}
use Rattle.item_changes.specs.Effects.{applied_all}
use Rattle.serial_order.specs.FinishEntries.{changes_kept}
use Rattle.session_facts.specs.Moves.{entry_ran}
use Rattle.session_limits.proofs.Bodies.{few_bodies}
use Rattle.session_limits.proofs.Limits.{names_run, few_run, within_run, within_limits}
use Rattle.session_limits.proofs.laws_of_limits.limit_laws.Goals as goal

pub returns-clause-names : goal.returns-clause-names
returns-clause-names c = names_run

pub returns-clause-stores : goal.returns-clause-stores
returns-clause-stores c = few_run

pub returns-clause-bodies : goal.returns-clause-bodies
returns-clause-bodies c = few_bodies

pub returns-clause-items : goal.returns-clause-items
returns-clause-items c = within_limits

pub returns-clause-left : goal.returns-clause-left
returns-clause-left c session opening now t place seat tx outcome kept changes u f s at found allowed ran sound limits =
    let leaves = step.Leaves seat.client.number t.number outcome kept in
    within_run (with_step now.run leaves) opening (applied_all now.items (changes_kept (entry_ran t changes kept outcome))) f.openable f.few u.shows (c.desk_laws.ensures.allowed_step now.run leaves u.desk allowed)
    (c.showing_laws.ensures.left session opening now t place seat tx outcome kept changes u f s at found allowed ran sound) limits
