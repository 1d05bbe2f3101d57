use Rattle.std.proofs.Common.{true, false, refl}
use Rattle.client_ties.proofs.Laws.{sound_run, made_turns, grows_now, grows_event, grows_end}
use Rattle.idb_desk.specs.Steps.{desk_run, with_step}
use Rattle.client_machine.specs.Acts.{Makes, TakesTurn}
use Rattle.client_machine.specs.Answering.{told_by}
use Rattle.client_machine.specs.ClientStates.{without_tx, with_notes}
use Rattle.client_machine.specs.ClientSteps.{with_tasks}
use Rattle.serial_order.specs.SerialRuns.{joined_lines}
use Rattle.desk_steps.specs.declared.steps.DeskStep.TheVariants as step
use Rattle.std.specs.Prelude.{[], ◌∷◌, Some, None}
use Rattle.list_machine.proofs.Laws.{Below}
use Rattle.machine_laws.proofs.Laws.{KeyLaws}
use Rattle.session_facts.proofs.Keeping.{opens}
use Rattle.session_facts.proofs.Shown.{fresh_shown, tame_leaves, stays_shown, finish_shown, cancel_shown, faults_shown}
use Rattle.session_facts.proofs.Starting.{fits_whole, deleted_there}
use Rattle.session_facts.proofs.laws_of_showing.showing_laws.Goals as goal

pub returns-clause-fresh : goal.returns-clause-fresh
returns-clause-fresh c = fresh_shown c.desk_laws.ensures.no_step

pub returns-clause-task : goal.returns-clause-task
returns-clause-task c session opening now running place script before seat acts r task tasks u f s m runs =
    let g = grows_now (sound_run c.desk_laws.ensures.numbers) script.blocks (with_tasks before.client tasks) task.env (Some task.block) acts seat.client runs in
    stays_shown now before.client.number place seat acts r (opens session opening now running u f) m.made m.run (tame_leaves acts g.tame) s

pub returns-clause-event : goal.returns-clause-event
returns-clause-event c session opening now running place script before seat acts r e told u f s m is meets =
    let g = grows_event (sound_run c.desk_laws.ensures.numbers) script.blocks before.client e told acts seat.client is meets in
    stays_shown now before.client.number place seat (Makes (step.Takes before.client.number) told ∷ acts) r (opens session opening now running u f) m.made m.run (tame_leaves (Makes (step.Takes before.client.number) told ∷ acts) g.tame) s

pub returns-clause-start : goal.returns-clause-start
returns-clause-start c session opening now running place script before seat r number told u f s m =
    stays_shown now before.client.number place seat (Makes (step.Starts before.client.number number) told ∷ []) r (opens session opening now running u f) m.made m.run (refl, tt) s

pub returns-clause-turn : goal.returns-clause-turn
returns-clause-turn c session opening now running place script before seat r number notes u f s m =
    stays_shown now before.client.number place seat (TakesTurn number notes ∷ []) r (opens session opening now running u f) m.made m.run (refl, tt) s

pub returns-clause-finish : goal.returns-clause-finish
returns-clause-finish c session opening now t place script before seat acts r told tx outcome kept changes u f s m found ends runs sound =
    let below : Below = record { storing_leaves = c.leaving_laws.ensures.storing; deleting_leaves = c.leaving_laws.ensures.deleting; clearing_leaves = c.leaving_laws.ensures.clearing } in
    let laws : KeyLaws = record { formed = c.conversion_laws.ensures.key; shallow = c.conversion_laws.ensures.shallow } in
    let g = grows_end (sound_run c.desk_laws.ensures.numbers) script.blocks (without_tx before.client t.number) t.number outcome tx.kind acts seat.client ends in
    finish_shown below laws session opening now place before seat r f s (opens session opening now (Some t) u f) m.seat_at t u tx outcome kept changes told acts m.made m.run (tame_leaves acts g.tame) found runs sound

pub returns-clause-left : goal.returns-clause-left
returns-clause-left c session opening now t place seat tx outcome kept changes u f s at found allowed ran sound =
    let below : Below = record { storing_leaves = c.leaving_laws.ensures.storing; deleting_leaves = c.leaving_laws.ensures.deleting; clearing_leaves = c.leaving_laws.ensures.clearing } in
    let laws : KeyLaws = record { formed = c.conversion_laws.ensures.key; shallow = c.conversion_laws.ensures.shallow } in
    let leaves = step.Leaves seat.client.number t.number outcome kept in
    (finish_shown below laws session opening now place seat seat (with_step now.run leaves) f s (opens session opening now (Some t) u f) at t u tx outcome kept changes (told_by (desk_run now.run) leaves) []
    (refl, (refl, refl)) (c.desk_laws.ensures.allowed_step now.run leaves u.desk allowed) tt found ran sound).each

pub returns-clause-cancel : goal.returns-clause-cancel
returns-clause-cancel c session opening now running place script before seat acts r number told tx turns outcome u f s m found ends never =
    let below : Below = record { storing_leaves = c.leaving_laws.ensures.storing; deleting_leaves = c.leaving_laws.ensures.deleting; clearing_leaves = c.leaving_laws.ensures.clearing } in
    let laws : KeyLaws = record { formed = c.conversion_laws.ensures.key; shallow = c.conversion_laws.ensures.shallow } in
    let g = grows_end (sound_run c.desk_laws.ensures.numbers) script.blocks (with_notes (without_tx before.client number) (joined_lines turns)) number outcome tx.kind acts seat.client ends in
    let made = made_turns before.client.number number now.run r turns (Makes (step.Leaves before.client.number number outcome None) told ∷ acts) m.made in
    cancel_shown below laws session opening now place before seat r f s (opens session opening now running u f) m.seat_at running u number tx false outcome turns told acts made m.run (tame_leaves acts g.tame) found never

pub returns-clause-end_by_host : goal.returns-clause-end_by_host
returns-clause-end_by_host c session opening now running place script before seat acts r number told tx turns outcome u f s m found ends never =
    let below : Below = record { storing_leaves = c.leaving_laws.ensures.storing; deleting_leaves = c.leaving_laws.ensures.deleting; clearing_leaves = c.leaving_laws.ensures.clearing } in
    let laws : KeyLaws = record { formed = c.conversion_laws.ensures.key; shallow = c.conversion_laws.ensures.shallow } in
    let g = grows_end (sound_run c.desk_laws.ensures.numbers) script.blocks (with_notes (without_tx before.client number) (joined_lines turns)) number outcome tx.kind acts seat.client ends in
    let made = made_turns before.client.number number now.run r turns (Makes (step.Leaves before.client.number number outcome None) told ∷ acts) m.made in
    cancel_shown below laws session opening now place before seat r f s (opens session opening now running u f) m.seat_at running u number tx true outcome turns told acts made m.run (tame_leaves acts g.tame) found never

pub returns-clause-faults : goal.returns-clause-faults
returns-clause-faults c now f s run = faults_shown now (record { openable = f.openable; few = f.few }) s run

pub returns-clause-whole : goal.returns-clause-whole
returns-clause-whole c = fits_whole

pub returns-clause-exists : goal.returns-clause-exists
returns-clause-exists c = deleted_there
