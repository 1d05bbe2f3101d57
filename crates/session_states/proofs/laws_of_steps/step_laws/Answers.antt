use Rattle.client_ties.specs.ClientSteps.{RunsTask, TakesEvent, with_tasks}
use Rattle.client_ties.specs.Acts.{Makes}
use Rattle.std.proofs.Common.{◌∷◌}
use Rattle.desk_steps.specs.declared.steps.DeskStep.TheVariants as step
use Rattle.client_ties.proofs.Laws.{sound_run, grows_now, grows_event}
use Rattle.session_states.proofs.Moving.{tame_under_way, start_under_way, turn_under_way}
use Rattle.session_states.proofs.Finishing.{finish_under_way, cancel_under_way, host_under_way, doubt_under_way, aborted_undone}
use Rattle.session_states.proofs.laws_of_steps.step_laws.Goals as goal

pub returns-clause-task : goal.returns-clause-task
returns-clause-task c session opening now running place script before seat acts r task tasks u m has runs =
    let g = grows_now (sound_run c.desk_laws.ensures.numbers) script.blocks (with_tasks before.client tasks) task.env _ acts seat.client runs in
    tame_under_way session opening now running place script before seat acts r u m (RunsTask task tasks acts seat.client has runs)
    (record { txs = g.txs; number = g.number; tame = g.tame; fresh = g.fresh; desk = g.desk })

pub returns-clause-event : goal.returns-clause-event
returns-clause-event c session opening now running place script before seat acts r e told u m idle is meets =
    tame_under_way session opening now running place script before seat (Makes (step.Takes before.client.number) told ∷ acts) r u m (TakesEvent e told acts seat.client idle is meets)
    (grows_event (sound_run c.desk_laws.ensures.numbers) script.blocks before.client e told acts seat.client is meets)

pub returns-clause-start : goal.returns-clause-start
returns-clause-start c session opening now place script before seat r number told tx u m least idle found waits begins is =
    start_under_way session opening now place script before seat r told tx idle (sound_run c.desk_laws.ensures.numbers) number u least waits begins m found is

pub returns-clause-turn : goal.returns-clause-turn
returns-clause-turn c session opening now t place script before seat r notes tx u m idle found runs is =
    turn_under_way session opening now place script before seat r t notes tx idle u runs m found is

pub returns-clause-finish : goal.returns-clause-finish
returns-clause-finish c session opening now t place script before seat acts r told tx outcome kept changes u m idle found ran gone runs sure =
    finish_under_way (sound_run c.desk_laws.ensures.numbers) session opening now place script before seat told acts r tx idle t outcome kept changes u ran sure runs m found gone

pub returns-clause-cancel : goal.returns-clause-cancel
returns-clause-cancel c session opening now place script before seat acts r told tx number turns outcome u m least idle found waits gone never =
    cancel_under_way (sound_run c.desk_laws.ensures.numbers) session opening now place script before seat told acts r tx idle number turns outcome u least waits never m found gone

pub returns-clause-doubt : goal.returns-clause-doubt
returns-clause-doubt c session opening now t place script before seat acts r told tx outcome kept changes u m idle found ran gone runs doubt writes =
    doubt_under_way (sound_run c.desk_laws.ensures.numbers) session opening now place script before seat told acts r tx idle t outcome kept changes u ran doubt writes runs m found gone

pub returns-clause-end_by_host : goal.returns-clause-end_by_host
returns-clause-end_by_host c session opening now place script before seat acts r told tx number turns outcome u faulted m least idle found waits gone never =
    host_under_way (sound_run c.desk_laws.ensures.numbers) session opening now place script before seat told acts r tx idle number turns outcome u faulted least waits never m found gone

pub returns-clause-undone : goal.returns-clause-undone
returns-clause-undone c = aborted_undone
