use Rattle.client_ties.proofs.Laws.{sound_run}
use Rattle.session_facts.proofs.Keeping.{fresh_fitting, task_fitting, event_fitting, start_fitting, turn_fitting, finish_fitting, cancel_fitting, faults_fitting}
use Rattle.session_facts.proofs.laws_of_fitting.fitting_laws.Goals as goal

pub returns-clause-fresh : goal.returns-clause-fresh
returns-clause-fresh c = fresh_fitting

pub returns-clause-task : goal.returns-clause-task
returns-clause-task c session opening now running place script before seat acts r task tasks u f m runs =
    task_fitting session opening now running u f c.desk_laws.ensures.numbers (sound_run c.desk_laws.ensures.numbers) place script before seat acts r task tasks m runs

pub returns-clause-event : goal.returns-clause-event
returns-clause-event c session opening now running place script before seat acts r e told u f m is meets =
    event_fitting session opening now running u f c.desk_laws.ensures.numbers (sound_run c.desk_laws.ensures.numbers) place script before seat acts r e told m is meets

pub returns-clause-start : goal.returns-clause-start
returns-clause-start c session opening now running place script before seat r number told u f m is =
    start_fitting session opening now running u f c.desk_laws.ensures.numbers (sound_run c.desk_laws.ensures.numbers) place script before seat r number told m is

pub returns-clause-turn : goal.returns-clause-turn
returns-clause-turn c session opening now running place script before seat r number notes u f m is =
    turn_fitting session opening now running u f c.desk_laws.ensures.numbers (sound_run c.desk_laws.ensures.numbers) place script before seat r number notes m is

pub returns-clause-finish : goal.returns-clause-finish
returns-clause-finish c session opening now running place script before seat acts r number told tx outcome kept e u f m found ends =
    finish_fitting session opening now running u f c.desk_laws.ensures.numbers (sound_run c.desk_laws.ensures.numbers) place script before seat acts r number told tx outcome kept e m found ends

pub returns-clause-cancel : goal.returns-clause-cancel
returns-clause-cancel c session opening now running place script before seat acts r number told tx turns outcome e u f m found ends =
    cancel_fitting session opening now running u f c.desk_laws.ensures.numbers (sound_run c.desk_laws.ensures.numbers) place script before seat acts r number told tx turns outcome e m found ends

pub returns-clause-faults : goal.returns-clause-faults
returns-clause-faults c = faults_fitting
