use Rattle.client_ties.proofs.Laws.{sound_run}
use Rattle.session_facts.proofs.Allowing.{allowed_aborted, allowed_finish}
use Rattle.session_facts.proofs.Becoming.{aborted_left}
use Rattle.session_facts.proofs.Holding.{started_held, task_held, notes_held}
use Rattle.session_facts.proofs.Telling.{open_there, upgrade_there, deletion_there}
use Rattle.session_facts.proofs.laws_of_telling.telling_laws.Goals as goal

pub returns-clause-opens : goal.returns-clause-opens
returns-clause-opens c session opening now running place seat e u f at is = open_there session opening now running place seat u f at e is

pub returns-clause-upgrades : goal.returns-clause-upgrades
returns-clause-upgrades c session opening now running place seat who old new u f at is = upgrade_there session opening now running place seat u f at c.desk_laws.ensures.numbers who old new is

pub returns-clause-deletions : goal.returns-clause-deletions
returns-clause-deletions c session opening now running place seat who old u f at is = deletion_there session opening now running place seat u f at c.desk_laws.ensures.numbers who old is

pub returns-clause-not_begun : goal.returns-clause-not_begun
returns-clause-not_begun c = aborted_left

pub returns-clause-aborted : goal.returns-clause-aborted
returns-clause-aborted c session opening now running place seat number tx ended u f at found out = allowed_aborted session opening now place seat f at number tx ended found out

pub returns-clause-finishes : goal.returns-clause-finishes
returns-clause-finishes c session opening now t place seat tx part turns changes kept outcome u f at found run = allowed_finish session opening now place seat f at t tx part turns changes kept outcome u found run

pub returns-clause-held_started : goal.returns-clause-held_started
returns-clause-held_started c = started_held

pub returns-clause-held_tasks : goal.returns-clause-held_tasks
returns-clause-held_tasks c blocks b last env block acts number tx runs e = task_held (sound_run c.desk_laws.ensures.numbers) blocks b env block acts last number tx runs e

pub returns-clause-held_posts : goal.returns-clause-held_posts
returns-clause-held_posts c = notes_held
