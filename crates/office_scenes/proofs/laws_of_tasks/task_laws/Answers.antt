use Rattle.office_scenes.proofs.Lessening.{task_less, event_less}
use Rattle.office_scenes.proofs.laws_of_tasks.task_laws.Goals as goal

pub returns : goal.returns
returns c = record { ran = task_less; taken = event_less }
