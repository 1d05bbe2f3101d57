use Rattle.object_stores.proofs.Marks.{kept_same, kept_again, marked_here, undone_marks}
use Rattle.object_stores.proofs.meanings.mark_laws.Goals as goal

pub returns-clause-same : goal.returns-clause-same
returns-clause-same c = kept_same

pub returns-clause-again : goal.returns-clause-again
returns-clause-again c = kept_again

pub returns-clause-here : goal.returns-clause-here
returns-clause-here c = marked_here

pub returns-clause-undone : goal.returns-clause-undone
returns-clause-undone c = undone_marks
