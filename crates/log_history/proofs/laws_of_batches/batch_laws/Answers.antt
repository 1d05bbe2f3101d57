use Rattle.std.proofs.Common.{[], ◌∷◌}
use Rattle.log_history.proofs.Cuts.{commits_then, all_there, cut_still, cut_at_first, strict_ends, relaxed_waits}
use Rattle.log_history.proofs.laws_of_batches.batch_laws.Goals as goal

pub returns : goal.returns
returns c = record {
  one_more = λ commits d. commits_then (record { ended = []; waiting = [] }) commits (d ∷ []);
  all = λ commits. all_there (record { ended = []; waiting = [] }) commits;
  ended = λ commits. (cut_still _ commits cut_at_first).ended;
  waiting = λ commits. (cut_still _ commits cut_at_first).waiting;
  few = λ commits. (cut_still _ commits cut_at_first).few;
  strict_ends = strict_ends;
  relaxed_waits = relaxed_waits;
}
