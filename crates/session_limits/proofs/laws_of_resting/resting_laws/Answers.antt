use Rattle.session_limits.proofs.Resting.{unbroken, rests, record_gives, record_more, commit_more}
use Rattle.session_limits.proofs.laws_of_resting.resting_laws.Goals as goal

pub returns : goal.returns
returns c = record { unbroken = unbroken; rest = rests; logged = record_gives; one_more = record_more; one_commit_more = commit_more }
