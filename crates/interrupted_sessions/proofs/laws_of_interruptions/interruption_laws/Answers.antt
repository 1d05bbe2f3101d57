use Rattle.interrupted_sessions.proofs.Interrupting.{interrupted_between, interrupted_at_end, interrupted_whole}
use Rattle.interrupted_sessions.proofs.laws_of_interruptions.interruption_laws.Goals as goal

pub returns-clause-between : goal.returns-clause-between
returns-clause-between c = interrupted_between

pub returns-clause-at_end : goal.returns-clause-at_end
returns-clause-at_end c = interrupted_at_end

pub returns-clause-whole : goal.returns-clause-whole
returns-clause-whole c = interrupted_whole
