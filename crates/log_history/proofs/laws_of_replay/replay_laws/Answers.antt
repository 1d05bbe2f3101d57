use Rattle.log_history.proofs.Replays.{replayed_both, records_both, one_more, its_records, made_by_commits}
use Rattle.log_history.proofs.laws_of_replay.replay_laws.Goals as goal

pub returns : goal.returns
returns c = record { both = replayed_both; records_both = records_both; one_more = one_more; its_records = its_records; commits = made_by_commits }
