use Rattle.script_runner.proofs.Words.{one_word}
use Rattle.script_runner.proofs.run.is_run.Goals as goal

pub returns-in-len1 : goal.returns-in-len1
returns-in-len1 c = one_word _ c.word-item.result c.as_str.result.now _ _ c.in-len1.len_at_least c.in-len1.len_below c.word-item.is c.as_str.ensures.value c.eq.ensures
