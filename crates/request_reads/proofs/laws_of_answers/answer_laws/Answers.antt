use Rattle.request_reads.proofs.Formed.{value_formed, key_formed, count_formed, values_formed, keys_formed, cursor_formed}
use Rattle.request_reads.proofs.laws_of_answers.answer_laws.Goals as goal

pub returns-clause-value : goal.returns-clause-value
returns-clause-value c store over range sound = value_formed store sound over range

pub returns-clause-key : goal.returns-clause-key
returns-clause-key c store over range sound = key_formed store sound over range

pub returns-clause-count : goal.returns-clause-count
returns-clause-count c store over range = count_formed store over range

pub returns-clause-values : goal.returns-clause-values
returns-clause-values c store over range limit sound few = values_formed store sound over range limit few

pub returns-clause-keys : goal.returns-clause-keys
returns-clause-keys c store over range limit sound few = keys_formed store sound over range limit few

pub returns-clause-cursor : goal.returns-clause-cursor
returns-clause-cursor c store keys_only over turn more sound valid = cursor_formed store sound over valid keys_only turn more
