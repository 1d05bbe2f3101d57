use Rattle.index_tables.specs.Orders.{row_cmp_total, row_cmp_same}
use Rattle.index_tables.proofs.RowLaws as laws
use Rattle.index_tables.proofs.meanings.row_laws.Goals as goal

pub returns-clause-total : goal.returns-clause-total
returns-clause-total c = row_cmp_total

pub returns-clause-same : goal.returns-clause-same
returns-clause-same c = row_cmp_same

pub returns-clause-alike : goal.returns-clause-alike
returns-clause-alike c = laws.same_rows

pub returns-clause-empty : goal.returns-clause-empty
returns-clause-empty c = laws.has_no_row

pub returns-clause-listed : goal.returns-clause-listed
returns-clause-listed c = laws.has_row_among

pub returns-clause-rising : goal.returns-clause-rising
returns-clause-rising c = laws.rising

pub returns-clause-counted : goal.returns-clause-counted
returns-clause-counted c = laws.counted

pub returns-clause-key_of_row : goal.returns-clause-key_of_row
returns-clause-key_of_row c = laws.key_of_row

pub returns-clause-row_of_key : goal.returns-clause-row_of_key
returns-clause-row_of_key c = laws.row_of_key
