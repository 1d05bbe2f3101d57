-- What contracts see of what was read.
--     wanted_seen           what a query was found to ask for
use Rattle.query_ranges.specs.declared.queries.QueryKeys.{QueryKeys}
use Rattle.query_ranges.specs.declared.queries.QueryKeys.TheVariants as read
use Rattle.query_ranges.specs.Queries.{Wanted, anything, keys_in, no_query}

abbrev pub wanted_seen : QueryKeys → Wanted
wanted_seen read.Anything = anything
wanted_seen (read.Keys range) = keys_in range
wanted_seen read.NoQuery = no_query
