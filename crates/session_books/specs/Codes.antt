-- A code of databases as plain data.
--     items_code            by which a proof tells two of them apart
use Rattle.std.specs.Coded.{Coded, codes}
use Rattle.std.specs.FinMap as finite
use Rattle.indexed_records.specs.Contents.{records_code}
use Rattle.item_changes.specs.Items.{Items}
use Rattle.idb_databases.specs.Named.{names_code}
use Rattle.idb_databases.specs.Items.{database_code}

pub items_code : Coded Items
items_code = finite.code names_code (database_code (hlevel (codes, records_code)))
