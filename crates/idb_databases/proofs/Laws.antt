-- What other crates may cite of entries in the order of their names.
--     all_put, all_without, all_found       what holds of each entry
--     read_found, none_found, none_without  what stands at the place of a name, and where no place has it
pub use Rattle.idb_databases.proofs.ByNames.{all_put, all_without, all_found}
pub use Rattle.idb_databases.proofs.Places.{read_found, none_found, none_without}
