use Rattle.std.proofs.Common.{◌≡◌, drop}
use Rattle.std.specs.List.{list_all}
use Rattle.idb_databases.specs.Items.{fits_stores}
use Rattle.idb_databases.specs.Views.{database_alone}
use Rattle.idb_databases.proofs.databases.stores_fit.Given as goal

-- those that are left decide
abbrev pub invariant-loop-entry : goal.invariant-loop-entry
invariant-loop-entry g l = list_all (λ e. fits_stores (database_alone e.1)) (drop l.entry-index l.items) ≡ list_all (λ e. fits_stores (database_alone e.1)) l.items
