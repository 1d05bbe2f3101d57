use Rattle.item_changes.specs.Items.{name_cmp}
use Rattle.item_changes.proofs.Laws.{names_total}
use Rattle.idb_databases.proofs.Places.{read_found, none_found}
use Rattle.idb_databases.proofs.named.find_in.Goals as goal

pub returns-in-Ok : goal.returns-in-Ok
returns-in-Ok g c = read_found name_cmp names_total c.args.items.now c.in-Ok.place c.args.name.now c.index-items-place.result c.in-Ok.ensures.found

pub returns-in-Err : goal.returns-in-Err
returns-in-Err g c = none_found name_cmp names_total c.args.items.now c.in-Err.field-0 c.args.name.now c.in-Err.ensures.absent
