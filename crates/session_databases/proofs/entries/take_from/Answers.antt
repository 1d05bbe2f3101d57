use Rattle.std.proofs.Common.{◌∙◌, ap, Some}
use Rattle.item_changes.specs.Items.{name_cmp}
use Rattle.item_changes.proofs.Laws.{names_total}
use Rattle.sorted_table.proofs.Laws.{removed}
use Rattle.idb_databases.proofs.Laws.{read_found, none_found, none_without}
use Rattle.session_databases.proofs.Seen.{sorted_without}
use Rattle.session_databases.proofs.entries.take_from.Goals as goal

pub returns-in-Ok-clause-taken : goal.returns-in-Ok-clause-taken
returns-in-Ok-clause-taken g c =
    ap (λ e. Some e.1) c.remove.ensures.value ∙ read_found name_cmp names_total c.args.items.now.items c.in-Ok.place c.args.name.now c.remove.result (rw c.deref.ensures.value at c.in-Ok.ensures.found)

pub returns-in-Ok-clause-left : goal.returns-in-Ok-clause-left
returns-in-Ok-clause-left g c = c.remove.ensures.items ∙ removed names_total c.args.items.now.items c.in-Ok.place c.args.name.now (rw c.deref.ensures.value at c.in-Ok.ensures.found)

pub returns-in-Err-clause-taken : goal.returns-in-Err-clause-taken
returns-in-Err-clause-taken g c = none_found name_cmp names_total c.args.items.now.items c.in-Err.field-0 c.args.name.now (rw c.deref.ensures.value at c.in-Err.ensures.absent)

pub returns-in-Err-clause-left : goal.returns-in-Err-clause-left
returns-in-Err-clause-left g c = none_without name_cmp names_total c.args.items.now.items c.in-Err.field-0 c.args.name.now (rw c.deref.ensures.value at c.in-Err.ensures.absent)

pub returns-in-Ok-clause-sorted : goal.returns-in-Ok-clause-sorted
returns-in-Ok-clause-sorted g c = sorted_without c.args.items.now.items c.args.name.now _ (c.remove.ensures.items ∙ removed names_total c.args.items.now.items c.in-Ok.place c.args.name.now (rw c.deref.ensures.value at c.in-Ok.ensures.found)) c.requires
