use Rattle.std.proofs.Common.{◌∙◌, sym}
use Rattle.item_changes.proofs.Laws.{names_total}
use Rattle.sorted_table.proofs.Laws.{put_at, set_value, value_put, place_within}
use Rattle.session_databases.proofs.Seen.{sorted_put}
use Rattle.session_databases.proofs.entries.put_in.Goals as goal

pub returns-in-Ok-clause-stored : goal.returns-in-Ok-clause-stored
returns-in-Ok-clause-stored g c =
    let stands = rw c.deref.ensures.value at c.in-Ok.ensures.found in
    set_value c.args.items.now.items c.in-Ok.place c.index_mut.result.now c.args.item (place_within c.args.items.now.items c.in-Ok.place c.args.name stands) c.index_mut.ensures.value
    ∙ value_put names_total c.args.items.now.items c.in-Ok.place c.args.name c.args.item stands

pub returns-in-Ok-clause-sorted : goal.returns-in-Ok-clause-sorted
returns-in-Ok-clause-sorted g c =
    let stands = rw c.deref.ensures.value at c.in-Ok.ensures.found in
    sorted_put c.args.items.now.items c.args.name c.args.item _
    (set_value c.args.items.now.items c.in-Ok.place c.index_mut.result.now c.args.item (place_within c.args.items.now.items c.in-Ok.place c.args.name stands) c.index_mut.ensures.value
    ∙ value_put names_total c.args.items.now.items c.in-Ok.place c.args.name c.args.item stands)
    c.requires

pub returns-in_ok-insert-in-Err-clause-stored : goal.returns-in_ok-insert-in-Err-clause-stored
returns-in_ok-insert-in-Err-clause-stored g c =
    c.in_ok-insert-in-Err.ensures.items ∙ sym (put_at names_total c.args.items.now.items c.in-Err.place c.args.name c.args.item (rw c.deref.ensures.value at c.in-Err.ensures.absent))

pub returns-in_ok-insert-in-Err-clause-sorted : goal.returns-in_ok-insert-in-Err-clause-sorted
returns-in_ok-insert-in-Err-clause-sorted g c = sorted_put c.args.items.now.items c.args.name c.args.item _
    (c.in_ok-insert-in-Err.ensures.items ∙ sym (put_at names_total c.args.items.now.items c.in-Err.place c.args.name c.args.item (rw c.deref.ensures.value at c.in-Err.ensures.absent)))
    c.requires
