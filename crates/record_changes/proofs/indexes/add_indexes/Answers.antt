use Rattle.std.proofs.Common.{◌+◌, drop}
use Rattle.record_changes.proofs.IndexLists.{new_next, stands_next}
use Rattle.record_changes.proofs.indexes.add_indexes.Goals as goal

pub add_index-requires-clause-new_name : goal.add_index-requires-clause-new_name
add_index-requires-clause-new_name g c κs within =
    let indexes = c.args.indexes.now in
    let front = c.loop-place.store.store.info.indexes in
    let behind = drop c.loop-place.place indexes in
    let rest = drop (c.loop-place.place + 1) indexes in
    new_next indexes front rest c.in-Some.index.now (stands_next indexes front behind rest c.in-Some.index.now c.loop-place.invariant.whole c.in-Some.ensures.stands) c.requires.sound
