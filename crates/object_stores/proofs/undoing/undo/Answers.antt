use Rattle.object_stores.proofs.undoing.undo.Goals as goal

pub undo_added-requires : goal.undo_added-requires
undo_added-requires g c = (c.type_bounds.send-T-Records, (c.type_bounds.send-T-Rows, (c.type_bounds.sync-T-Records, (c.type_bounds.sync-T-Rows, rw c.in-Added.is at c.requires))))

pub returns-in-Added-clause-content : goal.returns-in-Added-clause-content
returns-in-Added-clause-content g c = rw c.in-Added.is c.undo_added.ensures.content

pub undo_removed-requires : goal.undo_removed-requires
undo_removed-requires g c = (c.type_bounds.send-T-Records, (c.type_bounds.send-T-Rows, (c.type_bounds.sync-T-Records, (c.type_bounds.sync-T-Rows, rw c.in-Removed.is at c.requires))))

pub returns-in-Removed-clause-content : goal.returns-in-Removed-clause-content
returns-in-Removed-clause-content g c = rw c.in-Removed.is c.undo_removed.ensures.content

pub undo_replaced-requires : goal.undo_replaced-requires
undo_replaced-requires g c = (c.type_bounds.send-T-Records, (c.type_bounds.send-T-Rows, (c.type_bounds.sync-T-Records, (c.type_bounds.sync-T-Rows, rw c.in-Replaced.is at c.requires))))

pub returns-in-Replaced-clause-content : goal.returns-in-Replaced-clause-content
returns-in-Replaced-clause-content g c = rw c.in-Replaced.is c.undo_replaced.ensures.content

pub undo_revalued-requires : goal.undo_revalued-requires
undo_revalued-requires g c = (c.type_bounds.send-T-Records, (c.type_bounds.send-T-Rows, (c.type_bounds.sync-T-Records, (c.type_bounds.sync-T-Rows, rw c.in-Revalued.is at c.requires))))

pub returns-in-Revalued-clause-content : goal.returns-in-Revalued-clause-content
returns-in-Revalued-clause-content g c = rw c.in-Revalued.is c.undo_revalued.ensures.content

pub undo_cleared-requires : goal.undo_cleared-requires
undo_cleared-requires g c = (c.type_bounds.send-T-Records, (c.type_bounds.send-T-Rows, (c.type_bounds.sync-T-Records, (c.type_bounds.sync-T-Rows, rw c.in-Cleared.is at c.requires))))

pub returns-in-Cleared-clause-content : goal.returns-in-Cleared-clause-content
returns-in-Cleared-clause-content g c = rw c.in-Cleared.is c.undo_cleared.ensures.content

pub undo_index_added-requires : goal.undo_index_added-requires
undo_index_added-requires g c = (c.type_bounds.send-T-Records, (c.type_bounds.send-T-Rows, (c.type_bounds.sync-T-Records, (c.type_bounds.sync-T-Rows, rw c.in-IndexAdded.is at c.requires))))

pub returns-in-IndexAdded-clause-content : goal.returns-in-IndexAdded-clause-content
returns-in-IndexAdded-clause-content g c = rw c.in-IndexAdded.is c.undo_index_added.ensures.content

pub undo_index_dropped-requires : goal.undo_index_dropped-requires
undo_index_dropped-requires g c = (c.type_bounds.send-T-Records, (c.type_bounds.send-T-Rows, (c.type_bounds.sync-T-Records, (c.type_bounds.sync-T-Rows, rw c.in-IndexDropped.is at c.requires))))

pub returns-in-IndexDropped-clause-content : goal.returns-in-IndexDropped-clause-content
returns-in-IndexDropped-clause-content g c = rw c.in-IndexDropped.is c.undo_index_dropped.ensures.content
