use Rattle.std.proofs.Common.{subst}
use Rattle.index_tables.specs.View.{bound_seen}
use Rattle.store_contents.specs.Ends.{IsFirstFrom}
use Rattle.store_contents.specs.Reading.{members_in}
use Rattle.store_contents.proofs.Laws.{members_split}
use Rattle.indexed_records.proofs.records.IndexedRecords.first_from.Goals as goal

pub returns-in-Store : goal.returns-in-Store
returns-in-Store g c =
    subst (λ v. IsFirstFrom (bound_seen c.args.lower c.args.lower_open) (members_in v.info.indexes v.records c.args.over) c.first_record.result) c.self.view_is
    (members_split _ _ c.self.inside.tables.items _ _ c.args.over _ c.self.invariant (rw c.in-Store.is c.first_record.ensures))

pub returns-in-Index : goal.returns-in-Index
returns-in-Index g c =
    subst (λ v. IsFirstFrom (bound_seen c.args.lower c.args.lower_open) (members_in v.info.indexes v.records c.args.over) c.first_row.result) c.self.view_is
    (members_split _ _ c.self.inside.tables.items _ _ c.args.over _ c.self.invariant (rw c.in-Index.is c.first_row.ensures))
