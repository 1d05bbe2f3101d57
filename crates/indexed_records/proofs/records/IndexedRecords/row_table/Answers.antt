use Rattle.std.proofs.Common.{◌∙◌, sym, refl, ap}
use Rattle.std.specs.FinMap as finite
use Rattle.idb_keys.specs.declared.names.Over.TheVariants.{Index}
use Rattle.store_contents.specs.Reading.{members_in}
use Rattle.store_contents.proofs.Laws.{shown_is_members, shown_table, shown_none}
use Rattle.indexed_records.proofs.records.IndexedRecords.row_table.Goals as goal

pub returns-in-Some-clause-rows : goal.returns-in-Some-clause-rows
returns-in-Some-clause-rows g c =
    c.table.ensures ∙ sym (shown_table finite.empty _ (Index c.args.place) c.args.place _ refl c.in-Some.ensures)
    ∙ shown_is_members _ _ _ _ (Index c.args.place) c.self.invariant
    ∙ ap (λ v. members_in v.info.indexes v.records (Index c.args.place)) c.self.view_is

pub returns-in-None-clause-none : goal.returns-in-None-clause-none
returns-in-None-clause-none g c =
    sym (ap (λ v. members_in v.info.indexes v.records (Index c.args.place)) c.self.view_is)
    ∙ sym (shown_is_members _ _ _ _ (Index c.args.place) c.self.invariant)
    ∙ shown_none finite.empty _ (Index c.args.place) c.args.place refl c.in-None.ensures
