use Rattle.std.proofs.Common.{◌∙◌, ap, arith}
use Rattle.std.specs.FinMap as finite
use Rattle.clone_values.specs.View.{tree_of}
use Rattle.store_contents.specs.View.{records_of}
use Rattle.store_contents.proofs.Laws.{count_of, entry_at, of_value, value_at_place}
use Rattle.indexed_records.proofs.keyed.replace_record.Goals as goal

pub replace-requires : goal.replace-requires
replace-requires g c = omega (arith, c.requires, count_of (g.R.OrderedTable.entries c.args.records.now) (g.met.R.OrderedTable.rises c.args.records.now))

pub returns-clause-given : goal.returns-clause-given
returns-clause-given g c k v at =
    let e = entry_at _ c.args.place k v (g.met.R.OrderedTable.rises c.args.records.now) at in
    ap tree_of (value_at_place _ c.args.place e.0.0 e.0.1 c.replace.result e.1 c.replace.ensures.given) ∙ e.3

pub returns-clause-records : goal.returns-clause-records
returns-clause-records g c k v at =
    let e = entry_at _ c.args.place k v (g.met.R.OrderedTable.rises c.args.records.now) at in
    ap records_of c.replace.ensures.entries ∙ of_value _ c.args.place e.0.0 e.0.1 c.args.value (g.met.R.OrderedTable.rises c.args.records.now) e.1
    ∙ ap (λ k. finite.insert (records_of (g.R.OrderedTable.entries c.args.records.now)) k (tree_of c.args.value)) e.2
