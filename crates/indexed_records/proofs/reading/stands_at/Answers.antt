use Rattle.std.proofs.Common.{◌∙◌, sym, subst}
use Rattle.std.specs.Cmp.{Equal-is}
use Rattle.clone_values.specs.View.{key_tree_of, tree_of}
use Rattle.key_order.proofs.Laws.{key_cmp_same}
use Rattle.store_contents.specs.Contents.{IsRecordAt}
use Rattle.store_contents.specs.View.{records_of}
use Rattle.store_contents.proofs.Laws.{stands_of}
use Rattle.indexed_records.proofs.reading.stands_at.Goals as goal

pub returns-in-Some : goal.returns-in-Some
returns-in-Some g c is =
    let es = g.R.OrderedTable.entries c.args.records.now in
    let key = c.in-Some.found.now in
    let value = c.in-Some.field-0-1.now in
    let same = key_cmp_same (key_tree_of key) (key_tree_of c.args.key.now) ((Equal-is _).0 (sym c.ties.ensures ∙ is)) in
    (tree_of value, subst (λ k. IsRecordAt (records_of es) c.args.place k (tree_of value)) same (stands_of es c.args.place key value (g.met.R.OrderedTable.rises c.args.records.now) (sym c.in-Some.ensures)))
