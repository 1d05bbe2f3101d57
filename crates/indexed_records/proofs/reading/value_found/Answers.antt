use Rattle.std.proofs.Common.{◌∙◌, sym, ap, Some}
use Rattle.clone_values.specs.View.{tree_of}
use Rattle.store_contents.proofs.Laws.{stands, lacks, same_value}
use Rattle.indexed_records.proofs.reading.value_found.Goals as goal

pub returns-in-Some : goal.returns-in-Some
returns-in-Some g c =
    let at = c.in-Ok.ensures.found in
    ap (λ v. Some (tree_of v)) (same_value _ c.in-Ok.place _ _ c.args.key.now at.value c.in-Some.ensures at.stands)
    ∙ sym (stands _ c.in-Ok.place c.args.key.now (g.met.R.OrderedTable.rises c.args.records.now) at).found

pub returns-in-Err : goal.returns-in-Err
returns-in-Err g c = sym (lacks _ _ c.args.key.now (g.met.R.OrderedTable.rises c.args.records.now) c.in-Err.ensures.absent)
