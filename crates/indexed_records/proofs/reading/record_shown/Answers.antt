use Rattle.std.proofs.Common.{[], ◌∙◌, ap}
use Rattle.std.specs.Prelude.{option_map}
use Rattle.clone_values.specs.declared.key_types.Key.{Key}
use Rattle.clone_values.specs.declared.value_types.Value.{Value}
use Rattle.clone_values.specs.View.{key_tree_of}
use Rattle.store_contents.proofs.Laws.{shown_get}
use Rattle.indexed_records.proofs.reading.record_shown.Goals as goal

pub returns-in-Some : goal.returns-in-Some
returns-in-Some g c = ap (option_map (λ (e : Key × Value). (key_tree_of e.0, key_tree_of e.0))) c.in-Some.ensures ∙ shown_get _ [] c.args.place (g.met.R.OrderedTable.rises c.args.records.now)

pub returns-in-None : goal.returns-in-None
returns-in-None g c = ap (option_map (λ (e : Key × Value). (key_tree_of e.0, key_tree_of e.0))) c.in-None.ensures ∙ shown_get _ [] c.args.place (g.met.R.OrderedTable.rises c.args.records.now)
