use Rattle.std.proofs.Common.{◌∙◌, sym, ap, Some, true}
use Rattle.std.specs.Ordering.{is_eq}
use Rattle.clone_values.specs.View.{key_tree_of}
use Rattle.idb_keys.specs.KeyRange.{bound_at}
use Rattle.index_tables.proofs.Meeting.{rows_rise, had, not_had}
use Rattle.index_tables.proofs.searching.has_key.Goals as goal

pub returns-in-Some : goal.returns-in-Some
returns-in-Some g c = sym (had (key_tree_of c.args.key.now) _ _ _ _ (rows_rise (Some (bound_at (key_tree_of c.args.key.now) true)) _) c.find_first.ensures c.in-Some.ensures (c.is_eq.ensures ∙ ap is_eq c.compare.ensures))

pub returns-in-None : goal.returns-in-None
returns-in-None g c = sym (not_had (key_tree_of c.args.key.now) _ _ c.find_first.ensures c.in-None.ensures)
