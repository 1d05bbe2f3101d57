use Rattle.std.proofs.Common.{◌∙◌, sym, ap, not}
use Rattle.clone_values.specs.View.{key_tree_of}
use Rattle.index_tables.specs.View.{row_of}
use Rattle.indexed_records.proofs.ClashLaws.{other_seen, other_none, is_true, is_false}
use Rattle.indexed_records.proofs.clashing.has_another.Goals as goal

pub returns-then-ties : goal.returns-then-ties
returns-then-ties g c =
    ap not c.ties-then-ties.ensures ∙ sym (is_true _ _ (sym c.ties.ensures ∙ c.if-ties.true))
    ∙ sym (other_seen c.args.table.now.rows c.requires (key_tree_of c.args.key.now) (key_tree_of c.args.primary.now) _ c.find_first.ensures.place (row_of c.in-Some.row.now) c.in-Some.ensures)

pub returns-else-ties : goal.returns-else-ties
returns-else-ties g c =
    c.if-ties.false ∙ sym (is_false _ _ (sym c.ties.ensures ∙ c.if-ties.false))
    ∙ sym (other_seen c.args.table.now.rows c.requires (key_tree_of c.args.key.now) (key_tree_of c.args.primary.now) _ c.find_first.ensures.place (row_of c.in-Some.row.now) c.in-Some.ensures)

pub returns-in-None : goal.returns-in-None
returns-in-None g c = sym (other_none c.args.table.now.rows c.requires (key_tree_of c.args.key.now) (key_tree_of c.args.primary.now) _ c.find_first.ensures.place c.in-None.ensures)
