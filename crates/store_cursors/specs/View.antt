-- What contracts see of a member that is lent.
--     member_seen           its key and primary key, and its value
use Rattle.clone_values.specs.Tree.{Tree}
use Rattle.clone_values.specs.View.{key_tree_of, tree_of}
use Rattle.index_tables.specs.Rows.{RowTree}
use Rattle.store_cursors.specs.declared.shown.Member.{Member}

abbrev pub member_seen : Member → RowTree × Tree
member_seen member = ((key_tree_of member.key.now, key_tree_of member.primary.now), tree_of member.value.now)
