use Rattle.std.proofs.Common.{arith}
use Rattle.clone_values.specs.Falls.{smaller_member, smaller_pair}
use Rattle.clone_values.specs.Tree.{trees_of, members_of, pairs_of, list_of_trees, list_of_members, list_of_pairs}
use Rattle.clone_values.specs.View.{prop_of, pair_of}
use Rattle.clone_values.proofs.Laws.{trees_again, members_again, pairs_again}
use Rattle.value_bytes.specs.Spelling.{count_bytes, items_spelling, members_spelling, pairs_spelling}
use Rattle.value_bytes.proofs.Puts.{begun, begins_append}
use Rattle.value_bytes.proofs.writing.+put.Goals as goal

pub put_props-put_prop-requires : goal.put_props-put_prop-requires
put_props-put_prop-requires t c = let small = smaller_member c.args.props.now c.loop-place.place (prop_of c.in-Some.prop.now) c.in-Some.ensures.stands in (omega arith, tt)

pub put_pairs-put_pair-requires : goal.put_pairs-put_pair-requires
put_pairs-put_pair-requires t c = let small = smaller_pair c.args.pairs.now c.loop-place.place (pair_of c.in-Some.pair.now) c.in-Some.ensures.stands in (omega arith, tt)

pub put_items-loop-place-init : goal.put_items-loop-place-init
put_items-loop-place-init t c =
    let xs = c.args.items.now in
    let old = c.args.out.now.items in
    let new = c.put_count.new.out.items in
    let put = c.in_ok-put_count.ensures.written in
    record { written = begun old new (items_spelling (trees_of xs)) c.len.result xs (list_of_trees (trees_of xs)) put c.len.ensures.count (trees_again xs); front = begins_append old (count_bytes c.len.result) new put }

pub put_props-loop-place-init : goal.put_props-loop-place-init
put_props-loop-place-init t c =
    let xs = c.args.props.now in
    let old = c.args.out.now.items in
    let new = c.put_count.new.out.items in
    let put = c.in_ok-put_count.ensures.written in
    record { written = begun old new (members_spelling (members_of xs)) c.len.result xs (list_of_members (members_of xs)) put c.len.ensures.count (members_again xs); front = begins_append old (count_bytes c.len.result) new put }

pub put_pairs-loop-place-init : goal.put_pairs-loop-place-init
put_pairs-loop-place-init t c =
    let xs = c.args.pairs.now in
    let old = c.args.out.now.items in
    let new = c.put_count.new.out.items in
    let put = c.in_ok-put_count.ensures.written in
    record { written = begun old new (pairs_spelling (pairs_of xs)) c.len.result xs (list_of_pairs (pairs_of xs)) put c.len.ensures.count (pairs_again xs); front = begins_append old (count_bytes c.len.result) new put }
