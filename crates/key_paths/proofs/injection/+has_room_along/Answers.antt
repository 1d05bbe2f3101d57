use Rattle.std.proofs.Common.{nat_lt, [], Some, None, ◌∙◌, ap, lit<}
use Rattle.std.proofs.lemmas.Str.Pattern.{split_once_first}
use Rattle.clone_values.specs.View.{tree_of}
use Rattle.path_grammar.specs.KeyPath.{parts_of}
use Rattle.path_grammar.proofs.Laws.{one_part}
use Rattle.key_paths.proofs.Walks.{cut_parts}
use Rattle.key_paths.proofs.PathEnds.{no_properties, room_step}
use Rattle.key_paths.proofs.injection.+has_room_along.Goals as goal

pub returns-in_default : goal.returns-in_default
returns-in_default t c = no_properties c.args.s.now _ c.in_default.ensures.none

pub returns-in-Some-find : goal.returns-in-Some-find
returns-in-Some-find t c =
    let cut = rw c.in-None.is at (split_once_first 46 _ _ c.split_once.ensures.cases (lit< tt)) in
    room_step c.args.s.now c.args.s.now [] (tree_of c.args.v.now) c.in-Some.props.now (Some (tree_of c.in-Some-find.field-0.now)) (one_part _ cut) c.in-Some.ensures.properties c.in-Some-find.ensures

pub returns-in-None-find : goal.returns-in-None-find
returns-in-None-find t c =
    let cut = rw c.in-None.is at (split_once_first 46 _ _ c.split_once.ensures.cases (lit< tt)) in
    ap (λ n. nat_lt n 4294967295) c.len.ensures.count ∙ room_step c.args.s.now c.args.s.now [] (tree_of c.args.v.now) c.in-Some.props.now None (one_part _ cut) c.in-Some.ensures.properties c.in-None-find.ensures

pub returns-in-Some-find-2 : goal.returns-in-Some-find-2
returns-in-Some-find-2 t c =
    let cut = rw c.in-Some-split_once.is at (split_once_first 46 _ _ c.split_once.ensures.cases (lit< tt)) in
    c.has_room_along.ensures ∙ room_step c.args.s.now c.in-Some-split_once.name.now (parts_of c.in-Some-split_once.more.now) (tree_of c.args.v.now) c.in-Some.props.now (Some (tree_of c.in-Some-find-2.inner.now))
    (cut_parts _ _ _ cut.0 cut.1 cut.2) c.in-Some.ensures.properties c.in-Some-find-2.ensures

pub returns-in-None-find-2 : goal.returns-in-None-find-2
returns-in-None-find-2 t c =
    let cut = rw c.in-Some-split_once.is at (split_once_first 46 _ _ c.split_once.ensures.cases (lit< tt)) in
    ap (λ n. nat_lt n 4294967295) c.len-in-None-find-2.ensures.count
    ∙ room_step c.args.s.now c.in-Some-split_once.name.now (parts_of c.in-Some-split_once.more.now) (tree_of c.args.v.now) c.in-Some.props.now None (cut_parts _ _ _ cut.0 cut.1 cut.2) c.in-Some.ensures.properties c.in-None-find-2.ensures
