use Rattle.std.proofs.Common.{false, Some, None, ◌∙◌, ap, lit<}
use Rattle.std.proofs.lemmas.Str.Pattern.{split_once_first}
use Rattle.clone_values.specs.View.{tree_of}
use Rattle.clone_values.specs.Names.{get_member}
use Rattle.key_paths.proofs.PathEnds.{no_holder, only_one, goes_on}
use Rattle.key_paths.proofs.injection.+ends_at_holder.Goals as goal

pub returns-in_default : goal.returns-in_default
returns-in_default t c = no_holder _ _ c.in_default.ensures.holder

pub returns-in-None : goal.returns-in-None
returns-in-None t c =
    let cut = rw c.in-None.is at (split_once_first 46 _ _ c.split_once.ensures.cases (lit< tt)) in
    only_one _ _ cut c.in-Some.ensures.holder

pub returns-in-Some-find : goal.returns-in-Some-find
returns-in-Some-find t c =
    let cut = rw c.in-Some-split_once.is at (split_once_first 46 _ _ c.split_once.ensures.cases (lit< tt)) in
    c.ends_at_holder.ensures ∙ goes_on _ _ _ cut.0 cut.1 cut.2 (tree_of c.args.v.now) false (Some (tree_of c.in-Some-find.inner.now)) c.in-Some.ensures.holder c.if-takes_length.ensures
    (c.in-Some-find.ensures ∙ ap (λ ms. get_member ms c.in-Some-split_once.name.now) c.in-Some.ensures.properties)

pub returns-in-None-find : goal.returns-in-None-find
returns-in-None-find t c =
    let cut = rw c.in-Some-split_once.is at (split_once_first 46 _ _ c.split_once.ensures.cases (lit< tt)) in
    goes_on _ _ _ cut.0 cut.1 cut.2 (tree_of c.args.v.now) false None c.in-Some.ensures.holder c.if-takes_length.ensures
    (c.in-None-find.ensures ∙ ap (λ ms. get_member ms c.in-Some-split_once.name.now) c.in-Some.ensures.properties)
