use Rattle.std.proofs.Common.{Some, None, ◌∙◌, lit<}
use Rattle.std.proofs.lemmas.Str.Pattern.{split_once_first}
use Rattle.clone_values.specs.View.{tree_of}
use Rattle.key_paths.proofs.Walks.{one_step, more_steps, length_step}
use Rattle.key_paths.proofs.evaluation.+walk.Goals as goal

pub returns-in-None : goal.returns-in-None
returns-in-None t c =
    let cut = rw c.in-None.is at (split_once_first 46 _ _ c.split_once.ensures.cases (lit< tt)) in
    c.step.ensures ∙ one_step _ _ cut

pub returns-then-takes_length : goal.returns-then-takes_length
returns-then-takes_length t c =
    let cut = rw c.in-Some.is at (split_once_first 46 _ _ c.split_once.ensures.cases (lit< tt)) in
    length_step _ _ _ cut.0 cut.1 cut.2 _ c.if-takes_length.ensures

pub returns-in-Some-property : goal.returns-in-Some-property
returns-in-Some-property t c =
    let cut = rw c.in-Some.is at (split_once_first 46 _ _ c.split_once.ensures.cases (lit< tt)) in
    c.walk.ensures ∙ more_steps _ _ _ cut.0 cut.1 cut.2 _ (Some (tree_of c.in-Some-property.inner.now)) c.if-takes_length.ensures c.in-Some-property.ensures

pub returns-in-None-property : goal.returns-in-None-property
returns-in-None-property t c =
    let cut = rw c.in-Some.is at (split_once_first 46 _ _ c.split_once.ensures.cases (lit< tt)) in
    more_steps _ _ _ cut.0 cut.1 cut.2 _ None c.if-takes_length.ensures c.in-None-property.ensures
