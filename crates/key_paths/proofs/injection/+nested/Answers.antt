use Rattle.std.proofs.Common.{◌≡◌, IfOk, sym, ◌∙◌, ap, subst, lit<}
use Rattle.std.proofs.lemmas.Str.Pattern.{split_once_first}
use Rattle.clone_values.specs.Tree.{object, no_members, member_more}
use Rattle.clone_values.specs.View.{tree_of}
use Rattle.path_grammar.proofs.Laws.{one_part}
use Rattle.key_paths.specs.Injection.{placed}
use Rattle.key_paths.proofs.Walks.{cut_parts}
use Rattle.key_paths.proofs.injection.+nested.Goals as goal

pub returns-in-None : goal.returns-in-None
returns-in-None t c =
    let cut = rw c.in-None.is at (split_once_first 46 _ _ c.split_once.ensures.cases (lit< tt)) in
    subst (λ p. IfOk c.object_of.result (λ r. tree_of r ≡ p)) (ap (λ ps. placed ps (object no_members) (tree_of c.args.value)) (sym (one_part _ cut))) c.object_of.ensures

pub returns-in_ok-inner-in-Some : goal.returns-in_ok-inner-in-Some
returns-in_ok-inner-in-Some t c =
    let cut = rw c.in-Some.is at (split_once_first 46 _ _ c.split_once.ensures.cases (lit< tt)) in
    subst (λ p. IfOk c.object_of-in-Some.result (λ r. tree_of r ≡ p))
    (ap (λ u. object (member_more c.in-Some.name.now u no_members)) c.in_ok-inner-in-Some.ensures ∙ ap (λ ps. placed ps (object no_members) (tree_of c.args.value)) (sym (cut_parts _ _ _ cut.0 cut.1 cut.2)))
    c.object_of-in-Some.ensures
