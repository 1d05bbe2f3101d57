use Rattle.std.proofs.Common.{◌≡◌, true, None, sym, ◌∙◌, ap, subst}
use Rattle.std.proofs.lemmas.Result.{on_ok_weaker}
use Rattle.clone_values.specs.View.{tree_of, key_tree_of}
use Rattle.clone_values.specs.declared.path_types.PathSpec.TheVariants.{One}
use Rattle.path_grammar.specs.KeyPath.{parts_of}
use Rattle.key_paths.specs.Evaluation.{evaluated}
use Rattle.key_paths.specs.Injection.{can_inject, placed}
use Rattle.key_paths.proofs.FoundAgain.{string_found}
use Rattle.key_paths.proofs.injection.inject.Goals as goal

pub returns-clause-found : goal.returns-clause-found
returns-clause-found c =
    let s = c.as_str.result.now in
    let old = tree_of c.args.v.now in
    let is_one : c.args.path.now ≡ One s = sym c.spec.ensures.value ∙ c.in-One.is ∙ ap One (sym c.as_str.ensures.value) in
    let again = string_found s old (key_tree_of c.args.key.now) (subst (λ p. can_inject p old ≡ true) is_one c.requires.possible) (subst (λ p. evaluated p old ≡ None) is_one c.requires.absent) in
    on_ok_weaker c.place.result (λ h. ap (λ p. evaluated p (tree_of c.place.new.v)) is_one ∙ ap (evaluated (One s)) (h ∙ ap (placed (parts_of s) old) c.in_ok-value-in-One.ensures) ∙ again) c.place.ensures.placed
