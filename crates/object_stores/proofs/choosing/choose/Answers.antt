use Rattle.std.proofs.Common.{◌≡◌, ℕ, Some, sym, ap, ◌∙◌, subst}
use Rattle.std.specs.Prelude.{option_map, IfOk, Option}
use Rattle.clone_values.specs.View.{key_tree_of, tree_of}
use Rattle.store_contents.specs.Storing.{Entry, entry_by, entry_for, generated}
use Rattle.object_stores.specs.View.{entry_seen}
use Rattle.store_contents.proofs.Laws.{given_fits, found_fits}
use Rattle.object_stores.proofs.choosing.choose.Goals as goal

pub returns-in-Some-clause-value : goal.returns-in-Some-clause-value
returns-in-Some-clause-value c = rw c.in-Some.is (ap (λ (n : ℕ). Some (entry_seen n (c.in-Some.key, c.args.value))) c.note.ensures.value)

pub returns-in-Some-clause-fits : goal.returns-in-Some-clause-fits
returns-in-Some-clause-fits c = given_fits c.args.info.now.path c.args.info.now.auto (tree_of c.args.value) (option_map key_tree_of c.args.key) (key_tree_of c.in-Some.key) (ap (λ o. option_map key_tree_of o) c.in-Some.is) c.requires.can

pub returns-in-Some-2-clause-value : goal.returns-in-Some-2-clause-value
returns-in-Some-2-clause-value c = rw c.in-None.is (ap (λ (n : ℕ). Some (entry_seen n (c.in-Some-2.key, c.args.value))) c.note-in-Some-2.ensures.value ∙ ap (λ o. entry_by c.args.info.now.path c.args.info.now.auto c.args.generator.now (tree_of c.args.value) o) (sym (sym c.in_ok-key-in-None.ensures.key ∙ ap (λ o. option_map key_tree_of o) c.in-Some-2.is)))

pub returns-in-Some-2-clause-fits : goal.returns-in-Some-2-clause-fits
returns-in-Some-2-clause-fits c = let f = rw c.in-Some-2.is at c.in_ok-key-in-None.ensures.fits in found_fits c.args.info.now.path c.args.info.now.auto (tree_of c.args.value) (option_map key_tree_of c.args.key) (key_tree_of c.in-Some-2.key) f.0 f.1 c.requires.can

pub returns-in-None-2-clause-value : goal.returns-in-None-2-clause-value
returns-in-None-2-clause-value c =
    let e : entry_for c.args.info.now.path c.args.info.now.auto c.args.generator.now (tree_of c.args.value) (option_map key_tree_of c.args.key) ≡ generated c.args.info.now.path c.args.generator.now (tree_of c.args.value) = rw c.in-None.is (ap (λ o. entry_by c.args.info.now.path c.args.info.now.auto c.args.generator.now (tree_of c.args.value) o) (sym c.in_ok-key-in-None.ensures.key ∙ ap (λ o. option_map key_tree_of o) c.in-None-2.is)) in
    subst (λ (x : Option Entry). IfOk c.generate.result (λ e. option_map (entry_seen c.generate.new.generator) e ≡ x)) (sym e) c.generate.ensures.value

pub returns-in-None-2-clause-fits : goal.returns-in-None-2-clause-fits
returns-in-None-2-clause-fits c = c.generate.ensures.fits
