use Rattle.std.proofs.Common.{false, sym, ap, ◌∙◌}
use Rattle.clone_values.specs.View.{tree_of}
use Rattle.key_paths.specs.View.{extract_of}
use Rattle.store_contents.proofs.Laws.{found_key, found_depth}
use Rattle.object_stores.proofs.choosing.key_at.Goals as goal

pub returns-in-One-clause-fits : goal.returns-in-One-clause-fits
returns-in-One-clause-fits c =
    let path = c.args.path.now in
    let value = tree_of c.args.value.now in
    let is = sym (ap extract_of c.in-One.is) ∙ c.in_ok-key.ensures.keys in
    (found_key path value _ (c.extraction_laws.ensures.keys path false value c.spec-spec.ensures.valid c.requires) is, found_depth c.conversion_laws.ensures.shallow path value _ is)
