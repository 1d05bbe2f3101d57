use Rattle.std.proofs.Common.{◌≤◌, ◌∙◌, length, arith}
use Rattle.std.proofs.lemmas.List.{drop_all}
use Rattle.clone_values.specs.View.{tree_of}
use Rattle.key_paths.proofs.Extracting.{all_read}
use Rattle.key_paths.proofs.extraction.list_would_extract.Goals as goal

pub returns : goal.returns
returns c =
    let past : length c.args.strings.now ≤ c.loop-place.place = omega arith in
    c.key_or_invalid.ensures ∙ all_read _ _ (tree_of c.args.v.now) c.args.strings.now _ (drop_all _ _ past) c.if-multi.false c.loop-place.invariant
