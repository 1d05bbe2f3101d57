use Rattle.std.proofs.Common.{◌||◌, ◌∙◌, ap}
use Rattle.clone_values.specs.View.{tree_of}
use Rattle.key_paths.specs.Conversion.{key_of}
use Rattle.query_ranges.specs.Queries.{leave_none}
use Rattle.query_ranges.proofs.Refused.{both_refused}
use Rattle.query_ranges.proofs.queries.are_refused.Goals as goal

pub returns : goal.returns
returns c must_say =
    c.leave_none.ensures ∙ ap (λ order. leave_none order (c.args.lower_open || c.args.upper_open)) c.compare_values.ensures
    ∙ both_refused must_say (key_of (tree_of c.args.lower.now)) (key_of (tree_of c.args.upper.now)) c.args.lower_open c.args.upper_open
