use Rattle.std.proofs.Common.{[], map, length, ap, arith}
use Rattle.std.proofs.lemmas.List.{length-map}
use Rattle.clone_values.specs.View.{prop_of}
use Rattle.clone_values.proofs.Sorting.{all_longer}
use Rattle.clone_values.proofs.value_types.Props.from_unsorted.Goals as goal

pub from_vec-requires-clause-within : goal.from_vec-requires-clause-within
from_vec-requires-clause-within c =
    omega (arith, ap length c.in_ok-by_name.ensures, length-map c.in_ok-by_name.field-0.items prop_of, length-map c.args.props.items prop_of, all_longer [] (map prop_of c.args.props.items), c.requires)
