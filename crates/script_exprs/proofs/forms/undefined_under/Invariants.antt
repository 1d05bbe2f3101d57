use Rattle.std.proofs.Common.{◌≡◌, take, map}
use Rattle.clone_values.specs.Tree.{undefined}
use Rattle.clone_values.specs.View.{prop_of}
use Rattle.script_exprs.proofs.forms.undefined_under.Given as goal

abbrev pub invariant-loop-name : goal.invariant-loop-name
invariant-loop-name l = map prop_of l.props.items ≡ map (λ n. (n, undefined)) (take l.name-index l.names)
