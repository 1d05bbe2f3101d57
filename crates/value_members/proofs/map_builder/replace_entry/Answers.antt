use Rattle.std.proofs.lemmas.List.{map-set}
use Rattle.clone_values.specs.View.{pair_of}
use Rattle.value_members.proofs.map_builder.replace_entry.Goals as goal

pub returns : goal.returns
returns c = map-set pair_of _ _ _
