use Rattle.std.specs.Prelude.{option_map}
use Rattle.clone_values.specs.View.{tree_of, key_tree_of}
use Rattle.entry_runs.proofs.Keys.{put_formed}
use Rattle.entry_runs.proofs.storing.store_value.Goals as goal

pub returns-in-Ok-clause-formed : goal.returns-in-Ok-clause-formed
returns-in-Ok-clause-formed g c =
    put_formed c.args.course.now c.put_record.new.self c.in-Some.names (tree_of c.in_ok-value.value) (option_map key_tree_of c.args.key) c.args.add (tree_of c.in-Ok.answer) c.store-sound.result c.in-Ok.ensures.stored c.store-sound.ensures.store c.store-sound.ensures.named
