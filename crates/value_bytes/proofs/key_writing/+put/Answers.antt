use Rattle.clone_values.specs.KeyTree.{key_trees_of, list_of_keys}
use Rattle.value_bytes.specs.KeySpelling.{keys_spelling}
use Rattle.value_bytes.specs.Spelling.{count_bytes}
use Rattle.value_bytes.proofs.KeyValues.{keys_again}
use Rattle.value_bytes.proofs.Puts.{begun, begins_append}
use Rattle.value_bytes.proofs.key_writing.+put.Goals as goal

pub put_keys-loop-place-init : goal.put_keys-loop-place-init
put_keys-loop-place-init t c =
    let xs = c.args.keys.now in
    let old = c.args.out.now.items in
    let new = c.put_count.new.out.items in
    let put = c.in_ok-put_count.ensures.written in
    record { written = begun old new (keys_spelling (key_trees_of xs)) c.len.result xs (list_of_keys (key_trees_of xs)) put c.len.ensures.count (keys_again xs); front = begins_append old (count_bytes c.len.result) new put }
