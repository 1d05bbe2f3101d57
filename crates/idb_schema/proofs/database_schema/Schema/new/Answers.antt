use Rattle.std.proofs.Common.{◌≡◌, length, arith, refl, ap, ◌∙◌}
use Rattle.idb_schema.specs.Schemas.{entries_from}
use Rattle.idb_schema.proofs.EntryLaws.{length-entries_from, numbered_entries}
use Rattle.idb_schema.proofs.database_schema.Schema.new.Goals as goal

pub invariant_of-result : goal.invariant_of-result
invariant_of-result c =
    let entries : c.in_ok-entries.entries.items ≡ entries_from 0 c.args.stores = c.in_ok-entries.ensures ∙ ap (entries_from 0) c.into_vec.ensures.value in
    let count : c.len-next_id.result ≡ length c.args.stores = omega (arith, c.len-next_id.ensures, ap length entries, length-entries_from 0 c.args.stores) in
    rw (entries, count) (numbered_entries c.args.stores c.into_vec.ensures.rising)

pub returns : goal.returns
returns c =
    let entries : c.in_ok-entries.entries.items ≡ entries_from 0 c.args.stores = c.in_ok-entries.ensures ∙ ap (entries_from 0) c.into_vec.ensures.value in
    let count : c.len-next_id.result ≡ length c.args.stores = omega (arith, c.len-next_id.ensures, ap length entries, length-entries_from 0 c.args.stores) in
    rw (entries, count) refl
