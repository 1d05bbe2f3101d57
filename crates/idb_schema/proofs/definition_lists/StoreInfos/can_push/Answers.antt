use Rattle.std.proofs.Common.{sym}
use Rattle.idb_schema.proofs.Pushes.{pushes}
use Rattle.idb_schema.proofs.definition_lists.StoreInfos.can_push.Goals as goal

pub returns-in-Some : goal.returns-in-Some
returns-in-Some c =
    let item = rw c.deref.ensures.value at c.in-Some.ensures.item in
    let rises = pushes c.self.inside.items.items c.in-Some.last.now c.args.name.now c.self.invariant item.3.0 item.1 in
    rw (c.lt.ensures, c.as_str.ensures.value, c.as_str-in-Some.ensures.value, ← c.self.view_is) (sym rises)
