use Rattle.std.proofs.Common.{Some, ap, arith}
use Rattle.sorted_table.proofs.Laws.{place_within}
use Rattle.live_stores.proofs.Places.{set_shows, set_given, insert_shows, insert_given}
use Rattle.live_stores.proofs.Endings.{given_slots}
use Rattle.live_stores.proofs.giving.put_given.Goals as goal

pub index_mut-requires : goal.index_mut-requires
index_mut-requires g c = omega (arith, place_within c.deref.result.now c.in-Ok.place c.args.name c.in-Ok.ensures.found, c.deref.ensures.len)

pub returns-in-Ok-clause-stores : goal.returns-in-Ok-clause-stores
returns-in-Ok-clause-stores g c = set_shows c.args.items.now.items c.args.name c.in-Ok.place c.index_mut.result.now (given_slots c.args.items.now.items c.requires.given) (rw c.deref.ensures.value at c.in-Ok.ensures.found) c.index_mut.ensures.value c.put_here.new.slot _ (rw c.put_here.ensures (ap Some c.settle.ensures.store))

pub returns-in-Ok-clause-given : goal.returns-in-Ok-clause-given
returns-in-Ok-clause-given g c = set_given c.args.items.now.items c.args.name c.in-Ok.place c.index_mut.result.now (given_slots c.args.items.now.items c.requires.given) (rw c.deref.ensures.value at c.in-Ok.ensures.found) c.index_mut.ensures.value c.put_here.new.slot c.requires.given (rw c.put_here.ensures (rw c.settle.ensures.store c.requires.named, c.settle.ensures.settled))

pub returns-in-Ok-insert-clause-stores : goal.returns-in-Ok-insert-clause-stores
returns-in-Ok-insert-clause-stores g c =
    rw c.in-Ok-insert.ensures.items (insert_shows c.args.items.now.items c.args.name c.in-Err.place c.requires.given.sorted (rw c.deref.ensures.value at c.in-Err.ensures.absent) _ _ (ap Some c.settle.ensures.store))

pub returns-in-Ok-insert-clause-given : goal.returns-in-Ok-insert-clause-given
returns-in-Ok-insert-clause-given g c =
    rw c.in-Ok-insert.ensures.items (insert_given c.args.items.now.items c.args.name c.in-Err.place c.requires.given.sorted (rw c.deref.ensures.value at c.in-Err.ensures.absent) _ c.requires.given (rw c.settle.ensures.store c.requires.named, c.settle.ensures.settled))
