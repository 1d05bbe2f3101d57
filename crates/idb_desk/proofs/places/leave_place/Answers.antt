use Rattle.std.proofs.Common.{sym}
use Rattle.name_queues.proofs.Laws.{IsPlace, place_in, nowhere_in}
use Rattle.desk_steps.specs.Numbers.{is_placed_name}
use Rattle.desk_steps.specs.Steps.{place_left}
use Rattle.idb_desk.proofs.places.leave_place.Goals as goal

pub returns-in-Some : goal.returns-in-Some
returns-in-Some c =
    let there : IsPlace (is_placed_name c.args.name.now) c.args.places.now.items c.in-Some.place c.index_mut-p.result.now = place_in (is_placed_name c.args.name.now) c.args.places.now.items c.deref.result.now c.in-Some.place c.index_mut-p.result.now c.deref.ensures.value c.in-Some.ensures c.index_mut-p.ensures.value in
    rw c.leave_one.ensures (sym (there.changed (place_left c.args.kind c.args.committed)))

pub returns-in_default : goal.returns-in_default
returns-in_default c = sym ((nowhere_in (is_placed_name c.args.name.now) c.args.places.now.items c.deref.result.now c.deref.ensures.value c.in_default.ensures).changed (place_left c.args.kind c.args.committed))
