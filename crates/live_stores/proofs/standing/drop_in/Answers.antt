use Rattle.std.proofs.Common.{◌∙◌, arith}
use Rattle.std.proofs.lemmas.List.{length-set}
use Rattle.sorted_table.proofs.Laws.{place_within}
use Rattle.live_stores.proofs.Places.{named_here, set_keeps_before, set_hides, set_slots, none_here, remove_none}
use Rattle.live_stores.proofs.standing.drop_in.Goals as goal

pub index_mut-requires : goal.index_mut-requires
index_mut-requires g c =
    omega (arith, place_within c.args.items.now.items c.in-Ok.place c.args.name.now (rw c.deref.ensures.value at c.in-Ok.ensures.found))

pub free_if_vacant-requires-clause-slots : goal.free_if_vacant-requires-clause-slots
free_if_vacant-requires-clause-slots g c κs within =
    set_slots c.args.items.now.items c.args.name.now c.in-Ok.place c.index_mut.result.now c.requires (rw c.deref.ensures.value at c.in-Ok.ensures.found) c.index_mut.ensures.value c.drop_here.new.slot (rw c.drop_here.ensures.here tt, rw c.drop_here.ensures.before (named_here c.args.items.now.items c.args.name.now c.in-Ok.place c.index_mut.result.now c.requires (rw c.deref.ensures.value at c.in-Ok.ensures.found) c.index_mut.ensures.value).1)

pub free_if_vacant-requires-clause-within : goal.free_if_vacant-requires-clause-within
free_if_vacant-requires-clause-within g c κs within =
    omega (arith, place_within c.args.items.now.items c.in-Ok.place c.args.name.now (rw c.deref.ensures.value at c.in-Ok.ensures.found), length-set c.args.items.now.items c.in-Ok.place (c.index_mut.result.now.0, c.drop_here.new.slot))

pub returns-in-Ok-clause-dropped : goal.returns-in-Ok-clause-dropped
returns-in-Ok-clause-dropped g c = c.free_if_vacant.ensures.here ∙ set_hides c.args.items.now.items c.args.name.now c.in-Ok.place c.index_mut.result.now c.requires (rw c.deref.ensures.value at c.in-Ok.ensures.found) c.index_mut.ensures.value c.drop_here.new.slot c.drop_here.ensures.here

pub returns-in-Ok-clause-before : goal.returns-in-Ok-clause-before
returns-in-Ok-clause-before g c = c.free_if_vacant.ensures.before ∙ set_keeps_before c.args.items.now.items c.args.name.now c.in-Ok.place c.index_mut.result.now c.requires (rw c.deref.ensures.value at c.in-Ok.ensures.found) c.index_mut.ensures.value c.drop_here.new.slot c.drop_here.ensures.before

pub returns-in-Err-clause-dropped : goal.returns-in-Err-clause-dropped
returns-in-Err-clause-dropped g c =
    remove_none _ c.args.name.now (none_here c.args.items.now.items c.args.name.now c.in-Err.field-0 c.requires.sorted (rw c.deref.ensures.value at c.in-Err.ensures.absent))
