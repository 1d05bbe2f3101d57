use Rattle.std.proofs.Common.{◌≡◌, ◌∙◌, ℕ, suc, ◌<◌, ◌≤◌, ◌+◌, ◌-◌, length, get_or, map, take, drop, slice_get, slice_set, position, Option, Some, None, Bool, true, false, List, [], ◌∷◌, ◌++◌, ap, sym, refl, subst, add-one, arith}
use Rattle.std.specs.List.{position_or_len}
use Rattle.connection_queues.specs.Machine.{comes_before}
use Rattle.name_queues.proofs.Laws.{gap_some, gap_none, at_end}
use Rattle.connection_queues.proofs.admitting.name_gap.Goals as goal

pub returns-in-Some : goal.returns-in-Some
returns-in-Some c =
    let e : c.in-Some.place ≡ position_or_len (comes_before c.args.name.now) c.args.names.now = gap_some (comes_before c.args.name.now) c.args.names.now c.in-Some.place c.in-Some.ensures in
    record { place = e; within = omega (arith, e, at_end (comes_before c.args.name.now) c.args.names.now) }

pub returns-in-None : goal.returns-in-None
returns-in-None c = record { place = gap_none (comes_before c.args.name.now) c.args.names.now c.in-None.ensures; within = omega arith }
