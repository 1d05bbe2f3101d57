use Rattle.std.proofs.Common.{[], if◌then◌else◌, ap}
use Rattle.item_changes.specs.Effects.{applied_all}
use Rattle.serial_order.proofs.Leaving.{kept_within}
use Rattle.serial_order.proofs.Ordering.{serial_by_number, serial_from_number, items_of_committed}
use Rattle.serial_order.proofs.Numbers.{number_same, number_rises}
use Rattle.serial_order.proofs.laws_of_order.serial_laws.Goals as goal

pub returns-clause-by_number : goal.returns-clause-by_number
returns-clause-by_number g c items finish order s = (serial_by_number g.H.Handler.reacts g.H.Handler.writes c.scope_laws.ensures.either_way items finish order s).0

pub returns-clause-from_number : goal.returns-clause-from_number
returns-clause-from_number g c items finish order s = serial_from_number g.H.Handler.reacts g.H.Handler.writes c.scope_laws.ensures.either_way items finish order s

pub returns-clause-same_items : goal.returns-clause-same_items
returns-clause-same_items g c items finish order s = (serial_by_number g.H.Handler.reacts g.H.Handler.writes c.scope_laws.ensures.either_way items finish order s).1

pub returns-clause-committed : goal.returns-clause-committed
returns-clause-committed g c items finish = items_of_committed items finish

pub returns-clause-nothing_left : goal.returns-clause-nothing_left
returns-clause-nothing_left g c items e not_so = ap (λ b. applied_all items (if b then e.changes else [])) not_so

pub returns-clause-within : goal.returns-clause-within
returns-clause-within g c items e r = kept_within g.H.Handler.reacts g.H.Handler.writes items e r

pub returns-clause-same_entries : goal.returns-clause-same_entries
returns-clause-same_entries g c finish = number_same finish

pub returns-clause-rises : goal.returns-clause-rises
returns-clause-rises g c finish = number_rises finish
