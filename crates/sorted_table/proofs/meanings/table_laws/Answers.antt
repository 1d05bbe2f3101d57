use Rattle.std.proofs.Common.{◌∙◌, sym, ap}
use Rattle.std.specs.Prelude.{option_map}
use Rattle.std.specs.FinMap.{entries-insert}
use Rattle.std.specs.FinMap.Entries.{is_sorted-put}
use Rattle.sorted_table.proofs.Laws as laws
use Rattle.sorted_table.proofs.meanings.table_laws.Goals as goal

pub returns-clause-own_key : goal.returns-clause-own_key
returns-clause-own_key g c = laws.stands g.met.K.Ordered.total

pub returns-clause-one_place : goal.returns-clause-one_place
returns-clause-one_place g c = laws.one_place g.met.K.Ordered.total

pub returns-clause-one_gap : goal.returns-clause-one_gap
returns-clause-one_gap g c = laws.one_gap g.met.K.Ordered.total

pub returns-clause-never_both : goal.returns-clause-never_both
returns-clause-never_both g c = laws.has_not_belongs g.met.K.Ordered.total

pub returns-clause-found : goal.returns-clause-found
returns-clause-found g c = laws.found_of g.met.K.Ordered.total

pub returns-clause-absent : goal.returns-clause-absent
returns-clause-absent g c = laws.absent g.met.K.Ordered.total

pub returns-clause-put_inserts : goal.returns-clause-put_inserts
returns-clause-put_inserts g c = laws.put_at g.met.K.Ordered.total

pub returns-clause-remove_leaves : goal.returns-clause-remove_leaves
returns-clause-remove_leaves g c = laws.removed g.met.K.Ordered.total

pub returns-clause-put_sorted : goal.returns-clause-put_sorted
returns-clause-put_sorted g c es k v h = is_sorted-put g.K.Ordered.order g.met.K.Ordered.total k v es h

pub returns-clause-remove_sorted : goal.returns-clause-remove_sorted
returns-clause-remove_sorted g c = laws.sorted_remove g.K.Ordered.order

pub returns-clause-within : goal.returns-clause-within
returns-clause-within g c = laws.place_within

pub returns-clause-map_put : goal.returns-clause-map_put
returns-clause-map_put g c = entries-insert g.met.K.Ordered.total

pub returns-clause-map_remove : goal.returns-clause-map_remove
returns-clause-map_remove g c = laws.entries_remove g.met.K.Ordered.total g.met.K.Ordered.same

pub returns-clause-never_lacks : goal.returns-clause-never_lacks
returns-clause-never_lacks g c = laws.has_not_lacks g.met.K.Ordered.total

pub returns-clause-found_there : goal.returns-clause-found_there
returns-clause-found_there g c es i k h = laws.found g.met.K.Ordered.total es i k h ∙ sym (ap (option_map (λ e. e.1)) h.stands)

pub returns-clause-put_changes : goal.returns-clause-put_changes
returns-clause-put_changes g c es i k v h = sym (laws.value_put g.met.K.Ordered.total es i k v h)

pub returns-clause-at_the_end : goal.returns-clause-at_the_end
returns-clause-at_the_end g c = laws.appended g.met.K.Ordered.total

pub returns-clause-value_sorted : goal.returns-clause-value_sorted
returns-clause-value_sorted g c = laws.sorted_value g.K.Ordered.order
