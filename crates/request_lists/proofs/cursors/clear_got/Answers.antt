use Rattle.std.proofs.Common.{refl, sym, ◌∙◌}
use Rattle.request_lists.specs.Fronts.{got_cleared}
use Rattle.request_lists.proofs.Numbered.{changed_at, changed_nowhere, same_requests}
use Rattle.request_lists.proofs.cursors.clear_got.Goals as goal

pub returns-in-Some-clause-cleared : goal.returns-in-Some-clause-cleared
returns-in-Some-clause-cleared g c = changed_at got_cleared c.args.number c.args.cursors.now.items c.in-Some.place c.index_mut.result.now (rw c.deref.ensures.value at c.in-Some.ensures) c.index_mut.ensures.value

pub returns-in-Some-clause-numbered : goal.returns-in-Some-clause-numbered
returns-in-Some-clause-numbered g c = same_requests got_cleared (λ _. refl) c.args.number c.args.next c.args.cursors.now.items _ (returns-in-Some-clause-cleared g c) c.requires

pub returns-in_default-clause-cleared : goal.returns-in_default-clause-cleared
returns-in_default-clause-cleared g c = changed_nowhere got_cleared c.args.number c.args.cursors.now.items (rw c.deref.ensures.value at (sym c.place_of_cursor.ensures ∙ c.in_default.is))
