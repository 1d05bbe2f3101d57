use Rattle.std.proofs.Common.{refl, sym, ◌∙◌}
use Rattle.request_lists.specs.Fronts.{handler_returned}
use Rattle.request_lists.proofs.Numbered.{changed_at, changed_nowhere, same_requests}
use Rattle.request_lists.proofs.cursors.return_to.Goals as goal

pub returns-in-Some-clause-changed : goal.returns-in-Some-clause-changed
returns-in-Some-clause-changed g c = changed_at (handler_returned c.args.handler) c.args.number c.args.cursors.now.items c.in-Some.place c.index_mut-cursor.result.now (rw c.deref.ensures.value at c.in-Some.ensures) c.index_mut-cursor.ensures.value

pub returns-in-Some-clause-numbered : goal.returns-in-Some-clause-numbered
returns-in-Some-clause-numbered g c = same_requests (handler_returned c.args.handler) (λ _. refl) c.args.number c.args.next c.args.cursors.now.items _ (returns-in-Some-clause-changed g c) c.requires

pub returns-in_default-clause-changed : goal.returns-in_default-clause-changed
returns-in_default-clause-changed g c = changed_nowhere (handler_returned c.args.handler) c.args.number c.args.cursors.now.items (rw c.deref.ensures.value at (sym c.place_of_cursor.ensures ∙ c.in_default.is))
