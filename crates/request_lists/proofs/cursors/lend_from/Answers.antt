use Rattle.std.proofs.Common.{refl, sym, ap, ◌∙◌}
use Rattle.std.specs.List.{slice_set}
use Rattle.request_lists.specs.Fronts.{handler_lent}
use Rattle.request_lists.proofs.Numbered.{changed_at, changed_nowhere, same_requests, handler_at, handler_nowhere}
use Rattle.request_lists.proofs.cursors.lend_from.Goals as goal

pub returns-in-Some-clause-lent : goal.returns-in-Some-clause-lent
returns-in-Some-clause-lent g c = c.take.ensures.value ∙ sym (handler_at c.args.number c.args.cursors.now.items c.in-Some.place c.index_mut-cursor.result.now (rw c.deref.ensures.value at c.in-Some.ensures) c.index_mut-cursor.ensures.value)

pub returns-in-Some-clause-changed : goal.returns-in-Some-clause-changed
returns-in-Some-clause-changed g c =
    ap (λ o. slice_set c.args.cursors.now.items c.in-Some.place (record c.index_mut-cursor.result.now { handler = o })) c.take.ensures.after
    ∙ changed_at handler_lent c.args.number c.args.cursors.now.items c.in-Some.place c.index_mut-cursor.result.now (rw c.deref.ensures.value at c.in-Some.ensures) c.index_mut-cursor.ensures.value

pub returns-in-Some-clause-numbered : goal.returns-in-Some-clause-numbered
returns-in-Some-clause-numbered g c = same_requests handler_lent (λ _. refl) c.args.number c.args.next c.args.cursors.now.items _ (returns-in-Some-clause-changed g c) c.requires

pub returns-in-None-clause-lent : goal.returns-in-None-clause-lent
returns-in-None-clause-lent g c = sym (handler_nowhere c.args.number c.args.cursors.now.items (sym (rw c.deref.ensures.value at c.in-None.ensures)))

pub returns-in-None-clause-changed : goal.returns-in-None-clause-changed
returns-in-None-clause-changed g c = changed_nowhere handler_lent c.args.number c.args.cursors.now.items (sym (rw c.deref.ensures.value at c.in-None.ensures))
