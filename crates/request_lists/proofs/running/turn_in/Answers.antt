use Rattle.std.proofs.Common.{◌≡◌, ◌-◌, None, IfOk, refl, sym, ap, subst}
use Rattle.idb_cursors.specs.View.{key_shown}
use Rattle.request_lists.specs.Running.{turn_found, cursor_turned}
use Rattle.request_lists.proofs.Numbered.{cursor_there, not_found, changed_by, changed_nowhere, numbered_by, same_by}
use Rattle.request_lists.proofs.running.turn_in.Goals as goal

pub returns-in-Some-clause-found : goal.returns-in-Some-clause-found
returns-in-Some-clause-found g c =
    subst (λ o. IfOk c.turn_one.result (λ place. place ≡ turn_found (g.R.RowView.rows c.args.rows.now) o (key_shown c.args.key) (key_shown c.args.primary) (c.args.count - 1)))
    (sym (cursor_there c.args.number c.args.cursors.now.items c.in-Some.place c.index_mut-cursor.result.now (rw c.deref.ensures.value at c.in-Some.ensures) c.index_mut-cursor.ensures.value))
    c.turn_one.ensures.found

pub returns-in-Some-clause-moved : goal.returns-in-Some-clause-moved
returns-in-Some-clause-moved g c = changed_by c.turn_one.result (λ place. cursor_turned (g.R.RowView.rows c.args.rows.now) place) c.args.number c.args.cursors.now.items c.in-Some.place c.index_mut-cursor.result.now c.turn_one.new.cursor (rw c.deref.ensures.value at c.in-Some.ensures) c.index_mut-cursor.ensures.value c.turn_one.ensures.moved

pub returns-in-Some-clause-unchanged : goal.returns-in-Some-clause-unchanged
returns-in-Some-clause-unchanged g c = same_by c.turn_one.result c.args.cursors.now.items c.in-Some.place c.index_mut-cursor.result.now c.turn_one.new.cursor c.index_mut-cursor.ensures.value c.turn_one.ensures.unchanged

pub returns-in-Some-clause-numbered : goal.returns-in-Some-clause-numbered
returns-in-Some-clause-numbered g c = numbered_by c.turn_one.result (λ place. cursor_turned (g.R.RowView.rows c.args.rows.now) place) (λ _ _. refl) c.args.number c.args.next c.args.cursors.now.items c.in-Some.place c.index_mut-cursor.result.now c.turn_one.new.cursor (rw c.deref.ensures.value at c.in-Some.ensures) c.index_mut-cursor.ensures.value c.turn_one.ensures.moved c.turn_one.ensures.unchanged c.requires.numbered

pub returns-in-None-clause-found : goal.returns-in-None-clause-found
returns-in-None-clause-found g c = ap (λ o. turn_found (g.R.RowView.rows c.args.rows.now) o (key_shown c.args.key) (key_shown c.args.primary) (c.args.count - 1)) (sym (not_found c.args.number c.args.cursors.now.items (sym (rw c.deref.ensures.value at c.in-None.ensures))))

pub returns-in-None-clause-moved : goal.returns-in-None-clause-moved
returns-in-None-clause-moved g c = changed_nowhere (cursor_turned (g.R.RowView.rows c.args.rows.now) None) c.args.number c.args.cursors.now.items (sym (rw c.deref.ensures.value at c.in-None.ensures))
