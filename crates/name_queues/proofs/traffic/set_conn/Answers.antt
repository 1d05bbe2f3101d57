use Rattle.std.proofs.Common.{◌≡◌, ◌∙◌, ℕ, suc, ◌<◌, ◌≤◌, ◌+◌, ◌-◌, length, get_or, map, take, drop, slice_get, slice_set, position, Option, Some, None, Bool, true, false, List, [], ◌∷◌, ◌++◌, ap, sym, refl, subst, add-one, arith}
use Rattle.name_queues.proofs.TableLemmas.{kept_value, kept_absent, without_absent}
use Rattle.name_queues.proofs.traffic.set_conn.Goals as goal

pub returns-in-Ok-clause-entries : goal.returns-in-Ok-clause-entries
returns-in-Ok-clause-entries c = c.replace.ensures.entries ∙ kept_value c.args.who c.args.conn c.in-Ok.ensures.found.value c.args.conns.now.rows.items c.in-Ok.place c.in-Ok.ensures.found.stands c.in-Ok.ensures.found.before

pub returns-in-Err-clause-entries : goal.returns-in-Err-clause-entries
returns-in-Err-clause-entries c = sym (kept_absent c.args.who c.args.conn c.args.conns.now.rows.items (c.table_laws.ensures.absent c.args.conns.now.rows.items c.in-Err.field-0 c.args.who c.in-Err.ensures.absent))
