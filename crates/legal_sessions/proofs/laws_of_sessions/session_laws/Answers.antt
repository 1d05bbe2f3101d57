use Rattle.std.proofs.Common.{sym, ◌∙◌}
use Rattle.legal_sessions.specs.SerialResults.{begun_by}
use Rattle.legal_sessions.proofs.Finishing.{finished_once}
use Rattle.legal_sessions.proofs.laws_of_sessions.session_laws.Goals as goal

pub returns-clause-once : goal.returns-clause-once
returns-clause-once c session opening h legal = finished_once h.order (begun_by h.acts) legal.serial.finished h.finish legal.serial.all legal.serial.entries

pub returns-clause-as_finished : goal.returns-clause-as_finished
returns-clause-as_finished c session opening h legal = c.serial_laws.ensures.from_number opening h.finish legal.in_order legal.serial.serial

pub returns-clause-items : goal.returns-clause-items
returns-clause-items c session opening h legal =
    sym (c.serial_laws.ensures.same_items opening h.finish legal.in_order (c.serial_laws.ensures.from_number opening h.finish legal.in_order legal.serial.serial)) ∙ c.serial_laws.ensures.committed opening h.finish

pub returns-clause-same : goal.returns-clause-same
returns-clause-same c session opening h legal = (c.serial_laws.ensures.same_entries h.finish, c.serial_laws.ensures.rises h.finish)
