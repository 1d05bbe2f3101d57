use Rattle.std.proofs.Common.{◌≡◌, List, [], inl, inr, subst, sym, refl, ap, ◌∙◌}
use Rattle.idb_schema.specs.Schemas.{SchemaData}
use Rattle.idb_desk.specs.Steps.{DeskRun}
use Rattle.script_statements.specs.declared.script.ScriptSession.{ScriptSession}
use Rattle.legal_sessions.specs.Legal.{EndsSo}
use Rattle.session_states.specs.Sessions.{IsAtEnd}
use Rattle.office_moves.specs.Scenes.{DoneNow, done_of_book}
use Rattle.session_driver.specs.Seats.{session_seen, IsDriving}
use Rattle.session_driver.proofs.Driving.{begins_so}
use Rattle.interrupted_sessions.specs.Interrupted.{HasCommits}
use Rattle.log_history.specs.Kept.{with_doubt}
use Rattle.session_driver.proofs.Stopping.{stopped_driving}
use Rattle.session_driver.proofs.Stopping.{at_err}
use Rattle.session_driver.proofs.driver.run_to_end.Goals as goal

pub drive-requires-clause-driving : goal.drive-requires-clause-driving
drive-requires-clause-driving g c κs within =
    let f = c.requires.fresh in
    subst (λ (s : ScriptSession). IsDriving s c.in_ok-desk.desk c.in_ok-seats.seats.items (done_of_book c.args.book.now) c.args.opening.databases) (sym c.of-of.ensures)
    (begins_so c.under_way_laws.ensures.fresh c.fitting_laws.ensures.fresh c.showing_laws.ensures.fresh c.args.session c.in_ok-desk.desk c.in_ok-seats.seats.items (done_of_book c.args.book.now) c.args.opening.databases c.args.opening.schemas
    c.in_ok-seats.ensures.seats c.in_ok-seats.ensures.scripts c.in_ok-desk.ensures f.finish f.commits f.doubts f.items f.shows f.openable f.few f.opened)

pub returns-clause-ends : goal.returns-clause-ends
returns-clause-ends g c =
    let same = sym c.in_ok-end.ensures.same in (
      c.drive.new.databases,
      record {
        driving = subst (λ (s : ScriptSession). IsDriving s c.in_ok-desk-2.desk c.drive.new.seats.items (done_of_book c.end_log.new.book) c.drive.new.databases) c.of-of.ensures
            (subst (λ (d : DoneNow). IsDriving c.of-of.result.value c.in_ok-desk-2.desk c.drive.new.seats.items d c.drive.new.databases) same c.in_ok-desk-2.ensures.driving);
        at_end = subst (λ (d : DoneNow). IsAtEnd (session_seen c.in_ok-desk-2.desk c.drive.new.seats.items d c.drive.new.databases)) same c.in_ok-desk-2.ensures.end;
        ends = subst (λ (d : DoneNow). EndsSo c.args.session.drop_end d.doubts c.end_log.new.book.end) same c.in_ok-end.ensures.ends;
      },
    )

-- where want of memory stops it
pub returns-in_err-seats-clause-stops : goal.returns-in_err-seats-clause-stops
returns-in_err-seats-clause-stops g c = at_err c.from_residual.result (inl (c.requires.fresh.commits, c.requires.fresh.doubts))

pub returns-in_err-desk-clause-stops : goal.returns-in_err-desk-clause-stops
returns-in_err-desk-clause-stops g c = at_err c.from_residual-in_err-desk.result (inl (c.requires.fresh.commits, c.requires.fresh.doubts))

pub returns-in_err-desk-2-clause-stops : goal.returns-in_err-desk-2-clause-stops
returns-in_err-desk-2-clause-stops g c = at_err c.from_residual-in_err-desk-2.result (inr (subst (λ (s : ScriptSession). HasCommits s c.drive.new.book.opening c.drive.new.book.commits (with_doubt [] c.drive.new.book.end)) c.of-of.ensures c.in_err-desk-2.ensures.stops))

pub returns-in_err-end-clause-stops : goal.returns-in_err-end-clause-stops
returns-in_err-end-clause-stops g c =
    let driving = subst (λ (d : DoneNow). IsDriving c.of-of.result.value c.in_ok-desk-2.desk c.drive.new.seats.items d c.drive.new.databases) (sym c.end_log.ensures.same) c.in_ok-desk-2.ensures.driving in
    at_err c.from_residual-in_err-end.result (inr (subst (λ (s : ScriptSession). HasCommits s c.end_log.new.book.opening c.end_log.new.book.commits (with_doubt [] c.end_log.new.book.end)) c.of-of.ensures
    (stopped_driving c.interruption_laws.ensures.between c.of-of.result.value c.in_ok-desk-2.desk c.drive.new.seats.items (done_of_book c.end_log.new.book) c.drive.new.databases driving)))
