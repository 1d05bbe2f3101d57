use Rattle.std.proofs.Common.{subst}
use Rattle.list_machine.specs.Seeing.{pulled_reacts, pulled_writes}
use Rattle.entry_runs.specs.Courses.{state_with}
use Rattle.list_machine.specs.declared.steps.Step.TheVariants.{Aborted}
use Rattle.live_tx.specs.Telling.{TurnsInto}
use Rattle.live_tx.specs.Live.{StandsSo}
use Rattle.live_tx.proofs.Turns.{turn_over}
use Rattle.live_tx.proofs.live.LiveTx.turn_raw.Goals as goal

pub returns-in-Aborted-clause-told : goal.returns-in-Aborted-clause-told
returns-in-Aborted-clause-told g c whole =
    let reacts = pulled_reacts g.H.Handler.plain g.H.Handler.reacts in
    let writes = pulled_writes g.H.Handler.plain g.H.Handler.writes in
    let lines = g.H.Handler.lines c.args.notes.now in
    let over = subst (λ s. StandsSo s (state_with c.self.inside.front c.self.inside.course)) c.in-Aborted.is c.self.invariant in
    subst (λ v. TurnsInto reacts writes v.state (Aborted c.in-Aborted.error) v.state lines lines v.told v.told) c.self.view_is
    (turn_over reacts writes (state_with c.self.inside.front c.self.inside.course) c.in-Aborted.error lines c.self.inside.told over)
