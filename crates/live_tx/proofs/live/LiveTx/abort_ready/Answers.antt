use Rattle.list_machine.specs.Seeing.{pulled_reacts, pulled_writes}
use Rattle.live_tx.proofs.Ends.{ends_over}
use Rattle.live_tx.proofs.live.LiveTx.abort_ready.Goals as goal

pub invariant_of-self : goal.invariant_of-self
invariant_of-self g c = ends_over
    (pulled_reacts g.H.Handler.plain g.H.Handler.reacts) (pulled_writes g.H.Handler.plain g.H.Handler.writes)
    c.self.inside.front c.abort_all.new.front c.self.inside.course c.abort_all.new.course c.abort_error-error.result
    (g.H.Handler.lines c.args.notes.now) (g.H.Handler.lines c.abort_all.new.notes) c.self.inside.told c.abort_all.new.told
    c.in-Ok.ensures.course c.in-Ok.ensures.told
