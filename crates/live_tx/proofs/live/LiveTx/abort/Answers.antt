use Rattle.std.proofs.lemmas.Result.{on_ok_weaker}
use Rattle.live_tx.proofs.Seen.{abort_seen}
use Rattle.live_tx.proofs.live.LiveTx.abort.Goals as goal

pub returns-clause-aborted : goal.returns-clause-aborted
returns-clause-aborted g c = on_ok_weaker c.abort_raw.result
    (λ h. abort_seen g.H.Handler.plain g.H.Handler.reacts g.H.Handler.writes c.args.self.now.state c.abort_raw.new.self.state
    (g.H.Handler.lines c.args.notes.now) (g.H.Handler.lines c.abort_raw.new.notes) c.args.self.now.told c.abort_raw.new.self.told
    c.args.self.now.standing c.args.error h)
    c.abort_raw.ensures.aborted
