use Rattle.live_tx.proofs.live.LiveTx.step.Goals as goal

pub returns-clause-turn : goal.returns-clause-turn
returns-clause-turn g c whole =
    let t = c.turn_raw.ensures.told whole in
    (t.lines, c.seeing_laws.ensures.turn c.args.self.now.state c.turn_raw.new.self.state c.turn_raw.result t.lines t.turn, t.added)
