use Rattle.std.proofs.Common.{◌≡◌, ◌+◌, ◌<◌, ◌≤◌, ℕ, refl, arith, rules, sym, ◌∙◌, length, drop}
use Rattle.std.proofs.lemmas.List.{drop_all}
use Rattle.script_runs.specs.Going.{Says, Throws, Posts, Sets, Passes}
use Rattle.script_statements.specs.declared.statement.Stmt.TheVariants as stmt
use Rattle.script_runs.proofs.Steps.{in_ok, begun, next, stopped, too_many, finished, next_round, broke, enough, says, quiet, too_deep, entered, repeated, taken}
use Rattle.script_runs.proofs.interpreting.+blocks.Goals as goal

pub enter-returns-then-depth-ge-DEEPEST_BLOCK-clause-goes : goal.enter-returns-then-depth-ge-DEEPEST_BLOCK-clause-goes
enter-returns-then-depth-ge-DEEPEST_BLOCK-clause-goes g t c = too_deep _ _ g.met.W.World.shows _ _ _ _ _ _ _ (omega arith) c.in_ok-throw.ensures

pub enter-returns-clause-goes : goal.enter-returns-clause-goes
enter-returns-clause-goes g t c = in_ok c.execute.result (λ end h. entered _ _ g.met.W.World.shows _ _ _ _ _ _ _ _ _ _ c.body_at.ensures (omega arith) h) c.execute.ensures.goes

pub execute-loop-statement-init : goal.execute-loop-statement-init
execute-loop-statement-init g t c = (begun _ _ g.met.W.World.shows _ _ _ _ _ _, g.met.W.World.stays _)

pub execute-returns-in_err-throw-clause-moves : goal.execute-returns-in_err-throw-clause-moves
execute-returns-in_err-throw-clause-moves g t c = c.loop-statement.invariant.1

pub execute-returns-then-at-ge-MOST_STATEMENTS-clause-goes : goal.execute-returns-then-at-ge-MOST_STATEMENTS-clause-goes
execute-returns-then-at-ge-MOST_STATEMENTS-clause-goes g t c = too_many _ _ g.met.W.World.shows _ _ _ c.loop-statement.statement-index _ stmt.Throw _ _ _ _ _ (omega arith) (omega arith) c.loop-statement.invariant.0 c.in_ok-throw.ensures

pub execute-returns-then-at-ge-MOST_STATEMENTS-clause-moves : goal.execute-returns-then-at-ge-MOST_STATEMENTS-clause-moves
execute-returns-then-at-ge-MOST_STATEMENTS-clause-moves g t c = c.loop-statement.invariant.1

pub execute-returns-in_err-perform-clause-moves : goal.execute-returns-in_err-perform-clause-moves
execute-returns-in_err-perform-clause-moves g t c = g.met.W.World.onwards _ _ _ c.loop-statement.invariant.1 c.in_err-perform.ensures.moves

pub execute-returns-in-Threw-clause-goes : goal.execute-returns-in-Threw-clause-goes
execute-returns-in-Threw-clause-goes g t c = stopped _ _ g.met.W.World.shows _ _ _ c.loop-statement.statement-index _ c.statement-item.result _ _ _ _ _ _ c.statement-item.is (omega arith) (omega arith) c.loop-statement.invariant.0 (rw c.in-Threw.is at c.in_ok-perform.ensures.goes)

pub execute-returns-in-Threw-clause-moves : goal.execute-returns-in-Threw-clause-moves
execute-returns-in-Threw-clause-moves g t c = g.met.W.World.onwards _ _ _ c.loop-statement.invariant.1 c.in_ok-perform.ensures.moves

pub execute-loop-statement-preserved : goal.execute-loop-statement-preserved
execute-loop-statement-preserved g t c = (
  next _ _ g.met.W.World.shows _ _ _ c.loop-statement.statement-index _ c.statement-item.result _ _ _ _ _ _ c.statement-item.is (omega arith) (omega arith) c.loop-statement.invariant.0 (rw c.in-Went.is at c.in_ok-perform.ensures.goes),
  g.met.W.World.onwards _ _ _ c.loop-statement.invariant.1 c.in_ok-perform.ensures.moves,
)

pub execute-returns-clause-goes : goal.execute-returns-clause-goes
execute-returns-clause-goes g t c = finished _ _ g.met.W.World.shows _ _ _ c.loop-statement.statement-index c.args.statements.now _ _ _ _ (drop_all c.loop-statement.statement-index c.args.statements.now (omega arith)) c.loop-statement.invariant.0

pub execute-returns-clause-moves : goal.execute-returns-clause-moves
execute-returns-clause-moves g t c = c.loop-statement.invariant.1

pub perform-returns-in_ok-say-in-Say-clause-goes : goal.perform-returns-in_ok-say-in-Say-clause-goes
perform-returns-in_ok-say-in-Say-clause-goes g t c = rw c.in-Say.is (says _ _ g.met.W.World.shows _ _ _ _ _ _ _ _ _ _ (Says _ _ _) c.in_ok-say-in-Say.ensures)

pub perform-returns-in_ok-throw-in-Throw-clause-goes : goal.perform-returns-in_ok-throw-in-Throw-clause-goes
perform-returns-in_ok-throw-in-Throw-clause-goes g t c = rw c.in-Throw.is (says _ _ g.met.W.World.shows _ _ _ _ _ _ _ _ _ _ (Throws _ _) c.in_ok-throw-in-Throw.ensures)

pub perform-returns-in_ok-post-in-Post-clause-goes : goal.perform-returns-in_ok-post-in-Post-clause-goes
perform-returns-in_ok-post-in-Post-clause-goes g t c = rw c.in-Post.is (says _ _ g.met.W.World.shows _ _ _ _ _ _ _ _ _ _ (Posts _ _ _) c.in_ok-post-in-Post.ensures)

pub perform-returns-in_ok-set_variable-in-Let-clause-goes : goal.perform-returns-in_ok-set_variable-in-Let-clause-goes
perform-returns-in_ok-set_variable-in-Let-clause-goes g t c = rw c.in-Let.is (rw c.in_ok-set_variable-in-Let.ensures (quiet _ _ g.met.W.World.shows _ _ _ _ _ _ _ _ (Sets _ _ _ _)))

pub perform-returns-in-Some-clause-goes : goal.perform-returns-in-Some-clause-goes
perform-returns-in-Some-clause-goes g t c = rw c.in-If.is (in_ok c.enter.result (λ end h. taken _ _ g.met.W.World.shows _ _ _ _ _ _ _ _ _ _ _ _ (sym c.in_ok-block-in-If.ensures ∙ c.in-Some.is) h) c.enter.ensures.goes)

pub perform-returns-in-None-clause-goes : goal.perform-returns-in-None-clause-goes
perform-returns-in-None-clause-goes g t c = rw c.in-If.is (quiet _ _ g.met.W.World.shows _ _ _ _ _ _ _ _ (Passes _ _ _ _ _ (sym c.in_ok-block-in-If.ensures ∙ c.in-None.is)))

pub repeat-returns-clause-goes : goal.repeat-returns-clause-goes
repeat-returns-clause-goes g t c = repeated _ _ g.met.W.World.shows _ _ _ _ _ _ _ _ _ _ _ _ c.in_ok-turn.ensures c.in_ok-set_turn.ensures c.in_ok-end.ensures.goes

pub rounds-loop-turn-init : goal.rounds-loop-turn-init
rounds-loop-turn-init g t c = (begun _ _ g.met.W.World.shows _ _ _ _ _ _, g.met.W.World.stays _)

pub rounds-returns-in_err-begin_round-clause-moves : goal.rounds-returns-in_err-begin_round-clause-moves
rounds-returns-in_err-begin_round-clause-moves g t c = c.loop-turn.invariant.1

pub rounds-returns-in_err-enter-clause-moves : goal.rounds-returns-in_err-enter-clause-moves
rounds-returns-in_err-enter-clause-moves g t c = g.met.W.World.onwards _ _ _ c.loop-turn.invariant.1 c.in_err-enter.ensures.moves

pub rounds-returns-in-Threw-clause-goes : goal.rounds-returns-in-Threw-clause-goes
rounds-returns-in-Threw-clause-goes g t c = broke _ _ g.met.W.World.shows _ _ _ c.args.times c.loop-turn.turn _ _ _ _ _ _ _ c.loop-turn-test.true c.loop-turn.invariant.0 (rw c.in_ok-begin_round.ensures at (rw c.in-Threw.is at c.in_ok-enter.ensures.goes))

pub rounds-returns-in-Threw-clause-moves : goal.rounds-returns-in-Threw-clause-moves
rounds-returns-in-Threw-clause-moves g t c = g.met.W.World.onwards _ _ _ c.loop-turn.invariant.1 c.in_ok-enter.ensures.moves

pub rounds-loop-turn-preserved : goal.rounds-loop-turn-preserved
rounds-loop-turn-preserved g t c = (
  next_round _ _ g.met.W.World.shows _ _ _ c.args.times c.loop-turn.turn _ _ _ _ _ _ _ c.loop-turn-test.true c.loop-turn.invariant.0 (rw c.in_ok-begin_round.ensures at (rw c.in-Went.is at c.in_ok-enter.ensures.goes)),
  g.met.W.World.onwards _ _ _ c.loop-turn.invariant.1 c.in_ok-enter.ensures.moves,
)

pub rounds-returns-clause-goes : goal.rounds-returns-clause-goes
rounds-returns-clause-goes g t c = enough _ _ g.met.W.World.shows _ _ _ c.args.times c.loop-turn.turn _ _ _ _ _ (omega arith) c.loop-turn.invariant.0

pub rounds-returns-clause-moves : goal.rounds-returns-clause-moves
rounds-returns-clause-moves g t c = c.loop-turn.invariant.1
