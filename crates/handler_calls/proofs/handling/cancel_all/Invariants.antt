use Rattle.std.proofs.Common.{◌≡◌, ◌++◌, length}
use Rattle.list_machine.specs.Seeing.{pulled_reacts, pulled_writes}
use Rattle.handler_calls.specs.Attending.{IsAttended}
use Rattle.handler_calls.specs.Telling.{abort_events, ToldSoFar}
use Rattle.handler_calls.proofs.handling.cancel_all.Given as goal

abbrev pub invariant-loop-entry : goal.invariant-loop-entry
invariant-loop-entry g l = record {
  told : ToldSoFar (pulled_reacts g.H.Handler.plain g.H.Handler.reacts) (pulled_writes g.H.Handler.plain g.H.Handler.writes) l.initial.front l.front (g.H.Handler.lines l.initial.notes) (g.H.Handler.lines l.notes);
  noted : l.told ++ abort_events l.front.waiting ≡ l.initial.told ++ abort_events l.initial.front.waiting;
  attended : IsAttended l.front;
}

abbrev pub decreases-loop-entry : goal.decreases-loop-entry
decreases-loop-entry g l = length l.front.waiting
