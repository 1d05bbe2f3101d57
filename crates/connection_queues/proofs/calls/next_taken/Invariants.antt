use Rattle.std.proofs.Common.{◌≡◌, length, ℕ}
use Rattle.connection_queues.specs.Machine.{unhandled}
use Rattle.connection_queues.proofs.calls.next_taken.Given as goal

abbrev pub invariant-loop-who : goal.invariant-loop-who
invariant-loop-who l = record {
  rest : unhandled l.names l.inbox.mail.taken ≡ unhandled l.names l.initial.inbox.mail.taken;
  client : l.inbox.mail.client ≡ l.initial.inbox.mail.client;
  events : l.inbox.mail.events ≡ l.initial.inbox.mail.events;
  room : l.inbox.room ≡ l.initial.inbox.room;
}

abbrev pub decreases-loop-who : goal.decreases-loop-who
decreases-loop-who l = length l.inbox.mail.taken
