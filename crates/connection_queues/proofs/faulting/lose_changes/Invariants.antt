use Rattle.std.proofs.Common.{◌≡◌, ◌++◌, map, take, drop}
use Rattle.name_queues.specs.Mails.{lost_changes}
use Rattle.name_queues.specs.Room.{with_mail_changed}
use Rattle.connection_queues.proofs.faulting.lose_changes.Given as goal

abbrev pub invariant-loop-place : goal.invariant-loop-place
invariant-loop-place l = l.boxes.items ≡ map (with_mail_changed lost_changes) (take l.place l.initial.boxes.items) ++ drop l.place l.initial.boxes.items
