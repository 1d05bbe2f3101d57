use Rattle.std.proofs.Common.{◌≡◌, drop}
use Rattle.client_seats.specs.ClientStates.{with_notes}
use Rattle.client_seats.specs.Seating.{SitsAlike}
use Rattle.client_parts.specs.Clients.{client_seen}
use Rattle.client_parts.proofs.posting.take_posts.Given as goal

-- what is left completes the whole
abbrev pub invariant-loop-place : goal.invariant-loop-place
invariant-loop-place l = (with_notes (client_seen l.parts) (drop l.place l.notes) ≡ with_notes (client_seen l.initial.parts) (drop l.from l.notes))
    × SitsAlike (client_seen l.initial.parts) (client_seen l.parts)
