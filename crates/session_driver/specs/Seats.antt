-- The clients of a session in their seats.
--     seat_seen, script_of_seat        what is held of a client;  its script
--     session_seen          what is held of the session
--     IsDriving             the driver can go on with the session with these clients in these seats, and none of its transactions runs
use Rattle.std.specs.Prelude.{◌≡◌, List, map, None}
use Rattle.std.specs.Arc.{arc_value}
use Rattle.idb_desk.specs.Steps.{DeskRun}
use Rattle.item_changes.specs.Items.{Items}
use Rattle.script_statements.specs.declared.script.Client.{Client}
use Rattle.script_statements.specs.declared.script.ScriptSession.{ScriptSession}
use Rattle.session_states.specs.Sessions.{SeatNow, SessionNow}
use Rattle.session_driver.specs.declared.seats.Seat.{Seat}
use Rattle.office_moves.specs.Scenes.{DoneNow, IsDriven}

abbrev pub seat_seen : Seat → SeatNow
seat_seen s = record { client = s.client; notes = s.notes }

abbrev pub script_of_seat : Seat → Client
script_of_seat s = arc_value s.script

abbrev pub session_seen : DeskRun → List Seat → DoneNow → Items → SessionNow
session_seen r seats done items = record { run = r; seats = map seat_seen seats; finish = done.finish; commits = done.commits; doubts = done.doubts; items = items }

pub record IsDriving (session : ScriptSession) (r : DeskRun) (seats : List Seat) (done : DoneNow) (items : Items) : Type 0 where
  pub driven : IsDriven session done.opening (session_seen r seats done items) None
  pub scripts : map script_of_seat seats ≡ session.clients
