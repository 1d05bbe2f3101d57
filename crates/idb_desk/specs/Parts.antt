-- The state of what a desk is made of.
--     board_of, desk_state_of    the board, and the state, of these parts
use Rattle.desk_steps.specs.Desks.{DeskBoard, DeskState}
use Rattle.idb_desk.specs.declared.board.Board.{Board}
use Rattle.idb_desk.specs.declared.board.Parts.{Parts}

abbrev pub board_of : Board → DeskBoard
board_of b = record { scopes = b.scopes; places = b.places.items; drawn = b.drawn.items; clients = b.clients.items; is_faulted = b.is_faulted }

abbrev pub desk_state_of : Parts → DeskState
desk_state_of p = record { queues = p.queues; board = board_of p.board }
