-- Handlers and lent fronts as plain data.
--     script_seen, lent_seen        a handler, and a lent front
use Rattle.std.specs.Arc.{arc_value}
use Rattle.request_lists.specs.Fronts.{front_map}
use Rattle.script_handlers.specs.declared.handlers.ScriptHandler.{ScriptHandler}
use Rattle.script_handlers.specs.declared.lent_fronts.LentFront.{LentFront}
use Rattle.script_handlers.specs.Handling.{Script, Lent}

abbrev pub script_seen : ScriptHandler → Script
script_seen h = record { blocks = (arc_value h.client).blocks; number = h.number; success = h.success; error = h.error; opens = h.opens; env = h.env }

abbrev pub lent_seen : LentFront → Lent
lent_seen l = record { front = front_map script_seen l.front; blocks = (arc_value l.client).blocks; number = l.number; prevented = l.prevented }
