-- The parts of a client as plain data.
--     client_seen           the client of these parts
use Rattle.client_seats.specs.ClientStates.{ClientState}
use Rattle.client_parts.specs.declared.clients.ClientParts.{ClientParts}

abbrev pub client_seen : ClientParts → ClientState
client_seen p = record { number = p.number; tasks = p.tasks.items; posts = p.posts; opens = p.opens.items; txs = p.txs.items }
