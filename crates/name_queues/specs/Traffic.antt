-- The requests and connections of a name.
--     TrafficData           the requests that wait, in the order asked, and the connections that aren't closed, by client and
--                           request
use Rattle.std.specs.Prelude.{List}
use Rattle.name_queues.specs.declared.ids.ConnId.{ConnId}
use Rattle.name_queues.specs.declared.asks.Ask.{Ask}
use Rattle.name_queues.specs.declared.connections.Conn.{Conn}

pub record TrafficData : Type 0 where
  pub queue : List Ask
  pub conns : List (ConnId × Conn)
