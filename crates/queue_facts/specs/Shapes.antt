-- What is kept for a name, as every desk keeps it.
--     IsVersioned           an open asks for a version from 1 on, or for none
--     HasVersion            a database has its name, and a version from 1 on
--     IsAlone               while its upgrade runs, the connection of an open is the only one, and has no transaction; while a
--                           deletion runs there is none
--     IsHeldBy              without a database every connection has close pending
--     IsShaped              all of this; without a database the version is 0; and a request that waits has no connection, and waits once
use Rattle.std.specs.Prelude.{◌≡◌, ◌≤◌, ℕ, ◌+◌, true, List, [], ◌∷◌, Option, Some, None, ⊤}
use Rattle.std.specs.List.{AllByRecursion}
use Rattle.idb_schema.specs.Schemas.{SchemaData}
use Rattle.name_queues.specs.Names.{name_of}
use Rattle.name_queues.specs.declared.ids.ConnId.{ConnId}
use Rattle.name_queues.specs.declared.asks.Ask.{Ask}
use Rattle.name_queues.specs.declared.asks.Wants.{Wants}
use Rattle.name_queues.specs.declared.asks.Wants.TheVariants as wants
use Rattle.name_queues.specs.declared.connections.Conn.{Conn}
use Rattle.name_queues.specs.declared.names.Named.{Named}
use Rattle.queue_facts.specs.Counts.{wait_count_of, held_of}

-- an open asks for a version from 1 on, or for none
abbrev pub IsVersioned : Wants → Type 0
IsVersioned (wants.Open None) = ⊤
IsVersioned (wants.Open (Some version)) = 1 ≤ version
IsVersioned wants.Delete = ⊤

-- the database has this name, and a version from 1 on
abbrev pub HasVersion : List ℕ → Option SchemaData → Type 0
HasVersion name None = ⊤
HasVersion name (Some s) = (s.name ≡ name) × (1 ≤ s.version)

-- the request runs: the connection of an open is the only one, and has no transaction; a deletion runs without any
abbrev pub IsAlone : ConnId → Wants → List (ConnId × Conn) → Type 0
IsAlone who (wants.Open version) conns = (k : Conn) × (conns ≡ (who, k) ∷ []) × (k.txs ≡ 0)
IsAlone who wants.Delete conns = conns ≡ []

-- without a database every connection has close pending
abbrev pub IsHeldBy : Option SchemaData → List (ConnId × Conn) → Type 0
IsHeldBy None conns = AllByRecursion (λ e. e.1.is_closing ≡ true) conns
IsHeldBy (Some s) conns = ⊤

abbrev pub StandsBy : Option SchemaData → List (ConnId × Conn) → Option Ask → Type 0
StandsBy database conns None = IsHeldBy database conns
StandsBy database conns (Some ask) = IsAlone ask.who ask.wants conns × IsVersioned ask.wants

pub record IsShaped (n : Named) : Type 0 where
  pub blank : n.blank.version ≡ 0
  pub version : HasVersion (name_of n) n.database
  pub wants : AllByRecursion (λ ask. IsVersioned ask.wants) n.traffic.queue
  pub apart : (who : ConnId) → wait_count_of who n + held_of who n ≤ 1
  pub stands : StandsBy n.database n.traffic.conns n.running
