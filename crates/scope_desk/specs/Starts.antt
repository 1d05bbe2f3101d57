-- The start rule (Indexed Database API 3.0, "Transactions", on read-only and read/write transactions that start).
--     Scopes                the unfinished transactions by number, and the next number
--     writes                the mode lets a transaction change its items
--     has_item, share_item  an item is in a scope; two scopes share one
--     conflict              they share an item, and not both are read-only
--     blocker_of            the least earlier unfinished transaction that conflicts
--     may_start             whether an unfinished transaction may start, and its blocker
--     created, finished     what the calls make
--     AreByNumber           the unfinished stand by number, below the next
--     IsUnfinished          the number is that of an unfinished transaction
use Rattle.std.specs.Prelude.{◌≡◌, ℕ, ◌+◌, ◌≤◌, Bool, true, false, not, ◌&&◌, ◌||◌, ◌==◌, nat_lt, List, [], ◌∷◌, ◌++◌, map, filter, if◌then◌else◌, Option, Some, None, option_map, option_and_then}
use Rattle.std.specs.List.{list_any, find}
use Rattle.idb_keys.specs.declared.names.Mode.{Mode}
use Rattle.idb_keys.specs.declared.names.Mode.TheVariants as mode
use Rattle.scope_desk.specs.Rising.{IsRisingFrom, AreAllBelow}
use Rattle.scope_desk.specs.declared.tickets.Ticket.{Ticket}
use Rattle.scope_desk.specs.declared.unfinished.MayStart.{MayStart}
use Rattle.scope_desk.specs.declared.unfinished.MayStart.TheVariants.{Go, NotYet}

-- a ticket has the fields number, mode and scope, the numbers of its items
pub record Scopes : Type 0 where
  pub unfinished : List Ticket
  pub next : ℕ

-- a transaction of this mode changes its items
abbrev pub writes : Mode → Bool
writes mode.ReadOnly = false
writes mode.ReadWrite = true
writes mode.VersionChange = true

-- the item is in the scope
abbrev pub has_item : ℕ → List ℕ → Bool
has_item item scope = list_any (λ i. i == item) scope

-- an item is in both scopes
abbrev pub share_item : List ℕ → List ℕ → Bool
share_item scope other = list_any (λ i. has_item i other) scope

-- they share an item, and not both are read-only
abbrev pub conflict : Ticket → Ticket → Bool
conflict t u = share_item t.scope u.scope && (writes t.mode || writes u.mode)

abbrev pub is_numbered : ℕ → Ticket → Bool
is_numbered number t = t.number == number

-- u was created earlier and conflicts
abbrev pub is_blocker : Ticket → Ticket → Bool
is_blocker t u = nat_lt u.number t.number && conflict t u

-- the first of the unfinished, which stand by number, that was created earlier and conflicts
abbrev pub blocker_of : List Ticket → Ticket → Option ℕ
blocker_of unfinished t = option_map (λ u. u.number) (find (is_blocker t) unfinished)

abbrev pub start_of : Option ℕ → MayStart
start_of None = Go
start_of (Some blocker) = NotYet blocker

-- whether the unfinished transaction of this number may start
abbrev pub may_start : Scopes → ℕ → MayStart
may_start s number = start_of (option_and_then (blocker_of s.unfinished) (find (is_numbered number) s.unfinished))

-- a transaction was created: it drew the next number
abbrev pub created : Scopes → List ℕ → Mode → Scopes
created s scope mode = record { unfinished = s.unfinished ++ record { number = s.next; mode = mode; scope = scope } ∷ []; next = s.next + 1 }

-- the transaction of this number is finished
abbrev pub finished : Scopes → ℕ → Scopes
finished s number = record s { unfinished = filter (λ t. not (is_numbered number t)) s.unfinished }

-- the number is that of an unfinished transaction
abbrev pub IsUnfinished : Scopes → ℕ → Type 0
IsUnfinished s number = list_any (is_numbered number) s.unfinished ≡ true

-- the unfinished stand by number, from 1 on, below the next
pub record AreByNumber (s : Scopes) : Type 0 where
  pub some : 1 ≤ s.next
  pub rising : IsRisingFrom 1 (map (λ t. t.number) s.unfinished)
  pub drawn : AreAllBelow s.next (map (λ t. t.number) s.unfinished)

-- this number where it is below the other
abbrev pub blocker_below : ℕ → ℕ → Option ℕ
blocker_below least number = if nat_lt least number then Some least else None
