-- Scripts, sessions, clients, blocks and statements: what a document reads as, or the place of its first fault. Each
-- gives what was read of the document of this number, with the number of the node behind it.
--     script_of             the script that a document is, or the place of its first faulty node
--     script_read           that of what was read of the bytes: place 0 where they are no document
--     stmt_at, statements_at      a statement, and a list of them, over the client's blocks
--     blocks_at, client_at, clients_at, session_at, sessions_at      and so on, outwards
use Rattle.std.specs.Prelude.{ℕ, ◌+◌, Bool, true, false, ◌&&◌, nat_le, List, [], ◌∷◌, ◌++◌, if◌then◌else◌, Option, Some, None, is_some, option_and_then, unwrap_or, Result, Ok, Err, codes}
use Rattle.std.specs.Str.{bytes_eq}
use Rattle.clone_values.specs.WellFormed.{is_within_limit}
use Rattle.serde_json.specs.Data.{Data, Items, Members}
use Rattle.serde_json.specs.Data as json
use Rattle.serde_json.specs.Events.{items_len}
use Rattle.serde_json.specs.Find.{get, as_str, as_array, as_object}
use Rattle.script_exprs.specs.Forms.{where_so}
use Rattle.script_reading.specs.BlockPlaces.{BlockPlaces, block_places}
use Rattle.script_reading.specs.Fields.{no_fields, with_field}
use Rattle.script_reading.specs.Places.{behind, ◌>>=◌, read_at}
use Rattle.script_reading.specs.StatementForms.{field_of, complete_op}
use Rattle.script_reading.specs.Statements.{statement}
use Rattle.script_reading.specs.declared.fields.Fields.{Fields}
use Rattle.script_reading.specs.declared.limits.TheConstants.{MOST_SESSIONS, MOST_CLIENTS}
use Rattle.script_reading.specs.declared.ops.Op.{Op}
use Rattle.script_statements.specs.declared.statement.Stmt.{Stmt}
use Rattle.script_statements.specs.declared.script.Block.{Block}
use Rattle.script_statements.specs.declared.script.Client.{Client}
use Rattle.script_statements.specs.declared.script.ScriptSession.{ScriptSession}
use Rattle.script_statements.specs.declared.script.Script.{Script}

-- ---- statements
-- the fields with one member more, where it is a field of the statement; `op` itself was read before
unfoldable pub one_field : Op → BlockPlaces → List ℕ → Data → Fields → Option Fields
one_field o places name d fs = if bytes_eq name (codes "op") then Some fs else option_and_then (λ f. with_field places f d fs) (field_of o name)

abbrev pub fields_from : Op → BlockPlaces → ℕ → Fields → Members → Result (Fields × ℕ) ℕ
fields_from o places n fs json.no_members = Ok (fs, n)
fields_from o places n fs (json.member name d ms) = read_at n (one_field o places name d fs) >>= λ gs. fields_from o places (behind n d) gs ms

abbrev pub stated_members : Data → Members
stated_members d = unwrap_or (as_object d) json.no_members

-- the statement of the members, each in its order
abbrev pub stmt_of : Op → BlockPlaces → ℕ → Data → Fields → Result (Stmt × ℕ) ℕ
stmt_of o places n d before = do
  fs ← fields_from o places (n + 1) before (stated_members d)
  s ← read_at n (statement o fs.0)
  Ok (s, fs.1)

-- the object itself is at fault where it names no statement or lacks what that needs
unfoldable pub stmt_at : BlockPlaces → ℕ → Data → Result (Stmt × ℕ) ℕ
stmt_at places n d = read_at n (complete_op d) >>= λ o. stmt_of o places n d no_fields

abbrev pub stmts_from : BlockPlaces → ℕ → List Stmt → Items → Result (List Stmt × ℕ) ℕ
stmts_from places n before json.no_items = Ok (before, n)
stmts_from places n before (json.item d ds) = stmt_at places n d >>= λ s. stmts_from places s.1 (before ++ s.0 ∷ []) ds

unfoldable pub statements_at : BlockPlaces → ℕ → Data → Result (List Stmt × ℕ) ℕ
statements_at places n d = do
  ds ← read_at n (as_array d)
  stmts_from places (n + 1) [] ds

-- ---- blocks, one of which is `main`
abbrev pub blocks_from : BlockPlaces → ℕ → List Block → Members → Result (List Block × ℕ) ℕ
blocks_from places n before json.no_members = Ok (before, n)
blocks_from places n before (json.member name d ms) =
    read_at n (where_so (is_within_limit name) name) >>= λ name. statements_at places n d >>= λ b. blocks_from places b.1 (before ++ record { name = name; body = b.0 } ∷ []) ms

unfoldable pub blocks_at : ℕ → Data → Result (Client × ℕ) ℕ
blocks_at n d = do
  ms ← read_at n (as_object d)
  main ← read_at n (block_places ms (codes "main"))
  blocks ← blocks_from (block_places ms) (n + 1) [] ms
  Ok (record { blocks = blocks.0; main = main }, blocks.1)

-- ---- clients: `blocks` is their one member
-- the members of an object that has this one
abbrev pub members_with : List ℕ → Data → Option Members
members_with name d = if is_some (get name d) then as_object d else None

abbrev pub client_from : ℕ → Option Client → Members → Result (Option Client × ℕ) ℕ
client_from n found json.no_members = Ok (found, n)
client_from n found (json.member name d ms) = if bytes_eq name (codes "blocks") then (blocks_at n d >>= λ c. client_from c.1 (Some c.0) ms) else Err n

unfoldable pub client_at : ℕ → Data → Result (Client × ℕ) ℕ
client_at n d = do
  ms ← read_at n (members_with (codes "blocks") d)
  found ← client_from (n + 1) None ms
  client ← read_at n found.0
  Ok (client, found.1)

-- a list of one or more, and of no more than these
abbrev pub items_within : ℕ → Items → Option Items
items_within most ds = if nat_le 1 (items_len ds) && nat_le (items_len ds) most then Some ds else None

abbrev pub list_of : ℕ → Data → Option Items
list_of most d = option_and_then (items_within most) (as_array d)

abbrev pub clients_from : ℕ → List Client → Items → Result (List Client × ℕ) ℕ
clients_from n before json.no_items = Ok (before, n)
clients_from n before (json.item d ds) = client_at n d >>= λ c. clients_from c.1 (before ++ c.0 ∷ []) ds

unfoldable pub clients_at : ℕ → Data → Result (List Client × ℕ) ℕ
clients_at n d = do
  ds ← read_at n (list_of MOST_CLIENTS d)
  clients_from (n + 1) [] ds

-- ---- sessions: their members are `clients` and, where it is said, `end`
abbrev pub end_named : List ℕ → Option Bool
end_named word = if bytes_eq word (codes "flush") then Some false
    else if bytes_eq word (codes "drop") then Some true
    else None

-- whether waiting commits are dropped
abbrev pub end_in : Data → Option Bool
end_in d = option_and_then end_named (as_str d)

abbrev pub SessionParts : Type 0
SessionParts = Option (List Client) × Bool

abbrev pub session_from : ℕ → SessionParts → Members → Result (SessionParts × ℕ) ℕ
session_from n found json.no_members = Ok (found, n)
session_from n found (json.member name d ms) =
    if bytes_eq name (codes "clients") then (clients_at n d >>= λ c. session_from c.1 (Some c.0, found.1) ms)
    else if bytes_eq name (codes "end") then (read_at n (end_in d) >>= λ e. session_from (behind n d) (found.0, e) ms)
    else Err n

unfoldable pub session_at : ℕ → Data → Result (ScriptSession × ℕ) ℕ
session_at n d = do
  ms ← read_at n (members_with (codes "clients") d)
  found ← session_from (n + 1) (None, false) ms
  clients ← read_at n found.0.0
  Ok (record { clients = clients; drop_end = found.0.1 }, found.1)

abbrev pub sessions_from : ℕ → List ScriptSession → Items → Result (List ScriptSession × ℕ) ℕ
sessions_from n before json.no_items = Ok (before, n)
sessions_from n before (json.item d ds) = session_at n d >>= λ s. sessions_from s.1 (before ++ s.0 ∷ []) ds

unfoldable pub sessions_at : ℕ → Data → Result (List ScriptSession × ℕ) ℕ
sessions_at n d = do
  ds ← read_at n (list_of MOST_SESSIONS d)
  sessions_from (n + 1) [] ds

-- ---- the script: `sessions` is its one member
abbrev pub script_from : ℕ → Option (List ScriptSession) → Members → Result (Option (List ScriptSession) × ℕ) ℕ
script_from n found json.no_members = Ok (found, n)
script_from n found (json.member name d ms) = if bytes_eq name (codes "sessions") then (sessions_at n d >>= λ s. script_from s.1 (Some s.0) ms) else Err n

unfoldable pub script_of : Data → Result Script ℕ
script_of d = do
  ms ← read_at 1 (members_with (codes "sessions") d)
  found ← script_from 2 None ms
  sessions ← read_at 1 found.0
  Ok (record { sessions = sessions })

-- what the bytes are, once they were read; no document is a fault at place 0
abbrev pub script_read : Option Data → Result Script ℕ
script_read None = Err 0
script_read (Some d) = script_of d
