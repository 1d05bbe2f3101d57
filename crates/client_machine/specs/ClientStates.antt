-- What a client of a script has.
--     OpenAsked             an open or a delete, as its statement asked it, and whether its connection is the client's
--     ClientTxKind, ClientTx        a transaction that isn't finished
--     ClientState           its tasks, how often it posted, its opens and deletes by their numbers from 1 on, its transactions
--     fresh_client          a client at its beginning: its first task is its block `main`
--     id_of, next_request, open_at, is_clients      its opens and deletes
--     with_open, with_open_at       one more; one changed
--     tx_at, with_tx, without_tx, with_started      its transactions
--     with_notes            posts stand behind the tasks, in their order, as far as the limit lets them
use Rattle.std.specs.Prelude.{ℕ, ◌+◌, ◌-◌, nat_lt, Bool, true, false, not, ◌==◌, List, [], ◌∷◌, ◌++◌, length, map, filter, slice_get, slice_set, if◌then◌else◌, Option, Some, None}
use Rattle.std.specs.List.{find}
use Rattle.name_queues.specs.declared.ids.ConnId.{ConnId}
use Rattle.item_changes.specs.Items.{Name}
use Rattle.serial_order.specs.FinishEntries.{TxBody}
use Rattle.script_handlers.specs.Handling.{Script}
use Rattle.script_runs.specs.declared.environments.Env.{Env}
use Rattle.script_runs.specs.declared.notes.Task.{Task}
use Rattle.script_runs.specs.declared.notes.Note.{Note}
use Rattle.script_runs.specs.declared.notes.Note.TheVariants as note
use Rattle.client_machine.specs.declared.limits.TheConstants.{GREATEST_POST_COUNT}

-- the blocks for its events, and the environment as it was when its statement ran
pub record OpenAsked : Type 0 where
  pub name : Name
  pub is_delete : Bool
  pub upgrade : Option ℕ
  pub blocked : Option ℕ
  pub success : Option ℕ
  pub error : Option ℕ
  pub version_change : Option ℕ
  pub closed : Option ℕ
  pub env : Env
  pub is_given : Bool

-- one that a statement created has blocks for its own events
pub data ClientTxKind : Type 0 where
  OwnTx : (complete abort : Option ℕ) → Env → ClientTxKind
  OfUpgrade : ClientTxKind
  OfDeletion : ClientTxKind

pub record ClientTx : Type 0 where
  pub number : ℕ
  pub kind : ClientTxKind
  pub body : TxBody Script
  pub started : Bool

pub record ClientState : Type 0 where
  pub number : ℕ
  pub tasks : List Task
  pub posts : ℕ
  pub opens : List OpenAsked
  pub txs : List ClientTx

abbrev pub fresh_env : Env
fresh_env = record { variables = []; connection = None; cursor = None }

abbrev pub fresh_client : ℕ → ℕ → ClientState
fresh_client number main = record { number = number; tasks = record { block = main; env = fresh_env } ∷ []; posts = 0; opens = []; txs = [] }

-- ---- opens and deletes
abbrev pub id_of : ClientState → ℕ → ConnId
id_of c request = record { client = c.number; request = request }

abbrev pub next_request : ClientState → ℕ
next_request c = length c.opens + 1

abbrev pub open_at : ClientState → ℕ → Option OpenAsked
open_at c request = if request == 0 then None else slice_get c.opens (request - 1)

abbrev pub given_where : Option OpenAsked → Bool
given_where None = false
given_where (Some o) = o.is_given

-- the connection of this open is the client's
abbrev pub is_clients : ClientState → ℕ → Bool
is_clients c request = given_where (open_at c request)

abbrev pub with_open : ClientState → OpenAsked → ClientState
with_open c o = record c { opens = c.opens ++ o ∷ [] }

abbrev pub with_open_at : ClientState → ℕ → OpenAsked → ClientState
with_open_at c request o = record c { opens = slice_set c.opens (request - 1) o }

-- ---- transactions
abbrev pub is_tx : ℕ → ClientTx → Bool
is_tx number tx = tx.number == number

abbrev pub tx_at : ClientState → ℕ → Option ClientTx
tx_at c number = find (is_tx number) c.txs

abbrev pub with_tx : ClientState → ClientTx → ClientState
with_tx c tx = record c { txs = c.txs ++ tx ∷ [] }

abbrev pub without_tx : ClientState → ℕ → ClientState
without_tx c number = record c { txs = filter (λ tx. not (is_tx number tx)) c.txs }

abbrev pub started_if : ℕ → ClientTx → ClientTx
started_if number tx = if is_tx number tx then record tx { started = true } else tx

abbrev pub with_started : ClientState → ℕ → ClientState
with_started c number = record c { txs = map (started_if number) c.txs }

-- ---- posts
abbrev pub with_task : ClientState → Task → ClientState
with_task c task = if nat_lt c.posts GREATEST_POST_COUNT then record c { tasks = c.tasks ++ task ∷ []; posts = c.posts + 1 } else c

abbrev pub with_notes : ClientState → List Note → ClientState
with_notes c [] = c
with_notes c (note.Line l ∷ notes) = with_notes c notes
with_notes c (note.Posted task ∷ notes) = with_notes (with_task c task) notes
