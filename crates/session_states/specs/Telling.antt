-- What steps and acts tell of a transaction.
--     ToldTx, told_of       whether it was started, the outcome with which it left and the schema that it kept, and its turns
--     nothing_told          of one that wasn't begun
--     told_by_entry         of one that finished
--     BegunAt               a transaction that began, with the place of its client
--     begun_from            those of clients from this place on
--     acts_at, txs_at       the acts of the client of a place;  its transactions among these
--     shown_begun           as the desk shows it
--     as_begun              as its body left it
--     RunningTx             the one that runs: its number, what it began with, and its turns so far
--     told_so_far           what is told of one that isn't finished
use Rattle.std.specs.Prelude.{ℕ, ◌+◌, Bool, false, ◌==◌, List, [], ◌∷◌, ◌++◌, map, slice_get, if◌then◌else◌, Option, Some, None}
use Rattle.idb_schema.specs.Schemas.{SchemaData}
use Rattle.idb_calls.specs.declared.traces.Outcome.{Outcome}
use Rattle.desk_steps.specs.declared.steps.DeskStep.{DeskStep}
use Rattle.client_ties.specs.FinishEntries.{TxBody, FinishEntry}
use Rattle.script_runs.specs.declared.notes.Note.{Note}
use Rattle.script_handlers.specs.Handling.{Script}
use Rattle.client_ties.specs.Acts.{Act, txs_begun, turns_of}
use Rattle.client_ties.specs.ClientStates.{ClientTx}
use Rattle.client_ties.specs.Unfinished.{UnfinishedTx}
use Rattle.client_ties.specs.Ties.{shown_tx}
use Rattle.legal_sessions.specs.SerialResults.{leaving_of, is_started}

pub record ToldTx : Type 0 where
  pub started : Bool
  pub left : Option (Outcome × Option SchemaData)
  pub turns : List (List Note)

-- by the steps of the desk and its client's acts
abbrev pub told_of : List DeskStep → List Act → ℕ → ToldTx
told_of order acts number = record { started = is_started order number; left = leaving_of order number; turns = turns_of number acts }

abbrev pub nothing_told : ToldTx
nothing_told = record { started = false; left = None; turns = [] }

abbrev pub told_by_entry : FinishEntry Script Note → ToldTx
told_by_entry e = record { started = e.started; left = Some (e.outcome, e.kept); turns = e.turns }

-- ---- transactions that began
-- clients have places from 0 on, and numbers from 1 on
pub record BegunAt : Type 0 where
  pub place : ℕ
  pub tx : ClientTx

abbrev pub begun_at : ℕ → ClientTx → BegunAt
begun_at place tx = record { place = place; tx = tx }

abbrev pub begun_from : ℕ → List (List Act) → List BegunAt
begun_from place [] = []
begun_from place (acts ∷ more) = map (begun_at place) (txs_begun acts) ++ begun_from (place + 1) more

abbrev pub acts_where : Option (List Act) → List Act
acts_where None = []
acts_where (Some acts) = acts

abbrev pub acts_at : List (List Act) → ℕ → List Act
acts_at acts place = acts_where (slice_get acts place)

abbrev pub txs_at : ℕ → List BegunAt → List ClientTx
txs_at place [] = []
txs_at place (b ∷ bs) = if b.place == place then b.tx ∷ txs_at place bs else txs_at place bs

abbrev pub shown_begun : BegunAt → UnfinishedTx
shown_begun b = shown_tx (b.place + 1) b.tx

abbrev pub as_begun : BegunAt → BegunAt
as_begun b = record b { tx = record b.tx { started = false } }

-- ---- the one that runs
pub record RunningTx : Type 0 where
  pub number : ℕ
  pub body : TxBody Script
  pub turns : List (List Note)

abbrev pub is_running : Option RunningTx → ℕ → Bool
is_running None number = false
is_running (Some t) number = t.number == number

abbrev pub turns_so_far : Option RunningTx → ℕ → List (List Note)
turns_so_far None number = []
turns_so_far (Some t) number = if t.number == number then t.turns else []

-- what it began with, where it runs
abbrev pub body_so_far : Option RunningTx → BegunAt → TxBody Script
body_so_far None b = b.tx.body
body_so_far (Some t) b = if t.number == b.tx.number then t.body else b.tx.body

abbrev pub told_so_far : Option RunningTx → ℕ → ToldTx
told_so_far running number = record { started = is_running running number; left = None; turns = turns_so_far running number }
