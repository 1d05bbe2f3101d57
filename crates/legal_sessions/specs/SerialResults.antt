-- What became of the transactions of a session is what their runs one by one give.
--     begun_by              the transactions that began, each with its client's acts
--     number_of_begun, number_of_entry      their numbers
--     leaving_of            the outcome with which a transaction left, and the schema that it kept
--     is_started, has_left  whether it was started;  whether it left
--     IsEntryOf, AreEntriesOf       what became of a transaction is told by its client's acts and by the steps
--     HasSerialResults      all of them
use Rattle.std.specs.Prelude.{◌≡◌, ℕ, Bool, false, ◌==◌, List, [], ◌∷◌, ◌++◌, map, if◌then◌else◌, Option, Some, None, ⊤}
use Rattle.std.specs.List.{list_any}
use Rattle.std.specs.List.Sorted.{IsPermutation}
use Rattle.idb_schema.specs.Schemas.{SchemaData}
use Rattle.idb_calls.specs.declared.traces.Outcome.{Outcome}
use Rattle.desk_steps.specs.declared.steps.DeskStep.{DeskStep}
use Rattle.desk_steps.specs.declared.steps.DeskStep.TheVariants as step
use Rattle.item_changes.specs.Items.{Items}
use Rattle.client_machine.specs.FinishEntries.{FinishEntry}
use Rattle.client_machine.specs.SerialRuns.{IsSerial}
use Rattle.client_machine.specs.NumberOrder.{by_number}
use Rattle.script_runs.specs.declared.notes.Note.{Note}
use Rattle.script_handlers.specs.Handling.{Script, ScriptReacts, ScriptWrites}
use Rattle.client_machine.specs.Acts.{Act, txs_begun, turns_of}
use Rattle.client_machine.specs.ClientStates.{ClientTx}
use Rattle.legal_sessions.specs.Histories.{SessionHistory}

pub record BegunTx : Type 0 where
  pub acts : List Act
  pub tx : ClientTx

abbrev pub begun_in : List Act → ClientTx → BegunTx
begun_in acts tx = record { acts = acts; tx = tx }

abbrev pub begun_by : List (List Act) → List BegunTx
begun_by [] = []
begun_by (acts ∷ more) = map (begun_in acts) (txs_begun acts) ++ begun_by more

abbrev pub number_of_begun : BegunTx → ℕ
number_of_begun b = b.tx.number

abbrev pub number_of_entry : FinishEntry Script Note → ℕ
number_of_entry e = e.number

-- ---- what the steps tell
abbrev pub leaving_of : List DeskStep → ℕ → Option (Outcome × Option SchemaData)
leaving_of [] number = None
leaving_of (step.Leaves client left outcome kept ∷ ts) number = if left == number then Some (outcome, kept) else leaving_of ts number
leaving_of (step.Asks who name want ∷ ts) number = leaving_of ts number
leaving_of (step.Takes client ∷ ts) number = leaving_of ts number
leaving_of (step.Handles client ∷ ts) number = leaving_of ts number
leaving_of (step.Closes who ∷ ts) number = leaving_of ts number
leaving_of (step.Creates drawn who scope m durability ∷ ts) number = leaving_of ts number
leaving_of (step.Starts client started ∷ ts) number = leaving_of ts number
leaving_of (step.Faults ∷ ts) number = leaving_of ts number

abbrev pub is_start_of : ℕ → DeskStep → Bool
is_start_of number (step.Starts client started) = started == number
is_start_of number _ = false

abbrev pub is_started : List DeskStep → ℕ → Bool
is_started order number = list_any (is_start_of number) order

abbrev pub is_leaving_of : ℕ → DeskStep → Bool
is_leaving_of number (step.Leaves client left outcome kept) = left == number
is_leaving_of number _ = false

abbrev pub has_left : List DeskStep → ℕ → Bool
has_left order number = list_any (is_leaving_of number) order

-- ---- what became of them
pub record IsEntryOf (order : List DeskStep) (b : BegunTx) (e : FinishEntry Script Note) : Type 0 where
  pub number : e.number ≡ b.tx.number
  pub body : e.body ≡ b.tx.body
  pub turns : e.turns ≡ turns_of b.tx.number b.acts
  pub started : e.started ≡ is_started order b.tx.number
  pub left : leaving_of order b.tx.number ≡ Some (e.outcome, e.kept)

abbrev pub AreEntriesOf : List DeskStep → List BegunTx → List (FinishEntry Script Note) → Type 0
AreEntriesOf order [] [] = ⊤
AreEntriesOf order (b ∷ bs) (e ∷ es) = IsEntryOf order b e × AreEntriesOf order bs es
AreEntriesOf order [] (e ∷ es) = ⊥
AreEntriesOf order (b ∷ bs) [] = ⊥

-- each transaction that began is finished once, and what became of it is what its run in the order of the numbers gives
pub record HasSerialResults (opening : Items) (h : SessionHistory) : Type 0 where
  pub finished : List BegunTx
  pub all : IsPermutation (begun_by h.acts) finished
  pub entries : AreEntriesOf h.order finished h.finish
  pub serial : IsSerial ScriptReacts ScriptWrites opening (by_number h.finish)
