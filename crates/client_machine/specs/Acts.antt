-- What a client does, in order.
--     Told                  what the desk tells with a step: the event that is taken, the number that is drawn, and the schema with
--                           which a front is made there
--     Act                   a line or a post; an own step of the desk; one that the desk doesn't take; a transaction that begins, as
--                           its body left it; a turn of a transaction
--     notes_of_act, notes_of_acts           what was noted, in order
--     txs_begun, turns_of   the transactions that began;  the turns of one, in order
--     written_from, lines_of_acts           the lines that the client prints; a post past the limit is refused
use Rattle.std.specs.Prelude.{ℕ, ◌+◌, nat_lt, ◌==◌, List, [], ◌∷◌, if◌then◌else◌, Option, codes}
use Rattle.std.specs.List.{flat_map}
use Rattle.idb_keys.specs.declared.names.ErrorName.{ErrorName}
use Rattle.idb_keys.specs.declared.names.ErrorName.TheVariants.{QuotaExceededError}
use Rattle.idb_schema.specs.Schemas.{SchemaData}
use Rattle.name_queues.specs.declared.events.ClientEvent.{ClientEvent}
use Rattle.desk_steps.specs.declared.steps.DeskStep.{DeskStep}
use Rattle.report_lines.specs.declared.lines.Line.{Line}
use Rattle.report_lines.specs.declared.lines.Line.TheVariants as line
use Rattle.script_runs.specs.declared.notes.Note.{Note}
use Rattle.script_runs.specs.declared.notes.Note.TheVariants as note
use Rattle.client_machine.specs.ClientStates.{ClientTx}
use Rattle.client_machine.specs.declared.limits.TheConstants.{GREATEST_POST_COUNT}

pub record Told : Type 0 where
  pub event : Option ClientEvent
  pub number : Option ℕ
  pub schema : Option SchemaData

-- of a step that isn't taken, the name by which its call is refused, if it is
pub data Act : Type 0 where
  Noted : Note → Act
  Makes : DeskStep → Told → Act
  Fails : DeskStep → Option ErrorName → Act
  Begins : ClientTx → Act
  TakesTurn : ℕ → List Note → Act

-- ---- what was noted
abbrev pub notes_of_act : Act → List Note
notes_of_act (Noted n) = n ∷ []
notes_of_act (Makes t told) = []
notes_of_act (Fails t name) = []
notes_of_act (Begins tx) = []
notes_of_act (TakesTurn number notes) = notes

abbrev pub notes_of_acts : List Act → List Note
notes_of_acts acts = flat_map notes_of_act acts

-- ---- transactions
abbrev pub tx_of_act : Act → List ClientTx
tx_of_act (Noted n) = []
tx_of_act (Makes t told) = []
tx_of_act (Fails t name) = []
tx_of_act (Begins tx) = tx ∷ []
tx_of_act (TakesTurn number notes) = []

abbrev pub txs_begun : List Act → List ClientTx
txs_begun acts = flat_map tx_of_act acts

abbrev pub turn_of_act : ℕ → Act → List (List Note)
turn_of_act number (Noted n) = []
turn_of_act number (Makes t told) = []
turn_of_act number (Fails t name) = []
turn_of_act number (Begins tx) = []
turn_of_act number (TakesTurn other notes) = if other == number then notes ∷ [] else []

abbrev pub turns_of : ℕ → List Act → List (List Note)
turns_of number acts = flat_map (turn_of_act number) acts

-- ---- lines
-- after so many posts
abbrev pub written_from : ℕ → List Note → List Line
written_from posts [] = []
written_from posts (note.Line l ∷ notes) = l ∷ written_from posts notes
written_from posts (note.Posted task ∷ notes) =
    if nat_lt posts GREATEST_POST_COUNT then written_from (posts + 1) notes
    else line.Refused (codes "post") QuotaExceededError ∷ written_from posts notes

abbrev pub lines_of_acts : List Act → List Line
lines_of_acts acts = written_from 0 (notes_of_acts acts)
