-- Where a client sits at the desk: what ties what it keeps to what the desk keeps of it.
--     open_names, asked_names       the names of its opens and deletes, as it keeps them;  as the desk does
--     tx_numbers            the numbers of its transactions
--     IsSeated              both keep the same opens and deletes; its transactions stand by the numbers that the desk drew
--     SitsAlike             two states of a client that differ in its tasks alone
--     ask_step              the step by which it asks its next open or delete
--     is_ask_of             the step is an ask of this client
use Rattle.std.specs.Prelude.{◌≡◌, ℕ, ◌≤◌, ◌==◌, Bool, false, List, length, map}
use Rattle.name_queues.specs.declared.asks.Wants.{Wants}
use Rattle.scope_desk.specs.Rising.{IsRising, AreAllBelow}
use Rattle.idb_desk.specs.declared.allowing.TheConstants.{GREATEST_ASK_COUNT}
use Rattle.desk_steps.specs.declared.steps.DeskStep.{DeskStep}
use Rattle.desk_steps.specs.declared.steps.DeskStep.TheVariants as step
use Rattle.idb_desk.specs.Desks.{DeskState, asks_of}
use Rattle.idb_desk.specs.Steps.{DeskRun, desk_run}
use Rattle.item_changes.specs.Items.{Name}
use Rattle.client_machine.specs.ClientStates.{OpenAsked, ClientTx, ClientState, id_of, next_request}

abbrev pub open_names : List OpenAsked → List Name
open_names opens = map (λ o. o.name) opens

abbrev pub asked_names : DeskState → ℕ → List Name
asked_names d client = map (λ r. r.name) (asks_of d.board.clients client)

abbrev pub tx_numbers : List ClientTx → List ℕ
tx_numbers txs = map (λ tx. tx.number) txs

-- The desk asks of a client no more than its limit, and so the client has no more. Each open has the same name on both sides.
pub record IsSeated (c : ClientState) (r : DeskRun) : Type 0 where
  pub few : length c.opens ≤ GREATEST_ASK_COUNT
  pub asked : open_names c.opens ≡ asked_names (desk_run r) c.number
  pub rising : IsRising (tx_numbers c.txs)
  pub below : AreAllBelow (desk_run r).board.scopes.next (tx_numbers c.txs)

pub record SitsAlike (c d : ClientState) : Type 0 where
  pub number : d.number ≡ c.number
  pub opens : d.opens ≡ c.opens
  pub txs : d.txs ≡ c.txs

abbrev pub ask_step : ClientState → OpenAsked → Wants → DeskStep
ask_step c o wants = step.Asks (id_of c (next_request c)) o.name wants

abbrev pub is_ask_of : ℕ → DeskStep → Bool
is_ask_of client (step.Asks who name wants) = who.client == client
is_ask_of client (step.Takes other) = false
is_ask_of client (step.Handles other) = false
is_ask_of client (step.Closes who) = false
is_ask_of client (step.Creates number who scope m durability) = false
is_ask_of client (step.Starts other number) = false
is_ask_of client (step.Leaves other number ended kept) = false
is_ask_of client step.Faults = false
