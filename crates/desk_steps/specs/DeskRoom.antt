-- The steps for which room is kept: those that what stands can still make and that take no memory.
--     owed_steps            how many these are
--     wants_memory          the step may want memory
use Rattle.std.specs.Prelude.{ℕ, ◌+◌, Bool, true, false, List, [], ◌∷◌, length}
use Rattle.desk_steps.specs.declared.stands.DeskRequest.{DeskRequest}
use Rattle.desk_steps.specs.declared.stands.DrawnTx.{DrawnTx}
use Rattle.desk_steps.specs.declared.stands.Stand.{Stand}
use Rattle.desk_steps.specs.declared.stands.Stand.TheVariants as stand
use Rattle.desk_steps.specs.declared.stands.TxStage.{TxStage}
use Rattle.desk_steps.specs.declared.stands.TxStage.TheVariants as stage
use Rattle.desk_steps.specs.declared.steps.DeskStep.{DeskStep}
use Rattle.desk_steps.specs.declared.steps.DeskStep.TheVariants as step
use Rattle.desk_steps.specs.Desks.{DeskState, ClientStand}

-- an open can be closed once
abbrev pub stand_owes : Stand → ℕ
stand_owes stand.Asked = 1
stand_owes stand.Upgrading = 1
stand_owes stand.Given = 1
stand_owes stand.Shut = 0

-- the sum of what these owe
abbrev pub owed_by : {A : Type 0} → (A → ℕ) → List A → ℕ
owed_by owes [] = 0
owed_by owes (x ∷ xs) = owes x + owed_by owes xs

abbrev pub request_owes : DeskRequest → ℕ
request_owes r = stand_owes r.stand

-- each versionchange event that was taken can be handled once
abbrev pub client_owes : ClientStand → ℕ
client_owes c = owed_by request_owes c.requests + length c.changes

-- a transaction can start and finish
abbrev pub stage_owes : TxStage → ℕ
stage_owes stage.Created = 2
stage_owes stage.Started = 1
stage_owes stage.Finished = 0

abbrev pub tx_owes : DrawnTx → ℕ
tx_owes t = stage_owes t.stage

abbrev pub fault_owes : Bool → ℕ
fault_owes true = 0
fault_owes false = 1

-- the fault comes once
abbrev pub owed_steps : DeskState → ℕ
owed_steps d = owed_by client_owes d.board.clients + owed_by tx_owes d.board.drawn + fault_owes d.board.is_faulted

-- asking, taking and creating may want memory
abbrev pub wants_memory : DeskStep → Bool
wants_memory (step.Asks who name want) = true
wants_memory (step.Takes client) = true
wants_memory (step.Handles client) = false
wants_memory (step.Closes who) = false
wants_memory (step.Creates number who scope m durability) = true
wants_memory (step.Starts client number) = false
wants_memory (step.Leaves client number ended kept) = false
wants_memory step.Faults = false
