-- The steps as an order lists them, and those of one client.
--     client_of, is_step_of whose step it is
--     token_of              the step as a report lists it
use Rattle.std.specs.Prelude.{ℕ, Bool, false, ◌==◌, Option, Some, None}
use Rattle.idb_calls.specs.declared.orders.Token.{Token}
use Rattle.idb_calls.specs.declared.orders.Token.TheVariants as token
use Rattle.desk_steps.specs.declared.steps.DeskStep.{DeskStep}
use Rattle.desk_steps.specs.declared.steps.DeskStep.TheVariants as step

-- the client whose step it is; a fault is nobody's
abbrev pub client_of : DeskStep → Option ℕ
client_of (step.Asks who name want) = Some who.client
client_of (step.Takes client) = Some client
client_of (step.Handles client) = Some client
client_of (step.Closes who) = Some who.client
client_of (step.Creates number who scope m durability) = Some who.client
client_of (step.Starts client number) = Some client
client_of (step.Leaves client number ended kept) = Some client
client_of step.Faults = None

abbrev pub is_some_client : ℕ → Option ℕ → Bool
is_some_client client None = false
is_some_client client (Some c) = c == client

abbrev pub is_step_of : ℕ → DeskStep → Bool
is_step_of client t = is_some_client client (client_of t)

-- the step as a report lists it
abbrev pub token_of : DeskStep → Token
token_of (step.Asks who name want) = token.Asked who.client who.request
token_of (step.Takes client) = token.Took client
token_of (step.Handles client) = token.Handled client
token_of (step.Closes who) = token.Closed who.client who.request
token_of (step.Creates number who scope m durability) = token.Created number who.client
token_of (step.Starts client number) = token.Started number
token_of (step.Leaves client number ended kept) = token.Left number
token_of step.Faults = token.Faulted
