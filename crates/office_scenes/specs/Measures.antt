-- What is left to do: by it each loop of a client goes down.
--     beyond_memory         no list in memory has so many entries
--     tasks_left            the tasks that a client has, and the posts that it may still make
--     left_to               the same, with the room for its notes: each event notes a line
--     room_left             the room for the transactions that finish
use Rattle.std.specs.Prelude.{ℕ, ◌+◌, ◌-◌, ◌^◌, List, length}
use Rattle.script_runs.specs.declared.notes.Note.{Note}
use Rattle.client_machine.specs.ClientStates.{ClientState}
use Rattle.client_machine.specs.declared.limits.TheConstants.{GREATEST_POST_COUNT}

abbrev pub beyond_memory : ℕ
beyond_memory = 2 ^ 64

abbrev pub tasks_left : ClientState → ℕ
tasks_left c = length c.tasks + (GREATEST_POST_COUNT - c.posts)

abbrev pub left_to : ClientState → List Note → ℕ
left_to c notes = tasks_left c + (beyond_memory - length notes)

abbrev pub room_left : List ℕ → ℕ
room_left finish = beyond_memory - length finish
