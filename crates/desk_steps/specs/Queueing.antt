-- The queues after a step.
--     settled_at            the queue of a name has moved as far as it can
--     settled_where         the same, where there is a name
--     is_moved              the queue moved
--     rests_at_all          no queue could move
--     same_first            the first name that passes one test is the first that passes the other
use Rattle.std.specs.Prelude.{ℕ, Bool, true, false, not, ◌&&◌, if◌then◌else◌, List, [], ◌∷◌, Option, Some, None, is_none}
use Rattle.std.specs.List.{list_all}
use Rattle.name_queues.specs.Names.{is_name}
use Rattle.name_queues.specs.Moves.{turned}
use Rattle.connection_queues.specs.Machine.{QueueState, moved_at}
use Rattle.name_queues.specs.declared.names.Named.{Named}
use Rattle.name_queues.specs.declared.turns.Turn.{Turn}
use Rattle.name_queues.specs.declared.turns.Turn.TheVariants as turn
use Rattle.connection_queues.specs.Runs.{settled_name}

-- the queue of this name has moved as far as it can
abbrev pub settled_at : QueueState → List ℕ → QueueState
settled_at q name = moved_at (is_name name) settled_name q

abbrev pub settled_where : QueueState → Option (List ℕ) → QueueState
settled_where q None = q
settled_where q (Some name) = settled_at q name

abbrev pub is_moved : Turn → Bool
is_moved turn.Moved = true
is_moved turn.Empty = false
is_moved (turn.Waiting connection) = false
is_moved turn.Running = false

-- no queue could move
abbrev pub rests_at_all : QueueState → Bool
rests_at_all q = list_all (λ n. is_none (turned n)) q.names

-- the first name that passes one test is the first that passes the other
abbrev pub same_first : (Named → Bool) → (Named → Bool) → List Named → Bool
same_first test other [] = true
same_first test other (n ∷ ns) = if test n then other n else not (other n) && same_first test other ns
