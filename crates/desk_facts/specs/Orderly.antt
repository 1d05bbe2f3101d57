-- What every allowed run of a desk keeps.
--     asked_at              the name of the database that an open or a delete was asked of
--     IsOrderly             names, queues and inboxes are as `IsQueued` says; of each open or delete one thing alone stands: it
--                           waits, it runs, or the event that ends it was sent; what runs has its event in an inbox or its
--                           transaction on the board; connections count their transactions; and a client that has a connection has
--                           one that neither waits nor is upgraded
use Rattle.std.specs.Prelude.{◌≡◌, ◌≤◌, ℕ, ◌+◌, Bool, true, List, Option}
use Rattle.name_queues.specs.declared.ids.ConnId.{ConnId}
use Rattle.idb_desk.specs.Desks.{DeskState, name_asked_by, stand_of}
use Rattle.idb_desk.specs.Refusals.{is_given}
use Rattle.queue_facts.specs.Counts.{Whole}
use Rattle.queue_facts.specs.Queued.{waiting, running_by, running, held_txs, ending, beginning, IsQueued}
use Rattle.desk_facts.specs.Drawn.{whole_by, plain_of}

abbrev pub asked_at : DeskState → ConnId → Option (List ℕ)
asked_at d who = name_asked_by d.board.clients who

pub record IsOrderly (d : DeskState) : Type 0 where
  pub queued : IsQueued (asked_at d) d.queues.names d.queues.mails
  pub once : (who : ConnId) → waiting who d.queues.names + running who d.queues.names + ending who d.queues.mails ≤ 1
  pub begun : (test : ConnId → Whole → Bool) → running_by test d.queues.names ≡ beginning test d.queues.mails + whole_by test d.board.drawn
  pub counted : (who : ConnId) → plain_of who d.board.drawn ≤ held_txs who d.queues.names
  pub given : (who : ConnId) → is_given (stand_of d.board.clients who) ≡ true → waiting who d.queues.names + running who d.queues.names ≡ 0
