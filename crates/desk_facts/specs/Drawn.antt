-- The transactions that drew a number and aren't finished.
--     is_unfinished         it isn't finished
--     whole_by              how many upgrades and deletions of these pass a test
--     plain_of              how many of these a client created on this connection
use Rattle.std.specs.Prelude.{ℕ, Bool, List}
use Rattle.name_queues.specs.Names.{is_id}
use Rattle.name_queues.specs.declared.ids.ConnId.{ConnId}
use Rattle.desk_steps.specs.declared.stands.DrawnTx.{DrawnTx}
use Rattle.desk_steps.specs.declared.stands.TxKind.{TxKind}
use Rattle.desk_steps.specs.declared.stands.TxKind.TheVariants as kind
use Rattle.desk_steps.specs.declared.stands.TxStage.{TxStage}
use Rattle.desk_steps.specs.declared.stands.TxStage.TheVariants as stage
use Rattle.queue_facts.specs.Counts.{one_if, tally, Whole, Upgrades, Deletes}

abbrev pub whole_of_kind : (ConnId → Whole → Bool) → ConnId → TxKind → ℕ
whole_of_kind test who kind.Plain = 0
whole_of_kind test who (kind.Upgrade version) = one_if (test who (Upgrades version))
whole_of_kind test who kind.Deletion = one_if (test who Deletes)

abbrev pub plain_of_kind : ConnId → ConnId → TxKind → ℕ
plain_of_kind who w kind.Plain = one_if (is_id w who)
plain_of_kind who w (kind.Upgrade version) = 0
plain_of_kind who w kind.Deletion = 0

-- so many, where it isn't finished
abbrev pub unfinished_count : TxStage → ℕ → ℕ
unfinished_count stage.Created count = count
unfinished_count stage.Started count = count
unfinished_count stage.Finished count = 0

abbrev pub one_whole : (ConnId → Whole → Bool) → DrawnTx → ℕ
one_whole test t = unfinished_count t.stage (whole_of_kind test t.who t.kind)

abbrev pub one_plain : ConnId → DrawnTx → ℕ
one_plain who t = unfinished_count t.stage (plain_of_kind who t.who t.kind)

-- how many upgrades and deletions pass the test
abbrev pub whole_by : (ConnId → Whole → Bool) → List DrawnTx → ℕ
whole_by test drawn = tally (one_whole test) drawn

-- how many were created on this connection
abbrev pub plain_of : ConnId → List DrawnTx → ℕ
plain_of who drawn = tally (one_plain who) drawn
