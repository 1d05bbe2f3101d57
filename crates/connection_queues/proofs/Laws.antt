-- What other crates cite: what is kept for a name, as every run of the desk keeps it.
--     IsSteady, HasFew, IsWantedFrom, RunsFrom     what is kept
--     steady_blank, steady_queued, steady_conn     a name without a database, one more request, one connection more
--     steady_settled, steady_closed, steady_tx, steady_upgraded, steady_deleted, steady_faulted     as its queue moves
pub use Rattle.connection_queues.proofs.Steady.{HasFew, IsSteady, IsWantedFrom, RunsFrom, steady_blank, steady_closed, steady_conn, steady_deleted, steady_faulted, steady_queued, steady_settled, steady_tx, steady_upgraded}
