-- What other crates may cite of the states of a transaction.
--     KeyLaws               the laws of keys, which callers hand in
--     becomes_waits         through calls each waiting entry was checked
--     runnable              a state has what the entry that is run needs
--     upgrade_step          what a call of an upgrade leaves
--     state_fresh, turn_state, run_state            what states meet
--     limits_fresh, turn_limits, scope_fresh, turn_scope, goes_scope, scope_made, goes_in_scope     limits and scopes
pub use Rattle.machine_laws.proofs.Checking.{KeyLaws, becomes_waits}
pub use Rattle.machine_laws.proofs.Upgrading.{Stepped, upgrade_step}
pub use Rattle.machine_laws.proofs.Keeping.{runnable, state_fresh, turn_state, run_state}
pub use Rattle.machine_laws.proofs.Limiting.{limits_fresh, turn_limits}
pub use Rattle.machine_laws.proofs.Scoping.{scope_fresh, turn_scope, goes_scope, scope_made, goes_in_scope}
pub use Rattle.list_machine.proofs.Laws.{Below, both_true, goes_keeps}
