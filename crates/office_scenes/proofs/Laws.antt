-- What other crates may cite of scenes.
--     Places                one place of a list, set
--     Logging               what is logged of a transaction that finishes
--     StepLaws              a driver goes on with each step, where the session's laws say so
--     Lessening             each step leaves less to do
--     Standing              what stands in an office stands behind each step
pub use Rattle.office_scenes.proofs.Places.{get_here, set_same, set_twice}
pub use Rattle.office_scenes.proofs.Logging.{LogLaws, finish_logged}
pub use Rattle.office_scenes.proofs.StepLaws.{CancelLaw, DoubtLaw, EventLaw, FaultLaws, FinishLaw, HostLaw, StartLaw, TaskLaw, TurnLaw, driven_cancel, driven_doubt, driven_event, driven_finish, driven_host, driven_start, driven_task, driven_turn, never_commits}
pub use Rattle.office_scenes.proofs.Lessening.{ends_left, event_less, event_more, left_same, left_still, lt_le, one_less, posted_left, task_less}
pub use Rattle.office_scenes.proofs.Standing.{AbortedLaw, FinishesLaw, HeldStartedLaw, allowed_aborted, allowed_finish, finish_can, held_behind, held_turn, holds_started, loggable_at, never_stray, not_begun, stands_behind, there_at, turn_can, whole_at, works_on, works_still}
