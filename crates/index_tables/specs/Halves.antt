-- Lists whose members fail a test up to a place, and pass it from there on.
--     IsSplitBetween        the members before one place fail the test, and those from another on pass it
--     IsSplitAt             the same of one place
pub use Rattle.sorted_table.specs.Halves.{IsSplitBetween, IsSplitAt, StaysPassed}
