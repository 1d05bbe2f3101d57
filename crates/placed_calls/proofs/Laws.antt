-- What other crates may cite of the calls that wait.
--     becomes_fit           a front that was fit is fit, whatever its calls make of it
--     handled_fit           so it is after a handler
--     rest_fit              and without its first entry, which is fit
--     turned_fit            and where a cursor has moved to a key
--     cursor_fit            the cursor of a number is at a key
pub use Rattle.placed_calls.proofs.Fitting.{becomes_fit, handled_fit, rest_fit, turned_fit, cursor_fit}
