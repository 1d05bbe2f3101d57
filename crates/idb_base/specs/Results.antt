-- What a call that reads something returns.
--     Gives                 what was returned is what a definition of reading gives
use Rattle.std.specs.Prelude.{◌≡◌, Option, Some, Result, Ok, Err}

-- What was returned, seen by view, is what reading gives; an error has the meaning that refuses tells, which for want
-- of memory is nothing.
abbrev pub Gives : {E X Y : Type 0} → (E → Option Y → Type 0) → (X → Y) → Result X E → Option Y → Type 0
Gives refuses view (Ok x) read = read ≡ Some (view x)
Gives refuses view (Err e) read = refuses e read
