-- The fakes over memory: what callers see of them, and when a call of one fails.
--
-- one_more: a count of 64 bits, one later. Calls, no_calls: the calls of a fake. IsListed: the next one is to fail.
-- CountsCall: a call was counted. SourceState, SinkState: a source and a sink over memory.
use Rattle.std.specs.Prelude.{◌≡◌, ℕ, ◌+◌, ◌-◌, ◌^◌, min, List, Contains, Result, is_ok, if◌then◌else◌}

-- One more, for a count of 64 bits, which stands still at its end.
abbrev pub one_more : ℕ → ℕ
one_more n = min (n + 1) (2 ^ 64 - 1)

-- The calls of a fake: how many were made, the numbers of those that are to fail, and how many failed.
pub record Calls : Type 0 where
  pub made : ℕ
  pub fail_at : List ℕ
  pub faults : ℕ

-- no call was made yet
abbrev pub no_calls : List ℕ → Calls
no_calls fail_at = record { made = 0; fail_at = fail_at; faults = 0 }

-- The next call is listed among those that are to fail. The first call has the number 1.
abbrev pub IsListed : Calls → Type 0
IsListed calls = Contains calls.fail_at (one_more calls.made)

-- A call was made and counted, and counted as a fault where it failed. The list stays.
pub record CountsCall {T E : Type 0} (old new : Calls) (result : Result T E) : Type 0 where
  pub made : new.made ≡ one_more old.made
  pub fail_at : new.fail_at ≡ old.fail_at
  pub faults : new.faults ≡ (if is_ok result then old.faults else one_more old.faults)

-- A source over memory: the bytes that are left, and its calls.
pub record SourceState : Type 0 where
  pub left : List ℕ
  pub calls : Calls

-- A sink over memory: the bytes that it holds, how many it can hold in all, and its calls.
pub record SinkState : Type 0 where
  pub held : List ℕ
  pub room : ℕ
  pub calls : Calls
