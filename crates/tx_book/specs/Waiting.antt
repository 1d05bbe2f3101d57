-- The commits that wait, as the bytes of the batch that they begin.
--     ROOM                   eight bytes for the length of the batch, and four for the count of its records, stand in front
--     relaxed                the commits of records of which none is strict
--     waiting_in             the records that so many spellings behind the room stand for
--     AreSpelled             they are what the bytes spell, and one more can be counted
use Rattle.std.specs.Prelude.{◌≡◌, ℕ, zero, suc, ◌≤◌, false, List, [], ◌++◌, length, map, drop}
use Rattle.std.specs.List.{flat_map, AllByRecursion}
use Rattle.value_bytes.specs.Spelling.{count_bytes}
use Rattle.record_bytes.specs.declared.records.LogRecord.{LogRecord}
use Rattle.record_bytes.specs.Records.{IsRecord}
use Rattle.record_bytes.specs.Spelling.{record_spelling}
use Rattle.log_history.specs.Replayed.{records_of_payload}
use Rattle.log_history.specs.Batching.{Commit}
use Rattle.tx_book.specs.declared.waiting.TheConstants.{ROOM}

abbrev pub relaxed : List LogRecord → List Commit
relaxed records = map (λ r. record { strict = false; logged = r }) records

abbrev pub waiting_in : ℕ → List ℕ → List LogRecord
waiting_in zero bytes = []
waiting_in (suc n) bytes = records_of_payload (count_bytes (suc n) ++ drop ROOM bytes)

pub record AreSpelled (count : ℕ) (bytes : List ℕ) (records : List LogRecord) : Type 0 where
  pub counted : length records ≡ count
  pub few : count ≤ 64
  pub roomy : 1 ≤ count → ROOM ≤ length bytes
  pub spelled : drop ROOM bytes ≡ flat_map record_spelling records
  pub each : AllByRecursion IsRecord records
