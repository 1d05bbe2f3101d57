-- How commits are cut into batches.
--     Commit, commit_of     a committed transaction: whether it is strict, and its record;  that of a trace
--     records_of_commits, batch_payload     the records of commits;  the payload that they make together
--     ends_batch            a commit is the last of its batch: it is strict, or the 64th, or with it the payload has 262,144 bytes
--     IsBelowLimits         such commits end no batch but by a strict one
--     Batched, batched      the batches that have ended, and the commits that wait;  what commits make, in their order
--     with_commit           one more commit
--     commits_in, sealed    the commits of batches, one after the other;  how many commits stand in batches that have ended
--     IsUnended, IsEnded    no commit of these is the last of its batch;  the last one is, and none before it
use Rattle.std.specs.Prelude.{◌≡◌, ℕ, ◌<◌, Bool, true, false, ◌||◌, nat_le, List, [], ◌∷◌, ◌++◌, length, map}
use Rattle.idb_keys.specs.declared.names.Durability.{Durability}
use Rattle.idb_keys.specs.declared.names.Durability.TheVariants.{Strict, Relaxed}
use Rattle.idb_calls.specs.declared.traces.TxTrace.{TxTrace}
use Rattle.record_bytes.specs.declared.records.LogRecord.{LogRecord}
use Rattle.record_bytes.specs.Spelling.{batch_spelling}
use Rattle.record_bytes.specs.Records.{recorded}
use Rattle.log_history.specs.declared.limits.TheConstants.{GREATEST_BATCH_COUNT, FULL_BATCH_BYTES}

pub record Commit : Type 0 where
  pub strict : Bool
  pub logged : LogRecord

abbrev pub is_strict : Durability → Bool
is_strict Strict = true
is_strict Relaxed = false

abbrev pub commit_of : TxTrace → Commit
commit_of trace = record { strict = is_strict trace.durability; logged = recorded trace }

abbrev pub records_of_commits : List Commit → List LogRecord
records_of_commits commits = map (λ c. c.logged) commits

abbrev pub batch_payload : List Commit → List ℕ
batch_payload commits = batch_spelling (records_of_commits commits)

-- the commits of its batch so far, it being the last of them
abbrev pub ends_batch : Commit → List Commit → Bool
ends_batch last commits = last.strict || (nat_le GREATEST_BATCH_COUNT (length commits) || nat_le FULL_BATCH_BYTES (length (batch_payload commits)))

-- fewer commits than 64, of a payload of fewer than 262,144 bytes
pub record IsBelowLimits (commits : List Commit) : Type 0 where
  pub count : length commits < GREATEST_BATCH_COUNT
  pub bytes : length (batch_payload commits) < FULL_BATCH_BYTES

pub record Batched : Type 0 where
  pub ended : List (List Commit)
  pub waiting : List Commit

abbrev pub batched_if : Bool → List (List Commit) → List Commit → Batched
batched_if true ended commits = record { ended = ended ++ commits ∷ []; waiting = [] }
batched_if false ended commits = record { ended = ended; waiting = commits }

abbrev pub with_commit : Batched → Commit → Batched
with_commit b c = batched_if (ends_batch c (b.waiting ++ c ∷ [])) b.ended (b.waiting ++ c ∷ [])

abbrev pub with_commits : Batched → List Commit → Batched
with_commits b [] = b
with_commits b (c ∷ commits) = with_commits (with_commit b c) commits

abbrev pub batched : List Commit → Batched
batched commits = with_commits (record { ended = []; waiting = [] }) commits

abbrev pub commits_in : List (List Commit) → List Commit
commits_in [] = []
commits_in (batch ∷ batches) = batch ++ commits_in batches

abbrev pub sealed : List Commit → ℕ
sealed commits = length (commits_in (batched commits).ended)

abbrev pub IsUnended : List Commit → Type 0
IsUnended commits = (front : List Commit) (c : Commit) (rest : List Commit) → commits ≡ front ++ c ∷ rest → ends_batch c (front ++ c ∷ []) ≡ false

abbrev pub IsEnded : List Commit → Type 0
IsEnded batch = (front : List Commit) × (last : Commit) × (batch ≡ front ++ last ∷ []) × IsUnended front × (ends_batch last batch ≡ true)
