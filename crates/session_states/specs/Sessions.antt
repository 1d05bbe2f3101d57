-- What is held of a session while it runs.
--     SeatNow               a client, and what it noted so far
--     SessionNow            the run of the desk, the clients, the numbers of the transactions that finished, those that committed
--                           and may write, as a log has them, those in doubt, as it would have them, and the databases
--     commit_numbers        the numbers of these
--     fresh_session         before any step
--     with_seat             the desk and one client have moved
--     with_finished         a transaction is finished
--     with_fault            the host is faulted
--     IsAtEnd               nobody has anything left to do
--     report_now            what the session reports then, where its log ended so
use Rattle.std.specs.Prelude.{◌≡◌, ℕ, ◌+◌, List, [], ◌∷◌, ◌++◌, map, slice_set, None}
use Rattle.std.specs.List.{AllByRecursion}
use Rattle.std.specs.FinMap as finite
use Rattle.idb_schema.specs.Schemas.{SchemaData}
use Rattle.name_queues.specs.Mails.{events_of}
use Rattle.desk_steps.specs.declared.steps.DeskStep.TheVariants as step
use Rattle.idb_desk.specs.Steps.{DeskRun, desk_run, with_step}
use Rattle.idb_desk.specs.Tokens.{token_of}
use Rattle.idb_desk.specs.Waiting.{pending_of}
use Rattle.item_changes.specs.Items.{Items}
use Rattle.item_changes.specs.Effects.{applied_all}
use Rattle.log_history.specs.Batching.{Commit}
use Rattle.log_history.specs.Kept.{End}
use Rattle.report_lines.specs.declared.reports.Report.{Report}
use Rattle.client_ties.specs.FinishEntries.{FinishEntry, changes_kept}
use Rattle.script_statements.specs.declared.script.Client.{Client}
use Rattle.script_runs.specs.declared.notes.Note.{Note}
use Rattle.script_handlers.specs.Handling.{Script}
use Rattle.client_ties.specs.Acts.{written_from}
use Rattle.client_ties.specs.ClientStates.{ClientState, fresh_client}
use Rattle.client_ties.specs.Unfinished.{least_of}
use Rattle.legal_sessions.specs.Legal.{has_of, records_logged, records_in_doubt, commits_at, report_end}

pub record SeatNow : Type 0 where
  pub client : ClientState
  pub notes : List Note

pub record SessionNow : Type 0 where
  pub run : DeskRun
  pub seats : List SeatNow
  pub finish : List ℕ
  pub commits : List Commit
  pub doubts : List Commit
  pub items : Items

-- ---- the beginning
-- the clients are numbered from this number on
abbrev pub fresh_seats : ℕ → List Client → List SeatNow
fresh_seats number [] = []
fresh_seats number (client ∷ clients) = record { client = fresh_client number client.main; notes = [] } ∷ fresh_seats (number + 1) clients

abbrev pub fresh_session : List Client → List SchemaData → Items → SessionNow
fresh_session clients schemas items = record {
  run = record { opening = schemas; order = [] };
  seats = fresh_seats 1 clients;
  finish = [];
  commits = [];
  doubts = [];
  items = items;
}

-- ---- what changes
-- the client of this place, counted from 0
abbrev pub with_seat : ℕ → DeskRun → SeatNow → SessionNow → SessionNow
with_seat place r seat now = record now { run = r; seats = slice_set now.seats place seat }

abbrev pub with_finished : FinishEntry Script Note → SessionNow → SessionNow
with_finished e now = record now {
  finish = now.finish ++ e.number ∷ [];
  commits = now.commits ++ commits_at now.run.order (records_logged (e ∷ []));
  doubts = now.doubts ++ commits_at now.run.order (records_in_doubt (e ∷ []));
  items = applied_all now.items (changes_kept e);
}

-- it is nobody's step
abbrev pub with_fault : SessionNow → SessionNow
with_fault now = record now { run = with_step now.run step.Faults }

abbrev pub commit_numbers : List Commit → List ℕ
commit_numbers commits = map (λ (c : Commit). c.logged.number) commits

-- ---- the end
pub record IsAtEnd (now : SessionNow) : Type 0 where
  pub no_task : AllByRecursion (λ (s : SeatNow). s.client.tasks ≡ []) now.seats
  pub no_event : AllByRecursion (λ (s : SeatNow). events_of (desk_run now.run).queues.mails s.client.number ≡ []) now.seats
  pub no_transaction : least_of (desk_run now.run) ≡ None

abbrev pub report_now : ℕ → Items → SessionNow → End → Report
report_now number opening now log_end = record {
  session = number;
  opening = map has_of (finite.entries opening);
  clients = map (λ (s : SeatNow). written_from 0 s.notes) now.seats;
  order = map token_of now.run.order;
  finish = now.finish;
  commits = commit_numbers now.commits;
  pending = pending_of (desk_run now.run);
  end = report_end log_end;
}
