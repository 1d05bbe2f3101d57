-- The text of a report.
--     text_of_report        the lines of the report, each with its line feed
--     lines_of_report       the session, the databases of its opening, the lines of each client, the order of the desk's steps,
--                           the finished and the committed transactions, what still waits, and the end
--     words_of_has, lines_of_clients, word_of_token, words_of_pending      the parts
use Rattle.std.specs.Prelude.{ℕ, ◌+◌, Bool, true, false, List, [], ◌∷◌, ◌++◌, map, codes, decimal}
use Rattle.clone_values.specs.Tree.{text}
use Rattle.idb_calls.specs.declared.orders.Token.{Token}
use Rattle.idb_calls.specs.declared.orders.Token.TheVariants as token
use Rattle.idb_calls.specs.declared.orders.Pending.{Pending}
use Rattle.report_lines.specs.LineWords.{words_of_line}
use Rattle.report_lines.specs.Words.{text_of_lines, word_of_value}
use Rattle.report_lines.specs.declared.lines.Line.{Line}
use Rattle.report_lines.specs.declared.reports.Has.{Has}
use Rattle.report_lines.specs.declared.reports.Report.{Report}
use Rattle.report_lines.specs.declared.reports.ReportEnd.{ReportEnd}
use Rattle.report_lines.specs.declared.reports.ReportEnd.TheVariants as ends

-- a database: its name as JSON, and its version
abbrev pub words_of_has : Has → List (List ℕ)
words_of_has database = codes "has" ∷ word_of_value (text database.name) ∷ decimal database.version ∷ []

-- each client from this number on, followed by its lines
abbrev pub lines_of_clients : ℕ → List (List Line) → List (List (List ℕ))
lines_of_clients number [] = []
lines_of_clients number (lines ∷ clients) = (codes "client" ∷ decimal number ∷ []) ∷ map words_of_line lines ++ lines_of_clients (number + 1) clients

-- a number of a client and one of its open or delete, with a dot between
abbrev pub dotted : ℕ → ℕ → List ℕ
dotted first second = decimal first ++ 46 ∷ decimal second

-- a step of the desk: a letter for its kind, and what it is about
unfoldable pub word_of_token : Token → List ℕ
word_of_token (token.Asked client request) = 97 ∷ dotted client request
word_of_token (token.Took client) = 101 ∷ decimal client
word_of_token (token.Handled client) = 100 ∷ decimal client
word_of_token (token.Closed client request) = 120 ∷ dotted client request
word_of_token (token.Created number client) = 116 ∷ dotted number client
word_of_token (token.Started number) = 115 ∷ decimal number
word_of_token (token.Left number) = 102 ∷ decimal number
word_of_token token.Faulted = 122 ∷ []

-- whether it waits for a connection, or stands behind a request
abbrev pub word_of_waiting : Bool → List ℕ
word_of_waiting true = codes "waits"
word_of_waiting false = codes "behind"

-- a request that was never answered, and what it waits for
abbrev pub words_of_pending : Pending → List (List ℕ)
words_of_pending p = codes "pending" ∷ dotted p.client p.request ∷ word_of_waiting p.waits ∷ dotted p.of_client p.of_request ∷ []

abbrev pub word_of_end : ReportEnd → List ℕ
word_of_end ends.Flush = codes "flush"
word_of_end ends.Drop = codes "drop"
word_of_end ends.Fault = codes "fault"

abbrev pub lines_of_report : Report → List (List (List ℕ))
lines_of_report report =
    (codes "session" ∷ decimal report.session ∷ [])
    ∷ (codes "opening" ∷ [])
    ∷ map words_of_has report.opening
    ++ lines_of_clients 1 report.clients
    ++ (codes "order" ∷ map word_of_token report.order)
    ∷ (codes "finish" ∷ map decimal report.finish)
    ∷ (codes "commit" ∷ map decimal report.commits)
    ∷ map words_of_pending report.pending
    ++ (codes "end" ∷ word_of_end report.end ∷ [])
    ∷ []

unfoldable pub text_of_report : Report → List ℕ
text_of_report report = text_of_lines (lines_of_report report)
