-- The moves of a driver keep a session under way.
--     begins_so             at its beginning
--     scene_at, stands_there, client_moved  where a client stands;  it made a move
--     client_chosen, least_chosen   what the next move says
--     chosen_there, least_drawn     the least transaction was drawn, and its client has a place
--     seat_taken, chosen_within, chosen_seat, chosen_due, seat_sits, client_back, less_left     a seat that is taken out, and put back
--     ends_so, tells_so, session_legal      where nothing is left the session is at its end, and what is reported of it is its report
use Rattle.std.proofs.Common.{◌≡◌, ℕ, zero, suc, ◌+◌, ◌-◌, ◌<◌, ◌≤◌, Bool, true, false, ◌||◌, List, [], ◌∷◌, length, map, slice_get, slice_set, slice_index_or, insert, remove, position, Option, Some, None, option_map, refl, sym, ◌∙◌, ap, subst, arith}
use Rattle.std.specs.List.{AllByRecursion}
use Rattle.std.specs.FinMap as finite
use Rattle.std.proofs.lemmas.List.{map-set}
use Rattle.std.proofs.Math.Seq.{map-set_same}
use Rattle.std.proofs.lemmas.Option.{slice_get-map, slice_get_within, slice_get_read, get_or_from_slice_get}
use Rattle.idb_schema.specs.Schemas.{SchemaData}
use Rattle.name_queues.specs.Mails.{events_of}
use Rattle.scope_desk.specs.Starts.{may_start}
use Rattle.scope_desk.specs.declared.unfinished.MayStart.TheVariants.{Go}
use Rattle.desk_steps.specs.declared.stands.DrawnTx.{DrawnTx}
use Rattle.idb_desk.specs.Desks.{DeskState, drawn_at}
use Rattle.idb_desk.specs.Refusals.{has_some, is_allowed}
use Rattle.desk_steps.specs.declared.steps.DeskStep.TheVariants as step
use Rattle.idb_desk.specs.Steps.{DeskRun, desk_run, IsDeskRun}
use Rattle.item_changes.specs.Items.{Items}
use Rattle.log_history.specs.Kept.{End}
use Rattle.script_statements.specs.declared.script.Client.{Client}
use Rattle.script_statements.specs.declared.script.ScriptSession.{ScriptSession}
use Rattle.script_runs.specs.declared.notes.Note.{Note}
use Rattle.client_machine.specs.Acts.{written_from}
use Rattle.client_machine.specs.ClientStates.{ClientState, tx_at}
use Rattle.client_seats.specs.Seating.{IsSeated}
use Rattle.desk_facts.specs.Databases.{AreOpenable}
use Rattle.client_ties.specs.Unfinished.{least_of}
use Rattle.client_ties.proofs.Laws.{IsSound, least_unfinished, first_drawn}
use Rattle.legal_sessions.specs.Histories.{ShowsItems}
use Rattle.legal_sessions.specs.Legal.{has_of, EndsSo, report_end, IsLegalReport}
use Rattle.report_lines.specs.declared.reports.Has.{Has}
use Rattle.report_lines.specs.declared.reports.Report.{Report}
use Rattle.session_states.specs.Sessions.{SeatNow, SessionNow, fresh_seats, fresh_session, commit_numbers, IsAtEnd, report_now}
use Rattle.session_states.specs.Telling.{RunningTx}
use Rattle.session_states.specs.UnderWay.{IsUnderWay}
use Rattle.session_states.specs.Moves.{HasReady}
use Rattle.office_moves.specs.Fitting.{AreFew, FitsDesk, IsFitting}
use Rattle.office_moves.specs.Showing.{IsShown}
use Rattle.office_moves.specs.Offices.{OfficeState}
use Rattle.office_moves.specs.Measures.{left_to, room_left}
use Rattle.office_moves.specs.Moving.{IsMoveOf}
use Rattle.office_moves.specs.Running.{IsDue}
use Rattle.office_moves.specs.Scenes.{DoneNow, scene_of, IsSceneAt, IsOpening, IsDriven, LeadsTo, StandsOn}
use Rattle.session_driver.specs.declared.choosing.NextMove.TheVariants as move
use Rattle.session_driver.specs.declared.seats.Seat.{Seat}
use Rattle.session_driver.specs.Choosing.{is_ready, move_of, next_move, IsChosen}
use Rattle.session_driver.specs.Measures.{seats_left, session_left}
use Rattle.session_driver.specs.Reporting.{lines_seen, report_told}
use Rattle.session_driver.specs.Seats.{seat_seen, script_of_seat, session_seen, IsDriving}
use Rattle.session_driver.specs.Ending.{RanTo}
use Rattle.session_driver.proofs.Lessening.{seat_less}
use Rattle.session_driver.proofs.Places.{put_back_is, no_place, place_found}

-- ---- lists
all_at : {X : Type 0} (P : X → Type 0) (xs : List X) (place : ℕ) (x : X) → AllByRecursion P xs → slice_get xs place ≡ Some x → P x
all_at P [] place x all at = absurd cc
all_at P (y ∷ ys) zero x all at = subst P (some_same y x at) all.0
  where
    some_same : {Y : Type 0} (a b : Y) → Some a ≡ Some b → a ≡ b
    some_same a b e = cc
all_at P (y ∷ ys) (suc place) x all at = all_at P ys place x all.1 at

seat_behind : (seats : List Seat) (place : ℕ) (x : SeatNow) → slice_get (map seat_seen seats) place ≡ Some x → (s : Seat) × ((slice_get seats place ≡ Some s) × (seat_seen s ≡ x))
seat_behind [] place x at = absurd cc
seat_behind (s ∷ seats) zero x at = (s, (refl, let same : seat_seen s ≡ x = cc in same))
seat_behind (s ∷ seats) (suc place) x at = seat_behind seats place x at

-- ---- a client made a move
abbrev seated_with : Seat → OfficeState → List Note → Seat
seated_with s new after = record { script = s.script; client = new.client; notes = after }

abbrev pub office_at : Seat → DeskRun → OfficeState
office_at s r = record { blocks = (script_of_seat s).blocks; client = s.client; run = r }

pub scene_at : (session : ScriptSession) (r : DeskRun) (seats : List Seat) (done : DoneNow) (items : Items) (place : ℕ) (s : Seat) → IsDriving session r seats done items → slice_get seats place ≡ Some s
    → IsSceneAt session (session_seen r seats done items) place (scene_of (office_at s r) s.notes done items)
scene_at session r seats done items place s drives at = record {
  script = script_of_seat s;
  script_at = ap (λ (cs : List Client). slice_get cs place) (sym drives.scripts) ∙ slice_get-map script_of_seat seats place ∙ ap (option_map script_of_seat) at;
  blocks = refl;
  seat_at = slice_get-map seat_seen seats place ∙ ap (option_map seat_seen) at;
  run = refl;
  finish = refl;
  commits = refl;
  doubts = refl;
  items = refl;
}

-- where it stands before
pub stands_there : (session : ScriptSession) (r : DeskRun) (seats : List Seat) (done : DoneNow) (items : Items) (place : ℕ) (s : Seat) → IsDriving session r seats done items → slice_get seats place ≡ Some s
    → StandsOn None (scene_of (office_at s r) s.notes done items)
stands_there session r seats done items place s drives at = record {
  session = session;
  now = session_seen r seats done items;
  place = place;
  at = scene_at session r seats done items place s drives at;
  driven = drives.driven;
}

pub client_moved : (session : ScriptSession) (r : DeskRun) (seats out : List Seat) (done last : DoneNow) (items left : Items) (place : ℕ) (s : Seat) (new : OfficeState) (after : List Note)
    → IsDriving session r seats done items → slice_get seats place ≡ Some s
    → LeadsTo None None (scene_of (office_at s r) s.notes done items) (scene_of new after last left)
    → out ≡ slice_set seats place (seated_with s new after) → IsDriving session new.run out last left
client_moved session r seats out done last items left place s new after drives at leads is =
    let now : SessionNow = session_seen r seats done items in
    let seats_are : slice_set (map seat_seen seats) place (seat_seen (seated_with s new after)) ≡ map seat_seen out = sym (map-set seat_seen seats place (seated_with s new after)) ∙ ap (map seat_seen) (sym is) in
    record {
      driven = subst (λ (ss : List SeatNow). IsDriven session last.opening (record { run = new.run; seats = ss; finish = last.finish; commits = last.commits; doubts = last.doubts; items = left }) None) seats_are
          (leads.leads session now place (scene_at session r seats done items place s drives at) drives.driven);
      scripts = ap (map script_of_seat) is ∙ map-set_same script_of_seat seats place (seated_with s new after) s (ap script_of_seat (sym (get_or_from_slice_get seats place s s at))) ∙ drives.scripts;
    }

-- ---- the next move
nothing_left : (place least : Option ℕ) → move_of place least ≡ move.Nothing → (place ≡ None) × (least ≡ None)
nothing_left (Some place) least e = absurd cc
nothing_left None (Some number) e = absurd cc
nothing_left None None e = (refl, refl)

neither : (a b : Bool) → (a || b) ≡ false → (a ≡ false) × (b ≡ false)
neither true b e = cc
neither false b e = (refl, e)

has_none : {X : Type 0} (xs : List X) → has_some xs ≡ false → xs ≡ []
has_none [] e = refl
has_none (x ∷ xs) e = cc

pub client_chosen : (r : DeskRun) (seats : List Seat) (place : ℕ) → next_move (desk_run r) seats ≡ move.Client place → IsChosen r seats place None
client_chosen r seats place e = chosen (position (is_ready (desk_run r)) seats) (least_of (desk_run r)) refl e
  where
    chosen : (at least : Option ℕ) → position (is_ready (desk_run r)) seats ≡ at → move_of at least ≡ move.Client place → IsChosen r seats place None
    chosen (Some p) least is k =
        let f = place_found (is_ready (desk_run r)) seats place (is ∙ ap (λ n. Some n) (let same : p ≡ place = cc in same)) in
        record { seat = f.0; seat_at = f.1.0; due = f.1.1 }
    chosen None (Some n) is k = absurd cc
    chosen None None is k = absurd cc

transaction_next : (d : DeskState) (seats : List Seat) (number : ℕ) → next_move d seats ≡ move.Transaction number → (position (is_ready d) seats ≡ None) × (least_of d ≡ Some number)
transaction_next d seats number e = chosen (position (is_ready d) seats) (least_of d) e
  where
    chosen : (at least : Option ℕ) → move_of at least ≡ move.Transaction number → (at ≡ None) × (least ≡ Some number)
    chosen (Some p) least k = absurd cc
    chosen None (Some n) k = (refl, let same : n ≡ number = cc in ap (λ m. Some m) same)
    chosen None None k = absurd cc

pub least_chosen : (d : DeskState) (seats : List Seat) (number : ℕ) → next_move d seats ≡ move.Transaction number → least_of d ≡ Some number
least_chosen d seats number e = (transaction_next d seats number e).1

-- ---- its place
abbrev ReadyLaw : Type 0
ReadyLaw = (session : ScriptSession) (opening : Items) (now : SessionNow) (number : ℕ) (t : DrawnTx) → IsUnderWay session opening now None → least_of (desk_run now.run) ≡ Some number
    → may_start (desk_run now.run).board.scopes number ≡ Go → drawn_at (desk_run now.run).board.drawn number ≡ Some t → HasReady session now number t

pub chosen_there : ReadyLaw → (session : ScriptSession) (r : DeskRun) (seats : List Seat) (done : DoneNow) (items : Items) (number : ℕ) (t : DrawnTx) → IsDriving session r seats done items
    → next_move (desk_run r) seats ≡ move.Transaction number → may_start (desk_run r).board.scopes number ≡ Go → drawn_at (desk_run r).board.drawn number ≡ Some t
    → (1 ≤ t.who.client) × IsChosen r seats (t.who.client - 1) (Some number)
chosen_there law session r seats done items number t drives next go drawn =
    let n = transaction_next (desk_run r) seats number next in
    let h = law session done.opening (session_seen r seats done items) number t drives.driven.under_way n.1 go drawn in
    let s = seat_behind seats h.place h.seat h.seat_at in
    let place : h.place ≡ t.who.client - 1 = one_less h.place t.who.client h.client in
    let free : is_ready (desk_run r) s.0 ≡ false = all_at (λ (x : Seat). is_ready (desk_run r) x ≡ false) seats h.place s.0 (no_place (is_ready (desk_run r)) seats n.0) s.1.0 in
    let due : IsDue r s.0.client number = record {
      tx = h.tx;
      idle = has_none s.0.client.tasks (neither (has_some s.0.client.tasks) (has_some (events_of (desk_run r).queues.mails s.0.client.number)) free).0;
      found = ap (λ (x : SeatNow). tx_at x.client number) s.1.1 ∙ h.found;
      waits = h.waits;
      allowed = λ calm. ap (λ (x : SeatNow). is_allowed (desk_run r) (step.Starts x.client.number number)) s.1.1 ∙ h.allowed calm;
      least = n.1;
    } in
    (at_least h.place t.who.client h.client, record { seat = s.0; seat_at = ap (slice_get seats) (sym place) ∙ s.1.0; due = due })
  where
    one_less : (m n : ℕ) → n ≡ m + 1 → m ≡ n - 1
    one_less m n e = omega (arith, e)

    at_least : (m n : ℕ) → n ≡ m + 1 → 1 ≤ n
    at_least m n e = omega (arith, e)

pub least_drawn : ((q : DeskRun) → IsDeskRun q → IsSound (desk_run q)) → (r : DeskRun) (number : ℕ) → IsDeskRun r → least_of (desk_run r) ≡ Some number → drawn_at (desk_run r).board.drawn number ≡ None → ⊥
least_drawn sound r number run least none =
    let h = least_unfinished sound r number run least in
    let found = (first_drawn (desk_run r) h.0 h.1.0 h.1.1.0).found in
    let same : Some (first_drawn (desk_run r) h.0 h.1.0 h.1.1.0).tx ≡ None = sym found ∙ ap (drawn_at (desk_run r).board.drawn) h.1.1.1 ∙ none in
    cc

-- ---- the beginning
abbrev FreshLaw : Type 0
FreshLaw = (session : ScriptSession) (schemas : List SchemaData) (opening : Items) → ShowsItems schemas opening → IsUnderWay session opening (fresh_session session.clients schemas opening) None

abbrev FreshFitsLaw : Type 0
FreshFitsLaw = (session : ScriptSession) (schemas : List SchemaData) (opening : Items) → AreOpenable schemas → AreFew schemas → IsFitting (fresh_session session.clients schemas opening)

abbrev FreshShowsLaw : Type 0
FreshShowsLaw = (session : ScriptSession) (schemas : List SchemaData) (opening : Items) → AreOpenable schemas → ShowsItems schemas opening → IsShown (fresh_session session.clients schemas opening)

pub begins_so : FreshLaw → FreshFitsLaw → FreshShowsLaw → (session : ScriptSession) (r : DeskRun) (seats : List Seat) (done : DoneNow) (items : Items) (schemas : List SchemaData)
    → map seat_seen seats ≡ fresh_seats 1 session.clients → map script_of_seat seats ≡ session.clients → r ≡ record { opening = schemas; order = [] } → done.finish ≡ [] → done.commits ≡ [] → done.doubts ≡ [] → items ≡ done.opening
    → ShowsItems schemas done.opening → AreOpenable schemas → AreFew schemas → IsOpening done.opening → IsDriving session r seats done items
begins_so fresh fits shows session r seats done items schemas seats_are scripts run finish commits doubts same_items shown openable few opened =
    let same : fresh_session session.clients schemas done.opening ≡ session_seen r seats done items = cc in
    let driven : IsDriven session done.opening (fresh_session session.clients schemas done.opening) None = record {
      under_way = fresh session schemas done.opening shown;
      fits = fits session schemas done.opening openable few;
      shown = shows session schemas done.opening openable shown;
      opened = opened;
      logged = refl;
    } in
    record { driven = subst (λ (n : SessionNow). IsDriven session done.opening n None) same driven; scripts = scripts }

-- ---- the end
no_tasks : (d : DeskState) (seats : List Seat) → AllByRecursion (λ (s : Seat). is_ready d s ≡ false) seats → AllByRecursion (λ (s : SeatNow). s.client.tasks ≡ []) (map seat_seen seats)
no_tasks d [] all = tt
no_tasks d (s ∷ seats) all = (has_none s.client.tasks (neither (has_some s.client.tasks) (has_some (events_of d.queues.mails s.client.number)) all.0).0, no_tasks d seats all.1)

no_events : (d : DeskState) (seats : List Seat) → AllByRecursion (λ (s : Seat). is_ready d s ≡ false) seats → AllByRecursion (λ (s : SeatNow). events_of d.queues.mails s.client.number ≡ []) (map seat_seen seats)
no_events d [] all = tt
no_events d (s ∷ seats) all = (has_none (events_of d.queues.mails s.client.number) (neither (has_some s.client.tasks) (has_some (events_of d.queues.mails s.client.number)) all.0).1, no_events d seats all.1)

pub ends_so : (r : DeskRun) (seats : List Seat) (done : DoneNow) (items : Items) → next_move (desk_run r) seats ≡ move.Nothing → IsAtEnd (session_seen r seats done items)
ends_so r seats done items e =
    let h = nothing_left (position (is_ready (desk_run r)) seats) (least_of (desk_run r)) e in
    let all = no_place (is_ready (desk_run r)) seats h.0 in
    record { no_task = no_tasks (desk_run r) seats all; no_event = no_events (desk_run r) seats all; no_transaction = h.1 }

-- a seat that was taken out, and the others with one in its place
pub seat_taken : (seats : List Seat) (n place : ℕ) (s : Seat) → n ≡ length seats → place < n → s ≡ slice_index_or seats place s → slice_get seats place ≡ Some s
seat_taken seats n place s len less is = slice_get_read seats n place s len less is

pub chosen_within : (r : DeskRun) (seats : List Seat) (place : ℕ) (number : Option ℕ) (n : ℕ) → n ≡ length seats → IsChosen r seats place number → place < n
chosen_within r seats place number n len chosen = subst (λ m. place < m) (sym len) (slice_get_within seats place chosen.seat chosen.seat_at)

pub chosen_seat : (r : DeskRun) (seats : List Seat) (place : ℕ) (number : Option ℕ) (n : ℕ) (s : Seat) → n ≡ length seats → IsChosen r seats place number → s ≡ slice_index_or seats place s → slice_get seats place ≡ Some s
chosen_seat r seats place number n s len chosen is = seat_taken seats n place s len (chosen_within r seats place number n len chosen) is

pub chosen_due : (r : DeskRun) (seats : List Seat) (place : ℕ) (number : Option ℕ) (s : Seat) → IsChosen r seats place number → slice_get seats place ≡ Some s → IsMoveOf r s.client number
chosen_due r seats place number s chosen at = subst (λ (x : Seat). IsMoveOf r x.client number) (same chosen.seat s (sym chosen.seat_at ∙ at)) chosen.due
  where
    same : (a b : Seat) → Some a ≡ Some b → a ≡ b
    same a b e = cc

-- it sat at the desk
pub seat_sits : (session : ScriptSession) (r : DeskRun) (seats : List Seat) (done : DoneNow) (items : Items) (place : ℕ) (s : Seat) → IsDriving session r seats done items → slice_get seats place ≡ Some s → IsSeated s.client r
seat_sits session r seats done items place s drives at =
    (all_at (λ (x : SeatNow). FitsDesk r x.client) (map seat_seen seats) place (seat_seen s) drives.driven.fits.seats (slice_get-map seat_seen seats place ∙ ap (option_map seat_seen) at)).seated

module _ (seats out : List Seat) (place : ℕ) (s : Seat) (new : OfficeState) (after : List Note) (client : ClientState) (at : slice_get seats place ≡ Some s) (client_is : client ≡ new.client)
    (out_is : out ≡ insert (remove seats place) place (record { script = s.script; client = client; notes = after })) where
  put_so : out ≡ slice_set seats place (seated_with s new after)
  put_so = out_is ∙ ap (λ (c : ClientState). insert (remove seats place) place (record { script = s.script; client = c; notes = after })) client_is ∙ put_back_is seats place (seated_with s new after) (slice_get_within seats place s at)

  pub client_back : (session : ScriptSession) (r : DeskRun) (done last : DoneNow) (items left : Items) (office : OfficeState) (desk : DeskRun) → IsDriving session r seats done items → office ≡ office_at s r
      → LeadsTo None None (scene_of office s.notes done items) (scene_of new after last left) → desk ≡ new.run → IsDriving session desk out last left
  client_back session r done last items left office desk drives office_is leads desk_is =
      subst (λ (q : DeskRun). IsDriving session q out last left) (sym desk_is)
      (client_moved session r seats out done last items left place s new after drives at
      (subst (λ (o : OfficeState). LeadsTo None None (scene_of o s.notes done items) (scene_of new after last left)) office_is leads) put_so)

  pub less_left : (done last : DoneNow) (r : DeskRun) (office : OfficeState) → office ≡ office_at s r
      → left_to new.client after + room_left last.finish < left_to office.client s.notes + room_left done.finish → session_left out last.finish < session_left seats done.finish
  less_left done last r office office_is less =
      subst (λ (ss : List Seat). seats_left ss + room_left last.finish < seats_left seats + room_left done.finish) (sym put_so)
      (seat_less seats place s (seated_with s new after) (room_left done.finish) (room_left last.finish) at
      (subst (λ (o : OfficeState). left_to new.client after + room_left last.finish < left_to o.client s.notes + room_left done.finish) office_is less))

-- ---- the report
lines_same : (seats : List Seat) → map lines_seen seats ≡ map (λ (s : SeatNow). written_from 0 s.notes) (map seat_seen seats)
lines_same [] = refl
lines_same (s ∷ seats) = ap (λ lines. written_from 0 s.notes ∷ lines) (lines_same seats)

pub tells_so : (number : ℕ) (r : DeskRun) (seats : List Seat) (done : DoneNow) (items : Items) (lines : List Has) (log_end : End) → lines ≡ map has_of (finite.entries done.opening)
    → report_now number done.opening (session_seen r seats done items) log_end ≡ report_told r seats lines done.finish (commit_numbers done.commits) number (report_end log_end)
tells_so number r seats done items opened log_end opening =
    let lines = lines_same seats in
    cc

abbrev pub LegalLaw : Type 0
LegalLaw = (session : ScriptSession) (number : ℕ) (opening : Items) (now : SessionNow) (running : Option RunningTx) (log_end : End) → IsUnderWay session opening now running → IsAtEnd now
    → EndsSo session.drop_end now.doubts log_end → IsLegalReport session number opening (report_now number opening now log_end) now.commits log_end now.items

pub session_legal : LegalLaw → (session : ScriptSession) (number : ℕ) (r : DeskRun) (seats : List Seat) (done : DoneNow) (items : Items) (lines : List Has) (log_end : End) (report : Report) → RanTo session r seats done items log_end
    → lines ≡ map has_of (finite.entries done.opening) → report ≡ report_told r seats lines done.finish (commit_numbers done.commits) number (report_end log_end)
    → IsLegalReport session number done.opening report done.commits log_end items
session_legal law session number r seats done items lines log_end report ran lines_are report_is =
    subst (λ (told : Report). IsLegalReport session number done.opening told done.commits log_end items) (tells_so number r seats done items lines log_end lines_are ∙ sym report_is)
    (law session number done.opening (session_seen r seats done items) None log_end ran.driving.driven.under_way ran.at_end ran.ends)
