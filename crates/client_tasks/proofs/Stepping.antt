-- Steps of a client in its office, from what their parts did.
--     took_plain, took_change, took_deletion, took_upgrade      an event, by its kind
--     ended_own, ended_upgrade, ended_deletion, has_finished, has_finished_unstarted      the end of a transaction
use Rattle.std.proofs.Common.{◌≡◌, ℕ, Bool, true, false, List, [], ◌∷◌, ◌++◌, length, drop, map, filter, if◌then◌else◌, Option, Some, None, refl, sym, ap, ◌∙◌, subst, append_assoc}
use Rattle.std.specs.Prelude.{not, option_map, IfSome, IfNone}
use Rattle.std.proofs.lemmas.Bool.{and_parts, not-true}
use Rattle.std.proofs.lemmas.Grind.{flat_map-append}
use Rattle.std.proofs.lemmas.List.{append-nil}
use Rattle.std.proofs.Math.Seq.{drop-append_seam}
use Rattle.idb_calls.specs.declared.traces.Outcome.{Outcome}
use Rattle.idb_schema.specs.Schemas.{SchemaData}
use Rattle.name_queues.specs.Mails.{conn_of}
use Rattle.name_queues.specs.declared.ids.ConnId.{ConnId}
use Rattle.name_queues.specs.declared.events.ClientEvent.{ClientEvent}
use Rattle.name_queues.specs.declared.events.ClientEvent.TheVariants as event
use Rattle.desk_steps.specs.declared.steps.DeskStep.TheVariants as step
use Rattle.connection_queues.specs.Machine.{schema_of}
use Rattle.desk_steps.specs.declared.stands.DeskRequest.{DeskRequest}
use Rattle.idb_desk.specs.Desks.{request_at}
use Rattle.idb_desk.specs.Steps.{DeskRun, desk_run, with_step, event_for, answer_of}
use Rattle.report_lines.specs.declared.lines.Line.{Line}
use Rattle.report_lines.specs.declared.lines.Line.TheVariants as line
use Rattle.serial_order.specs.FinishEntries.{TxBody}
use Rattle.serial_order.specs.SerialRuns.{joined_lines}
use Rattle.script_handlers.specs.Handling.{Script}
use Rattle.script_statements.specs.declared.script.Block.{Block as Named}
use Rattle.script_runs.specs.declared.environments.Env.{Env}
use Rattle.script_runs.specs.declared.notes.Note.{Note}
use Rattle.script_runs.specs.declared.notes.Note.TheVariants as note
use Rattle.script_runs.specs.declared.notes.Task.{Task}
use Rattle.client_machine.specs.Acts.{Act, Noted, Makes, Fails, Begins, TakesTurn, notes_of_act, notes_of_acts}
use Rattle.client_machine.specs.Answering.{told_by, at_new_version, MadeAtOnce}
use Rattle.client_machine.specs.ClientStates.{OpenAsked, ClientTxKind, OwnTx, OfUpgrade, OfDeletion, ClientTx, ClientState, open_at, is_tx, tx_at, started_if, with_tx, without_tx, with_notes}
use Rattle.client_machine.specs.ClientSteps.{noted_line, is_plain_event, event_line, event_block, event_env, after_event_of, deletion_tx, Meets, MeetsPlain, MeetsChange, MeetsChangeClosed, MeetsUpgrade, MeetsDeletion, end_line, end_block, end_env, EndsOwn, EndsUpgrade, EndsDeletion, may_begin, with_tasks}
use Rattle.client_machine.proofs.Laws.{made_joined}
use Rattle.task_statements.specs.Offices.{OfficeState}
use Rattle.client_tasks.specs.Between.{RunsNowInto}
use Rattle.task_statements.specs.Upgrading.{UpgradesInto}
use Rattle.client_tasks.specs.Meeting.{HandlesInto, TookHandled, LeftHandled}
use Rattle.client_parts.specs.declared.begun.BegunBody.{BegunBody}
use Rattle.client_parts.specs.Holding.{body_seen, begun_seen}
use Rattle.client_parts.specs.Standing.{may_start_of, started_of, waits_of, begins_of}
use Rattle.client_seats.specs.Seating.{IsSeated, SitsAlike}
use Rattle.client_seats.proofs.Laws.{seat_given, seat_alike}
use Rattle.client_tasks.specs.Steps.{RunsTaskInto, TakesEventInto, told_take, wants_number, StartsInto, TurnInto, EndsInto, FinishesInto, FinishesUnstartedInto}
use Rattle.task_statements.proofs.Laws.{made_noted, noted_notes}
use Rattle.client_tasks.proofs.Staying.{take_allowed, drew_seated}
use Rattle.client_tasks.proofs.Strays.{told_event, told_drawn, told_schema_is, number_drawn}

-- the same office with another client and run
abbrev pub moved_to : OfficeState → ClientState → DeskRun → OfficeState
moved_to o c r = record { blocks = o.blocks; client = c; run = r }

-- a block that ran from there ran from here, where both are the same
runs_from : (o new : OfficeState) (c d : ClientState) (r q : DeskRun) (env env' : Env) (block block' : Option ℕ) (before after : List Note) → c ≡ d → r ≡ q → env ≡ env' → block ≡ block'
    → RunsNowInto (moved_to o c r) env block before new after → RunsNowInto (moved_to o d q) env' block' before new after
runs_from o new c d r q env env' block block' before after cs rs es bs g =
    let by_client = subst (λ (x : ClientState). RunsNowInto (moved_to o x r) env block before new after) cs g in
    let by_run = subst (λ (x : DeskRun). RunsNowInto (moved_to o d x) env block before new after) rs by_client in
    let by_env = subst (λ (x : Env). RunsNowInto (moved_to o d q) x block before new after) es by_run in
    subst (λ (x : Option ℕ). RunsNowInto (moved_to o d q) env' x before new after) bs by_env

line_is : (before mid : List Note) (l k : Line) → l ≡ k → mid ≡ before ++ note.Line l ∷ [] → mid ≡ before ++ note.Line k ∷ []
line_is before mid l k is wrote = wrote ∙ ap (λ (x : Line). before ++ note.Line x ∷ []) is

-- ---- events
-- a line, and what was written behind it
behind : (before mid after ns : List Note) (n : Note) → mid ≡ before ++ n ∷ [] → after ≡ mid ++ ns → after ≡ before ++ n ∷ ns
behind before mid after ns n e f = f ∙ ap (λ ms. ms ++ ns) e ∙ append_assoc before (n ∷ []) ns

pub took_plain : (old new : OfficeState) (c : ClientState) (r : DeskRun) (e : ClientEvent) (o : OpenAsked) (env : Env) (block : Option ℕ) (l : Line) (before mid after : List Note)
    → old.client.tasks ≡ [] → event_for (desk_run old.run) old.client.number ≡ Some e → is_plain_event e ≡ true → open_at old.client (conn_of e).request ≡ Some o
    → c ≡ after_event_of old.client o e → r ≡ with_step old.run (step.Takes old.client.number) → env ≡ event_env o e → block ≡ event_block o e → l ≡ event_line o 0 e → mid ≡ before ++ note.Line l ∷ []
    → RunsNowInto (moved_to old c r) env block mid new after → TakesEventInto old before new after
took_plain old new c r e o env block l before mid after idle first plain is cs rs es bs ls wrote ran =
    let g = runs_from old new c (after_event_of old.client o e) r (with_step old.run (step.Takes old.client.number)) env (event_env o e) block (event_block o e) mid after cs rs es bs ran in
    record {
      event = e;
      acts = noted_line (event_line o 0 e) ∷ g.acts;
      idle = idle;
      told = told_event (desk_run old.run) old.client.number ∙ first;
      meets = MeetsPlain e o g.acts new.client plain is g.runs;
      follows = record {
        made = (refl, (refl, g.follows.made));
        number = g.follows.number;
        blocks = g.follows.blocks;
        lines = behind before mid after (notes_of_acts g.acts) (note.Line (event_line o 0 e)) (line_is before mid l (event_line o 0 e) ls wrote) g.follows.lines;
      };
    }

abbrev change_event : ConnId → ℕ → Option ℕ → ClientEvent
change_event who version wanted = event.VersionChange who version wanted

quiet_end : (acts : List Act) (a : Act) → notes_of_act a ≡ [] → notes_of_acts (acts ++ a ∷ []) ≡ notes_of_acts acts
quiet_end acts a e = flat_map-append notes_of_act acts (a ∷ []) ∙ ap (λ ns. notes_of_acts acts ++ (ns ++ [])) e ∙ append-nil (notes_of_acts acts)

changed : (old ran : OfficeState) (last : DeskRun) (who : ConnId) (version : ℕ) (wanted : Option ℕ) (o : OpenAsked) (before mid after : List Note) → old.client.tasks ≡ []
    → event_for (desk_run old.run) old.client.number ≡ Some (change_event who version wanted) → open_at old.client who.request ≡ Some o → mid ≡ before ++ note.Line (line.VersionChange who.request version wanted) ∷ []
    → RunsNowInto (moved_to old old.client (with_step old.run (step.Takes old.client.number))) (event_env o (change_event who version wanted)) o.version_change mid ran after
    → HandlesInto old.client.number ran.run last → TakesEventInto old before (moved_to ran ran.client last) after
changed old ran last who version wanted o before mid after idle first is wrote g (TookHandled e) =
    let handled = told_by (desk_run ran.run) (step.Handles old.client.number) in
    let end = Makes (step.Handles old.client.number) handled in
    record {
      event = change_event who version wanted;
      acts = noted_line (line.VersionChange who.request version wanted) ∷ g.acts ++ end ∷ [];
      idle = idle;
      told = told_event (desk_run old.run) old.client.number ∙ first;
      meets = MeetsChange who version wanted o g.acts ran.client handled is g.runs;
      follows = record {
        made = (refl, (refl, made_joined old.client.number (with_step old.run (step.Takes old.client.number)) ran.run last g.acts (end ∷ []) g.follows.made (refl, (refl, e))));
        number = g.follows.number;
        blocks = g.follows.blocks;
        lines = behind before mid after (notes_of_acts g.acts) (note.Line (line.VersionChange who.request version wanted)) wrote g.follows.lines ∙ ap (λ ns. before ++ note.Line (line.VersionChange who.request version wanted) ∷ ns) (sym (quiet_end g.acts end refl));
      };
    }
changed old ran last who version wanted o before mid after idle first is wrote g (LeftHandled e out) =
    let end = Fails (step.Handles old.client.number) None in
    record {
      event = change_event who version wanted;
      acts = noted_line (line.VersionChange who.request version wanted) ∷ g.acts ++ end ∷ [];
      idle = idle;
      told = told_event (desk_run old.run) old.client.number ∙ first;
      meets = MeetsChangeClosed who version wanted o g.acts ran.client is g.runs;
      follows = record {
        made = (refl, (refl, made_joined old.client.number (with_step old.run (step.Takes old.client.number)) ran.run last g.acts (end ∷ []) g.follows.made (out, (refl, e))));
        number = g.follows.number;
        blocks = g.follows.blocks;
        lines = behind before mid after (notes_of_acts g.acts) (note.Line (line.VersionChange who.request version wanted)) wrote g.follows.lines ∙ ap (λ ns. before ++ note.Line (line.VersionChange who.request version wanted) ∷ ns) (sym (quiet_end g.acts end refl));
      };
    }

pub took_change : (old ran : OfficeState) (r last : DeskRun) (who : ConnId) (version : ℕ) (wanted : Option ℕ) (o : OpenAsked) (env : Env) (block : Option ℕ) (l : Line) (before mid after : List Note) → old.client.tasks ≡ []
    → event_for (desk_run old.run) old.client.number ≡ Some (change_event who version wanted) → open_at old.client who.request ≡ Some o
    → r ≡ with_step old.run (step.Takes old.client.number) → env ≡ event_env o (change_event who version wanted) → block ≡ o.version_change → l ≡ line.VersionChange who.request version wanted
    → mid ≡ before ++ note.Line l ∷ [] → RunsNowInto (moved_to old old.client r) env block mid ran after → HandlesInto ran.client.number ran.run last
    → TakesEventInto old before (moved_to ran ran.client last) after
took_change old ran r last who version wanted o env block l before mid after idle first is rs es bs ls wrote g h =
    changed old ran last who version wanted o before mid after idle first is (line_is before mid l (line.VersionChange who.request version wanted) ls wrote)
    (runs_from old ran old.client old.client r (with_step old.run (step.Takes old.client.number)) env (event_env o (change_event who version wanted)) block o.version_change mid after refl rs es bs g)
    (subst (λ (n : ℕ). HandlesInto n ran.run last) g.follows.number h)

-- ---- events that begin a transaction
module _ (old : OfficeState) (d : ClientState) (r : DeskRun) (e : ClientEvent) (o : OpenAsked) (q : DeskRequest) (number : ℕ) (tx : ClientTx) (txs : List ClientTx)
    (first : event_for (desk_run old.run) old.client.number ≡ Some e) (begins : wants_number e ≡ true) (is : open_at old.client (conn_of e).request ≡ Some o)
    (asked : request_at (desk_run old.run).board.clients (conn_of e) ≡ Some q) (next : number ≡ (desk_run old.run).board.scopes.next)
    (made : r ≡ with_step old.run (step.Takes old.client.number)) (put : txs ≡ d.txs ++ tx ∷ []) where
  drawn : (answer_of (desk_run old.run) (step.Takes old.client.number)).number ≡ Some number
  drawn = number_drawn (desk_run old.run) old.client.number e first begins q asked ∙ ap Some (sym next)

  drawn_told : (told_take old).number ≡ Some number
  drawn_told = told_drawn (desk_run old.run) old.client.number ∙ drawn

  -- c: what the event makes of the client
  pub begun_seated : (c : ClientState) → IsSeated c old.run → d ≡ c → tx.number ≡ number → IsSeated (record d { txs = txs }) r
  begun_seated c s same numbered = drew_seated c d old.run r (step.Takes old.client.number) number tx txs s (take_allowed (desk_run old.run) old.client.number e first) drawn numbered same put made

with_it : (c d : ClientState) (tx : ClientTx) (txs : List ClientTx) → d ≡ c → txs ≡ d.txs ++ tx ∷ [] → record d { txs = txs } ≡ with_tx c tx
with_it c d tx txs same put = ap (λ (ts : List ClientTx). record d { txs = ts }) put ∙ ap (λ (x : ClientState). with_tx x tx) same

module _ (old : OfficeState) (d : ClientState) (r : DeskRun) (who : ConnId) (version number : ℕ) (o : OpenAsked) (q : DeskRequest) (tx : ClientTx) (txs : List ClientTx)
    (first : event_for (desk_run old.run) old.client.number ≡ Some (event.DeleteReady who version)) (is : open_at old.client who.request ≡ Some o)
    (asked : request_at (desk_run old.run).board.clients who ≡ Some q) (next : number ≡ (desk_run old.run).board.scopes.next)
    (same : d ≡ old.client) (made : r ≡ with_step old.run (step.Takes old.client.number)) (new : tx ≡ deletion_tx number o.name) (put : txs ≡ d.txs ++ tx ∷ []) where
  pub deletion_seated : IsSeated old.client old.run → IsSeated (record d { txs = txs }) r
  deletion_seated s = begun_seated old d r (event.DeleteReady who version) o q number tx txs first refl is asked next made put old.client s same (ap (λ (x : ClientTx). x.number) new)

  pub took_deletion : (l : Line) (before after : List Note) → old.client.tasks ≡ [] → l ≡ line.DeleteTransaction who.request number → after ≡ before ++ note.Line l ∷ []
      → TakesEventInto old before (moved_to old (record d { txs = txs }) r) after
  took_deletion l before after idle ls wrote =
      subst (λ (x : ClientState). TakesEventInto old before (moved_to old x r) after) (sym (with_it old.client d tx txs same put))
      (subst (λ (x : DeskRun). TakesEventInto old before (moved_to old (with_tx old.client tx) x) after) (sym made) (record {
        event = event.DeleteReady who version;
        acts = Begins tx ∷ noted_line (line.DeleteTransaction who.request number) ∷ [];
        idle = idle;
        told = told_event (desk_run old.run) old.client.number ∙ first;
        meets = MeetsDeletion who version number o tx is (drawn_told old d r (event.DeleteReady who version) o q number tx txs first refl is asked next made put) new;
        follows = record { made = (refl, (refl, refl)); number = refl; blocks = refl; lines = line_is before after l (line.DeleteTransaction who.request number) ls wrote };
      }))

upgraded : (old : OfficeState) (new : ClientState) (who : ConnId) (version wanted number : ℕ) (schema : SchemaData) (o : OpenAsked) (tx : ClientTx) (before mid after : List Note) → old.client.tasks ≡ []
    → event_for (desk_run old.run) old.client.number ≡ Some (event.Upgrade who version wanted) → open_at old.client who.request ≡ Some o → (told_take old).number ≡ Some number → (told_take old).schema ≡ Some schema
    → mid ≡ before ++ note.Line (line.OpenUpgrade who.request version wanted number) ∷ []
    → UpgradesInto old.blocks number schema (event_env o (event.Upgrade who version wanted)) o.upgrade mid tx after
    → new ≡ with_notes (with_tx (after_event_of old.client o (event.Upgrade who version wanted)) tx) (drop (length mid) after) → new.number ≡ old.client.number
    → TakesEventInto old before (moved_to old new (with_step old.run (step.Takes old.client.number))) after
upgraded old new who version wanted number schema o tx before mid after idle first is drawn has wrote u posts same =
    let e = event.Upgrade who version wanted in
    let l = note.Line (line.OpenUpgrade who.request version wanted number) in
    let added : drop (length mid) after ≡ u.runs.notes = ap (λ ns. drop (length mid) ns) u.runs.lines ∙ drop-append_seam mid u.runs.notes in
    record {
      event = e;
      acts = Begins tx ∷ noted_line (line.OpenUpgrade who.request version wanted number) ∷ map Noted u.runs.notes;
      idle = idle;
      told = told_event (desk_run old.run) old.client.number ∙ first;
      meets = subst (λ c. Meets old.blocks (told_take old) old.client e (Begins tx ∷ noted_line (line.OpenUpgrade who.request version wanted number) ∷ map Noted u.runs.notes) c)
          (sym (posts ∙ ap (with_notes (with_tx (after_event_of old.client o e) tx)) added))
          (MeetsUpgrade who version wanted number schema o u.runs.notes u.front u.how tx is drawn has u.runs.runs u.made);
      follows = record {
        made = (refl, (refl, made_noted old.client.number (with_step old.run (step.Takes old.client.number)) (with_step old.run (step.Takes old.client.number)) u.runs.notes refl));
        number = same;
        blocks = refl;
        lines = behind before mid after u.runs.notes l wrote u.runs.lines ∙ ap (λ ns. before ++ l ∷ ns) (sym (noted_notes u.runs.notes));
      };
    }

upgrades_from : (blocks : List Named) (number : ℕ) (schema other : SchemaData) (env env' : Env) (block block' : Option ℕ) (before : List Note) (tx : ClientTx) (after : List Note) → schema ≡ other → env ≡ env' → block ≡ block'
    → UpgradesInto blocks number schema env block before tx after → UpgradesInto blocks number other env' block' before tx after
upgrades_from blocks number schema other env env' block block' before tx after ss es bs u =
    let by_schema = subst (λ (x : SchemaData). UpgradesInto blocks number x env block before tx after) ss u in
    let by_env = subst (λ (x : Env). UpgradesInto blocks number other x block before tx after) es by_schema in
    subst (λ (x : Option ℕ). UpgradesInto blocks number other env' x before tx after) bs by_env

abbrev upgrade_event : ConnId → ℕ → ℕ → ClientEvent
upgrade_event who version wanted = event.Upgrade who version wanted

-- d: the client behind the event, once it has room;  new: with the posts of the block
module _ (old : OfficeState) (d new : ClientState) (r : DeskRun) (who : ConnId) (version wanted number : ℕ) (o : OpenAsked) (q : DeskRequest) (tx : ClientTx) (txs : List ClientTx)
    (first : event_for (desk_run old.run) old.client.number ≡ Some (upgrade_event who version wanted)) (is : open_at old.client who.request ≡ Some o)
    (asked : request_at (desk_run old.run).board.clients who ≡ Some q) (next : number ≡ (desk_run old.run).board.scopes.next)
    (same : d ≡ after_event_of old.client o (upgrade_event who version wanted)) (made : r ≡ with_step old.run (step.Takes old.client.number)) (put : txs ≡ d.txs ++ tx ∷ [])
    (alike : SitsAlike (record d { txs = txs }) new) where
  pub upgrade_seated : IsSeated old.client old.run → tx.number ≡ number → IsSeated new r
  upgrade_seated s numbered =
      let given = seat_given old.client old.run (upgrade_event who version wanted) o s is in
      seat_alike (record d { txs = txs }) new r
      (begun_seated old d r (upgrade_event who version wanted) o q number tx txs first refl is asked next made put (after_event_of old.client o (upgrade_event who version wanted)) given same numbered) alike

  pub took_upgrade : (kept schema : SchemaData) (env : Env) (block : Option ℕ) (l : Line) (from : ℕ) (before mid after : List Note) → old.client.tasks ≡ [] → schema_of (desk_run old.run).queues who ≡ Some kept
      → schema ≡ at_new_version wanted kept → env ≡ event_env o (upgrade_event who version wanted) → block ≡ o.upgrade → l ≡ line.OpenUpgrade who.request version wanted number
      → mid ≡ before ++ note.Line l ∷ [] → from ≡ length mid → UpgradesInto old.blocks number schema env block mid tx after → new ≡ with_notes (record d { txs = txs }) (drop from after)
      → TakesEventInto old before (moved_to old new r) after
  took_upgrade kept schema env block l from before mid after idle has ss es bs ls wrote begin u posts =
      let e = upgrade_event who version wanted in
      let has_told : (told_take old).schema ≡ Some schema = told_schema_is (desk_run old.run) old.client.number who version wanted first ∙ ap (λ (x : Option SchemaData). option_map (at_new_version wanted) x) has ∙ ap Some (sym ss) in
      let posted : new ≡ with_notes (with_tx (after_event_of old.client o e) tx) (drop (length mid) after) =
      posts ∙ ap (λ (x : ClientState). with_notes x (drop from after)) (with_it (after_event_of old.client o e) d tx txs same put)
      ∙ ap (λ (n : ℕ). with_notes (with_tx (after_event_of old.client o e) tx) (drop n after)) begin in
      subst (λ (x : DeskRun). TakesEventInto old before (moved_to old new x) after) (sym made)
      (upgraded old new who version wanted number schema o tx before mid after idle first is
      (drawn_told old d r e o q number tx txs first refl is asked next made put) has_told (line_is before mid l (line.OpenUpgrade who.request version wanted number) ls wrote)
      (upgrades_from old.blocks number schema schema env (event_env o e) block o.upgrade mid tx after refl es bs u) posted (alike.number ∙ ap (λ (x : ClientState). x.number) same))

-- ---- the end of a transaction
pub ended_own : (old new : OfficeState) (number : ℕ) (outcome : Outcome) (complete abort block : Option ℕ) (env last : Env) (l : Line) (before mid after : List Note)
    → last ≡ end_env env outcome → block ≡ end_block complete abort outcome → l ≡ end_line number outcome → mid ≡ before ++ note.Line l ∷ []
    → RunsNowInto old last block mid new after → EndsInto number outcome (OwnTx complete abort env) old before new after
ended_own old new number outcome complete abort block env last l before mid after es bs ls wrote ran =
    let g = runs_from old new old.client old.client old.run old.run last (end_env env outcome) block (end_block complete abort outcome) mid after refl refl es bs ran in
    record {
      acts = noted_line (end_line number outcome) ∷ g.acts;
      ends = EndsOwn complete abort env g.acts new.client g.runs;
      follows = record {
        made = g.follows.made;
        number = g.follows.number;
        blocks = g.follows.blocks;
        lines = behind before mid after (notes_of_acts g.acts) (note.Line (end_line number outcome)) (line_is before mid l (end_line number outcome) ls wrote) g.follows.lines;
      };
    }

pub ended_upgrade : (old : OfficeState) (number : ℕ) (outcome : Outcome) (l : Line) (before after : List Note) → l ≡ end_line number outcome → after ≡ before ++ note.Line l ∷ [] → EndsInto number outcome OfUpgrade old before old after
ended_upgrade old number outcome l before after ls wrote = record {
  acts = noted_line (end_line number outcome) ∷ [];
  ends = EndsUpgrade;
  follows = record { made = refl; number = refl; blocks = refl; lines = line_is before after l (end_line number outcome) ls wrote };
}

pub ended_deletion : (old : OfficeState) (number : ℕ) (outcome : Outcome) (notes : List Note) → EndsInto number outcome OfDeletion old notes old notes
ended_deletion old number outcome notes = record { acts = []; ends = EndsDeletion; follows = record { made = refl; number = refl; blocks = refl; lines = sym (append-nil notes) } }

finished : (old new : OfficeState) (number : ℕ) (outcome : Outcome) (kept : Option SchemaData) (tx : ClientTx) (before after : List Note) → old.client.tasks ≡ [] → tx_at old.client number ≡ Some tx → tx.started ≡ true
    → EndsInto number outcome tx.kind (moved_to old (without_tx old.client number) (with_step old.run (step.Leaves old.client.number number outcome kept))) before new after
    → FinishesInto number outcome kept old before new after
finished old new number outcome kept tx before after idle is ran g = record {
  tx = tx;
  acts = g.acts;
  idle = idle;
  found = is;
  ran = ran;
  ends = g.ends;
  follows = record { made = (refl, (refl, g.follows.made)); number = g.follows.number; blocks = g.follows.blocks; lines = g.follows.lines };
}

turns_made : (client number : ℕ) (r last : DeskRun) (turns : List (List Note)) (acts : List Act) → MadeAtOnce client r acts last → MadeAtOnce client r (map (TakesTurn number) turns ++ acts) last
turns_made client number r last [] acts m = m
turns_made client number r last (t ∷ turns) acts m = turns_made client number r last turns acts m

turns_noted : (number : ℕ) (turns : List (List Note)) (acts : List Act) → notes_of_acts (map (TakesTurn number) turns ++ acts) ≡ joined_lines turns ++ notes_of_acts acts
turns_noted number [] acts = refl
turns_noted number (t ∷ turns) acts = ap (λ ns. t ++ ns) (turns_noted number turns acts) ∙ sym (append_assoc t (joined_lines turns) (notes_of_acts acts))

finished_unstarted : (o new : OfficeState) (c : ClientState) (number : ℕ) (outcome : Outcome) (tx : ClientTx) (turns : List (List Note)) (before mid after : List Note) → c.tasks ≡ [] → tx_at c number ≡ Some tx → tx.started ≡ false
    → mid ≡ before ++ joined_lines turns
    → EndsInto number outcome tx.kind (moved_to o (with_notes (without_tx c number) (joined_lines turns)) (with_step o.run (step.Leaves c.number number outcome None))) mid new after
    → (with_notes (without_tx c number) (joined_lines turns)).number ≡ c.number
    → FinishesUnstartedInto number turns outcome (moved_to o c o.run) before new after
finished_unstarted o new c number outcome tx turns before mid after idle is waits wrote g same =
    let t = step.Leaves c.number number outcome None in
    let told = told_by (desk_run o.run) t in
    record {
      tx = tx;
      acts = g.acts;
      idle = idle;
      found = is;
      waits = waits;
      ends = g.ends;
      follows = record {
        made = turns_made c.number number o.run new.run turns (Makes t told ∷ g.acts) (refl, (refl, subst (λ n. MadeAtOnce n (with_step o.run t) g.acts new.run) same g.follows.made));
        number = g.follows.number ∙ same;
        blocks = g.follows.blocks;
        lines = g.follows.lines ∙ ap (λ ns. ns ++ notes_of_acts g.acts) wrote ∙ append_assoc before (joined_lines turns) (notes_of_acts g.acts) ∙ ap (λ ns. before ++ ns) (sym (turns_noted number turns (Makes t told ∷ g.acts)));
      };
    }

-- ---- from what the calls gave
ends_from : (o new : OfficeState) (c d : ClientState) (r q : DeskRun) (number : ℕ) (outcome : Outcome) (k l : ClientTxKind) (before after : List Note) → c ≡ d → r ≡ q → k ≡ l
    → EndsInto number outcome k (moved_to o c r) before new after → EndsInto number outcome l (moved_to o d q) before new after
ends_from o new c d r q number outcome k l before after cs rs ks g =
    let by_client = subst (λ (x : ClientState). EndsInto number outcome k (moved_to o x r) before new after) cs g in
    let by_run = subst (λ (x : DeskRun). EndsInto number outcome k (moved_to o d x) before new after) rs by_client in
    subst (λ (x : ClientTxKind). EndsInto number outcome x (moved_to o d q) before new after) ks by_run

pub has_finished : (old new : OfficeState) (r : DeskRun) (txs : List ClientTx) (number : ℕ) (outcome : Outcome) (kept : Option SchemaData) (tx : ClientTx) (k : ClientTxKind) (before after : List Note)
    → old.client.tasks ≡ [] → started_of (tx_at old.client number) ≡ true → Some tx ≡ tx_at old.client number → txs ≡ filter (λ tx. not (is_tx number tx)) old.client.txs → k ≡ tx.kind
    → r ≡ with_step old.run (step.Leaves old.client.number number outcome kept) → EndsInto number outcome k (moved_to old (record old.client { txs = txs }) r) before new after
    → FinishesInto number outcome kept old before new after
has_finished old new r txs number outcome kept tx k before after idle ran is put ks made g =
    let runs : tx.started ≡ true = ap (λ (o : Option ClientTx). started_of o) is ∙ ran in
    finished old new number outcome kept tx before after idle (sym is) runs
    (ends_from old new (record old.client { txs = txs }) (without_tx old.client number) r (with_step old.run (step.Leaves old.client.number number outcome kept)) number outcome k tx.kind before after
    (ap (λ (ts : List ClientTx). record old.client { txs = ts }) put) made ks g)

-- posted: the client with the posts of the turns
pub has_finished_unstarted : (o new : OfficeState) (posted : ClientState) (r : DeskRun) (k : ClientTxKind) (number : ℕ) (outcome : Outcome) (added notes after : List Note)
    → posted ≡ with_notes o.client added → posted.number ≡ o.client.number → r ≡ with_step o.run (step.Leaves o.client.number number outcome None)
    → EndsInto number outcome k (moved_to o posted r) notes new after
    → (c : ClientState) (tx : ClientTx) (turns : List (List Note)) (before : List Note) → c.tasks ≡ [] → tx_at c number ≡ Some tx → tx.started ≡ false → tx.kind ≡ k → o.client ≡ without_tx c number
    → joined_lines turns ≡ added → notes ≡ before ++ joined_lines turns → FinishesUnstartedInto number turns outcome (moved_to o c o.run) before new after
has_finished_unstarted o new posted r k number outcome added notes after posts same made g c tx turns before idle is waits ks out said wrote =
    let as_posted : posted ≡ with_notes (without_tx c number) (joined_lines turns) = posts ∙ ap (λ (x : ClientState). with_notes x added) out ∙ ap (λ (ns : List Note). with_notes (without_tx c number) ns) (sym said) in
    let numbered : o.client.number ≡ c.number = ap (λ (x : ClientState). x.number) out in
    let as_made : r ≡ with_step o.run (step.Leaves c.number number outcome None) = made ∙ ap (λ (n : ℕ). with_step o.run (step.Leaves n number outcome None)) numbered in
    finished_unstarted o new c number outcome tx turns before notes after idle is waits wrote
    (ends_from o new posted (with_notes (without_tx c number) (joined_lines turns)) r (with_step o.run (step.Leaves c.number number outcome None)) number outcome k tx.kind notes after as_posted as_made (sym ks) g)
    (sym (ap (λ (x : ClientState). x.number) as_posted) ∙ same ∙ numbered)

-- ---- starts and turns
some_body : {x y : TxBody Script} → Some x ≡ Some y → x ≡ y
some_body e = cc

pub has_started : (old : OfficeState) (last : DeskRun) (txs : List ClientTx) (number : ℕ) (result : Option BegunBody) → old.client.tasks ≡ [] → may_start_of (tx_at old.client number) ≡ true
    → begun_seen result ≡ begins_of (tx_at old.client number) → txs ≡ map (started_if number) old.client.txs → last ≡ with_step old.run (step.Starts old.client.number number)
    → IfSome result (λ body. StartsInto number old (body_seen body) (moved_to old (record old.client { txs = txs }) last))
has_started old last txs number None idle may begun put made = tt
has_started old last txs number (Some body) idle may begun put made = there (tx_at old.client number) refl may begun
  where
    there : (o : Option ClientTx) → tx_at old.client number ≡ o → may_start_of o ≡ true → Some (body_seen body) ≡ begins_of o → StartsInto number old (body_seen body) (moved_to old (record old.client { txs = txs }) last)
    there None e m b = cc
    there (Some tx) e m b =
        let parts = and_parts (not tx.started) (may_begin tx.body) m in
        let waits : tx.started ≡ false = not-true tx.started parts.0 in
        record {
          tx = tx;
          idle = idle;
          found = e;
          waits = waits;
          begins = parts.1;
          given = some_body (b ∙ ap (λ (s : Bool). if s then None else Some tx.body) waits);
          client = ap (λ (ts : List ClientTx). record old.client { txs = ts }) put;
          follows = record { made = (refl, (refl, made)); number = refl; blocks = refl; lines = refl };
        }

pub has_turned : (old : OfficeState) (new : ClientState) (number : ℕ) (notes : List Note) → old.client.tasks ≡ [] → started_of (tx_at old.client number) ≡ true → new ≡ with_notes old.client notes → new.number ≡ old.client.number
    → TurnInto number old notes (moved_to old new old.run)
has_turned old new number notes idle runs posts same = there (tx_at old.client number) refl runs
  where
    there : (o : Option ClientTx) → tx_at old.client number ≡ o → started_of o ≡ true → TurnInto number old notes (moved_to old new old.run)
    there None e r = cc
    there (Some tx) e r = record { tx = tx; idle = idle; found = e; runs = r; client = posts; follows = record { made = refl; number = same; blocks = refl; lines = sym (append-nil notes) } }

-- ---- one that is taken out
module _ (o p : Option ClientTx) (is : o ≡ p) where
  pub found_out : IfSome o (λ tx. p ≡ Some tx)
  found_out = split o is
    where
      split : (x : Option ClientTx) → x ≡ p → IfSome x (λ tx. p ≡ Some tx)
      split None e = tt
      split (Some tx) e = sym e

  pub waits_out : waits_of p ≡ true → IfSome o (λ tx. tx.started ≡ false)
  waits_out w = split o is
    where
      split : (x : Option ClientTx) → x ≡ p → IfSome x (λ tx. tx.started ≡ false)
      split None e = tt
      split (Some tx) e = not-true tx.started (ap (λ (y : Option ClientTx). waits_of y) e ∙ w)

  pub never_out : (P : Type 0) → waits_of p ≡ true → IfNone o P
  never_out P w = split o is
    where
      split : (x : Option ClientTx) → x ≡ p → IfNone x P
      split None e = (let bad : false ≡ true = ap (λ (y : Option ClientTx). waits_of y) e ∙ w in cc)
      split (Some tx) e = tt

pub each_some : {A P : Type 0} (o : Option A) → P → IfSome o (λ x. P)
each_some None h = tt
each_some (Some x) h = h
