-- A session that is stopped has done so much of a legal one as its log was told.
--     at_err                what holds by itself holds where a result is an error
--     stopped_driving       between two moves
--     stopped_move          within a move
--     stopped_behind        behind one
use Rattle.std.proofs.Common.{◌≡◌, List, ℕ, slice_get, Option, Some, None, Result, Ok, Err, OnErr, inl, inr, sym, subst}
use Rattle.idb_desk.specs.Steps.{DeskRun}
use Rattle.item_changes.specs.Items.{Items}
use Rattle.log_history.specs.Batching.{Commit}
use Rattle.script_statements.specs.declared.script.ScriptSession.{ScriptSession}
use Rattle.script_runs.specs.declared.notes.Note.{Note}
use Rattle.interrupted_sessions.specs.Interrupted.{HasCommits}
use Rattle.interrupted_sessions.proofs.Laws.{BetweenLaw, AtEndLaw}
use Rattle.office_moves.specs.Offices.{OfficeState}
use Rattle.office_moves.specs.Scenes.{DoneNow, scene_of, IsSceneAt, with_scene, IsDriven, LeadsTo}
use Rattle.office_moves.specs.Stopping.{StopsTelling}
use Rattle.session_driver.specs.declared.seats.Seat.{Seat}
use Rattle.session_driver.specs.Seats.{session_seen, IsDriving}
use Rattle.session_driver.proofs.Driving.{office_at, scene_at}

pub at_err : {T E P : Type 0} (r : Result T E) → P → OnErr r P
at_err (Ok x) p = tt
at_err (Err e) p = p

-- as the log was told
told_so : (session : ScriptSession) (opening now : Items) (commits cs doubts ds : List Commit) → now ≡ opening → cs ≡ commits → ds ≡ doubts → HasCommits session opening commits doubts → HasCommits session now cs ds
told_so session opening now commits cs doubts ds is c d h =
    subst (λ (i : Items). HasCommits session i cs ds) (sym is) (subst (λ xs. HasCommits session opening xs ds) (sym c) (subst (λ xs. HasCommits session opening commits xs) (sym d) h))

module _ (between : BetweenLaw) (session : ScriptSession) (r : DeskRun) (seats : List Seat) (done : DoneNow) (items : Items) (drives : IsDriving session r seats done items) where
  pub stopped_driving : HasCommits session done.opening done.commits done.doubts
  stopped_driving = between session done.opening (session_seen r seats done items) None drives.driven.under_way

  module _ (place : ℕ) (s : Seat) (office : OfficeState) (at : slice_get seats place ≡ Some s) (office_is : office ≡ office_at s r) where
    here : IsSceneAt session (session_seen r seats done items) place (scene_of office s.notes done items)
    here = subst (λ (o : OfficeState). IsSceneAt session (session_seen r seats done items) place (scene_of o s.notes done items)) (sym office_is) (scene_at session r seats done items place s drives at)

    pub stopped_move : AtEndLaw → (last : DoneNow) → last.opening ≡ done.opening → StopsTelling None (scene_of office s.notes done items) last → HasCommits session last.opening last.commits last.doubts
    stopped_move at_end last opened (inl none) = told_so session done.opening last.opening done.commits last.commits done.doubts last.doubts opened none.commits none.doubts stopped_driving
    stopped_move at_end last opened (inr run) =
        let tells = run.tells in
        let now = with_scene place (scene_of run.office run.notes done items) (session_seen r seats done items) in
        let driven : IsDriven session done.opening now (Some run.t) = run.goes.leads session (session_seen r seats done items) place here drives.driven in
        told_so session done.opening last.opening _ last.commits _ last.doubts opened tells.commits tells.doubts
        (at_end session done.opening now run.t tells.changes tells.kept tells.outcome driven.under_way tells.ran tells.writes)

    pub stopped_behind : (new : OfficeState) (after : List Note) (last : DoneNow) (left : Items) → LeadsTo None None (scene_of office s.notes done items) (scene_of new after last left) → HasCommits session last.opening last.commits last.doubts
    stopped_behind new after last left leads =
        between session last.opening (with_scene place (scene_of new after last left) (session_seen r seats done items)) None (leads.leads session (session_seen r seats done items) place here drives.driven).under_way
