-- A session before any step.
use Rattle.std.proofs.Common.{◌≡◌, ℕ, zero, suc, ◌+◌, true, false, List, [], ◌∷◌, slice_get, None, refl, sym, ap, subst}
use Rattle.std.specs.List.Sorted.{IsPermutation}
use Rattle.std.proofs.lemmas.List.Sorted.{IsPermutation-refl}
use Rattle.idb_schema.specs.Schemas.{SchemaData}
use Rattle.idb_desk.specs.Steps.{desk_run, IsDeskRun}
use Rattle.item_changes.specs.Items.{Items}
use Rattle.script_statements.specs.declared.script.Client.{Client}
use Rattle.script_statements.specs.declared.script.ScriptSession.{ScriptSession}
use Rattle.client_ties.specs.Acts.{Act}
use Rattle.client_ties.specs.ClientSteps.{Rests}
use Rattle.client_ties.proofs.Laws.{agrees_begins}
use Rattle.client_ties.specs.Unfinished.{unfinished_of}
use Rattle.legal_sessions.specs.Histories.{ShowsItems}
use Rattle.session_states.specs.Sessions.{fresh_seats, fresh_session}
use Rattle.session_states.specs.Telling.{begun_from, acts_where, told_of}
use Rattle.session_states.specs.UnderWay.{AreSeats, IsUnderWay}

-- no acts yet
no_acts : List Client → List (List Act)
no_acts [] = []
no_acts (c ∷ cs) = [] ∷ no_acts cs

none_begun : (place : ℕ) (cs : List Client) → begun_from place (no_acts cs) ≡ []
unfolding no_acts
none_begun place [] = refl
none_begun place (c ∷ cs) = none_begun (place + 1) cs

nobody_acts : (cs : List Client) (place : ℕ) → acts_where (slice_get (no_acts cs) place) ≡ []
unfolding no_acts
nobody_acts [] place = refl
nobody_acts (c ∷ cs) zero = refl
nobody_acts (c ∷ cs) (suc place) = nobody_acts cs place

seats_fresh : (place : ℕ) (schemas : List SchemaData) (cs : List Client) → AreSeats place (record { opening = schemas; order = [] }) [] cs (fresh_seats (place + 1) cs) (no_acts cs)
unfolding no_acts
seats_fresh place schemas [] = tt
seats_fresh place schemas (c ∷ cs) =
    (record { runs = Rests; agrees = agrees_begins (place + 1) schemas; number = refl; lines = refl; txs = refl }, seats_fresh (place + 1) schemas cs)

pub fresh_under_way : ((schemas : List SchemaData) → IsDeskRun (record { opening = schemas; order = [] })) → (session : ScriptSession) (schemas : List SchemaData) (items : Items) → ShowsItems schemas items → IsUnderWay session items (fresh_session session.clients schemas items) None
unfolding unfinished_of desk_run
fresh_under_way runs session schemas items shows = record {
  in_step = record {
    acts = no_acts session.clients;
    done = [];
    waiting = [];
    entries = [];
    shows = shows;
    desk = runs schemas;
    theirs = tt;
    seats = seats_fresh 0 schemas session.clients;
    begun = record {
      all = subst (λ bs. IsPermutation bs []) (sym (none_begun 0 session.clients)) (IsPermutation-refl []);
      numbers = refl;
      unfinished = refl;
      each = tt;
      ahead = λ place number le. ap (λ acts. told_of [] acts number) (nobody_acts session.clients place);
      first = tt;
    };
    finished = record { each = tt; serial = tt; items = refl; finish = refl; commits = refl; doubts = refl };
    finish_order = record { all = λ number. refl; fits = λ first second before listed. absurd (none (sym before)) };
    behind = tt;
  };
  faults = record { doubts = tt; marked = refl; stopped = λ k. refl };
}
  where
    none : true ≡ false → ⊥
    none k = cc
