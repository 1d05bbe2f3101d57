-- A number that is drawn, by the place that it is drawn at.
use Rattle.std.proofs.Common.{◌≡◌, ◌∙◌, ℕ, List, [], ◌∷◌, ◌++◌, ap, sym}
use Rattle.idb_keys.specs.declared.names.Mode.{Mode}
use Rattle.name_queues.specs.declared.ids.ConnId.{ConnId}
use Rattle.scope_desk.specs.Starts.{created}
use Rattle.desk_steps.specs.declared.stands.DeskPlace.{DeskPlace}
use Rattle.desk_steps.specs.declared.stands.TxKind.{TxKind}
use Rattle.desk_steps.specs.declared.stands.TxStage.TheVariants as stage
use Rattle.desk_steps.specs.Desks.{DeskBoard, ClientStand, at_desk_client}
use Rattle.desk_steps.specs.declared.stands.TxKind.TheVariants as kind
use Rattle.desk_steps.specs.Numbers.{at_place, with_place, one_more_unfinished}
use Rattle.desk_steps.specs.Placing.{placed_at}
use Rattle.desk_steps.specs.Steps.{with_drawn, with_clients, created_on, created_more}

-- ps is how the places were read
pub drawn_there : (b : DeskBoard) (ps : List DeskPlace) (name : List ℕ) (who : ConnId) (k : TxKind) (items items' : List ℕ) (m : Mode) (i : ℕ) (p : DeskPlace)
    → ps ≡ b.places → placed_at i p ps ≡ at_place name one_more_unfinished (with_place name ps) → items ≡ items'
    → record b { scopes = created b.scopes items m; places = placed_at i p b.places; drawn = b.drawn ++ record { who = who; kind = k; stage = stage.Created } ∷ [] } ≡ with_drawn b name who k items' m
drawn_there b ps name who k items items' m i p s e h = λ j. record b {
  scopes = created b.scopes (h j) m;
  places = (ap (placed_at i p) (sym s) ∙ e ∙ ap (λ qs. at_place name one_more_unfinished (with_place name qs)) s) j;
  drawn = b.drawn ++ record { who = who; kind = k; stage = stage.Created } ∷ [];
}

-- the same of a transaction that its client counts
pub counted_there : (b d : DeskBoard) (name : List ℕ) (who : ConnId) (items : List ℕ) (m : Mode) (cs : List ClientStand) → d ≡ with_drawn b name who kind.Plain items m → cs ≡ at_desk_client who.client created_more d.clients → with_clients d cs ≡ created_on b who name items m
counted_there b d name who items m cs q r = ap (λ (x : DeskBoard). with_clients x cs) q ∙ ap (λ es. with_clients (with_drawn b name who kind.Plain items m) es) (r ∙ ap (λ (x : DeskBoard). at_desk_client who.client created_more x.clients) q)
