-- The names that the desk keeps of a client's opens and deletes.
--     same_names            a list in which one was changed, but not its name
--     names_stay            behind a step that is no ask of the client
--     names_grow            behind one that is
use Rattle.std.proofs.Common.{◌≡◌, ◌≢◌, ℕ, zero, suc, ◌-◌, Bool, true, false, cond, List, [], ◌∷◌, ◌++◌, map, Option, Some, None, if◌then◌else◌, inl, inr, refl, sym, ◌∙◌, ap, slice_get, slice_set, drop}
use Rattle.idb_keys.specs.declared.names.Mode.{Mode}
use Rattle.std.specs.Prelude.{◌==◌, ◌||◌}
use Rattle.std.specs.List.{list_any, find}
use Rattle.std.proofs.lemmas.Bool.Decides.{eqb_tells}
use Rattle.idb_schema.specs.Schemas.{SchemaData}
use Rattle.name_queues.specs.declared.ids.ConnId.{ConnId}
use Rattle.name_queues.specs.declared.asks.Wants.{Wants}
use Rattle.name_queues.specs.declared.events.ClientEvent.{ClientEvent}
use Rattle.name_queues.specs.declared.events.ClientEvent.TheVariants as event
use Rattle.desk_steps.specs.declared.stands.DeskRequest.{DeskRequest}
use Rattle.desk_steps.specs.declared.stands.DrawnTx.{DrawnTx}
use Rattle.desk_steps.specs.declared.stands.Stand.{Stand}
use Rattle.desk_steps.specs.declared.stands.Stand.TheVariants as stand
use Rattle.desk_steps.specs.declared.stands.TxKind.{TxKind}
use Rattle.desk_steps.specs.declared.stands.TxKind.TheVariants as kind
use Rattle.desk_steps.specs.declared.steps.DeskStep.{DeskStep}
use Rattle.desk_steps.specs.declared.steps.DeskStep.TheVariants as step
use Rattle.connection_queues.specs.Machine.{schema_of, unhandled}
use Rattle.idb_desk.specs.Desks.{DeskState, DeskBoard, ClientStand, is_client, new_client, or_new_client, asks_of, changes_in, with_desk_client, at_desk_client, request_in, stand_of, stands_where, with_stand, stood, name_asked_by, drawn_at}
use Rattle.idb_desk.specs.Refusals.{is_committed, is_upgrading}
use Rattle.idb_desk.specs.Steps.{after, after_event, after_take, event_for, drawn_whole, asked_more, created_more, change_taken, changes_left, after_created, clients_left, after_left}
use Rattle.item_changes.specs.Items.{Name}
use Rattle.client_seats.specs.Seating.{asked_names, is_ask_of}

-- ---- one is changed, but not its name
module _ {A : Type 0} (name : A → Name) where
  set_same : (xs : List A) (i : ℕ) (x y : A) → slice_get xs i ≡ Some x → name y ≡ name x → map name (slice_set xs i y) ≡ map name xs
  set_same [] i x y e k = refl
  set_same (z ∷ xs) zero x y e k = let same : z ≡ x = cc in ap (λ n. n ∷ map name xs) (k ∙ ap name (sym same))
  set_same (z ∷ xs) (suc i) x y e k = ap (λ ns. name z ∷ ns) (set_same xs i x y e k)

  pub same_names : (xs : List A) (n : ℕ) (x y : A) → (if n == 0 then None else slice_get xs (n - 1)) ≡ Some x → name y ≡ name x → map name (slice_set xs (n - 1) y) ≡ map name xs
  same_names xs n x y e k = split (n == 0) e
    where
      split : (b : Bool) → (if b then None else slice_get xs (n - 1)) ≡ Some x → map name (slice_set xs (n - 1) y) ≡ map name xs
      split true e = cc
      split false e = set_same xs (n - 1) x y e k

abbrev names : List DeskRequest → List Name
names rs = map (λ r. r.name) rs

abbrev kept : List ClientStand → ℕ → List Name
kept cs client = names (asks_of cs client)

first_same : (client : ℕ) (c d : ClientStand) (cs ds : List ClientStand) → is_client client d ≡ is_client client c → names d.requests ≡ names c.requests → kept ds client ≡ kept cs client → kept (d ∷ ds) client ≡ kept (c ∷ cs) client
first_same client c d cs ds e f g = split (is_client client c) (is_client client d) e
  where
    split : (a b : Bool) → b ≡ a → names (or_new_client client (cond b (Some d) (find (is_client client) ds))).requests ≡ names (or_new_client client (cond a (Some c) (find (is_client client) cs))).requests
    split true true e = f
    split true false e = cc
    split false true e = cc
    split false false e = g

-- ---- one client is changed, but not the names of its requests
module _ (f : ClientStand → ClientStand) (keeps : (c : ClientStand) → (f c).client ≡ c.client) (same : (c : ClientStand) → names (f c).requests ≡ names c.requests) where
  pub changed_same : (client other : ℕ) (cs : List ClientStand) → kept (at_desk_client other f cs) client ≡ kept cs client
  changed_same client other [] = refl
  changed_same client other (c ∷ cs) = elim (is_client other c) as (λ b. kept (if b then f c ∷ cs else c ∷ at_desk_client other f cs) client ≡ kept (c ∷ cs) client) [
    | true ↦ first_same client c (f c) cs cs (ap (λ n. n == client) (keeps c)) (same c) refl
    | false ↦ first_same client c c cs (at_desk_client other f cs) refl refl (changed_same client other cs)
  ]

stand_same : (s : Stand) (who : ConnId) (c : ClientStand) → names (with_stand s who c).requests ≡ names c.requests
stand_same s who c = split (request_in c.requests who.request) refl
  where
    split : (o : Option DeskRequest) → request_in c.requests who.request ≡ o → names (stands_where c.requests who.request s o) ≡ names c.requests
    split None e = refl
    split (Some r) e = same_names (λ r. r.name) c.requests who.request r (record { name = r.name; stand = s }) e refl

stood_same : (s : Stand) (who : ConnId) (client : ℕ) (cs : List ClientStand) → kept (stood s who cs) client ≡ kept cs client
stood_same s who client cs = changed_same (with_stand s who) (λ c. refl) (stand_same s who) client who.client cs

-- ---- one client asks
other_than : (client other : ℕ) → client ≢ other → (other == client) ≡ false
other_than client other apart = elim (eqb_tells other client) [ inl p ↦ absurd (apart (sym p.1)) | inr p ↦ p.0 ]

itself : (n : ℕ) → (n == n) ≡ true
itself n = elim (eqb_tells n n) [ inl p ↦ p.0 | inr p ↦ absurd (p.1 refl) ]

-- of another client nothing is changed
passed : (client : ℕ) (d : ClientStand) (ds : List ClientStand) → is_client client d ≡ false → kept (d ∷ ds) client ≡ kept ds client
passed client d ds e = split (is_client client d) e
  where
    split : (b : Bool) → b ≡ false → names (or_new_client client (cond b (Some d) (find (is_client client) ds))).requests ≡ kept ds client
    split true e = cc
    split false e = refl

met : (client : ℕ) (d : ClientStand) (ds : List ClientStand) → is_client client d ≡ true → kept (d ∷ ds) client ≡ names d.requests
met client d ds e = split (is_client client d) e
  where
    split : (b : Bool) → b ≡ true → names (or_new_client client (cond b (Some d) (find (is_client client) ds))).requests ≡ names d.requests
    split true e = refl
    split false e = cc

module _ (client other : ℕ) (apart : client ≢ other) (f : ClientStand → ClientStand) (keeps : (c : ClientStand) → (f c).client ≡ c.client) where
  -- a client of the one number is none of the other
  not_both : (c : ClientStand) → is_client other c ≡ true → is_client client c ≡ false
  not_both c e = elim (eqb_tells c.client other) [
    | inl p ↦ elim (eqb_tells c.client client) [ inl q ↦ absurd (apart (sym q.1 ∙ p.1)) | inr q ↦ q.0 ]
    | inr p ↦ let bad : true ≡ false = sym e ∙ p.0 in cc
  ]

  other_same : (cs : List ClientStand) → kept (at_desk_client other f cs) client ≡ kept cs client
  other_same [] = refl
  other_same (c ∷ cs) = split (is_client other c) refl (other_same cs)
    where
      split : (b : Bool) → is_client other c ≡ b → kept (at_desk_client other f cs) client ≡ kept cs client → kept (if b then f c ∷ cs else c ∷ at_desk_client other f cs) client ≡ kept (c ∷ cs) client
      split true e ih = passed client (f c) cs (ap (λ n. n == client) (keeps c) ∙ not_both c e) ∙ sym (passed client c cs (not_both c e))
      split false e ih = first_same client c c cs (at_desk_client other f cs) refl refl ih

  end_same : (cs : List ClientStand) → kept (cs ++ new_client other ∷ []) client ≡ kept cs client
  end_same [] = passed client (new_client other) [] (other_than client other apart)
  end_same (c ∷ cs) = first_same client c c cs (cs ++ new_client other ∷ []) refl refl (end_same cs)

  pub asked_other : (cs : List ClientStand) → kept (at_desk_client other f (with_desk_client other cs)) client ≡ kept cs client
  asked_other cs = other_same (with_desk_client other cs) ∙ elim (list_any (is_client other) cs) as (λ b. kept (if b then cs else cs ++ new_client other ∷ []) client ≡ kept cs client) [ true ↦ refl | false ↦ end_same cs ]

-- its own
names_end : (rs : List DeskRequest) (r : DeskRequest) → names (rs ++ r ∷ []) ≡ names rs ++ r.name ∷ []
names_end [] r = refl
names_end (s ∷ rs) r = ap (λ ns. s.name ∷ ns) (names_end rs r)

-- the first of these that is the client, or a new one behind them, asks
module _ (client : ℕ) (name : Name) where
  abbrev more : List ClientStand → List ClientStand
  more cs = at_desk_client client (asked_more name) cs

  abbrev Grows : List ClientStand → List ClientStand → Type 0
  Grows cs ds = kept (more cs) client ≡ kept ds client ++ name ∷ []

  one_asks : (c : ClientStand) (cs ds : List ClientStand) → is_client client c ≡ true → Grows (c ∷ cs) (c ∷ ds)
  one_asks c cs ds e =
      let here : more (c ∷ cs) ≡ asked_more name c ∷ cs = ap (λ b. if b then asked_more name c ∷ cs else c ∷ more cs) e in
      ap (λ xs. kept xs client) here ∙ met client (asked_more name c) cs e ∙ names_end c.requests (record { name = name; stand = stand.Asked }) ∙ ap (λ ns. ns ++ name ∷ []) (sym (met client c ds e))

  later_asks : (c : ClientStand) (cs ds : List ClientStand) → is_client client c ≡ false → Grows cs ds → Grows (c ∷ cs) (c ∷ ds)
  later_asks c cs ds e g =
      let here : more (c ∷ cs) ≡ c ∷ more cs = ap (λ b. if b then asked_more name c ∷ cs else c ∷ more cs) e in
      ap (λ xs. kept xs client) here ∙ passed client c (more cs) e ∙ g ∙ ap (λ ns. ns ++ name ∷ []) (sym (passed client c ds e))

  asks_either : (c : ClientStand) (cs ds : List ClientStand) → (is_client client c ≡ false → Grows cs ds) → Grows (c ∷ cs) (c ∷ ds)
  asks_either c cs ds g = split (is_client client c) refl
    where
      split : (b : Bool) → is_client client c ≡ b → Grows (c ∷ cs) (c ∷ ds)
      split true e = one_asks c cs ds e
      split false e = later_asks c cs ds e (g e)

  any_left : (c : ClientStand) (cs : List ClientStand) (b : Bool) → is_client client c ≡ false → list_any (is_client client) (c ∷ cs) ≡ b → list_any (is_client client) cs ≡ b
  any_left c cs b e k = sym (ap (λ a. a || list_any (is_client client) cs) e) ∙ k

  own_there : (cs : List ClientStand) → list_any (is_client client) cs ≡ true → Grows cs cs
  own_there [] e = cc
  own_there (c ∷ cs) e = asks_either c cs cs (λ not_it. own_there cs (any_left c cs true not_it e))

  own_new : (cs : List ClientStand) → Grows (cs ++ new_client client ∷ []) cs
  own_new [] = one_asks (new_client client) [] [] (itself client) ∙ ap (λ ns. ns ++ name ∷ []) (met client (new_client client) [] (itself client))
  own_new (c ∷ cs) = asks_either c (cs ++ new_client client ∷ []) cs (λ not_it. own_new cs)

  pub asked_own : (cs : List ClientStand) → Grows (with_desk_client client cs) cs
  asked_own cs = split (list_any (is_client client) cs) refl
    where
      split : (b : Bool) → list_any (is_client client) cs ≡ b → Grows (if b then cs else cs ++ new_client client ∷ []) cs
      split true e = own_there cs e
      split false e = own_new cs

-- ---- steps
drawn_same : (b : DeskBoard) (who : ConnId) (k : TxKind) (name : Option Name) → (drawn_whole b who k name).clients ≡ b.clients
drawn_same b who k None = refl
drawn_same b who k (Some name) = refl

event_same : (client : ℕ) (b : DeskBoard) (e : ClientEvent) → kept (after_event b e).clients client ≡ kept b.clients client
event_same client b (event.Upgrade who old new) = stood_same stand.Upgrading who client b.clients
event_same client b (event.Blocked who old new) = refl
event_same client b (event.Success who version) = stood_same stand.Given who client b.clients
event_same client b (event.Error who name) = refl
event_same client b (event.VersionChange who old new) = changed_same (change_taken who) (λ c. refl) (λ c. refl) client who.client b.clients
event_same client b (event.Closed who) = refl
event_same client b (event.DeleteReady who old) = ap (λ cs. kept cs client) (drawn_same b who kind.Deletion (name_asked_by b.clients who))

take_same : (client other : ℕ) (d : DeskState) (o : Option ClientEvent) → kept (after_take d other o).board.clients client ≡ kept d.board.clients client
take_same client other d None = refl
take_same client other d (Some e) = event_same client d.board e

created_same : (client : ℕ) (d : DeskState) (who : ConnId) (scope : List Name) (m : Mode) (name : Option Name) (schema : Option SchemaData) → kept (after_created d who scope m name schema).board.clients client ≡ kept d.board.clients client
created_same client d who scope m None schema = refl
created_same client d who scope m (Some name) None = refl
created_same client d who scope m (Some name) (Some schema) = changed_same created_more (λ c. refl) (λ c. refl) client who.client d.board.clients

left_same : (client : ℕ) (k : TxKind) (who : ConnId) (cs : List ClientStand) → kept (clients_left k who cs) client ≡ kept cs client
left_same client kind.Plain who cs = refl
left_same client (kind.Upgrade version) who cs = elim (is_upgrading (stand_of cs who)) as (λ b. kept (if b then stood stand.Given who cs else cs) client ≡ kept cs client) [ true ↦ stood_same stand.Given who client cs | false ↦ refl ]
left_same client kind.Deletion who cs = refl

leave_same : (client : ℕ) (d : DeskState) (number : ℕ) (committed : Bool) (schema : Option SchemaData) (o : Option DrawnTx) → kept (after_left d number committed schema o).board.clients client ≡ kept d.board.clients client
leave_same client d number committed schema None = refl
leave_same client d number committed schema (Some t) = left_same client t.kind t.who d.board.clients

not_own : (client other : ℕ) → (other == client) ≡ false → client ≢ other
not_own client other e k = let bad : false ≡ true = sym e ∙ ap (λ n. other == n) k ∙ itself other in cc

pub names_stay : (client : ℕ) (d : DeskState) (t : DeskStep) → is_ask_of client t ≡ false → asked_names (after d t) client ≡ asked_names d client
unfolding after
names_stay client d (step.Asks who name wants) e = asked_other client who.client (not_own client who.client e) (asked_more name) (λ c. refl) d.board.clients
names_stay client d (step.Takes other) e = take_same client other d (event_for d other)
names_stay client d (step.Handles other) e = changed_same (changes_left (drop 1 (unhandled d.queues.names (changes_in d.board.clients other)))) (λ c. refl) (λ c. refl) client other d.board.clients
names_stay client d (step.Closes who) e = stood_same stand.Shut who client d.board.clients
names_stay client d (step.Creates number who scope m durability) e = created_same client d who scope m (name_asked_by d.board.clients who) (schema_of d.queues who)
names_stay client d (step.Starts other number) e = refl
names_stay client d (step.Leaves other number ended schema) e = leave_same client d number (is_committed ended) schema (drawn_at d.board.drawn number)
names_stay client d step.Faults e = refl

pub names_grow : (d : DeskState) (who : ConnId) (name : Name) (wants : Wants) → asked_names (after d (step.Asks who name wants)) who.client ≡ asked_names d who.client ++ name ∷ []
unfolding after
names_grow d who name wants = asked_own who.client name d.board.clients
