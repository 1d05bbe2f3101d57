-- What holds of all names at the desk, in every run.
--     AreBounded, placed    each name is as `IsBounded` asks;  how many have a place
--     length_placed         the length of the list of those
--     KeepsAll              a step keeps this, and gives no name a place
--     IsAny                 nothing is asked
--     IsGiven               what a step hands in is as it was asked
--     bounded_step, placed_step     after a step that is allowed
--     bounded_opening, placed_opening       before any step
use Rattle.std.proofs.Common.{◌≡◌, ◌≤◌, ℕ, ◌+◌, Bool, true, false, ◌&&◌, nat_lt, List, [], ◌∷◌, map, filter, length, Option, Some, None, inl, inr, refl, sym, ap, ◌∙◌, subst, arith}
use Rattle.std.specs.Prelude.{⊤, ◌||◌}
use Rattle.std.specs.List.{list_any, AllByRecursion}
use Rattle.std.specs.Cmp.Lexicographic.{same_text}
use Rattle.std.proofs.lemmas.Bool.{cases_Bool, ltb-true}
use Rattle.idb_keys.specs.declared.names.Mode.{Mode}
use Rattle.idb_schema.specs.Schemas.{SchemaData}
use Rattle.name_queues.specs.declared.asks.Ask.{Ask}
use Rattle.name_queues.specs.declared.asks.Wants.{Wants}
use Rattle.name_queues.specs.declared.connections.Change.{Change}
use Rattle.name_queues.specs.declared.connections.Change.TheVariants as change
use Rattle.name_queues.specs.declared.events.ClientEvent.{ClientEvent}
use Rattle.name_queues.specs.declared.ids.ConnId.{ConnId}
use Rattle.name_queues.specs.declared.names.Named.{Named}
use Rattle.name_queues.specs.declared.names.TheConstants.{GREATEST_NAME_COUNT}
use Rattle.name_queues.specs.Mails.{events_of, taken_of, is_change, conn_of}
use Rattle.name_queues.specs.Moves.{closed_conn, tx_ended, upgrade_ended, deletion_ended, faulted_name}
use Rattle.name_queues.specs.Names.{at_first, name_of, is_name, holds, has_place, blank_name, queued, noted_change, one_tx_more}
use Rattle.connection_queues.specs.Machine.{QueueState, comes_before, put_name, names_of_schemas, enqueued, is_admitted, after_ask, closed, marked_at, names_after_event, taken_event, unhandled, handled, handled_first, schema_of}
use Rattle.connection_queues.specs.Runs.{settled_name}
use Rattle.desk_steps.specs.declared.stands.DrawnTx.{DrawnTx}
use Rattle.desk_steps.specs.declared.stands.TxKind.{TxKind}
use Rattle.desk_steps.specs.declared.stands.TxKind.TheVariants as kind
use Rattle.desk_steps.specs.declared.steps.DeskStep.{DeskStep}
use Rattle.desk_steps.specs.declared.steps.DeskStep.TheVariants as step
use Rattle.idb_desk.specs.Desks.{DeskState, changes_in, name_asked_by, drawn_at}
use Rattle.idb_desk.specs.Queueing.{settled_at, settled_where}
use Rattle.idb_desk.specs.Refusals.{is_committed}
use Rattle.idb_desk.specs.Steps.{after, after_take, after_created, after_left, handled_where, queues_left, ended_in, event_for}
use Rattle.desk_facts.specs.Counts.{one_if, tally}
use Rattle.desk_facts.specs.Queued.{AreNamedApart}
use Rattle.session_limits.proofs.Bounds.{HasAll, IsBounded, Keeps, bounded_blank, bounded_queued, keeps_conn, keeps_closed, keeps_tx, keeps_settled, keeps_upgraded, keeps_deleted, keeps_faulted}

abbrev pub AreBounded : (SchemaData → Type 0) → (Wants → Type 0) → List Named → Type 0
AreBounded P Q names = AllByRecursion (IsBounded P Q) names

-- one for a name with a place
abbrev place_count : Named → ℕ
place_count n = one_if (has_place n)

abbrev pub placed : List Named → ℕ
placed names = tally place_count names

pub length_placed : (names : List Named) → length (filter has_place names) ≡ placed names
length_placed [] = refl
length_placed (n ∷ ns) =
    let rest = length_placed ns in
    elim (cases_Bool (has_place n)) [
      | inl is ↦ rw is (omega (arith, rest))
      | inr out ↦ rw out (omega (arith, rest))
    ]

pub record KeepsAll (P : SchemaData → Type 0) (Q : Wants → Type 0) (ns ms : List Named) : Type 0 where
  pub bounded : AreBounded P Q ns → AreBounded P Q ms
  pub few : placed ms ≤ placed ns

-- what a step hands in: the request that is asked, and the schema that is kept
abbrev pub IsGiven : (SchemaData → Type 0) → (Wants → Type 0) → DeskStep → Type 0
IsGiven P Q (step.Asks who name want) = Q want
IsGiven P Q (step.Takes client) = ⊤
IsGiven P Q (step.Handles client) = ⊤
IsGiven P Q (step.Closes who) = ⊤
IsGiven P Q (step.Creates number who scope m durability) = ⊤
IsGiven P Q (step.Starts client number) = ⊤
IsGiven P Q (step.Leaves client number ended kept) = HasAll P kept
IsGiven P Q step.Faults = ⊤

no_more : (a b : Bool) → (a ≡ true → b ≡ true) → one_if a ≤ one_if b
no_more true b f = let e : one_if b ≡ 1 = ap one_if (f refl) in omega (arith, e)
no_more false b f = omega arith

at_most_one : (b : Bool) → one_if b ≤ 1
at_most_one true = omega arith
at_most_one false = omega arith

module _ (P : SchemaData → Type 0) (Q : Wants → Type 0) where
  -- ---- lists of names
  all_itself : (ns : List Named) → KeepsAll P Q ns ns
  all_itself ns = record { bounded = λ b. b; few = omega arith }

  all_then : (ns ms ks : List Named) → KeepsAll P Q ns ms → KeepsAll P Q ms ks → KeepsAll P Q ns ks
  all_then ns ms ks a b = record { bounded = λ h. b.bounded (a.bounded h); few = let p = a.few in let q = b.few in omega arith }

  first_keeps : (test : Named → Bool) (f : Named → Named) → ((n : Named) → Keeps P Q n (f n)) → (ns : List Named) → KeepsAll P Q ns (at_first test f ns)
  first_keeps test f keeps [] = all_itself []
  first_keeps test f keeps (n ∷ ns) =
      let k = keeps n in
      let rest = first_keeps test f keeps ns in
      elim (cases_Bool (test n)) [
        | inl is ↦ rw is (record { bounded = λ b. (k.bounded b.0, b.1); few = let p = no_more (has_place (f n)) (has_place n) k.place in omega (arith, p) })
        | inr out ↦ rw out (record { bounded = λ b. (b.0, rest.bounded b.1); few = let p = rest.few in omega (arith, p) })
      ]

  mapped_keeps : (f : Named → Named) → ((n : Named) → Keeps P Q n (f n)) → (ns : List Named) → KeepsAll P Q ns (map f ns)
  mapped_keeps f keeps [] = all_itself []
  mapped_keeps f keeps (n ∷ ns) =
      let k = keeps n in
      let rest = mapped_keeps f keeps ns in
      record { bounded = λ b. (k.bounded b.0, rest.bounded b.1); few = let p = no_more (has_place (f n)) (has_place n) k.place in let q = rest.few in omega (arith, p, q) }

  bounded_put : (n : Named) (ms : List Named) → IsBounded P Q n → AreBounded P Q ms → AreBounded P Q (put_name n ms)
  bounded_put n [] b all = (b, tt)
  bounded_put n (m ∷ ms) b all = elim (cases_Bool (comes_before (name_of n) m)) [
    | inl is ↦ rw is (b, all)
    | inr out ↦ rw out (all.0, bounded_put n ms b all.1)
  ]

  filter_keeps : (test : Named → Bool) (ns : List Named) → KeepsAll P Q ns (filter test ns)
  filter_keeps test [] = all_itself []
  filter_keeps test (n ∷ ns) =
      let rest = filter_keeps test ns in
      elim (cases_Bool (test n)) [
        | inl is ↦ rw is (record { bounded = λ b. (b.0, rest.bounded b.1); few = let p = rest.few in omega (arith, p) })
        | inr out ↦ rw out (record { bounded = λ b. rest.bounded b.1; few = let p = rest.few in omega (arith, p) })
      ]

  -- ---- the calls of the queues
  settles : (q : QueueState) (name : List ℕ) → KeepsAll P Q q.names (settled_at q name).names
  settles q name = first_keeps (is_name name) (λ n. (settled_name n).named) (keeps_settled P Q) q.names

  settles_where : (q : QueueState) (o : Option (List ℕ)) → KeepsAll P Q q.names (settled_where q o).names
  settles_where q None = all_itself q.names
  settles_where q (Some name) = settles q name

  marks : (who : ConnId) (c : Change) (ns : List Named) → KeepsAll P Q ns (marked_at who c ns)
  marks who c ns = first_keeps (holds who) _ (keeps_conn P Q who (noted_change c)) ns

  notes_event : (e : ClientEvent) (ns : List Named) → KeepsAll P Q ns (names_after_event e ns)
  notes_event e ns = elim (cases_Bool (is_change e)) [
    | inl is ↦ rw is (marks (conn_of e) change.Taken ns)
    | inr out ↦ rw out (all_itself ns)
  ]

  takes_event : (q : QueueState) (client : ℕ) (es : List ClientEvent) → KeepsAll P Q q.names (taken_event q client es).names
  takes_event q client [] = all_itself q.names
  takes_event q client (e ∷ es) = notes_event e q.names

  handles_first : (q : QueueState) (client : ℕ) (whos : List ConnId) → KeepsAll P Q q.names (handled_first q client whos).names
  handles_first q client [] = all_itself q.names
  handles_first q client (who ∷ whos) = marks who change.Heard q.names

  -- ---- a step of the desk that asks nothing
  takes : (d : DeskState) (client : ℕ) (o : Option ClientEvent) → KeepsAll P Q d.queues.names (after_take d client o).queues.names
  takes d client None = all_itself d.queues.names
  takes d client (Some e) = takes_event d.queues client (events_of d.queues.mails client)

  handles : (d : DeskState) (client : ℕ) (whos : List ConnId) → KeepsAll P Q d.queues.names (handled_where d client whos).names
  handles d client [] = all_itself d.queues.names
  handles d client (who ∷ whos) =
      all_then d.queues.names (handled d.queues client).names (handled_where d client (who ∷ whos)).names
      (handles_first d.queues client (unhandled d.queues.names (taken_of d.queues.mails client)))
      (settles_where (handled d.queues client) (name_asked_by d.board.clients who))

  creates : (d : DeskState) (who : ConnId) (scope : List (List ℕ)) (m : Mode) (name : Option (List ℕ)) (schema : Option SchemaData) → KeepsAll P Q d.queues.names (after_created d who scope m name schema).queues.names
  creates d who scope m None schema = all_itself d.queues.names
  creates d who scope m (Some name) None = all_itself d.queues.names
  creates d who scope m (Some name) (Some schema) = first_keeps (holds who) _ (keeps_conn P Q who one_tx_more) d.queues.names

  ends : (q : QueueState) (name : List ℕ) (who : ConnId) (k : TxKind) (committed : Bool) (kept : Option SchemaData) → HasAll P kept → KeepsAll P Q q.names (ended_in q name who k committed kept).names
  ends q name who kind.Plain committed kept all = first_keeps (holds who) (λ n. (tx_ended who n).named) (keeps_tx P Q who) q.names
  ends q name who (kind.Upgrade version) committed kept all = first_keeps (is_name name) (λ n. (upgrade_ended kept n).named) (λ n. keeps_upgraded P Q kept n all) q.names
  ends q name who kind.Deletion committed kept all = first_keeps (is_name name) (λ n. (deletion_ended committed n).named) (keeps_deleted P Q committed) q.names

  leaves_in : (q : QueueState) (o : Option (List ℕ)) (who : ConnId) (k : TxKind) (committed : Bool) (kept : Option SchemaData) → HasAll P kept → KeepsAll P Q q.names (queues_left q o who k committed kept).names
  leaves_in q None who k committed kept all = all_itself q.names
  leaves_in q (Some name) who k committed kept all =
      all_then q.names (ended_in q name who k committed kept).names (queues_left q (Some name) who k committed kept).names
      (ends q name who k committed kept all)
      (settles (ended_in q name who k committed kept) name)

  leaves : (d : DeskState) (number : ℕ) (committed : Bool) (kept : Option SchemaData) (o : Option DrawnTx) → HasAll P kept → KeepsAll P Q d.queues.names (after_left d number committed kept o).queues.names
  leaves d number committed kept None all = all_itself d.queues.names
  leaves d number committed kept (Some t) all = leaves_in d.queues (name_asked_by d.board.clients t.who) t.who t.kind committed kept all

  closes : (d : DeskState) (who : ConnId) → KeepsAll P Q d.queues.names (settled_where (closed d.queues who) (name_asked_by d.board.clients who)).names
  closes d who =
      all_then d.queues.names (closed d.queues who).names (settled_where (closed d.queues who) (name_asked_by d.board.clients who)).names
      (first_keeps (holds who) (λ n. (closed_conn who n).named) (keeps_closed P Q who) d.queues.names)
      (settles_where (closed d.queues who) (name_asked_by d.board.clients who))

  -- ---- asks
  bounded_enqueued : (name : List ℕ) (ask : Ask) (ns : List Named) → Q ask.wants → AreBounded P Q ns → AreBounded P Q (enqueued name ask ns)
  bounded_enqueued name ask ns q all = elim (cases_Bool (list_any (is_name name) ns)) [
    | inl is ↦ rw is (bounded_first ns all)
    | inr out ↦ rw out ((filter_keeps has_place (put_name (queued ask (blank_name name None)) ns)).bounded (bounded_put (queued ask (blank_name name None)) ns (bounded_queued P Q ask (blank_name name None) q (bounded_blank P Q name None tt)) all))
  ]
    where
      bounded_first : (ms : List Named) → AreBounded P Q ms → AreBounded P Q (at_first (is_name name) (queued ask) ms)
      bounded_first [] h = tt
      bounded_first (m ∷ ms) h = elim (cases_Bool (is_name name m)) [
        | inl is ↦ rw is (bounded_queued P Q ask m q h.0, h.1)
        | inr out ↦ rw out (h.0, bounded_first ms h.1)
      ]

  bounded_asked : (q : QueueState) (who : ConnId) (name : List ℕ) (want : Wants) → Q want → AreBounded P Q q.names → AreBounded P Q (after_ask q who name want).names
  bounded_asked q who name want fits all = elim (cases_Bool q.is_faulted) [
    | inl is ↦ rw is all
    | inr out ↦ elim (cases_Bool (is_admitted name q.names)) [
      | inl has ↦ rw out (rw has (bounded_enqueued name (record { who = who; wants = want }) q.names fits all))
      | inr full ↦ rw out (rw full all)
    ]
  ]

  -- ---- each step
  pub bounded_step : (d : DeskState) (t : DeskStep) → IsGiven P Q t → AreBounded P Q d.queues.names → AreBounded P Q (after d t).queues.names
  unfolding after
  bounded_step d (step.Asks who name want) g all = (settles (after_ask d.queues who name want) name).bounded (bounded_asked d.queues who name want g all)
  bounded_step d (step.Takes client) g all = (takes d client (event_for d client)).bounded all
  bounded_step d (step.Handles client) g all = (handles d client (unhandled d.queues.names (changes_in d.board.clients client))).bounded all
  bounded_step d (step.Closes who) g all = (closes d who).bounded all
  bounded_step d (step.Creates number who scope m durability) g all = (creates d who scope m (name_asked_by d.board.clients who) (schema_of d.queues who)).bounded all
  bounded_step d (step.Starts client number) g all = all
  bounded_step d (step.Leaves client number ended kept) g all = (leaves d number (is_committed ended) kept (drawn_at d.board.drawn number) g).bounded all
  bounded_step d step.Faults g all = (mapped_keeps (λ n. (faulted_name n).named) (keeps_faulted P Q) d.queues.names).bounded all

  pub bounded_opening : (names : List Named) (schemas : List SchemaData) → AllByRecursion P schemas → AreBounded P Q names → AreBounded P Q (names_of_schemas names schemas)
  bounded_opening names [] fits all = all
  bounded_opening names (s ∷ ss) fits all = bounded_opening (put_name (blank_name s.name (Some s)) names) ss fits.1 (bounded_put (blank_name s.name (Some s)) names (bounded_blank P Q s.name (Some s) fits.0) all)

-- ---- how many names have a place
put_placed : (n : Named) (ms : List Named) → placed (put_name n ms) ≡ place_count n + placed ms
put_placed n [] = refl
put_placed n (m ∷ ms) = elim (cases_Bool (comes_before (name_of n) m)) [
  | inl is ↦ rw is refl
  | inr out ↦ rw out (let r = put_placed n ms in omega (arith, r))
]

-- nothing is asked
abbrev pub IsAny : {X : Type 0} → X → Type 0
IsAny x = ⊤

any_all : (kept : Option SchemaData) → HasAll IsAny kept
any_all None = tt
any_all (Some s) = tt

first_queued : (name : List ℕ) (ask : Ask) (ns : List Named) → placed (at_first (is_name name) (queued ask) ns) ≤ placed ns + 1
first_queued name ask [] = omega arith
first_queued name ask (n ∷ ns) = elim (cases_Bool (is_name name n)) [
  | inl is ↦ rw is (let p = at_most_one (has_place (queued ask n)) in omega (arith, p))
  | inr out ↦ rw out (let r = first_queued name ask ns in omega (arith, r))
]

-- a name that is another's has no place of its own
none_there : (name : List ℕ) (ns : List Named) → AllByRecursion (λ m. is_name name m ≡ false) ns → list_any (λ n. is_name name n && has_place n) ns ≡ false
none_there name [] h = refl
none_there name (n ∷ ns) h = rw h.0 (none_there name ns h.1)

pub named_so : (name : List ℕ) (n : Named) → is_name name n ≡ true → name_of n ≡ name
named_so name n e = same_text (name_of n) name (sym e)

first_placed : (name : List ℕ) (ask : Ask) (ns : List Named) → AreNamedApart ns → list_any (λ n. is_name name n && has_place n) ns ≡ true → placed (at_first (is_name name) (queued ask) ns) ≤ placed ns
first_placed name ask [] apart e = cc
first_placed name ask (n ∷ ns) apart e = elim (cases_Bool (is_name name n)) [
  | inl is ↦ elim (cases_Bool (has_place n)) [
    | inl has ↦ rw is (let p = at_most_one (has_place (queued ask n)) in let q : place_count n ≡ 1 = ap one_if has in omega (arith, p, q))
    | inr none ↦
        let others = none_there name ns (subst (λ w. AllByRecursion (λ m. is_name w m ≡ false) ns) (named_so name n is) apart.0) in
        let no : list_any (λ m. is_name name m && has_place m) (n ∷ ns) ≡ false = rw is (rw none others) in
        absurd (apart_tests (list_any (λ m. is_name name m && has_place m) (n ∷ ns)) e no)
  ]
  | inr out ↦ rw out (let r = first_placed name ask ns apart.1 (sym (ap (λ b. (b && has_place n) || list_any (λ m. is_name name m && has_place m) ns) out) ∙ e) in omega (arith, r))
]
  where
    apart_tests : (b : Bool) → b ≡ true → b ≡ false → ⊥
    apart_tests true p q = cc
    apart_tests false p q = cc

any_named : (name : List ℕ) (ns : List Named) → list_any (λ n. is_name name n && has_place n) ns ≡ true → list_any (is_name name) ns ≡ true
any_named name [] e = cc
any_named name (n ∷ ns) e = elim (cases_Bool (is_name name n)) [
  | inl is ↦ rw is refl
  | inr out ↦ rw out (any_named name ns (sym (ap (λ b. (b && has_place n) || list_any (λ m. is_name name m && has_place m) ns) out) ∙ e))
]

enqueued_more : (name : List ℕ) (ask : Ask) (ns : List Named) → placed (enqueued name ask ns) ≤ placed ns + 1
enqueued_more name ask ns = elim (cases_Bool (list_any (is_name name) ns)) [
  | inl is ↦ rw is (first_queued name ask ns)
  | inr out ↦
      let new = queued ask (blank_name name None) in
      let p = (filter_keeps IsAny IsAny has_place (put_name new ns)).few in
      let q = put_placed new ns in
      let r = at_most_one (has_place new) in
      rw out (omega (arith, p, q, r))
]

enqueued_again : (name : List ℕ) (ask : Ask) (ns : List Named) → AreNamedApart ns → list_any (λ n. is_name name n && has_place n) ns ≡ true → placed (enqueued name ask ns) ≤ placed ns
enqueued_again name ask ns apart e = rw (any_named name ns e) (first_placed name ask ns apart e)

admitted_few : (name : List ℕ) (ask : Ask) (ns : List Named) → AreNamedApart ns → is_admitted name ns ≡ true → placed ns ≤ GREATEST_NAME_COUNT → placed (enqueued name ask ns) ≤ GREATEST_NAME_COUNT
admitted_few name ask ns apart e few = elim (cases_Bool (list_any (λ n. is_name name n && has_place n) ns)) [
  | inl is ↦ (let p = enqueued_again name ask ns apart is in omega (arith, p, few))
  | inr out ↦
      let room : nat_lt (length (filter has_place ns)) GREATEST_NAME_COUNT ≡ true = sym (ap (λ b. b || nat_lt (length (filter has_place ns)) GREATEST_NAME_COUNT) out) ∙ e in
      let p = ltb-true (length (filter has_place ns)) GREATEST_NAME_COUNT room in
      let q = length_placed ns in
      let r = enqueued_more name ask ns in
      omega (arith, p, q, r)
]

asked_few : (q : QueueState) (who : ConnId) (name : List ℕ) (want : Wants) → AreNamedApart q.names → placed q.names ≤ GREATEST_NAME_COUNT → placed (after_ask q who name want).names ≤ GREATEST_NAME_COUNT
asked_few q who name want apart few = elim (cases_Bool q.is_faulted) [
  | inl is ↦ rw is few
  | inr out ↦ elim (cases_Bool (is_admitted name q.names)) [
    | inl has ↦ rw out (rw has (admitted_few name (record { who = who; wants = want }) q.names apart has few))
    | inr full ↦ rw out (rw full few)
  ]
]

no_further : (ns ms : List Named) → KeepsAll IsAny IsAny ns ms → placed ns ≤ GREATEST_NAME_COUNT → placed ms ≤ GREATEST_NAME_COUNT
no_further ns ms k few = let p = k.few in omega (arith, p, few)

pub placed_step : (d : DeskState) (t : DeskStep) → AreNamedApart d.queues.names → placed d.queues.names ≤ GREATEST_NAME_COUNT → placed (after d t).queues.names ≤ GREATEST_NAME_COUNT
unfolding after
placed_step d (step.Asks who name want) apart few = no_further (after_ask d.queues who name want).names _ (settles IsAny IsAny (after_ask d.queues who name want) name) (asked_few d.queues who name want apart few)
placed_step d (step.Takes client) apart few = no_further d.queues.names _ (takes IsAny IsAny d client (event_for d client)) few
placed_step d (step.Handles client) apart few = no_further d.queues.names _ (handles IsAny IsAny d client (unhandled d.queues.names (changes_in d.board.clients client))) few
placed_step d (step.Closes who) apart few = no_further d.queues.names _ (closes IsAny IsAny d who) few
placed_step d (step.Creates number who scope m durability) apart few = no_further d.queues.names _ (creates IsAny IsAny d who scope m (name_asked_by d.board.clients who) (schema_of d.queues who)) few
placed_step d (step.Starts client number) apart few = few
placed_step d (step.Leaves client number ended kept) apart few = no_further d.queues.names _ (leaves IsAny IsAny d number (is_committed ended) kept (drawn_at d.board.drawn number) (any_all kept)) few
placed_step d step.Faults apart few = no_further d.queues.names _ (mapped_keeps IsAny IsAny (λ n. (faulted_name n).named) (keeps_faulted IsAny IsAny) d.queues.names) few

pub placed_opening : (names : List Named) (schemas : List SchemaData) → placed (names_of_schemas names schemas) ≤ placed names + length schemas
placed_opening names [] = omega arith
placed_opening names (s ∷ ss) =
    let new = blank_name s.name (Some s) in
    let p = placed_opening (put_name new names) ss in
    let q = put_placed new names in
    let r = at_most_one (has_place new) in
    omega (arith, p, q, r)
