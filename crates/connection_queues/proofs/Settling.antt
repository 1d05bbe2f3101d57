-- A queue that was moved as far as it can rests.
use Rattle.std.proofs.Common.{◌≡◌, ℕ, zero, suc, ◌+◌, ◌*◌, ◌≤◌, ◌<◌, Bool, true, false, cond, List, [], ◌∷◌, ◌++◌, length, arith, refl, ap, sym, ◌∙◌, Option, Some, None}
use Rattle.std.proofs.Math.Dec.{eqb, ltb}
use Rattle.std.specs.List.{list_any}
use Rattle.std.specs.FinMap.Entries.{put}
use Rattle.idb_keys.specs.declared.names.ErrorName.TheVariants as error
use Rattle.name_queues.specs.Ids.{by_id_order}
use Rattle.name_queues.specs.declared.events.ClientEvent.TheVariants as event
use Rattle.name_queues.specs.Names.{version_of, is_unheard, has_conns}
use Rattle.name_queues.specs.Moves.{Moved, next_front, new_conn, asked_version, turned, where_idle, by_front, at_stage, ready_where_closed, begun, blocked, opened_or_told, all_told, made_ready}
use Rattle.connection_queues.specs.Runs.{QueueStep, settled, settled_by, settled_name, after_step, run_of}
use Rattle.connection_queues.specs.Machine.{QueueState}
use Rattle.name_queues.specs.declared.ids.ConnId.{ConnId}
use Rattle.name_queues.specs.declared.asks.Ask.{Ask}
use Rattle.name_queues.specs.declared.asks.Wants.{Wants}
use Rattle.name_queues.specs.declared.asks.Wants.TheVariants as wants
use Rattle.name_queues.specs.declared.asks.Stage.{Stage}
use Rattle.name_queues.specs.declared.asks.Stage.TheVariants as stage
use Rattle.name_queues.specs.declared.connections.Conn.{Conn}
use Rattle.name_queues.specs.declared.names.Named.{Named}

-- how often a queue can still move, at most
abbrev weight_at : Stage → List Ask → ℕ
weight_at st [] = 0
weight_at stage.Fresh (ask ∷ asks) = 3 + 3 * length asks
weight_at stage.Told (ask ∷ asks) = 2 + 3 * length asks
weight_at stage.Waits (ask ∷ asks) = 1 + 3 * length asks

abbrev weight : Named → ℕ
weight n = weight_at n.stage n.traffic.queue

fresh_weight : (asks : List Ask) → weight_at stage.Fresh asks ≡ 3 * length asks
fresh_weight [] = refl
fresh_weight (ask ∷ asks) = omega arith

weight_most : (st : Stage) (asks : List Ask) → weight_at st asks ≤ 3 * length asks
weight_most st [] = omega arith
weight_most stage.Fresh (ask ∷ asks) = omega arith
weight_most stage.Told (ask ∷ asks) = omega arith
weight_most stage.Waits (ask ∷ asks) = omega arith

-- a move leaves less to move
abbrev LessIf : Named → Option Moved → Type 0
LessIf n None = Unit {0}
LessIf n (Some m) = suc (weight m.named) ≤ weight n

opened_cases : (n : Named) (who : ConnId) (rest : List Ask) (old new : ℕ) → suc (weight_at stage.Fresh rest) ≤ weight n → suc (weight_at stage.Told n.traffic.queue) ≤ weight n → suc (weight (opened_or_told n who rest old new).named) ≤ weight n
opened_cases n who rest old new f t = elim (ltb new old) as (λ b. suc (weight (cond b (record { named = next_front n rest n.traffic.conns; sent = event.Error who error.VersionError ∷ [] }) (cond (eqb new old) (record { named = next_front n rest (put by_id_order who new_conn n.traffic.conns); sent = event.Success who old ∷ [] }) (all_told n old (Some new)))).named) ≤ weight n) [
  | true ↦ f
  | false ↦ elim (eqb new old) as (λ b. suc (weight (cond b (record { named = next_front n rest (put by_id_order who new_conn n.traffic.conns); sent = event.Success who old ∷ [] }) (all_told n old (Some new))).named) ≤ weight n) [ true ↦ f | false ↦ t ]
]

begun_cases : (n : Named) (who : ConnId) (rest : List Ask) (old : ℕ) (want : Wants) → suc (weight_at stage.Fresh rest) ≤ weight n → suc (weight_at stage.Told n.traffic.queue) ≤ weight n → suc (weight (begun n who rest old want).named) ≤ weight n
begun_cases n who rest old (wants.Open version) f t = opened_cases n who rest old (asked_version old version) f t
begun_cases n who rest old wants.Delete f t = elim (eqb old 0) as (λ b. suc (weight (cond b (record { named = next_front n rest n.traffic.conns; sent = event.Success who 0 ∷ [] }) (all_told n old None)).named) ≤ weight n) [ true ↦ f | false ↦ t ]

blocked_less : (n : Named) (who : ConnId) (old : ℕ) (want : Wants) (conns : List (ConnId × Conn)) → suc (weight_at stage.Waits n.traffic.queue) ≤ weight n → suc (weight (blocked n who old want conns).named) ≤ weight n
blocked_less n who old want [] h = h
blocked_less n who old want (e ∷ es) h = h

ready_less : (n : Named) (ask : Ask) (rest : List Ask) (old : ℕ) (conns : List (ConnId × Conn)) → suc (weight_at stage.Fresh rest) ≤ weight n → LessIf n (ready_where_closed n ask rest old conns)
ready_less n ask rest old [] h = h
ready_less n ask rest old (e ∷ es) h = tt

begun_less : (n : Named) (who : ConnId) (ask : Ask) (rest : List Ask) (old : ℕ) (want : Wants) → n.stage ≡ stage.Fresh → n.traffic.queue ≡ ask ∷ rest → suc (weight (begun n who rest old want).named) ≤ weight n
begun_less n who ask rest old want s q =
    let w : weight n ≡ 3 + 3 * length rest = rw (s, q) refl in
    let t : weight_at stage.Told n.traffic.queue ≡ 2 + 3 * length rest = rw q refl in
    let f = fresh_weight rest in
    begun_cases n who rest old want (omega (arith, w, f)) (omega (arith, w, t))

stage_less : (n : Named) (ask : Ask) (rest : List Ask) (old : ℕ) (st : Stage) → n.stage ≡ st → n.traffic.queue ≡ ask ∷ rest → LessIf n (at_stage n ask rest old st)
stage_less n ask rest old stage.Fresh s q = begun_less n ask.who ask rest old ask.wants s q
stage_less n ask rest old stage.Told s q =
    let w : weight n ≡ 2 + 3 * length rest = rw (s, q) refl in
    let t : weight_at stage.Waits n.traffic.queue ≡ 1 + 3 * length rest = rw q refl in
    elim (list_any is_unheard n.traffic.conns) as (λ b. LessIf n (cond b None (Some (blocked n ask.who old ask.wants n.traffic.conns)))) [
      | true ↦ tt
      | false ↦ blocked_less n ask.who old ask.wants n.traffic.conns (omega (arith, w, t))
    ]
stage_less n ask rest old stage.Waits s q =
    let w : weight n ≡ 1 + 3 * length rest = rw (s, q) refl in
    let f = fresh_weight rest in
    ready_less n ask rest old n.traffic.conns (omega (arith, w, f))

front_less : (n : Named) (queue : List Ask) → n.traffic.queue ≡ queue → LessIf n (by_front n queue)
front_less n [] q = tt
front_less n (ask ∷ rest) q = stage_less n ask rest (version_of n) n.stage refl q

turned_less : (n : Named) → LessIf n (turned n)
turned_less n = elim (n.running) as (λ o. LessIf n (where_idle n o)) [ None ↦ front_less n n.traffic.queue refl | Some ask ↦ tt ]

rests_after : (moves : ℕ) (n : Named) → weight n ≤ moves → turned (settled moves n).named ≡ None
rests_after zero n l = elim (turned n) as (λ o. LessIf n o → o ≡ None) [ None ↦ λ h. refl | Some m ↦ λ h. absurd (omega (arith, h, l)) ] (turned_less n)
rests_after (suc moves) n l = elim (turned n) as (λ o. turned n ≡ o → LessIf n o → turned (settled_by (λ m. settled moves m) n o).named ≡ None) [
  | None ↦ λ e h. e
  | Some m ↦ λ e h. rests_after moves m.named (omega (arith, h, l))
] refl (turned_less n)

pub settled_rests : (n : Named) → turned (settled_name n).named ≡ None
settled_rests n = rests_after (3 * length n.traffic.queue) n (weight_most n.stage n.traffic.queue)

pub run_more : (s : QueueState) (steps : List QueueStep) (step : QueueStep) → run_of s (steps ++ step ∷ []) ≡ after_step (run_of s steps) step
run_more s [] step = refl
run_more s (t ∷ steps) step = run_more (after_step s t) steps step

-- ---- a request that waits at rest waits for a connection
any_conns : (es : List (ConnId × Conn)) → list_any is_unheard es ≡ true → has_conns es ≡ true
any_conns [] h = cc
any_conns (e ∷ es) h = refl

ready_waits : (n : Named) (ask : Ask) (rest : List Ask) (old : ℕ) (conns : List (ConnId × Conn)) → ready_where_closed n ask rest old conns ≡ None → has_conns conns ≡ true
ready_waits n ask rest old [] h = cc
ready_waits n ask rest old (e ∷ es) h = refl

stage_waits : (n : Named) (ask : Ask) (rest : List Ask) (old : ℕ) (st : Stage) → at_stage n ask rest old st ≡ None → has_conns n.traffic.conns ≡ true
stage_waits n ask rest old stage.Fresh h = cc
stage_waits n ask rest old stage.Told h = elim (list_any is_unheard n.traffic.conns) as (λ b. list_any is_unheard n.traffic.conns ≡ b → cond b None (Some (blocked n ask.who old ask.wants n.traffic.conns)) ≡ None → has_conns n.traffic.conns ≡ true) [ true ↦ λ u e. any_conns n.traffic.conns u | false ↦ λ u e. cc ] refl h
stage_waits n ask rest old stage.Waits h = ready_waits n ask rest old n.traffic.conns h

pub waits_conn : (n : Named) (ask : Ask) (rest : List Ask) → turned n ≡ None → n.running ≡ None → n.traffic.queue ≡ ask ∷ rest → has_conns n.traffic.conns ≡ true
waits_conn n ask rest t r q =
    let at : turned n ≡ at_stage n ask rest (version_of n) n.stage = ap (where_idle n) r ∙ ap (by_front n) q in
    stage_waits n ask rest (version_of n) n.stage (sym at ∙ t)
