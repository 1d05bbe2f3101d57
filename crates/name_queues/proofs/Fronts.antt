-- The request at the front of a queue.
use Rattle.std.proofs.Common.{◌≡◌, ℕ, zero, suc, ◌+◌, ◌≤◌, ◌<◌, Bool, true, false, cond, List, [], ◌∷◌, ◌++◌, arith, refl, ap, sym, ◌∙◌, Option, Some, None, is_some, slice_get, drop, length, option_map}
use Rattle.name_queues.specs.Names.{version_of, has_requests, has_conns}
use Rattle.name_queues.specs.Moves.{turned, where_idle, by_front, at_stage, resting, rests_by, rests_at, waits_for, tells, is_to_tell}
use Rattle.name_queues.specs.Room.{one_for, counted, owed, queue_owed, conns_owed, HasEventRoom, room_of, Box}
use Rattle.name_queues.specs.declared.ids.ConnId.{ConnId}
use Rattle.name_queues.specs.declared.asks.Ask.{Ask}
use Rattle.name_queues.specs.declared.asks.Stage.TheVariants as stage
use Rattle.name_queues.specs.declared.connections.Conn.{Conn}
use Rattle.name_queues.specs.declared.names.Named.{Named}
use Rattle.name_queues.specs.declared.events.ClientEvent.TheVariants as event
use Rattle.name_queues.specs.declared.turns.Turn.TheVariants as turn
use Rattle.name_queues.proofs.Counts.{one_own, front_owed, told_owed}

no_front : (n : Named) (queue : List Ask) → slice_get queue 0 ≡ None → (by_front n queue ≡ None) × (rests_at n queue ≡ turn.Empty)
no_front n [] e = (refl, refl)
no_front n (ask ∷ asks) e = cc

some_front : (n : Named) (queue : List Ask) (ask : Ask) → slice_get queue 0 ≡ Some ask → (by_front n queue ≡ at_stage n ask (drop 1 queue) (version_of n) n.stage) × (queue ≡ ask ∷ drop 1 queue) × (rests_at n queue ≡ waits_for n.traffic.conns)
some_front n [] ask e = cc
some_front n (a ∷ asks) ask e = let s : a ≡ ask = cc in (ap (λ b. at_stage n b asks (version_of n) n.stage) s, ap (λ b. b ∷ asks) s, refl)

pub goes_on : (n : Named) (ask : Ask) → n.running ≡ None → slice_get n.traffic.queue 0 ≡ Some ask → (turned n ≡ at_stage n ask (drop 1 n.traffic.queue) (version_of n) n.stage) × (n.traffic.queue ≡ ask ∷ drop 1 n.traffic.queue) × (resting n ≡ waits_for n.traffic.conns)
goes_on n ask e q =
    let f = some_front n n.traffic.queue ask q in
    (ap (where_idle n) e ∙ f.0, f.1, ap (rests_by n) e ∙ f.2)

-- ---- room for what is sent
pub front_room : (n : Named) (ask : Ask) (bs : List Box) → n.traffic.queue ≡ ask ∷ drop 1 n.traffic.queue → ((c : ℕ) → owed c n ≤ room_of c bs) → 1 ≤ room_of ask.who.client bs
front_room n ask bs q h =
    let a = h ask.who.client in
    let w : queue_owed ask.who.client n.stage n.traffic.queue ≡ queue_owed ask.who.client n.stage (ask ∷ drop 1 n.traffic.queue) = ap (queue_owed ask.who.client n.stage) q in
    omega (arith, a, w, front_owed ask.who.client n.stage ask (drop 1 n.traffic.queue), one_own ask.who 4)

pub change_room : (n : Named) (old : ℕ) (new : Option ℕ) (bs : List Box) → ((c : ℕ) → owed c n ≤ room_of c bs) → HasEventRoom (tells old new n.traffic.conns) bs
change_room n old new bs h = λ c. let a = h c in omega (arith, a, told_owed c old new n.traffic.conns)

-- ---- the first of a list

-- ---- one connection after the other is told
pub tells_one : (old : ℕ) (new : Option ℕ) (x : ConnId × Conn) (es : List (ConnId × Conn)) → tells old new (x ∷ es) ≡ tells old new (x ∷ []) ++ tells old new es
tells_one old new x es = elim (is_to_tell x.1) as (λ b. cond b (event.VersionChange x.0 old new ∷ tells old new es) (tells old new es) ≡ cond b (event.VersionChange x.0 old new ∷ []) [] ++ tells old new es) [ true ↦ refl | false ↦ refl ]
