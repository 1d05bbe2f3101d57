-- Sums of what is sent and owed.
use Rattle.std.proofs.Common.{◌≡◌, ℕ, zero, suc, ◌+◌, ◌*◌, ◌≤◌, ◌<◌, Bool, true, false, not, ◌&&◌, cond, List, [], ◌∷◌, ◌++◌, arith, refl, ap, sym, ◌∙◌, Option, Some, None}
use Rattle.std.proofs.Math.Dec.{eqb}
use Rattle.std.specs.declared.cmp.Ordering.{Ordering}
use Rattle.std.specs.declared.cmp.Ordering.TheVariants.{Less, Equal, Greater}
use Rattle.std.specs.Ordering.{eq_by_cmp, is_eq}
use borrow.Author.Tests.{eq-eqb}
use Rattle.std.specs.FinMap.Entries.{find, put, by_order}
use Rattle.sorted_table.specs.Tables.{without}
use Rattle.name_queues.specs.Ids.{by_id_order, by_id_order_same}
use Rattle.name_queues.specs.Names.{kept_conn, is_untold, is_upgraded_for}
use Rattle.name_queues.specs.Moves.{tells, told_conns, told, is_to_tell, answers_unknown, lost, closing, told_closed, is_over, faulted_conn, faulted_conns, faulted_closes}
use Rattle.name_queues.specs.Mails.{conn_of}
use Rattle.name_queues.specs.Room.{one_for, counted, conn_room, conns_owed, queue_owed, stage_room}
use Rattle.name_queues.specs.declared.ids.ConnId.{ConnId}
use Rattle.name_queues.specs.declared.asks.Ask.{Ask}
use Rattle.name_queues.specs.declared.asks.Stage.{Stage}
use Rattle.name_queues.specs.declared.asks.Stage.TheVariants as stage
use Rattle.name_queues.specs.declared.connections.Conn.{Conn}
use Rattle.name_queues.specs.declared.connections.Change.{Change}
use Rattle.name_queues.specs.declared.connections.Change.TheVariants as change
use Rattle.name_queues.specs.declared.names.Named.{Named}
use Rattle.name_queues.specs.declared.events.ClientEvent.{ClientEvent}
use Rattle.name_queues.specs.declared.events.ClientEvent.TheVariants as event

pub one_times : (c : ℕ) (who : ConnId) (n : ℕ) → one_for c who n ≡ n * one_for c who 1
unfolding one_for
one_times c who n = elim (eqb who.client c) as (λ b. cond b n 0 ≡ n * cond b 1 0) [ true ↦ omega arith | false ↦ omega arith ]

pub one_less : (c : ℕ) (who : ConnId) (m n : ℕ) → m ≤ n → one_for c who m ≤ one_for c who n
unfolding one_for
one_less c who m n l = elim (eqb who.client c) as (λ b. cond b m 0 ≤ cond b n 0) [ true ↦ l | false ↦ omega arith ]

pub one_own : (who : ConnId) (n : ℕ) → one_for who.client who n ≡ n
unfolding one_for
one_own who n = let same : eqb who.client who.client ≡ true = eq-eqb _ _ refl in rw same refl

pub one_other : (c : ℕ) (who : ConnId) (n : ℕ) → eqb who.client c ≡ false → one_for c who n ≡ 0
unfolding one_for
one_other c who n h = rw h refl

pub counted_append : (c : ℕ) (xs ys : List ClientEvent) → counted c (xs ++ ys) ≡ counted c xs + counted c ys
counted_append c [] ys = omega arith
counted_append c (x ∷ xs) ys = omega (arith, counted_append c xs ys)

-- ---- requests that wait
pub told_same : (c : ℕ) (asks : List Ask) → queue_owed c stage.Told asks ≡ queue_owed c stage.Fresh asks
told_same c [] = refl
told_same c (ask ∷ asks) = refl

-- ---- connections
pub put_owed : (c : ℕ) (who : ConnId) (k : Conn) (es : List (ConnId × Conn)) → conns_owed c (put by_id_order who k es) ≤ one_for c who (conn_room k) + conns_owed c es
put_owed c who k [] = omega arith
put_owed c who k (e ∷ es) = elim (by_id_order who e.0) as (λ o. by_id_order who e.0 ≡ o → conns_owed c (by_order o ((who, k) ∷ e ∷ es) ((e.0, k) ∷ es) (e ∷ put by_id_order who k es)) ≤ one_for c who (conn_room k) + (one_for c e.0 (conn_room e.1) + conns_owed c es)) [
  | Less ↦ λ h. omega arith
  | Equal ↦ λ h. let same : who ≡ e.0 = by_id_order_same who e.0 h in rw (← same) (omega arith)
  | Greater ↦ λ h. omega (arith, put_owed c who k es)
] refl

pub kept_owed : (c : ℕ) (who : ConnId) (k k' : Conn) (es : List (ConnId × Conn)) → find by_id_order who es ≡ Some k → conn_room k' ≤ conn_room k → conns_owed c (kept_conn who k' es) ≤ conns_owed c es
kept_owed c who k k' [] e l = cc
kept_owed c who k k' (x ∷ xs) e l = elim (eq_by_cmp by_id_order who x.0) as (λ b. eq_by_cmp by_id_order who x.0 ≡ b → conns_owed c (cond b ((x.0, k') ∷ xs) (x ∷ kept_conn who k' xs)) ≤ conns_owed c (x ∷ xs)) [
  | true ↦ λ h.
      let here : Some x.1 ≡ Some k = rw h at e in
      let same : x.1 ≡ k = cc in
      let less : conn_room k' ≤ conn_room x.1 = rw same l in
      omega (arith, one_less c x.0 (conn_room k') (conn_room x.1) less)
  | false ↦ λ h. omega (arith, kept_owed c who k k' xs (rw h at e) l)
] refl

pub less_owed : (c : ℕ) (who : ConnId) (es : List (ConnId × Conn)) → conns_owed c (without by_id_order who es) ≤ conns_owed c es
less_owed c who [] = omega arith
less_owed c who (x ∷ xs) = elim (eq_by_cmp by_id_order who x.0) as (λ b. conns_owed c (cond (not b) (x ∷ without by_id_order who xs) (without by_id_order who xs)) ≤ conns_owed c (x ∷ xs)) [
  | true ↦ omega (arith, less_owed c who xs)
  | false ↦ omega (arith, less_owed c who xs)
]

some_room : (k : Conn) → 1 ≤ conn_room k
some_room k = elim (is_untold k.change) as (λ b. 1 ≤ cond b 2 1) [ true ↦ omega arith | false ↦ omega arith ]

eq_same : (a b : ConnId) → eq_by_cmp by_id_order a b ≡ true → a ≡ b
eq_same a b h = elim (by_id_order a b) as (λ o. by_id_order a b ≡ o → is_eq o ≡ true → a ≡ b) [
  | Less ↦ λ e t. cc
  | Equal ↦ λ e t. by_id_order_same a b e
  | Greater ↦ λ e t. cc
] refl h

pub gone_owed : (c : ℕ) (who : ConnId) (k : Conn) (es : List (ConnId × Conn)) → find by_id_order who es ≡ Some k → one_for c who 1 + conns_owed c (without by_id_order who es) ≤ conns_owed c es
gone_owed c who k [] e = cc
gone_owed c who k (x ∷ xs) e = elim (eq_by_cmp by_id_order who x.0) as (λ b. eq_by_cmp by_id_order who x.0 ≡ b → one_for c who 1 + conns_owed c (cond (not b) (x ∷ without by_id_order who xs) (without by_id_order who xs)) ≤ conns_owed c (x ∷ xs)) [
  | true ↦ λ h.
      let same : who ≡ x.0 = eq_same who x.0 h in
      let one : one_for c x.0 1 ≤ one_for c x.0 (conn_room x.1) = one_less c x.0 1 (conn_room x.1) (some_room x.1) in
      rw same (omega (arith, one, less_owed c x.0 xs))
  | false ↦ λ h. omega (arith, gone_owed c who k xs (rw h at e))
] refl

second_of : (a b : Bool) → a && b ≡ true → b ≡ true
second_of true b e = e
second_of false b e = cc

told_room : (k : Conn) → is_to_tell k ≡ true → (conn_room (told k) ≡ 1) × (conn_room k ≡ 2)
told_room k h = let u : is_untold k.change ≡ true = second_of _ _ h in (rw h refl, rw u refl)

kept_untold : (k : Conn) → is_to_tell k ≡ false → told k ≡ k
kept_untold k h = rw h refl

pub told_owed : (c old : ℕ) (new : Option ℕ) (es : List (ConnId × Conn)) → counted c (tells old new es) + conns_owed c (told_conns es) ≤ conns_owed c es
told_owed c old new [] = omega arith
told_owed c old new (x ∷ xs) =
    let ih = told_owed c old new xs in
    elim (is_to_tell x.1) as (λ b. is_to_tell x.1 ≡ b → counted c (cond b (event.VersionChange x.0 old new ∷ tells old new xs) (tells old new xs)) + (one_for c x.0 (conn_room (told x.1)) + conns_owed c (told_conns xs)) ≤ one_for c x.0 (conn_room x.1) + conns_owed c xs) [
      | true ↦ λ h.
          let t = told_room x.1 h in
          let a : one_for c x.0 (conn_room (told x.1)) ≡ one_for c x.0 1 = ap (one_for c x.0) t.0 in
          let b : one_for c x.0 (conn_room x.1) ≡ one_for c x.0 2 = ap (one_for c x.0) t.1 in
          omega (arith, a, b, one_times c x.0 2, ih)
      | false ↦ λ h.
          let a : one_for c x.0 (conn_room (told x.1)) ≡ one_for c x.0 (conn_room x.1) = ap (λ k. one_for c x.0 (conn_room k)) (kept_untold x.1 h) in
          omega (arith, a, ih)
    ] refl

lost_room : (ch : Change) → cond (is_untold (lost ch)) 2 1 ≤ cond (is_untold ch) 2 1
lost_room change.Untold = omega arith
lost_room change.Sent = omega arith
lost_room change.Taken = omega arith
lost_room change.Heard = omega arith

pub closing_room : (t : Bool) (k : Conn) → conn_room (closing t k) ≤ conn_room k
closing_room t k = lost_room k.change

faulted_room : (n : Named) (who : ConnId) (k : Conn) → conn_room (faulted_conn n who k) ≤ conn_room k
faulted_room n who k = elim (k.is_closing) as (λ b. conn_room (cond b k (closing (not (is_upgraded_for n who)) k)) ≤ conn_room k) [ true ↦ omega arith | false ↦ closing_room (not (is_upgraded_for n who)) k ]

pub one_closed : (c : ℕ) (who : ConnId) (k : Conn) → counted c (told_closed who k) ≤ one_for c who 1
one_closed c who k = elim (k.tells) as (λ b. counted c (cond b (event.Closed who ∷ []) []) ≤ one_for c who 1) [ true ↦ omega arith | false ↦ omega arith ]

pub faulted_owed : (c : ℕ) (n : Named) (es : List (ConnId × Conn)) → counted c (faulted_closes n es) + conns_owed c (faulted_conns n es) ≤ conns_owed c es
faulted_owed c n [] = omega arith
faulted_owed c n (x ∷ xs) =
    let k = faulted_conn n x.0 x.1 in
    let ih = faulted_owed c n xs in
    elim (is_over n x.0 k) as (λ b. counted c (cond b (told_closed x.0 k ++ faulted_closes n xs) (faulted_closes n xs)) + conns_owed c (cond b (faulted_conns n xs) ((x.0, k) ∷ faulted_conns n xs)) ≤ one_for c x.0 (conn_room x.1) + conns_owed c xs) [
      | true ↦ omega (arith, counted_append c (told_closed x.0 k) (faulted_closes n xs), one_closed c x.0 k, one_less c x.0 1 (conn_room x.1) (some_room x.1), ih)
      | false ↦ omega (arith, one_less c x.0 (conn_room k) (conn_room x.1) (faulted_room n x.0 x.1), ih)
    ]

most : (st : Stage) → stage_room st ≤ 5
most stage.Fresh = omega arith
most stage.Told = omega arith
most stage.Waits = omega arith

some : (st : Stage) → 4 ≤ stage_room st
some stage.Fresh = omega arith
some stage.Told = omega arith
some stage.Waits = omega arith

pub queue_more : (c : ℕ) (st : Stage) (asks : List Ask) (ask : Ask) → queue_owed c st (asks ++ ask ∷ []) ≤ queue_owed c st asks + one_for c ask.who 5
queue_more c st [] ask = omega (arith, one_less c ask.who (stage_room st) 5 (most st))
queue_more c st (a ∷ asks) ask = omega (arith, queue_more c stage.Fresh asks ask)

pub unknown_owed : (c : ℕ) (st : Stage) (asks : List Ask) → counted c (answers_unknown asks) ≤ queue_owed c st asks
unknown_owed c st [] = omega arith
unknown_owed c st (ask ∷ asks) = let s = some st in let l : 1 ≤ stage_room st = omega (arith, s) in omega (arith, one_less c ask.who 1 (stage_room st) l, unknown_owed c stage.Fresh asks)

-- what a request at the front has room for
pub front_owed : (c : ℕ) (st : Stage) (ask : Ask) (rest : List Ask) → one_for c ask.who 4 + queue_owed c stage.Fresh rest ≤ queue_owed c st (ask ∷ rest)
front_owed c st ask rest = omega (arith, one_less c ask.who 4 (stage_room st) (some st))
