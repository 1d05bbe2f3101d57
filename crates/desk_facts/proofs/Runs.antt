-- The laws of every allowed run.
--     stays_in_run          a database stays while a transaction of it isn't finished
--     own                   whose the connections and events are
--     asked_in_run          what stands on the board is what was asked
use Rattle.std.proofs.Common.{◌≡◌, ◌<◌, ℕ, true, false, List, [], ◌∷◌, ◌++◌, is_some, refl, ap, ◌∙◌, arith}
use Rattle.std.specs.List.{AllByRecursion, list_any}
use Rattle.name_queues.specs.Names.{conn_at}
use Rattle.name_queues.specs.Mails.{Mail, conn_of}
use Rattle.name_queues.specs.declared.ids.ConnId.{ConnId}
use Rattle.name_queues.specs.declared.events.ClientEvent.{ClientEvent}
use Rattle.name_queues.specs.declared.names.Named.{Named}
use Rattle.idb_desk.specs.Databases.{database_under}
use Rattle.desk_steps.specs.declared.stands.DrawnTx.{DrawnTx}
use Rattle.desk_steps.specs.declared.steps.DeskStep.{DeskStep}
use Rattle.desk_steps.specs.declared.steps.DeskStep.TheVariants as step
use Rattle.idb_desk.specs.Desks.{DeskState}
use Rattle.idb_desk.specs.Refusals.{is_allowed}
use Rattle.idb_desk.specs.Steps.{after, after_all, new_desk, DeskRun, desk_run, AreAllowed, IsDeskRun}
use Rattle.queue_facts.specs.Counts.{tally, one_told, held_of, held_where}
use Rattle.queue_facts.specs.Queued.{AreAddressed, IsOwned, telling}
use Rattle.desk_facts.specs.Orderly.{asked_at, IsOrderly}
use Rattle.desk_facts.specs.Databases.{AreOpenable, IsUnfinishedOf, is_finish_of}
use Rattle.desk_facts.specs.Owning.{IsConnOf, AreEventsOf, HasOwn, IsAskedAs, AreAsked}
use Rattle.queue_facts.proofs.Laws.{counts_itself, all_kept}
use Rattle.desk_facts.proofs.Orderly.{ask_noted}
use Rattle.desk_facts.proofs.Stepping.{orderly_run}
use Rattle.desk_facts.proofs.Staying.{asks_stay, ask_number}
use Rattle.desk_facts.proofs.Alone.{stays_through, some_conn}

all_both : (d : DeskState) (xs ys : List DeskStep) → after_all d (xs ++ ys) ≡ after_all (after_all d xs) ys
all_both d [] ys = refl
all_both d (x ∷ xs) ys = all_both (after d x) xs ys

allowed_both : (d : DeskState) (xs ys : List DeskStep) → AreAllowed d (xs ++ ys) → AreAllowed d xs × AreAllowed (after_all d xs) ys
allowed_both d [] ys h = (tt, h)
allowed_both d (x ∷ xs) ys h = let r = allowed_both (after d x) xs ys h.1 in ((h.0, r.0), r.1)

pub stays_in_run : (r : DeskRun) (more : List DeskStep) (number : ℕ) (name : List ℕ) (t : DrawnTx) → AreOpenable r.opening → IsDeskRun (record { opening = r.opening; order = r.order ++ more }) → IsUnfinishedOf (desk_run r) number name t → list_any (is_finish_of number) more ≡ false
    → database_under (desk_run (record { opening = r.opening; order = r.order ++ more })) name ≡ database_under (desk_run r) name
unfolding desk_run IsDeskRun
stays_in_run r more number name t a h f n =
    let p = allowed_both (new_desk r.opening) r.order more h in
    ap (λ d. database_under d name) (all_both (new_desk r.opening) r.order more) ∙ stays_through (after_all (new_desk r.opening) r.order) more number name t (orderly_run r a p.0) p.1 f n

-- ---- connections and events
conn_owned : (d : DeskState) (n : Named) → IsOwned (asked_at d) n → IsConnOf d n
conn_owned d n o who h = let k = some_conn (conn_at n who) h in o who (let p : held_of who n ≡ 1 = ap held_where k.1 in omega arith)

events_owned : (d : DeskState) (client : ℕ) (es : List ClientEvent) → AllByRecursion (λ e. (conn_of e).client ≡ client) es → ((who : ConnId) → 0 < tally (one_told who) es → is_some (asked_at d who) ≡ true) → AllByRecursion (λ e. ((conn_of e).client ≡ client) × (is_some (asked_at d (conn_of e)) ≡ true)) es
events_owned d client [] a h = tt
events_owned d client (e ∷ es) a h = ((a.0, h (conn_of e) (let p = counts_itself (conn_of e) in omega arith)), events_owned d client es a.1 (λ who g. h who (omega arith)))

mails_owned : (d : DeskState) (ms : List Mail) → AreAddressed ms → ((who : ConnId) → 0 < telling who ms → is_some (asked_at d who) ≡ true) → AllByRecursion (AreEventsOf d) ms
mails_owned d [] a h = tt
mails_owned d (m ∷ ms) a h = (events_owned d m.client m.events a.0 (λ who g. h who (omega arith)), mails_owned d ms a.1 (λ who g. h who (omega arith)))

pub own : (d : DeskState) → IsOrderly d → HasOwn d
own d o = record { connections = all_kept (IsOwned (asked_at d)) (IsConnOf d) d.queues.names (conn_owned d) o.queued.owned; events = mails_owned d d.queues.mails o.queued.addressed o.queued.told; once = o.once }

-- ---- what was asked
asked_still : (d : DeskState) (t u : DeskStep) → is_allowed d u ≡ true → IsAskedAs d t → IsAskedAs (after d u) t
asked_still d (step.Asks who name want) u h a = asks_stay d u who name h a
asked_still d (step.Takes client) u h a = tt
asked_still d (step.Handles client) u h a = tt
asked_still d (step.Closes who) u h a = tt
asked_still d (step.Creates number who scope m durability) u h a = tt
asked_still d (step.Starts client number) u h a = tt
asked_still d (step.Leaves client number ended kept) u h a = tt
asked_still d step.Faults u h a = tt

asked_through : (d : DeskState) (t : DeskStep) (ts : List DeskStep) → AreAllowed d ts → IsAskedAs d t → IsAskedAs (after_all d ts) t
asked_through d t [] h a = a
asked_through d t (u ∷ ts) h a = asked_through (after d u) t ts h.1 (asked_still d t u h.0 a)

asked_now : (d : DeskState) (t : DeskStep) → is_allowed d t ≡ true → IsAskedAs (after d t) t
unfolding after
asked_now d (step.Asks who name want) h = ask_noted d who name (ask_number d who name want h)
asked_now d (step.Takes client) h = tt
asked_now d (step.Handles client) h = tt
asked_now d (step.Closes who) h = tt
asked_now d (step.Creates number who scope m durability) h = tt
asked_now d (step.Starts client number) h = tt
asked_now d (step.Leaves client number ended kept) h = tt
asked_now d step.Faults h = tt

all_asked : (d : DeskState) (ts : List DeskStep) → AreAllowed d ts → AreAsked (after_all d ts) ts
all_asked d [] h = tt
all_asked d (t ∷ ts) h = (asked_through (after d t) t ts h.1 (asked_now d t h.0), all_asked (after d t) ts h.1)

pub asked_in_run : (r : DeskRun) → IsDeskRun r → AreAsked (desk_run r) r.order
unfolding desk_run IsDeskRun
asked_in_run r h = all_asked (new_desk r.opening) r.order h
