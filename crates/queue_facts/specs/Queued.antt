-- What is kept for all names and in all inboxes, as every desk keeps it.
--     waiting, running_by, running, held_txs    the sums over all names
--     ending, beginning, telling    those over all inboxes
--     AreNamedApart         no two names are the same
--     IsOwned               each request that waits or runs, and each connection, is one that was asked of this name
--     AreAddressed          each event of an inbox is one of its client's requests
--     IsQueued              all of this, each event is one of a request that was asked, and whoever asked has an inbox
use Rattle.std.specs.Prelude.{◌≡◌, ◌<◌, ℕ, Bool, true, false, List, [], ◌∷◌, Option, Some, is_some, ⊤}
use Rattle.std.specs.List.{AllByRecursion, list_any}
use Rattle.name_queues.specs.Names.{name_of, is_name}
use Rattle.name_queues.specs.Mails.{Mail, conn_of, is_mail}
use Rattle.name_queues.specs.declared.ids.ConnId.{ConnId}
use Rattle.name_queues.specs.declared.events.ClientEvent.{ClientEvent}
use Rattle.name_queues.specs.declared.names.Named.{Named}
use Rattle.queue_facts.specs.Counts.{Whole, tally, wait_count_of, runs_by, of_request, txs_of, stands_of, one_end, one_begin, one_told}
use Rattle.queue_facts.specs.Shapes.{IsShaped}

-- ---- sums over all names
abbrev pub waiting : ConnId → List Named → ℕ
waiting who names = tally (wait_count_of who) names

abbrev pub running_by : (ConnId → Whole → Bool) → List Named → ℕ
running_by test names = tally (runs_by test) names

abbrev pub running : ConnId → List Named → ℕ
running who names = running_by (of_request who) names

-- transactions of its connections that aren't finished
abbrev pub held_txs : ConnId → List Named → ℕ
held_txs who names = tally (txs_of who) names

-- ---- sums over all inboxes
abbrev pub mailed : (ClientEvent → ℕ) → List Mail → ℕ
mailed count mails = tally (λ m. tally count m.events) mails

abbrev pub ending : ConnId → List Mail → ℕ
ending who mails = mailed (one_end who) mails

abbrev pub beginning : (ConnId → Whole → Bool) → List Mail → ℕ
beginning test mails = mailed (one_begin test) mails

abbrev pub telling : ConnId → List Mail → ℕ
telling who mails = mailed (one_told who) mails

-- ---- what every desk keeps
-- no two names are the same
abbrev pub AreNamedApart : List Named → Type 0
AreNamedApart [] = ⊤
AreNamedApart (n ∷ ns) = AllByRecursion (λ m. is_name (name_of n) m ≡ false) ns × AreNamedApart ns

-- what stands here was asked of this name
abbrev pub IsOwned : (ConnId → Option (List ℕ)) → Named → Type 0
IsOwned asked n = (who : ConnId) → 0 < stands_of who n → asked who ≡ Some (name_of n)

-- each event of an inbox is one of its client's
abbrev pub IsAddressed : Mail → Type 0
IsAddressed m = AllByRecursion (λ e. (conn_of e).client ≡ m.client) m.events

abbrev pub AreAddressed : List Mail → Type 0
AreAddressed mails = AllByRecursion IsAddressed mails

pub record IsQueued (asked : ConnId → Option (List ℕ)) (names : List Named) (mails : List Mail) : Type 0 where
  pub apart : AreNamedApart names
  pub shaped : AllByRecursion IsShaped names
  pub owned : AllByRecursion (IsOwned asked) names
  pub told : (who : ConnId) → 0 < telling who mails → is_some (asked who) ≡ true
  pub addressed : AreAddressed mails
  pub boxed : (who : ConnId) → is_some (asked who) ≡ true → list_any (is_mail who.client) mails ≡ true
