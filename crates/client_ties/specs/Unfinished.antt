-- The unfinished transactions of a desk.
--     UnfinishedTx          its number, the client that made it, and whether it was started
--     shown_at, unfinished_from     a transaction of this number, unless it is finished;  those of a list, from this number on
--     unfinished_of         those of the desk, by number
--     is_numbered_so, is_made_by    it has this number;  this client made it
--     started_where         the one of this number is started
--     other_drawn           without the one of this number
--     own_unfinished        those that a client made
--     least_of              the number of the least, if there is one
--     AreDrawn              these drew the numbers that come next
--     Draws                 between two desks these drew their numbers, and nothing else of the unfinished transactions changed
use Rattle.std.specs.Prelude.{◌≡◌, ℕ, ◌+◌, Bool, true, false, not, ◌==◌, List, [], ◌∷◌, ◌++◌, map, filter, slice_get, if◌then◌else◌, Option, option_map}
use Rattle.desk_steps.specs.declared.stands.DrawnTx.{DrawnTx}
use Rattle.desk_steps.specs.declared.stands.TxStage.{TxStage}
use Rattle.desk_steps.specs.declared.stands.TxStage.TheVariants as stage
use Rattle.idb_desk.specs.Desks.{DeskState}

pub record UnfinishedTx : Type 0 where
  pub number : ℕ
  pub client : ℕ
  pub started : Bool

abbrev pub shown_at : ℕ → ℕ → TxStage → List UnfinishedTx
shown_at number client stage.Created = record { number = number; client = client; started = false } ∷ []
shown_at number client stage.Started = record { number = number; client = client; started = true } ∷ []
shown_at number client stage.Finished = []

-- the client is that of the open or delete which the transaction belongs to
abbrev pub unfinished_from : ℕ → List DrawnTx → List UnfinishedTx
unfinished_from number [] = []
unfinished_from number (t ∷ ts) = shown_at number t.who.client t.stage ++ unfinished_from (number + 1) ts

-- `unfoldable`, so that a desk's stay short
unfoldable pub unfinished_of : DeskState → List UnfinishedTx
unfinished_of d = unfinished_from 1 d.board.drawn

-- ---- some of them
abbrev pub is_numbered_so : ℕ → UnfinishedTx → Bool
is_numbered_so number u = u.number == number

abbrev pub is_made_by : ℕ → UnfinishedTx → Bool
is_made_by client u = u.client == client

abbrev pub started_so : ℕ → UnfinishedTx → UnfinishedTx
started_so number u = if is_numbered_so number u then record u { started = true } else u

abbrev pub started_where : ℕ → List UnfinishedTx → List UnfinishedTx
started_where number us = map (started_so number) us

abbrev pub other_drawn : ℕ → List UnfinishedTx → List UnfinishedTx
other_drawn number us = filter (λ u. not (is_numbered_so number u)) us

-- those that a client made
abbrev pub own_unfinished : DeskState → ℕ → List UnfinishedTx
own_unfinished d client = filter (is_made_by client) (unfinished_of d)

-- the number of the least, as the start rule has them
abbrev pub least_of : DeskState → Option ℕ
least_of d = option_map (λ t. t.number) (slice_get d.board.scopes.unfinished 0)

-- ---- numbers that are drawn
-- these drew their numbers one after the other, from the first on, and the next is drawn then
abbrev pub AreDrawn : ℕ → List UnfinishedTx → ℕ → Type 0
AreDrawn first [] next = next ≡ first
AreDrawn first (u ∷ us) next = (u.number ≡ first) × AreDrawn (first + 1) us next

pub record Draws (d : DeskState) (us : List UnfinishedTx) (e : DeskState) : Type 0 where
  pub unfinished : unfinished_of e ≡ unfinished_of d ++ us
  pub numbers : AreDrawn d.board.scopes.next us e.board.scopes.next
  pub tickets : map (λ t. t.number) e.board.scopes.unfinished ≡ map (λ t. t.number) d.board.scopes.unfinished ++ map (λ u. u.number) us
