-- What each item keeps: the numbers of the unfinished transactions that have it in their scope.
--     lane_at               the numbers at an item; none past the last lane
--     entered, left, IsEnteredOrNot     a number comes to the items of a scope, or goes
--     lesser, least_ahead   the least of the first numbers at the items of a scope
--     numbers_at            the numbers of those transactions that pass a test and have the item
--     AreKept               what the lanes and numbers of the unfinished transactions always meet
use Rattle.std.specs.Prelude.{◌≡◌, ℕ, Bool, true, ◌&&◌, nat_lt, List, [], ◌∷◌, ◌++◌, map, filter, slice_get, if◌then◌else◌, Option, Some, None, unwrap_or, ◌⊎◌}
use Rattle.scope_desk.specs.declared.tickets.Ticket.{Ticket}
use Rattle.scope_desk.specs.Rising.{without_number}
use Rattle.scope_desk.specs.Starts.{AreByNumber, has_item, writes}

-- the numbers at an item
abbrev pub lane_at : List (List ℕ) → ℕ → List ℕ
lane_at lanes item = unwrap_or (slice_get lanes item) []

abbrev pub entered : ℕ → Bool → List ℕ → List ℕ
entered number has ns = if has then ns ++ number ∷ [] else ns

abbrev pub left : ℕ → Bool → List ℕ → List ℕ
left number has ns = if has then without_number number ns else ns

-- the lane is as before, or the number came to it, which has the item
abbrev pub IsEnteredOrNot : ℕ → Bool → List ℕ → List ℕ → Type 0
IsEnteredOrNot number has old new = (new ≡ old) ⊎ ((has ≡ true) × (new ≡ old ++ number ∷ []))

abbrev pub lesser : Option ℕ → ℕ → ℕ
lesser None least = least
lesser (Some n) least = if nat_lt n least then n else least

-- the least of the first numbers at these items and this one
abbrev pub least_ahead : List (List ℕ) → List ℕ → ℕ → ℕ
least_ahead lanes [] least = least
least_ahead lanes (item ∷ items) least = least_ahead lanes items (lesser (slice_get (lane_at lanes item) 0) least)

-- the numbers of the transactions that pass the test and have the item
abbrev pub numbers_at : (Ticket → Bool) → ℕ → List Ticket → List ℕ
numbers_at test item tickets = map (λ t. t.number) (filter (λ t. has_item item t.scope && test t) tickets)

-- each lane has the numbers of those with its item
abbrev pub HasNumbers : (Ticket → Bool) → List (List ℕ) → List Ticket → Type 0
HasNumbers test lanes tickets = (item : ℕ) → lane_at lanes item ≡ numbers_at test item tickets

pub record AreKept (tickets : List Ticket) (next : ℕ) (all writers : List (List ℕ)) : Type 0 where
  pub numbers : AreByNumber (record { unfinished = tickets; next = next })
  pub each : HasNumbers (λ t. true) all tickets
  pub writing : HasNumbers (λ t. writes t.mode) writers tickets
