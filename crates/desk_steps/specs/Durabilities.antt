-- The durability with which transactions were created (Indexed Database API 3.0, "transaction", on the durability hint).
--     relaxed_of            the number of the transaction that a step creates relaxed
--     creates_relaxed       the step creates the transaction of this number, and relaxed
--     durability_drawn         that of a transaction, by the order of steps; an upgrade or a deletion, which no step creates, is strict
--     is_relaxed_in, AreRelaxed     a set has the number;  it has just those of the transactions that the order creates relaxed
--     IsAddedTo             a number that wasn't in a set was added to it, or none was
--     IsTakenBack           what was added was taken back
use Rattle.std.specs.Prelude.{◌≡◌, ℕ, Bool, true, false, ◌==◌, ◌||◌, List, Option, Some, None, if◌then◌else◌}
use Rattle.std.specs.List.{list_any}
use Rattle.std.specs.BTreeSet.{BTreeSet, contains}
use Rattle.std.specs.Ordering.{nat_cmp}
use Rattle.idb_keys.specs.declared.names.Durability.{Durability}
use Rattle.idb_keys.specs.declared.names.Durability.TheVariants.{Strict, Relaxed}
use Rattle.desk_steps.specs.declared.steps.DeskStep.{DeskStep}
use Rattle.desk_steps.specs.declared.steps.DeskStep.TheVariants as step

-- the number, where this is relaxed
abbrev pub if_relaxed : ℕ → Durability → Option ℕ
if_relaxed number Strict = None
if_relaxed number Relaxed = Some number

abbrev pub relaxed_of : DeskStep → Option ℕ
relaxed_of (step.Creates number who scope m durability) = if_relaxed number durability
relaxed_of (step.Asks who name want) = None
relaxed_of (step.Takes client) = None
relaxed_of (step.Handles client) = None
relaxed_of (step.Closes who) = None
relaxed_of (step.Starts client started) = None
relaxed_of (step.Leaves client left ended kept) = None
relaxed_of step.Faults = None

abbrev pub is_this : ℕ → Option ℕ → Bool
is_this number None = false
is_this number (Some drawn) = drawn == number

abbrev pub creates_relaxed : ℕ → DeskStep → Bool
creates_relaxed number t = is_this number (relaxed_of t)

abbrev pub durability_drawn : List DeskStep → ℕ → Durability
durability_drawn order number = if list_any (creates_relaxed number) order then Relaxed else Strict

abbrev pub is_relaxed_in : BTreeSet ℕ → ℕ → Bool
is_relaxed_in numbers number = contains nat_cmp numbers number

abbrev pub AreRelaxed : BTreeSet ℕ → List DeskStep → Type 0
AreRelaxed numbers order = (number : ℕ) → is_relaxed_in numbers number ≡ list_any (creates_relaxed number) order

-- this number, which wasn't there, was added, or none was
abbrev pub IsAddedTo : BTreeSet ℕ → Option ℕ → BTreeSet ℕ → Type 0
IsAddedTo old None new = (n : ℕ) → is_relaxed_in new n ≡ is_relaxed_in old n
IsAddedTo old (Some number) new = (is_relaxed_in old number ≡ false) × ((n : ℕ) → is_relaxed_in new n ≡ (number == n || is_relaxed_in old n))

-- the set has what it had before this was added
abbrev pub IsTakenBack : BTreeSet ℕ → Option ℕ → BTreeSet ℕ → Type 0
IsTakenBack old added new = (before : BTreeSet ℕ) → IsAddedTo before added old → (n : ℕ) → is_relaxed_in new n ≡ is_relaxed_in before n
