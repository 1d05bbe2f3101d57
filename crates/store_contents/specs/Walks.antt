-- The tables of rows, changed one by one.
--     AllChanged            each table of the one list stands so to the table at its place in the other, with the member at its place of a third list
--     paired                two lists, place by place
--     Keeps, HasRoomFor     the rows are as they were, and no spare place is lost;  so many rows more fit
--     Adds, Removes, Replaces       the rows are those before and these;  those before without these;  those before with the second list in place of the first
--     AreEmpty, IsFilled    so many tables without rows;  such tables came at the end
--     IsInserted            and then a table at a place
use Rattle.std.specs.Prelude.{◌≡◌, ℕ, ◌+◌, ◌-◌, ◌≤◌, List, [], ◌∷◌, ◌++◌, length, ⊤}
use Rattle.std.specs.List.{AllByRecursion, insert}
use Rattle.index_tables.specs.Rows.{RowTree, IndexRows, no_rows, with_rows, without_rows}

abbrev pub AllChanged : {A : Type 0} → (A → IndexRows → IndexRows → Type 0) → List A → List IndexRows → List IndexRows → Type 0
AllChanged R xs [] [] = ⊤
AllChanged R xs [] (n ∷ ns) = ⊥
AllChanged R xs (o ∷ os) [] = ⊥
AllChanged R [] (o ∷ os) (n ∷ ns) = ⊥
AllChanged R (a ∷ xs) (o ∷ os) (n ∷ ns) = R a o n × AllChanged R xs os ns

abbrev pub paired : {A B : Type 0} → List A → List B → List (A × B)
paired [] bs = []
paired (a ∷ xs) [] = []
paired (a ∷ xs) (b ∷ bs) = (a, b) ∷ paired xs bs

-- no row more or less
abbrev pub Keeps : IndexRows → IndexRows → IndexRows → Type 0
Keeps a old new = (new.rows ≡ old.rows) × (old.spare ≤ new.spare)

abbrev pub HasRoomFor : ℕ → IndexRows → IndexRows → IndexRows → Type 0
HasRoomFor rows a old new = rows ≤ new.spare

-- at most as many spare places are used as rows come
abbrev pub Adds : List RowTree → IndexRows → IndexRows → Type 0
Adds rows old new = (new.rows ≡ with_rows old.rows rows) × (old.spare ≤ new.spare + length rows)

abbrev pub Removes : List RowTree → IndexRows → IndexRows → Type 0
Removes rows old new = (new.rows ≡ without_rows old.rows rows) × (old.spare ≤ new.spare)

abbrev pub Replaces : List RowTree × List RowTree → IndexRows → IndexRows → Type 0
Replaces both old new = (new.rows ≡ with_rows (without_rows old.rows both.0) both.1) × (old.spare ≤ new.spare + length both.1)

-- there is room for these rows in the table
abbrev pub CanAdd : List RowTree → IndexRows → IndexRows → Type 0
CanAdd rows old new = length rows ≤ old.spare

-- so many tables without rows and without spare places
abbrev pub AreEmpty : ℕ → List IndexRows → Type 0
AreEmpty n ts = (length ts ≡ n) × AllByRecursion (λ t. (t.rows ≡ no_rows) × (t.spare ≡ 0)) ts

-- tables without rows came at the end, to this number
abbrev pub IsFilled : ℕ → List IndexRows → List IndexRows → Type 0
IsFilled count old new = (fresh : List IndexRows) × (new ≡ old ++ fresh) × AreEmpty (count - length old) fresh

-- tables without rows came up to the place, if they were wanting, and then this one there
abbrev pub IsInserted : ℕ → IndexRows → List IndexRows → List IndexRows → Type 0
IsInserted place table old new = (all : List IndexRows) × IsFilled place old all × (new ≡ insert all place table)
