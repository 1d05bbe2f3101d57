-- The order of transactions by their numbers.
--     both_run              two that were started and whose scopes conflict
--     IsInOrder             any two such stand in the order of their numbers
--     placed_by_number, by_number   a transaction among others that rise;  all of them by their numbers
--     Rises                 no number is less than the one before
--     committed_of          those that committed, in their order
--     FitsItems, FitsWhole, EachFits, EachApplies   each was made by the schema of its database;  each change finds what it needs
use Rattle.std.specs.Prelude.{◌≡◌, ◌<◌, ◌≤◌, nat_lt, Bool, true, ◌&&◌, List, [], ◌∷◌, if◌then◌else◌, Option, is_some, ⊤}
use Rattle.std.specs.Bool.{MatchBool}
use Rattle.std.specs.List.{AllByRecursion}
use Rattle.idb_schema.specs.Schemas.{IsSchema}
use Rattle.item_changes.specs.Items.{Database, Items}
use Rattle.item_changes.specs.Effects.{made_all, applied_all, all_apply}
use Rattle.item_changes.specs.Scopes.{scopes_conflict, part_of}
use Rattle.request_lists.specs.Fronts.{is_upgrade_mode}
use Rattle.machine_laws.specs.States.{opening_changes}
use Rattle.machine_laws.specs.Noting.{IsRaised}
use Rattle.machine_laws.specs.Keeping.{Shows}
use Rattle.serial_order.specs.FinishEntries.{ScriptedBody, TxBody, Scripted, Deletion, FinishEntry, scope_of_entry, did_commit, changes_kept}

abbrev pub both_run : {D L : Type 0} → FinishEntry D L → FinishEntry D L → Bool
both_run e f = e.started && (f.started && scopes_conflict (scope_of_entry e) (scope_of_entry f))

abbrev pub IsInOrder : {D L : Type 0} → List (FinishEntry D L) → Type 0
IsInOrder [] = ⊤
IsInOrder (e ∷ es) = AllByRecursion (λ f. both_run e f ≡ true → e.number < f.number) es × IsInOrder es

-- before the first that has a greater number, or the same
abbrev pub placed_by_number : {D L : Type 0} → FinishEntry D L → List (FinishEntry D L) → List (FinishEntry D L)
placed_by_number e [] = e ∷ []
placed_by_number e (f ∷ fs) = if nat_lt f.number e.number then f ∷ placed_by_number e fs else e ∷ f ∷ fs

abbrev pub by_number : {D L : Type 0} → List (FinishEntry D L) → List (FinishEntry D L)
by_number [] = []
by_number (e ∷ es) = placed_by_number e (by_number es)

abbrev pub Rises : {D L : Type 0} → List (FinishEntry D L) → Type 0
Rises [] = ⊤
Rises (e ∷ es) = AllByRecursion (λ f. e.number ≤ f.number) es × Rises es

abbrev pub committed_of : {D L : Type 0} → List (FinishEntry D L) → List (FinishEntry D L)
committed_of [] = []
committed_of (e ∷ es) = if did_commit e.outcome then e ∷ committed_of es else committed_of es

-- ---- made by the schema of its database
pub record FitsWhole {D : Type 0} (part : Option Database) (body : ScriptedBody D) : Type 0 where
  pub schema : IsSchema body.schema
  pub shows : Shows (is_upgrade_mode body.mode) body.schema (made_all (opening_changes body.mode body.schema) part)
  pub raised : IsRaised body.mode body.schema part

abbrev pub FitsItems : {D : Type 0} → Option Database → TxBody D → Type 0
FitsItems part (Scripted body) = FitsWhole part body
FitsItems part (Deletion name) = is_some part ≡ true

abbrev pub EachFits : {D L : Type 0} → Items → List (FinishEntry D L) → Type 0
EachFits items [] = ⊤
EachFits items (e ∷ es) = MatchBool e.started (FitsItems (part_of (scope_of_entry e) items) e.body) ⊤ × EachFits (applied_all items (changes_kept e)) es

abbrev pub EachApplies : {D L : Type 0} → Items → List (FinishEntry D L) → Type 0
EachApplies items [] = ⊤
EachApplies items (e ∷ es) = (all_apply items (changes_kept e) ≡ true) × EachApplies (applied_all items (changes_kept e)) es
