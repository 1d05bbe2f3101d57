-- A scope whose names stand once.
--     once_refused          of a name that stands twice the desk says the same
use Rattle.std.proofs.Common.{◌≡◌, Bool, true, false, List, [], ◌∷◌, if◌then◌else◌, refl, sym, ap, ◌∙◌}
use Rattle.std.specs.Prelude.{◌||◌, ◌&&◌, Option, Some, None, is_some}
use Rattle.std.specs.List.{list_any, list_all}
use Rattle.idb_keys.specs.declared.names.Mode.{Mode}
use Rattle.idb_schema.specs.Schemas.{SchemaData, stores_of}
use Rattle.idb_schema.specs.Definitions.{store_named}
use Rattle.item_changes.specs.Items.{Name, is_same_name}
use Rattle.item_changes.proofs.Laws.{same_name}
use Rattle.name_queues.specs.declared.ids.ConnId.{ConnId}
use Rattle.connection_queues.specs.Machine.{schema_of}
use Rattle.idb_desk.specs.Desks.{DeskState}
use Rattle.idb_desk.specs.Refusals.{has_stores, is_empty_scope, refusal_of_create}
use Rattle.client_machine.specs.TaskRuns.{names_once}

-- a test that holds of all that was seen
abbrev HoldOf : (Name → Bool) → List Name → Type 0
HoldOf p seen = (m : Name) → list_any (is_same_name m) seen ≡ true → p m ≡ true

once_all : (p : Name → Bool) (seen ns : List Name) → HoldOf p seen → list_all p (names_once seen ns) ≡ list_all p ns
once_all p seen [] h = refl
once_all p seen (n ∷ ns) h = split (list_any (is_same_name n) seen) refl (p n) refl (once_all p seen ns h) (λ k. once_all p (n ∷ seen) ns k)
  where
    more : p n ≡ true → HoldOf p (n ∷ seen)
    more here m e = either (is_same_name m n) refl e
      where
        either : (b : Bool) → is_same_name m n ≡ b → b || list_any (is_same_name m) seen ≡ true → p m ≡ true
        either true same e = ap p (same_name m n same) ∙ here
        either false same e = h m e

    split : (b : Bool) → list_any (is_same_name n) seen ≡ b → (a : Bool) → p n ≡ a → list_all p (names_once seen ns) ≡ list_all p ns → (HoldOf p (n ∷ seen) → list_all p (names_once (n ∷ seen) ns) ≡ list_all p ns)
        → list_all p (if b then names_once seen ns else n ∷ names_once (n ∷ seen) ns) ≡ a && list_all p ns
    split true known a here left rest = left ∙ ap (λ b. b && list_all p ns) (sym (h n known) ∙ here)
    split false new true here left rest = ap (λ b. b && list_all p (names_once (n ∷ seen) ns)) here ∙ rest (more here)
    split false new false here left rest = ap (λ b. b && list_all p (names_once (n ∷ seen) ns)) here

once_empty : (ns : List Name) → is_empty_scope (names_once [] ns) ≡ is_empty_scope ns
once_empty [] = refl
once_empty (n ∷ ns) = refl

once_stores : (scope : List Name) (schema : Option SchemaData) → has_stores (names_once [] scope) schema ≡ has_stores scope schema
once_stores scope None = refl
once_stores scope (Some schema) = once_all (λ name. is_some (store_named (stores_of schema) name)) [] scope (λ m e. cc)

pub once_refused : (d : DeskState) (who : ConnId) (scope : List Name) (m : Mode) → refusal_of_create d who (names_once [] scope) m ≡ refusal_of_create d who scope m
once_refused d who scope m = rw (once_stores scope (schema_of d.queues who), once_empty scope) refl
