-- Whole records.
--     can_all               the changes of a record that can be logged can be made
--     record_made, record_unfound, record_broken, record_too_large      how a record ends
use Rattle.std.proofs.Common.{◌≡◌, ℕ, ◌≤◌, nat_le, Bool, true, false, not, ◌&&◌, ◌||◌, if◌then◌else◌, List, [], ◌∷◌, Some, None, refl, sym, ap, ◌∙◌}
use borrow.Author.Tests.{leb-true}
use Rattle.std.specs.List.{AllByRecursion}
use Rattle.std.specs.FinMap as finite
use Rattle.std.proofs.lemmas.Bool.{and_parts}
use Rattle.idb_schema.specs.Definitions.{takes_generator}
use Rattle.idb_calls.specs.Deltas.{DeltaTree, Version, DropDatabase, CreateStore, DropStore, CreateIndex, DropIndex, Put, Remove, Clear, Current}
use Rattle.item_changes.specs.Items.{Items, store_at}
use Rattle.item_changes.specs.Effects.{applied_all, all_apply}
use Rattle.idb_databases.specs.Items.{AreItems, is_within_limits}
use Rattle.database_changes.specs.StoreChanges.{CanApply}
use Rattle.record_bytes.specs.declared.records.LogRecord.{LogRecord}
use Rattle.record_bytes.specs.Loggable.{IsLoggable}
use Rattle.log_history.specs.Replayed.{are_unbroken, is_at_rest, record_applies, after_record}
use Rattle.record_changes.specs.Loosened.{meant, HasNoRecords}
use Rattle.record_changes.proofs.Back.{meant_nothing, nothing_kept}
use Rattle.record_changes.proofs.Unbroken.{all_whole}

in_range : (a n b : ℕ) → (nat_le a n && nat_le n b) ≡ true → (a ≤ n) × (n ≤ b)
in_range a n b e = let parts = and_parts (nat_le a n) (nat_le n b) e in (leb-true a n parts.0, leb-true n b parts.1)

kind_fits : (b : Bool) → b ≡ true → ((b && true) && true) ≡ true
kind_fits true e = refl
kind_fits false e = cc

can_one : (delta : DeltaTree) → IsLoggable delta → CanApply delta
can_one (Version db version) l = in_range 1 version 9007199254740991 l.parts
can_one (DropDatabase db) l = tt
can_one (CreateStore db store path auto) l = kind_fits (not auto || takes_generator path) l.parts
can_one (DropStore db store) l = tt
can_one (CreateIndex db store index path unique multi) l = l.parts
can_one (DropIndex db store index) l = tt
can_one (Put db store key value) l = record { key = l.parts.0.well_formed; depth = l.parts.0.depth; value = l.parts.1.well_formed; cloneable = l.parts.1.cloneable }
can_one (Remove db store key) l = tt
can_one (Clear db store) l = tt
can_one (Current db store current) l = in_range 1 current 9007199254740993 l.parts

pub can_all : (deltas : List DeltaTree) → AllByRecursion IsLoggable deltas → AllByRecursion CanApply deltas
can_all [] all = tt
can_all (delta ∷ deltas) all = (can_one delta all.0, can_all deltas all.1)

-- at the beginning nothing is kept aside
module _ (items aside : Items) (is : aside ≡ finite.empty) where
  pub nothing_yet : meant items aside ≡ items
  nothing_yet = meant_nothing items aside (λ q r. ap (λ m. store_at m q r) is ∙ nothing_kept q r)

pub blank_yet : (aside : Items) → aside ≡ finite.empty → HasNoRecords aside
blank_yet aside is q r x e = let no : None ≡ Some x = sym (nothing_kept q r) ∙ sym (ap (λ m. store_at m q r) is) ∙ e in absurd cc

-- ---- how a record ends
module _ (items : Items) (r : LogRecord) where
  no_record : record_applies items r ≡ false → after_record items r ≡ None
  no_record e = ap (λ b. if b then Some (applied_all items r.deltas) else None) e

  pub record_unfound : all_apply items r.deltas ≡ false → after_record items r ≡ None
  record_unfound e = no_record (ap (λ b. b && is_at_rest (applied_all items r.deltas)) e)

  never : (b : Bool) → (b && false) ≡ false
  never true = refl
  never false = refl

  module _ (last : Items) (made : last ≡ applied_all items r.deltas) where
    pub record_broken : are_unbroken last ≡ false → after_record items r ≡ None
    record_broken e =
        no_record (ap (λ b. all_apply items r.deltas && b) (ap (λ b. b && is_within_limits (applied_all items r.deltas)) (ap are_unbroken (sym made) ∙ e)) ∙ never (all_apply items r.deltas))

    pub record_too_large : is_within_limits last ≡ false → after_record items r ≡ None
    record_too_large e =
        no_record (ap (λ b. all_apply items r.deltas && b) (ap (λ b. are_unbroken (applied_all items r.deltas) && b) (ap is_within_limits (sym made) ∙ e) ∙ never (are_unbroken (applied_all items r.deltas))) ∙ never (all_apply items r.deltas))

    pub record_made : AreItems last → all_apply items r.deltas ≡ true → is_within_limits last ≡ true → after_record items r ≡ Some last
    record_made sound found within =
        ap (λ b. if b && is_at_rest (applied_all items r.deltas) then Some (applied_all items r.deltas) else None) found
        ∙ ap (λ m. if are_unbroken m && is_within_limits m then Some m else None) (sym made)
        ∙ ap (λ b. if b && is_within_limits last then Some last else None) (all_whole last sound)
        ∙ ap (λ b. if b then Some last else None) within
