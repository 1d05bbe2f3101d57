-- What is known of the calls that wait in a front, since each was checked when it was placed.
--     IsFitCall             a count is in its range, and the value of an update can be stored
--     IsFitEntry            so it is of the call of an entry
--     IsAtKey               the place of a cursor has a key under which a record may be stored
--     AreFit                all entries that wait, and all cursors
use Rattle.std.specs.Prelude.{◌≡◌, ◌≤◌, true, false, Option, Some, None, ⊤}
use Rattle.std.specs.List.{AllByRecursion}
use Rattle.idb_base.specs.declared.limits.TheConstants.{GREATEST_DEPTH}
use Rattle.clone_values.specs.KeyValues.{IsKey, key_depth}
use Rattle.clone_values.specs.Values.{IsCloneable}
use Rattle.clone_values.specs.View.{tree_of}
use Rattle.clone_values.specs.WellFormed.{IsValue}
use Rattle.idb_calls.specs.declared.calls.Call.{Call}
use Rattle.idb_calls.specs.declared.calls.Call.TheVariants.{GetAll, GetAllKeys, Advance, Update}
use Rattle.index_tables.specs.Rows.{RowTree}
use Rattle.request_lists.specs.declared.entries.FrontCursor.{FrontCursor}
use Rattle.request_lists.specs.declared.entries.ListEntry.{ListEntry}
use Rattle.request_lists.specs.declared.entries.ListEntry.TheVariants.{Request, Turn, Change}
use Rattle.request_lists.specs.Fronts.{Front}
use Rattle.request_lists.specs.Refusals.{is_count_refused, is_step}

abbrev pub IsFitCall : Call → Type 0
IsFitCall (GetAll target query count) = is_count_refused count ≡ false
IsFitCall (GetAllKeys target query count) = is_count_refused count ≡ false
IsFitCall (Advance cursor count) = is_step count ≡ true
IsFitCall (Update cursor value) = IsValue (tree_of value) × IsCloneable (tree_of value)
IsFitCall _ = ⊤

-- a call of an upgrade is checked against the schema
abbrev pub IsFitEntry : {D : Type 0} → ListEntry D → Type 0
IsFitEntry (Request request call handler) = IsFitCall call
IsFitEntry (Turn number call) = IsFitCall call
IsFitEntry (Change call) = ⊤

-- its primary key, where it has taken a member
abbrev pub IsAtKeyOf : Option RowTree → Type 0
IsAtKeyOf None = ⊤
IsAtKeyOf (Some place) = IsKey place.1 × (key_depth place.1 ≤ GREATEST_DEPTH)

abbrev pub IsAtKey : {D : Type 0} → FrontCursor D → Type 0
IsAtKey c = IsAtKeyOf c.cursor.place

pub record AreFit {D : Type 0} (front : Front D) : Type 0 where
  pub waiting : AllByRecursion IsFitEntry front.waiting
  pub cursors : AllByRecursion IsAtKey front.cursors
