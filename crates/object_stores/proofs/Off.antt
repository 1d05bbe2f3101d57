-- The newest change, taken off the log and undone.
use Rattle.std.specs.Prelude.{◌≡◌, ◌≢◌, is_some, ℕ, ◌<◌, List, [], ◌∷◌, ◌++◌, reverse, Some, None, slice_get, unwrap_or}
use Rattle.std.proofs.Common.{sym, ap, ◌∙◌, subst, inl, inr, arith}
use Rattle.std.specs.FinMap.{entries, len, len-entries}
use Rattle.clone_values.specs.Tree.{Tree}
use Rattle.clone_values.specs.KeyTree.{KeyTree}
use Rattle.std.proofs.lemmas.Option.{slice_get_within, slice_get_cases}
use Rattle.std.proofs.lemmas.Bool.{true≢false}
use Rattle.index_tables.specs.RecordRows.{Records}
use Rattle.idb_schema.specs.declared.definitions.IndexInfo.{IndexInfo}
use Rattle.index_tables.specs.Rows.{RowTree}
use Rattle.range_reads.specs.Contents.{rows_in_indexes}
use Rattle.store_contents.specs.Store.{Content}
use Rattle.object_stores.specs.Undo.{undone, past_of, CanUndo, needed_records, needed_rows, HasSpare, AreRoomy}
use Rattle.object_stores.specs.Parts.{content_in, log_in, past_in, IsSound, IsOff}
use Rattle.object_stores.specs.declared.changes.Change.{Change}
use Rattle.object_stores.specs.declared.changes.Change.TheVariants as change
use Rattle.object_stores.specs.declared.changes.Parts.{Parts}
use Rattle.object_stores.proofs.Logged.{log_pushed}

module _ {T R W : Type 0} where
  -- the tables that older changes need
  roomy_below : (c : Change T R W) (log : List (Change T R W)) → AreRoomy (c ∷ log) → AreRoomy log
  roomy_below (change.Added key rows) log h = h
  roomy_below (change.Removed key value rows) log h = h
  roomy_below (change.Replaced key value rows new_rows) log h = h
  roomy_below (change.Revalued key value) log h = h
  roomy_below (change.Cleared emptied removed rows) log h = h.3
  roomy_below change.IndexAdded log h = h
  roomy_below (change.IndexDropped dropped) log h = h.1

  -- a sound store without its newest change
  pub taken_off : (c : Change T R W) (old new : Parts T R W) → old.log.items ≡ new.log.items ++ c ∷ [] → new.contents ≡ old.contents → new.removed ≡ old.removed → new.rows ≡ old.rows → IsSound old → IsOff c new
  taken_off c old new items contents removed rows sound =
      let e = log_pushed c new old items in
      let same : content_in new ≡ content_in old = λ i. record { info = (contents i).info; records = (contents i).records } in
      record {
        undo = subst (λ (s : Content). CanUndo (c ∷ log_in new) s) (sym same) (subst (λ log. CanUndo log (content_in old)) e sound.undo);
        spare = subst (λ (k : _). HasSpare (c ∷ log_in new) k.record_spare k.row_spare) (sym contents) (subst (λ log. HasSpare log old.contents.record_spare old.contents.row_spare) e sound.spare);
        kept = subst AreRoomy e sound.kept;
        removed = removed ∙ sound.removed ∙ ap needed_records e;
        rows = rows ∙ sound.rows ∙ ap needed_rows e;
      }

  -- the store before the change is sound where the tables have what the older changes need
  pub sound_off : (c : Change T R W) (old new : Parts T R W) → IsOff c old → new.log.items ≡ old.log.items → content_in new ≡ undone c (content_in old)
      → HasSpare (log_in old) new.contents.record_spare new.contents.row_spare → new.removed ≡ needed_records (log_in old) → new.rows ≡ needed_rows (log_in old) → IsSound new
  sound_off c old new off items store spare removed rows =
      let e = sym (ap reverse items) in
      record {
        undo = subst (λ log. CanUndo log (content_in new)) e (subst (CanUndo (log_in old)) (sym store) off.undo.2);
        spare = subst (λ log. HasSpare log new.contents.record_spare new.contents.row_spare) e spare;
        kept = subst AreRoomy e (roomy_below c (log_in old) off.kept);
        removed = removed ∙ ap needed_records e;
        rows = rows ∙ ap needed_rows e;
      }

  -- what was before the change is the last of what was before
  pub past_off : (c : Change T R W) (old mid new : Parts T R W) → old.log.items ≡ mid.log.items ++ c ∷ [] → content_in mid ≡ content_in old → new.log.items ≡ mid.log.items → content_in new ≡ undone c (content_in mid) → past_in old ≡ past_in new ++ content_in new ∷ []
  past_off c old mid new items same again store =
      ap (λ log. past_of log (content_in old)) (log_pushed c mid old items)
      ∙ ap (λ s. past_of (log_in mid) s ++ s ∷ []) (ap (undone c) (sym same) ∙ sym store)
      ∙ ap (λ log. past_of log (content_in new) ++ content_in new ∷ []) (sym (ap reverse again))

pub same_some : {A : Type 0} (x y : A) → Some x ≡ Some y → x ≡ y
same_some x y e = ap (λ o. unwrap_or o x) e

-- a place with a record is one of the places
pub place_within : (records : Records) (place : ℕ) (e : KeyTree × Tree) → slice_get (entries records) place ≡ Some e → place < len records
place_within records place e h = subst (λ n. place < n) (sym (len-entries records)) (slice_get_within (entries records) place e h)

-- one place has one record
pub one_record : (es : List (KeyTree × Tree)) (place : ℕ) (j k : KeyTree) (u v : Tree) → slice_get es place ≡ Some (j, u) → slice_get es place ≡ Some (k, v) → (j ≡ k) × (u ≡ v)
one_record es place j k u v a b = let e = same_some (j, u) (k, v) (sym a ∙ b) in (ap (λ p. p.0) e, ap (λ p. p.1) e)

pub not_none : {A : Type 0} (x : A) → Some x ≢ None
not_none x e = true≢false (ap is_some e)

-- each place within has a record
pub some_there : (records : Records) (place : ℕ) → place < len records → slice_get (entries records) place ≢ None
some_there records place h none = elim (slice_get_cases (entries records) place).1 [
  | inl found ↦ not_none found.0 (sym found.2 ∙ none)
  | inr past ↦ omega (arith, h, len-entries records, past.0)
]

-- what is known of the record of a key at a place holds of whatever stands there
pub one_value : (es : List (KeyTree × Tree)) (place : ℕ) (j k : KeyTree) (u v w : Tree) (rows : List (List RowTree)) (is : List IndexInfo) → slice_get es place ≡ Some (j, u) → slice_get es place ≡ Some (k, v)
    → rows ≡ rows_in_indexes is j w → rows ≡ rows_in_indexes is k w
one_value es place j k u v w rows is a b are = are ∙ ap (λ x. rows_in_indexes is x w) (one_record es place j k u v a b).0
