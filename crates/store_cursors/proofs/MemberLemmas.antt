-- What a store and its indexes show.
--     shown_has_value       each member has a record
use Rattle.std.proofs.Common.{◌≡◌, ℕ, true, [], refl, sym, ap, subst, ◌∙◌, Option, Some, None}
use Rattle.std.specs.Prelude.{slice_get, option_map, unwrap_or, IsSome}
use Rattle.std.specs.FinMap as finite
use Rattle.std.specs.Cmp.{tied_itself}
use Rattle.std.specs.Ordering.{is_eq}
use Rattle.std.proofs.lemmas.Option.{slice_get-map}
use Rattle.std.proofs.lemmas.Map.Keys.{any_passes_from_place}
use Rattle.clone_values.specs.Tree.{Tree}
use Rattle.clone_values.specs.KeyTree.{KeyTree}
use Rattle.idb_keys.specs.declared.names.Over.{Over}
use Rattle.idb_keys.specs.declared.names.Over.TheVariants.{Store as OfStore, Index}
use Rattle.idb_schema.specs.declared.definitions.IndexInfo.{IndexInfo}
use Rattle.index_tables.specs.Rows.{RowTree, is_row, among, rows_of}
use Rattle.index_tables.specs.Orders.{row_cmp_total}
use Rattle.index_tables.specs.RecordRows.{Records, index_rows, gives_key}
use Rattle.indexed_records.proofs.Laws.{record_found}
use Rattle.object_stores.proofs.Laws.{row_shown_by_key}
use Rattle.object_stores.specs.Store.{Store}
use Rattle.object_stores.specs.Showing.{shown_in}
use Rattle.store_cursors.specs.Members.{member_value}

own_value : (records : Records) (place : ℕ) (member : RowTree) (e : Option (KeyTree × Tree)) → slice_get (finite.entries records) place ≡ e
    → option_map (λ e. (e.0, e.0)) e ≡ Some member → IsSome (finite.get records member.1)
own_value records place member None at is = cc
own_value records place member (Some e) at is =
    let same : e.0 ≡ member.1 = cc in
    subst (λ k. IsSome (finite.get records k)) same (subst IsSome (sym (record_found records place e at)) refl)

given_value : (index : IndexInfo) (key : KeyTree) (value : Option Tree) → gives_key index key value ≡ true → IsSome value
given_value index key None is = cc
given_value index key (Some value) is = refl

row_value : (store : Store) (index : ℕ) (place : ℕ) (member : RowTree) (o : Option IndexInfo) → slice_get store.info.indexes index ≡ o
    → slice_get (unwrap_or (option_map (λ i. rows_of (index_rows i store.records)) o) []) place ≡ Some member → IsSome (member_value store member)
row_value store index place member None at is = cc
row_value store index place member (Some info) at is =
    let shown = (λ (o : Option IndexInfo). unwrap_or (option_map (λ i. rows_of (index_rows i store.records)) o) []) in
    let there : among (shown (slice_get store.info.indexes index)) member ≡ true = ap (λ o. among (shown o) member) at ∙ any_passes_from_place (is_row member) (shown (Some info)) place member is (ap is_eq (tied_itself row_cmp_total member)) in
    given_value info member.0 (finite.get store.records member.1) (sym (row_shown_by_key store.info.indexes store.records index info member at) ∙ there)

pub shown_has_value : (store : Store) (over : Over) (place : ℕ) (member : RowTree) → slice_get (shown_in store over) place ≡ Some member → IsSome (member_value store member)
shown_has_value store over place member = elim over as (λ over. slice_get (shown_in store over) place ≡ Some member → IsSome (member_value store member)) [
  | OfStore ↦ λ is. own_value store.records place member _ refl (sym (slice_get-map (λ e. (e.0, e.0)) (finite.entries store.records) place) ∙ is)
  | Index index ↦ row_value store index place member _ refl
]
