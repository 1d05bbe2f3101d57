-- A change that was logged, and one that is undone.
use Rattle.std.specs.Prelude.{◌≡◌, ℕ, ◌≤◌, true, false, cond, List, [], ◌∷◌, ◌++◌, length, reverse, Some, None, ◌⊎◌, refl}
use Rattle.std.proofs.Common.{sym, ap, ◌∙◌, subst, inl, inr, suc, zero, arith}
use Rattle.std.proofs.lemmas.List.{reverse-append, length-append, length-reverse}
use Rattle.std.specs.Ordering.{is_eq}
use Rattle.std.specs.Cmp.{Equal-is, tied_itself}
use Rattle.std.specs.FinMap.{get, insert, remove, get-insert, get-remove, same_map}
use Rattle.clone_values.specs.Tree.{Tree}
use Rattle.clone_values.specs.KeyTree.{KeyTree}
use Rattle.key_order.specs.KeyOrder.{key_cmp}
use Rattle.key_order.proofs.Laws.{key_cmp_total, key_cmp_same}
use Rattle.index_tables.specs.RecordRows.{Records}
use Rattle.store_contents.specs.Store.{Content, content_at}
use Rattle.store_contents.specs.IsStore.{IsStoreContent}
use Rattle.object_stores.specs.Undo.{undone, past_of, IsUndoable, CanUndo, needed_records, needed_rows, HasSpare, AreRoomy}
use Rattle.object_stores.specs.Parts.{content_in, log_in, past_in, IsSound}
use Rattle.object_stores.specs.declared.changes.Change.{Change}
use Rattle.object_stores.specs.declared.changes.Change.TheVariants as change
use Rattle.object_stores.specs.declared.changes.Parts.{Parts}

module _ (records : Records) (k : KeyTree) (v : Tree) where
  tied : (q : KeyTree) → is_eq (key_cmp q k) ≡ true → get records q ≡ get records k
  tied q t = ap (get records) (key_cmp_same q k ((Equal-is _).0 t))

  -- a record that came is taken out again
  pub out_again : get records k ≡ None → remove (insert records k v) k ≡ records
  out_again absent = same_map key_cmp_total key_cmp_same _ _ (λ q.
      get-remove key_cmp_total (insert records k v) k q
      ∙ ap (cond (is_eq (key_cmp q k)) None) (get-insert key_cmp_total records k v q)
      ∙ elim (is_eq (key_cmp q k)) as (λ b. is_eq (key_cmp q k) ≡ b → cond b None (cond b (Some v) (get records q)) ≡ get records q) [
        | true ↦ λ t. sym (tied q t ∙ absent)
        | false ↦ λ t. refl
      ] refl)

  -- a record that went is put in again
  pub in_again : get records k ≡ Some v → insert (remove records k) k v ≡ records
  in_again there = same_map key_cmp_total key_cmp_same _ _ (λ q.
      get-insert key_cmp_total (remove records k) k v q
      ∙ ap (cond (is_eq (key_cmp q k)) (Some v)) (get-remove key_cmp_total records k q)
      ∙ elim (is_eq (key_cmp q k)) as (λ b. is_eq (key_cmp q k) ≡ b → cond b (Some v) (cond b None (get records q)) ≡ get records q) [
        | true ↦ λ t. sym (tied q t ∙ there)
        | false ↦ λ t. refl
      ] refl)

  -- the old value comes back
  pub over_back : (w : Tree) → get records k ≡ Some v → insert (insert records k w) k v ≡ records
  over_back w there = same_map key_cmp_total key_cmp_same _ _ (λ q.
      get-insert key_cmp_total (insert records k w) k v q
      ∙ ap (cond (is_eq (key_cmp q k)) (Some v)) (get-insert key_cmp_total records k w q)
      ∙ elim (is_eq (key_cmp q k)) as (λ b. is_eq (key_cmp q k) ≡ b → cond b (Some v) (cond b (Some w) (get records q)) ≡ get records q) [
        | true ↦ λ t. sym (tied q t ∙ there)
        | false ↦ λ t. refl
      ] refl)

  pub gone : get (remove records k) k ≡ None
  gone = get-remove key_cmp_total records k k ∙ ap (λ o. cond (is_eq o) None (get records k)) (tied_itself key_cmp_total k)

  pub there : get (insert records k v) k ≡ Some v
  there = get-insert key_cmp_total records k v k ∙ ap (λ o. cond (is_eq o) (Some v) (get records k)) (tied_itself key_cmp_total k)

-- behind a place of the past stands what stood there, or else what is now
snoc_at : (past : List Content) (d c : Content) (place : ℕ) → (content_at (past ++ d ∷ []) c place ≡ content_at past d place) ⊎ (content_at (past ++ d ∷ []) c place ≡ c)
unfolding content_at
snoc_at [] d c zero = inl refl
snoc_at [] d c (suc place) = inr refl
snoc_at (p ∷ past) d c zero = inl refl
snoc_at (p ∷ past) d c (suc place) = snoc_at past d c place

none_at : (c : Content) (place : ℕ) → content_at [] c place ≡ c
unfolding content_at
none_at c zero = refl
none_at c (suc place) = refl

module _ {T R W : Type 0} where
  pub log_pushed : (c : Change T R W) (old new : Parts T R W) → new.log.items ≡ old.log.items ++ c ∷ [] → log_in new ≡ c ∷ log_in old
  log_pushed c old new e = ap reverse e ∙ reverse-append old.log.items (c ∷ [])

  module _ (c : Change T R W) (old new : Parts T R W) (items : new.log.items ≡ old.log.items ++ c ∷ []) (back : undone c (content_in new) ≡ content_in old) where
    -- a change that was logged is sound where it can be undone and the tables have what its undoing needs
    pub sound_pushed : IsSound old → IsStoreContent (content_in new) → IsUndoable c (content_in new)
        → HasSpare (c ∷ log_in old) new.contents.record_spare new.contents.row_spare → AreRoomy (c ∷ log_in old)
        → new.removed ≡ needed_records (c ∷ log_in old) → new.rows ≡ needed_rows (c ∷ log_in old) → IsSound new
    sound_pushed sound fine can spare kept removed rows =
        let e = sym (log_pushed c old new items) in
        record {
          undo = subst (λ log. CanUndo log (content_in new)) e (fine, can, subst (CanUndo (log_in old)) (sym back) sound.undo);
          spare = subst (λ log. HasSpare log new.contents.record_spare new.contents.row_spare) e spare;
          kept = subst AreRoomy e kept;
          removed = removed ∙ ap needed_records e;
          rows = rows ∙ ap needed_rows e;
        }

    pub past_pushed : past_in new ≡ past_in old ++ content_in old ∷ []
    past_pushed = ap (λ log. past_of log (content_in new)) (log_pushed c old new items) ∙ ap (λ s. past_of (log_in old) s ++ s ∷ []) back

  -- a store whose changes can be undone is as it should be
  pub fine_now : (log : List (Change T R W)) (content : Content) → CanUndo log content → IsStoreContent content
  fine_now [] content h = h
  fine_now (c ∷ log) content h = h.0

  -- the same changes of the same store are sound where the tables have what their undoing needs
  pub sound_again : (old new : Parts T R W) → new.log.items ≡ old.log.items → content_in new ≡ content_in old → new.removed ≡ old.removed → new.rows ≡ old.rows
      → old.contents.record_spare ≤ new.contents.record_spare → old.contents.row_spare ≤ new.contents.row_spare → IsSound old → IsSound new
  sound_again old new items same removed rows spare row_spare sound =
      let e = sym (ap reverse items) in
      record {
        undo = subst (λ log. CanUndo log (content_in new)) e (subst (CanUndo (log_in old)) (sym same) sound.undo);
        spare = subst (λ log. HasSpare log new.contents.record_spare new.contents.row_spare) e (omega (arith, sound.spare.0, spare), omega (arith, sound.spare.1, row_spare));
        kept = subst AreRoomy e sound.kept;
        removed = removed ∙ sound.removed ∙ ap needed_records e;
        rows = rows ∙ sound.rows ∙ ap needed_rows e;
      }

  -- the same changes of the same content have the same past
  pub past_again : (old new : Parts T R W) → new.log.items ≡ old.log.items → content_in new ≡ content_in old → past_in new ≡ past_in old
  past_again old new items same i = past_of (reverse (items i)) (same i)

  -- without changes nothing is needed
  pub sound_fresh : (parts : Parts T R W) → parts.log.items ≡ [] → IsStoreContent (content_in parts) → parts.removed ≡ 0 → parts.rows ≡ 0 → IsSound parts
  sound_fresh parts none fine removed rows =
      let e = sym (ap reverse none) in
      record {
        undo = subst (λ log. CanUndo log (content_in parts)) e fine;
        spare = subst (λ log. HasSpare log parts.contents.record_spare parts.contents.row_spare) e (omega arith, omega arith);
        kept = subst AreRoomy e tt;
        removed = removed ∙ ap needed_records e;
        rows = rows ∙ ap needed_rows e;
      }

  past_of_length : (log : List (Change T R W)) (content : Content) → length (past_of log content) ≡ length log
  past_of_length [] content = refl
  past_of_length (c ∷ log) content =
      let rest = past_of_length log (undone c content) in
      length-append (past_of log (undone c content)) (undone c content ∷ []) ∙ omega (arith, rest)

  pub past_length : (parts : Parts T R W) → length (past_in parts) ≡ length parts.log.items
  past_length parts = past_of_length (log_in parts) (content_in parts) ∙ length-reverse parts.log.items

  -- ---- whether there is a generator, and what each earlier content is
  same_auto : (c : Change T R W) (content : Content) → (undone c content).info.auto ≡ content.info.auto
  same_auto (change.Added key rows) content = refl
  same_auto (change.Removed key value rows) content = refl
  same_auto (change.Replaced key value rows new_rows) content = refl
  same_auto (change.Revalued key value) content = refl
  same_auto (change.Cleared emptied removed rows) content = refl
  same_auto change.IndexAdded content = refl
  same_auto (change.IndexDropped dropped) content = refl

  auto_at : (log : List (Change T R W)) (content : Content) (place : ℕ) → (content_at (past_of log content) content place).info.auto ≡ content.info.auto
  auto_at [] content place = ap (λ (x : Content). x.info.auto) (none_at content place)
  auto_at (c ∷ log) content place =
      elim (snoc_at (past_of log (undone c content)) (undone c content) content place) [
        | inl e ↦ ap (λ (x : Content). x.info.auto) e ∙ auto_at log (undone c content) place ∙ same_auto c content
        | inr e ↦ ap (λ (x : Content). x.info.auto) e
      ]

  -- whether there is a generator is the same at each place
  pub place_auto : (parts : Parts T R W) (place : ℕ) → (content_at (past_in parts) (content_in parts) place).info.auto ≡ parts.contents.info.auto
  place_auto parts place = auto_at (log_in parts) (content_in parts) place

  fine_at : (log : List (Change T R W)) (content : Content) (place : ℕ) → CanUndo log content → IsStoreContent (content_at (past_of log content) content place)
  fine_at [] content place h = subst IsStoreContent (sym (none_at content place)) h
  fine_at (c ∷ log) content place h =
      elim (snoc_at (past_of log (undone c content)) (undone c content) content place) [
        | inl e ↦ subst IsStoreContent (sym e) (fine_at log (undone c content) place h.2)
        | inr e ↦ subst IsStoreContent (sym e) h.0
      ]

  -- and so is each content as it should be
  pub place_fine : (parts : Parts T R W) (place : ℕ) → IsSound parts → IsStoreContent (content_at (past_in parts) (content_in parts) place)
  place_fine parts place sound = fine_at (log_in parts) (content_in parts) place sound.undo
