-- From what stands under a name to the stores under their names.
use Rattle.std.proofs.Common.{◌≡◌, ℕ, List, get_or, insert, slice_set, Bool, true, false, cond, Result, Ok, Err, OnErr, Option, Some, None, refl, sym, ap, ◌∙◌, subst}
use Rattle.std.specs.Option.{option_and_then}
use Rattle.std.specs.FinMap as finite
use Rattle.std.specs.FinMap.{find, put}
use Rattle.std.specs.FinMap.Entries.{is_sorted-put}
use Rattle.clone_values.specs.Tree.{Tree, undefined}
use Rattle.sorted_table.specs.Tables.{IsSorted, HasKeyAt, BelongsAt}
use Rattle.sorted_table.proofs.Laws.{place_within, set_value, value_put, put_at, absent}
use Rattle.idb_databases.proofs.Laws.{read_found, all_put, all_found}
use Rattle.idb_calls.specs.Deltas.{DeltaTree}
use Rattle.object_stores.specs.Store.{Store}
use Rattle.item_changes.specs.Items.{Name, name_cmp}
use Rattle.idb_databases.specs.Stores.{Stores}
use Rattle.std.specs.Ordering.{eq_by_cmp}
use Rattle.item_changes.proofs.Laws.{names_total, one_name}
use Rattle.store_requests.specs.Runs.{Ran}
use Rattle.live_stores.specs.declared.slots.Slot.{Slot}
use Rattle.live_stores.specs.Slots.{slot_now, slot_before, stores_now, stores_before, IsSlotNamed, IsGiven, AreSlots, AreGiven}
use Rattle.live_stores.specs.Changing.{HasRunOn, HasChangedOn, HasChanged}
use Rattle.live_stores.proofs.Shown.{tied, get_shown, put_shows, put_hides, put_keeps}

module _ {T R W : Type 0} (es : List (Name × Slot T R W)) (name : Name) (old new : Slot T R W) (sorted : IsSorted name_cmp es) (found : find name_cmp name es ≡ Some old) where
  pub get_now : finite.get (stores_now es) name ≡ slot_now old
  get_now = get_shown names_total slot_now es name sorted ∙ ap (option_and_then slot_now) found

  pub keeps_now : slot_now new ≡ slot_now old → stores_now (put name_cmp name new es) ≡ stores_now es
  keeps_now e = put_keeps names_total slot_now one_name es name new sorted (e ∙ sym (ap (option_and_then slot_now) found))

  pub keeps_before : slot_before new ≡ slot_before old → stores_before (put name_cmp name new es) ≡ stores_before es
  keeps_before e = put_keeps names_total slot_before one_name es name new sorted (e ∙ sym (ap (option_and_then slot_before) found))

  pub has_changed : (run : Store → Ran) (answer : Option Tree) (noted later : List DeltaTree) → HasRunOn (slot_now old) run answer (slot_now new) noted later
      → HasChanged run name (stores_now es) answer (stores_now (put name_cmp name new es)) noted later
  has_changed run answer noted later h =
      subst (λ (there : Option Store). HasChangedOn there run name (stores_now es) answer (stores_now (put name_cmp name new es)) noted later) (sym get_now) (go (slot_now old) refl h) where
        go : (there : Option Store) → slot_now old ≡ there → HasRunOn there run answer (slot_now new) noted later
            → HasChangedOn there run name (stores_now es) answer (stores_now (put name_cmp name new es)) noted later
        go None e h = (h.0, keeps_now (h.1 ∙ sym e), h.2)
        go (Some x) e h = (h.0, put_shows names_total slot_now one_name es name new (run x).store sorted h.1, h.2)

-- where nothing stands under the name nothing is done
pub none_changed : {T R W : Type 0} (es : List (Name × Slot T R W)) (name : Name) → IsSorted name_cmp es → find name_cmp name es ≡ None
    → (run : Store → Ran) (noted : List DeltaTree) → HasChanged run name (stores_now es) (Some undefined) (stores_now es) noted noted
none_changed es name sorted none run noted =
    subst (λ (there : Option Store). HasChangedOn there run name (stores_now es) (Some undefined) (stores_now es) noted noted)
    (sym (get_shown names_total slot_now es name sorted ∙ ap (option_and_then slot_now) none)) (refl, refl, refl)

-- ---- the entry that was read at a place
module _ {V : Type 0} (es : List (Name × V)) (name : Name) (place : ℕ) (e : Name × V) (stands : HasKeyAt name_cmp es place name) (read : e ≡ get_or es place e) where
  pub found_here : find name_cmp name es ≡ Some e.1
  found_here = sym (read_found name_cmp names_total es place name e stands) ∙ ap (λ (d : Name × V). Some d.1) (sym read)

  pub put_here : (v : V) → slice_set es place (e.0, v) ≡ put name_cmp name v es
  put_here v = set_value es place e v (place_within es place name stands) read ∙ value_put names_total es place name v stands

-- ---- all facts of a changed entry
module _ {T R W : Type 0} (es : List (Name × Slot T R W)) (name : Name) (place : ℕ) (e : Name × Slot T R W) (slots : AreSlots es) (stands : HasKeyAt name_cmp es place name) (read : e ≡ get_or es place e) where
  pub now_here : finite.get (stores_now es) name ≡ slot_now e.1
  now_here = get_now es name e.1 e.1 slots.sorted (found_here es name place e stands read)

  pub named_here : IsSlotNamed name e.1
  named_here = all_found name_cmp one_name IsSlotNamed name es e.1 slots.named (found_here es name place e stands read)

  module _ (v : Slot T R W) where
    pub set_keeps_now : slot_now v ≡ slot_now e.1 → stores_now (slice_set es place (e.0, v)) ≡ stores_now es
    set_keeps_now h = ap stores_now (put_here es name place e stands read v) ∙ keeps_now es name e.1 v slots.sorted (found_here es name place e stands read) h

    pub set_keeps_before : slot_before v ≡ slot_before e.1 → stores_before (slice_set es place (e.0, v)) ≡ stores_before es
    set_keeps_before h = ap stores_before (put_here es name place e stands read v) ∙ keeps_before es name e.1 v slots.sorted (found_here es name place e stands read) h

    pub set_shows : (x : Store) → slot_now v ≡ Some x → stores_now (slice_set es place (e.0, v)) ≡ finite.insert (stores_now es) name x
    set_shows x h = ap stores_now (put_here es name place e stands read v) ∙ put_shows names_total slot_now one_name es name v x slots.sorted h

    pub set_hides : slot_now v ≡ None → stores_now (slice_set es place (e.0, v)) ≡ finite.remove (stores_now es) name
    set_hides h = ap stores_now (put_here es name place e stands read v) ∙ put_hides names_total slot_now one_name es name v slots.sorted h

    pub set_slots : IsSlotNamed name v → AreSlots (slice_set es place (e.0, v))
    set_slots named = subst AreSlots (sym (put_here es name place e stands read v)) (record {
      sorted = is_sorted-put name_cmp names_total name v es slots.sorted;
      named = all_put name_cmp one_name IsSlotNamed name v es slots.named named;
    })

    pub set_given : AreGiven es → IsGiven name v → AreGiven (slice_set es place (e.0, v))
    set_given given it = subst AreGiven (sym (put_here es name place e stands read v)) (record {
      sorted = is_sorted-put name_cmp names_total name v es given.sorted;
      sound = all_put name_cmp one_name IsGiven name v es given.sound it;
    })

    pub set_changed : (run : Store → Ran) (answer : Option Tree) (noted later : List DeltaTree) → HasRunOn (slot_now e.1) run answer (slot_now v) noted later
        → HasChanged run name (stores_now es) answer (stores_now (slice_set es place (e.0, v))) noted later
    set_changed run answer noted later h =
        subst (λ fs. HasChanged run name (stores_now es) answer (stores_now fs) noted later) (sym (put_here es name place e stands read v))
        (has_changed es name e.1 v slots.sorted (found_here es name place e stands read) run answer noted later h)

    pub set_none : (slot_now e.1 ≡ None → slot_now v ≡ None) → stores_now es ≡ finite.empty → stores_now (slice_set es place (e.0, v)) ≡ finite.empty
    set_none none empty =
        let was : slot_now e.1 ≡ None = sym now_here ∙ ap (λ m. finite.get m name) empty ∙ finite.get-empty name_cmp name in
        set_keeps_now (none was ∙ sym was) ∙ empty

-- ---- an entry that comes in at the place where its name belongs
module _ {T R W : Type 0} (es : List (Name × Slot T R W)) (name : Name) (place : ℕ) (sorted : IsSorted name_cmp es) (belongs : BelongsAt name_cmp es place name) (v : Slot T R W) where
  put_in : put name_cmp name v es ≡ insert es place (name, v)
  put_in = put_at names_total es place name v belongs

  pub insert_shows : (x : Store) → slot_now v ≡ Some x → stores_now (insert es place (name, v)) ≡ finite.insert (stores_now es) name x
  insert_shows x h = ap stores_now (sym put_in) ∙ put_shows names_total slot_now one_name es name v x sorted h

  pub insert_before : slot_before v ≡ None → stores_before (insert es place (name, v)) ≡ stores_before es
  insert_before h = ap stores_before (sym put_in) ∙ put_keeps names_total slot_before one_name es name v sorted (h ∙ sym (ap (option_and_then slot_before) (absent names_total es place name belongs)))

  pub insert_slots : AreSlots es → IsSlotNamed name v → AreSlots (insert es place (name, v))
  insert_slots slots named = subst AreSlots put_in (record {
    sorted = is_sorted-put name_cmp names_total name v es slots.sorted;
    named = all_put name_cmp one_name IsSlotNamed name v es slots.named named;
  })

  pub insert_given : AreGiven es → IsGiven name v → AreGiven (insert es place (name, v))
  insert_given given it = subst AreGiven put_in (record {
    sorted = is_sorted-put name_cmp names_total name v es given.sorted;
    sound = all_put name_cmp one_name IsGiven name v es given.sound it;
  })

pub none_here : {T R W : Type 0} (es : List (Name × Slot T R W)) (name : Name) (place : ℕ) → IsSorted name_cmp es → BelongsAt name_cmp es place name → finite.get (stores_now es) name ≡ None
none_here es name place sorted belongs = get_shown names_total slot_now es name sorted ∙ ap (option_and_then slot_now) (absent names_total es place name belongs)

pub remove_none : (stores : Stores) (name : Name) → finite.get stores name ≡ None → stores ≡ finite.remove stores name
remove_none stores name none = finite.same_map names_total one_name stores (finite.remove stores name) (λ q.
    go (eq_by_cmp name_cmp q name) q refl ∙ sym (finite.get-remove names_total stores name q)) where
      go : (b : Bool) (q : Name) → eq_by_cmp name_cmp q name ≡ b → finite.get stores q ≡ cond b None (finite.get stores q)
      go true q t = ap (finite.get stores) (one_name q name (tied (name_cmp q name) t)) ∙ none
      go false q t = refl

-- ---- a fact of an error
pub err_weaker : {X E P Q : Type 0} (r : Result X E) → (P → Q) → OnErr r P → OnErr r Q
err_weaker (Ok x) f h = tt
err_weaker (Err e) f h = f h
