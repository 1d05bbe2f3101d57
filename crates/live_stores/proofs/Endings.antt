-- Entries one after the other, as a transaction ends.
--     vacant_now, vacant_before       nothing stands in a vacant place, and nothing stood
--     freed                 such a place goes, and the stores are the same
--     restoring, all_restored         one entry more is as it was;  all are
--     settling, settling_past, all_settled      one more is what a later transaction finds, or goes;  all are
--     given_alike, given_now, given_of          of stores that are handed over
--     sound_now             each store that stands is as the standard asks
use Rattle.std.proofs.Common.{◌≡◌, ℕ, zero, suc, ◌+◌, ◌<◌, true, false, List, [], ◌∷◌, length, take, get_or, slice_set, remove, slice_get, Option, Some, None, is_some, option_map, IfSome, refl, sym, ap, ◌∙◌, subst, arith}
use Rattle.std.proofs.lemmas.List.{get_or-set_same}
use Rattle.std.proofs.lemmas.Option.{slice_get-get_or, same_Some, none-some}
use Rattle.std.specs.FinMap as finite
use Rattle.std.specs.List.{AllByRecursion}
use Rattle.std.specs.FinMap.{find}
use Rattle.std.specs.Option.{option_and_then, option_copied}
use denote.Ref.{Bor}
use Rattle.item_changes.proofs.Laws.{names_total, one_name}
use Rattle.idb_databases.specs.Stores.{IsStoreNamed, AreStores}
use Rattle.idb_databases.proofs.Laws.{all_found}
use Rattle.sorted_table.specs.Tables.{with_value}
use Rattle.sorted_table.proofs.Laws.{sorted_remove, sorted_value, set_value, length_value}
use Rattle.object_stores.specs.Store.{Store}
use Rattle.item_changes.specs.Items.{Name, name_cmp}
use Rattle.live_stores.specs.declared.held.Held.{Held}
use Rattle.live_stores.specs.declared.held.Held.TheVariants.{Own, Shared}
use Rattle.live_stores.specs.declared.slots.Slot.{Slot}
use Rattle.live_stores.specs.declared.slots.Slot.TheVariants.{Vacant, Stood, Made, Gone, Replaced}
use Rattle.live_stores.specs.Holding.{held_store, held_before, HasNoPast}
use Rattle.live_stores.specs.Slots.{slot_now, slot_before, shown, stores_now, stores_before, IsNamedIf, IsSlotNamed, IsPlain, IsHeldIn, is_vacant_slot, IsGiven, AreSlots, AreGiven, IsRestoring, IsSettling}
use Rattle.live_stores.proofs.Shown.{sorted_shown, get_shown, shown_count, value_keeps, removal_keeps, shown_alike, all_at, all_value, all_removed, taken_value, taken_removed, taken_kept}

module _ {T R W : Type 0} where
  pub vacant_now : (slot : Slot T R W) → is_vacant_slot slot ≡ true → slot_now slot ≡ None
  vacant_now Vacant e = refl
  vacant_now (Stood held) e = cc
  vacant_now (Made held) e = cc
  vacant_now (Gone held) e = cc
  vacant_now (Replaced gone made) e = cc

  pub vacant_before : (slot : Slot T R W) → is_vacant_slot slot ≡ true → slot_before slot ≡ None
  vacant_before Vacant e = refl
  vacant_before (Stood held) e = cc
  vacant_before (Made held) e = cc
  vacant_before (Gone held) e = cc
  vacant_before (Replaced gone made) e = cc

  read : (es : List (Name × Slot T R W)) (place : ℕ) (e : Name × Slot T R W) → place < length es → e ≡ get_or es place e → slice_get es place ≡ Some e
  read es place e within r = slice_get-get_or es place e within ∙ ap Some (sym r)

  pub slots_removed : (es : List (Name × Slot T R W)) (place : ℕ) → AreSlots es → AreSlots (remove es place)
  slots_removed es place slots = record {
    sorted = sorted_remove name_cmp es place slots.sorted;
    named = all_removed IsSlotNamed es place slots.named;
  }

  pub now_removed : (es : List (Name × Slot T R W)) (place : ℕ) (e : Name × Slot T R W) → place < length es → e ≡ get_or es place e → is_vacant_slot e.1 ≡ true → stores_now (remove es place) ≡ stores_now es
  now_removed es place e within r v = ap finite.from_sorted (removal_keeps slot_now es place e (read es place e within r) (vacant_now e.1 v))

  pub before_removed : (es : List (Name × Slot T R W)) (place : ℕ) (e : Name × Slot T R W) → place < length es → e ≡ get_or es place e → is_vacant_slot e.1 ≡ true → stores_before (remove es place) ≡ stores_before es
  before_removed es place e within r v = ap finite.from_sorted (removal_keeps slot_before es place e (read es place e within r) (vacant_before e.1 v))

  value_at : (es : List (Name × Slot T R W)) (i : ℕ) (e : Name × Slot T R W) (v : Slot T R W) → slice_get es i ≡ Some e → slice_get (with_value es i v) i ≡ Some (e.0, v)
  value_at [] i e v q = absurd (none-some e q)
  value_at (d ∷ es) zero e v q = ap (λ (p : Name × Slot T R W). Some (p.0, v)) (same_Some d e q)
  value_at (d ∷ es) (suc i) e v q = value_at es i e v q

  one_less : (es : List (Name × Slot T R W)) (i : ℕ) → i < length es → length (remove es i) + 1 ≡ length es
  one_less [] i w = absurd (omega (arith, w))
  one_less (d ∷ es) zero w = omega arith
  one_less (d ∷ es) (suc i) w = let rest = one_less es i (omega (arith, w)) in omega (arith, rest)

  pub vacant_at : (es : List (Name × Slot T R W)) (i : ℕ) (e d : Name × Slot T R W) → i < length es → d ≡ get_or (slice_set es i e) i d → is_vacant_slot d.1 ≡ is_vacant_slot e.1
  vacant_at es i e d w r = ap (λ (p : Name × Slot T R W). is_vacant_slot p.1) (r ∙ get_or-set_same es i e d w)

  -- ---- restoring
  pub restoring : (old es : List (Name × Slot T R W)) (place : ℕ) (e : Name × Slot T R W) (v : Slot T R W) → IsRestoring old es place → place < length es → e ≡ get_or es place e
      → slot_now v ≡ slot_before e.1 → slot_before v ≡ slot_before e.1 → IsRestoring old (slice_set es place (e.0, v)) (place + 1)
  restoring old es place e v so within r here before =
      let s = read es place e within r in
      let named = all_at IsSlotNamed es place e s so.slots.named in
      subst (λ fs. IsRestoring old fs (place + 1)) (sym (set_value es place e v within r)) (record {
        slots = record {
          sorted = sorted_value name_cmp es place v so.slots.sorted;
          named = all_value IsSlotNamed es place e v s (subst (IsNamedIf e.0) (sym here) named.1, subst (IsNamedIf e.0) (sym before) named.1) so.slots.named;
        };
        before = ap finite.from_sorted (value_keeps slot_before es place e v s before) ∙ so.before;
        done = taken_value (λ k x. slot_now x ≡ slot_before x) es place e v s (here ∙ sym before) so.done;
        count = length_value es place v ∙ so.count;
      })

  pub all_restored : (old es : List (Name × Slot T R W)) (place : ℕ) → IsRestoring old es place → take place es ≡ es → stores_now es ≡ stores_before old
  all_restored old es place so all =
      ap finite.from_sorted (shown_alike slot_now slot_before es (subst (λ fs. AllByRecursion (λ e. slot_now e.1 ≡ slot_before e.1) fs) all so.done)) ∙ so.before

  -- ---- settling
  before_is_now : (held : Held T R W) → HasNoPast held → held_before held ≡ held_store held
  before_is_now (Own kept) p = p.1
  before_is_now (Shared kept) p = refl

  plain_named : (name : Name) (slot : Slot T R W) → IsPlain slot → IsNamedIf name (slot_now slot) → IsSlotNamed name slot
  plain_named name Vacant p n = (tt, tt)
  plain_named name (Stood held) p n = (n, subst (λ store. IsNamedIf name (Some store)) (sym (before_is_now held p)) n)
  plain_named name (Made held) p n = absurd p
  plain_named name (Gone held) p n = absurd p
  plain_named name (Replaced gone made) p n = absurd p

  plain_given : (name : Name) (slot : Slot T R W) → IsPlain slot → IsNamedIf name (slot_now slot) → is_vacant_slot slot ≡ false → IsGiven name slot
  plain_given name Vacant p n v = cc
  plain_given name (Stood held) p n v = (n, p)
  plain_given name (Made held) p n v = absurd p
  plain_given name (Gone held) p n v = absurd p
  plain_given name (Replaced gone made) p n v = absurd p

  module _ (old es : List (Name × Slot T R W)) (place : ℕ) (e : Name × Slot T R W) (v : Slot T R W) (so : IsSettling old es place) (within : place < length es) (r : e ≡ get_or es place e) (here : slot_now v ≡ slot_now e.1) (plain : IsPlain v) where
    s : slice_get es place ≡ Some e
    s = read es place e within r

    named : IsNamedIf e.0 (slot_now v)
    named = subst (IsNamedIf e.0) (sym here) (all_at IsSlotNamed es place e s so.slots.named).0

    kept_slots : AreSlots (with_value es place v)
    kept_slots = record {
      sorted = sorted_value name_cmp es place v so.slots.sorted;
      named = all_value IsSlotNamed es place e v s (plain_named e.0 v plain named) so.slots.named;
    }

    kept_now : stores_now (with_value es place v) ≡ stores_now old
    kept_now = ap finite.from_sorted (value_keeps slot_now es place e v s here) ∙ so.here

    -- it is left
    pub settling_past : is_vacant_slot v ≡ false → IsSettling old (slice_set es place (e.0, v)) (place + 1)
    settling_past some = subst (λ fs. IsSettling old fs (place + 1)) (sym (set_value es place e v within r)) (record {
      slots = kept_slots;
      here = kept_now;
      done = taken_value IsGiven es place e v s (plain_given e.0 v plain named some) so.done;
      within = omega (arith, within, length_value es place v);
    })

    -- it goes
    pub settling : is_vacant_slot v ≡ true → IsSettling old (remove (slice_set es place (e.0, v)) place) place
    settling none = subst (λ fs. IsSettling old (remove fs place) place) (sym (set_value es place e v within r)) (record {
      slots = slots_removed (with_value es place v) place kept_slots;
      here = ap finite.from_sorted (removal_keeps slot_now (with_value es place v) place (e.0, v) (value_at es place e v s) (vacant_now v none)) ∙ kept_now;
      done = taken_removed IsGiven (with_value es place v) place (taken_kept IsGiven es place v so.done);
      within = omega (arith, within, one_less (with_value es place v) place (omega (arith, within, length_value es place v)), length_value es place v);
    })

  pub all_settled : (old es : List (Name × Slot T R W)) (place : ℕ) → IsSettling old es place → take place es ≡ es → AreGiven es
  all_settled old es place so all = record {
    sorted = so.slots.sorted;
    sound = subst (λ fs. AllByRecursion (λ e. IsGiven e.0 e.1) fs) all so.done;
  }

  -- ---- handed over
  given_before : (name : Name) (slot : Slot T R W) → IsGiven name slot → slot_before slot ≡ slot_now slot
  given_before name Vacant g = absurd g
  given_before name (Stood held) g = ap Some (before_is_now held g.1)
  given_before name (Made held) g = absurd g
  given_before name (Gone held) g = absurd g
  given_before name (Replaced gone made) g = absurd g

  given_named : (name : Name) (slot : Slot T R W) → IsGiven name slot → IsSlotNamed name slot
  given_named name Vacant g = absurd g
  given_named name (Stood held) g = plain_named name (Stood held) g.1 g.0
  given_named name (Made held) g = absurd g
  given_named name (Gone held) g = absurd g
  given_named name (Replaced gone made) g = absurd g

  each_before : (es : List (Name × Slot T R W)) → AllByRecursion (λ e. IsGiven e.0 e.1) es → AllByRecursion (λ e. slot_before e.1 ≡ slot_now e.1) es
  each_before [] all = tt
  each_before (e ∷ es) all = (given_before e.0 e.1 all.0, each_before es all.1)

  each_named : (es : List (Name × Slot T R W)) → AllByRecursion (λ e. IsGiven e.0 e.1) es → AllByRecursion (λ e. IsSlotNamed e.0 e.1) es
  each_named [] all = tt
  each_named (e ∷ es) all = (given_named e.0 e.1 all.0, each_named es all.1)

  pub given_alike : (es : List (Name × Slot T R W)) → AreGiven es → stores_before es ≡ stores_now es
  given_alike es given = ap finite.from_sorted (shown_alike slot_before slot_now es (each_before es given.sound))

  pub given_slots : (es : List (Name × Slot T R W)) → AreGiven es → AreSlots es
  given_slots es given = record { sorted = given.sorted; named = each_named es given.sound }

  pub held_there : (name : Name) (slot : Slot T R W) (held : Option (Held T R W)) → IsGiven name slot → IsHeldIn slot held → (option_map held_store held ≡ slot_now slot) × IfSome held HasNoPast
  held_there name Vacant held g e = absurd g
  held_there name (Stood there) held g e = (ap (option_map held_store) e, subst (λ (h : Option (Held T R W)). IfSome h HasNoPast) (sym e) g.1)
  held_there name (Made there) held g e = absurd g
  held_there name (Gone there) held g e = absurd g
  held_there name (Replaced gone made) held g e = absurd g

  pub copied_past : (held : Option (Bor (Held T R W))) → IfSome (option_copied held) HasNoPast → IfSome held (λ h. HasNoPast h.now)
  copied_past None p = tt
  copied_past (Some h) p = p

  given_shows : (name : Name) (slot : Slot T R W) → IsGiven name slot → is_some (slot_now slot) ≡ true
  given_shows name Vacant g = absurd g
  given_shows name (Stood held) g = refl
  given_shows name (Made held) g = absurd g
  given_shows name (Gone held) g = absurd g
  given_shows name (Replaced gone made) g = absurd g

  each_shows : (es : List (Name × Slot T R W)) → AllByRecursion (λ e. IsGiven e.0 e.1) es → AllByRecursion (λ e. is_some (slot_now e.1) ≡ true) es
  each_shows [] all = tt
  each_shows (e ∷ es) all = (given_shows e.0 e.1 all.0, each_shows es all.1)

  pub count_given : (es : List (Name × Slot T R W)) → AreGiven es → finite.len (stores_now es) ≡ length es
  count_given es given =
      finite.len-entries (stores_now es) ∙ ap length (finite.entries-from_sorted name_cmp (shown slot_now es) (sorted_shown names_total slot_now es given.sorted)) ∙ shown_count slot_now es (each_shows es given.sound)

  sound_given : (name : Name) (slot : Slot T R W) (store : Store) → IsGiven name slot → slot_now slot ≡ Some store → IsStoreNamed name store
  sound_given name Vacant store g e = absurd g
  sound_given name (Stood held) store g e = subst (IsStoreNamed name) (same_Some (held_store held) store e) g.0
  sound_given name (Made held) store g e = absurd g
  sound_given name (Gone held) store g e = absurd g
  sound_given name (Replaced gone made) store g e = absurd g

  sound_at : (name : Name) (there : Option (Slot T R W)) (store : Store) → ((slot : Slot T R W) → there ≡ Some slot → IsGiven name slot) → option_and_then slot_now there ≡ Some store → IsStoreNamed name store
  sound_at name None store each e = cc
  sound_at name (Some slot) store each e = sound_given name slot store (each slot refl) e

  pub sound_stores : (es : List (Name × Slot T R W)) → AreGiven es → AreStores (stores_now es)
  sound_stores es given name store e =
      sound_at name (find name_cmp name es) store (λ slot f. all_found name_cmp one_name IsGiven name es slot given.sound f) (sym (get_shown names_total slot_now es name given.sorted) ∙ e)

  -- ---- while it runs
  named_now : (name : Name) (there : Option (Slot T R W)) (store : Store) → ((slot : Slot T R W) → there ≡ Some slot → IsSlotNamed name slot) → option_and_then slot_now there ≡ Some store → IsStoreNamed name store
  named_now name None store each e = cc
  named_now name (Some slot) store each e = subst (IsNamedIf name) e (each slot refl).0

  pub sound_now : (es : List (Name × Slot T R W)) → AreSlots es → AreStores (stores_now es)
  sound_now es slots name store e =
      named_now name (find name_cmp name es) store (λ slot f. all_found name_cmp one_name IsSlotNamed name es slot slots.named f) (sym (get_shown names_total slot_now es name slots.sorted) ∙ e)

  pub none_stand : (es : List (Name × Slot T R W)) → es ≡ [] → stores_now es ≡ finite.empty
  none_stand es e = ap stores_now e ∙ finite.same_map names_total one_name (finite.from_sorted {R = name_cmp} []) finite.empty (λ q. finite.get-from_sorted name_cmp [] q tt ∙ sym (finite.get-empty name_cmp q))

  pub none_given : (es : List (Name × Slot T R W)) → es ≡ [] → AreGiven es
  none_given es e = subst AreGiven (sym e) (record { sorted = tt; sound = tt })
