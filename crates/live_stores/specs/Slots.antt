-- What stands under each name, and what stood there before the transaction.
--     slot_now, slot_before           the store that stands there;  and that stood there before, as it was then
--     shown                 the entries of which this shows something, with what it shows
--     stores_now, stores_before       the stores by name that stand;  and that stood before
--     AreSlots              the names rise strictly, and each store has its name, now and before
--     is_vacant_slot        no store stands there, and none stood before
--     IsPlain, AreGiven     a store that a later transaction finds, or none;  each is such a store, under its own name
--     IsLiveStores                without a version there are no stores
--     IsHeldIn              the store that stands there and stood there before
--     IsRestoring, IsSettling         entries one after the other, as a transaction ends
--     live_seen             the database before and the one now
use Rattle.std.specs.Prelude.{◌≡◌, ℕ, ◌≤◌, Bool, true, false, List, [], ◌∷◌, length, take, Option, Some, None, ⊤}
use Rattle.std.specs.FinMap as finite
use Rattle.std.specs.List.{AllByRecursion}
use Rattle.sorted_table.specs.Tables.{IsSorted}
use Rattle.object_stores.specs.Store.{Store}
use Rattle.item_changes.specs.Items.{Name, name_cmp}
use Rattle.idb_databases.specs.Stores.{Stores, IsStoreNamed}
use Rattle.live_stores.specs.declared.held.Held.{Held}
use Rattle.live_stores.specs.declared.slots.Slot.{Slot}
use Rattle.live_stores.specs.declared.slots.Slot.TheVariants.{Vacant, Stood, Made, Gone, Replaced}
use Rattle.live_stores.specs.Holding.{held_store, held_before, HasNoPast}
use Rattle.live_stores.specs.Live.{LiveData, database_at}

abbrev pub slot_now : {T R W : Type 0} → Slot T R W → Option Store
slot_now Vacant = None
slot_now (Stood held) = Some (held_store held)
slot_now (Made held) = Some (held_store held)
slot_now (Gone held) = None
slot_now (Replaced gone made) = Some (held_store made)

abbrev pub slot_before : {T R W : Type 0} → Slot T R W → Option Store
slot_before Vacant = None
slot_before (Stood held) = Some (held_before held)
slot_before (Made held) = None
slot_before (Gone held) = Some (held_before held)
slot_before (Replaced gone made) = Some (held_before gone)

-- in front of the rest, if anything is shown
abbrev pub shown_first : {K X : Type 0} → K → Option X → List (K × X) → List (K × X)
shown_first k None rest = rest
shown_first k (Some x) rest = (k, x) ∷ rest

abbrev pub shown : {K V X : Type 0} → (V → Option X) → List (K × V) → List (K × X)
shown show [] = []
shown show (e ∷ es) = shown_first e.0 (show e.1) (shown show es)

abbrev pub stores_now : {T R W : Type 0} → List (Name × Slot T R W) → Stores
stores_now es = finite.from_sorted (shown slot_now es)

abbrev pub stores_before : {T R W : Type 0} → List (Name × Slot T R W) → Stores
stores_before es = finite.from_sorted (shown slot_before es)

-- it has this name, if it is there
abbrev pub IsNamedIf : Name → Option Store → Type 0
IsNamedIf name None = ⊤
IsNamedIf name (Some store) = IsStoreNamed name store

abbrev pub IsSlotNamed : {T R W : Type 0} → Name → Slot T R W → Type 0
IsSlotNamed name slot = IsNamedIf name (slot_now slot) × IsNamedIf name (slot_before slot)

abbrev pub IsPlain : {T R W : Type 0} → Slot T R W → Type 0
IsPlain Vacant = ⊤
IsPlain (Stood held) = HasNoPast held
IsPlain (Made held) = ⊥
IsPlain (Gone held) = ⊥
IsPlain (Replaced gone made) = ⊥

abbrev pub is_vacant_slot : {T R W : Type 0} → Slot T R W → Bool
is_vacant_slot Vacant = true
is_vacant_slot (Stood held) = false
is_vacant_slot (Made held) = false
is_vacant_slot (Gone held) = false
is_vacant_slot (Replaced gone made) = false

-- the store that stands there and stood there before, if it is so
abbrev pub IsHeldIn : {T R W : Type 0} → Slot T R W → Option (Held T R W) → Type 0
IsHeldIn Vacant held = held ≡ None
IsHeldIn (Stood there) held = held ≡ Some there
IsHeldIn (Made there) held = held ≡ None
IsHeldIn (Gone there) held = held ≡ None
IsHeldIn (Replaced gone made) held = held ≡ None

abbrev pub IsGiven : {T R W : Type 0} → Name → Slot T R W → Type 0
IsGiven name Vacant = ⊥
IsGiven name (Stood held) = IsStoreNamed name (held_store held) × HasNoPast held
IsGiven name (Made held) = ⊥
IsGiven name (Gone held) = ⊥
IsGiven name (Replaced gone made) = ⊥

pub record AreSlots {T R W : Type 0} (es : List (Name × Slot T R W)) : Type 0 where
  pub sorted : IsSorted name_cmp es
  pub named : AllByRecursion (λ e. IsSlotNamed e.0 e.1) es

pub record AreGiven {T R W : Type 0} (es : List (Name × Slot T R W)) : Type 0 where
  pub sorted : IsSorted name_cmp es
  pub sound : AllByRecursion (λ e. IsGiven e.0 e.1) es

pub record IsLiveStores {T R W : Type 0} (version_before version : Option ℕ) (es : List (Name × Slot T R W)) : Type 0 where
  pub slots : AreSlots es
  pub none_before : version_before ≡ None → stores_before es ≡ finite.empty
  pub none_now : version ≡ None → stores_now es ≡ finite.empty

abbrev pub live_seen : {T R W : Type 0} → Option ℕ → Option ℕ → List (Name × Slot T R W) → LiveData
live_seen version_before version es = record { before = database_at version_before (stores_before es); database = database_at version (stores_now es) }

-- ---- on the way
-- so many entries are as they were before the transaction
pub record IsRestoring {T R W : Type 0} (old new : List (Name × Slot T R W)) (place : ℕ) : Type 0 where
  pub slots : AreSlots new
  pub before : stores_before new ≡ stores_before old
  pub done : AllByRecursion (λ e. slot_now e.1 ≡ slot_before e.1) (take place new)
  pub count : length new ≡ length old

-- so many are what a later transaction finds
pub record IsSettling {T R W : Type 0} (old new : List (Name × Slot T R W)) (place : ℕ) : Type 0 where
  pub slots : AreSlots new
  pub here : stores_now new ≡ stores_now old
  pub done : AllByRecursion (λ e. IsGiven e.0 e.1) (take place new)
  pub within : place ≤ length new
