-- Stores that a transaction holds, as its own or as ones that others read too.
--     held_store, held_before         the store as it is;  and as it was when it was last settled
--     IsOwn                 it can be changed in place
--     IsCopyOf              a copy that can stand for a shared one;  none of its own
--     HasNoPast             nothing of its changes can be undone any more
use Rattle.std.specs.Prelude.{◌≡◌, [], Option, Some, None, ⊤}
use Rattle.std.specs.Arc.{arc_value}
use Rattle.object_stores.specs.Store.{Store, Kept}
use Rattle.live_stores.specs.declared.held.Held.{Held}
use Rattle.live_stores.specs.declared.held.Held.TheVariants.{Own, Shared}

abbrev pub held_store : {T R W : Type 0} → Held T R W → Store
held_store (Own kept) = kept.store
held_store (Shared kept) = (arc_value kept).store

-- nobody changes a shared one
abbrev pub held_before : {T R W : Type 0} → Held T R W → Store
held_before (Own kept) = kept.settled
held_before (Shared kept) = (arc_value kept).store

abbrev pub IsOwn : {T R W : Type 0} → Held T R W → Type 0
IsOwn (Own kept) = ⊤
IsOwn (Shared kept) = ⊥

-- of a shared one, which it can stand for
abbrev pub IsCopyOf : {T R W : Type 0} → Held T R W → Option Kept → Type 0
IsCopyOf held None = IsOwn held
IsCopyOf held (Some copy) = (copy.store ≡ held_store held) × (copy.settled ≡ held_before held)

abbrev pub HasNoPast : {T R W : Type 0} → Held T R W → Type 0
HasNoPast (Own kept) = (kept.past ≡ []) × (kept.settled ≡ kept.store)
HasNoPast (Shared kept) = ⊤
