-- A course with nothing done, and a store that was found.
--     unchanged             no change more
--     found_here            the store that was found stands there
use Rattle.std.proofs.Common.{◌≡◌, [], ◌++◌, Option, Some, None, option_map, Bor, refl, sym, ap}
use Rattle.std.proofs.lemmas.List.{append-nil}
use Rattle.object_stores.specs.Store.{Kept}
use Rattle.idb_databases.specs.Stores.{store_alone}
use Rattle.list_machine.specs.Requests.{StoreHere}
use Rattle.tx_courses.specs.Courses.{CourseData}

pub unchanged : (old : CourseData) → old ≡ record old { changes = old.changes ++ [] }
unchanged old = ap (λ cs. record old { changes = cs }) (sym (append-nil old.changes))

pub found_here : (k : Bor Kept) (o : Option StoreHere) → Some (store_alone k.now) ≡ option_map (λ here. here.store) o → (here : StoreHere) × ((o ≡ Some here) × (here.store ≡ k.now.store))
found_here k None e = cc
found_here k (Some here) e = (here, (refl, same e))
  where
    same : Some (store_alone k.now) ≡ Some here.store → here.store ≡ k.now.store
    same e = cc
