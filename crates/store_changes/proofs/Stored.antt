-- A record that was stored with its key given, and the generator's number set back.
use Rattle.std.proofs.Common.{◌≡◌, false, Some, sym, ap, ◌∙◌}
use Rattle.std.proofs.lemmas.Option.{same_Some}
use Rattle.clone_values.specs.Tree.{Tree}
use Rattle.clone_values.specs.KeyTree.{KeyTree}
use Rattle.object_stores.specs.Store.{Store}
use Rattle.object_stores.specs.Changed.{store_with_record, with_current}
use Rattle.object_stores.specs.Storing.{Entry, with_key, noted, stored_as, stored}
use Rattle.object_stores.proofs.Laws.{stored_changes}

-- the store with an entry is that with its record, and the entry's number
entry_made : (old mid : Store) (key k : KeyTree) (value : Tree) → stored_as old value (Some key) false ≡ stored k mid
    → mid ≡ store_with_record (with_current old (noted old.info.auto old.current key)) key value
entry_made old mid key k value e =
    let made = stored_changes old mid value (Some key) false k e in
    let x : with_key old.info.auto old.current value key ≡ made.0 = same_Some (with_key old.info.auto old.current value key) made.0 made.1 in
    made.3 ∙ ap (λ (y : Entry). store_with_record (with_current old y.current) y.key y.value) (sym x)

pub set_back : (old mid : Store) (key k : KeyTree) (value : Tree) → stored_as old value (Some key) false ≡ stored k mid → with_current mid old.current ≡ store_with_record old key value
set_back old mid key k value e = ap (λ s. with_current s old.current) (entry_made old mid key k value e)

pub kept_number : (old mid : Store) (key k : KeyTree) (value : Tree) → stored_as old value (Some key) false ≡ stored k mid → mid.info.auto ≡ false → mid ≡ store_with_record old key value
kept_number old mid key k value e without =
    let made = entry_made old mid key k value e in
    let auto : old.info.auto ≡ false = sym (ap (λ (s : Store). s.info.auto) made) ∙ without in
    made ∙ ap (λ b. store_with_record (with_current old (noted b old.current key)) key value) auto
