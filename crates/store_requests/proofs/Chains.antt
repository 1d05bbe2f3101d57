-- Changes of one store, one after the other.
--     Chain                 they lead from this store to that one
--     chain_leaves          and so they leave it in the database
use Rattle.std.proofs.Common.{◌≡◌, Bool, true, false, cond, ◌&&◌, List, [], ◌∷◌, ◌++◌, refl, sym, ap, subst, ◌∙◌, Option, Some}
use Rattle.std.specs.FinMap as finite
use Rattle.std.specs.Cmp.{eq_by_cmp_equiv}
use Rattle.item_changes.specs.Store.{Store}
use Rattle.idb_calls.specs.Deltas.{DeltaTree}
use Rattle.item_changes.specs.Items.{Name, is_same_name, Database, stood_at}
use Rattle.item_changes.specs.Effects.{OnStore, effect_of, database_of, finds, made, made_all, finds_all}
use Rattle.item_changes.specs.Scopes.{Access, Writes, Whole, allows, AllWithin}
use Rattle.item_changes.proofs.Laws.{names_total, one_name, same_name, changed_here, changed_twice}
use Rattle.store_requests.specs.Runs.{Ran}
use Rattle.store_requests.specs.declared.changes.StoreNames.{StoreNames}
use Rattle.store_requests.specs.Leaving.{with_named_store, Leaves}

-- the change is one of this store, finds what it needs, and makes the other of it
pub record LeadsTo (named : StoreNames) (delta : DeltaTree) (x y : Store) : Type 0 where
  pub test : Option Store → Bool
  pub change : Option Store → Option Store
  pub in_database : database_of delta ≡ named.database
  pub effect : effect_of delta ≡ OnStore named.store test change
  pub passes : test (Some x) ≡ true
  pub makes : change (Some x) ≡ Some y

abbrev pub Chain : StoreNames → Store → List DeltaTree → Store → Type 0
Chain named x [] y = x ≡ y
Chain named x (delta ∷ deltas) y = (z : Store) × LeadsTo named delta x z × Chain named z deltas y

pub chain_both : (named : StoreNames) (x y z : Store) (ds es : List DeltaTree) → Chain named x ds y → Chain named y es z → Chain named x (ds ++ es) z
chain_both named x y z [] es p q = subst (λ w. Chain named w es z) (sym p) q
chain_both named x y z (d ∷ ds) es p q = (p.0, p.1, chain_both named p.0 y z ds es p.2 q)

-- ---- in a database
module _ (d : Database) (name : Name) where
  stood : (x y : Store) (test : Option Store → Bool) (change : Option Store → Option Store) → finite.get d.stores name ≡ Some x → change (Some x) ≡ Some y
      → made (OnStore name test change) (Some d) ≡ Some (with_named_store d name y)
  stood x y test change there makes = ap (λ o. Some (record d { stores = stood_at d.stores name o })) (ap change there ∙ makes)

  over_again : (x y : Store) → with_named_store (with_named_store d name x) name y ≡ with_named_store d name y
  over_again x y = ap (λ stores. record d { stores = stores }) (changed_twice names_total one_name d.stores name (λ o. Some x) (λ o. Some y))

  put_there : (x : Store) → finite.get (finite.insert d.stores name x) name ≡ Some x
  put_there x = changed_here names_total one_name d.stores name (λ o. Some x)

  kept_at : (x : Store) (q : Name) (b : Bool) → finite.get d.stores name ≡ Some x → is_same_name q name ≡ b → cond b (Some x) (finite.get d.stores q) ≡ finite.get d.stores q
  kept_at x q true there same = sym (ap (finite.get d.stores) (same_name q name same) ∙ there)
  kept_at x q false there same = refl

  unchanged : (x : Store) → finite.get d.stores name ≡ Some x → with_named_store d name x ≡ d
  unchanged x there = ap (λ stores. record d { stores = stores }) (finite.same_map names_total one_name _ _ (λ q. finite.get-insert names_total d.stores name x q ∙ kept_at x q (is_same_name q name) there refl))

chain_makes : (named : StoreNames) (x y : Store) (deltas : List DeltaTree) → Chain named x deltas y → (d : Database) → finite.get d.stores named.store ≡ Some x
    → made_all deltas (Some d) ≡ Some (with_named_store d named.store y)
chain_makes named x y [] is d there = ap Some (sym (unchanged d named.store x there)) ∙ ap (λ z. Some (with_named_store d named.store z)) is
chain_makes named x y (delta ∷ deltas) is d there =
    let step = is.1 in
    ap (λ e. made_all deltas (made e (Some d))) step.effect
    ∙ ap (made_all deltas) (stood d named.store x is.0 step.test step.change there step.makes)
    ∙ chain_makes named is.0 y deltas is.2 (with_named_store d named.store is.0) (put_there d named.store is.0)
    ∙ ap Some (over_again d named.store is.0 y)

both_true : (a b : Bool) → a ≡ true → b ≡ true → (a && b) ≡ true
both_true true b p q = q
both_true false b p q = cc

chain_finds : (named : StoreNames) (x y : Store) (deltas : List DeltaTree) → Chain named x deltas y → (d : Database) → finite.get d.stores named.store ≡ Some x
    → finds_all deltas (Some d) ≡ true
chain_finds named x y [] is d there = refl
chain_finds named x y (delta ∷ deltas) is d there =
    let step = is.1 in
    both_true (finds (effect_of delta) (Some d)) (finds_all deltas (made (effect_of delta) (Some d)))
    (ap (λ e. finds e (Some d)) step.effect ∙ ap step.test there ∙ step.passes)
    (ap (λ e. finds_all deltas (made e (Some d))) step.effect
    ∙ ap (finds_all deltas) (stood d named.store x is.0 step.test step.change there step.makes)
    ∙ chain_finds named is.0 y deltas is.2 (with_named_store d named.store is.0) (put_there d named.store is.0))

-- ---- in a scope
itself : (name : Name) → is_same_name name name ≡ true
itself name = (eq_by_cmp_equiv names_total).refl name

chain_within : (named : StoreNames) (access : Access) → ((test : Option Store → Bool) (change : Option Store → Option Store) → allows access (OnStore named.store test change) ≡ true)
    → (x y : Store) (deltas : List DeltaTree) → Chain named x deltas y → AllWithin (record { database = named.database; access = access }) deltas
chain_within named access allowed x y [] is = tt
chain_within named access allowed x y (delta ∷ deltas) is =
    let step = is.1 in (
      both_true (is_same_name named.database (database_of delta)) (allows access (effect_of delta))
          (ap (is_same_name named.database) step.in_database ∙ itself named.database)
          (ap (allows access) step.effect ∙ allowed step.test step.change),
      chain_within named access allowed is.0 y deltas is.2,
    )

pub chain_leaves : (named : StoreNames) (x : Store) (ran : Ran) → Chain named x ran.changes ran.store → Leaves named x ran
chain_leaves named x ran is = record {
  find = λ d there. chain_finds named x ran.store ran.changes is d there;
  make = λ d there. chain_makes named x ran.store ran.changes is d there;
  writes = λ names among. chain_within named (Writes names) (λ test change. among) x ran.store ran.changes is;
  upgrades = chain_within named Whole (λ test change. refl) x ran.store ran.changes is;
}
