-- What was taken out of a map by name, and put back.
use Rattle.std.proofs.Common.{◌≡◌, Bool, true, false, cond, Some, None, refl, sym, ap, ◌∙◌}
use Rattle.std.specs.FinMap as finite
use Rattle.std.specs.FinMap.{FinMap, get-insert, get-remove, same_map}
use Rattle.item_changes.specs.Items.{Name, name_cmp, is_same_name}
use Rattle.item_changes.proofs.Laws.{names_total, one_name, same_name, changed_twice}

same_if : {A : Type 0} (b : Bool) (x y : A) → (b ≡ true → x ≡ y) → cond b x y ≡ y
same_if true x y e = e refl
same_if false x y e = refl

module _ {X : Type 0} (m : FinMap name_cmp X) (k : Name) where
  -- another thing in its place
  pub put_over : (v : X) → finite.insert (finite.remove m k) k v ≡ finite.insert m k v
  put_over v = changed_twice names_total one_name m k (λ _. None) (λ _. Some v)

  pub put_same : (v : X) → finite.get m k ≡ Some v → finite.insert m k v ≡ m
  put_same v e = same_map names_total one_name _ _ (λ q.
      get-insert names_total m k v q
      ∙ same_if (is_same_name q k) (Some v) (finite.get m q) (λ tied. sym (ap (finite.get m) (same_name q k tied) ∙ e)))

  pub put_back : (v : X) → finite.get m k ≡ Some v → finite.insert (finite.remove m k) k v ≡ m
  put_back v e = put_over v ∙ put_same v e

  pub was_absent : finite.get m k ≡ None → finite.remove m k ≡ m
  was_absent e = same_map names_total one_name _ _ (λ q.
      get-remove names_total m k q
      ∙ same_if (is_same_name q k) None (finite.get m q) (λ tied. sym (ap (finite.get m) (same_name q k tied) ∙ e)))
