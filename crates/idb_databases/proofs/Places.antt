-- What stands at the place of a name, and where no place has it.
use Rattle.std.proofs.Common.{◌≡◌, ℕ, cond, not, true, false, List, [], ◌∷◌, get_or, Some, None, refl, sym, ap, ◌∙◌}
use Rattle.std.proofs.lemmas.Option.{slice_get-get_or, same_Some, none-some}
use Rattle.std.specs.declared.cmp.Ordering.{Ordering}
use Rattle.std.specs.Ordering.{eq_by_cmp}
use Rattle.std.specs.Cmp.{IsTotalOrder}
use Rattle.std.specs.FinMap.{find}
use Rattle.sorted_table.specs.Tables.{HasKeyAt, BelongsAt, without}
use Rattle.sorted_table.proofs.Laws.{place_within, found, absent}

module _ {K V : Type 0} (R : K → K → Ordering) (o : IsTotalOrder R) where
  pub read_found : (es : List (K × V)) (i : ℕ) (k : K) (d : K × V) → HasKeyAt R es i k → Some ((get_or es i d).1) ≡ find R k es
  read_found es i k d h =
      ap (λ (e : K × V). Some e.1) (same_Some (get_or es i d) (k, h.value) (sym (slice_get-get_or es i d (place_within es i k h)) ∙ h.stands))
      ∙ sym (found o es i k h)

  pub none_found : (es : List (K × V)) (i : ℕ) (k : K) → BelongsAt R es i k → None ≡ find R k es
  none_found es i k h = sym (absent o es i k h)

  same_without : (k : K) (es : List (K × V)) → find R k es ≡ None → es ≡ without R k es
  same_without k [] e = refl
  same_without k (d ∷ es) e =
      elim (eq_by_cmp R k d.0) as (λ b. cond b (Some d.1) (find R k es) ≡ None → d ∷ es ≡ cond (not b) (d ∷ without R k es) (without R k es)) [
        | true ↦ λ f. absurd (none-some d.1 (sym f))
        | false ↦ λ f. ap (λ ds. d ∷ ds) (same_without k es f)
      ] e

  pub none_without : (es : List (K × V)) (i : ℕ) (k : K) → BelongsAt R es i k → es ≡ without R k es
  none_without es i k h = same_without k es (absent o es i k h)
