-- Where a name stands among entries whose names rise, or would stand.
use Rattle.std.proofs.Common.{◌≡◌, ℕ, zero, suc, ◌<◌, true, false, nat_eq, List, [], ◌∷◌, ◌++◌, length, take, drop, get_or, Some, None, refl, ap}
use Rattle.std.specs.declared.cmp.Ordering.TheVariants.{Less, Equal, Greater}
use Rattle.std.specs.Ordering.{nat_cmp}
use Rattle.std.specs.Cmp.Lexicographic.{slice_cmp, pointwise}
use Rattle.std.specs.List.{AllByRecursion, insert}
use Rattle.std.proofs.lemmas.Cmp.{nat_list_cmp_total, tied_itself}
use Rattle.clone_values.specs.Names.{is_rising}
use Rattle.idb_schema.specs.declared.entries.StoreEntry.{StoreEntry}
use Rattle.idb_schema.specs.Definitions.{store_named}
use Rattle.idb_schema.specs.Schemas.{entry_names, infos_of, put_in_order, IsBefore, IsBehind, FitsAt}
use Rattle.idb_schema.proofs.All.{all_weaker, none_passes, first_passes}
use Rattle.idb_schema.proofs.NameOrder.{turned, tells, same_name, sorted_from, before_at}

module _ (es : List StoreEntry) (i : ℕ) (d : StoreEntry) (n : List ℕ) (rising : is_rising (entry_names es) ≡ true) (lt : i < length es) (tie : slice_cmp nat_cmp n (get_or es i d).info.name ≡ Equal) where
  pub named_at : store_named (infos_of es) n ≡ Some i
  named_at =
      let same : n ≡ (get_or es i d).info.name = same_name n _ tie in
      rw same (first_passes (λ e. e.info) (λ s. pointwise nat_eq s.name (get_or es i d).info.name) es i d
      (all_weaker (λ e. IsBefore (get_or es i d).info.name e) (λ e. pointwise nat_eq e.info.name (get_or es i d).info.name ≡ false) (λ e less. tells e.info.name _ Less less) (take i es)
      (before_at es i d (sorted_from es rising) lt))
      lt (tells (get_or es i d).info.name (get_or es i d).info.name Equal (tied_itself nat_list_cmp_total (get_or es i d).info.name)))

none_named : (es : List StoreEntry) (i : ℕ) (n : List ℕ) → AllByRecursion (λ e. IsBefore n e) (take i es) → AllByRecursion (λ e. IsBehind n e) (drop i es) → AllByRecursion (λ e. pointwise nat_eq e.info.name n ≡ false) es
none_named es zero n before behind = all_weaker (λ e. IsBehind n e) (λ e. pointwise nat_eq e.info.name n ≡ false) (λ e less. tells e.info.name n Greater (turned n e.info.name Less less)) es behind
none_named [] (suc i) n before behind = tt
none_named (e ∷ es) (suc i) n before behind = (tells e.info.name n Less before.0, none_named es i n before.1 behind)

pub not_named : (es : List StoreEntry) (i : ℕ) (n : List ℕ) → FitsAt es i n → store_named (infos_of es) n ≡ None
not_named es i n fits = none_passes (λ e. e.info) (λ s. pointwise nat_eq s.name n) es (none_named es i n fits.before fits.behind)

put_between : (es : List StoreEntry) (i : ℕ) (e : StoreEntry) → AllByRecursion (λ k. IsBefore e.info.name k) (take i es) → AllByRecursion (λ k. IsBehind e.info.name k) (drop i es) → put_in_order es e ≡ take i es ++ e ∷ drop i es
put_between [] zero e before behind = refl
put_between [] (suc i) e before behind = refl
put_between (k ∷ es) zero e before behind = rw behind.0 refl
put_between (k ∷ es) (suc i) e before behind = rw (turned k.info.name e.info.name Less before.0) (ap (λ r. k ∷ r) (put_between es i e before.1 behind))

pub put_there : (es : List StoreEntry) (i : ℕ) (e : StoreEntry) → FitsAt es i e.info.name → put_in_order es e ≡ insert es i e
put_there es i e fits = put_between es i e fits.before fits.behind
