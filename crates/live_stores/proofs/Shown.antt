-- The maps of what entries show.
use Rattle.std.proofs.Common.{◌≡◌, ℕ, zero, suc, ◌+◌, Bool, true, false, cond, not, T, List, [], ◌∷◌, length, take, remove, slice_get, is_some, Option, Some, None, refl, sym, ap, ◌∙◌, subst, add-one}
use Rattle.std.proofs.lemmas.Option.{same_Some, none-some}
use Rattle.std.specs.Option.{option_and_then}
use Rattle.std.specs.List.{AllByRecursion}
use Rattle.std.specs.declared.cmp.Ordering.{Ordering}
use Rattle.std.specs.declared.cmp.Ordering.TheVariants.{Equal}
use Rattle.std.specs.Ordering.{is_lt, is_eq, eq_by_cmp}
use Rattle.std.specs.Cmp.{IsTotalOrder, eq_by_cmp_equiv}
use Rattle.std.specs.FinMap as finite
use Rattle.std.specs.FinMap.{IsAntisymmetric, find, put}
use Rattle.std.specs.FinMap.Entries.{below_all, find-put, find-where_key, is_sorted-put, is_sorted-where_key}
use Rattle.sorted_table.specs.Tables.{IsSorted, without, with_value}
use Rattle.sorted_table.proofs.Laws.{both, first, second, is_less}
use Rattle.live_stores.specs.Slots.{shown_first, shown}

pub tied : (r : Ordering) → is_eq r ≡ true → r ≡ Equal
tied Equal e = refl
tied _ e = cc

module _ {K V X : Type 0} {R : K → K → Ordering} (o : IsTotalOrder R) (show : V → Option X) where
  below_first : (q k : K) (x : Option X) (es : List (K × X)) → T (is_lt (R q k)) → T (below_all R q es) → T (below_all R q (shown_first k x es))
  below_first q k None es l h = h
  below_first q k (Some x) es l h = both _ _ l h

  below_shown : (q : K) (es : List (K × V)) → T (below_all R q es) → T (below_all R q (shown show es))
  below_shown q [] h = tt
  below_shown q (e ∷ es) h = below_first q e.0 (show e.1) (shown show es) (first _ _ h) (below_shown q es (second _ _ h))

  sorted_first : (k : K) (x : Option X) (es : List (K × X)) → T (below_all R k es) → IsSorted R es → IsSorted R (shown_first k x es)
  sorted_first k None es b h = h
  sorted_first k (Some x) es b h = both _ _ b h

  pub sorted_shown : (es : List (K × V)) → IsSorted R es → IsSorted R (shown show es)
  sorted_shown [] h = tt
  sorted_shown (e ∷ es) h = sorted_first e.0 (show e.1) (shown show es) (below_shown e.0 es (first _ _ h)) (sorted_shown es (second _ _ h))

  missed : (q k : K) (es : List (K × X)) → R q k ≡ Equal → T (below_all R k es) → find R q es ≡ None
  missed q k [] t b = refl
  missed q k (e ∷ es) t b = ap (λ r. cond (is_eq r) (Some e.1) (find R q es)) (o.congr q k e.0 t ∙ is_less _ (first _ _ b)) ∙ missed q k es t (second _ _ b)

  find_first : (q k : K) (v : V) (es : List (K × X)) (rest : Option V) → T (below_all R k es) → find R q es ≡ option_and_then show rest
      → find R q (shown_first k (show v) es) ≡ option_and_then show (cond (eq_by_cmp R q k) (Some v) rest)
  find_first q k v es rest below e =
      elim (show v) as (λ (x : Option X). show v ≡ x → find R q (shown_first k x es) ≡ option_and_then show (cond (eq_by_cmp R q k) (Some v) rest)) [
        | None ↦ λ n. elim (eq_by_cmp R q k) as (λ b. eq_by_cmp R q k ≡ b → find R q es ≡ option_and_then show (cond b (Some v) rest)) [
          | true ↦ λ t. missed q k es (tied (R q k) t) below ∙ sym n
          | false ↦ λ t. e
        ] refl
        | Some x ↦ λ s. elim (eq_by_cmp R q k) as (λ b. cond b (Some x) (find R q es) ≡ option_and_then show (cond b (Some v) rest)) [ true ↦ sym s | false ↦ e ]
      ] refl

  pub find_shown : (q : K) (es : List (K × V)) → IsSorted R es → find R q (shown show es) ≡ option_and_then show (find R q es)
  find_shown q [] h = refl
  find_shown q (e ∷ es) h = find_first q e.0 e.1 (shown show es) (find R q es) (below_shown e.0 es (first _ _ h)) (find_shown q es (second _ _ h))

  pub get_shown : (es : List (K × V)) (q : K) → IsSorted R es → finite.get (finite.from_sorted {R = R} (shown show es)) q ≡ option_and_then show (find R q es)
  get_shown es q h = finite.get-from_sorted R (shown show es) q (sorted_shown es h) ∙ find_shown q es h

  chosen : (b : Bool) (v : V) (rest : Option V) → option_and_then show (cond b (Some v) rest) ≡ cond b (show v) (option_and_then show rest)
  chosen true v rest = refl
  chosen false v rest = refl

  get_put : (es : List (K × V)) (k : K) (v : V) (q : K) → IsSorted R es
      → finite.get (finite.from_sorted {R = R} (shown show (put R k v es))) q ≡ cond (eq_by_cmp R q k) (show v) (finite.get (finite.from_sorted {R = R} (shown show es)) q)
  get_put es k v q h =
      get_shown (put R k v es) q (is_sorted-put R o k v es h)
      ∙ ap (option_and_then show) (find-put R o q k v es)
      ∙ chosen (eq_by_cmp R q k) v (find R q es)
      ∙ ap (cond (eq_by_cmp R q k) (show v)) (sym (get_shown es q h))

  module _ (same : IsAntisymmetric R) where
    pub put_shows : (es : List (K × V)) (k : K) (v : V) (x : X) → IsSorted R es → show v ≡ Some x
        → finite.from_sorted {R = R} (shown show (put R k v es)) ≡ finite.insert (finite.from_sorted (shown show es)) k x
    put_shows es k v x h s = finite.same_map o same _ _ (λ q.
        get_put es k v q h
        ∙ ap (λ (y : Option X). cond (eq_by_cmp R q k) y (finite.get (finite.from_sorted {R = R} (shown show es)) q)) s
        ∙ sym (finite.get-insert o (finite.from_sorted {R = R} (shown show es)) k x q))

    pub put_hides : (es : List (K × V)) (k : K) (v : V) → IsSorted R es → show v ≡ None
        → finite.from_sorted {R = R} (shown show (put R k v es)) ≡ finite.remove (finite.from_sorted (shown show es)) k
    put_hides es k v h n = finite.same_map o same _ _ (λ q.
        get_put es k v q h
        ∙ ap (λ (y : Option X). cond (eq_by_cmp R q k) y (finite.get (finite.from_sorted {R = R} (shown show es)) q)) n
        ∙ sym (finite.get-remove o (finite.from_sorted {R = R} (shown show es)) k q))

    -- what is shown of the entry is what was shown
    pub put_keeps : (es : List (K × V)) (k : K) (v : V) → IsSorted R es → show v ≡ option_and_then show (find R k es)
        → finite.from_sorted {R = R} (shown show (put R k v es)) ≡ finite.from_sorted (shown show es)
    put_keeps es k v h s = finite.same_map o same _ _ (λ q.
        get_put es k v q h
        ∙ elim (eq_by_cmp R q k) as (λ b. eq_by_cmp R q k ≡ b → cond b (show v) (finite.get (finite.from_sorted {R = R} (shown show es)) q) ≡ finite.get (finite.from_sorted {R = R} (shown show es)) q) [
          | true ↦ λ t. s ∙ ap (λ p. option_and_then show (find R p es)) (sym (same q k (tied (R q k) t))) ∙ sym (get_shown es q h)
          | false ↦ λ t. refl
        ] refl)

    pub without_hides : (es : List (K × V)) (k : K) → IsSorted R es
        → finite.from_sorted {R = R} (shown show (without R k es)) ≡ finite.remove (finite.from_sorted (shown show es)) k
    without_hides es k h = finite.same_map o same _ _ (λ q.
        get_shown (without R k es) q (is_sorted-where_key R (λ x. not (eq_by_cmp R k x)) es h)
        ∙ ap (option_and_then show) (find-where_key R (λ x. not (eq_by_cmp R k x)) q (λ x t. ap (λ y. not (eq_by_cmp R k y)) (sym (same q x t))) es
        ∙ ap (λ b. cond (not b) (find R q es) None) ((eq_by_cmp_equiv o).symm k q))
        ∙ elim (eq_by_cmp R q k) as (λ b. option_and_then show (cond (not b) (find R q es) None) ≡ cond b None (finite.get (finite.from_sorted {R = R} (shown show es)) q)) [
          | true ↦ refl
          | false ↦ sym (get_shown es q h)
        ]
        ∙ sym (finite.get-remove o (finite.from_sorted {R = R} (shown show es)) k q))

-- ---- the entry at a place
module _ {K V X : Type 0} (show : V → Option X) where
  pub value_keeps : (es : List (K × V)) (i : ℕ) (e : K × V) (v : V) → slice_get es i ≡ Some e → show v ≡ show e.1 → shown show (with_value es i v) ≡ shown show es
  value_keeps [] i e v s k = refl
  value_keeps (d ∷ es) zero e v s k = ap (λ x. shown_first d.0 x (shown show es)) (k ∙ ap (λ (p : K × V). show p.1) (sym (same_Some d e s)))
  value_keeps (d ∷ es) (suc i) e v s k = ap (shown_first d.0 (show d.1)) (value_keeps es i e v s k)

  pub removal_keeps : (es : List (K × V)) (i : ℕ) (e : K × V) → slice_get es i ≡ Some e → show e.1 ≡ None → shown show (remove es i) ≡ shown show es
  removal_keeps [] i e s n = absurd (none-some e s)
  removal_keeps (d ∷ es) zero e s n = ap (λ x. shown_first d.0 x (shown show es)) (sym n ∙ ap (λ (p : K × V). show p.1) (sym (same_Some d e s)))
  removal_keeps (d ∷ es) (suc i) e s n = ap (shown_first d.0 (show d.1)) (removal_keeps es i e s n)

  pub shown_alike : (look : V → Option X) (es : List (K × V)) → AllByRecursion (λ e. show e.1 ≡ look e.1) es → shown show es ≡ shown look es
  shown_alike look [] all = refl
  shown_alike look (e ∷ es) all = λ i. shown_first e.0 (all.0 i) (shown_alike look es all.1 i)

  pub shown_count : (es : List (K × V)) → AllByRecursion (λ e. is_some (show e.1) ≡ true) es → length (shown show es) ≡ length es
  shown_count [] all = refl
  shown_count (e ∷ es) all =
      elim (show e.1) as (λ (x : Option X). is_some x ≡ true → length (shown_first e.0 x (shown show es)) ≡ suc (length es)) [
        | None ↦ λ t. cc
        | Some x ↦ λ t. ap suc (shown_count es all.1)
      ] all.0

module _ {K V : Type 0} (P : K → V → Type 0) where
  pub all_at : (es : List (K × V)) (i : ℕ) (e : K × V) → slice_get es i ≡ Some e → AllByRecursion (λ e. P e.0 e.1) es → P e.0 e.1
  all_at [] i e s all = absurd (none-some e s)
  all_at (d ∷ es) zero e s all = subst (λ (p : K × V). P p.0 p.1) (same_Some d e s) all.0
  all_at (d ∷ es) (suc i) e s all = all_at es i e s all.1

  pub all_value : (es : List (K × V)) (i : ℕ) (e : K × V) (v : V) → slice_get es i ≡ Some e → P e.0 v → AllByRecursion (λ e. P e.0 e.1) es → AllByRecursion (λ e. P e.0 e.1) (with_value es i v)
  all_value [] i e v s p all = tt
  all_value (d ∷ es) zero e v s p all = (subst (λ (d : K × V). P d.0 v) (sym (same_Some d e s)) p, all.1)
  all_value (d ∷ es) (suc i) e v s p all = (all.0, all_value es i e v s p all.1)

  pub all_removed : (es : List (K × V)) (i : ℕ) → AllByRecursion (λ e. P e.0 e.1) es → AllByRecursion (λ e. P e.0 e.1) (remove es i)
  all_removed [] zero all = tt
  all_removed [] (suc i) all = tt
  all_removed (d ∷ es) zero all = all.1
  all_removed (d ∷ es) (suc i) all = (all.0, all_removed es i all.1)

  -- one more of those in front
  pub taken_value : (es : List (K × V)) (i : ℕ) (e : K × V) (v : V) → slice_get es i ≡ Some e → P e.0 v → AllByRecursion (λ e. P e.0 e.1) (take i es)
      → AllByRecursion (λ e. P e.0 e.1) (take (i + 1) (with_value es i v))
  taken_value es i e v s p all = rw add-one (go es i all s) where
    go : (es : List (K × V)) (i : ℕ) → AllByRecursion (λ e. P e.0 e.1) (take i es) → slice_get es i ≡ Some e → AllByRecursion (λ e. P e.0 e.1) (take (suc i) (with_value es i v))
    go [] i all s = absurd (none-some e s)
    go (d ∷ es) zero all s = (subst (λ (d : K × V). P d.0 v) (sym (same_Some d e s)) p, tt)
    go (d ∷ es) (suc i) all s = (all.0, go es i all.1 s)

  pub taken_removed : (es : List (K × V)) (i : ℕ) → AllByRecursion (λ e. P e.0 e.1) (take i es) → AllByRecursion (λ e. P e.0 e.1) (take i (remove es i))
  taken_removed [] zero all = tt
  taken_removed [] (suc i) all = tt
  taken_removed (d ∷ es) zero all = tt
  taken_removed (d ∷ es) (suc i) all = (all.0, taken_removed es i all.1)

  pub taken_kept : (es : List (K × V)) (i : ℕ) (v : V) → AllByRecursion (λ e. P e.0 e.1) (take i es) → AllByRecursion (λ e. P e.0 e.1) (take i (with_value es i v))
  taken_kept [] i v all = all
  taken_kept (d ∷ es) zero v all = tt
  taken_kept (d ∷ es) (suc i) v all = (all.0, taken_kept es i v all.1)
