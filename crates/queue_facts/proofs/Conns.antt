-- The connections of a name: what is kept of each after a change.
use Rattle.std.proofs.Common.{◌≡◌, Bool, true, false, cond, List, [], ◌∷◌, Some, None, option_map, inl, inr, ◌⊎◌, refl, ap, sym, ◌∙◌}
use Rattle.std.specs.Prelude.{not}
use Rattle.std.specs.FinMap.Entries.{find, put}
use Rattle.std.specs.FinMap.Entries as entries
use Rattle.std.specs.Ordering.{eq_by_cmp, is_eq}
use Rattle.std.specs.declared.cmp.Ordering.{Ordering}
use Rattle.std.specs.declared.cmp.Ordering.TheVariants.{Less, Equal, Greater}
use Rattle.sorted_table.specs.Tables.{without}
use Rattle.name_queues.specs.Ids.{by_id_order, by_id_order_total, by_id_order_same}
use Rattle.name_queues.specs.Names.{kept_conn}
use Rattle.name_queues.specs.Moves.{told, told_conns}
use Rattle.name_queues.specs.declared.ids.ConnId.{ConnId}
use Rattle.name_queues.specs.declared.connections.Conn.{Conn}

abbrev pub ties : ConnId → ConnId → Bool
ties x y = eq_by_cmp by_id_order x y

equal : (o : Ordering) → is_eq o ≡ true → o ≡ Equal
equal Less e = cc
equal Equal e = refl
equal Greater e = cc

pub tie_same : (x y : ConnId) → ties x y ≡ true → x ≡ y
tie_same x y e = by_id_order_same x y (equal (by_id_order x y) e)

-- what is kept of one: as before, or the changed one
pub kept_find : (x who : ConnId) (k : Conn) (es : List (ConnId × Conn)) → (find by_id_order x (kept_conn who k es) ≡ find by_id_order x es) ⊎ ((x ≡ who) × (find by_id_order x (kept_conn who k es) ≡ Some k))
kept_find x who k [] = inl refl
kept_find x who k (e ∷ es) = elim (ties who e.0) as (λ b. ties who e.0 ≡ b → (find by_id_order x (cond b ((e.0, k) ∷ es) (e ∷ kept_conn who k es)) ≡ find by_id_order x (e ∷ es)) ⊎ ((x ≡ who) × (find by_id_order x (cond b ((e.0, k) ∷ es) (e ∷ kept_conn who k es)) ≡ Some k))) [
  | true ↦ λ t. elim (ties x e.0) as (λ b. ties x e.0 ≡ b → (cond b (Some k) (find by_id_order x es) ≡ cond b (Some e.1) (find by_id_order x es)) ⊎ ((x ≡ who) × (cond b (Some k) (find by_id_order x es) ≡ Some k))) [
    | true ↦ λ s. inr (tie_same x e.0 s ∙ sym (tie_same who e.0 t), refl)
    | false ↦ λ s. inl refl
  ] refl
  | false ↦ λ t. elim (ties x e.0) as (λ b. (cond b (Some e.1) (find by_id_order x (kept_conn who k es)) ≡ cond b (Some e.1) (find by_id_order x es)) ⊎ ((x ≡ who) × (cond b (Some e.1) (find by_id_order x (kept_conn who k es)) ≡ Some k))) [
    | true ↦ inl refl
    | false ↦ kept_find x who k es
  ]
] refl

pub without_find : (x who : ConnId) (es : List (ConnId × Conn)) → (find by_id_order x (without by_id_order who es) ≡ find by_id_order x es) ⊎ ((x ≡ who) × (find by_id_order x (without by_id_order who es) ≡ None))
without_find x who es =
    let at : find by_id_order x (without by_id_order who es) ≡ cond (not (ties who x)) (find by_id_order x es) None = entries.find-where_key by_id_order (λ y. not (ties who y)) x (λ y e. ap (λ z. not (ties who z)) (sym (by_id_order_same x y e))) es in
    elim (ties who x) as (λ b. ties who x ≡ b → find by_id_order x (without by_id_order who es) ≡ cond (not b) (find by_id_order x es) None → (find by_id_order x (without by_id_order who es) ≡ find by_id_order x es) ⊎ ((x ≡ who) × (find by_id_order x (without by_id_order who es) ≡ None))) [
      | true ↦ λ t h. inr (sym (tie_same who x t), h)
      | false ↦ λ t h. inl h
    ] refl at

pub put_find : (x who : ConnId) (k : Conn) (es : List (ConnId × Conn)) → (find by_id_order x (put by_id_order who k es) ≡ find by_id_order x es) ⊎ ((x ≡ who) × (find by_id_order x (put by_id_order who k es) ≡ Some k))
put_find x who k es =
    elim (ties x who) as (λ b. ties x who ≡ b → find by_id_order x (put by_id_order who k es) ≡ cond b (Some k) (find by_id_order x es) → (find by_id_order x (put by_id_order who k es) ≡ find by_id_order x es) ⊎ ((x ≡ who) × (find by_id_order x (put by_id_order who k es) ≡ Some k))) [
      | true ↦ λ t h. inr (tie_same x who t, h)
      | false ↦ λ t h. inl h
    ] refl (entries.find-put by_id_order by_id_order_total x who k es)

pub told_find : (x : ConnId) (es : List (ConnId × Conn)) → find by_id_order x (told_conns es) ≡ option_map told (find by_id_order x es)
told_find x [] = refl
told_find x (e ∷ es) = elim (ties x e.0) as (λ b. cond b (Some (told e.1)) (find by_id_order x (told_conns es)) ≡ option_map told (cond b (Some e.1) (find by_id_order x es))) [ true ↦ refl | false ↦ told_find x es ]
