-- The connection of an id in a table by id.
use Rattle.std.proofs.Common.{◌≡◌, ℕ, zero, suc, Bool, true, false, not, cond, List, [], ◌∷◌, take, filter, slice_get, Option, Some, None, refl, ap, sym, ◌∙◌}
use Rattle.std.specs.declared.cmp.Ordering.TheVariants.{Less}
use Rattle.std.specs.Ordering.{eq_by_cmp, is_eq, ordering_reverse}
use Rattle.std.specs.FinMap.Entries.{find}
use Rattle.std.proofs.lemmas.Cmp.{tied_itself}
use Rattle.sorted_table.specs.Tables.{AreBelow, with_value, without}
use Rattle.name_queues.specs.Ids.{by_id_order, by_id_order_total}
use Rattle.name_queues.specs.Names.{kept_conn}
use Rattle.name_queues.specs.declared.ids.ConnId.{ConnId}
use Rattle.name_queues.specs.declared.connections.Conn.{Conn}

eq_itself : (who : ConnId) → eq_by_cmp by_id_order who who ≡ true
eq_itself who = ap is_eq (tied_itself by_id_order_total who)

eq_above : (a b : ConnId) → by_id_order a b ≡ Less → eq_by_cmp by_id_order b a ≡ false
eq_above a b h = ap is_eq (by_id_order_total.antisymm b a ∙ ap ordering_reverse h)

pub kept_value : (who : ConnId) (k v : Conn) (es : List (ConnId × Conn)) (i : ℕ) → slice_get es i ≡ Some (who, v) → AreBelow by_id_order (take i es) who → with_value es i k ≡ kept_conn who k es
kept_value who k v [] i e b = cc
kept_value who k v (x ∷ xs) zero e b = let s : x ≡ (who, v) = cc in rw (s, eq_itself who) refl
kept_value who k v (x ∷ xs) (suc i) e b = rw (eq_above x.0 who b.0) (ap (λ ys. x ∷ ys) (kept_value who k v xs i e b.1))

pub kept_absent : (who : ConnId) (k : Conn) (es : List (ConnId × Conn)) → find by_id_order who es ≡ None → kept_conn who k es ≡ es
kept_absent who k [] e = refl
kept_absent who k (x ∷ xs) e = elim (eq_by_cmp by_id_order who x.0) as (λ b. cond b (Some x.1) (find by_id_order who xs) ≡ None → cond b ((x.0, k) ∷ xs) (x ∷ kept_conn who k xs) ≡ x ∷ xs) [
  | true ↦ λ e. cc
  | false ↦ λ e. ap (λ ys. x ∷ ys) (kept_absent who k xs e)
] e

pub without_absent : (who : ConnId) (es : List (ConnId × Conn)) → find by_id_order who es ≡ None → without by_id_order who es ≡ es
without_absent who [] e = refl
without_absent who (x ∷ xs) e = elim (eq_by_cmp by_id_order who x.0) as (λ b. cond b (Some x.1) (find by_id_order who xs) ≡ None → cond (not b) (x ∷ without by_id_order who xs) (without by_id_order who xs) ≡ x ∷ xs) [
  | true ↦ λ e. cc
  | false ↦ λ e. ap (λ ys. x ∷ ys) (without_absent who xs e)
] e
