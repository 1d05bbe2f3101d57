-- Whether two bounds are refused.
--     both_refused          by how they lie to each other
use Rattle.std.proofs.Common.{◌≡◌, Bool, true, false, Option, Some, None, option_map, Less, Equal, Greater, refl, ◌∙◌, ap}
use Rattle.std.specs.Prelude.{◌||◌, ◌&&◌, if◌then◌else◌}
use Rattle.std.specs.declared.cmp.Ordering.{Ordering}
use Rattle.std.specs.Ordering.{is_eq, is_lt, ordering_reverse}
use Rattle.clone_values.specs.KeyTree.{KeyTree}
use Rattle.key_order.specs.KeyOrder.{key_cmp}
use Rattle.key_order.proofs.Laws.{key_cmp_total}
use Rattle.key_paths.specs.Comparing.{compared}
use Rattle.idb_keys.specs.KeyRange.{Bound, bound_at, range_between}
use Rattle.query_ranges.specs.Queries.{no_query, keys_in, bounds_exclude, leave_none, wanted_bounds, wanted_within, is_query_refused}

by_bounds : (m : Bool) (lower upper : Bound) → bounds_exclude lower upper ≡ is_query_refused m (wanted_bounds lower upper)
by_bounds m lower upper =
    elim (bounds_exclude lower upper) as (λ b. b ≡ is_query_refused m (if b then no_query else keys_in (range_between lower upper))) [
      | true ↦ refl
      | false ↦ refl
    ]

turned_round : (order : Ordering) → is_eq (ordering_reverse order) ≡ is_eq order
turned_round Less = refl
turned_round Equal = refl
turned_round Greater = refl

as_bounds : (l u : KeyTree) (lower_open upper_open : Bool) → leave_none (compared (Some u) (Some l)) (lower_open || upper_open) ≡ bounds_exclude (bound_at l lower_open) (bound_at u upper_open)
as_bounds l u lower_open upper_open =
    ap (λ b. is_lt (key_cmp u l) || (b && (lower_open || upper_open))) (ap is_eq (key_cmp_total.antisymm u l) ∙ turned_round (key_cmp l u))

pub both_refused : (m : Bool) (o p : Option KeyTree) (lower_open upper_open : Bool)
    → leave_none (compared p o) (lower_open || upper_open) ≡ is_query_refused m (wanted_within (option_map Some o) (option_map Some p) lower_open upper_open)
both_refused m None None lower_open upper_open = refl
both_refused m None (Some u) lower_open upper_open = refl
both_refused m (Some l) None lower_open upper_open = refl
both_refused m (Some l) (Some u) lower_open upper_open = as_bounds l u lower_open upper_open ∙ by_bounds m (bound_at l lower_open) (bound_at u upper_open)
