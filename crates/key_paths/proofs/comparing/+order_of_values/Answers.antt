use Rattle.std.proofs.Common.{◌≡◌, ◌≤◌, List, [], ◌∷◌, length, drop, Less, sym, ◌∙◌, ap, arith}
use Rattle.std.proofs.lemmas.List.{drop_all}
use Rattle.clone_values.specs.Tree.{Tree, trees_of}
use Rattle.key_order.specs.KeyOrder.{keys_cmp}
use Rattle.key_paths.specs.Comparing.{as_keys}
use Rattle.key_paths.proofs.comparing.+order_of_values.Goals as goal

-- the items of one list are all passed where the other has one more
ends_first : (ss ts : List Tree) (t : Tree) (rest : List Tree) → ss ≡ [] → ts ≡ t ∷ rest → keys_cmp (as_keys (trees_of ss)) (as_keys (trees_of ts)) ≡ Less
ends_first ss ts t rest e f = λ i. keys_cmp (as_keys (trees_of (e i))) (as_keys (trees_of (f i)))

pub order_of_items-returns-in-Some-at-2 : goal.order_of_items-returns-in-Some-at-2
order_of_items-returns-in-Some-at-2 t c =
    let past : length c.args.a.now ≤ c.loop-place.place = omega arith in
    let here : c.loop-place.place ≡ c.len.result = omega (arith, c.loop-place.auto.place-end) in
    sym (ends_first _ _ _ _ (drop_all _ _ past) (ap (λ n. drop n c.args.b.now) here ∙ c.in-Some-at-2.ensures.stands)) ∙ c.loop-place.invariant.order
